-- An entry of a store, as the code has it.
use Rattle.ff_mdf.specs.declared.store.Stored.{Stored}
use Rattle.ff_mdf.specs.Stores.{Entry}

-- its name and its value
abbrev pub entry_of : Stored → Entry
entry_of e = (e.name, e.value)
