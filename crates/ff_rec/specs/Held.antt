-- How a record keeps its bytes: a few in place, many in a heap block.
use Rattle.ff_rec.specs.declared.bytes.Held.{Held}
use Rattle.ff_rec.specs.declared.bytes.Held.TheVariants.{Few, Many}
use Rattle.ff_rec.specs.Stored.{Stored, stored_as}

-- the bytes and the number of fields, whichever way they are kept
abbrev pub stored : Held → Stored
stored (Few count short) = stored_as short count
stored (Many count block) = stored_as block.items count
