-- What is written of a store.
use Rattle.std.specs.Prelude.{ℕ, List, [], ◌∷◌, ◌++◌, codes}
use Rattle.std.specs.List.{flat_map}
use Rattle.ff_rec.specs.Number.{printed}
use Rattle.ff_mdf.specs.Stores.{Entry}
use Rattle.ff_mdf.specs.declared.value.Value.{Value}
use Rattle.ff_mdf.specs.declared.value.Value.TheVariants.{Num, Bad}

-- a value as it is written
abbrev pub value_text : Value → List ℕ
value_text (Num n) = printed n
value_text Bad = codes "bad"

-- a name and its value as a line, with a tab between them
abbrev pub entry_line : Entry → List ℕ
entry_line e = e.0 ++ 9 ∷ [] ++ value_text e.1 ++ 10 ∷ []

-- a line for each name
abbrev pub store_text : List Entry → List ℕ
store_text entries = flat_map entry_line entries
