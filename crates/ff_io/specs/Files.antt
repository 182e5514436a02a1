-- What files hold by name, where they tell it, and which of their answers are faults.
use Rattle.std.specs.Prelude.{◌≡◌, ℕ, ◌<◌, List, Option, None, Some, length, Result, Ok, Err}
use Rattle.ff_io.specs.declared.files.FileFault.{FileFault}
use Rattle.ff_io.specs.declared.files.FileFault.TheVariants.{Failed as LoadFailed, TooLong, NoMemory as LoadNoMemory}
use Rattle.ff_io.specs.declared.files.StoreFault.{StoreFault}
use Rattle.ff_io.specs.declared.files.StoreFault.TheVariants.{Failed as StoreFailed, NoMemory as StoreNoMemory}

-- what each name holds, by the bytes of the name; none where there is no such file
abbrev pub Holdings : Type 0
Holdings = List ℕ → Option (List ℕ)

-- this name holds these bytes, where the files tell that
abbrev pub HoldsBytes : Option Holdings → List ℕ → List ℕ → Type 0
HoldsBytes None name bytes = Unit {0}
HoldsBytes (Some holds) name bytes = holds name ≡ Some bytes

-- this name holds more than so many bytes, where the files tell that
abbrev pub HoldsMore : Option Holdings → List ℕ → ℕ → Type 0
HoldsMore None name limit = Unit {0}
HoldsMore (Some holds) name limit = (bytes : List ℕ) × (holds name ≡ Some bytes) × (limit < length bytes)

-- every name holds what it held, where the files told that
abbrev pub KeepsAll : Option Holdings → Option Holdings → Type 0
KeepsAll None now = Unit {0}
KeepsAll (Some held) None = ⊥
KeepsAll (Some held) (Some holds) = (name : List ℕ) → holds name ≡ held name

-- every name but this one holds what it held, where the files told that
abbrev pub KeepsOthers : Option Holdings → Option Holdings → List ℕ → Type 0
KeepsOthers None now name = Unit {0}
KeepsOthers (Some held) None name = ⊥
KeepsOthers (Some held) (Some holds) name = (other : List ℕ) → ¬ (other ≡ name) → holds other ≡ held other

-- a load as the count of faults sees it: an error where the files failed, and at no other answer
abbrev pub load_fault : {A : Type 0} → Result A FileFault → Result (Unit {0}) (Unit {0})
load_fault (Ok content) = Ok tt
load_fault (Err LoadFailed) = Err tt
load_fault (Err TooLong) = Ok tt
load_fault (Err LoadNoMemory) = Ok tt

-- a store as the count of faults sees it
abbrev pub store_fault : {A : Type 0} → Result A StoreFault → Result (Unit {0}) (Unit {0})
store_fault (Ok a) = Ok tt
store_fault (Err StoreFailed) = Err tt
store_fault (Err StoreNoMemory) = Ok tt
