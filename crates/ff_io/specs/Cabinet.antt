-- Files in memory, of which every answer is known.
use Rattle.std.specs.Prelude.{◌≡◌, ℕ, ◌||◌, List, [], ◌∷◌, map, None, Some, is_none, is_err, if◌then◌else◌, Result, Ok, Err, Vec, String, string_bytes}
use Rattle.std.specs.Str.{bytes_eq}
use Rattle.ff_io.specs.Faults.{more, count_after}
use Rattle.ff_io.specs.Files.{Holdings, load_fault, store_fault}
use Rattle.ff_io.specs.Memory.{fails_next}
use Rattle.ff_io.specs.declared.files.FileFault.{FileFault}
use Rattle.ff_io.specs.declared.files.StoreFault.{StoreFault}

-- the bytes of a file's name, and those that it holds
abbrev pub Entry : Type 0
Entry = List ℕ × List ℕ

-- files in memory, the numbers of the calls that fail, and the calls and faults so far
pub record Cabinet : Type 0 where
  pub files : List Entry
  pub fail : List ℕ
  pub calls : ℕ
  pub faults : ℕ

-- the entries of a list of names and contents
abbrev pub entries_of : {Y Z : Type 0} → List (String Y × Vec ℕ Z) → List Entry
entries_of list = map (λ file. (string_bytes file.0, file.1.items)) list

-- what a name holds: the bytes of the first entry with this name
abbrev pub held : List Entry → Holdings
held [] name = None
held (entry ∷ entries) name = if bytes_eq entry.0 name then Some entry.1 else held entries name

-- the entries after a store: the first one with this name holds these bytes; a new name comes last
abbrev pub with_file : List Entry → List ℕ → List ℕ → List Entry
with_file [] name bytes = (name, bytes) ∷ []
with_file (entry ∷ entries) name bytes = if bytes_eq entry.0 name then (name, bytes) ∷ entries else entry ∷ with_file entries name bytes

-- files that were not called yet
abbrev pub opened_cabinet : List Entry → List ℕ → Cabinet
opened_cabinet files fail = record { files = files; fail = fail; calls = 0; faults = 0 }

-- after a call, with the files that there are then
abbrev pub called : {A E : Type 0} → Cabinet → Result A E → List Entry → Cabinet
called s answer files = record { files = files; fail = s.fail; calls = more s.calls; faults = count_after s.faults answer }

-- what a load answers and leaves: it fails where that call is to fail, or there is no such file
pub record CabinetLoads {A : Type 0} (s : Cabinet) (name : List ℕ) (answer : Result A FileFault) (t : Cabinet) : Type 0 where
  pub fails : is_err (load_fault answer) ≡ (fails_next s.fail s.calls || is_none (held s.files name))
  pub leaves : t ≡ called s (load_fault answer) s.files

-- the files after a store with this answer: after a refusal they are as before
abbrev pub files_after : {A : Type 0} → List Entry → List ℕ → List ℕ → Result A StoreFault → List Entry
files_after files name bytes (Ok a) = with_file files name bytes
files_after files name bytes (Err e) = files

-- what a store answers and leaves: it fails where that call is to fail
pub record CabinetStores {A : Type 0} (s : Cabinet) (name bytes : List ℕ) (answer : Result A StoreFault) (t : Cabinet) : Type 0 where
  pub fails : is_err (store_fault answer) ≡ fails_next s.fail s.calls
  pub leaves : t ≡ called s (store_fault answer) (files_after s.files name bytes answer)
