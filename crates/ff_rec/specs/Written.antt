-- What is written for records, read again.
use Rattle.std.specs.Prelude.{◌≡◌, List}
use Rattle.std.specs.List.{AllByRecursion}
use Rattle.ff_rec.specs.Lines.{Rec, IsRec, records, text}

-- what is written for records is read as these records
abbrev pub WrittenIsRead : Type 0
WrittenIsRead = (xs : List Rec) → AllByRecursion IsRec xs → records (text xs) ≡ xs
