-- The table of operations: what names each row in a text, and what its arguments are.
use Rattle.std.specs.Prelude.{◌≡◌, ℕ, List, [], ◌∷◌, Option, IsSomeAnd, find, codes}
use Rattle.ff_rec.specs.Fields.{same_bytes}
use Rattle.ff_ops.specs.declared.arg.ArgKind.{ArgKind}
use Rattle.ff_ops.specs.declared.arg.ArgKind.TheVariants.{Field, Num, NonZero, Count, Cmp, Text}
use Rattle.ff_ops.specs.declared.row.Row.{Row}
use Rattle.ff_ops.specs.declared.row.Row.TheVariants as row
use Rattle.ff_ops.specs.declared.row.TheConstants.{ROWS}

-- the word that names a row in a text, and what its arguments are, in their order
abbrev pub signature_of : Row → List ℕ × List ArgKind
signature_of row.Id = (codes "id", [])
signature_of row.Add = (codes "add", Field ∷ Num ∷ [])
signature_of row.Sub = (codes "sub", Field ∷ Num ∷ [])
signature_of row.Mul = (codes "mul", Field ∷ Num ∷ [])
signature_of row.Div = (codes "div", Field ∷ NonZero ∷ [])
signature_of row.Rem = (codes "rem", Field ∷ NonZero ∷ [])
signature_of row.Neg = (codes "neg", Field ∷ [])
signature_of row.Set = (codes "set", Field ∷ Text ∷ [])
signature_of row.Keep = (codes "keep", Field ∷ [])
signature_of row.Drop = (codes "drop", Field ∷ [])
signature_of row.Swap = (codes "swap", Field ∷ Field ∷ [])
signature_of row.Copy = (codes "copy", Field ∷ [])
signature_of row.Len = (codes "len", Field ∷ [])
signature_of row.Upper = (codes "upper", Field ∷ [])
signature_of row.Lower = (codes "lower", Field ∷ [])
signature_of row.If = (codes "if", Field ∷ Cmp ∷ Num ∷ [])
signature_of row.IfEq = (codes "ifeq", Field ∷ Text ∷ [])
signature_of row.Has = (codes "has", Field ∷ Text ∷ [])
signature_of row.Words = (codes "words", Field ∷ [])
signature_of row.Dup = (codes "dup", Count 1 64 ∷ [])
signature_of row.Halve = (codes "halve", Field ∷ [])
signature_of row.Plus = (codes "plus", Field ∷ Field ∷ [])
signature_of row.Number = (codes "number", [])
signature_of row.RunSum = (codes "runsum", Field ∷ [])
signature_of row.Delta = (codes "delta", Field ∷ [])
signature_of row.Take = (codes "take", Count 1 1000000000 ∷ [])
signature_of row.Skip = (codes "skip", Count 0 1000000000 ∷ [])
signature_of row.Uniq = (codes "uniq", Field ∷ [])
signature_of row.Tally = (codes "tally", [])
signature_of row.Total = (codes "total", Field ∷ [])
signature_of row.Min = (codes "min", Field ∷ [])
signature_of row.Max = (codes "max", Field ∷ [])
signature_of row.TallyBy = (codes "tallyby", Field ∷ [])
signature_of row.TotalBy = (codes "totalby", Field ∷ Field ∷ [])

abbrev pub name_of : Row → List ℕ
name_of r = (signature_of r).0

abbrev pub kinds_of : Row → List ArgKind
kinds_of r = (signature_of r).1

-- the row with a name
abbrev pub row_named : List ℕ → Option Row
row_named name = find (λ r. same_bytes (name_of r) name) ROWS

-- a row has this name, and its arguments are of these kinds
abbrev pub HasKinds : List ℕ → List ArgKind → Type 0
HasKinds name kinds = IsSomeAnd (row_named name) (λ r. kinds ≡ kinds_of r)
