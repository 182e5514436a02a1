-- Every operation as one of the five families, and a family as a node.
use Rattle.std.specs.Prelude.{Bool, List, [], None, pos}
use Rattle.ff_rec.specs.Lines.{Rec}
use Rattle.ff_node.specs.Behaviour.{Behaviour}
use Rattle.ff_node.specs.declared.class.Class.{Class}
use Rattle.ff_ops.specs.Given.{number_at, count_at, cmp_at, text_at}
use Rattle.ff_ops.specs.NumberOps.{number_node}
use Rattle.ff_ops.specs.FieldOps.{field_node}
use Rattle.ff_ops.specs.OrderedOps.{ordered_node}
use Rattle.ff_ops.specs.FoldOps.{fold_node}
use Rattle.ff_ops.specs.KeyedOps.{keyed_node}
use Rattle.ff_ops.specs.declared.arg.Arg.{Arg}
use Rattle.ff_ops.specs.declared.row.Row.{Row}
use Rattle.ff_ops.specs.declared.row.Row.TheVariants as row
use Rattle.ff_ops.specs.declared.family.Family.{Family}
use Rattle.ff_ops.specs.declared.family.Family.TheVariants.{Number, Field, Ordered, Fold, Keyed}
use Rattle.ff_ops.specs.declared.number_op.NumberRule.{NumberRule}
use Rattle.ff_ops.specs.declared.number_op.NumberRule.TheVariants as rule
use Rattle.ff_ops.specs.declared.field_op.FieldOp.TheVariants as field
use Rattle.ff_ops.specs.declared.ordered_op.OrderedOp.TheVariants as ordered
use Rattle.ff_ops.specs.declared.fold_op.FoldOp.TheVariants as fold
use Rattle.ff_ops.specs.declared.keyed_op.KeyedOp.TheVariants as keyed

-- an operation on the number in the field that the first argument tells
abbrev pub on_number : List Arg → NumberRule → Family
on_number args does = Number (record { field = count_at args 0; rule = does })

-- the operation of a row with its arguments, before its first record
abbrev pub family_of : Row → List Arg → Family
family_of row.Id args = Field field.Id
family_of row.Add args = on_number args (rule.Add (number_at args 1))
family_of row.Sub args = on_number args (rule.Sub (number_at args 1))
family_of row.Mul args = on_number args (rule.Mul (number_at args 1))
family_of row.Div args = on_number args (rule.Div (number_at args 1))
family_of row.Rem args = on_number args (rule.Rem (number_at args 1))
family_of row.Neg args = on_number args rule.Neg
family_of row.Set args = Field (field.Set (count_at args 0) (text_at args 1))
family_of row.Keep args = Field (field.Keep (count_at args 0))
family_of row.Drop args = Field (field.Drop (count_at args 0))
family_of row.Swap args = Field (field.Swap (count_at args 0) (count_at args 1))
family_of row.Copy args = Field (field.Copy (count_at args 0))
family_of row.Len args = Field (field.Len (count_at args 0))
family_of row.Upper args = Field (field.Upper (count_at args 0))
family_of row.Lower args = Field (field.Lower (count_at args 0))
family_of row.If args = on_number args (rule.If (cmp_at args 1) (number_at args 2))
family_of row.IfEq args = Field (field.IfEq (count_at args 0) (text_at args 1))
family_of row.Has args = Field (field.Has (count_at args 0) (text_at args 1))
family_of row.Words args = Field (field.Words (count_at args 0))
family_of row.Dup args = Field (field.Dup (count_at args 0))
family_of row.Halve args = on_number args rule.Halve
family_of row.Plus args = on_number args (rule.Plus (count_at args 1))
family_of row.Number args = Ordered (ordered.Number 1)
family_of row.RunSum args = Ordered (ordered.RunSum (count_at args 0) (pos 0))
family_of row.Delta args = Ordered (ordered.Delta (count_at args 0) (pos 0))
family_of row.Take args = Ordered (ordered.Take (count_at args 0) (count_at args 0))
family_of row.Skip args = Ordered (ordered.Skip (count_at args 0) (count_at args 0))
family_of row.Uniq args = Ordered (ordered.Uniq (count_at args 0) None)
family_of row.Tally args = Fold (fold.Tally 0)
family_of row.Total args = Fold (fold.Total (count_at args 0) 0 0)
family_of row.Min args = Fold (fold.Min (count_at args 0) None)
family_of row.Max args = Fold (fold.Max (count_at args 0) None)
family_of row.TallyBy args = Keyed (keyed.TallyBy (count_at args 0) [])
family_of row.TotalBy args = Keyed (keyed.TotalBy (count_at args 0) (count_at args 1) [])

-- what each family is as a node
abbrev pub family_class : Family → Class
family_class (Number o) = number_node.class o
family_class (Field o) = field_node.class o
family_class (Ordered o) = ordered_node.class o
family_class (Fold o) = fold_node.class o
family_class (Keyed o) = keyed_node.class o

abbrev pub family_opening : Family → Family
family_opening (Number o) = Number (number_node.opening o)
family_opening (Field o) = Field (field_node.opening o)
family_opening (Ordered o) = Ordered (ordered_node.opening o)
family_opening (Fold o) = Fold (fold_node.opening o)
family_opening (Keyed o) = Keyed (keyed_node.opening o)

abbrev pub family_sends : Family → Rec → List Rec
family_sends (Number o) r = number_node.sends o r
family_sends (Field o) r = field_node.sends o r
family_sends (Ordered o) r = ordered_node.sends o r
family_sends (Fold o) r = fold_node.sends o r
family_sends (Keyed o) r = keyed_node.sends o r

abbrev pub family_rejects : Family → Rec → List Rec
family_rejects (Number o) r = number_node.rejects o r
family_rejects (Field o) r = field_node.rejects o r
family_rejects (Ordered o) r = ordered_node.rejects o r
family_rejects (Fold o) r = fold_node.rejects o r
family_rejects (Keyed o) r = keyed_node.rejects o r

abbrev pub family_next : Family → Rec → Family
family_next (Number o) r = Number (number_node.next o r)
family_next (Field o) r = Field (field_node.next o r)
family_next (Ordered o) r = Ordered (ordered_node.next o r)
family_next (Fold o) r = Fold (fold_node.next o r)
family_next (Keyed o) r = Keyed (keyed_node.next o r)

abbrev pub family_ends : Family → Rec → Bool
family_ends (Number o) r = number_node.ends o r
family_ends (Field o) r = field_node.ends o r
family_ends (Ordered o) r = ordered_node.ends o r
family_ends (Fold o) r = fold_node.ends o r
family_ends (Keyed o) r = keyed_node.ends o r

abbrev pub family_last : Family → List Rec
family_last (Number o) = number_node.last o
family_last (Field o) = field_node.last o
family_last (Ordered o) = ordered_node.last o
family_last (Fold o) = fold_node.last o
family_last (Keyed o) = keyed_node.last o

abbrev pub family_last_rejects : Family → List Rec
family_last_rejects (Number o) = number_node.last_rejects o
family_last_rejects (Field o) = field_node.last_rejects o
family_last_rejects (Ordered o) = ordered_node.last_rejects o
family_last_rejects (Fold o) = fold_node.last_rejects o
family_last_rejects (Keyed o) = keyed_node.last_rejects o

abbrev pub family_node : Behaviour Family
family_node = record {
  class = family_class;
  opening = family_opening;
  sends = family_sends;
  rejects = family_rejects;
  next = family_next;
  ends = family_ends;
  last = family_last;
  last_rejects = family_last_rejects;
}
