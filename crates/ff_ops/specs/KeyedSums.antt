-- What the folds by key send and reject for a whole list.
use Rattle.std.specs.Prelude.{◌≡◌, ℕ, ◌||◌, List, [], ◌∷◌, map, pos, is_none, is_some}
use Rattle.std.specs.List.{filter}
use Rattle.ff_rec.specs.Fields.{field_at, having, lacking, contents}
use Rattle.ff_rec.specs.Lines.{Rec}
use Rattle.ff_rec.specs.Number.{printed}
use Rattle.ff_node.specs.Behaviour.{node, node_rejected}
use Rattle.ff_ops.specs.Entries.{Entry}
use Rattle.ff_ops.specs.FoldSums.{count_of, total_in}
use Rattle.ff_ops.specs.KeyedOps.{keyed_node}
use Rattle.ff_ops.specs.Rows.{number_in}
use Rattle.ff_ops.specs.declared.keyed_op.KeyedOp.TheVariants.{TallyBy, TotalBy}

-- a content, and the number of the records that have it in field `f`
abbrev pub counted_content : ℕ → List Rec → List ℕ → Rec
counted_content f xs content = content ∷ printed (pos (count_of (having f content xs))) ∷ []

-- `tallyby` sends the contents in byte order, each with the count of its records
abbrev pub TallybyIsCounts : Type 0
TallybyIsCounts = (f : ℕ) (entries : List (Entry ℕ)) (xs : List Rec)
    → node keyed_node (TallyBy f entries) xs ≡ map (counted_content f xs) (contents f xs)

-- and rejects the records without the field
abbrev pub TallybyRejectsLacking : Type 0
TallybyRejectsLacking = (f : ℕ) (entries : List (Entry ℕ)) (xs : List Rec)
    → node_rejected keyed_node (TallyBy f entries) xs ≡ lacking f xs

-- the records with a number in field `g`
abbrev pub numbered : ℕ → List Rec → List Rec
numbered g xs = filter (λ x. is_some (number_in g x)) xs

-- a content of field `f`, and the total of field `g` over the records that have it
abbrev pub totalled_content : ℕ → ℕ → List Rec → List ℕ → Rec
totalled_content f g xs content = content ∷ printed (total_in g (having f content xs)) ∷ []

-- `totalby` sends the contents of the records with a number in byte order, each with the total of its records
abbrev pub TotalbyIsTotals : Type 0
TotalbyIsTotals = (f g : ℕ) (entries : List (Entry (ℕ × ℕ))) (xs : List Rec)
    → node keyed_node (TotalBy f g entries) xs ≡ map (totalled_content f g (numbered g xs)) (contents f (numbered g xs))

-- and rejects the records without the field or without a number
abbrev pub TotalbyRejectsLacking : Type 0
TotalbyRejectsLacking = (f g : ℕ) (entries : List (Entry (ℕ × ℕ))) (xs : List Rec)
    → node_rejected keyed_node (TotalBy f g entries) xs ≡ filter (λ x. is_none (field_at f x) || is_none (number_in g x)) xs
