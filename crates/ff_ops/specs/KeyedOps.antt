-- The folds by key: they send a record for each content of a field, in byte order. Each by its row.
use Rattle.std.specs.Prelude.{ℕ, ◌+◌, ◌-◌, ◌^◌, false, min, List, [], ◌∷◌, map, Option, None, Some, ℤ, pos, ◌-ℤ◌}
use Rattle.ff_rec.specs.Fields.{field_at}
use Rattle.ff_rec.specs.Lines.{Rec}
use Rattle.ff_rec.specs.Number.{printed}
use Rattle.ff_node.specs.Behaviour.{Behaviour}
use Rattle.ff_node.specs.declared.class.Class.{Class}
use Rattle.ff_node.specs.declared.class.Class.TheVariants.{Keyed}
use Rattle.ff_ops.specs.Entries.{Entry, changed}
use Rattle.ff_ops.specs.FoldOps.{capped_sum, above, below}
use Rattle.ff_ops.specs.Rows.{number_in}
use Rattle.ff_ops.specs.declared.keyed_op.KeyedOp.{KeyedOp}
use Rattle.ff_ops.specs.declared.keyed_op.KeyedOp.TheVariants.{TallyBy, TotalBy}

-- a count up to 2^64 - 1, one more
abbrev pub counted_more : ℕ → ℕ
counted_more n = min (n + 1) (2 ^ 64 - 1)

-- the sums of the numbers above 0 and of the absolute values of those below, with one number more
abbrev pub summed : ℤ → ℕ × ℕ → ℕ × ℕ
summed x sums = (capped_sum sums.0 (above x), capped_sum sums.1 (below x))

-- the total of two sums
abbrev pub total_of : ℕ × ℕ → ℤ
total_of sums = pos (min sums.0 (2 ^ 126)) -ℤ pos (min sums.1 (2 ^ 126))

-- the state after a record, or none where it is rejected
abbrev pub tallied : Option (List ℕ) → List (Entry ℕ) → Option (List (Entry ℕ))
tallied None entries = None
tallied (Some key) entries = Some (changed 0 key counted_more entries)

abbrev pub totalled : Option (List ℕ) → Option ℤ → List (Entry (ℕ × ℕ)) → Option (List (Entry (ℕ × ℕ)))
totalled None x entries = None
totalled (Some key) None entries = None
totalled (Some key) (Some x) entries = Some (changed (0, 0) key (summed x) entries)

-- the entries after a record; a rejected one leaves them
abbrev pub entries_or : {V : Type 0} → List (Entry V) → Option (List (Entry V)) → List (Entry V)
entries_or entries None = entries
entries_or entries (Some after) = after

-- a record for which nothing is decided is rejected as it came
abbrev pub rejects_where : {V : Type 0} → Option (List (Entry V)) → Rec → List Rec
rejects_where None r = r ∷ []
rejects_where (Some after) r = []

abbrev pub keyed_next : KeyedOp → Rec → KeyedOp
keyed_next (TallyBy f entries) r = TallyBy f (entries_or entries (tallied (field_at f r) entries))
keyed_next (TotalBy f g entries) r = TotalBy f g (entries_or entries (totalled (field_at f r) (number_in g r) entries))

abbrev pub keyed_rejects : KeyedOp → Rec → List Rec
keyed_rejects (TallyBy f entries) r = rejects_where (tallied (field_at f r) entries) r
keyed_rejects (TotalBy f g entries) r = rejects_where (totalled (field_at f r) (number_in g r) entries) r

-- a record of two fields for each entry, in their order
abbrev pub keyed_last : KeyedOp → List Rec
keyed_last (TallyBy f entries) = map (λ e. e.0 ∷ printed (pos e.1) ∷ []) entries
keyed_last (TotalBy f g entries) = map (λ e. e.0 ∷ printed (total_of e.1) ∷ []) entries

abbrev pub keyed_opening : KeyedOp → KeyedOp
keyed_opening (TallyBy f entries) = TallyBy f []
keyed_opening (TotalBy f g entries) = TotalBy f g []

abbrev pub keyed_class : KeyedOp → Class
keyed_class (TallyBy f entries) = Keyed f
keyed_class (TotalBy f g entries) = Keyed f

abbrev pub keyed_node : Behaviour KeyedOp
keyed_node = record {
  class = keyed_class;
  opening = keyed_opening;
  sends = λ o r. [];
  rejects = keyed_rejects;
  next = keyed_next;
  ends = λ o r. false;
  last = keyed_last;
  last_rejects = λ o. [];
}
