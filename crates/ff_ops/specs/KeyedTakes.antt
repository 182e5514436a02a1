-- What a fold by key does with a record and with an entry.
use Rattle.std.specs.Prelude.{◌≡◌, ℕ, Bool, true, false, [], ◌∷◌, pos}
use Rattle.ff_rec.specs.Lines.{Rec}
use Rattle.ff_rec.specs.Number.{printed}
use Rattle.ff_ops.specs.Entries.{Entry}
use Rattle.ff_ops.specs.KeyedOps.{total_of, keyed_rejects}
use Rattle.ff_ops.specs.declared.keyed_op.KeyedOp.{KeyedOp}

-- a record is taken into the state, or else it is rejected
abbrev pub TakesOrRejects : KeyedOp → Rec → Bool → Type 0
TakesOrRejects o r true = keyed_rejects o r ≡ []
TakesOrRejects o r false = keyed_rejects o r ≡ r ∷ []

-- the record of a key and its count, and that of a key and its total
abbrev pub tally_record : Entry ℕ → Rec
tally_record e = e.0 ∷ printed (pos e.1) ∷ []

abbrev pub total_record : Entry (ℕ × ℕ) → Rec
total_record e = e.0 ∷ printed (total_of e.1) ∷ []
