-- Laws of what was taken at several ins, with one message more at one of them.
use Rattle.std.proofs.Common.{◌≡◌, ℕ, zero, suc, ◌<◌, List, [], ◌∷◌, ◌++◌, length, replicate, refl, arith, get_or-set_same, get_or-set_other, length-set, inl, inr}
use Rattle.ff_rec.specs.Streams.{at, added}
use Rattle.ff_rec.specs.declared.msg.Msg.TheVariants.{Item, Mark, Pick, Eos, Abort}
use Rattle.ff_node.specs.Runs.{Message}
use Rattle.ff_unit.specs.Units.{HasAbort, TookAbort}

pub at-added : (lists : List (List Message)) (k : ℕ) (m : Message) → k < length lists → at (added lists k m) k ≡ at lists k ++ m ∷ []
at-added lists k m within = get_or-set_same lists k (at lists k ++ m ∷ []) [] within

pub at-added_other : (lists : List (List Message)) (k j : ℕ) (m : Message) → (j ≡ k → ⊥) → at (added lists k m) j ≡ at lists j
at-added_other lists k j m other = get_or-set_other lists k j (at lists k ++ m ∷ []) [] other

pub length-added : (lists : List (List Message)) (k : ℕ) (m : Message) → length (added lists k m) ≡ length lists
length-added lists k m = length-set lists k (at lists k ++ m ∷ [])

-- at ports where nothing passed
pub at-none : (n j : ℕ) → at (replicate {A = List Message} n []) j ≡ []
at-none zero j = refl
at-none (suc n) zero = refl
at-none (suc n) (suc j) = at-none n j

-- an Abort that was taken stays
HasAbort-append : (ms : List Message) (m : Message) → HasAbort ms → HasAbort (ms ++ m ∷ [])
HasAbort-append [] m h = absurd h
HasAbort-append (Item x ∷ ms) m h = HasAbort-append ms m h
HasAbort-append (Mark ∷ ms) m h = HasAbort-append ms m h
HasAbort-append (Pick w ∷ ms) m h = HasAbort-append ms m h
HasAbort-append (Eos ∷ ms) m h = HasAbort-append ms m h
HasAbort-append (Abort ∷ ms) m h = tt

pub TookAbort-added : (lists : List (List Message)) (k : ℕ) (m : Message) → TookAbort lists → TookAbort (added lists k m)
TookAbort-added [] k m h = absurd h
TookAbort-added (ms ∷ mss) zero m (inl here) = inl (HasAbort-append ms m here)
TookAbort-added (ms ∷ mss) zero m (inr rest) = inr rest
TookAbort-added (ms ∷ mss) (suc k) m (inl here) = inl here
TookAbort-added (ms ∷ mss) (suc k) m (inr rest) = inr (TookAbort-added mss k m rest)

-- an Abort that is taken
HasAbort-push : (ms : List Message) → HasAbort (ms ++ Abort ∷ [])
HasAbort-push [] = tt
HasAbort-push (Item x ∷ ms) = HasAbort-push ms
HasAbort-push (Mark ∷ ms) = HasAbort-push ms
HasAbort-push (Pick w ∷ ms) = HasAbort-push ms
HasAbort-push (Eos ∷ ms) = HasAbort-push ms
HasAbort-push (Abort ∷ ms) = tt

pub TookAbort-abort : (lists : List (List Message)) (k : ℕ) → k < length lists → TookAbort (added lists k Abort)
TookAbort-abort [] k within = absurd (omega (arith, within))
TookAbort-abort (ms ∷ mss) zero within = inl (HasAbort-push ms)
TookAbort-abort (ms ∷ mss) (suc k) within = inr (TookAbort-abort mss k (omega (arith, within)))
