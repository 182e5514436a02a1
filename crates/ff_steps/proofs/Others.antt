-- What a step of one party leaves of the others, and where a party may do nothing.
use Rattle.std.proofs.Common.{◌≡◌, ◌≢◌, inl, inr, ℕ, zero, suc, ◌+◌, ◌<◌, Bool, true, false, List, [], ◌∷◌, ◌++◌, length, map, slice_index, slice_index_or, slice_set, refl, ap, ◌∙◌, subst, arith}
use Rattle.ff_node.specs.Runs.{Act, Took, Gave, Refused, Idle, Told, Handed}
use Rattle.ff_port.specs.declared.answers.Step.{Step}
use Rattle.ff_port.specs.declared.answers.Step.TheVariants.{Waits}
use Rattle.ff_unit.specs.Units.{Doing, Answers, WaitsOnly, idle_answer}
use Rattle.ff_steps.specs.Core.{CoreState}
use Rattle.ff_steps.specs.Events.{UnitIdles, Stalls, known_at}
use Rattle.ff_steps.specs.Moves.{IdlesOnly}
use Rattle.ff_steps.specs.Parties.{Party, Feeder, Drainer, AsUnit, AsFeeder, AsDrainer}

-- all parties but the unit that stepped
pub others-unit : {U : Type 0} (us : List U) (rest : List (Party U)) (p q : ℕ) (v : U) (d : Party U) → q ≢ p
    → slice_index_or (map (λ u. AsUnit u) (slice_set us p v) ++ rest) q d ≡ slice_index_or (map (λ u. AsUnit u) us ++ rest) q d
others-unit [] rest p q v d ne = refl
others-unit (u ∷ us) rest zero zero v d ne = absurd (ne refl)
others-unit (u ∷ us) rest zero (suc q) v d ne = refl
others-unit (u ∷ us) rest (suc p) zero v d ne = refl
others-unit (u ∷ us) rest (suc p) (suc q) v d ne = others-unit us rest p q v d (λ e. ne (ap suc e))

-- all parties but the feeder
pub others-feeder : {U : Type 0} (us : List U) (x y : Party U) (rest : List (Party U)) (q : ℕ) (d : Party U) → q ≢ length us
    → slice_index_or (map (λ u. AsUnit u) us ++ x ∷ rest) q d ≡ slice_index_or (map (λ u. AsUnit u) us ++ y ∷ rest) q d
others-feeder [] x y rest zero d ne = absurd (ne refl)
others-feeder [] x y rest (suc q) d ne = refl
others-feeder (u ∷ us) x y rest zero d ne = refl
others-feeder (u ∷ us) x y rest (suc q) d ne = others-feeder us x y rest q d (λ e. ne (ap suc e))

-- all parties but the drainer
pub others-drainer : {U : Type 0} (us : List U) (f : Party U) (x y : Party U) (q : ℕ) → q < length us + 2 → q ≢ suc (length us)
    → slice_index_or (map (λ u. AsUnit u) us ++ f ∷ x ∷ []) q x ≡ slice_index_or (map (λ u. AsUnit u) us ++ f ∷ y ∷ []) q y
others-drainer [] f x y zero low ne = refl
others-drainer [] f x y (suc q) low ne = absurd (omega (arith, low, ne))
others-drainer (u ∷ us) f x y zero low ne = refl
others-drainer (u ∷ us) f x y (suc q) low ne = others-drainer us f x y q (omega (arith, low)) (λ e. ne (ap suc e))

module _ {U : Type 0} (b : Doing U) (c c' : CoreState U) (p : ℕ) where
  -- a unit that does nothing has ended, or waits
  pub Stalls-unit : (u v : U) (act : Act) (answer : Step) → Answers b v act answer → WaitsOnly b u answer (known_at c p) (known_at c' p)
      → Stalls b c c' p (AsUnit u) (AsUnit v) act
  Stalls-unit u v (Took k m) answer is waits = tt
  Stalls-unit u v (Gave k m) answer is waits = tt
  Stalls-unit u v Refused answer is waits = tt
  Stalls-unit u v Idle answer is waits = idles (b.done v) refl
    where
      idles : (done : Bool) → b.done v ≡ done → UnitIdles b c c' p u done
      idles true e = tt
      idles false e =
          let waited : answer ≡ Waits = is ∙ ap (λ x. idle_answer x (b.fin v)) e in
          subst (λ x. WaitsOnly b u x (known_at c p) (known_at c' p)) waited waits
  Stalls-unit u v Told answer is waits = is
  Stalls-unit u v (Handed x) answer is waits = is

  -- a feeder or a drainer that does nothing has ended, or there is nothing for it to do
  pub Stalls-feeder : (f g : Feeder) (act : Act) (nothing : Type 0) → (nothing → slice_index (known_at c p).rooms 0 ≡ 0) → IdlesOnly f.done nothing act
      → Stalls b c c' p (AsFeeder f) (AsFeeder g) act
  Stalls-feeder f g (Took k m) nothing full h = tt
  Stalls-feeder f g (Gave k m) nothing full h = tt
  Stalls-feeder f g Refused nothing full h = tt
  Stalls-feeder f g Idle nothing full (inl h) = inl h
  Stalls-feeder f g Idle nothing full (inr h) = inr (full h)
  Stalls-feeder f g Told nothing full h = h
  Stalls-feeder f g (Handed x) nothing full h = h

  pub Stalls-drainer : (d e : Drainer) (act : Act) (nothing : Type 0) → (nothing → slice_index (known_at c p).knowns 0 ≡ 0) → IdlesOnly d.done nothing act
      → Stalls b c c' p (AsDrainer d) (AsDrainer e) act
  Stalls-drainer d e (Took k m) nothing empty h = tt
  Stalls-drainer d e (Gave k m) nothing empty h = tt
  Stalls-drainer d e Refused nothing empty h = tt
  Stalls-drainer d e Idle nothing empty (inl h) = inl h
  Stalls-drainer d e Idle nothing empty (inr h) = inr (empty h)
  Stalls-drainer d e Told nothing empty h = h
  Stalls-drainer d e (Handed x) nothing empty h = h
