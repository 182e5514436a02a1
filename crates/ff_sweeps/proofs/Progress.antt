-- What a sweep raises, as something that happened.
use Rattle.std.proofs.Common.{◌≡◌, ◌⊎◌, ℕ, zero, suc, ◌+◌, ◌<◌, ◌≤◌, ◌==◌, ◌||◌, ◌&&◌, Bool, true, false, if◌then◌else◌, List, [], ◌∷◌, length, refl, sym, ◌∙◌, subst, inl, inr, arith}
use Rattle.std.specs.Prelude.{slice_index_or}
use Rattle.std.specs.List.{list_all}
use Rattle.std.proofs.lemmas.Bool.{true≢false, cases_lt, or_parts}
use Rattle.std.proofs.lemmas.List.Folds.{list_all_at}
use Rattle.ff_rec.specs.Weights.{weigh}
use Rattle.ff_node.specs.Behaviour.{Behaviour}
use Rattle.ff_plan.specs.Rows.{range}
use Rattle.ff_port.specs.Queues.{put_of}
use Rattle.ff_steps.specs.Core.{CoreState, party, parties, edge, all_ended}
use Rattle.ff_steps.specs.NetUnits.{NetState, net_does}
use Rattle.ff_steps.specs.Parties.{Party, AsUnit, AsFeeder, AsDrainer, has_ended}
use Rattle.ff_sweeps.specs.Cuts.{is_cut}
use Rattle.ff_sweeps.specs.Progress.{is_cut_off, HasMoved}
use Rattle.ff_sweeps.proofs.SweepSteps.{or-true}
use Rattle.ff_sweeps.proofs.Potentials.{one_if, is_closed, got_size, put_size, closed_size, potential}

-- where a sum is smaller, some part of it is
pub weigh-rises : (f g : ℕ → ℕ) (e n : ℕ) → weigh f (range e n) < weigh g (range e n) → (i : ℕ) × (f i < g i)
weigh-rises f g e zero less = absurd (omega (arith, less))
weigh-rises f g e (suc n) less = elim (cases_lt (f e) (g e)) [
  | inl here ↦ (e, here)
  | inr from ↦ weigh-rises f g (suc e) n (omega (arith, less, from))
]

zero_if-rises : (t : Bool) (x y : ℕ) → (if t then 0 else x) < (if t then 0 else y) → x < y
zero_if-rises true x y less = absurd (omega (arith, less))
zero_if-rises false x y less = less

one_if-rises : (t s : Bool) → one_if t < one_if s → (t ≡ false) × (s ≡ true)
one_if-rises true true less = absurd (omega (arith, less))
one_if-rises true false less = absurd (omega (arith, less))
one_if-rises false true less = (refl, refl)
one_if-rises false false less = absurd (omega (arith, less))

module _ {N : Type 0} (b : Behaviour N) where
  closed-none : (p : Party (NetState N)) → is_closed b p ≡ false → (has_ended (net_does b) p ≡ false) × (is_cut_off p ≡ false)
  closed-none (AsUnit u) is = or_parts ((net_does b).done u) (is_cut u) is
  closed-none (AsFeeder f) is = (is, refl)
  closed-none (AsDrainer d) is = (is, refl)

  closed-some : (p : Party (NetState N)) → is_closed b p ≡ true → (has_ended (net_does b) p ≡ true) ⊎ (is_cut_off p ≡ true)
  closed-some (AsUnit u) is = or-true ((net_does b).done u) (is_cut u) is
  closed-some (AsFeeder f) is = inl is
  closed-some (AsDrainer d) is = inl is

  -- the potential rose
  pub moved-rises : (n k : ℕ) (c d : CoreState (NetState N)) → potential b n k c + 1 ≤ potential b n k d → HasMoved b c d
  moved-rises n k c d more = elim (cases_lt (weigh (got_size c) (range 0 n)) (weigh (got_size d) (range 0 n))) [
    | inl took ↦ inl (inl (weigh-rises (got_size c) (got_size d) 0 n took))
    | inr same ↦ elim (cases_lt (weigh (put_size c) (range 0 n)) (weigh (put_size d) (range 0 n))) [
      | inl puts ↦
          let at = weigh-rises (put_size c) (put_size d) 0 n puts in
          inl (inr (at.0, zero_if-rises (at.0 == 1) (length (put_of (edge c at.0))) (length (put_of (edge d at.0))) at.1))
      | inr again ↦
          let at = weigh-rises (closed_size b c) (closed_size b d) 0 k (omega (arith, more, same, again)) in
          let both = one_if-rises (is_closed b (party c at.0)) (is_closed b (party d at.0)) at.1 in
          let before = closed-none (party c at.0) both.0 in
          elim (closed-some (party d at.0) both.1) [
            | inl ended ↦ inr (inl (at.0, before.0, ended))
            | inr cut ↦ inr (inr (at.0, before.1, cut))
          ]
    ]
  ]

  -- some party of a list has not ended
  some_going : (f : Party (NetState N) → Bool) (ps : List (Party (NetState N))) (e : Party (NetState N)) → list_all f ps ≡ false
      → (i : ℕ) × (i < length ps) × (f (slice_index_or ps i e) ≡ false)
  some_going f [] e is = absurd (true≢false is)
  some_going f (p ∷ ps) e is = by (f p) refl (λ ended. some_going f ps e (subst (λ t. (t && list_all f ps) ≡ false) ended is))
    where
      by : (t : Bool) → f p ≡ t → (f p ≡ true → (i : ℕ) × (i < length ps) × (f (slice_index_or ps i e) ≡ false))
          → (i : ℕ) × (i < suc (length ps)) × (f (slice_index_or (p ∷ ps) i e) ≡ false)
      by false going rest = (0, omega arith, going)
      by true ended rest = let at = rest ended in (suc at.0, omega (arith, at.1), at.2)

  each_ended : (f : Party (NetState N) → Bool) (ps : List (Party (NetState N))) (e : Party (NetState N)) (i : ℕ) → i < length ps → list_all f ps ≡ true
      → f (slice_index_or ps i e) ≡ true
  each_ended f ps e i low all = by (f (slice_index_or ps i e)) refl
    where
      by : (t : Bool) → f (slice_index_or ps i e) ≡ t → f (slice_index_or ps i e) ≡ true
      by true is = is
      by false is = absurd (true≢false (sym all ∙ list_all_at f ps i e low is))

  -- not all had ended, and now they have
  pub moved-ends : (c d : CoreState (NetState N)) → length (parties c) ≡ length (parties d) → all_ended (net_does b) c ≡ false → all_ended (net_does b) d ≡ true → HasMoved b c d
  moved-ends c d many going ended =
      let at = some_going (has_ended (net_does b)) (parties c) (AsDrainer c.drainer) going in
      inr (inl (at.0, at.2, each_ended (has_ended (net_does b)) (parties d) (AsDrainer d.drainer) at.0 (omega (arith, at.1, many)) ended))
