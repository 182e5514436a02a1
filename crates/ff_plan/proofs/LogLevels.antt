-- What a master was fed and gave, measured by the levels of the records that go round. A task of a log of length k is on one of the first
-- k levels: so no tasks justify each other in a circle.
use Rattle.std.proofs.Common.{◌≡◌, ℕ, zero, suc, ◌+◌, ◌<◌, ◌≤◌, nat_le, not, List, [], ◌∷◌, length, filter, ap, subst, inl, inr, arith, le-leb}
use Rattle.std.specs.List.{flat_map}
use Rattle.std.proofs.lemmas.Bool.{cases_lt, cases_Bool, cond-true, cond-false}
use Rattle.ff_rec.specs.Lines.{Rec}
use Rattle.ff_rec.specs.Weights.{Same, weigh}
use Rattle.ff_rec.proofs.WeightLaws.{Same-sym, weigh-append, weigh-one}
use Rattle.ff_net.specs.declared.net.Test.{Test}
use Rattle.ff_net.specs.Levels.{meets, levels, IsOver, results}
use Rattle.ff_net.specs.Logs.{Event, Fed, Gave, Got, fed, given, came, came_out, made, Within, IsLegal, IsDone}
use Rattle.ff_plan.specs.LogLaws.{IsSound}
use Rattle.ff_plan.proofs.LevelWeights.{round, left, levels-weigh, levels-more, levels-most, results-weigh}
use Rattle.ff_plan.proofs.Withins.{Within-length}
use Rattle.ff_plan.proofs.LogAnswers.{IsSound-older, answers-within, answers-all, came-weigh, came_out-weigh}

-- one more task was within those that may be given, so it came
gave-came : (m : ℕ) (p : Test) (t : Rec) (log : List Event) → Within (t ∷ given log) (made m p log) → Within (t ∷ given log) (came p log)
gave-came m p t log within = elim (cases_Bool (nat_le (length (came p log)) m)) [
  | inl is ↦ subst (Within (t ∷ given log)) (cond-true (nat_le (length (came p log)) m) (came p log) (given log) is) within
  | inr isnt ↦ absurd (omega (arith, Within-length within, ap length (cond-false (nat_le (length (came p log)) m) (came p log) (given log) isnt)))
]

module _ (n m : ℕ) (p : Test) (send : Rec → List Rec) where
  -- what came was fed in, or is what goes round of the tasks that were given
  pub came-within : (log : List Event) → IsLegal n m p log → IsSound n send log
      → (h : Rec → ℕ) → weigh h (came p log) ≤ weigh h (fed log) + weigh (round send p h) (given log)
  came-within log legal sound h =
      omega (arith, came-weigh p log h, answers-within n m p send log legal sound (λ a. weigh h (filter (meets p) a)))

  came_out-within : (log : List Event) → IsLegal n m p log → IsSound n send log
      → (h : Rec → ℕ) → weigh h (came_out p log) ≤ weigh (left send p h) (given log)
  came_out-within log legal sound h =
      omega (arith, came_out-weigh p log h, answers-within n m p send log legal sound (λ a. weigh h (filter (λ r. not (meets p r)) a)))

  -- the tasks that were given are on the first levels of what was fed in
  pub given-levels : (log : List Event) → IsLegal n m p log → IsSound n send log → (all : List Rec) → Within (fed log) all
      → (h : Rec → ℕ) → weigh h (given log) ≤ weigh h (levels (flat_map send) p (length log) all)
  given-levels [] legal sound all feeds h = omega arith
  given-levels (Fed t ∷ log) legal sound all feeds h =
      let fewer : Within (fed log) all = record { by = λ k. omega (arith, feeds.by k, weigh-append k (fed log) (t ∷ [])) } in
      let older = given-levels log legal (IsSound-older n m p send (Fed t) log legal sound) all fewer h in
      omega (arith, older, levels-more send p (length log) (suc (length log)) (omega arith) h all)
  given-levels (Got w answer ∷ log) legal sound all feeds h =
      let older = given-levels log legal.2 (IsSound-older n m p send (Got w answer) log legal.2 sound) all feeds h in
      omega (arith, older, levels-more send p (length log) (suc (length log)) (omega arith) h all)
  given-levels (Gave w t ∷ log) legal sound all feeds h =
      let before = IsSound-older n m p send (Gave w t) log legal.2 sound in
      let came = gave-came m p t log legal.1 in
      omega (
        arith,
        weigh-append h (given log) (t ∷ []),
        came.by h,
        came-within log legal.2 before h,
        feeds.by h,
        given-levels log legal.2 before all feeds (round send p h),
        levels-weigh send p (length log) h all,
      )

  module _ (log : List Event) (legal : IsLegal n m p log) (sound : IsSound n send log) (all : List Rec) (feeds : Within (fed log) all) where
    came-levels : (h : Rec → ℕ) → weigh h (came p log) ≤ weigh h (levels (flat_map send) p (suc (length log)) all)
    came-levels h = omega (
      arith,
      came-within log legal sound h,
      feeds.by h,
      given-levels log legal sound all feeds (round send p h),
      levels-weigh send p (length log) h all,
    )

    -- where more came than the limit allows, the records that go round are over it
    pub IsOver-came : m < length (came p log) → IsOver (flat_map send) p m all
    IsOver-came more = elim (cases_lt m (length (levels (flat_map send) p (suc m) all))) [
      | inl over ↦ over
      | inr few ↦ absurd (omega (
        arith,
        more,
        few,
        came-levels (λ _. 1),
        levels-most send p m (suc (length log)) all few (λ _. 1),
        weigh-one (came p log),
        weigh-one (levels (flat_map send) p (suc m) all),
      ))
    ]

    -- where they aren't, what came out so far is within the results
    pub Within-results : ¬ IsOver (flat_map send) p m all → Within (came_out p log) (results (flat_map send) p m all)
    Within-results fine = elim (cases_lt m (length (levels (flat_map send) p (suc m) all))) [
      | inl over ↦ absurd (fine over)
      | inr few ↦ record {
        by = λ h. omega (
          arith,
          came_out-within log legal sound h,
          given-levels log legal sound all feeds (left send p h),
          levels-most send p m (length log) all few (left send p h),
          results-weigh send p m h all,
        );
      }
    ]

  -- a log that is done within the limit: the tasks are those of all levels, and what came out are the results
  pub record IsAll (log : List Event) : Type 0 where
    pub fine : ¬ IsOver (flat_map send) p m (fed log)
    pub given_once : Same (came p log) (given log)
    pub tasks : Same (given log) (levels (flat_map send) p (suc m) (fed log))
    pub results : Same (results (flat_map send) p m (fed log)) (came_out p log)

  module _ (log : List Event) (legal : IsLegal n m p log) (sound : IsSound n send log) (done : IsDone n m p log) (few : length (came p log) ≤ m) where
    given-came : Same (given log) (came p log)
    given-came = subst (Same (given log)) (cond-true (nat_le (length (came p log)) m) (came p log) (given log) (le-leb _ _ few)) done.all_given

    given-round : (h : Rec → ℕ) → weigh h (given log) ≡ weigh h (fed log) + weigh (round send p h) (given log)
    given-round h = omega (
      arith,
      given-came.by h,
      came-weigh p log h,
      answers-all n m p send log legal sound (λ a. weigh h (filter (meets p) a)) done.all_got,
    )

    -- no level holds a task that wasn't given
    levels-given : (k : ℕ) (h : Rec → ℕ) → weigh h (levels (flat_map send) p k (fed log)) ≤ weigh h (given log)
    levels-given zero h = omega arith
    levels-given (suc k) h = omega (arith, levels-weigh send p k h (fed log), levels-given k (round send p h), given-round h)

    few-levels : length (levels (flat_map send) p (suc m) (fed log)) ≤ m
    few-levels = omega (
      arith,
      few,
      given-came.by (λ _. 1),
      levels-given (suc m) (λ _. 1),
      weigh-one (came p log),
      weigh-one (levels (flat_map send) p (suc m) (fed log)),
    )

    given-same : (h : Rec → ℕ) → weigh h (given log) ≡ weigh h (levels (flat_map send) p (suc m) (fed log))
    given-same h = omega (
      arith,
      given-levels log legal sound (fed log) (record { by = λ k. omega arith }) h,
      levels-most send p m (length log) (fed log) few-levels h,
      levels-given (suc m) h,
    )

    pub IsAll-done : IsAll log
    IsAll-done = record {
      fine = λ over. omega (arith, over, few-levels);
      given_once = Same-sym given-came;
      tasks = record { by = given-same };
      results = record {
        by = λ h. omega (
          arith,
          results-weigh send p m h (fed log),
          given-same (left send p h),
          came_out-weigh p log h,
          answers-all n m p send log legal sound (λ a. weigh h (filter (λ r. not (meets p r)) a)) done.all_got,
        );
      };
    }
