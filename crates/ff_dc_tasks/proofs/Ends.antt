-- Where nothing is left to do, every part has its values, and those of the whole are those that the rule says.
use Rattle.std.proofs.Common.{◌≡◌, ℕ, ◌+◌, ◌≤◌, List, [], ◌∷◌, length, Option, Some, ℤ, refl, ap, ◌∙◌, sym, subst, arith}
use Rattle.ff_rec.specs.Weights.{weigh}
use Rattle.ff_rec.proofs.WeightLaws.{weigh-one}
use Rattle.ff_dc.specs.declared.rule.DcRule.{DcRule}
use Rattle.ff_dc.specs.declared.rule.DcRule.TheVariants.{Fib, Sum, MaxSub, FirstMin, Bracket}
use Rattle.ff_dc.specs.Rules.{value}
use Rattle.ff_dc.specs.Dividing.{IsAsked}
use Rattle.ff_dc.specs.Divisions.{Division, Whole, Cut, part_count, Answers, CameBack, nothing, at_once, combined_from, AnyOrderLaw}
use Rattle.ff_dc.proofs.AnyOrder.{any-order}
use Rattle.ff_dc.proofs.FibSteps.{fib-steps}
use Rattle.ff_dc.proofs.Steps.{sum-steps, maxsub-steps, firstmin-steps, bracket-steps}
use Rattle.ff_loop.specs.Events.{Offered, Given, Back, backs, IsIdle, AreAnswered}
use Rattle.ff_loop.specs.Scheduling.{made_by}
use Rattle.ff_dc_tasks.specs.declared.task.DcTask.{DcTask}
use Rattle.ff_dc_tasks.specs.declared.task.DcTask.TheVariants.{Seq, Combine}
use Rattle.ff_dc_tasks.specs.Tasks.{number_of, answer_of, value_in, combines, tasks_from, IsTask}
use Rattle.ff_dc_tasks.specs.Paths.{number_in}
use Rattle.ff_dc_tasks.specs.Told.{DcEvent, number_with, answers, IsTold}
use Rattle.ff_dc_tasks.specs.Dividers.{DividerState, whole_of, IsRight, divider_does}
use Rattle.ff_dc_tasks.proofs.Marks.{hit, hit-same, for_number, of_number, weigh-cut, value_in-some, Has-value_in}
use Rattle.ff_dc_tasks.proofs.ToldSteps.{IsKnown, IsKnown-given, number_with-given, ids_for-given, ids_for-backs, numbers-length}

-- the law of any order, of each rule
any_order_of : (rule : DcRule) → AnyOrderLaw rule
any_order_of Fib = any-order Fib fib-steps
any_order_of Sum = any-order Sum sum-steps
any_order_of MaxSub = any-order MaxSub maxsub-steps
any_order_of FirstMin = any-order FirstMin firstmin-steps
any_order_of Bracket = any-order Bracket bracket-steps

-- both halves have their values, so that there is a task for the part
combines-both : (n k : ℕ) (v w : Option (List ℤ)) (x y : List ℤ) → v ≡ Some x → w ≡ Some y → n ≡ k
    → (for_number n (combines k v w) ≡ 1) × (weigh (λ _. 1) (combines k v w) ≡ 1)
combines-both n k v w x y is_v is_w same =
    let both : combines k v w ≡ Combine k x y ∷ [] =
    ap (λ (z : Option (List ℤ)). combines k z w) is_v ∙ ap (λ (z : Option (List ℤ)). combines k (Some x) z) is_w in
    (omega (arith, ap (for_number n) both, hit-same n k (sym same)), omega (arith, ap (weigh (λ _. 1)) both))

-- where each task that there is came back, all parts have their values
all-back : (k : ℕ) (d : Division) (done : Answers) → ((n : ℕ) → 1 ≤ for_number n (tasks_from k d done) → 1 ≤ of_number n done)
    → (1 ≤ of_number k done) × (weigh (λ _. 1) (tasks_from k d done) ≡ part_count d)
all-back k (Whole p) done back = (back k (omega (arith, hit-same k k refl)), omega arith)
all-back k (Cut p l r) done back =
    let left = all-back (k + 1) l done (λ n some. back n (omega (arith, some, weigh-cut (λ t. hit n (number_of t)) k l r done))) in
    let right = all-back (k + 1 + part_count l) r done (λ n some. back n (omega (arith, some, weigh-cut (λ t. hit n (number_of t)) k l r done))) in
    let v : (v : List ℤ) × (value_in done (k + 1) ≡ Some v) = value_in-some done (k + 1) left.0 in
    let w : (w : List ℤ) × (value_in done (k + 1 + part_count l) ≡ Some w) = value_in-some done (k + 1 + part_count l) right.0 in
    let both = combines-both k k (value_in done (k + 1)) (value_in done (k + 1 + part_count l)) v.0 w.0 v.1 w.1 refl in (
      back k (omega (arith, both.0, weigh-cut (λ t. hit k (number_of t)) k l r done)),
      omega (arith, both.1, left.1, right.1, weigh-cut (λ _. 1) k l r done),
    )

module _ (s : DividerState) (right : IsRight s) (idle : IsIdle (made_by divider_does s) s.events) where
  came_back : (n : ℕ) → 1 ≤ for_number n (tasks_from 0 (whole_of s) (answers s.events)) → 1 ≤ of_number n (answers s.events)
  came_back n some = omega (
    arith,
    some,
    idle.0.by (λ t. hit n (number_of t)),
    ids_for-given (whole_of s) n s.events right.told,
    idle.1.by (λ i. hit n (number_in i)),
    ids_for-backs (whole_of s) n s.events right.told,
  )

  -- the whole has its values
  pub values-idle : (v : List ℤ) × (s.values ≡ Some v)
  values-idle =
      let whole : (v : List ℤ) × (value_in (answers s.events) 0 ≡ Some v) =
      value_in-some (answers s.events) 0 (all-back 0 (whole_of s) (answers s.events) came_back).0 in
      (whole.0, right.values ∙ whole.1)

  -- as many answers came back as there are parts, or more
  pub backs-idle : part_count (whole_of s) ≤ length (backs s.events)
  backs-idle = omega (
    arith,
    (all-back 0 (whole_of s) (answers s.events) came_back).1,
    idle.0.by (λ _. 1),
    idle.1.by (λ _. 1),
    numbers-length s.events,
    weigh-one (backs s.events),
  )

-- answers as a rule says came back as one may come after the other
CameBack-answers : (rule : DcRule) (ns : List ℤ) (d : Division) (log : List DcEvent) → IsTold d log → AreAnswered (answer_of rule ns) log → CameBack rule ns d (answers log)
CameBack-answers rule ns d [] told right = nothing
CameBack-answers rule ns d (Offered t ∷ log) told right = CameBack-answers rule ns d log told right
CameBack-answers rule ns d (Given i t ∷ log) told right = CameBack-answers rule ns d log told.3 right
CameBack-answers rule ns d (Back i a ∷ log) told right =
    let t : DcTask = right.0.0 in
    let known : IsKnown d i t (answers log) = IsKnown-given d log i t told.1 right.0.1 in
    let number : number_with i log ≡ number_of t = number_with-given d log i t told.1 right.0.1 ∙ known.number in
    subst (λ (n : ℕ). CameBack rule ns d ((n, a) ∷ answers log)) (sym number)
    (subst (λ (v : List ℤ). CameBack rule ns d ((number_of t, v) ∷ answers log)) (sym right.0.2)
    (by (answers log) t known.task (CameBack-answers rule ns d log told.1 right.1)))
  where
    by : (before : Answers) (t : DcTask) → IsTask d before t → CameBack rule ns d before → CameBack rule ns d ((number_of t, answer_of rule ns t) ∷ before)
    by before (Seq n p) task came = at_once before n p came task
    by before (Combine n v w) task came = combined_from before n task.0 task.1 task.2 v w came task.3 task.4 task.5

-- the values of the whole are those that the rule says
pub values-answered : (ns : List ℤ) (s : DividerState) → IsRight s → IsAsked s.rule s.walk.cut ns s.walk.whole → AreAnswered (answer_of s.rule ns) s.events
    → (v : List ℤ) → s.values ≡ Some v → v ≡ value s.rule ns s.walk.whole
values-answered ns s right asked answered v is =
    any_order_of s.rule s.walk.cut ns s.walk.whole asked (answers s.events) (CameBack-answers s.rule ns (whole_of s) s.events right.told answered) v
    (Has-value_in (answers s.events) 0 v (sym right.values ∙ is))
