-- A task of a division is given.
use Rattle.std.proofs.Common.{◌≡◌, ℕ, ◌+◌, ◌^◌, ◌≤◌, List, [], ◌∷◌, ◌++◌, map, Some, refl, ap, ◌∙◌, sym, subst, arith}
use Rattle.std.specs.List.{AllByRecursion}
use Rattle.ff_rec.specs.Weights.{weigh}
use Rattle.ff_rec.proofs.WeightLaws.{weigh-append, weigh-one, weigh-map}
use Rattle.ff_dc.specs.Spans.{Span}
use Rattle.ff_dc.specs.Divisions.{Division, division}
use Rattle.ff_loop.specs.Events.{Given, given, numbers, IsReady, NoneReady}
use Rattle.ff_loop.specs.Scheduling.{Goes, Nexts, made_by}
use Rattle.ff_dc_tasks.specs.declared.task.DcTask.{DcTask}
use Rattle.ff_dc_tasks.specs.declared.task.DcTask.TheVariants.{Seq}
use Rattle.ff_dc_tasks.specs.declared.place.Place.{Place}
use Rattle.ff_dc_tasks.specs.declared.place.Pair.{Pair}
use Rattle.ff_dc_tasks.specs.declared.walk.Walk.{Walk}
use Rattle.ff_dc_tasks.specs.Tasks.{number_of}
use Rattle.ff_dc_tasks.specs.Paths.{path_at, number_in, path_in}
use Rattle.ff_dc_tasks.specs.Walks.{ComesTo, to_come}
use Rattle.ff_dc_tasks.specs.Pairs.{task_of, IsPaired, AreWaiting}
use Rattle.ff_dc_tasks.specs.Told.{answers, dc_made, IsTold}
use Rattle.ff_dc_tasks.specs.Dividers.{DividerState, whole_of, IsRight, TakesOne, divider_does}
use Rattle.ff_dc_tasks.proofs.Heights.{part_count-low}
use Rattle.ff_dc_tasks.proofs.Marks.{hit, hit-same, for_number, for_number-once, tasks_from-few}
use Rattle.ff_dc_tasks.proofs.ToldSteps.{IsNew-ungiven, numbers-length}
use Rattle.ff_dc_tasks.proofs.DividerWeights.{AllByRecursion-pop, to_come-none, weigh-made}

-- a task is given by a new id
module _ (s s1 : DividerState) (place : Place) (t : DcTask) (right : IsRight s) (takes : TakesOne s place t s1) where
  pub out-small : s.out + 1 ≤ 2 ^ 25
  out-small = omega (
    arith,
    right.out_is,
    weigh-one (numbers s.events),
    numbers-length s.events,
    weigh-made s right (λ _. 1),
    takes.first (λ _. 1),
    tasks_from-few 0 (whole_of s) (answers s.events),
    part_count-low 24 (whole_of s) right.walk.low,
  )

  given-none : (id : ℕ) → number_in id ≡ place.number → for_number (number_in id) (given s.events) ≡ 0
  given-none id number = omega (
    arith,
    weigh-made s right (λ u. hit (number_in id) (number_of u)),
    takes.first (λ u. hit (number_in id) (number_of u)),
    for_number-once (number_in id) 0 (whole_of s) (answers s.events),
    hit-same (number_in id) (number_of t) (sym takes.number ∙ sym number),
  )

  IsReady-taken : IsReady (made_by divider_does s) t s.events
  IsReady-taken = record { by = λ h. omega (arith, weigh-made s right h, takes.first h) }

  same_whole : whole_of (record s { walk = s1.walk }) ≡ whole_of s
  same_whole = ap (λ (k : ℕ). division s.rule k s1.walk.whole) takes.cut ∙ ap (λ (p : Span). division s.rule s.walk.cut p) takes.whole

  -- the state once it is given
  abbrev gave : ℕ → DividerState
  gave id = record s { walk = s1.walk; ready = s1.ready; out = s.out + 1; events = Given id t ∷ s.events }

  Goes-gave : (id : ℕ) → number_in id ≡ place.number → path_in id ≡ place.path → Goes divider_does s (gave id) (Given id t ∷ s.events)
  Goes-gave id number path =
      let back : (P : Division → Type 0) → P (whole_of s) → P (whole_of (record s { walk = s1.walk })) = λ P h. subst P (sym same_whole) h in
      record {
        right = record {
          walk = takes.walk;
          told = subst (λ (e : Division). IsTold e (Given id t ∷ s.events)) (sym same_whole) (
            number ∙ takes.number,
            path ∙ takes.path ∙ ap (path_at (whole_of s)) takes.number,
            takes.task,
            right.told,
          );
          balance = record { by = λ h. omega (arith, right.balance.by h) };
          out_is = omega (arith, right.out_is);
          tasks = record {
            by = λ h. omega (
              arith,
              ap (λ (e : Division). weigh h (dc_made e s.events)) same_whole,
              weigh-made s right h,
              takes.first h,
              weigh-append h (given s.events ++ t ∷ [] ++ to_come s.rule s1.walk) (map task_of s1.ready),
              weigh-append h (given s.events ++ t ∷ []) (to_come s.rule s1.walk),
              weigh-append h (given s.events) (t ∷ []),
            );
          };
          pairs = subst (λ (e : Division). AllByRecursion (IsPaired e (answers s.events)) s1.ready) (sym same_whole) takes.pairs;
          halves = subst (λ (e : Division). AreWaiting e (answers s.events) s.halves) (sym same_whole) right.halves;
          values = right.values;
        };
        kind = ap (λ (k : ℕ). (s.rule, k, s1.walk.whole)) takes.cut ∙ ap (λ (p : Span). (s.rule, s.walk.cut, p)) takes.whole;
        events = refl;
        taken = refl;
      }

  pub Nexts-gave : (id : ℕ) → number_in id ≡ place.number → path_in id ≡ place.path → Nexts divider_does s (Some (id, t)) (gave id)
  Nexts-gave id number path = (IsReady-taken, IsNew-ungiven (whole_of s) s.events id right.told (given-none id number), Goes-gave id number path)

-- a part that can be combined is taken out
pub TakesOne-pair : (s : DividerState) (x : Pair) (rest : List Pair) → IsRight s → s.ready ≡ rest ++ x ∷ []
    → TakesOne s x.place (task_of x) (record s { ready = rest })
TakesOne-pair s x rest right last =
    let pairs = AllByRecursion-pop (IsPaired (whole_of s) (answers s.events)) rest x
    (subst (AllByRecursion (IsPaired (whole_of s) (answers s.events))) last right.pairs) in
    record {
      rest = refl;
      walk = right.walk;
      cut = refl;
      whole = refl;
      number = refl;
      path = pairs.1.path;
      task = pairs.1.task;
      pairs = pairs.0;
      first = λ h. omega (
        arith,
        ap (λ (l : List Pair). weigh h (map task_of l)) last,
        weigh-map h task_of (rest ++ x ∷ []),
        weigh-map h task_of rest,
        weigh-append (λ y. h (task_of y)) rest (x ∷ []),
      );
    }

-- the next part that isn't divided is taken out
pub TakesOne-part : (s : DividerState) (place : Place) (p : Span) (walk : Walk) → IsRight s → ComesTo s.rule s.walk place p walk
    → TakesOne s place (Seq place.number p) (record s { walk = walk })
TakesOne-part s place p walk right comes = record {
  rest = refl;
  walk = comes.walk;
  cut = comes.cut;
  whole = comes.whole;
  number = refl;
  path = comes.path;
  task = comes.at;
  pairs = right.pairs;
  first = λ h. omega (arith, comes.first h);
}

-- nothing is left to be given
pub NoneReady-none : (s : DividerState) → IsRight s → s.ready ≡ [] → s.walk.todo ≡ [] → NoneReady (made_by divider_does s) s.events
NoneReady-none s right no_pair no_part = record {
  by = λ h. omega (
    arith,
    weigh-made s right h,
    ap (λ (l : List Pair). weigh h (map task_of l)) no_pair,
    ap (weigh h) (to_come-none s.rule s.walk right.walk no_part),
  );
}
