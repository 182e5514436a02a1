-- An answer to a task of a division comes back.
use Rattle.std.proofs.Common.{◌≡◌, ℕ, ◌+◌, ◌-◌, ◌/◌, ◌<◌, ◌≤◌, List, [], ◌∷◌, ◌++◌, map, Option, Some, None, ℤ, refl, ap, ◌∙◌, sym, subst, arith}
use Rattle.std.specs.List.{AllByRecursion}
use Rattle.ff_rec.specs.Weights.{weigh}
use Rattle.ff_rec.proofs.Joins.{AllByRecursion-weaker}
use Rattle.ff_rec.proofs.WeightLaws.{weigh-append, weigh-one, weigh-map}
use Rattle.ff_dc.specs.Divisions.{Division, part_at, Answers}
use Rattle.ff_loop.specs.Events.{Back, given, numbers, backs, IsOut, HasGiven}
use Rattle.ff_loop.specs.Scheduling.{Goes}
use Rattle.ff_dc_tasks.specs.declared.task.DcTask.{DcTask}
use Rattle.ff_dc_tasks.specs.declared.place.Place.{Place}
use Rattle.ff_dc_tasks.specs.declared.place.Pair.{Pair}
use Rattle.ff_dc_tasks.specs.declared.halves.Half.{Half}
use Rattle.ff_dc_tasks.specs.Tasks.{number_of, value_in, tasks_from}
use Rattle.ff_dc_tasks.specs.Paths.{path_at, number_in, path_in}
use Rattle.ff_dc_tasks.specs.Walks.{to_come}
use Rattle.ff_dc_tasks.specs.Pairs.{task_of, half_at, Meets, IsPaired, AreWaiting}
use Rattle.ff_dc_tasks.specs.Told.{number_with, answers}
use Rattle.ff_dc_tasks.specs.Dividers.{DividerState, whole_of, IsRight, divider_does}
use Rattle.ff_dc_tasks.proofs.Marks.{value_in-other, value_in-last}
use Rattle.ff_dc_tasks.proofs.Meetings.{IsMet, whole-met, Met-later, half_at-later}
use Rattle.ff_dc_tasks.proofs.ToldSteps.{IsKnown, IsKnown-given, IsTask-more, number_with-given, HasGiven-out, value_in-out}
use Rattle.ff_dc_tasks.proofs.DividerWeights.{AllByRecursion-push, part_at-task, weigh-made, given-once}

-- an answer came back
module _ (s : DividerState) (id : ℕ) (a : List ℤ) (right : IsRight s) (is_out : IsOut id s.events) where
  abbrev d : Division
  d = whole_of s

  abbrev done : Answers
  done = answers s.events

  abbrev n : ℕ
  n = number_in id

  was : (t : DcTask) × HasGiven id t s.events
  was = HasGiven-out s.events id is_out

  known : IsKnown d id was.0 done
  known = IsKnown-given d s.events id was.0 right.told was.1

  with_number : number_with id s.events ≡ n
  with_number = number_with-given d s.events id was.0 right.told was.1

  part : (e : Division) × (part_at d n ≡ Some e)
  part =
      let of_task : (e : Division) × (part_at d (number_of was.0) ≡ Some e) = part_at-task d done was.0 known.task in
      (of_task.0, ap (part_at d) known.number ∙ of_task.1)

  pub path-back : path_in id ≡ path_at d n
  path-back = known.path ∙ ap (path_at d) (sym known.number)

  unknown : value_in done n ≡ None
  unknown = value_in-out d s.events id right.told is_out (given-once s right n)

  pub out-some : 1 ≤ s.out
  out-some = omega (arith, right.out_is, is_out.by (λ _. 1), weigh-one (backs s.events), weigh-one (numbers s.events))

  -- the state once it is back
  abbrev came : List Pair → List (ℕ × Half) → Option (List ℤ) → DividerState
  came ready halves values = record s { ready = ready; halves = halves; out = s.out - 1; values = values; events = Back id a ∷ s.events }

  abbrev done' : Answers
  done' = (n, a) ∷ done

  same_done : answers (Back id a ∷ s.events) ≡ done'
  same_done = ap (λ (k : ℕ). (k, a) ∷ done) with_number

  IsPaired-more : (xs : List Pair) → AllByRecursion (IsPaired d done) xs → AllByRecursion (IsPaired d done') xs
  IsPaired-more xs pairs = AllByRecursion-weaker (IsPaired d done) (IsPaired d done')
      (λ x pair. record { path = pair.path; task = IsTask-more d done (n, a) (task_of x) pair.task }) xs pairs

  Goes-came : (ready : List Pair) (halves : List (ℕ × Half)) (values : Option (List ℤ)) (ts : List DcTask) → IsMet d done done' halves ts
      → ((h : DcTask → ℕ) → weigh h (map task_of ready) ≡ weigh h (map task_of s.ready) + weigh h ts)
      → AllByRecursion (IsPaired d done') ready → values ≡ value_in done' 0 → Goes divider_does s (came ready halves values) (Back id a ∷ s.events)
  Goes-came ready halves values ts met more pairs are = record {
    right = record {
      walk = right.walk;
      told = (with_number, right.told);
      balance = is_out;
      out_is = omega (arith, right.out_is, out-some);
      tasks = record {
        by = λ h. omega (
          arith,
          ap (λ (x : Answers). weigh h (tasks_from 0 d x)) same_done,
          met.more h,
          weigh-made s right h,
          more h,
          weigh-append h (given s.events ++ to_come s.rule s.walk) (map task_of ready),
          weigh-append h (given s.events) (to_come s.rule s.walk),
        );
      };
      pairs = subst (λ (x : Answers). AllByRecursion (IsPaired d x) ready) (sym same_done) pairs;
      halves = subst (λ (x : Answers). AreWaiting d x halves) (sym same_done) met.halves;
      values = are ∙ ap (λ (x : Answers). value_in x 0) (sym same_done);
    };
    kind = refl;
    events = refl;
    taken = refl;
  }

  -- those of the whole
  pub Goes-whole : n ≡ 0 → Goes divider_does s (came s.ready s.halves (Some a)) (Back id a ∷ s.events)
  Goes-whole zero = Goes-came s.ready s.halves (Some a) [] (whole-met d done n a part.0 part.1 s.halves zero right.halves) (λ h. omega arith)
      (IsPaired-more s.ready right.pairs) (sym (value_in-last done n 0 a zero))

  module _ (later : 0 < n) where
    place : Place
    place = record { path = path_in id; number = n }

    values-same : s.values ≡ value_in done' 0
    values-same = right.values ∙ sym (value_in-other done n 0 a (λ e. omega (arith, e, later)))

    -- those of a half
    pub Goes-half : (halves : List (ℕ × Half)) → Meets s.halves (record { path = path_in id; number = n }) a None halves
        → Goes divider_does s (came s.ready halves s.values) (Back id a ∷ s.events)
    Goes-half halves meets =
        let met = Met-later d done s.halves right.halves (record { path = path_in id; number = n }) a part.0 part.1 path-back unknown later halves None meets in
        Goes-came s.ready halves s.values [] met (λ h. omega arith) (IsPaired-more s.ready right.pairs) values-same

    -- those of the other half too
    pub Goes-pair : (halves : List (ℕ × Half)) (x : Pair) (ready : List Pair) → Meets s.halves (record { path = path_in id; number = n }) a (Some x) halves
        → ready ≡ s.ready ++ x ∷ [] → Goes divider_does s (came ready halves s.values) (Back id a ∷ s.events)
    Goes-pair halves x ready meets more =
        let met = Met-later d done s.halves right.halves (record { path = path_in id; number = n }) a part.0 part.1 path-back unknown later halves (Some x) meets in
        Goes-came ready halves s.values (task_of x ∷ []) met.0
        (λ h. omega (
          arith,
          ap (λ (l : List Pair). weigh h (map task_of l)) more,
          weigh-map h task_of (s.ready ++ x ∷ []),
          weigh-map h task_of s.ready,
          weigh-append (λ y. h (task_of y)) s.ready (x ∷ []),
        ))
        (subst (AllByRecursion (IsPaired d done')) (sym more) (AllByRecursion-push (IsPaired d done') s.ready x (IsPaired-more s.ready right.pairs) met.1)) values-same

    pub half_at-out : (x : Half) → half_at (path_in id / 2) s.halves ≡ Some x → 1 ≤ x.number
    half_at-out x is = half_at-later d done s.halves right.halves (record { path = path_in id; number = n }) a part.0 part.1 path-back unknown later x is
