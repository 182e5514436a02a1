-- The steps of the scheduler of a division by what its code changes.
use Rattle.std.proofs.Common.{◌≡◌, ℕ, ◌==◌, Bool, true, Vec, vec_len, Global, length, ◌+◌, ◌-◌, ◌^◌, ◌/◌, ◌≤◌, List, [], ◌∷◌, ◌++◌, Option, Some, None, ℤ, refl, ap, ◌∙◌, sym, subst, arith}
use Rattle.std.proofs.lemmas.Bool.{eqb-true, eq-eqb}
use Rattle.std.proofs.lemmas.List.{nil_from_length}
use Rattle.ff_dc.specs.declared.rule.DcRule.{DcRule}
use Rattle.ff_dc.specs.Spans.{Span}
use Rattle.ff_dc.specs.Divisions.{division}
use Rattle.ff_loop.specs.Events.{Given, Back, IsOut}
use Rattle.ff_loop.specs.Scheduling.{Goes, Nexts}
use Rattle.ff_dc_tasks.specs.declared.task.DcTask.{DcTask}
use Rattle.ff_dc_tasks.specs.declared.place.Place.{Place}
use Rattle.ff_dc_tasks.specs.declared.place.Pair.{Pair}
use Rattle.ff_dc_tasks.specs.declared.halves.Half.{Half}
use Rattle.ff_dc_tasks.specs.declared.walk.Walk.{Walk}
use Rattle.ff_dc_tasks.specs.Paths.{number_in, path_in, IsLow, IsProper}
use Rattle.ff_dc_tasks.specs.Pairs.{task_of, half_at, Meets}
use Rattle.ff_dc_tasks.specs.Told.{DcEvent}
use Rattle.ff_dc_tasks.specs.Dividers.{DividerState, IsRight, IsOpened, TakesOne, divider_does}
use Rattle.ff_dc_tasks.proofs.GivenSteps.{NoneReady-none, TakesOne-pair, out-small, Nexts-gave}
use Rattle.ff_dc_tasks.proofs.BackSteps.{out-some, Goes-whole, Goes-half, Goes-pair, half_at-out}
use Rattle.ff_dc_tasks.proofs.DividerOpened.{IsRight-opened}

pub IsOpened-by : (rule : DcRule) (cut : ℕ) (whole : Span) (walk : Walk) (ready : List Pair) (halves : List (ℕ × Half)) (events : List DcEvent)
    → IsProper rule cut (division rule cut whole) → IsLow 24 (division rule cut whole)
    → walk ≡ record { cut = cut; whole = whole; todo = record { path = 1; part = whole } ∷ []; number = 0 } → ready ≡ [] → halves ≡ [] → events ≡ []
    → IsOpened rule cut whole (record { rule = rule; walk = walk; ready = ready; halves = halves; out = 0; values = None; events = events })
IsOpened-by rule cut whole walk ready halves events proper low is_walk no_pair no_half no_event = record {
  right = IsRight-opened rule cut whole _ proper low (
      ap (λ (w : Walk). record { rule = rule; walk = w; ready = ready; halves = halves; out = 0; values = None; events = events }) is_walk
      ∙ ap (λ (l : List Pair). record { rule = rule; walk = begun; ready = l; halves = halves; out = 0; values = None; events = events }) no_pair
      ∙ ap (λ (l : List (ℕ × Half)). record { rule = rule; walk = begun; ready = []; halves = l; out = 0; values = None; events = events }) no_half
      ∙ ap (λ (l : List DcEvent). record { rule = rule; walk = begun; ready = []; halves = []; out = 0; values = None; events = l }) no_event
      );
  rule = refl;
  cut = ap (λ (w : Walk). w.cut) is_walk;
  whole = ap (λ (w : Walk). w.whole) is_walk;
  events = no_event;
}
  where
    begun : Walk
    begun = record { cut = cut; whole = whole; todo = record { path = 1; part = whole } ∷ []; number = 0 }

pub TakesOne-pair-by : (u s : DividerState) → u ≡ s → (x : Pair) (rest : List Pair) (t : DcTask) → IsRight s → u.ready ≡ rest ++ x ∷ [] → t ≡ task_of x
    → TakesOne s x.place t (record u { ready = rest })
TakesOne-pair-by u s is x rest t right last same =
    subst (λ (v : DividerState). TakesOne v x.place t (record u { ready = rest })) is
    (subst (λ (task : DcTask). TakesOne u x.place task (record u { ready = rest })) (sym same) (TakesOne-pair u x rest (subst IsRight (sym is) right) last))

pub Nexts-gave-by : (s s1 u : DividerState) → u ≡ s1 → (place : Place) (t : DcTask) (id : ℕ) (events : List DcEvent) → IsRight s → TakesOne s place t s1
    → number_in id ≡ place.number → path_in id ≡ place.path → events ≡ Given id t ∷ u.events
    → Nexts divider_does s (Some (id, t)) (record u { out = u.out + 1; events = events })
Nexts-gave-by s s1 u is place t id events right takes number path noted =
    let same : record u { out = u.out + 1; events = Given id t ∷ u.events } ≡ record s { walk = s1.walk; ready = s1.ready; out = s.out + 1; events = Given id t ∷ s.events } =
    ap (λ (v : DividerState). record v { out = v.out + 1; events = Given id t ∷ v.events }) (is ∙ takes.rest) in
    subst (λ (l : List DcEvent). Nexts divider_does s (Some (id, t)) (record u { out = u.out + 1; events = l })) (sym noted)
    (subst (λ (v : DividerState). Nexts divider_does s (Some (id, t)) v) (sym same) (Nexts-gave s s1 place t right takes id number path))

pub out-small-by : (s s1 u : DividerState) → u ≡ s1 → (place : Place) (t : DcTask) → IsRight s → TakesOne s place t s1 → u.out + 1 ≤ 2 ^ 25
out-small-by s s1 u is place t right takes = omega (
  arith,
  out-small s s1 place t right takes,
  ap (λ (v : DividerState). v.out) is,
  ap (λ (v : DividerState). v.out) takes.rest,
)

module _ (u s : DividerState) (is : u ≡ s) (id : ℕ) (a : List ℤ) (right : IsRight s) (is_out : IsOut id s.events) where
  before : IsRight u
  before = subst IsRight (sym is) right

  out_before : IsOut id u.events
  out_before = subst (λ (v : DividerState). IsOut id v.events) (sym is) is_out

  pub out-some-by : 1 ≤ u.out
  out-some-by = out-some u id a before out_before

  pub half_at-out-by : (place : Place) → place.number ≡ number_in id → place.path ≡ path_in id → (place.number ≡ 0 → ⊥)
      → (x : Half) → half_at (place.path / 2) u.halves ≡ Some x → 1 ≤ x.number
  half_at-out-by place number path later x found = half_at-out u id a before out_before (omega (arith, number, later)) x
      (ap (λ (q : ℕ). half_at (q / 2) u.halves) (sym path) ∙ found)

  module _ (events : List DcEvent) (noted : events ≡ Back id a ∷ u.events) where
    by_events : (v : List DcEvent → DividerState) → Goes divider_does u (v (Back id a ∷ u.events)) (Back id a ∷ u.events)
        → Goes divider_does s (v events) (Back id a ∷ s.events)
    by_events v goes = subst (λ (w : DividerState). Goes divider_does w (v events) (Back id a ∷ w.events)) is
        (subst (λ (e : List DcEvent). Goes divider_does u (v e) (Back id a ∷ u.events)) (sym noted) goes)

    pub Goes-whole-by : (place : Place) → place.number ≡ number_in id → place.number ≡ 0
        → Goes divider_does s (record u { out = u.out - 1; values = Some a; events = events }) (Back id a ∷ s.events)
    Goes-whole-by place number zero = by_events (λ e. record u { out = u.out - 1; values = Some a; events = e })
        (Goes-whole u id a before out_before (sym number ∙ zero))

    module _ (place : Place) (number : place.number ≡ number_in id) (path : place.path ≡ path_in id) (later : place.number ≡ 0 → ⊥) (halves : List (ℕ × Half)) where
      meets : (x : Option Pair) → Meets u.halves place a x halves → Meets u.halves (record { path = path_in id; number = number_in id }) a x halves
      meets x met = subst (λ (q : Place). Meets u.halves q a x halves)
          (ap (λ (k : ℕ). record { path = k; number = place.number }) path ∙ ap (λ (k : ℕ). record { path = path_in id; number = k }) number) met

      pub Goes-half-by : Meets u.halves place a None halves
          → Goes divider_does s (record u { halves = halves; out = u.out - 1; events = events }) (Back id a ∷ s.events)
      Goes-half-by met = by_events (λ e. record u { halves = halves; out = u.out - 1; events = e })
          (Goes-half u id a before out_before (omega (arith, number, later)) halves (meets None met))

      pub Goes-pair-by : (x : Pair) (ready : List Pair) → Meets u.halves place a (Some x) halves → ready ≡ u.ready ++ x ∷ []
          → Goes divider_does s (record u { ready = ready; halves = halves; out = u.out - 1; events = events }) (Back id a ∷ s.events)
      Goes-pair-by x ready met more = by_events (λ e. record u { ready = ready; halves = halves; out = u.out - 1; events = e })
          (Goes-pair u id a before out_before (omega (arith, number, later)) halves x ready (meets (Some x) met) more)

pub Nexts-none-by : (s s1 : DividerState) (o : Option (ℕ × DcTask)) → IsRight s → s1 ≡ s → s.ready ≡ [] → s.walk.todo ≡ [] → o ≡ None → Nexts divider_does s o s1
Nexts-none-by s s1 o right same no_pair no_part is =
    subst (λ (x : Option (ℕ × DcTask)). Nexts divider_does s x s1) (sym is)
    (subst (λ (v : DividerState). Nexts divider_does s None v) (sym same)
    (NoneReady-none s right no_pair no_part, record { right = right; kind = refl; events = refl; taken = refl }))

-- what an empty list tells
pub is_empty-none : (ready : Vec Pair Global) (b : Bool) → b ≡ (vec_len ready == 0) → b ≡ true → ready.items ≡ []
is_empty-none ready b is it = nil_from_length ready.items (omega (arith, eqb-true (vec_len ready) 0 (sym is ∙ it), ready.ok))

pub none-is_empty : (ready : Vec Pair Global) (b : Bool) → b ≡ (vec_len ready == 0) → ready.items ≡ [] → b ≡ true
none-is_empty ready b is none = is ∙ eq-eqb (vec_len ready) 0 (omega (arith, ap length none, ready.ok))
