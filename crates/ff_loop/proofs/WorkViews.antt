-- The steps of a list of tasks by what its code changes.
use Rattle.std.proofs.Common.{◌≡◌, ℕ, ◌+◌, ◌-◌, ◌<◌, true, false, List, [], ◌∷◌, ◌++◌, length, sym, subst}
use Rattle.std.specs.List.{filter}
use Rattle.ff_rec.specs.Lines.{Rec}
use Rattle.ff_node.specs.Sends.{Sent}
use Rattle.ff_net.specs.Levels.{meets}
use Rattle.ff_net.specs.Sorts.{Sorts}
use Rattle.ff_net.specs.declared.tasks.Tasks.{Tasks}
use Rattle.ff_loop.specs.Events.{Offered, Given, Back, IsReady, IsNew, IsOut}
use Rattle.ff_loop.specs.Scheduling.{Goes, made_by}
use Rattle.ff_loop.specs.Worklists.{WorkEvent, WorkState, IsRight, work_does}
use Rattle.ff_loop.proofs.WorkSteps.{past_limit, tasks_of, Goes-fed_in, Goes-fed_over, IsReady-first, IsNew-next, Goes-gave_first, Goes-came_back, Goes-sorted, Goes-spilled, IsRight-took_result}

-- a result is taken out
pub IsRight-took_result-by : (u w : WorkState) (r : Rec) (rest taken : List Rec) → u ≡ w → IsRight w → u.results ≡ r ∷ rest → taken ≡ u.taken ++ r ∷ []
    → IsRight (record u { results = rest; taken = taken })
IsRight-took_result-by u w r rest taken is right first noted = subst (λ t. IsRight (record u { results = rest; taken = t })) (sym noted)
    (IsRight-took_result u r rest (subst IsRight (sym is) right) first)

module _ (u w : WorkState) (is : u ≡ w) (right : IsRight w) (events : List WorkEvent) where
  before : IsRight u
  before = subst IsRight (sym is) right

  by_events : (event : WorkEvent) (v : List WorkEvent → WorkState) → events ≡ event ∷ u.events → Goes work_does u (v (event ∷ u.events)) (event ∷ u.events)
      → Goes work_does w (v events) (event ∷ w.events)
  by_events event v noted goes = subst (λ w. Goes work_does w (v events) (event ∷ w.events)) is
      (subst (λ e. Goes work_does u (v e) (event ∷ u.events)) (sym noted) goes)

  pub Goes-fed_in-by : (t : Rec) (next : List Rec) → (u.room ≡ 0 → ⊥) → events ≡ Offered t ∷ u.events → next ≡ u.next ++ t ∷ []
      → Goes work_does w (record u { next = next; room = u.room - 1; events = events }) (Offered t ∷ w.events)
  Goes-fed_in-by t next some noted more = by_events (Offered t) (λ e. record u { next = next; room = u.room - 1; events = e }) noted
      (subst (λ l. Goes work_does u (record u { next = l; room = u.room - 1; events = Offered t ∷ u.events }) (Offered t ∷ u.events)) (sym more)
      (Goes-fed_in u t before some))

  pub Goes-fed_over-by : (t : Rec) → u.room ≡ 0 → events ≡ Offered t ∷ u.events
      → Goes work_does w (past_limit (record u { events = events })) (Offered t ∷ w.events)
  Goes-fed_over-by t none noted = by_events (Offered t) (λ e. past_limit (record u { events = e })) noted (Goes-fed_over u t before none)

  pub Goes-gave_first-by : (t : Rec) (rest : List Rec) → u.next ≡ t ∷ rest → events ≡ Given u.next_id t ∷ u.events
      → IsReady (made_by work_does w) t w.events × IsNew u.next_id w.events
      × Goes work_does w (record u { next = rest; next_id = u.next_id + 1; out = u.out + 1; events = events }) (Given u.next_id t ∷ w.events)
  Goes-gave_first-by t rest first noted = (
    subst (λ w. IsReady (made_by work_does w) t w.events) is (IsReady-first u t rest before first),
    subst (λ w. IsNew u.next_id w.events) is (IsNew-next u before),
    by_events (Given u.next_id t) (λ e. record u { next = rest; next_id = u.next_id + 1; out = u.out + 1; events = e }) noted
        (Goes-gave_first u t rest before first),
  )

  module _ (id : ℕ) (a : Sent) (is_out : IsOut id w.events) (noted : events ≡ Back id a ∷ u.events) where
    out_before : IsOut id u.events
    out_before = subst (λ w. IsOut id w.events) (sym is) is_out

    pub Goes-came_back-by : u.over ≡ true → Goes work_does w (record u { out = u.out - 1; events = events }) (Back id a ∷ w.events)
    Goes-came_back-by over = by_events (Back id a) (λ e. record u { out = u.out - 1; events = e }) noted (Goes-came_back u id a before out_before over)

    pub Goes-sorted-by : (y : Tasks) → u.over ≡ false → Sorts (meets u.test) a.sends (tasks_of u) y
        → Goes work_does w (record u { next = y.next; room = y.room; results = y.results; out = u.out - 1; events = events }) (Back id a ∷ w.events)
    Goes-sorted-by y fine sorts = by_events (Back id a) (λ e. record u { next = y.next; room = y.room; results = y.results; out = u.out - 1; events = e }) noted
        (Goes-sorted u id a before out_before y fine sorts)

    pub Goes-spilled-by : u.over ≡ false → u.room < length (filter (meets u.test) a.sends)
        → Goes work_does w (past_limit (record u { out = u.out - 1; events = events })) (Back id a ∷ w.events)
    Goes-spilled-by fine many = by_events (Back id a) (λ e. past_limit (record u { out = u.out - 1; events = e })) noted
        (Goes-spilled u id a before out_before fine many)
