-- What a list of tasks holds stays as its events say.
use Rattle.std.proofs.Common.{◌≡◌, ℕ, ◌+◌, ◌-◌, ◌<◌, ◌≤◌, Bool, true, false, not, List, [], ◌∷◌, ◌++◌, length, refl, sym, ap, subst, ◌∙◌, append_assoc, arith, length-append}
use Rattle.std.specs.List.{AllByRecursion, filter}
use Rattle.ff_rec.specs.Lines.{Rec}
use Rattle.ff_rec.specs.Weights.{weigh}
use Rattle.ff_rec.proofs.Joins.{AllByRecursion-weaker}
use Rattle.ff_rec.proofs.WeightLaws.{weigh-append, weigh-one}
use Rattle.ff_node.specs.Sends.{Sent}
use Rattle.ff_net.specs.Levels.{meets}
use Rattle.ff_net.specs.Logs.{Within}
use Rattle.ff_net.specs.Sorts.{Sorts}
use Rattle.ff_net.specs.declared.tasks.Tasks.{Tasks}
use Rattle.ff_loop.specs.Events.{SchedEvent, Offered, Given, Back, given, numbers, backs, IsReady, IsNew, IsOut}
use Rattle.ff_loop.specs.Scheduling.{Goes, made_by}
use Rattle.ff_loop.specs.Worklists.{WorkState, came, work_made, IsWithin, IsPast, Holds, IsRight, work_does}
use Rattle.ff_loop.specs.WorkLaws.{work_made-within}

-- as many numbers as tasks
numbers-length : {T A : Type 0} (log : List (SchedEvent T A)) → length (numbers log) ≡ length (given log)
numbers-length [] = refl
numbers-length (Offered t ∷ log) = numbers-length log
numbers-length (Given id t ∷ log) = omega (arith, numbers-length log, length-append (given log) (t ∷ []))
numbers-length (Back id a ∷ log) = numbers-length log

-- a task is fed in
abbrev pub fed_in : WorkState → Rec → WorkState
fed_in w t = record w { next = w.next ++ t ∷ []; room = w.room - 1; events = Offered t ∷ w.events }

-- what waits is dropped
abbrev pub past_limit : WorkState → WorkState
past_limit w = record w { next = []; room = 0; results = []; over = true }

holds-fed_in : (b : Bool) (w : WorkState) (t : Rec) → Holds b w → (w.room ≡ 0 → ⊥) → Holds b (fed_in w t)
holds-fed_in false w t within some = record {
  tasks = sym (append_assoc (given w.events) w.next (t ∷ [])) ∙ ap (λ l. l ++ t ∷ []) within.tasks;
  room = omega (arith, within.room, some, length-append (came w.test w.events) (t ∷ []));
  results = within.results;
}
holds-fed_in true w t past some = absurd (some past.room)

pub Goes-fed_in : (w : WorkState) (t : Rec) → IsRight w → (w.room ≡ 0 → ⊥) → Goes work_does w (fed_in w t) (Offered t ∷ w.events)
Goes-fed_in w t right some = record {
  right = record {
    numbers_below = right.numbers_below;
    next_is = right.next_is;
    balance = right.balance;
    out_is = right.out_is;
    holds = holds-fed_in w.over w t right.holds some;
  };
  kind = refl;
  events = refl;
  taken = refl;
}

over-fed_in : (b : Bool) (w : WorkState) (t : Rec) → Holds b w → w.room ≡ 0 → w.limit < length (came w.test w.events ++ t ∷ [])
over-fed_in false w t within none = omega (arith, within.room, none, length-append (came w.test w.events) (t ∷ []))
over-fed_in true w t past none = omega (arith, past.over, length-append (came w.test w.events) (t ∷ []))

pub Goes-fed_over : (w : WorkState) (t : Rec) → IsRight w → w.room ≡ 0 → Goes work_does w (past_limit (record w { events = Offered t ∷ w.events })) (Offered t ∷ w.events)
Goes-fed_over w t right none = record {
  right = record {
    numbers_below = right.numbers_below;
    next_is = right.next_is;
    balance = right.balance;
    out_is = right.out_is;
    holds = record { over = over-fed_in w.over w t right.holds none; tasks = refl; room = refl; results = refl };
  };
  kind = refl;
  events = refl;
  taken = refl;
}

-- the first task that waits is given
abbrev pub gave_first : WorkState → Rec → List Rec → WorkState
gave_first w t rest = record w { next = rest; next_id = w.next_id + 1; out = w.out + 1; events = Given w.next_id t ∷ w.events }

holds-gave_first : (b : Bool) (w : WorkState) (t : Rec) (rest : List Rec) → Holds b w → w.next ≡ t ∷ rest → Holds b (gave_first w t rest)
holds-gave_first false w t rest within first = record {
  tasks = append_assoc (given w.events) (t ∷ []) rest ∙ ap (λ l. given w.events ++ l) (sym first) ∙ within.tasks;
  room = within.room;
  results = within.results;
}
holds-gave_first true w t rest past first = absurd (omega (arith, ap length past.tasks, ap length first))

pub Goes-gave_first : (w : WorkState) (t : Rec) (rest : List Rec) → IsRight w → w.next ≡ t ∷ rest
    → Goes work_does w (gave_first w t rest) (Given w.next_id t ∷ w.events)
Goes-gave_first w t rest right first = record {
  right = record {
    numbers_below = (omega arith, AllByRecursion-weaker (λ n. n < w.next_id) (λ n. n < w.next_id + 1) (λ n below. omega (arith, below)) (numbers w.events) right.numbers_below);
    next_is = omega (arith, right.next_is);
    balance = record { by = λ h. omega (arith, right.balance.by h) };
    out_is = omega (arith, right.out_is);
    holds = holds-gave_first w.over w t rest right.holds first;
  };
  kind = refl;
  events = refl;
  taken = refl;
}

ready-gave_first : (b : Bool) (w : WorkState) (t : Rec) (rest : List Rec) → Holds b w → w.next ≡ t ∷ rest
    → Within (t ∷ given w.events) (work_made w.test w.limit w.events)
ready-gave_first false w t rest within first = subst (Within (t ∷ given w.events)) (sym (work_made-within w within))
    (record { by = λ h. omega (arith, weigh-append h (given w.events) w.next, ap (weigh h) first) })
ready-gave_first true w t rest past first = absurd (omega (arith, ap length past.tasks, ap length first))

pub IsReady-first : (w : WorkState) (t : Rec) (rest : List Rec) → IsRight w → w.next ≡ t ∷ rest → IsReady (made_by work_does w) t w.events
IsReady-first w t rest right first = ready-gave_first w.over w t rest right.holds first

pub IsNew-next : (w : WorkState) → IsRight w → IsNew w.next_id w.events
IsNew-next w right = AllByRecursion-weaker (λ n. n < w.next_id) (λ n. ¬ (n ≡ w.next_id)) (λ n below same. omega (arith, below, same)) (numbers w.events) right.numbers_below

bound-first : (b : Bool) (w : WorkState) (t : Rec) (rest : List Rec) → Holds b w → w.next ≡ t ∷ rest → length (given w.events) < w.limit
bound-first false w t rest within first = omega (arith, within.room, ap length within.tasks, length-append (given w.events) w.next, ap length first)
bound-first true w t rest past first = absurd (omega (arith, ap length past.tasks, ap length first))

-- the numbers of tasks stay below the limit
pub next_id-first : (w : WorkState) (t : Rec) (rest : List Rec) → IsRight w → w.next ≡ t ∷ rest → w.next_id < w.limit
next_id-first w t rest right first = omega (arith, right.next_is, numbers-length w.events, bound-first w.over w t rest right.holds first)

pub out-first : (w : WorkState) (t : Rec) (rest : List Rec) → IsRight w → w.next ≡ t ∷ rest → w.out < w.limit
out-first w t rest right first = omega (arith, right.out_is, right.next_is, next_id-first w t rest right first)

-- a task that is out is counted
pub out-back : (w : WorkState) (id : ℕ) → IsRight w → IsOut id w.events → 1 ≤ w.out
out-back w id right is_out = omega (arith, right.out_is, is_out.by (λ _. 1), weigh-one (backs w.events), weigh-one (numbers w.events))

-- an answer came back
abbrev pub came_back : WorkState → ℕ → Sent → WorkState
came_back w id a = record w { out = w.out - 1; events = Back id a ∷ w.events }

abbrev pub tasks_of : WorkState → Tasks
tasks_of w = record { next = w.next; room = w.room; results = w.results }

-- its sends were sorted
abbrev pub sorted_back : WorkState → ℕ → Sent → Tasks → WorkState
sorted_back w id a y = record w { next = y.next; room = y.room; results = y.results; out = w.out - 1; events = Back id a ∷ w.events }

module _ (w : WorkState) (id : ℕ) (a : Sent) (right : IsRight w) (is_out : IsOut id w.events) where
  right-back : (v : WorkState) → v.events ≡ Back id a ∷ w.events → v.next_id ≡ w.next_id → v.out ≡ w.out - 1 → Holds v.over v → IsRight v
  right-back v events next_id out holds = record {
    numbers_below = subst (λ n. AllByRecursion (λ k. k < n) (numbers v.events)) (sym next_id)
        (subst (λ e. AllByRecursion (λ k. k < w.next_id) (numbers e)) (sym events) right.numbers_below);
    next_is = next_id ∙ right.next_is ∙ ap (λ e. length (numbers e)) (sym events);
    balance = subst (λ e. Within (backs e) (numbers e)) (sym events) is_out;
    out_is = omega (arith, out, right.out_is, out-back w id right is_out, ap (λ e. length (backs e)) events, ap (λ e. length (numbers e)) events);
    holds = holds;
  }

  -- past the limit it is dropped
  pub Goes-came_back : w.over ≡ true → Goes work_does w (came_back w id a) (Back id a ∷ w.events)
  Goes-came_back over =
      let past : IsPast w = subst (λ b. Holds b w) over right.holds in
      record {
        right = right-back (came_back w id a) refl refl refl (subst (λ b. Holds b (came_back w id a)) (sym over) (record {
          over = omega (arith, past.over, length-append (came w.test w.events) (filter (meets w.test) a.sends));
          tasks = past.tasks;
          room = past.room;
          results = past.results;
        }));
        kind = refl;
        events = refl;
        taken = refl;
      }

  -- within the limit it is sorted
  pub Goes-sorted : (y : Tasks) → w.over ≡ false → Sorts (meets w.test) a.sends (tasks_of w) y → Goes work_does w (sorted_back w id a y) (Back id a ∷ w.events)
  Goes-sorted y fine sorts =
      let within : IsWithin w = subst (λ b. Holds b w) fine right.holds in
      let spawned = filter (meets w.test) a.sends in
      let results = filter (λ r. not (meets w.test r)) a.sends in
      record {
        right = right-back (sorted_back w id a y) refl refl refl (subst (λ b. Holds b (sorted_back w id a y)) (sym fine) (record {
          tasks = ap (λ l. given w.events ++ l) sorts.next ∙ sym (append_assoc (given w.events) w.next spawned) ∙ ap (λ l. l ++ spawned) within.tasks;
          room = omega (arith, within.room, sorts.room, length-append (came w.test w.events) spawned);
          results = ap (λ l. w.taken ++ l) sorts.results ∙ sym (append_assoc w.taken w.results results) ∙ ap (λ l. l ++ results) within.results;
        }));
        kind = refl;
        events = refl;
        taken = refl;
      }

  -- it spawns more than there is room for
  pub Goes-spilled : w.over ≡ false → w.room < length (filter (meets w.test) a.sends)
      → Goes work_does w (past_limit (came_back w id a)) (Back id a ∷ w.events)
  Goes-spilled fine many =
      let within : IsWithin w = subst (λ b. Holds b w) fine right.holds in
      record {
        right = right-back (past_limit (came_back w id a)) refl refl refl (record {
          over = omega (arith, within.room, many, length-append (came w.test w.events) (filter (meets w.test) a.sends));
          tasks = refl;
          room = refl;
          results = refl;
        });
        kind = refl;
        events = refl;
        taken = refl;
      }

-- the first result is taken out
abbrev pub took_result : WorkState → Rec → List Rec → WorkState
took_result w r rest = record w { results = rest; taken = w.taken ++ r ∷ [] }

holds-took_result : (b : Bool) (w : WorkState) (r : Rec) (rest : List Rec) → Holds b w → w.results ≡ r ∷ rest → Holds b (took_result w r rest)
holds-took_result false w r rest within first = record {
  tasks = within.tasks;
  room = within.room;
  results = append_assoc w.taken (r ∷ []) rest ∙ ap (λ l. w.taken ++ l) (sym first) ∙ within.results;
}
holds-took_result true w r rest past first = absurd (omega (arith, ap length past.results, ap length first))

pub IsRight-took_result : (w : WorkState) (r : Rec) (rest : List Rec) → IsRight w → w.results ≡ r ∷ rest → IsRight (took_result w r rest)
IsRight-took_result w r rest right first = record {
  numbers_below = right.numbers_below;
  next_is = right.next_is;
  balance = right.balance;
  out_is = right.out_is;
  holds = holds-took_result w.over w r rest right.holds first;
}
