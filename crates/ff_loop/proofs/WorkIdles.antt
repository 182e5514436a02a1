-- A list of tasks is idle where none waits and none is out.
use Rattle.std.proofs.Common.{◌≡◌, Bool, true, false, [], sym, ap, subst, arith}
use Rattle.std.proofs.lemmas.List.{nil_from_length}
use Rattle.ff_rec.specs.Weights.{weigh}
use Rattle.ff_rec.proofs.WeightLaws.{weigh-append, weigh-one}
use Rattle.ff_net.specs.Logs.{Within}
use Rattle.ff_loop.specs.Events.{given, numbers, backs, IsIdle}
use Rattle.ff_loop.specs.Scheduling.{made_by}
use Rattle.ff_loop.specs.Worklists.{WorkState, work_made, Holds, IsRight, work_does}
use Rattle.ff_loop.specs.WorkLaws.{work_made-within, work_made-many}
use Rattle.ff_loop.proofs.Fewer.{Within-back}

-- where none is out and none waits, nothing is left
made-none : (b : Bool) (w : WorkState) → Holds b w → w.next ≡ [] → Within (work_made w.test w.limit w.events) (given w.events)
made-none false w within none = subst (λ l. Within l (given w.events)) (sym (work_made-within w within))
    (record { by = λ h. omega (arith, weigh-append h (given w.events) w.next, ap (weigh h) none) })
made-none true w past none = subst (λ l. Within l (given w.events)) (sym (work_made-many w.test w.limit w.events past.over)) (record { by = λ h. omega arith })

pub IsIdle-none : (w : WorkState) → IsRight w → w.out ≡ 0 → w.next ≡ [] → IsIdle (made_by work_does w) w.events
IsIdle-none w right none_out none =
    (made-none w.over w right.holds none, Within-back (backs w.events) (numbers w.events) right.balance (omega (arith, right.out_is)))

-- where nothing is left, none waits and none is out
next-none : (b : Bool) (w : WorkState) → Holds b w → Within (work_made w.test w.limit w.events) (given w.events) → w.next ≡ []
next-none false w within fewer =
    let all = subst (λ l. Within l (given w.events)) (work_made-within w within) fewer in
    nil_from_length w.next (omega (arith, all.by (λ _. 1), weigh-append (λ _. 1) (given w.events) w.next, weigh-one w.next))
next-none true w past fewer = past.tasks

pub next-idle : (w : WorkState) → IsRight w → IsIdle (made_by work_does w) w.events → w.next ≡ []
next-idle w right idle = next-none w.over w right.holds idle.0

pub out-idle : (w : WorkState) → IsRight w → IsIdle (made_by work_does w) w.events → w.out ≡ 0
out-idle w right idle = omega (arith, right.out_is, idle.1.by (λ _. 1), weigh-one (backs w.events), weigh-one (numbers w.events))
