-- A unit that is told to abort before its first step.
use Rattle.std.specs.Prelude.{◌≡◌, ℕ, zero, suc, ◌+◌, ◌<◌, Bool, List, [], ◌∷◌, ◌++◌, length, replicate, slice_index}
use Rattle.std.proofs.Common.{refl, ◌∙◌, ap, sym, subst, arith, get_or-set_other}
use Rattle.ff_rec.specs.Streams.{IsOpen, at, added}
use Rattle.ff_rec.specs.declared.msg.Msg.TheVariants.{Abort as AbortMsg}
use Rattle.ff_node.specs.Runs.{Message, Told, took_on, gave_on}
use Rattle.ff_port.specs.Ends.{OthersStay, PutsAt}
use Rattle.ff_port.specs.declared.answers.Put.{Put as PutAnswer}
use Rattle.ff_port.specs.declared.answers.Put.TheVariants.{Done, Full, NoMemory}
use Rattle.ff_unit.specs.Units.{Doing, IsUnit, Ran, RanFrom, aborts, told_acts}
use Rattle.ff_unit.proofs.UnitRuns.{opening-leads}

-- the outs after Abort was put on the first `n`, and `m` more
abbrev pub abort_puts : ℕ → ℕ → List (List Message)
abort_puts zero m = replicate m []
abort_puts (suc n) m = (AbortMsg ∷ []) ∷ abort_puts n m

-- one out more
pub added-abort_puts : (n m : ℕ) → added (abort_puts n (suc m)) n AbortMsg ≡ abort_puts (suc n) m
added-abort_puts zero m = refl
added-abort_puts (suc n) m = ap (λ ls. (AbortMsg ∷ []) ∷ ls) (added-abort_puts n m)

pub at-abort_puts : (n m : ℕ) → at (abort_puts n (suc m)) n ≡ []
at-abort_puts zero m = refl
at-abort_puts (suc n) m = at-abort_puts n m

pub abort_puts-all : (n : ℕ) → abort_puts n 0 ≡ replicate n (AbortMsg ∷ [])
abort_puts-all zero = refl
abort_puts-all (suc n) = ap (λ ls. (AbortMsg ∷ []) ∷ ls) (abort_puts-all n)

length-none : (m : ℕ) → length (replicate {A = List Message} m []) ≡ m
length-none zero = refl
length-none (suc m) = ap (λ n. suc n) (length-none m)

pub length-abort_puts : (n m : ℕ) → length (abort_puts n m) ≡ n + m
length-abort_puts zero m = omega (arith, length-none m)
length-abort_puts (suc n) m = omega (arith, length-abort_puts n m)

-- the out behind those where it was put can take it
pub IsOpen-abort_puts : (puts : List (List Message)) (n m : ℕ) → puts ≡ abort_puts n (suc m) → IsOpen (at puts n)
IsOpen-abort_puts puts n m e = subst IsOpen (sym (ap (λ ls. at ls n) e ∙ at-abort_puts n m)) tt

-- where there is room, an Abort is put
pub PutsAt-abort : (grows : Bool) (k : ℕ) (puts : List (List Message)) (rooms : List ℕ) (answer : PutAnswer _) (puts' : List (List Message)) (rooms' : List ℕ)
    → PutsAt grows k puts rooms AbortMsg answer puts' rooms' → 0 < slice_index rooms k → puts' ≡ added puts k AbortMsg
PutsAt-abort grows k puts rooms Done puts' rooms' h room = h.0
PutsAt-abort grows k puts rooms (Full back) puts' rooms' h room = absurd (omega (arith, h.2))
PutsAt-abort grows k puts rooms (NoMemory back) puts' rooms' h room = absurd h.3

-- the room at another out stays
pub room-other : (rooms rooms' : List ℕ) (k j : ℕ) → OthersStay k rooms rooms' → k < j → 0 < slice_index rooms j → 0 < slice_index rooms' j
room-other rooms rooms' k j stays below room =
    let same : slice_index rooms' j ≡ slice_index rooms j =
    ap (λ ns. slice_index ns j) stays ∙ get_or-set_other rooms k j (slice_index rooms' k) 0 (λ e. omega arith) in
    omega (arith, room, same)

-- a put more, counted as the loop counts
pub abort_puts-next : (puts puts' : List (List Message)) (n m : ℕ) → puts ≡ abort_puts n (suc m) → puts' ≡ added puts n AbortMsg → puts' ≡ abort_puts (n + 1) m
abort_puts-next puts puts' n m was is =
    let next : suc n ≡ n + 1 = omega arith in
    is ∙ ap (λ ls. added ls n AbortMsg) was ∙ added-abort_puts n m ∙ ap (λ k. abort_puts k m) next

-- the acts of being told take nothing, and put Abort on each out
took_on-told : (gots : List (List Message)) (n : ℕ) → took_on gots (aborts n ++ Told ∷ []) ≡ gots
took_on-told gots zero = refl
took_on-told gots (suc n) = took_on-told gots n

gave_on-told : (n m r : ℕ) → n + m ≡ r → gave_on (replicate r []) (aborts n ++ Told ∷ []) ≡ abort_puts n m
gave_on-told zero m r e = let same : r ≡ m = omega (arith, e) in ap (λ k. replicate k []) same
gave_on-told (suc n) m r e =
    let rest : n + suc m ≡ r = omega (arith, e) in
    ap (λ ls. added ls n AbortMsg) (gave_on-told n (suc m) r rest) ∙ added-abort_puts n m

-- a unit that was told has run so
pub Ran-aborted : {U : Type 0} (d : Doing U) → IsUnit d → (u v : U) (gots puts gots' puts' : List (List Message)) → d.Made u → u ≡ d.opening u
    → gots ≡ replicate (d.ins u) [] → gots' ≡ gots → puts' ≡ replicate (d.outs u) (AbortMsg ∷ []) → v ≡ d.aborted u → Ran d v gots' puts'
Ran-aborted d laws u v gots puts gots' puts' made fresh none stay put is =
    let leads = laws.aborts_by u fresh in
    let n = d.outs u in
    let whole : n + 0 ≡ n = omega arith in
    subst (λ w. Ran d w gots' puts') (sym is)
    (subst (λ o. RanFrom d o (d.aborted u) gots' puts') (sym (opening-leads d laws u (told_acts n) (d.aborted u) leads ∙ sym fresh)) (
      made,
      record {
        acts = told_acts n;
        leads = leads;
        takes = stay ∙ none ∙ sym (took_on-told (replicate (d.ins u) []) n);
        gives = put ∙ sym (abort_puts-all n) ∙ sym (gave_on-told n 0 n whole);
      },
    ))

-- as many outs
pub none-outs : (puts : List (List Message)) (n : ℕ) → puts ≡ replicate n [] → (puts ≡ replicate (length puts) []) × (length puts ≡ n)
none-outs puts n e =
    let number : length puts ≡ n = ap length e ∙ length-none n in
    (e ∙ ap (λ k. replicate k []) (sym number), number)
