-- Where nothing is known, nothing is known after a take or a put either.
use Rattle.std.proofs.Common.{◌≡◌, ℕ, zero, suc, ◌+◌, ◌<◌, ◌≤◌, List, [], ◌∷◌, ◌++◌, length, get_or, set, refl, ap, sym, ◌∙◌, subst, arith}
use Rattle.std.specs.Prelude.{slice_index, slice_set, Bool, true, Option, None, Some}
use Rattle.ff_rec.specs.declared.msg.Msg.{Msg}
use Rattle.ff_port.specs.Ends.{added, at, OthersStay, TakesAt, PutsAt}
use Rattle.ff_port.specs.declared.answers.Put.{Put as PutAnswer}
use Rattle.ff_port.specs.declared.answers.Put.TheVariants.{Done, Full, NoMemory}
use Rattle.ff_test_ports.specs.Fickle.{nothing_at}

pub nothing : {A : Type 0} (xs : List A) (k : ℕ) → slice_index (nothing_at xs) k ≡ 0
nothing [] k = refl
nothing (x ∷ xs) zero = refl
nothing (x ∷ xs) (suc k) = nothing xs k

set_nothing : {A : Type 0} (xs : List A) (k : ℕ) → slice_set (nothing_at xs) k 0 ≡ nothing_at xs
set_nothing [] k = refl
set_nothing (x ∷ xs) zero = refl
set_nothing (x ∷ xs) (suc k) = ap (λ l. 0 ∷ l) (set_nothing xs k)

pub nothing-set : {A : Type 0} (xs : List A) (k : ℕ) (y : A) → nothing_at (slice_set xs k y) ≡ nothing_at xs
nothing-set [] k y = refl
nothing-set (x ∷ xs) zero y = refl
nothing-set (x ∷ xs) (suc k) y = ap (λ l. 0 ∷ l) (nothing-set xs k y)

pub OthersStay-nothing : {A : Type 0} (xs ys : List A) (k : ℕ) → nothing_at ys ≡ nothing_at xs → OthersStay k (nothing_at xs) (nothing_at ys)
OthersStay-nothing xs ys k same = same ∙ sym (set_nothing xs k) ∙ ap (λ n. slice_set (nothing_at xs) k n) (sym (nothing ys k))

pub nothing-takes : {T : Type 0} (k : ℕ) (gots gots' : List (List (Msg T))) (knowns knowns' : List ℕ) (answer : Option (Msg T))
    → TakesAt k gots knowns answer gots' knowns' → nothing_at gots' ≡ nothing_at gots
nothing-takes k gots gots' knowns knowns' None takes = ap nothing_at takes.0
nothing-takes k gots gots' knowns knowns' (Some m) takes = ap nothing_at takes ∙ nothing-set gots k (at gots k ++ m ∷ [])

pub nothing-puts : {T : Type 0} (grows : Bool) (k : ℕ) (puts puts' : List (List (Msg T))) (rooms rooms' : List ℕ) (m : Msg T) (answer : PutAnswer T)
    → PutsAt grows k puts rooms m answer puts' rooms' → nothing_at puts' ≡ nothing_at puts
nothing-puts grows k puts puts' rooms rooms' m Done h = ap nothing_at h.0 ∙ nothing-set puts k (at puts k ++ m ∷ [])
nothing-puts grows k puts puts' rooms rooms' m (Full back) h = ap nothing_at h.1
nothing-puts grows k puts puts' rooms rooms' m (NoMemory back) h = ap nothing_at h.1

pub TakesAt-nothing : {T : Type 0} (k : ℕ) (gots gots' : List (List (Msg T))) (knowns knowns' : List ℕ) (answer : Option (Msg T))
    → TakesAt k gots knowns answer gots' knowns' → TakesAt k gots (nothing_at gots) answer gots' (nothing_at gots')
TakesAt-nothing k gots gots' knowns knowns' None takes = (takes.0, nothing gots k, nothing gots' k)
TakesAt-nothing k gots gots' knowns knowns' (Some m) takes = takes

pub PutsAt-nothing : {T : Type 0} (grows : Bool) (k : ℕ) (puts puts' : List (List (Msg T))) (rooms rooms' : List ℕ) (m : Msg T) (answer : PutAnswer T)
    → PutsAt grows k puts rooms m answer puts' rooms' → PutsAt true k puts (nothing_at puts) m answer puts' (nothing_at puts')
PutsAt-nothing grows k puts puts' rooms rooms' m Done h =
    (h.0, let none : slice_index (nothing_at puts) k ≡ 0 = nothing puts k in omega (arith, none))
PutsAt-nothing grows k puts puts' rooms rooms' m (Full back) h = (h.0, h.1, nothing puts k, nothing puts' k)
PutsAt-nothing grows k puts puts' rooms rooms' m (NoMemory back) h = (h.0, h.1, refl, h.3)
