-- The log of a master, one stretch of moves behind another.
use Rattle.std.proofs.Common.{◌≡◌, ◌≢◌, ℕ, ◌==◌, if◌then◌else◌, Bool, List, [], ◌∷◌, ◌++◌, refl, sym, ap, ◌∙◌, append_assoc, append-nil, eq-eqb}
use Rattle.std.proofs.lemmas.Bool.{cond-true, cond-false, ne_eqb}
use Rattle.ff_loop.specs.Events.{SchedEvent, backs}
use Rattle.ff_loop.specs.Moves.{Move, Fed, Gave, Got, events_on, asked, answered}
use Rattle.ff_tasks.specs.Loops.{NoneFed}
use Rattle.ff_tasks.specs.Serving.{AreOf}

pub asked-append : {T A : Type 0} (j : ℕ) (more log : List (Move T A)) → asked j (more ++ log) ≡ asked j log ++ asked j more
asked-append j [] log = sym (append-nil (asked j log))
asked-append j (Fed t ∷ more) log = asked-append j more log
asked-append j (Gave w id t ∷ more) log =
    ap (λ l. l ++ (if w == j then t ∷ [] else [])) (asked-append j more log) ∙ append_assoc (asked j log) (asked j more) (if w == j then t ∷ [] else [])
asked-append j (Got w id a ∷ more) log = asked-append j more log

pub answered-append : {T A : Type 0} (j : ℕ) (more log : List (Move T A)) → answered j (more ++ log) ≡ answered j log ++ answered j more
answered-append j [] log = sym (append-nil (answered j log))
answered-append j (Fed t ∷ more) log = answered-append j more log
answered-append j (Gave w id t ∷ more) log = answered-append j more log
answered-append j (Got w id a ∷ more) log =
    ap (λ l. l ++ (if w == j then a ∷ [] else [])) (answered-append j more log) ∙ append_assoc (answered j log) (answered j more) (if w == j then a ∷ [] else [])

pub NoneFed-append : {T A : Type 0} (more log : List (Move T A)) → NoneFed more → NoneFed log → NoneFed (more ++ log)
NoneFed-append [] log new old = old
NoneFed-append (Fed t ∷ more) log new old = absurd new
NoneFed-append (Gave w id t ∷ more) log new old = NoneFed-append more log new old
NoneFed-append (Got w id a ∷ more) log new old = NoneFed-append more log new old

pub AreOf-append : {T A : Type 0} (w : ℕ) (more log : List (Move T A)) → AreOf w more → AreOf w log → AreOf w (more ++ log)
AreOf-append w [] log new old = old
AreOf-append w (Fed t ∷ more) log new old = absurd new
AreOf-append w (Gave v id t ∷ more) log new old = (new.0, AreOf-append w more log new.1 old)
AreOf-append w (Got v id a ∷ more) log new old = (new.0, AreOf-append w more log new.1 old)

-- a worker has what was given to it
pub asked-one : {T : Type 0} (A : Type 0) (w id : ℕ) (t : T) → asked {A = A} w (Gave w id t ∷ []) ≡ t ∷ []
asked-one A w id t = cond-true (w == w) (t ∷ []) [] (eq-eqb w w refl)

pub answered-one : {A : Type 0} (T : Type 0) (w id : ℕ) (a : A) → answered {T = T} w (Got w id a ∷ []) ≡ a ∷ []
answered-one T w id a = cond-true (w == w) (a ∷ []) [] (eq-eqb w w refl)

-- and another has nothing of it
none-for : {X : Type 0} (xs : List X) (x : X) (v w j : ℕ) → v ≡ w → w ≢ j → xs ≡ [] → xs ++ (if v == j then x ∷ [] else []) ≡ []
none-for xs x v w j is other none =
    ap (λ l. l ++ (if v == j then x ∷ [] else [])) none ∙ cond-false (v == j) (x ∷ []) [] (ne_eqb v j (λ same. other (sym is ∙ same)))

pub asked-other : {T A : Type 0} (w j : ℕ) (moves : List (Move T A)) → AreOf w moves → w ≢ j → asked j moves ≡ []
asked-other w j [] of other = refl
asked-other w j (Fed t ∷ moves) of other = absurd of
asked-other w j (Gave v id t ∷ moves) of other = none-for (asked j moves) t v w j of.0 other (asked-other w j moves of.1 other)
asked-other w j (Got v id a ∷ moves) of other = asked-other w j moves of.1 other

pub answered-other : {T A : Type 0} (w j : ℕ) (moves : List (Move T A)) → AreOf w moves → w ≢ j → answered j moves ≡ []
answered-other w j [] of other = refl
answered-other w j (Fed t ∷ moves) of other = absurd of
answered-other w j (Gave v id t ∷ moves) of other = answered-other w j moves of.1 other
answered-other w j (Got v id a ∷ moves) of other = none-for (answered j moves) a v w j of.0 other (answered-other w j moves of.1 other)
