-- The steps of a master by what its code changes.
use Rattle.std.proofs.Common.{◌≡◌, ℕ, ◌+◌, ◌<◌, ◌↔◌, Bool, IsTrue, List, [], ◌∷◌, ◌++◌, length, get_or, replicate, sym, ap, subst, ◌∙◌}
use Rattle.std.proofs.Math.ListN.{set}
use Rattle.std.proofs.lemmas.List.{get_or_read}
use Rattle.ff_loop.specs.Events.{Offered, Given, Back, IsReady, IsOut, NoneOut, IsIdle}
use Rattle.ff_loop.specs.Scheduling.{Scheduling, IsScheduling, Goes, made_by}
use Rattle.ff_loop.specs.Moves.{Move, Fed, Gave, Got, asked, answered, IsDone}
use Rattle.ff_loop.specs.Masters.{MasterState, IsKept, Moves}
use Rattle.ff_loop.specs.MasterLaws.{IsKept-opened}
use Rattle.ff_loop.proofs.MasterSteps.{Moves-fed, Moves-gave, IsOut-first, held-length, owed-held, Moves-got}
use Rattle.ff_loop.proofs.MasterEnds.{IsDone-idle, IsIdle-done}

-- a master by its parts
abbrev state : {T A S : Type 0} → S → S → List (List ℕ) → List (Move T A) → MasterState T A S
state s start held log = record { scheduler = s; start = start; held = held; log = log }

module _ {T A S : Type 0} (d : Scheduling T A S) where
  pub IsKept-opened-by : (s start : S) (held : List (List ℕ)) (log : List (Move T A)) (n : ℕ) → IsScheduling d → d.IsRight s → NoneOut (d.events s)
      → start ≡ s → held ≡ replicate n [] → log ≡ [] → IsKept d (state s start held log)
  IsKept-opened-by s start held log n sound right none_out is none empty = subst (λ l. IsKept d (state s start held l)) (sym empty)
      (subst (λ h. IsKept d (state s start h [])) (sym none)
      (subst (λ o. IsKept d (state s o (replicate n []) [])) (sym is) (IsKept-opened d s n sound right none_out)))

  module _ (s start s' : S) (held : List (List ℕ)) (log log' : List (Move T A)) (m : MasterState T A S) (is : state s start held log ≡ m) where
    -- these steps, by what code changes
    pub Moves-fed-by : (t : T) → IsKept d m → Goes d s s' (Offered t ∷ d.events s) → log' ≡ Fed t ∷ log → Moves d m (state s' start held log') (Fed t)
    Moves-fed-by t kept goes logged = subst (λ m. IsKept d m → Moves d m (state s' start held log') (Fed t)) is
        (λ kept. subst (λ l. Moves d (state s start held log) (state s' start held l) (Fed t)) (sym logged)
        (Moves-fed d (state s start held log) s' t kept goes)) kept

    pub Moves-gave-by : (w id : ℕ) (t : T) (queue queue' : List ℕ) → IsKept d m → w < length m.held → IsReady (made_by d s) t (d.events s)
        → Goes d s s' (Given id t ∷ d.events s) → queue ≡ get_or held w queue → queue' ≡ queue ++ id ∷ [] → log' ≡ Gave w id t ∷ log
        → Moves d m (state s' start (set held w queue') log') (Gave w id t)
    Moves-gave-by w id t queue queue' kept below ready goes at more logged =
        subst (λ m. IsKept d m → w < length m.held → Moves d m (state s' start (set held w queue') log') (Gave w id t)) is
        (λ kept below. subst (λ l. Moves d (state s start held log) (state s' start (set held w queue') l) (Gave w id t)) (sym logged)
        (subst (λ q. Moves d (state s start held log) (state s' start (set held w q) (Gave w id t ∷ log)) (Gave w id t))
        (ap (λ q. q ++ id ∷ []) (sym (get_or_read held w queue below at [])) ∙ sym more)
        (Moves-gave d (state s start held log) s' w id t kept below ready goes)))
        kept below

    pub IsOut-by : (w id : ℕ) (queue rest : List ℕ) → IsKept d m → w < length m.held → queue ≡ get_or held w queue → queue ≡ id ∷ rest → IsOut id (d.events s)
    IsOut-by w id queue rest kept below at first = subst (λ m. IsKept d m → w < length m.held → IsOut id (d.events s)) is
        (λ kept below. IsOut-first d (state s start held log) w id rest kept below (sym (get_or_read held w queue below at []) ∙ first)) kept below

    pub owed-held-by : (w : ℕ) (queue : List ℕ) → IsKept d m → w < length m.held → length (answered w m.log) < length (asked w m.log)
        → queue ≡ get_or held w queue → 0 < length queue
    owed-held-by w queue kept below owed at =
        subst (λ m. IsKept d m → w < length m.held → length (answered w m.log) < length (asked w m.log) → 0 < length queue) is
        (λ kept below owed. subst (λ q. 0 < length q) (sym (get_or_read held w queue below at [])) (owed-held d (state s start held log) w kept below owed))
        kept below owed

    pub out-by : (w : ℕ) (queue : List ℕ) → IsKept d m → w < length m.held → queue ≡ get_or held w queue
        → length queue + length (answered w m.log) ≡ length (asked w m.log)
    out-by w queue kept below at =
        subst (λ m. IsKept d m → w < length m.held → length queue + length (answered w m.log) ≡ length (asked w m.log)) is
        (λ kept below. subst (λ q. length q + length (answered w log) ≡ length (asked w log)) (sym (get_or_read held w queue below at []))
        (held-length d (state s start held log) w kept below))
        kept below

    pub Moves-got-by : (w id : ℕ) (a : A) (queue rest : List ℕ) → IsKept d m → w < length m.held → length (answered w m.log) < length (asked w m.log)
        → queue ≡ get_or held w queue → queue ≡ id ∷ rest → Goes d s s' (Back id a ∷ d.events s) → log' ≡ Got w id a ∷ log
        → Moves d m (state s' start (set held w rest) log') (Got w id a)
    Moves-got-by w id a queue rest kept below owed at first goes logged =
        subst (λ m. IsKept d m → w < length m.held → length (answered w m.log) < length (asked w m.log)
        → Moves d m (state s' start (set held w rest) log') (Got w id a)) is
        (λ kept below owed. subst (λ l. Moves d (state s start held log) (state s' start (set held w rest) l) (Got w id a)) (sym logged)
        (Moves-got d (state s start held log) s' w id rest a kept below owed (sym (get_or_read held w queue below at []) ∙ first) goes))
        kept below owed

    pub IsDone-by : (answer : Bool) → IsScheduling d → IsKept d m → IsTrue answer ↔ IsIdle (made_by d s) (d.events s)
        → IsTrue answer ↔ IsDone (length m.held) (d.made (d.kind m.start)) (d.events m.start) m.log
    IsDone-by answer sound kept idle =
        subst (λ m. IsKept d m → IsTrue answer ↔ IsDone (length m.held) (d.made (d.kind m.start)) (d.events m.start) m.log) is
        (λ kept. (
          λ tells. IsDone-idle d (state s start held log) sound kept (idle.0 tells),
          λ done. idle.1 (IsIdle-done d (state s start held log) kept done),
        ))
        kept
