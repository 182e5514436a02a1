-- How the master goes on: one stretch behind another, at one seat and at all.
use Rattle.std.proofs.Common.{◌≡◌, ◌≢◌, ℕ, zero, suc, ◌<◌, ◌≤◌, Bool, false, List, [], ◌∷◌, ◌++◌, length, map, get_or, set, refl, sym, ap, ap₂, subst, ◌∙◌, arith, inl, inr, append_assoc, append-nil}
use Rattle.std.proofs.lemmas.Bool.{cases_eq}
use Rattle.std.proofs.lemmas.List.{map-set, get_or-set_same, get_or-set_other, get_or-map, length-map, length-replicate}
use Rattle.std.specs.List.{AllByRecursion}
use Rattle.ff_rec.specs.declared.msg.Msg.TheVariants.{Item}
use Rattle.ff_rec.specs.Streams.{items}
use Rattle.ff_unit.specs.MessageLaws.{items-append}
use Rattle.ff_port.proofs.Rows.{map-set_told}
use Rattle.ff_loop.specs.Events.{IsIdle}
use Rattle.ff_loop.specs.Moves.{Move, Gave, Got, events_on, asked, answered, numbers_to, numbers_from, IsLegal, IsDone}
use Rattle.ff_loop.specs.Masters.{MasterState, IsKept, HasDoneAll, Moves, Rests, opened_master}
use Rattle.ff_loop.specs.Scheduling.{Scheduling, made_by}
use Rattle.ff_tasks.specs.Crews.{IsManned}
use Rattle.ff_tasks.specs.Jobs.{JobState}
use Rattle.ff_tasks.specs.Seats.{SeatState, AreOpen, links, Stay}
use Rattle.ff_tasks.specs.Serving.{AreOf, Works, ServesAt, Serves, IsServed, WorksOff, given_at, came_at}
use Rattle.ff_tasks.proofs.Logs.{asked-append, answered-append, NoneFed-append, AreOf-append, asked-one, answered-one, asked-other, answered-other}

-- what all ends tell once one of them has passed more on
at-others : {E M X : Type 0} (f : E → List M) (what : List M → List X) (es : List E) (w : ℕ) (e e' : E) (more : ℕ → List X)
    → w < length es → e ≡ get_or es w e → what (f e') ≡ what (f e) ++ more w → ((j : ℕ) → w ≢ j → more j ≡ [])
    → (j : ℕ) → what (get_or (map f (set es w e')) j []) ≡ what (get_or (map f es) j []) ++ more j
at-others f what es w e e' more below here step none j = elim (cases_eq w j) [
  | inl is ↦ subst (λ k. what (get_or (map f (set es w e')) k []) ≡ what (get_or (map f es) k []) ++ more k) is
      (ap what (ap (λ l. get_or l w []) (map-set f es w e') ∙ get_or-set_same (map f es) w (f e') [] (subst (λ n. w < n) (sym (length-map es f)) below))
      ∙ step
      ∙ ap (λ l. what l ++ more w) (sym (get_or-map f es w e [] below ∙ ap f (sym here))))
  | inr other ↦ ap what (ap (λ l. get_or l j []) (map-set f es w e') ∙ get_or-set_other (map f es) w j (f e') [] (λ same. other (sym same)))
      ∙ sym (append-nil (what (get_or (map f es) j [])))
      ∙ ap (λ l. what (get_or (map f es) j []) ++ l) (sym (none j other))
]

AllByRecursion-set : {X : Type 0} (P : X → Type 0) (xs : List X) (w : ℕ) (x : X) → P x → AllByRecursion P xs → AllByRecursion P (set xs w x)
AllByRecursion-set P [] w x here all = tt
AllByRecursion-set P (y ∷ ys) zero x here all = (here, all.1)
AllByRecursion-set P (y ∷ ys) (suc w) x here all = (all.0, AllByRecursion-set P ys w x here all.1)

AllByRecursion-at : {X : Type 0} (P : X → Type 0) (xs : List X) (w : ℕ) (d : X) → w < length xs → AllByRecursion P xs → P (get_or xs w d)
AllByRecursion-at P [] w d below all = absurd (omega arith)
AllByRecursion-at P (y ∷ ys) zero d below all = all.0
AllByRecursion-at P (y ∷ ys) (suc w) d below all = AllByRecursion-at P ys w d (omega (arith, below)) all.1

module _ {T A : Type 0} where
  pub Stay-refl : (ss : List (SeatState T A)) → Stay ss ss
  Stay-refl ss = record { links = refl; untold = λ o. o }

  pub Stay-trans : (ss ss' ss'' : List (SeatState T A)) → Stay ss ss' → Stay ss' ss'' → Stay ss ss''
  Stay-trans ss ss' ss'' a b = record { links = b.links ∙ a.links; untold = λ o. b.untold (a.untold o) }

  pub Stay-same : (ss ss' : List (SeatState T A)) → ss' ≡ ss → Stay ss ss'
  Stay-same ss ss' same = subst (λ s. Stay ss s) (sym same) (Stay-refl ss)

  -- the seat of an untold worker is untold
  pub open-at : (ss : List (SeatState T A)) (w : ℕ) (s : SeatState T A) → w < length ss → s ≡ get_or ss w s → AreOpen ss → s.told ≡ false
  open-at ss w s below here o = ap (λ (s : SeatState T A). s.told) here ∙ AllByRecursion-at (λ s. s.told ≡ false) ss w s below o

  pub Stay-at : (ss : List (SeatState T A)) (w : ℕ) (s s' : SeatState T A) → w < length ss → s ≡ get_or ss w s → s'.link ≡ s.link → s'.told ≡ s.told
      → Stay ss (set ss w s')
  Stay-at ss w s s' below here link told = record {
    links = map-set_told (λ s. s.link) ss w s s' here link;
    untold = λ o. AllByRecursion-set (λ s. s.told ≡ false) ss w s' (told ∙ open-at ss w s below here o) o;
  }

  length-stay : (ss ss' : List (SeatState T A)) → Stay ss ss' → length ss' ≡ length ss
  length-stay ss ss' stay = sym (length-map ss' (λ s. s.link)) ∙ ap length stay.links ∙ length-map ss (λ s. s.link)

module _ {T A S : Type 0} (d : Scheduling T A S) where
  pub Works-refl : (m : MasterState T A S) → IsKept d m → Works d m [] m
  Works-refl m kept = record { kept = kept; log = refl; start = refl; taken = refl; workers = refl; unfed = tt }

  pub Works-rests : (m m' : MasterState T A S) → Rests d m m' → Works d m [] m'
  Works-rests m m' rests = record { kept = rests.kept; log = rests.log; start = rests.start; taken = rests.taken; workers = rests.workers; unfed = tt }

  Works-trans : (m m' m'' : MasterState T A S) (moves more : List (Move T A)) → Works d m moves m' → Works d m' more m'' → Works d m (more ++ moves) m''
  Works-trans m m' m'' moves more a b = record {
    kept = b.kept;
    log = b.log ∙ ap (λ l. more ++ l) a.log ∙ sym (append_assoc more moves m.log);
    start = b.start ∙ a.start;
    taken = b.taken ∙ a.taken;
    workers = b.workers ∙ a.workers;
    unfed = NoneFed-append more moves b.unfed a.unfed;
  }

  -- nothing went over a worker's rings
  pub ServesAt-none : (w : ℕ) (m : MasterState T A S) (s : SeatState T A) (m' : MasterState T A S) (s' : SeatState T A) → Works d m [] m'
      → items s'.put ≡ items s.put → items s'.got ≡ items s.got → ServesAt d w m s m' s'
  ServesAt-none w m s m' s' works put got = record {
    moves = [];
    works = works;
    of = tt;
    put = put ∙ sym (append-nil (items s.put));
    got = got ∙ sym (append-nil (items s.got));
  }

  -- a task was given
  pub ServesAt-gave : (w id : ℕ) (t : T) (m : MasterState T A S) (s : SeatState T A) (m' : MasterState T A S) (s' : SeatState T A) → Moves d m m' (Gave w id t)
      → s'.put ≡ s.put ++ Item t ∷ [] → s'.got ≡ s.got → ServesAt d w m s m' s'
  ServesAt-gave w id t m s m' s' moves put got = record {
    moves = Gave w id t ∷ [];
    works = record { kept = moves.kept; log = moves.log; start = moves.start; taken = moves.taken; workers = moves.workers; unfed = tt };
    of = (refl, tt);
    put = ap items put ∙ items-append s.put (Item t ∷ []) ∙ ap (λ l. items s.put ++ l) (sym (asked-one A w id t));
    got = ap items got ∙ sym (append-nil (items s.got));
  }

  -- an answer came
  pub ServesAt-got : (w id : ℕ) (a : A) (m : MasterState T A S) (s : SeatState T A) (m' : MasterState T A S) (s' : SeatState T A) → Moves d m m' (Got w id a)
      → s'.put ≡ s.put → s'.got ≡ s.got ++ Item a ∷ [] → ServesAt d w m s m' s'
  ServesAt-got w id a m s m' s' moves put got = record {
    moves = Got w id a ∷ [];
    works = record { kept = moves.kept; log = moves.log; start = moves.start; taken = moves.taken; workers = moves.workers; unfed = tt };
    of = (refl, tt);
    put = ap items put ∙ sym (append-nil (items s.put));
    got = ap items got ∙ items-append s.got (Item a ∷ []) ∙ ap (λ l. items s.got ++ l) (sym (answered-one T w id a));
  }

  pub ServesAt-trans : (w : ℕ) (m : MasterState T A S) (s : SeatState T A) (m' : MasterState T A S) (s' : SeatState T A) (m'' : MasterState T A S) (s'' : SeatState T A)
      → ServesAt d w m s m' s' → ServesAt d w m' s' m'' s'' → ServesAt d w m s m'' s''
  ServesAt-trans w m s m' s' m'' s'' a b = record {
    moves = b.moves ++ a.moves;
    works = Works-trans m m' m'' a.moves b.moves a.works b.works;
    of = AreOf-append w b.moves a.moves b.of a.of;
    put = b.put ∙ ap (λ l. l ++ asked w b.moves) a.put ∙ append_assoc (items s.put) (asked w a.moves) (asked w b.moves)
        ∙ ap (λ l. items s.put ++ l) (sym (asked-append w b.moves a.moves));
    got = b.got ∙ ap (λ l. l ++ answered w b.moves) a.got ∙ append_assoc (items s.got) (answered w a.moves) (answered w b.moves)
        ∙ ap (λ l. items s.got ++ l) (sym (answered-append w b.moves a.moves));
  }

  pub Serves-refl : (m : MasterState T A S) (ss : List (SeatState T A)) → IsKept d m → Serves d m ss m ss
  Serves-refl m ss kept = record {
    moves = [];
    works = Works-refl m kept;
    put = λ j below. sym (append-nil (given_at j ss));
    got = λ j below. sym (append-nil (came_at j ss));
  }

  pub Serves-trans : (m : MasterState T A S) (ss : List (SeatState T A)) (m' : MasterState T A S) (ss' : List (SeatState T A)) (m'' : MasterState T A S) (ss'' : List (SeatState T A))
      → Serves d m ss m' ss' → Serves d m' ss' m'' ss'' → Serves d m ss m'' ss''
  Serves-trans m ss m' ss' m'' ss'' a b = record {
    moves = b.moves ++ a.moves;
    works = Works-trans m m' m'' a.moves b.moves a.works b.works;
    put = λ j below. b.put j (subst (λ n. j < n) (sym a.works.workers) below) ∙ ap (λ l. l ++ asked j b.moves) (a.put j below)
        ∙ append_assoc (given_at j ss) (asked j a.moves) (asked j b.moves) ∙ ap (λ l. given_at j ss ++ l) (sym (asked-append j b.moves a.moves));
    got = λ j below. b.got j (subst (λ n. j < n) (sym a.works.workers) below) ∙ ap (λ l. l ++ answered j b.moves) (a.got j below)
        ∙ append_assoc (came_at j ss) (answered j a.moves) (answered j b.moves) ∙ ap (λ l. came_at j ss ++ l) (sym (answered-append j b.moves a.moves));
  }

  -- what one worker was given and answered, as all seats tell it
  pub Serves-at : (w : ℕ) (m : MasterState T A S) (ss : List (SeatState T A)) (s : SeatState T A) (m' : MasterState T A S) (s' : SeatState T A) → w < length ss
      → s ≡ get_or ss w s → ServesAt d w m s m' s' → Serves d m ss m' (set ss w s')
  Serves-at w m ss s m' s' below here serves = record {
    moves = serves.moves;
    works = serves.works;
    put = λ j within. at-others (λ (s : SeatState T A). s.put) items ss w s s' (λ j. asked j serves.moves) below here serves.put (λ j other. asked-other w j serves.moves serves.of other) j;
    got = λ j within. at-others (λ (s : SeatState T A). s.got) items ss w s s' (λ j. answered j serves.moves) below here serves.got (λ j other. answered-other w j serves.moves serves.of other) j;
  }

  pub IsServed-next : (m : MasterState T A S) (ss : List (SeatState T A)) (m' : MasterState T A S) (ss' : List (SeatState T A)) → IsServed d m ss → Serves d m ss m' ss' → Stay ss ss'
      → IsServed d m' ss'
  IsServed-next m ss m' ss' served serves stay = record {
    kept = serves.works.kept;
    count = length-stay ss ss' stay ∙ served.count ∙ sym serves.works.workers;
    few = omega (arith, length-stay ss ss' stay, served.few);
    untold = stay.untold served.untold;
  }

  -- a master that was opened over these seats and is idle has had its scheduler's tasks worked off
  pub WorksOff-idle : (before : S) (n : ℕ) (m0 m : MasterState T A S) (ss ss' : List (SeatState T A)) → m0 ≡ opened_master before n → length ss ≡ n
      → Serves d m0 ss m ss' → HasDoneAll d m → IsIdle (made_by d m.scheduler) (d.events m.scheduler) → WorksOff d before m.scheduler ss ss'
  WorksOff-idle before n m0 m ss ss' opened count serves done idle =
      let start : m.start ≡ before = serves.works.start ∙ ap (λ (m : MasterState T A S). m.start) opened in
      let many : length m.held ≡ length ss =
      serves.works.workers ∙ ap (λ (m : MasterState T A S). length m.held) opened ∙ length-replicate n [] ∙ sym count in
      let log : serves.moves ≡ m.log =
      sym (serves.works.log ∙ ap (λ (m : MasterState T A S). serves.moves ++ m.log) opened ∙ append-nil serves.moves) in
      let within : (j : ℕ) → j < length ss → j < length m0.held =
      λ j below. subst (λ k. j < k) (sym (ap (λ (m : MasterState T A S). length m.held) opened ∙ length-replicate n [] ∙ sym count)) below in
      record {
        right = serves.works.kept.right;
        kind = serves.works.kept.kind ∙ ap d.kind start;
        taken = serves.works.taken ∙ ap (λ (m : MasterState T A S). d.taken m.scheduler) opened;
        idle = idle;
        log = serves.moves;
        unfed = serves.works.unfed;
        events = serves.works.kept.events ∙ ap₂ (λ (s : S) l. events_on (d.events s) l) start (sym log);
        legal = subst (λ l. IsLegal (length ss) (d.made (d.kind before)) (d.events before) l) (sym log)
            (subst (λ k. IsLegal k (d.made (d.kind before)) (d.events before) m.log) many
            (subst (λ (s : S). IsLegal (length m.held) (d.made (d.kind s)) (d.events s) m.log) start serves.works.kept.legal));
        done = subst (λ l. IsDone (length ss) (d.made (d.kind before)) (d.events before) l) (sym log)
            (subst (λ k. IsDone k (d.made (d.kind before)) (d.events before) m.log) many
            (subst (λ (s : S). IsDone (length m.held) (d.made (d.kind s)) (d.events s) m.log) start done));
        queues = λ j below. record {
          more = get_or m.held j [];
          is = subst (λ l. numbers_to j l ≡ numbers_from j l ++ get_or m.held j []) (sym log) (serves.works.kept.queues j (subst (λ k. j < k) (sym many) below));
        };
        put = λ j below. serves.put j (within j below);
        got = λ j below. serves.got j (within j below);
      }

-- seats over the same rings are manned by the same jobs
pub IsManned-stay : {T A H : Type 0} (jobs : List (JobState T A H)) (ss ss' : List (SeatState T A)) → IsManned ss jobs → Stay ss ss' → IsManned ss' jobs
IsManned-stay jobs ss ss' manned stay = record {
  links = stay.links ∙ manned.links;
  begin = manned.begin;
  few = omega (arith, length-stay ss ss' stay, manned.few);
  untold = stay.untold manned.untold;
}
