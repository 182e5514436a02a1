-- A wrap's master that works stays tied to its ports when it looks for what is to be put next.
use Rattle.std.specs.Prelude.{◌≡◌, ◌+◌, ◌<◌, ◌==◌, ℕ, suc, Bool, true, false, if◌then◌else◌, List, [], ◌∷◌, ◌++◌, length, slice_index_or, slice_set}
use Rattle.std.proofs.Common.{refl, sym, ap, ap₂, ◌∙◌, subst, ⊎_elim, arith, cond, append-nil, length-append, get_or-set_same, get_or-set_other}
use Rattle.std.proofs.lemmas.Bool.{cases_eq, eq-eqb, ne_eqb}
use Rattle.std.proofs.lemmas.List.{map-append, get_or_default}
use Rattle.ff_rec.specs.Lines.{Rec}
use Rattle.ff_rec.specs.Streams.{at, carried}
use Rattle.ff_rec.specs.declared.msg.Msg.TheVariants.{Item}
use Rattle.ff_net.specs.Logs.{fed, given_to, got_from}
use Rattle.ff_net.specs.Logs.{Gave as EventGave}
use Rattle.ff_node.specs.Runs.{Message}
use Rattle.ff_unit.specs.DealPairLaws.{Pair, IsInner, AreInner, on, on-append, on-other, AllByRecursion-append, AllByRecursion-front}
use Rattle.ff_loop.specs.Rounds.{RoundState, workers_of, log_of, taken_of, GoesRound}
use Rattle.ff_loop.specs.WrapMasters.{WrapState, owed, part_at}
use Rattle.ff_loop.specs.WrapTiedLaws.{HoldsFed, AnswersWhole, TiedWorks}

-- a task that may be given, as a message
carried-if : (x : Rec) (b : Bool) → cond b (Item x ∷ []) [] ≡ carried (cond b (x ∷ []) [])
carried-if x true = refl
carried-if x false = refl

-- one answer more is owed
length-given : (n : ℕ) (xs : List Rec) (x : Rec) (i j : ℕ) → i ≡ j → n + 0 ≡ length xs → n + 1 ≡ length (xs ++ (if j == i then x ∷ [] else []))
length-given n xs x i j same e = rw (eq-eqb j i (sym same)) (omega (arith, e, length-append xs (x ∷ [])))

length-given_other : (xs : List Rec) (x : Rec) (i j : ℕ) → (i ≡ j → ⊥) → length xs ≡ length (xs ++ (if j == i then x ∷ [] else []))
length-given_other xs x i j other = rw (ne_eqb j i (λ e. other (sym e))) (omega (arith, length-append xs []))

module _ (w : WrapState) (g : List (List Message)) (ps : List Pair) (t : TiedWorks w g ps) where
  -- what was put alone
  pub AreInner-put : AreInner (suc (workers_of w.round)) ps
  AreInner-put = AllByRecursion-front (IsInner (suc (workers_of w.round))) ps w.held t.inner

  -- other tasks, by the same log
  pub TiedWorks-kept : (r : RoundState) → GoesRound w.round r (log_of w.round) (taken_of w.round) → TiedWorks (record w { round = r }) g ps
  TiedWorks-kept r goes =
      let below : (j : ℕ) → j < workers_of r → j < workers_of w.round = λ j b. subst (λ n. j < n) goes.workers b in record {
        end = t.end;
        goes_on = t.goes_on;
        inner = subst (λ n. AreInner (suc n) (ps ++ w.held)) (sym goes.workers) t.inner;
        tasks = λ j b. t.tasks j (below j b) ∙ ap (λ l. carried (given_to j l)) (sym goes.log);
        results = ap (λ n. on n (ps ++ w.held)) goes.workers ∙ t.results ∙ ap (λ l. carried l) (sym goes.taken);
        fed_in = subst (λ l. HoldsFed (slice_index_or w.live 0 false) (at g 0) (fed l)) (sym goes.log) t.fed_in;
        answers = λ j b. subst (λ l. AnswersWhole l j (part_at w j).sends (at g (suc j))) (sym goes.log) (t.answers j (below j b));
        owes = λ j b. subst (λ l. length (got_from j l) + owed (slice_index_or w.live (suc j) false) ≡ length (given_to j l)) (sym goes.log) (t.owes j (below j b));
      }

  module _ (none : w.held ≡ []) where
    -- nothing is held
    pub put_all : ps ++ w.held ≡ ps
    put_all = ap (λ h. ps ++ h) none ∙ append-nil ps

    -- a task is held for worker `j`
    module _ (r : RoundState) (j : ℕ) (x : Rec) (below : j < workers_of w.round) (flags : length w.live ≡ suc (workers_of w.round))
        (free : slice_index_or w.live (suc j) true ≡ false) (goes : GoesRound w.round r (EventGave j x ∷ log_of w.round) (taken_of w.round)) where
      within : suc j < length w.live
      within = omega (arith, below, flags)

      tasks-given : (i : ℕ) → i < workers_of w.round → on i (ps ++ (j, Item x) ∷ []) ≡ carried (given_to i (EventGave j x ∷ log_of w.round))
      tasks-given i b =
          on-append i ps ((j, Item x) ∷ [])
          ∙ ap₂ (λ l m. l ++ m) (ap (on i) (sym put_all) ∙ t.tasks i b) (carried-if x (j == i))
          ∙ sym (map-append (λ y. Item y) (given_to i (log_of w.round)) (if j == i then x ∷ [] else []))

      owes-given : (i : ℕ) → i < workers_of w.round
          → length (got_from i (log_of w.round)) + owed (slice_index_or (slice_set w.live (suc j) true) (suc i) false) ≡ length (given_to i (EventGave j x ∷ log_of w.round))
      owes-given i b = ⊎_elim own other (cases_eq i j)
        where
          own : i ≡ j → length (got_from i (log_of w.round)) + owed (slice_index_or (slice_set w.live (suc j) true) (suc i) false) ≡ length (given_to i (EventGave j x ∷ log_of w.round))
          own same =
              let was : slice_index_or w.live (suc i) false ≡ false = ap (λ k. slice_index_or w.live (suc k) false) same ∙ get_or_default w.live (suc j) false true within ∙ free in
              let is : slice_index_or (slice_set w.live (suc j) true) (suc i) false ≡ true =
              ap (λ k. slice_index_or (slice_set w.live (suc j) true) (suc k) false) same ∙ get_or-set_same w.live (suc j) true false within in
              ap (λ f. length (got_from i (log_of w.round)) + owed f) is
              ∙ length-given (length (got_from i (log_of w.round))) (given_to i (log_of w.round)) x i j same
              (ap (λ f. length (got_from i (log_of w.round)) + owed f) (sym was) ∙ t.owes i b)

          other : (i ≡ j → ⊥) → length (got_from i (log_of w.round)) + owed (slice_index_or (slice_set w.live (suc j) true) (suc i) false) ≡ length (given_to i (EventGave j x ∷ log_of w.round))
          other ne =
              ap (λ f. length (got_from i (log_of w.round)) + owed f) (get_or-set_other w.live (suc j) (suc i) true false (λ e. ne (omega (arith, e))))
              ∙ t.owes i b
              ∙ length-given_other (given_to i (log_of w.round)) x i j ne

      pub TiedWorks-gives : TiedWorks (record w { round = r; live = slice_set w.live (suc j) true; held = (j, Item x) ∷ [] }) g ps
      TiedWorks-gives =
          let under : (i : ℕ) → i < workers_of r → i < workers_of w.round = λ i b. subst (λ n. i < n) goes.workers b in record {
            end = t.end;
            goes_on = t.goes_on;
            inner = subst (λ n. AreInner (suc n) (ps ++ (j, Item x) ∷ [])) (sym goes.workers)
                (AllByRecursion-append (IsInner (suc (workers_of w.round))) ps ((j, Item x) ∷ []) AreInner-put ((omega (arith, below), tt), tt));
            tasks = λ i b. tasks-given i (under i b) ∙ ap (λ l. carried (given_to i l)) (sym goes.log);
            results = ap (λ n. on n (ps ++ (j, Item x) ∷ [])) goes.workers
                ∙ on-append (workers_of w.round) ps ((j, Item x) ∷ [])
                ∙ ap (λ l. on (workers_of w.round) ps ++ l) (on-other j (workers_of w.round) (Item x) [] (λ e. omega (arith, below, e)))
                ∙ append-nil (on (workers_of w.round) ps)
                ∙ ap (on (workers_of w.round)) (sym put_all)
                ∙ t.results
                ∙ ap (λ l. carried l) (sym goes.taken);
            fed_in = subst (λ l. HoldsFed (slice_index_or (slice_set w.live (suc j) true) 0 false) (at g 0) (fed l)) (sym goes.log)
                (subst (λ f. HoldsFed f (at g 0) (fed (log_of w.round))) (sym (get_or-set_other w.live (suc j) 0 true false (λ e. omega (arith, e)))) t.fed_in);
            answers = λ i b.
                let was = t.answers i (under i b) in
                subst (λ l. AnswersWhole l i (part_at w i).sends (at g (suc i))) (sym goes.log) (record { inner = was.inner; answers = was.answers });
            owes = λ i b. subst (λ l. length (got_from i l) + owed (slice_index_or (slice_set w.live (suc j) true) (suc i) false) ≡ length (given_to i l)) (sym goes.log)
                (owes-given i (under i b));
          }

    -- a result is held
    pub TiedWorks-sends : (r : RoundState) (x : Rec) → GoesRound w.round r (log_of w.round) (taken_of w.round ++ x ∷ [])
        → TiedWorks (record w { round = r; held = (workers_of w.round, Item x) ∷ [] }) g ps
    TiedWorks-sends r x goes =
        let n = workers_of w.round in
        let under : (i : ℕ) → i < workers_of r → i < workers_of w.round = λ i b. subst (λ n. i < n) goes.workers b in record {
          end = t.end;
          goes_on = t.goes_on;
          inner = subst (λ n. AreInner (suc n) (ps ++ (workers_of w.round, Item x) ∷ [])) (sym goes.workers)
              (AllByRecursion-append (IsInner (suc n)) ps ((n, Item x) ∷ []) AreInner-put ((omega arith, tt), tt));
          tasks = λ i b.
              on-append i ps ((n, Item x) ∷ [])
              ∙ ap (λ l. on i ps ++ l) (on-other n i (Item x) [] (λ e. omega (arith, under i b, e)))
              ∙ append-nil (on i ps)
              ∙ ap (on i) (sym put_all)
              ∙ t.tasks i (under i b)
              ∙ ap (λ l. carried (given_to i l)) (sym goes.log);
          results = ap (λ n. on n (ps ++ (workers_of w.round, Item x) ∷ [])) goes.workers
              ∙ on-append n ps ((n, Item x) ∷ [])
              ∙ ap₂ (λ l m. l ++ m) (ap (on n) (sym put_all) ∙ t.results) (ap (λ b. cond b (Item x ∷ []) []) (eq-eqb n n refl))
              ∙ sym (map-append (λ y. Item y) (taken_of w.round) (x ∷ []))
              ∙ ap (λ l. carried l) (sym goes.taken);
          fed_in = subst (λ l. HoldsFed (slice_index_or w.live 0 false) (at g 0) (fed l)) (sym goes.log) t.fed_in;
          answers = λ j b. subst (λ l. AnswersWhole l j (part_at w j).sends (at g (suc j))) (sym goes.log) (t.answers j (under j b));
          owes = λ j b. subst (λ l. length (got_from j l) + owed (slice_index_or w.live (suc j) false) ≡ length (given_to j l)) (sym goes.log) (t.owes j (under j b));
        }
