-- A wrap's master that has done all, and tells its workers the end.
use Rattle.std.specs.Prelude.{◌≡◌, ◌+◌, ◌<◌, ◌≤◌, ℕ, suc, true, false, List, [], ◌∷◌, ◌++◌, length, slice_index_or}
use Rattle.std.proofs.Common.{refl, sym, ap, ◌∙◌, subst, arith, append-nil}
use Rattle.std.proofs.lemmas.Bool.{false≢true}
use Rattle.std.proofs.lemmas.List.{get_or-replicate}
use Rattle.ff_rec.specs.Lines.{Rec}
use Rattle.ff_rec.specs.Streams.{at, carried}
use Rattle.ff_rec.specs.declared.msg.Msg.TheVariants.{Eos as EosMsg}
use Rattle.ff_net.specs.Logs.{Within, made, fed, given, given_to, got_from}
use Rattle.ff_node.specs.Runs.{Message}
use Rattle.ff_unit.specs.Closing.{any_live, all_live}
use Rattle.ff_unit.specs.DealPairLaws.{Pair, on, on-append, on-on_outs-behind, IsOpen-on}
use Rattle.ff_unit.specs.Deals.{on_outs}
use Rattle.ff_unit.specs.FlagLaws.{any_live-all, live-none}
use Rattle.ff_unit.specs.declared.mode.Mode.TheVariants.{Shut}
use Rattle.ff_loop.specs.Rounds.{RoundState, test_of, limit_of, workers_of, log_of, taken_of, results_of, GoesRound, NoneToGive}
use Rattle.ff_loop.specs.WrapMasters.{WrapState, owed, part_at}
use Rattle.ff_loop.specs.WrapCutLaws.{on-told}
use Rattle.ff_loop.specs.WrapNextLaws.{AreInner-put, put_all}
use Rattle.ff_loop.specs.WrapTiedLaws.{HoldsFed, AnswersShut, TiedWorks, TiedShut, end_by}

-- none is left to be given, by the same log
pub NoneToGive-goes : (s s' : RoundState) (out : List Rec) → GoesRound s s' (log_of s) out → NoneToGive s → NoneToGive s'
NoneToGive-goes s s' out goes none =
    subst (λ l. Within (made (limit_of s') (test_of s') l) (given l)) (sym goes.log)
    (subst (λ p. Within (made (limit_of s') p (log_of s)) (given (log_of s))) (sym goes.test)
    (subst (λ m. Within (made m (test_of s) (log_of s)) (given (log_of s))) (sym goes.limit) none))

module _ (w : WrapState) (g : List (List Message)) (ps : List Pair) (t : TiedWorks w g ps) (none : w.held ≡ []) (some : 1 ≤ workers_of w.round)
    (quiet : any_live w.live ≡ false) where
  -- every in of a worker is to be read
  some_read : any_live (false ∷ all_live (workers_of w.round)) ≡ true
  some_read = any_live-all (workers_of w.round) some

  got_all : (j : ℕ) → j < workers_of w.round → length (got_from j (log_of w.round)) ≡ length (given_to j (log_of w.round))
  got_all j below = omega (arith, t.owes j below, ap owed (live-none w.live (suc j) quiet))

  -- what was taken of a worker that is told the end
  shut_answers : (j : ℕ) → j < workers_of w.round → AnswersShut (log_of w.round) j (slice_index_or (false ∷ all_live (workers_of w.round)) (suc j) false) (at g (suc j))
  shut_answers j below =
      let was = t.answers j below in
      subst (λ f. AnswersShut (log_of w.round) j f (at g (suc j))) (sym (get_or-replicate (workers_of w.round) j true false below)) (record {
        front = at g (suc j);
        is = sym (append-nil (at g (suc j)));
        inner = was.inner;
        answers = λ all. (carried (part_at w j).sends, was.answers all);
      })

  told_tasks : (j : ℕ) → j < workers_of w.round → on j (ps ++ on_outs 0 (workers_of w.round) EosMsg) ≡ carried (given_to j (log_of w.round)) ++ EosMsg ∷ []
  told_tasks j below =
      on-told j (workers_of w.round) EosMsg ps below ∙ ap (λ l. l ++ EosMsg ∷ []) (ap (on j) (sym (put_all w g ps t none)) ∙ t.tasks j below)

  told_results : on (workers_of w.round) (ps ++ on_outs 0 (workers_of w.round) EosMsg) ≡ carried (taken_of w.round)
  told_results =
      let n = workers_of w.round in
      let behind : 0 + n ≤ n = omega arith in
      on-append n ps (on_outs 0 n EosMsg)
      ∙ ap (λ l. on n ps ++ l) (on-on_outs-behind n 0 n EosMsg behind)
      ∙ append-nil (on n ps)
      ∙ ap (on n) (sym (put_all w g ps t none))
      ∙ t.results

  pub TiedShut-tells : (r : RoundState) → NoneToGive w.round → GoesRound w.round r (log_of w.round) (taken_of w.round) → results_of r ≡ []
      → TiedShut (record w { round = r; live = false ∷ all_live (workers_of w.round); held = on_outs 0 (workers_of w.round) EosMsg; mode = Shut }) g ps
  TiedShut-tells r left goes no_result =
      let n = workers_of w.round in
      let under : (j : ℕ) → j < workers_of r → j < workers_of w.round = λ j b. subst (λ n. j < n) goes.workers b in record {
        end = t.end;
        none_left = NoneToGive-goes w.round r (taken_of w.round) goes left;
        no_result = no_result;
        all_got = λ j b. subst (λ l. length (got_from j l) ≡ length (given_to j l)) (sym goes.log) (got_all j (under j b));
        tasks = λ j b. told_tasks j (under j b) ∙ ap (λ l. carried (given_to j l) ++ EosMsg ∷ []) (sym goes.log);
        results = ap (λ k. on k (ps ++ on_outs 0 n EosMsg)) goes.workers
            ∙ told_results
            ∙ ap (λ l. carried l) (sym goes.taken)
            ∙ sym (append-nil (carried (taken_of r)))
            ∙ ap (λ b. carried (taken_of r) ++ end_by b) (sym some_read);
        fed_in = subst (λ l. HoldsFed false (at g 0) (fed l)) (sym goes.log)
            (subst (λ f. HoldsFed f (at g 0) (fed (log_of w.round))) (live-none w.live 0 quiet) t.fed_in);
        ended_0 = refl;
        answers = λ j b.
            subst (λ l. AnswersShut l j (slice_index_or (false ∷ all_live n) (suc j) false) (at g (suc j))) (sym goes.log) (shut_answers j (under j b));
        telling = record {
          next = 0;
          left = n;
          within = omega (arith, goes.workers);
          are = refl;
          inner = λ j from below. IsOpen-on (suc n) j ps (AreInner-put w g ps t);
        };
        last_alone = λ off. absurd (false≢true (sym off ∙ some_read));
      }
