-- What the master of a wrap took and put at any moment is by its log.
use Rattle.std.specs.Prelude.{◌≡◌, ◌⊎◌, ◌<◌, ◌≤◌, ℕ, suc, Bool, true, false, List, [], ◌++◌, length, slice_index_or}
use Rattle.std.specs.List.{AllByRecursion}
use Rattle.std.proofs.Common.{refl, sym, ap, ◌∙◌, subst, ⊎_elim, arith, append-nil}
use Rattle.std.proofs.lemmas.Bool.{false≢true}
use Rattle.ff_rec.specs.Lines.{Rec}
use Rattle.ff_rec.specs.Streams.{GoesOn, at, carried, closed, unaborted}
use Rattle.ff_rec.specs.declared.msg.Msg.TheVariants.{Eos as EosMsg}
use Rattle.ff_net.specs.Logs.{AreMasterIns, BeginsLogged, BeginsMaster, BeginsWhole, HasEos, IsDone, came, came_out, fed, given_to, got_from}
use Rattle.ff_node.specs.Fits.{IsItemOrMark, grouped}
use Rattle.ff_node.specs.Runs.{Message, AllGoOn}
use Rattle.ff_port.specs.declared.answers.End.{End}
use Rattle.ff_port.specs.declared.answers.End.TheVariants.{Eos, Abort, Memory}
use Rattle.ff_unit.specs.Closing.{any_live, is_memory}
use Rattle.ff_unit.specs.DealPairLaws.{Pair, IsInner, on, on-append, AllByRecursion-front, IsOpen-on}
use Rattle.ff_unit.specs.MessageLaws.{IsOpen-carried, unaborted-closed}
use Rattle.ff_unit.specs.Units.{TookAbort}
use Rattle.ff_unit.specs.declared.mode.Mode.{Mode}
use Rattle.ff_unit.specs.declared.mode.Mode.TheVariants.{Live, Shut, Cut}
use Rattle.ff_loop.specs.Rounds.{IsLogged, test_of, limit_of, workers_of, log_of, taken_of, results_of}
use Rattle.ff_loop.specs.WrapMasters.{WrapState, BeginsWrap, part_at}
use Rattle.ff_loop.specs.WrapPortLaws.{HasEos-closed, HasEos-open, HasEos-put, BeginsWhole-put, BeginsWhole-carried, BeginsWhole-ended, HoldsFed-ended, HoldsFed-begins, HoldsFed-only, AnswersWhole-begins, AnswersShut-begins, IsTold-other, AllGoOn-at}
use Rattle.ff_loop.specs.WrapTiedLaws.{TiedShut, TiedAt, IsTied, end_by}

module _ (u : WrapState) (g : List (List Message)) (ps : List Pair) (l : IsLogged u.round) where
  -- the workers are given tasks alone
  tasks-at : (mode : Mode) → TiedAt mode u g ps → (j : ℕ) → j < workers_of u.round → BeginsWhole (unaborted (on j ps)) (given_to j (log_of u.round))
  tasks-at Live t j below =
      let xs = given_to j (log_of u.round) in
      BeginsWhole-put j ps u.held xs (BeginsWhole-carried (on j (ps ++ u.held)) xs [] xs (t.0.tasks j below) (append-nil xs))
  tasks-at Shut t j below =
      let xs = given_to j (log_of u.round) in
      BeginsWhole-put j ps u.held xs (BeginsWhole-ended false (on j (ps ++ u.held)) xs (t.tasks j below))
  tasks-at Cut t j below = BeginsWhole-put j ps u.held (given_to j (log_of u.round)) (t.tasks j below)

  -- no result is held once this is told
  pub out-shut : TiedShut u g ps → length (came (test_of u.round) (log_of u.round)) ≤ limit_of u.round → taken_of u.round ≡ came_out (test_of u.round) (log_of u.round)
  out-shut t within = sym (append-nil (taken_of u.round)) ∙ ap (λ rs. taken_of u.round ++ rs) (sym t.no_result) ∙ l.results within

  results-at : (mode : Mode) → TiedAt mode u g ps → length (came (test_of u.round) (log_of u.round)) ≤ limit_of u.round
      → BeginsWhole (unaborted (on (workers_of u.round) ps)) (came_out (test_of u.round) (log_of u.round))
  results-at Live t within =
      let n = workers_of u.round in
      let all = came_out (test_of u.round) (log_of u.round) in
      BeginsWhole-put n ps u.held all (BeginsWhole-carried (on n (ps ++ u.held)) (taken_of u.round) (results_of u.round) all t.0.results (l.results within))
  results-at Shut t within =
      let n = workers_of u.round in
      let all = came_out (test_of u.round) (log_of u.round) in
      let out : taken_of u.round ≡ all = out-shut t within in
      BeginsWhole-put n ps u.held all (BeginsWhole-ended (any_live u.live) (on n (ps ++ u.held)) all (t.results ∙ ap (λ xs. carried xs ++ end_by (any_live u.live)) out))
  results-at Cut t within = BeginsWhole-put (workers_of u.round) ps u.held (came_out (test_of u.round) (log_of u.round)) (t.results within)

  -- all was done, once this is told
  pub done-shut : TiedShut u g ps → IsDone (workers_of u.round) (limit_of u.round) (test_of u.round) (log_of u.round)
  done-shut t = record {
    all_given = record { by = λ h. let most = l.given_came.by h in let least = t.none_left.by h in omega (arith, most, least) };
    all_got = t.all_got;
  }

  ends-at : (mode : Mode) → TiedAt mode u g ps → (k : ℕ) → k < suc (workers_of u.round) → HasEos (on k ps)
      → HasEos (at g 0) × IsDone (workers_of u.round) (limit_of u.round) (test_of u.round) (log_of u.round)
  ends-at Live t k below h =
      let outs = suc (workers_of u.round) in
      absurd (HasEos-open (on k ps) (IsOpen-on outs k ps (AllByRecursion-front (IsInner outs) ps u.held t.0.inner)) h)
  ends-at Shut t k below h = (subst HasEos (sym t.fed_in.1) (HasEos-closed t.fed_in.0), done-shut t)
  ends-at Cut t k below h = t.ends k below (HasEos-put k ps u.held h)

  -- where what it took goes on to what its ins may carry
  fed-at : (mode : Mode) → TiedAt mode u g ps → (xs : List Rec) → GoesOn (unaborted (at g 0)) (carried xs)
      → (more : List Message) × (unaborted (at g 0) ≡ carried (fed (log_of u.round)) ++ more)
  fed-at Live t xs goes = HoldsFed-begins (slice_index_or u.live 0 false) (at g 0) (fed (log_of u.round)) xs t.0.fed_in goes
  fed-at Shut t xs goes = HoldsFed-begins false (at g 0) (fed (log_of u.round)) xs t.fed_in goes
  fed-at Cut t xs goes = t.fed_in xs goes

  answers-at : (mode : Mode) → TiedAt mode u g ps → (j : ℕ) → j < workers_of u.round → (ms : List Message) → GoesOn (unaborted (at g (suc j))) ms
      → AllByRecursion IsItemOrMark ms → (more : List Message) × (unaborted (at g (suc j)) ≡ grouped (got_from j (log_of u.round)) ++ more)
  answers-at Live t j below ms goes all =
      AnswersWhole-begins (log_of u.round) j (part_at u j).sends (at g (suc j)) ms (t.0.answers j below) all goes
  answers-at Shut t j below ms goes all =
      AnswersShut-begins (log_of u.round) j (slice_index_or u.live (suc j) false) (at g (suc j)) ms (t.answers j below) all goes
  answers-at Cut t j below ms goes all = t.answers j below ms goes all

  -- whether its last out has its Eos
  ended-shut : TiedShut u g ps → HasEos (on (workers_of u.round) ps) → any_live u.live ≡ false
  ended-shut t h = by (any_live u.live) refl
    where
      by : (b : Bool) → any_live u.live ≡ b → any_live u.live ≡ false
      by true e =
          let xs = taken_of u.round in
          let is : on (workers_of u.round) (ps ++ u.held) ≡ carried xs = t.results ∙ ap (λ b. carried xs ++ end_by b) e ∙ append-nil (carried xs) in
          absurd (HasEos-open (carried xs) (IsOpen-carried xs) (subst HasEos is (HasEos-put (workers_of u.round) ps u.held h)))
      by false e = e

  -- what it took and put is all, once that is there
  all-shut : TiedShut u g ps → HasEos (on (workers_of u.round) ps) → length (came (test_of u.round) (log_of u.round)) ≤ limit_of u.round → (xs : List Rec)
      → GoesOn (unaborted (at g 0)) (carried xs)
      → (unaborted (at g 0) ≡ closed (carried (fed (log_of u.round))))
      × ((w : ℕ) → w < workers_of u.round → unaborted (on w ps) ≡ closed (carried (given_to w (log_of u.round))))
      × (unaborted (on (workers_of u.round) ps) ≡ closed (carried (came_out (test_of u.round) (log_of u.round))))
  all-shut t h within xs goes = (
    whole (at g 0) (fed (log_of u.round)) (HoldsFed-ended (at g 0) (fed (log_of u.round)) xs t.fed_in goes),
    λ w below. whole (on w ps) (given_to w (log_of u.round)) (put w (t.last_alone none w below) ∙ t.tasks w below),
    whole (on n ps) (came_out (test_of u.round) (log_of u.round))
        (put n (IsTold-other EosMsg (suc n) u.held ps t.telling n (λ inner. HasEos-open (on n ps) inner h))
        ∙ t.results
        ∙ ap (λ b. carried (taken_of u.round) ++ end_by b) none
        ∙ ap (λ l. closed (carried l)) (out-shut t within)),
  )
    where
      n : ℕ
      n = workers_of u.round

      none : any_live u.live ≡ false
      none = ended-shut t h

      whole : (ms : List Message) (xs : List Rec) → ms ≡ closed (carried xs) → unaborted ms ≡ closed (carried xs)
      whole ms xs is = ap unaborted is ∙ unaborted-closed (carried xs) (IsOpen-carried xs)

      put : (j : ℕ) → on j u.held ≡ [] → on j ps ≡ on j (ps ++ u.held)
      put j e = sym (on-append j ps u.held ∙ ap (λ l. on j ps ++ l) e ∙ append-nil (on j ps))

  all-at : (mode : Mode) → TiedAt mode u g ps → HasEos (on (workers_of u.round) ps) → length (came (test_of u.round) (log_of u.round)) ≤ limit_of u.round
      → (xs : List Rec) → GoesOn (unaborted (at g 0)) (carried xs)
      → (unaborted (at g 0) ≡ closed (carried (fed (log_of u.round))))
      × ((w : ℕ) → w < workers_of u.round → unaborted (on w ps) ≡ closed (carried (given_to w (log_of u.round))))
      × (unaborted (on (workers_of u.round) ps) ≡ closed (carried (came_out (test_of u.round) (log_of u.round))))
  all-at Live t h within xs goes =
      let outs = suc (workers_of u.round) in
      let n = workers_of u.round in
      absurd (HasEos-open (on n ps) (IsOpen-on outs n ps (AllByRecursion-front (IsInner outs) ps u.held t.0.inner)) h)
  all-at Shut t h within xs goes = all-shut t h within xs goes
  all-at Cut t h within xs goes = absurd (t.last_open (HasEos-put (workers_of u.round) ps u.held h))

  -- until it was cut off it fed all that it took
  all-fed : (mode : Mode) → TiedAt mode u g ps → u.end ≡ Eos → (xs : List Rec) → GoesOn (unaborted (at g 0)) (carried xs)
      → (unaborted (at g 0) ≡ carried (fed (log_of u.round))) ⊎ (unaborted (at g 0) ≡ closed (carried (fed (log_of u.round))))
  all-fed Live t end xs goes = HoldsFed-only (slice_index_or u.live 0 false) (at g 0) (fed (log_of u.round)) xs t.0.fed_in goes
  all-fed Shut t end xs goes = HoldsFed-only false (at g 0) (fed (log_of u.round)) xs t.fed_in goes
  all-fed Cut t end xs goes = absurd (t.end end)

-- one that neither took an Abort nor was told to nor is short of memory will end by Eos
ends-by_eos : (end : End) → (end ≡ Abort → ⊥) → is_memory end ≡ false → end ≡ Eos
ends-by_eos Eos other enough = refl
ends-by_eos Abort other enough = absurd (other refl)
ends-by_eos Memory other enough = absurd (false≢true (sym enough))

-- by its log it begins to fit
module _ (u : WrapState) (gots puts : List (List Message)) (t : IsTied u gots puts) where
  begins-ins : (ins : List (List Message)) → AllGoOn gots ins → AreMasterIns (workers_of u.round) ins
      → BeginsLogged (workers_of u.round) (limit_of u.round) (test_of u.round) (log_of u.round) gots puts
  begins-ins ins goes are = record {
    fed_in = fed-at u gots t.given t.logged u.mode t.tied are.records fed_goes;
    answers = λ j below. answers-at u gots t.given t.logged u.mode t.tied j below (at ins (suc j)) (AllGoOn-at gots ins (suc j) (omega (arith, below, t.ins)) goes) (are.answers j below);
    results = λ within. subst (λ l. BeginsWhole (unaborted l) all) (sym last) (results-at u gots t.given t.logged u.mode t.tied within);
    ends = λ k below h. ends-at u gots t.given t.logged u.mode t.tied k below (subst HasEos (t.puts_are.each k below) h);
    whole = λ h within.
        let a = all-at u gots t.given t.logged u.mode t.tied (subst HasEos last h) within are.records fed_goes in (
          a.0,
          λ w below. ap unaborted (t.puts_are.each w (omega (arith, below))) ∙ a.1 w below,
          ap unaborted last ∙ a.2,
        );
  }
    where
      all : List Rec
      all = came_out (test_of u.round) (log_of u.round)

      last : at puts (workers_of u.round) ≡ on (workers_of u.round) t.given
      last = t.puts_are.each (workers_of u.round) (omega arith)

      fed_goes : GoesOn (unaborted (at gots 0)) (carried are.records)
      fed_goes = subst (GoesOn (unaborted (at gots 0))) are.fed_in (AllGoOn-at gots ins 0 (omega (arith, t.ins)) goes)

  begins-logged : BeginsMaster (workers_of u.round) (limit_of u.round) (test_of u.round) (log_of u.round) gots puts
  begins-logged = record {
    legal = t.logged.legal;
    tasks = λ w below.
        subst (λ l. BeginsWhole (unaborted l) (given_to w (log_of u.round))) (sym (t.puts_are.each w (omega (arith, below))))
        (tasks-at u gots t.given t.logged u.mode t.tied w below);
    by = begins-ins;
  }

  -- it is neither told to abort nor took an Abort
  no-abort : u.told ≡ false → (TookAbort gots → ⊥) → u.end ≡ Abort → ⊥
  no-abort told none e = ⊎_elim (λ (h : u.told ≡ true). false≢true (sym told ∙ h)) (λ (h : TookAbort gots). none h) (t.cause e)

  pub wrap-begins : BeginsWrap u gots puts
  wrap-begins = record {
    begins = begins-logged;
    logs_all = λ told none enough ins goes are.
        all-fed u gots t.given t.logged u.mode t.tied (ends-by_eos u.end (no-abort told none) enough) are.records
        (subst (GoesOn (unaborted (at gots 0))) are.fed_in (AllGoOn-at gots ins 0 (omega (arith, t.ins)) goes));
  }
