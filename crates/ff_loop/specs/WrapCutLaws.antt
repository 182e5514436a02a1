-- The master of a wrap that is cut off, and what it takes afterwards.
use Rattle.std.specs.Prelude.{◌≡◌, ◌≢◌, ◌+◌, ◌<◌, ◌≤◌, ℕ, suc, Bool, true, false, List, [], ◌∷◌, ◌++◌, length, slice_index_or}
use Rattle.std.proofs.Common.{refl, sym, ap, ◌∙◌, subst, arith, append_assoc}
use Rattle.std.proofs.lemmas.List.{map-append}
use Rattle.ff_rec.specs.Lines.{Rec}
use Rattle.ff_rec.specs.Streams.{IsOpen, at, carried, closed, unaborted}
use Rattle.ff_rec.specs.declared.msg.Msg.TheVariants.{Item, Mark, Pick, Eos as EosMsg, Abort as AbortMsg}
use Rattle.ff_net.specs.Logs.{HasEos, BeginsWhole, came, came_out, fed, given_to}
use Rattle.ff_node.specs.Runs.{Message}
use Rattle.ff_node.specs.Sends.{Sent}
use Rattle.ff_port.specs.declared.answers.End.{End}
use Rattle.ff_port.specs.declared.answers.End.TheVariants.{Eos, Abort}
use Rattle.ff_unit.specs.DealPairLaws.{Pair, on, on-append, on-on_outs, IsOpen-on, IsInner, AllByRecursion-front}
use Rattle.ff_unit.specs.Deals.{on_outs}
use Rattle.ff_unit.specs.MessageLaws.{unaborted-cut}
use Rattle.ff_unit.specs.declared.mode.Mode.TheVariants.{Cut}
use Rattle.ff_loop.specs.Rounds.{test_of, limit_of, workers_of, log_of, taken_of, results_of, IsLogged}
use Rattle.ff_loop.specs.WrapMasters.{WrapState, cut_off, part_at}
use Rattle.ff_loop.specs.WrapPortLaws.{HoldsFed-begins, AnswersWhole-begins}
use Rattle.ff_loop.specs.WrapTiedLaws.{TiedWorks, TiedCut}

-- no Eos stands in an open list with an Abort behind it
pub HasEos-cut : (ms : List Message) → IsOpen ms → HasEos (ms ++ AbortMsg ∷ []) → ⊥
HasEos-cut [] is h = h
HasEos-cut (Item x ∷ ms) is h = HasEos-cut ms is.1 h
HasEos-cut (Mark ∷ ms) is h = HasEos-cut ms is.1 h
HasEos-cut (Pick w ∷ ms) is h = HasEos-cut ms is.1 h
HasEos-cut (EosMsg ∷ ms) is h = is.0
HasEos-cut (AbortMsg ∷ ms) is h = is.0

-- what was put before an Abort is a beginning of what it would have become
pub begins_cut : (put held : List Message) (xs : List Rec) → IsOpen put → put ++ held ≡ carried xs → BeginsWhole (unaborted (put ++ AbortMsg ∷ [])) xs
begins_cut put held xs is e = record {
  more = closed held;
  is = ap (λ l. closed l) (sym e) ∙ append_assoc put held (EosMsg ∷ []) ∙ ap (λ l. l ++ closed held) (sym (unaborted-cut put is));
}

-- a message on every out stands behind what was put on each
pub on-told : (j n : ℕ) (m : Message) (ps : List Pair) → j < n → on j (ps ++ on_outs 0 n m) ≡ on j ps ++ m ∷ []
on-told j n m ps below =
    let from : 0 ≤ j = omega arith in
    let within : j < 0 + n = omega (arith, below) in
    on-append j ps (on_outs 0 n m) ∙ ap (λ l. on j ps ++ l) (on-on_outs j 0 n m from within)

module _ (u : WrapState) (g : List (List Message)) (ps : List Pair) where
  -- of a master that works
  module _ (logged : IsLogged u.round) (t : TiedWorks u g ps) where
    -- what was put is open, and what is held goes on with it
    put_open : (j : ℕ) → IsOpen (on j ps)
    put_open j = IsOpen-on (suc (workers_of u.round)) j ps (AllByRecursion-front (IsInner (suc (workers_of u.round))) ps u.held t.inner)

    cut_at : (j : ℕ) → j < suc (workers_of u.round) → on j (ps ++ on_outs 0 (suc (workers_of u.round)) AbortMsg) ≡ on j ps ++ AbortMsg ∷ []
    cut_at j below = on-told j (suc (workers_of u.round)) AbortMsg ps below

    no_eos : (j : ℕ) → j < suc (workers_of u.round) → HasEos (on j (ps ++ on_outs 0 (suc (workers_of u.round)) AbortMsg)) → ⊥
    no_eos j below h = HasEos-cut (on j ps) (put_open j) (subst HasEos (cut_at j below) h)

    results_begin : length (came (test_of u.round) (log_of u.round)) ≤ limit_of u.round
        → BeginsWhole (unaborted (on (workers_of u.round) (ps ++ on_outs 0 (suc (workers_of u.round)) AbortMsg))) (came_out (test_of u.round) (log_of u.round))
    results_begin few =
        let n = workers_of u.round in
        let all : taken_of u.round ++ results_of u.round ≡ came_out (test_of u.round) (log_of u.round) = logged.results few in
        let is : on n ps ++ (on n u.held ++ carried (results_of u.round)) ≡ carried (came_out (test_of u.round) (log_of u.round)) =
        sym (append_assoc (on n ps) (on n u.held) (carried (results_of u.round)))
        ∙ ap (λ l. l ++ carried (results_of u.round)) (sym (on-append n ps u.held) ∙ t.results)
        ∙ sym (map-append (λ x. Item x) (taken_of u.round) (results_of u.round))
        ∙ ap (λ l. carried l) all in
        subst (λ l. BeginsWhole (unaborted l) (came_out (test_of u.round) (log_of u.round))) (sym (cut_at n (omega arith)))
        (begins_cut (on n ps) (on n u.held ++ carried (results_of u.round)) (came_out (test_of u.round) (log_of u.round)) (put_open n) is)

    -- Abort is told on all outs; nothing is said of the rest of its state
    pub TiedCut-cut : (w : WrapState) → w.end ≢ Eos → TiedCut (record w { round = u.round; held = on_outs 0 (suc (workers_of u.round)) AbortMsg }) g ps
    TiedCut-cut w short = record {
      end = short;
      tasks = λ j below.
          let within : j < suc (workers_of u.round) = omega (arith, below) in
          subst (λ l. BeginsWhole (unaborted l) (given_to j (log_of u.round))) (sym (cut_at j within))
          (begins_cut (on j ps) (on j u.held) (given_to j (log_of u.round)) (put_open j) (sym (on-append j ps u.held) ∙ t.tasks j below));
      results = results_begin;
      ends = λ k below h. absurd (no_eos k below h);
      last_open = no_eos (workers_of u.round) (omega arith);
      fed_in = λ xs goes. HoldsFed-begins (slice_index_or u.live 0 false) (at g 0) (fed (log_of u.round)) xs t.fed_in goes;
      answers = λ j below ms goes all. AnswersWhole-begins (log_of u.round) j (part_at u j).sends (at g (suc j)) ms (t.answers j below) all goes;
      telling = record {
        next = 0;
        left = suc (workers_of u.round);
        within = omega arith;
        are = refl;
        inner = λ j from below. put_open j;
      };
    }

  -- what was put before a cut is a beginning
  pub TiedCut-works : (live : List Bool) (parts : List Sent) (e : End) → IsLogged u.round → TiedWorks u g ps → e ≢ Eos
      → TiedCut (record (cut_off (record u { parts = parts }) e) { live = live }) g ps
  TiedCut-works live parts e logged t short = TiedCut-cut logged t (record (cut_off (record u { parts = parts }) e) { live = live }) short

  -- and before it was told to abort
  pub TiedCut-told : (live : List Bool) → IsLogged u.round → TiedWorks u g ps
      → TiedCut (record u { live = live; held = on_outs 0 (suc (workers_of u.round)) AbortMsg; mode = Cut; end = Abort; told = true }) g ps
  TiedCut-told live logged t =
      let short : Abort ≢ Eos = λ e. absurd cc in
      TiedCut-cut logged t (record u { live = live; held = on_outs 0 (suc (workers_of u.round)) AbortMsg; mode = Cut; end = Abort; told = true }) short
