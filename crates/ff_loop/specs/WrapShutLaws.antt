-- The master of a wrap that has done all stays tied when it takes a message.
use Rattle.std.specs.Prelude.{◌≡◌, ◌≢◌, ◌<◌, if◌then◌else◌, ℕ, suc, Bool, true, false, List, [], ◌∷◌, ◌++◌, length, slice_index_or, slice_set}
use Rattle.std.proofs.Common.{refl, sym, ap, ◌∙◌, subst, arith, append-nil, get_or-set_same, get_or-set_other}
use Rattle.std.proofs.lemmas.List.{map-append}
use Rattle.ff_rec.specs.Streams.{IsOpen, IsOpenMsg, at, added, carried, closed, unaborted}
use Rattle.ff_rec.specs.declared.msg.Msg.TheVariants.{Item, Eos as EosMsg, Abort as AbortMsg}
use Rattle.ff_net.specs.Logs.{HasEos, BeginsWhole, came_out, fed, given_to}
use Rattle.ff_node.specs.Runs.{Message}
use Rattle.ff_port.specs.declared.answers.End.TheVariants.{Eos}
use Rattle.ff_unit.specs.Closing.{IsLive, any_live}
use Rattle.ff_unit.specs.DealPairLaws.{Pair, on, on-append, on-own, on-other}
use Rattle.ff_unit.specs.FlagLaws.{IsLive-within}
use Rattle.ff_unit.specs.MessageLaws.{IsOpen-carried}
use Rattle.ff_unit.specs.TakenLaws.{at-added, at-added_other}
use Rattle.ff_loop.specs.Rounds.{test_of, workers_of, log_of, taken_of, results_of, IsLogged}
use Rattle.ff_loop.specs.WrapAnswerLaws.{AnswersShut-more, AnswersShut-ends}
use Rattle.ff_loop.specs.WrapCutLaws.{HasEos-cut, begins_cut}
use Rattle.ff_loop.specs.WrapMasters.{WrapState, closes_last}
use Rattle.ff_loop.specs.WrapPortLaws.{HasEos-closed, BeginsWhole-ended, HoldsFed-begins, AnswersShut-begins}
use Rattle.ff_loop.specs.WrapTiedLaws.{HoldsFed, AnswersShut, IsTold, TiedShut, TiedCut, end_by}
use Rattle.ff_loop.specs.WrapWorksLaws.{by_number}

module _ (u : WrapState) (g : List (List Message)) (ps : List Pair) (t : TiedShut u g ps) (none : u.held ≡ []) (any : any_live u.live ≡ true) where
  -- nothing is held: what was put, by out
  put_is : (j : ℕ) → on j ps ≡ on j (ps ++ u.held)
  put_is j = ap (on j) (sym (append-nil ps) ∙ ap (λ h. ps ++ h) (sym none))

  put_last : on (workers_of u.round) ps ≡ carried (taken_of u.round)
  put_last =
      put_is (workers_of u.round) ∙ t.results ∙ ap (λ b. carried (taken_of u.round) ++ end_by b) any ∙ append-nil (carried (taken_of u.round))

  -- a message for the last out
  last_own : (m : Message) → on (workers_of u.round) (ps ++ (workers_of u.round, m) ∷ []) ≡ on (workers_of u.round) ps ++ m ∷ []
  last_own m =
      on-append (workers_of u.round) ps ((workers_of u.round, m) ∷ [])
      ∙ ap (λ l. on (workers_of u.round) ps ++ l) (on-own (workers_of u.round) (workers_of u.round) m [] refl)

  last_other : (m : Message) (j : ℕ) → j < workers_of u.round → on j ((workers_of u.round, m) ∷ []) ≡ []
  last_other m j below = on-other (workers_of u.round) j m [] (λ e. omega (arith, below, e))

  last_told : (m : Message) → IsTold m (suc (workers_of u.round)) ((workers_of u.round, m) ∷ []) ps
  last_told m = record {
    next = workers_of u.round;
    left = 1;
    within = omega arith;
    are = refl;
    inner = λ j from below.
        let same : workers_of u.round ≡ j = omega (arith, from, below) in
        subst (λ i. IsOpen (on i ps)) same (subst IsOpen (sym put_last) (IsOpen-carried (taken_of u.round)));
  }

  -- what goes to the workers stays, where nothing is held for them
  others_put : (held : List Pair) (j : ℕ) → j < workers_of u.round → on j held ≡ [] → on j (ps ++ held) ≡ closed (carried (given_to j (log_of u.round)))
  others_put held j below empty = on-append j ps held ∙ ap (λ l. on j ps ++ l) empty ∙ append-nil (on j ps) ∙ put_is j ∙ t.tasks j below

  -- it is cut off: Abort is told on the last out; nothing is said of the rest of its state
  pub TiedCut-shut : IsLogged u.round → (w : WrapState) → w.end ≢ Eos
      → TiedCut (record w { round = u.round; held = (workers_of u.round, AbortMsg) ∷ [] }) g ps
  TiedCut-shut logged w short = record {
    end = short;
    tasks = λ j below.
        BeginsWhole-ended false (on j (ps ++ (workers_of u.round, AbortMsg) ∷ [])) (given_to j (log_of u.round))
        (others_put ((workers_of u.round, AbortMsg) ∷ []) j below (last_other AbortMsg j below));
    results = λ few.
        let all : taken_of u.round ++ results_of u.round ≡ came_out (test_of u.round) (log_of u.round) = logged.results few in
        subst (λ l. BeginsWhole (unaborted l) (came_out (test_of u.round) (log_of u.round))) (sym (last_own AbortMsg))
        (begins_cut (on (workers_of u.round) ps) (carried (results_of u.round)) (came_out (test_of u.round) (log_of u.round))
        (subst IsOpen (sym put_last) (IsOpen-carried (taken_of u.round)))
        (ap (λ l. l ++ carried (results_of u.round)) put_last ∙ sym (map-append (λ x. Item x) (taken_of u.round) (results_of u.round)) ∙ ap (λ l. carried l) all));
    ends = λ k below h. (
      subst HasEos (sym t.fed_in.1) (HasEos-closed t.fed_in.0),
      record { all_given = record { by = λ f. omega (arith, logged.given_came.by f, t.none_left.by f) }; all_got = t.all_got },
    );
    last_open = λ h.
        HasEos-cut (on (workers_of u.round) ps) (subst IsOpen (sym put_last) (IsOpen-carried (taken_of u.round))) (subst HasEos (last_own AbortMsg) h);
    fed_in = λ xs goes. HoldsFed-begins false (at g 0) (fed (log_of u.round)) xs t.fed_in goes;
    answers = λ j below ms goes all.
        AnswersShut-begins (log_of u.round) j (slice_index_or u.live (suc j) false) (at g (suc j)) ms (t.answers j below) all goes;
    telling = last_told AbortMsg;
  }

  module _ (j : ℕ) (within : suc j < length g) where
    -- what is taken of one worker leaves what was taken of the others
    answers_at : (m : Message) (live : List Bool) → ((i : ℕ) → (i ≡ j → ⊥) → slice_index_or live (suc i) false ≡ slice_index_or u.live (suc i) false)
        → AnswersShut (log_of u.round) j (slice_index_or live (suc j) false) (at g (suc j) ++ m ∷ [])
        → (i : ℕ) → i < workers_of u.round → AnswersShut (log_of u.round) i (slice_index_or live (suc i) false) (at (added g (suc j) m) (suc i))
    answers_at m live others whole i below =
        by_number (λ i. i < workers_of u.round → AnswersShut (log_of u.round) i (slice_index_or live (suc i) false) (at (added g (suc j) m) (suc i))) j i
        (λ here. subst (AnswersShut (log_of u.round) j (slice_index_or live (suc j) false)) (sym (at-added g (suc j) m within)) whole)
        (λ other here. subst (λ b. AnswersShut (log_of u.round) i b (at (added g (suc j) m) (suc i))) (sym (others i other))
        (subst (AnswersShut (log_of u.round) i (slice_index_or u.live (suc i) false)) (sym (at-added_other g (suc j) (suc i) m (λ e. other (omega (arith, e)))))
        (t.answers i here)))
        below

    -- it goes on
    shut_goes : (m : Message) (live : List Bool) (held : List Pair) → slice_index_or live 0 false ≡ false
        → ((i : ℕ) → i < workers_of u.round → AnswersShut (log_of u.round) i (slice_index_or live (suc i) false) (at (added g (suc j) m) (suc i)))
        → ((i : ℕ) → i < workers_of u.round → on i held ≡ [])
        → on (workers_of u.round) (ps ++ held) ≡ carried (taken_of u.round) ++ end_by (any_live live)
        → IsTold EosMsg (suc (workers_of u.round)) held ps → TiedShut (record u { live = live; held = held }) (added g (suc j) m) ps
    shut_goes m live held ended answers empty results telling = record {
      end = t.end;
      none_left = t.none_left;
      no_result = t.no_result;
      all_got = t.all_got;
      tasks = λ i below. others_put held i below (empty i below);
      results = results;
      fed_in = subst (λ l. HoldsFed false l (fed (log_of u.round))) (sym (at-added_other g (suc j) 0 m (λ e. omega (arith, e)))) t.fed_in;
      ended_0 = ended;
      answers = answers;
      telling = telling;
      last_alone = λ all i below. empty i below;
    }

    none_held : (i : ℕ) → i < workers_of u.round → on i u.held ≡ []
    none_held i below = ap (on i) none

    module _ (on_j : IsLive u.live (suc j)) (is : j < workers_of u.round) where
      live_answers : AnswersShut (log_of u.round) j true (at g (suc j))
      live_answers = subst (λ b. AnswersShut (log_of u.round) j b (at g (suc j))) on_j (t.answers j is)

      -- a message that it drops
      pub shut-drops : (m : Message) → IsOpenMsg m → TiedShut u (added g (suc j) m) ps
      shut-drops m open_m = shut_goes m u.live u.held t.ended_0
          (answers_at m u.live (λ i other. refl)
          (subst (λ b. AnswersShut (log_of u.round) j b (at g (suc j) ++ m ∷ [])) (sym on_j) (AnswersShut-more (log_of u.round) j (at g (suc j)) live_answers m open_m)))
          none_held t.results t.telling

      -- a worker's end
      pub shut-ends : TiedShut (closes_last (record u { live = slice_set u.live (suc j) false })) (added g (suc j) EosMsg) ps
      shut-ends = by (any_live live) refl
        where
          live : List Bool
          live = slice_set u.live (suc j) false

          ended : slice_index_or live 0 false ≡ false
          ended = get_or-set_other u.live (suc j) 0 false false (λ e. omega (arith, e)) ∙ t.ended_0

          answers : (i : ℕ) → i < workers_of u.round → AnswersShut (log_of u.round) i (slice_index_or live (suc i) false) (at (added g (suc j) EosMsg) (suc i))
          answers = answers_at EosMsg live (λ i other. get_or-set_other u.live (suc j) (suc i) false false (λ e. other (omega (arith, e))))
              (subst (λ b. AnswersShut (log_of u.round) j b (at g (suc j) ++ EosMsg ∷ [])) (sym (get_or-set_same u.live (suc j) false false (IsLive-within u.live (suc j) on_j)))
              (AnswersShut-ends (log_of u.round) j (at g (suc j)) live_answers))

          Closes : Bool → Type 0
          Closes b =
              TiedShut (if b then record u { live = live } else record u { live = live; held = (workers_of u.round, EosMsg) ∷ [] }) (added g (suc j) EosMsg) ps

          by : (b : Bool) → any_live live ≡ b → Closes (any_live live)
          by true e = subst Closes (sym e)
              (shut_goes EosMsg live u.held ended answers none_held (t.results ∙ ap (λ b. carried (taken_of u.round) ++ end_by b) (any ∙ sym e)) t.telling)
          by false e = subst Closes (sym e)
              (shut_goes EosMsg live ((workers_of u.round, EosMsg) ∷ []) ended answers (last_other EosMsg)
              (last_own EosMsg ∙ ap (λ l. l ++ EosMsg ∷ []) put_last ∙ ap (λ b. carried (taken_of u.round) ++ end_by b) (sym e))
              (last_told EosMsg))
