-- The master of a wrap that works stays tied when it takes a message.
use Rattle.std.specs.Prelude.{◌≡◌, ◌+◌, ◌<◌, ℕ, suc, true, false, List, [], ◌∷◌, ◌++◌, length, slice_index_or, slice_set}
use Rattle.std.proofs.Common.{refl, sym, ap, ◌∙◌, subst, ⊎_elim, arith, append-nil, get_or-set_same, get_or-set_other}
use Rattle.std.proofs.lemmas.Bool.{cases_eq}
use Rattle.ff_rec.specs.Lines.{Rec}
use Rattle.ff_rec.specs.Streams.{IsOpenMsg, at, added, carried, items}
use Rattle.ff_rec.specs.declared.msg.Msg.TheVariants.{Item, Eos as EosMsg}
use Rattle.ff_net.specs.Logs.{fed, given_to, got_from}
use Rattle.ff_node.specs.Runs.{Message}
use Rattle.ff_unit.specs.Closing.{IsLive}
use Rattle.ff_unit.specs.DealPairLaws.{Pair, on, AreInner}
use Rattle.ff_unit.specs.FlagLaws.{IsLive-within}
use Rattle.ff_unit.specs.MessageLaws.{IsOpen-append, items-append}
use Rattle.ff_unit.specs.TakenLaws.{at-added, at-added_other}
use Rattle.ff_loop.specs.Rounds.{workers_of, log_of, taken_of}
use Rattle.ff_loop.specs.WrapAnswerLaws.{AnswersWhole-log}
use Rattle.ff_loop.specs.WrapMasters.{WrapState, IsFed, part_at, owed}
use Rattle.ff_loop.specs.WrapTiedLaws.{HoldsFed, AnswersWhole, TiedWorks}

-- a fact on all numbers, by that on one of them and on the others
pub by_number : (P : ℕ → Type 0) (j i : ℕ) → P j → ((i ≡ j → ⊥) → P i) → P i
by_number P j i own other = ⊎_elim (λ (e : i ≡ j). subst P (sym e) own) (λ (e : i ≡ j → ⊥). other e) (cases_eq i j)

-- in 0 gives a record, another message that goes on, or its end
HoldsFed-item : (ms : List Message) (xs : List Rec) (x : Rec) → HoldsFed true ms xs → HoldsFed true (ms ++ Item x ∷ []) (xs ++ x ∷ [])
HoldsFed-item ms xs x h = (IsOpen-append ms (Item x ∷ []) h.0 (tt, tt), items-append ms (Item x ∷ []) ∙ ap (λ l. l ++ x ∷ []) h.1)

HoldsFed-drops : (ms : List Message) (xs : List Rec) (m : Message) → IsOpenMsg m → items (m ∷ []) ≡ [] → HoldsFed true ms xs → HoldsFed true (ms ++ m ∷ []) xs
HoldsFed-drops ms xs m is none h =
    (IsOpen-append ms (m ∷ []) h.0 (is, tt), items-append ms (m ∷ []) ∙ ap (λ l. items ms ++ l) none ∙ append-nil (items ms) ∙ h.1)

module _ (u : WrapState) (g : List (List Message)) (ps : List Pair) (t : TiedWorks u g ps) where
  -- it holds what it held, and its log tells of the same tasks for its workers
  pub works : (v : WrapState) (g' : List (List Message)) → v.end ≡ u.end → v.done ≡ u.done → v.held ≡ u.held → workers_of v.round ≡ workers_of u.round
      → taken_of v.round ≡ taken_of u.round → ((j : ℕ) → given_to j (log_of v.round) ≡ given_to j (log_of u.round))
      → HoldsFed (slice_index_or v.live 0 false) (at g' 0) (fed (log_of v.round))
      → ((j : ℕ) → j < workers_of u.round → AnswersWhole (log_of v.round) j (part_at v j).sends (at g' (suc j)))
      → ((j : ℕ) → j < workers_of u.round
      → length (got_from j (log_of v.round)) + owed (slice_index_or v.live (suc j) false) ≡ length (given_to j (log_of u.round)))
      → TiedWorks v g' ps
  works v g' end done held same taken given fed_in answers owes = record {
    end = end ∙ t.end;
    goes_on = done ∙ t.goes_on;
    inner = subst (λ h. AreInner (suc (workers_of v.round)) (ps ++ h)) (sym held) (subst (λ n. AreInner (suc n) (ps ++ u.held)) (sym same) t.inner);
    tasks = λ j below.
        ap (λ h. on j (ps ++ h)) held ∙ t.tasks j (subst (λ n. j < n) same below) ∙ ap (λ l. carried l) (sym (given j));
    results = ap (λ h. on (workers_of v.round) (ps ++ h)) held ∙ ap (λ n. on n (ps ++ u.held)) same ∙ t.results ∙ ap (λ l. carried l) (sym taken);
    fed_in = fed_in;
    answers = λ j below. answers j (subst (λ n. j < n) same below);
    owes = λ j below. owes j (subst (λ n. j < n) same below) ∙ ap (λ l. length l) (sym (given j));
  }

  -- in 0 gives
  module _ (on_0 : IsLive u.live 0) (within : 0 < length g) where
    fed_in_0 : HoldsFed true (at g 0) (fed (log_of u.round))
    fed_in_0 = subst (λ l. HoldsFed l (at g 0) (fed (log_of u.round))) on_0 t.fed_in

    answers_0 : (m : Message) (j : ℕ) → j < workers_of u.round → AnswersWhole (log_of u.round) j (part_at u j).sends (at (added g 0 m) (suc j))
    answers_0 m j below = subst (AnswersWhole (log_of u.round) j (part_at u j).sends) (sym (at-added_other g 0 (suc j) m (λ e. omega (arith, e)))) (t.answers j below)

    -- a record
    pub works-fed : (x : Rec) (w : WrapState) → IsFed u x w → TiedWorks w (added g 0 (Item x)) ps
    works-fed x w f =
        let r = f.round in
        let v : WrapState = record u { round = w.round; over = w.over } in
        subst (λ v. TiedWorks v (added g 0 (Item x)) ps) (sym f.same)
        (works v (added g 0 (Item x)) refl refl refl r.workers r.taken (λ j. ap (λ l. given_to j l) r.log)
        (subst (λ l. HoldsFed (slice_index_or u.live 0 false) (at (added g 0 (Item x)) 0) (fed l)) (sym r.log)
        (subst (λ b. HoldsFed b (at (added g 0 (Item x)) 0) (fed (log_of u.round) ++ x ∷ [])) (sym on_0)
        (subst (λ l. HoldsFed true l (fed (log_of u.round) ++ x ∷ [])) (sym (at-added g 0 (Item x) within)) (HoldsFed-item (at g 0) (fed (log_of u.round)) x fed_in_0))))
        (λ j below. AnswersWhole-log (log_of u.round) j (part_at u j).sends (at (added g 0 (Item x)) (suc j)) (answers_0 (Item x) j below) (log_of w.round) (ap (λ l. got_from j l) r.log))
        (λ j below. ap (λ l. length (got_from j l) + owed (slice_index_or u.live (suc j) false)) r.log ∙ t.owes j below))

    -- a message that it drops
    pub works-drops : (m : Message) → IsOpenMsg m → items (m ∷ []) ≡ [] → TiedWorks u (added g 0 m) ps
    works-drops m is none = works u (added g 0 m) refl refl refl refl refl (λ j. refl)
        (subst (λ b. HoldsFed b (at (added g 0 m) 0) (fed (log_of u.round))) (sym on_0)
        (subst (λ l. HoldsFed true l (fed (log_of u.round))) (sym (at-added g 0 m within)) (HoldsFed-drops (at g 0) (fed (log_of u.round)) m is none fed_in_0)))
        (answers_0 m) t.owes

    -- its end
    pub works-ends : TiedWorks (record u { live = slice_set u.live 0 false }) (added g 0 EosMsg) ps
    works-ends =
        let v : WrapState = record u { live = slice_set u.live 0 false } in
        works v (added g 0 EosMsg) refl refl refl refl refl (λ j. refl)
        (subst (λ b. HoldsFed b (at (added g 0 EosMsg) 0) (fed (log_of u.round))) (sym (get_or-set_same u.live 0 false false (IsLive-within u.live 0 on_0)))
        (subst (λ l. HoldsFed false l (fed (log_of u.round))) (sym (at-added g 0 EosMsg within)) (at g 0, refl, fed_in_0.0, fed_in_0.1)))
        (answers_0 EosMsg)
        (λ j below. ap (λ b. length (got_from j (log_of u.round)) + owed b) (get_or-set_other u.live 0 (suc j) false false (λ e. omega (arith, e))) ∙ t.owes j below)
