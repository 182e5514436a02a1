-- The master of a wrap that works stays tied when it takes from a worker.
use Rattle.std.specs.Prelude.{◌≡◌, ◌+◌, ◌<◌, ℕ, suc, false, List, [], ◌∷◌, ◌++◌, length, slice_index_or, slice_set}
use Rattle.std.proofs.Common.{refl, sym, ap, ◌∙◌, subst, arith, get_or-set_same, get_or-set_other, length-append}
use Rattle.ff_rec.specs.Lines.{Rec}
use Rattle.ff_rec.specs.Streams.{at, added}
use Rattle.ff_rec.specs.declared.msg.Msg.TheVariants.{Item, Mark, Pick}
use Rattle.ff_net.specs.Logs.{Event, fed, given_to, got_from}
use Rattle.ff_node.specs.Runs.{Message}
use Rattle.ff_node.specs.Sends.{Sent, add, nothing_sent}
use Rattle.ff_unit.specs.Closing.{IsLive}
use Rattle.ff_unit.specs.DealPairLaws.{Pair}
use Rattle.ff_unit.specs.FlagLaws.{IsLive-within}
use Rattle.ff_unit.specs.TakenLaws.{at-added, at-added_other}
use Rattle.ff_loop.specs.Rounds.{workers_of, log_of}
use Rattle.ff_loop.specs.WrapAnswerLaws.{got_from-own, got_from-other, AnswersWhole-item, AnswersWhole-mark, AnswersWhole-pick, AnswersWhole-log}
use Rattle.ff_loop.specs.WrapMasters.{WrapState, IsAnswered, part_at, owed}
use Rattle.ff_loop.specs.WrapTiedLaws.{HoldsFed, AnswersWhole, TiedWorks}
use Rattle.ff_loop.specs.WrapWorksLaws.{by_number, works}

module _ (u : WrapState) (g : List (List Message)) (ps : List Pair) (t : TiedWorks u g ps) (j : ℕ) (is : j < workers_of u.round) (within : suc j < length g) where
  -- in 0 stays
  fed_in_at : (m : Message) → HoldsFed (slice_index_or u.live 0 false) (at (added g (suc j) m) 0) (fed (log_of u.round))
  fed_in_at m =
      subst (λ l. HoldsFed (slice_index_or u.live 0 false) l (fed (log_of u.round))) (sym (at-added_other g (suc j) 0 m (λ e. omega (arith, e)))) t.fed_in

  -- what is taken of one worker leaves what was taken of the others
  answers_at : (m : Message) (log : List Event) (parts : List Sent) (part : Sent) → slice_index_or parts j (nothing_sent false) ≡ part
      → ((i : ℕ) → (i ≡ j → ⊥) → slice_index_or parts i (nothing_sent false) ≡ part_at u i)
      → ((i : ℕ) → (i ≡ j → ⊥) → got_from i log ≡ got_from i (log_of u.round))
      → AnswersWhole log j part.sends (at g (suc j) ++ m ∷ [])
      → (i : ℕ) → i < workers_of u.round → AnswersWhole log i (slice_index_or parts i (nothing_sent false)).sends (at (added g (suc j) m) (suc i))
  answers_at m log parts part own others got whole i below =
      by_number (λ i. i < workers_of u.round → AnswersWhole log i (slice_index_or parts i (nothing_sent false)).sends (at (added g (suc j) m) (suc i))) j i
      (λ here. subst (λ (p : Sent). AnswersWhole log j p.sends (at (added g (suc j) m) (suc j))) (sym own)
      (subst (AnswersWhole log j part.sends) (sym (at-added g (suc j) m within)) whole))
      (λ other here. subst (λ (p : Sent). AnswersWhole log i p.sends (at (added g (suc j) m) (suc i))) (sym (others i other))
      (subst (AnswersWhole log i (part_at u i).sends) (sym (at-added_other g (suc j) (suc i) m (λ e. other (omega (arith, e)))))
      (AnswersWhole-log (log_of u.round) i (part_at u i).sends (at g (suc i)) (t.answers i here) log (got i other))))
      below

  -- what no worker sends
  pub works-pick : (w : ℕ) → TiedWorks u (added g (suc j) (Pick w)) ps
  works-pick w =
      works u g ps t u (added g (suc j) (Pick w)) refl refl refl refl refl (λ i. refl) (fed_in_at (Pick w))
      (answers_at (Pick w) (log_of u.round) u.parts (part_at u j) refl (λ i other. refl) (λ i other. refl)
      (AnswersWhole-pick (log_of u.round) j (part_at u j).sends (at g (suc j)) (t.answers j is) w))
      t.owes

  module _ (parts_are : length u.parts ≡ workers_of u.round) where
    own_part : (p : Sent) → slice_index_or (slice_set u.parts j p) j (nothing_sent false) ≡ p
    own_part p = get_or-set_same u.parts j p (nothing_sent false) (omega (arith, is, parts_are))

    other_part : (p : Sent) (i : ℕ) → (i ≡ j → ⊥) → slice_index_or (slice_set u.parts j p) i (nothing_sent false) ≡ part_at u i
    other_part p i other = get_or-set_other u.parts j i p (nothing_sent false) other

    -- a record of its answer
    pub works-part : (x : Rec) → TiedWorks (record u { parts = slice_set u.parts j (add (part_at u j) (x ∷ []) []) }) (added g (suc j) (Item x)) ps
    works-part x =
        let part : Sent = add (part_at u j) (x ∷ []) [] in
        works u g ps t (record u { parts = slice_set u.parts j part }) (added g (suc j) (Item x)) refl refl refl refl refl (λ i. refl) (fed_in_at (Item x))
        (answers_at (Item x) (log_of u.round) (slice_set u.parts j part) part (own_part part) (other_part part) (λ i other. refl)
        (AnswersWhole-item (log_of u.round) j (part_at u j).sends (at g (suc j)) (t.answers j is) x))
        t.owes

    -- its Mark
    pub works-answered : IsLive u.live (suc j) → (w : WrapState) → IsAnswered u j w → TiedWorks w (added g (suc j) Mark) ps
    works-answered on_j w a = subst (λ v. TiedWorks v (added g (suc j) Mark) ps) (sym a.same)
        (works u g ps t v (added g (suc j) Mark) refl refl refl a.round.workers a.round.taken (λ i. ap (λ l. given_to i l) a.round.log) fed_in
        (answers_at Mark (log_of w.round) (slice_set u.parts j (nothing_sent false)) (nothing_sent false) (own_part (nothing_sent false))
        (other_part (nothing_sent false)) got_other
        (AnswersWhole-mark (log_of u.round) j answer (at g (suc j)) (t.answers j is) (log_of w.round) got))
        owes)
      where
        answer : List Rec
        answer = (part_at u j).sends

        v : WrapState
        v = record u { round = w.round; over = w.over; parts = slice_set u.parts j (nothing_sent false); live = slice_set u.live (suc j) false }

        got : got_from j (log_of w.round) ≡ got_from j (log_of u.round) ++ answer ∷ []
        got = ap (λ l. got_from j l) a.round.log ∙ got_from-own j answer (log_of u.round)

        got_other : (i : ℕ) → (i ≡ j → ⊥) → got_from i (log_of w.round) ≡ got_from i (log_of u.round)
        got_other i other = ap (λ l. got_from i l) a.round.log ∙ got_from-other j i answer (log_of u.round) other

        fed_in : HoldsFed (slice_index_or v.live 0 false) (at (added g (suc j) Mark) 0) (fed (log_of w.round))
        fed_in =
            subst (λ b. HoldsFed b (at (added g (suc j) Mark) 0) (fed (log_of w.round))) (sym (get_or-set_other u.live (suc j) 0 false false (λ e. omega (arith, e))))
            (subst (λ l. HoldsFed (slice_index_or u.live 0 false) (at (added g (suc j) Mark) 0) (fed l)) (sym a.round.log) (fed_in_at Mark))

        owed_own : length (got_from j (log_of w.round)) + owed (slice_index_or v.live (suc j) false) ≡ length (given_to j (log_of u.round))
        owed_own =
            let before : length (got_from j (log_of u.round)) + 1 ≡ length (given_to j (log_of u.round)) =
            ap (λ b. length (got_from j (log_of u.round)) + owed b) (sym on_j) ∙ t.owes j is in
            let more : length (got_from j (log_of w.round)) ≡ length (got_from j (log_of u.round)) + 1 =
            ap (λ l. length l) got ∙ length-append (got_from j (log_of u.round)) (answer ∷ []) in
            let none : length (got_from j (log_of w.round)) + 0 ≡ length (given_to j (log_of u.round)) = omega (arith, before, more) in
            ap (λ b. length (got_from j (log_of w.round)) + owed b) (get_or-set_same u.live (suc j) false false (IsLive-within u.live (suc j) on_j)) ∙ none

        owed_other : (i : ℕ) → i < workers_of u.round → (i ≡ j → ⊥)
            → length (got_from i (log_of w.round)) + owed (slice_index_or v.live (suc i) false) ≡ length (given_to i (log_of u.round))
        owed_other i below other =
            ap (λ b. length (got_from i (log_of w.round)) + owed b) (get_or-set_other u.live (suc j) (suc i) false false (λ e. other (omega (arith, e))))
            ∙ ap (λ l. length l + owed (slice_index_or u.live (suc i) false)) (got_other i other)
            ∙ t.owes i below

        owes : (i : ℕ) → i < workers_of u.round
            → length (got_from i (log_of w.round)) + owed (slice_index_or v.live (suc i) false) ≡ length (given_to i (log_of u.round))
        owes i below =
            by_number (λ i. length (got_from i (log_of w.round)) + owed (slice_index_or v.live (suc i) false) ≡ length (given_to i (log_of u.round))) j i
            owed_own (owed_other i below)
