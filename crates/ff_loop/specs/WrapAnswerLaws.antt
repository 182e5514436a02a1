-- What was taken at the in of a worker, with one message more.
use Rattle.std.specs.Prelude.{◌≡◌, ◌==◌, ℕ, true, false, List, [], ◌∷◌, ◌++◌}
use Rattle.std.proofs.Common.{refl, sym, ap, ◌∙◌, ⊎_elim, append-nil, append_assoc, cond}
use Rattle.std.proofs.lemmas.Bool.{eq-eqb}
use Rattle.std.proofs.lemmas.Bool.Decides.{eqb_tells}
use Rattle.std.proofs.lemmas.List.{map-append}
use Rattle.ff_rec.specs.Lines.{Rec}
use Rattle.ff_rec.specs.Streams.{IsOpenMsg, carried}
use Rattle.ff_rec.specs.declared.msg.Msg.TheVariants.{Item, Mark, Pick, Eos}
use Rattle.ff_net.specs.Logs.{Event, got_from}
use Rattle.ff_net.specs.Logs.{Got as EventGot}
use Rattle.ff_node.specs.Fits.{IsItemOrMark, grouped}
use Rattle.ff_node.specs.Runs.{Message}
use Rattle.ff_unit.specs.DealPairLaws.{AllByRecursion-front, AllByRecursion-back}
use Rattle.ff_unit.specs.MessageLaws.{IsOpen-append}
use Rattle.ff_loop.specs.WrapTiedLaws.{AnswersWhole, AnswersShut}

-- one group more
pub grouped-push : (groups : List (List Rec)) (group : List Rec) → grouped (groups ++ group ∷ []) ≡ grouped groups ++ (carried group ++ Mark ∷ [])
grouped-push [] group = append-nil (carried group ++ Mark ∷ [])
grouped-push (first ∷ groups) group =
    ap (λ l. (carried first ++ Mark ∷ []) ++ l) (grouped-push groups group)
    ∙ sym (append_assoc (carried first ++ Mark ∷ []) (grouped groups) (carried group ++ Mark ∷ []))

-- an answer is that of its worker alone
pub got_from-own : (j : ℕ) (answer : List Rec) (log : List Event) → got_from j (EventGot j answer ∷ log) ≡ got_from j log ++ answer ∷ []
got_from-own j answer log = ap (λ b. got_from j log ++ cond b (answer ∷ []) []) (eq-eqb j j refl)

pub got_from-other : (j i : ℕ) (answer : List Rec) (log : List Event) → (i ≡ j → ⊥) → got_from i (EventGot j answer ∷ log) ≡ got_from i log
got_from-other j i answer log other =
    ⊎_elim (λ (h : ((j == i) ≡ true) × (j ≡ i)). absurd (other (sym h.1)))
    (λ (h : ((j == i) ≡ false) × (j ≡ i → ⊥)). ap (λ b. got_from i log ++ cond b (answer ∷ []) []) h.0 ∙ append-nil (got_from i log)) (eqb_tells j i)

module _ (log : List Event) (j : ℕ) (part : List Rec) (ms : List Message) (a : AnswersWhole log j part ms) where
  -- a record of an answer
  pub AnswersWhole-item : (x : Rec) → AnswersWhole log j (part ++ x ∷ []) (ms ++ Item x ∷ [])
  AnswersWhole-item x = record {
    inner = IsOpen-append ms (Item x ∷ []) a.inner (tt, tt);
    answers = λ all.
        ap (λ l. l ++ Item x ∷ []) (a.answers (AllByRecursion-front IsItemOrMark ms (Item x ∷ []) all))
        ∙ append_assoc (grouped (got_from j log)) (carried part) (Item x ∷ [])
        ∙ ap (λ l. grouped (got_from j log) ++ l) (sym (map-append (λ y. Item y) part (x ∷ [])));
  }

  -- its Mark
  pub AnswersWhole-mark : (log' : List Event) → got_from j log' ≡ got_from j log ++ part ∷ [] → AnswersWhole log' j [] (ms ++ Mark ∷ [])
  AnswersWhole-mark log' got = record {
    inner = IsOpen-append ms (Mark ∷ []) a.inner (tt, tt);
    answers = λ all.
        ap (λ l. l ++ Mark ∷ []) (a.answers (AllByRecursion-front IsItemOrMark ms (Mark ∷ []) all))
        ∙ append_assoc (grouped (got_from j log)) (carried part) (Mark ∷ [])
        ∙ sym (grouped-push (got_from j log) part)
        ∙ ap (λ l. grouped l) (sym got)
        ∙ sym (append-nil (grouped (got_from j log')));
  }

  -- what no worker sends
  pub AnswersWhole-pick : (w : ℕ) → AnswersWhole log j part (ms ++ Pick w ∷ [])
  AnswersWhole-pick w = record {
    inner = IsOpen-append ms (Pick w ∷ []) a.inner (tt, tt);
    answers = λ all. absurd (AllByRecursion-back IsItemOrMark ms (Pick w ∷ []) all).0;
  }

  -- a log with the same answers
  pub AnswersWhole-log : (log' : List Event) → got_from j log' ≡ got_from j log → AnswersWhole log' j part ms
  AnswersWhole-log log' got = record {
    inner = a.inner;
    answers = λ all. a.answers all ∙ ap (λ l. grouped l ++ carried part) (sym got);
  }

-- of a worker that was told the end: another message, or its end
module _ (log : List Event) (j : ℕ) (ms : List Message) (a : AnswersShut log j true ms) where
  pub AnswersShut-more : (m : Message) → IsOpenMsg m → AnswersShut log j true (ms ++ m ∷ [])
  AnswersShut-more m is = record {
    front = a.front ++ m ∷ [];
    is = ap (λ l. l ++ m ∷ []) (a.is ∙ append-nil a.front) ∙ sym (append-nil (a.front ++ m ∷ []));
    inner = IsOpen-append a.front (m ∷ []) a.inner (is, tt);
    answers = λ all.
        let rest = a.answers (AllByRecursion-front IsItemOrMark a.front (m ∷ []) all) in
        (rest.0 ++ m ∷ [], ap (λ l. l ++ m ∷ []) rest.1 ∙ append_assoc (grouped (got_from j log)) rest.0 (m ∷ []));
  }

  pub AnswersShut-ends : AnswersShut log j false (ms ++ Eos ∷ [])
  AnswersShut-ends = record {
    front = a.front;
    is = ap (λ l. l ++ Eos ∷ []) (a.is ∙ append-nil a.front);
    inner = a.inner;
    answers = a.answers;
  }
