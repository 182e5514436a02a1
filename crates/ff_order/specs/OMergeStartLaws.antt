-- An ordered merge that made no step is tied to its ports.
use Rattle.std.specs.Prelude.{replicate}
use Rattle.std.proofs.Common.{ℕ, zero, suc, ◌<◌, ◌≤◌, List, [], ◌∷◌, ◌++◌, map, cond, refl, sym, ap, ◌∙◌, arith, le-ltb, mod-eq_of_lt}
use Rattle.std.proofs.lemmas.Bool.{false≢true}
use Rattle.std.proofs.lemmas.List.{length-replicate}
use Rattle.ff_rec.specs.declared.msg.Msg.TheVariants.{Pick}
use Rattle.ff_node.specs.Fits.{grouped, all_marks}
use Rattle.ff_node.specs.Runs.{Message}
use Rattle.ff_unit.specs.Closing.{all_live}
use Rattle.ff_unit.specs.FlagLaws.{length-all_live}
use Rattle.ff_order.specs.OMerges.{omerge_ins, first_due, opened_omerge}
use Rattle.ff_order.specs.OMergeTiedLaws.{ArePicksOf, PicksLeft, IsTied}
use Rattle.ff_order.specs.PortLaws.{FlagsFit}
use Rattle.ff_order.specs.declared.order.Order.{Order}
use Rattle.ff_order.specs.declared.order.Order.TheVariants.{InTurn, ByPick}
use Rattle.ff_unit.specs.TakenLaws.{at-none}

-- nothing was taken, at first
FlagsFit-start : (n : ℕ) → FlagsFit (all_live n) (replicate n [])
FlagsFit-start zero = tt
FlagsFit-start (suc n) = (tt, FlagsFit-start n)

PicksLeft-start : (order : Order) (n : ℕ) (ins : List (List Message)) (picks : List ℕ) → 1 ≤ n → ArePicksOf order n ins picks
    → PicksLeft order n (first_due order n) (replicate (omerge_ins order n) []) ins picks
PicksLeft-start InTurn n ins picks some are = record { from = 0; count = all_marks ins; is_due = sym (mod-eq_of_lt (omega arith)); are = are }
PicksLeft-start ByPick n ins picks some are = record {
  rest = picks;
  are = ap (λ b. cond b (n ∷ picks) picks) (sym (le-ltb n n (omega arith)));
  told = are.0 ∙ ap (λ l. l ++ map (λ w. Pick w) picks) (sym (at-none (suc n) n));
  within = are.1;
}

first_due-within : (order : Order) (n : ℕ) → 1 ≤ n → first_due order n < omerge_ins order n
first_due-within InTurn n some = omega arith
first_due-within ByPick n some = omega arith

pub IsTied-start : (order : Order) (n : ℕ) → 1 ≤ n → IsTied (opened_omerge order n) (replicate (omerge_ins order n) []) ([] ∷ [])
IsTied-start order n some = record {
  some = some;
  ins = length-replicate (omerge_ins order n) [];
  lives = length-all_live (omerge_ins order n);
  due = first_due-within order n some;
  put = [];
  puts_are = refl;
  tied = record {
    ys = [];
    is = refl;
    all = refl;
    ends = refl;
    flags = FlagsFit-start (omerge_ins order n);
    left = λ ins picks groups h. record {
      picks = picks;
      groups = groups;
      joins = refl;
      shares = λ j below. (h.hold j below).0 ∙ ap (λ l. l ++ grouped (groups j)) (sym (at-none (omerge_ins order n) j));
      lengths = λ j below. (h.hold j below).1;
      picks_left = PicksLeft-start order n ins picks some h.picks_are;
    };
  };
  ended = λ done. absurd (false≢true done);
  cause = λ e. absurd (cc);
}
