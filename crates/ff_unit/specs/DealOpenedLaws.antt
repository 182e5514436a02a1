-- A deal that made no step is tied to its ports.
use Rattle.std.specs.Prelude.{◌≤◌, ℕ, [], ◌∷◌, replicate}
use Rattle.std.proofs.Common.{refl, arith}
use Rattle.std.proofs.lemmas.Bool.{false≢true}
use Rattle.ff_unit.specs.Deals.{deal_outs, opened_deal}
use Rattle.ff_unit.specs.declared.dealing.Dealing.{Dealing}
use Rattle.ff_unit.specs.declared.dealing.Dealing.TheVariants.{InTurn, OnDemand, ByKey, GroupsInTurn, GroupsOnDemand}
use Rattle.ff_unit.specs.DealPickLaws.{IsPicked}
use Rattle.ff_unit.specs.DealRowLaws.{ArePut-none}
use Rattle.ff_unit.specs.DealTiedLaws.{IsTied}
use Rattle.ff_unit.specs.DealTurnLaws.{IsTurn}

-- a deal that made no step
IsPicked-none : (way : Dealing) (n : ℕ) → IsPicked way n 0 [] []
IsPicked-none InTurn n = record { each = refl; within = tt; by_way = refl }
IsPicked-none OnDemand n = record { each = refl; within = tt; by_way = tt }
IsPicked-none (ByKey f) n = record { each = refl; within = tt; by_way = refl }
IsPicked-none GroupsInTurn n = record { each = refl; within = tt; by_way = refl }
IsPicked-none GroupsOnDemand n = record { each = refl; within = tt; by_way = tt }

IsTurn-none : (way : Dealing) (n : ℕ) → IsTurn way n 0 0
IsTurn-none InTurn n = omega arith
IsTurn-none OnDemand n = tt
IsTurn-none (ByKey f) n = tt
IsTurn-none GroupsInTurn n = omega arith
IsTurn-none GroupsOnDemand n = tt

pub IsTied-opened : (way : Dealing) (n : ℕ) → 1 ≤ n → IsTied (opened_deal way n) ([] ∷ []) (replicate (deal_outs way n) [])
IsTied-opened way n some = record {
  some = some;
  turn = omega (arith, some);
  done = λ done. absurd (false≢true done);
  got = [];
  gots_are = refl;
  given = [];
  puts_are = ArePut-none (deal_outs way n);
  tied = record {
    inner = tt;
    picks = [];
    xs = [];
    picked = IsPicked-none way n;
    turn = IsTurn-none way n;
    items_are = refl;
    sends = refl;
    alone = λ some. absurd (false≢true some);
  };
}
