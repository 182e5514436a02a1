-- A deal keeps the laws of a unit.
use Rattle.std.specs.Prelude.{List, IsSome}
use Rattle.std.proofs.Common.{refl, sym, subst}
use Rattle.std.proofs.lemmas.Bool.{false≢true}
use Rattle.ff_node.specs.Runs.{Message}
use Rattle.ff_unit.specs.Closing.{decided}
use Rattle.ff_unit.specs.Deals.{DealState, deal_does}
use Rattle.ff_unit.specs.Units.{IsUnit, Ran}
use Rattle.ff_unit.specs.DealAbortLaws.{TookAbort-deal, Leads-aborted_deal}
use Rattle.ff_unit.specs.DealBeginsLaws.{BeginsToFit-deal}
use Rattle.ff_unit.specs.DealKeptLaws.{HasRun-tied_deal}
use Rattle.ff_unit.specs.DealKindLaws.{opening_deal-step, taken_deal-step, told_deal-step}
use Rattle.ff_unit.specs.DealReadyLaws.{DealReady-tied}
use Rattle.ff_unit.specs.DealTiedLaws.{IsTied}
use Rattle.ff_unit.specs.DealWholeLaws.{FitsWhole-deal}
use Rattle.ff_unit.specs.ShortLaws.{decided-memory, short_deal-step}

-- a run of a deal
Ran-tied : (u : DealState) (gots puts : List (List Message)) → Ran deal_does u gots puts → IsTied u gots puts
Ran-tied u gots puts ran = HasRun-tied_deal u gots puts ran.0.0 ran.1

pub IsUnit-deal : IsUnit deal_does
IsUnit-deal = record {
  opening_kept = opening_deal-step;
  taken_kept = taken_deal-step;
  told_kept = told_deal-step;
  opened = λ u. (refl, refl, refl);
  ready = λ u gots puts ran. DealReady-tied u gots puts (Ran-tied u gots puts ran);
  ends = λ u gots puts ran done. subst (λ live. IsSome (decided live u.end)) (sym ((Ran-tied u gots puts ran).done done).2) refl;
  begins = λ u gots puts ran. BeginsToFit-deal u gots puts (Ran-tied u gots puts ran);
  whole = λ u gots puts ran. FitsWhole-deal u gots puts (Ran-tied u gots puts ran);
  rejects_are = λ u gots puts ran done fin. record { number_is = refl; kept_are = λ keeps. absurd (false≢true keeps); none = λ _. refl };
  causes = λ u gots puts ran. TookAbort-deal u gots puts (Ran-tied u gots puts ran);
  not_short = λ u. (refl, refl);
  short_ends = λ u. decided-memory u.live u.end;
  short_by = short_deal-step;
  asks_kept = λ u act v s asks. asks;
  aborts_by = Leads-aborted_deal;
}
