-- The master of a wrap is a unit.
use Rattle.std.specs.Prelude.{◌≡◌, ◌≤◌, ℕ, suc, true, List, [], length, IsSome}
use Rattle.std.proofs.Common.{refl, sym, subst}
use Rattle.std.proofs.lemmas.List.{length-replicate}
use Rattle.std.proofs.lemmas.Bool.{lt-ltb, ltb-true}
use Rattle.ff_net.specs.Logs.{IsOverLimit, came}
use Rattle.ff_node.specs.Runs.{Message, HasRun}
use Rattle.ff_port.specs.declared.answers.End.TheVariants.{Abort}
use Rattle.ff_unit.specs.Closing.{any_live, decided}
use Rattle.ff_unit.specs.ShortLaws.{decided-memory}
use Rattle.ff_unit.specs.Units.{IsUnit, Ran}
use Rattle.ff_loop.specs.Rounds.{RoundState, test_of, limit_of, workers_of, log_of}
use Rattle.ff_loop.specs.WrapAbortLaws.{Leads-aborted_wrap}
use Rattle.ff_loop.specs.WrapBeginsLaws.{wrap-begins}
use Rattle.ff_loop.specs.WrapFitsLaws.{wrap-whole, decided-is}
use Rattle.ff_loop.specs.WrapKeptLaws.{HasRun-tied_wrap}
use Rattle.ff_loop.specs.WrapKindLaws.{opening-step, told-step, taken-step}
use Rattle.ff_loop.specs.WrapMasters.{WrapState, WrapStep, is_past, opening_wrap, wrap_does}
use Rattle.ff_loop.specs.WrapReadyLaws.{wrap-ready}
use Rattle.ff_loop.specs.WrapShortLaws.{short_wrap-step, live_wrap-step}
use Rattle.ff_loop.specs.WrapTiedLaws.{IsTied}

-- what tells that more tasks came than the limit allows
pub is_past-tells : (r : RoundState) → (is_past r ≡ true → IsOverLimit (limit_of r) (test_of r) (log_of r)) × (IsOverLimit (limit_of r) (test_of r) (log_of r) → is_past r ≡ true)
is_past-tells r = (ltb-true (limit_of r) (length (came (test_of r) (log_of r))), lt-ltb (limit_of r) (length (came (test_of r) (log_of r))))

module _ (u : WrapState) (gots puts : List (List Message)) (ran : Ran wrap_does u gots puts) where
  -- it has as many workers as before its first step
  number : workers_of (opening_wrap u).round ≡ workers_of u.round
  number = length-replicate {A = List ℕ} (workers_of u.round) []

  tied : IsTied u gots puts
  tied = HasRun-tied_wrap u gots puts (subst (λ n. 1 ≤ n) number ran.0.0) (subst (λ n. HasRun WrapStep (opening_wrap u) (suc n) (suc n) u gots puts) number ran.1)

  few : workers_of u.round ≤ 64
  few = subst (λ n. n ≤ 64) number ran.0.1

  -- whether more tasks came than the limit allows is told by its log
  pub Ran-over : u.over ≡ is_past u.round
  Ran-over = tied.over

pub IsUnit-wrap : IsUnit wrap_does
IsUnit-wrap = record {
  opening_kept = opening-step;
  taken_kept = taken-step;
  told_kept = told-step;
  opened = λ u. (refl, refl, refl);
  ready = λ u gots puts ran. wrap-ready u gots puts (tied u gots puts ran) (few u gots puts ran);
  ends = λ u gots puts ran done. subst (λ b. IsSome (decided b u.end)) (sym ((tied u gots puts ran).ended done).1) refl;
  begins = λ u gots puts ran. wrap-begins u gots puts (tied u gots puts ran);
  whole = λ u gots puts ran done fin. wrap-whole u gots puts (tied u gots puts ran) done fin;
  rejects_are = λ u gots puts ran done fin. record { number_is = refl; kept_are = λ keeps. refl; none = λ keeps. refl };
  causes = λ u gots puts ran fin. (tied u gots puts ran).cause (decided-is (any_live u.live) u.end Abort fin);
  not_short = λ u. (refl, refl);
  short_ends = λ u. decided-memory (any_live u.live) u.end;
  short_by = short_wrap-step;
  asks_kept = live_wrap-step;
  aborts_by = Leads-aborted_wrap;
}
