-- A stage keeps the laws of a unit.
use Rattle.std.proofs.Common.{[], refl}
use Rattle.ff_node.specs.Behaviour.{Behaviour, KeepsKind}
use Rattle.ff_node.specs.Classes.{ClassLaw}
use Rattle.ff_unit.specs.StageAbortLaws.{TookAbort-stage, Leads-aborted_stage}
use Rattle.ff_unit.specs.StageBeginsLaws.{StageReady-run, BeginsToFit-stage}
use Rattle.ff_unit.specs.StageFitsLaws.{FitsWhole-stage}
use Rattle.ff_unit.specs.StageKindLaws.{opening_stage-step, taken-step, told-step}
use Rattle.ff_unit.specs.StageRejectLaws.{HasRejects-stage}
use Rattle.ff_unit.specs.StageShortLaws.{short_of-ends, short_stage-step, live_stage-step}
use Rattle.ff_unit.specs.StageUnit.{stage_does}
use Rattle.ff_unit.specs.Units.{IsUnit}

pub IsUnit-stage : {N : Type 0} (b : Behaviour N) → KeepsKind b → ((o : N) → ClassLaw b o (b.class o)) → IsUnit (stage_does b)
IsUnit-stage b kind law = record {
  opening_kept = opening_stage-step b [] kind;
  taken_kept = taken-step b [] kind;
  told_kept = told-step b [] kind;
  opened = λ u. (refl, refl, refl);
  ready = λ u gots puts ran. StageReady-run b kind u gots puts ran.1;
  ends = λ u gots puts ran done. ((StageReady-run b kind u gots puts ran.1).ended done).1;
  begins = λ u gots puts ran. BeginsToFit-stage b kind law u gots puts ran.1;
  whole = λ u gots puts ran. FitsWhole-stage b kind law u gots puts ran.1;
  rejects_are = λ u gots puts ran. HasRejects-stage b kind u gots puts ran.1;
  causes = λ u gots puts ran. TookAbort-stage b kind u gots puts ran.1;
  not_short = λ u. (refl, refl);
  short_ends = λ u. short_of-ends u.mode u.fin;
  short_by = short_stage-step b [];
  asks_kept = live_stage-step b [];
  aborts_by = Leads-aborted_stage b [];
}
