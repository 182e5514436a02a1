use Rattle.std.proofs.Common.{◌∙◌, ap, subst}
use Rattle.ff_node.specs.Runs.{Took}
use Rattle.ff_unit.specs.Merges.{MergeState, MergeStep}
use Rattle.ff_unit.specs.StepLaws.{StepsOnce-took}
use Rattle.ff_unit.proofs.merge.Merge.take_one.Goals as goal

pub returns-in-Some : goal.returns-in-Some
returns-in-Some g c =
    StepsOnce-took c.in-Some.k c.in-Some.m c.in-Some.ensures.link c.in-Some.ensures.takes.1 c.in-Some.ensures.puts
    (subst (λ (u : MergeState). MergeStep u (Took c.in-Some.k c.in-Some.m) c.receive.new.self) c.self.view_is (
      ap (λ (u : MergeState). u.held) c.self.view_is ∙ c.requires.held,
      c.in-Some.ensures.takes.0,
      c.receive.ensures,
    ))
