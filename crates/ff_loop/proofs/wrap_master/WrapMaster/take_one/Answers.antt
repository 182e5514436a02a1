use Rattle.std.proofs.Common.{ap, subst}
use Rattle.ff_unit.specs.Closing.{IsLive}
use Rattle.ff_unit.specs.StepLaws.{StepsOnce-took}
use Rattle.ff_loop.proofs.wrap_master.WrapMaster.take_one.Goals as goal

pub returns-in-Some : goal.returns-in-Some
returns-in-Some g c =
    StepsOnce-took c.in-Some.k c.in-Some.m c.in-Some.ensures.link c.in-Some.ensures.takes.1 c.in-Some.ensures.puts (
      c.requires.held,
      subst (λ live. IsLive live c.in-Some.k) (ap (λ u. u.live) c.self.view_is) c.in-Some.ensures.takes.0,
      c.receive.new.self,
      c.receive.ensures,
      c.pull.ensures,
    )
