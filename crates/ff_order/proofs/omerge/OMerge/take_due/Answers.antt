use Rattle.std.proofs.Common.{◌≡◌, sym, ap, subst}
use Rattle.ff_unit.specs.Closing.{IsLive}
use Rattle.ff_unit.specs.StepLaws.{StepsOnce-took}
use Rattle.ff_order.specs.OMerges.{IsDue}
use Rattle.ff_order.proofs.omerge.OMerge.take_due.Goals as goal

pub returns-in-Some : goal.returns-in-Some
returns-in-Some g c =
    let due : c.self.inside.due ≡ c.args.self.now.due = ap (λ u. u.due) c.self.view_is in
    StepsOnce-took c.self.inside.due c.in-Some.m c.in-Some.ensures.link c.in-Some.ensures.takes c.in-Some.ensures.puts (
      c.requires.held,
      subst (IsLive c.args.self.now.live) (sym due) c.requires.due,
      subst (λ mode. IsDue mode c.args.self.now.due c.self.inside.due) (sym c.requires.live) due,
      c.receive.ensures,
    )
