use Rattle.std.proofs.Common.{◌<◌, refl, ap, ◌∙◌, subst, Option}
use Rattle.ff_rec.specs.Lines.{Rec}
use Rattle.ff_rec.specs.declared.msg.Msg.TheVariants.{Item}
use Rattle.ff_unit.specs.Deals.{DealState, behind}
use Rattle.ff_unit.specs.StepLaws.{StepsOnce-gave}
use Rattle.ff_unit.proofs.deal.Deal.put_free.Goals as goal

pub returns-in-Done : goal.returns-in-Done
returns-in-Done g c =
    let u = c.args.self.now in
    let place = c.in-Done.place in
    StepsOnce-gave place (Item c.args.r) c.in-Done.ensures.link c.in-Done.ensures.gots c.in-Done.ensures.offers.1 (
      refl,
      subst (λ (w : DealState). place < w.places) c.self.view_is c.in-Done.ensures.offers.0,
      c.hold_behind.ensures ∙ ap (λ (o : Option Rec). record u { free = o; held = behind u.way u.places place }) c.requires.free,
    )
