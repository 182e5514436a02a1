use Rattle.std.proofs.Common.{◌+◌, ◌-◌, sym, ap, ◌∙◌, ◌++◌, ◌∷◌, Option}
use Rattle.std.specs.Option.{option_to_list}
use Rattle.ff_node.specs.Runs.{Message}
use Rattle.ff_unit.specs.DealParts.{last_msg}
use Rattle.ff_unit.specs.Deals.{on_outs}
use Rattle.ff_unit.proofs.DealOuts.{Pair, on_outs-next}
use Rattle.ff_unit.proofs.deal.behind.Behind.take.Goals as goal

pub returns : goal.returns
returns c =
    let i = c.self.inside in
    let m = last_msg i.last in
    let rest = on_outs (i.next + 1) (i.outs - (i.next + 1)) m in
    sym c.self.view_is
    ∙ ap (λ (o : Option Pair). option_to_list o ++ on_outs i.next (i.outs - i.next) m) (sym c.take_out.ensures.value ∙ c.in_default.is)
    ∙ on_outs-next i.next i.outs m c.if-self.false
    ∙ ap (λ (n : Message). (i.next, n) ∷ rest) (sym c.message.ensures)
    ∙ ap (λ (o : Option Pair). (i.next, c.message.result) ∷ (option_to_list o ++ rest)) (sym c.take_out.ensures.after)
