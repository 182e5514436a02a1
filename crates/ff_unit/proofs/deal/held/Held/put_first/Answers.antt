use Rattle.std.proofs.Common.{sym, ap, ◌∙◌, ◌++◌, ◌∷◌, Option}
use Rattle.std.specs.Option.{option_to_list}
use Rattle.ff_unit.proofs.DealOuts.{Pair}
use Rattle.ff_unit.proofs.deal.held.Held.put_first.Goals as goal

pub returns-in-None-clause-puts : goal.returns-in-None-clause-puts
returns-in-None-clause-puts g c =
    let t = c.in-None.ensures.taken in
    let behind = c.take_first.new.behind in
    (sym c.self.view_is ∙ t.0, ap (λ (o : Option Pair). option_to_list o ++ behind) c.in-None.ensures.first ∙ t.1)

pub returns-in-Done-clause-puts : goal.returns-in-Done-clause-puts
returns-in-Done-clause-puts g c =
    let pair : Pair = (c.in-Some.out, c.in-Some.m) in
    let behind = c.take_first.new.behind in (
      pair,
      sym c.self.view_is ∙ c.in-Some.ensures.taken ∙ ap (λ (o : Option Pair). pair ∷ (option_to_list o ++ behind)) (sym c.in-Some.ensures.first),
      c.in-Done.ensures.puts.0,
    )
