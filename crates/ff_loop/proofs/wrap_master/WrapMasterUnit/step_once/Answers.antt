use Rattle.std.proofs.Common.{sym, ap, ◌∙◌}
use Rattle.ff_unit.specs.StepLaws.{StepsOnce-gave}
use Rattle.ff_loop.specs.WrapMasters.{WrapState}
use Rattle.ff_loop.specs.Works.{round_of}
use Rattle.ff_loop.proofs.wrap_master.WrapMasterUnit.step_once.Goals as goal

pub returns-in-Done-clause-once : goal.returns-in-Done-clause-once
returns-in-Done-clause-once g c =
    let i = c.self.inside in
    let put = c.in-Done.ensures.puts in
    let w : WrapState = record { round = round_of i.work; parts = i.parts.items; live = i.live; held = c.put_first.new.self; mode = i.mode; end = i.end; over = i.over; done = i.done; told = i.told } in
    StepsOnce-gave put.0.0 put.0.1 c.in-Done.ensures.link c.in-Done.ensures.gots put.2 (
      w,
      sym (ap (λ u. u.held) c.self.view_is) ∙ put.1,
      ap (λ (u : WrapState). record u { held = c.put_first.new.self }) c.self.view_is,
      c.pull.ensures,
    )
