-- The command did what it does.
use Rattle.std.proofs.Common.{sym, ap, subst, ◌∙◌}
use Rattle.std.proofs.lemmas.Bool.{not-true}
use Rattle.ff_call.specs.Outside.{outside_of}
use Rattle.ff_top.specs.Commands.{Works, reads_input, works_alone}
use Rattle.ff_words.specs.declared.command.Command.{Command}
use Rattle.ff_top.proofs.execute.work.Goals as goal

pub returns-in-Run-clause-works : goal.returns-in-Run-clause-works
returns-in-Run-clause-works g c =
    let r = c.run_given in
    let seen = outside_of g.M.Files.Files.told g.M.Files.Files.faults g.M.Input.Source.left g.M.Input.Source.ended g.M.Input.Source.faults g.M.Out.Sink.taken g.M.Out.Sink.faults g.M.Spawner.Refusals.refused g.M.Spawner.Refusals.starts g.M.Spawner.Refusals.worked in
    let before = seen c.args.devices.now.files c.args.devices.now.input c.args.devices.now.out c.args.devices.now.spawner in
    let now = seen r.new.devices.files r.new.devices.input r.new.devices.out r.new.devices.spawner in
    subst (λ (job : Command). Works job before now r.result) (sym c.in-Run.is) r.ensures.handled

pub returns-in-Check-clause-works : goal.returns-in-Check-clause-works
returns-in-Check-clause-works g c =
    let r = c.print_given in
    let seen = outside_of g.M.Files.Files.told g.M.Files.Files.faults g.M.Input.Source.left g.M.Input.Source.ended g.M.Input.Source.faults g.M.Out.Sink.taken g.M.Out.Sink.faults g.M.Spawner.Refusals.refused g.M.Spawner.Refusals.starts g.M.Spawner.Refusals.worked in
    let before = seen c.args.devices.now.files c.args.devices.now.input c.args.devices.now.out c.args.devices.now.spawner in
    let now = seen r.new.devices.files r.new.devices.input r.new.devices.out r.new.devices.spawner in
    subst (λ (job : Command). Works job before now r.result) (sym c.in-Check.is) r.ensures.handled

pub returns-in-Plan-clause-works : goal.returns-in-Plan-clause-works
returns-in-Plan-clause-works g c =
    let r = c.print_given-in-Plan in
    let seen = outside_of g.M.Files.Files.told g.M.Files.Files.faults g.M.Input.Source.left g.M.Input.Source.ended g.M.Input.Source.faults g.M.Out.Sink.taken g.M.Out.Sink.faults g.M.Spawner.Refusals.refused g.M.Spawner.Refusals.starts g.M.Spawner.Refusals.worked in
    let before = seen c.args.devices.now.files c.args.devices.now.input c.args.devices.now.out c.args.devices.now.spawner in
    let now = seen r.new.devices.files r.new.devices.input r.new.devices.out r.new.devices.spawner in
    subst (λ (job : Command). Works job before now r.result) (sym c.in-Plan.is) r.ensures.handled

pub returns-in-Mdf-clause-works : goal.returns-in-Mdf-clause-works
returns-in-Mdf-clause-works g c =
    let r = c.run_mdf in
    let seen = outside_of g.M.Files.Files.told g.M.Files.Files.faults g.M.Input.Source.left g.M.Input.Source.ended g.M.Input.Source.faults g.M.Out.Sink.taken g.M.Out.Sink.faults g.M.Spawner.Refusals.refused g.M.Spawner.Refusals.starts g.M.Spawner.Refusals.worked in
    let before = seen c.args.devices.now.files c.args.devices.now.input c.args.devices.now.out c.args.devices.now.spawner in
    let now = seen r.new.devices.files r.new.devices.input r.new.devices.out r.new.devices.spawner in
    subst (λ (job : Command). Works job before now r.result) (sym c.in-Mdf.is) r.ensures.done

pub returns-in-Soak-clause-works : goal.returns-in-Soak-clause-works
returns-in-Soak-clause-works g c =
    let r = c.run_soak in
    let seen = outside_of g.M.Files.Files.told g.M.Files.Files.faults g.M.Input.Source.left g.M.Input.Source.ended g.M.Input.Source.faults g.M.Out.Sink.taken g.M.Out.Sink.faults g.M.Spawner.Refusals.refused g.M.Spawner.Refusals.starts g.M.Spawner.Refusals.worked in
    let before = seen c.args.devices.now.files c.args.devices.now.input c.args.devices.now.out c.args.devices.now.spawner in
    let now = seen r.new.devices.files r.new.devices.input r.new.devices.out r.new.devices.spawner in
    subst (λ (job : Command). Works job before now r.result) (sym c.in-Soak.is) r.ensures.done

-- a run reads the input
pub returns-in-Run-clause-unread : goal.returns-in-Run-clause-unread
returns-in-Run-clause-unread g c none = let e = sym (ap reads_input c.in-Run.is) ∙ none in absurd (cc)

-- a run works alone where the words say so, and a program and a soak never do
pub returns-in-Run-clause-alone : goal.returns-in-Run-clause-alone
returns-in-Run-clause-alone g c alone = c.run_given.ensures.alone (not-true _ (sym (ap works_alone c.in-Run.is) ∙ alone))

pub returns-in-Soak-clause-alone : goal.returns-in-Soak-clause-alone
returns-in-Soak-clause-alone g c alone = let e = sym (ap works_alone c.in-Soak.is) ∙ alone in absurd (cc)

pub returns-in-Mdf-clause-alone : goal.returns-in-Mdf-clause-alone
returns-in-Mdf-clause-alone g c alone = let e = sym (ap works_alone c.in-Mdf.is) ∙ alone in absurd (cc)
