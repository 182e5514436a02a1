-- A level was run, or there was no room for it, or no task is left.
use Rattle.std.proofs.Common.{rules, ◌≡◌, true, false, List, [], refl, ◌∙◌, subst}
use Rattle.std.specs.Prelude.{None, Some}
use Rattle.ff_rec.specs.Lines.{Rec}
use Rattle.ff_mean.specs.Rounds.{HasRunLevel}
use Rattle.ff_mean.proofs.RoundLaws.{HasRunRounds-plain}
use Rattle.ff_mean.proofs.RoundSteps.{GoesRound-level, IsOver-level, HasRunRounds-end}
use Rattle.ff_mean.proofs.rounds.run_rounds.Goals as goal

pub levels-preserved : goal.levels-preserved
levels-preserved g c =
    let b = g.W.Node.does in
    let at = c.levels in
    let s = b.opening c.svc_init.new.self in
    let p = c.args.test.now in
    let x = at.tasks in
    let z = c.run_level.new.tasks in
    let y = record x { next = c.replace-level.new.dest } in
    let some : ¬ x.next ≡ [] = search rules in
    let none : c.replace-level.new.dest ≡ [] = cc in
    let level : c.replace-level.result ≡ x.next = cc in
    let fits : c.in_ok-run_level.field-0 ≡ true = cc in
    let ran = subst (λ all. HasRunLevel (b.sends (b.opening at.worker)) (b.rejects (b.opening at.worker)) p c.replace-level.result y z at.out c.run_level.new.out all) fits
    c.in_ok-run_level.ensures.level in
    let here = subst (λ (l : List Rec). HasRunLevel (b.sends (b.opening at.worker)) (b.rejects (b.opening at.worker)) p l y z at.out c.run_level.new.out true) level ran in
    let opened = subst (λ u. HasRunLevel (b.sends u) (b.rejects u) p x.next y z at.out c.run_level.new.out true) at.invariant.kind here in
    record {
      plain = c.in_ok-run_level.ensures.plain;
      kind = c.in_ok-run_level.ensures.kind ∙ at.invariant.kind;
      gone = GoesRound-level (b.sends s) (b.rejects s) p c.args.limit c.args.input x c.args.out.now at.out at.invariant.gone y z c.run_level.new.out some none refl refl opened;
    }

pub returns-then-not-branch : goal.returns-then-not-branch
returns-then-not-branch g c =
    let b = g.W.Node.does in
    let at = c.levels in
    let s = b.opening c.svc_init.new.self in
    let p = c.args.test.now in
    let x = at.tasks in
    let z = c.run_level.new.tasks in
    let y = record x { next = c.replace-level.new.dest } in
    let some : ¬ x.next ≡ [] = search rules in
    let level : c.replace-level.result ≡ x.next = cc in
    let full : c.in_ok-run_level.field-0 ≡ false = cc in
    let ran = subst (λ all. HasRunLevel (b.sends (b.opening at.worker)) (b.rejects (b.opening at.worker)) p c.replace-level.result y z at.out c.run_level.new.out all) full
    c.in_ok-run_level.ensures.level in
    let here = subst (λ (l : List Rec). HasRunLevel (b.sends (b.opening at.worker)) (b.rejects (b.opening at.worker)) p l y z at.out c.run_level.new.out false) level ran in
    let opened = subst (λ u. HasRunLevel (b.sends u) (b.rejects u) p x.next y z at.out c.run_level.new.out false) at.invariant.kind here in
    HasRunRounds-plain b g.met.W.Node.keeps_kind g.met.W.Node.class_law c.args.worker c.svc_init.new.self c.requires.plain c.svc_init.ensures c.args.limit p c.args.input
    c.args.out.now c.run_level.new.out None
    (λ within. within (IsOver-level (b.sends s) (b.rejects s) p c.args.limit c.args.input x c.args.out.now at.out at.invariant.gone some opened))

pub returns : goal.returns
returns g c =
    let b = g.W.Node.does in
    let at = c.levels in
    let s = b.opening c.svc_init.new.self in
    let p = c.args.test.now in
    let none : at.tasks.next ≡ [] = search rules in
    HasRunRounds-plain b g.met.W.Node.keeps_kind g.met.W.Node.class_law c.args.worker c.svc_init.new.self c.requires.plain c.svc_init.ensures c.args.limit p c.args.input
    c.args.out.now at.out (Some at.tasks.results)
    (HasRunRounds-end (b.sends s) (b.rejects s) p c.args.limit c.args.input at.tasks c.args.out.now at.out at.invariant.gone none)
