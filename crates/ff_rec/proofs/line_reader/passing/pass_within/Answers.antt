-- What the loop has passed, and the line that it stands at.
use Rattle.std.proofs.Common.{◌≡◌, ◌+◌, ◌++◌, ◌∷◌, ◌≤◌, length, List, [], ℕ, sym, ap, ◌∙◌, subst, arith, length-append, Bor}
use Rattle.std.proofs.lemmas.Result.{err_from_is_err_and}
use Rattle.ff_rec.specs.Pieces.{whole_of}
use Rattle.ff_rec.specs.Progress.{reading_of}
use Rattle.ff_rec.proofs.Steps.{HasPassed, HasPassed-nothing, HasPassed-EndsLine, fault-state, last-state}
use Rattle.ff_rec.proofs.line_reader.passing.pass_within.Goals as goal

pub loop-part-init : goal.loop-part-init
loop-part-init c = record {
  ready = c.requires.ready;
  taken = omega arith;
  passed = HasPassed-nothing (reading_of c.args.limits c.args.progress.now) c.args.piece.now;
}

pub returns-in_default-None-clause-state : goal.returns-in_default-None-clause-state
returns-in_default-None-clause-state c =
    let part = c.split.result.0.now in
    let s = reading_of c.args.limits c.args.progress.now in
    let p = c.loop-part.progress in
    let e : c.loop-part.left.now ≡ part = c.split.ensures.whole ∙ ap (whole_of 10 part) c.in_default-None.is-1 in
    let h = subst (HasPassed s c.args.piece.now (reading_of c.args.limits p)) e c.loop-part.invariant.passed in
    let room : p.taken + length part ≤ c.args.limits.input = omega (arith, c.loop-part.invariant.taken, c.requires.room, ap length e) in
    last-state s c.args.piece.now [] h.due c.args.limits p part c.loop-part.invariant.ready c.split.ensures.clean room h.read
    c.keep_part.new.progress c.keep_part.result c.keep_part.ensures.ok c.keep_part.ensures.fault

pub returns-in_err-pass_line-in_default-Some-clause-state : goal.returns-in_err-pass_line-in_default-Some-clause-state
returns-in_err-pass_line-in_default-Some-clause-state c =
    let part = c.split.result.0.now in
    let rest = c.in_default-Some.behind.now in
    let p = c.loop-part.progress in
    let e : c.loop-part.left.now ≡ part ++ 10 ∷ rest = c.split.ensures.whole ∙ ap (whole_of 10 part) c.in_default-Some.is-1 in
    let h = c.loop-part.invariant.passed in
    let r = err_from_is_err_and c.from_residual.result c.from_residual.ensures.1 in
    rw (r.1, r.2)
    (fault-state (reading_of c.args.limits c.args.progress.now) c.args.piece.now [] h.due c.args.limits p part c.loop-part.invariant.ready c.split.ensures.clean
    (omega (arith, c.loop-part.invariant.taken, c.requires.room, ap length e, length-append part (10 ∷ rest)))
    rest c.loop-part.left.now h.read e c.pass_line.new.progress c.in_err-pass_line-in_default-Some.field-0.0 c.in_err-pass_line-in_default-Some.ensures.fault)

pub loop-part-preserved : goal.loop-part-preserved
loop-part-preserved c =
    let part = c.split.result.0.now in
    let rest = c.in_default-Some.behind.now in
    let e : c.loop-part.left.now ≡ part ++ 10 ∷ rest = c.split.ensures.whole ∙ ap (whole_of 10 part) c.in_default-Some.is-1 in
    let line = c.in_ok-pass_line-in_default-Some.ensures.ok in
    let behind_is = c.in_default-Some.behind-is in
    record {
      ready = line.ready;
      taken = omega (arith, c.loop-part.invariant.taken, line.taken, ap length e, length-append part (10 ∷ rest), ap (λ (b : Bor (List ℕ)). length b.now) behind_is);
      passed = subst (λ (b : Bor (List ℕ)). HasPassed (reading_of c.args.limits c.args.progress.now) c.args.piece.now (reading_of c.args.limits c.pass_line.new.progress) b.now)
          (sym behind_is)
          (HasPassed-EndsLine (reading_of c.args.limits c.args.progress.now) c.args.piece.now c.args.limits c.loop-part.progress c.pass_line.new.progress
          part rest c.loop-part.left.now c.loop-part.invariant.passed e c.split.ensures.clean line);
    }
