-- What the loop has done, and the line that it stands at.
use Rattle.std.proofs.Common.{◌≡◌, ◌+◌, ◌++◌, ◌∷◌, ◌≤◌, [], length, take, List, ℕ, refl, sym, ap, ◌∙◌, subst, arith, length-append, Bor}
use Rattle.std.proofs.lemmas.List.{take_at}
use Rattle.std.proofs.lemmas.Result.{err_from_is_err_and}
use Rattle.ff_rec.specs.Pieces.{whole_of}
use Rattle.ff_rec.specs.Lines.{cut}
use Rattle.ff_rec.specs.Progress.{EndsLine, IsLineFault, reading_of}
use Rattle.ff_rec.specs.Reading.{line_fault}
use Rattle.ff_rec.proofs.Feeding.{HasRead, HasRead-first}
use Rattle.ff_rec.proofs.Steps.{HasRead-EndsLine, fault-state, fault-records, last-state, last-records}
use Rattle.ff_rec.proofs.line_reader.steps.read_within.Goals as goal

pub returns-in_err-end_line-in_default-Some-clause-first : goal.returns-in_err-end_line-in_default-Some-clause-first
returns-in_err-end_line-in_default-Some-clause-first c =
    HasRead-first (subst (λ rs. HasRead (reading_of c.args.limits c.args.progress.now) c.args.piece.now c.args.into.now.items (reading_of c.args.limits c.loop-part.progress) c.loop-part.left.now rs) (sym c.in_err-end_line-in_default-Some.ensures.err) c.loop-part.invariant.read)

pub returns-in_default-None-clause-first : goal.returns-in_default-None-clause-first
returns-in_default-None-clause-first c = HasRead-first c.loop-part.invariant.read

pub returns-in_default-None-clause-state : goal.returns-in_default-None-clause-state
returns-in_default-None-clause-state c =
    let part = c.split.result.0.now in
    let s = reading_of c.args.limits c.args.progress.now in
    let p = c.loop-part.progress in
    let e : c.loop-part.left.now ≡ part = c.split.ensures.whole ∙ ap (whole_of 10 part) c.in_default-None.is-1 in
    let h = subst (λ (l : List ℕ). HasRead s c.args.piece.now c.args.into.now.items (reading_of c.args.limits p) l c.loop-part.into.items) e c.loop-part.invariant.read in
    let room : p.taken + length part ≤ c.args.limits.input = omega (arith, c.loop-part.invariant.taken, c.requires.room, ap length e) in
    last-state s c.args.piece.now c.args.into.now.items c.loop-part.into.items c.args.limits p part c.loop-part.invariant.ready c.split.ensures.clean room h
    c.keep_part.new.progress c.keep_part.result c.keep_part.ensures.ok c.keep_part.ensures.fault

pub returns-in_default-None-clause-records : goal.returns-in_default-None-clause-records
returns-in_default-None-clause-records c =
    let part = c.split.result.0.now in
    let s = reading_of c.args.limits c.args.progress.now in
    let p = c.loop-part.progress in
    let e : c.loop-part.left.now ≡ part = c.split.ensures.whole ∙ ap (whole_of 10 part) c.in_default-None.is-1 in
    let h = subst (λ (l : List ℕ). HasRead s c.args.piece.now c.args.into.now.items (reading_of c.args.limits p) l c.loop-part.into.items) e c.loop-part.invariant.read in
    let room : p.taken + length part ≤ c.args.limits.input = omega (arith, c.loop-part.invariant.taken, c.requires.room, ap length e) in
    last-records s c.args.piece.now c.args.into.now.items c.loop-part.into.items c.args.limits p part c.loop-part.invariant.ready c.split.ensures.clean room h
    c.keep_part.new.progress c.keep_part.result c.keep_part.ensures.ok c.keep_part.ensures.fault

pub returns-in_err-end_line-in_default-Some-clause-state : goal.returns-in_err-end_line-in_default-Some-clause-state
returns-in_err-end_line-in_default-Some-clause-state c =
    let part = c.split.result.0.now in
    let rest = c.in_default-Some.behind.now in
    let p = c.loop-part.progress in
    let e : c.loop-part.left.now ≡ part ++ 10 ∷ rest = c.split.ensures.whole ∙ ap (whole_of 10 part) c.in_default-Some.is-1 in
    let front : take (length part) c.loop-part.left.now ≡ part = ap (take (length part)) e ∙ take_at part (10 ∷ rest) (length part) refl in
    let fault = subst (λ (q : List ℕ). IsLineFault c.in_err-end_line-in_default-Some.field-0.0 (line_fault c.args.limits.line (p.ended + 1) (p.line.items ++ q))) front c.in_err-end_line-in_default-Some.ensures.fault in
    let r = err_from_is_err_and c.from_residual.result c.from_residual.ensures.1 in
    rw (r.1, r.2)
    (fault-state (reading_of c.args.limits c.args.progress.now) c.args.piece.now c.args.into.now.items c.loop-part.into.items c.args.limits p part c.loop-part.invariant.ready c.split.ensures.clean
    (omega (arith, c.loop-part.invariant.taken, c.requires.room, ap length e, length-append part (10 ∷ rest)))
    rest c.loop-part.left.now c.loop-part.invariant.read e c.end_line.new.progress c.in_err-end_line-in_default-Some.field-0.0 fault)

pub returns-in_err-end_line-in_default-Some-clause-records : goal.returns-in_err-end_line-in_default-Some-clause-records
returns-in_err-end_line-in_default-Some-clause-records c =
    let part = c.split.result.0.now in
    let rest = c.in_default-Some.behind.now in
    let s = reading_of c.args.limits c.args.progress.now in
    let p = c.loop-part.progress in
    let e : c.loop-part.left.now ≡ part ++ 10 ∷ rest = c.split.ensures.whole ∙ ap (whole_of 10 part) c.in_default-Some.is-1 in
    let h = subst (λ rs. HasRead s c.args.piece.now c.args.into.now.items (reading_of c.args.limits p) c.loop-part.left.now rs) (sym c.in_err-end_line-in_default-Some.ensures.err) c.loop-part.invariant.read in
    let front : take (length part) c.loop-part.left.now ≡ part = ap (take (length part)) e ∙ take_at part (10 ∷ rest) (length part) refl in
    let fault = subst (λ (q : List ℕ). IsLineFault c.in_err-end_line-in_default-Some.field-0.0 (line_fault c.args.limits.line (p.ended + 1) (p.line.items ++ q))) front c.in_err-end_line-in_default-Some.ensures.fault in
    let r = err_from_is_err_and c.from_residual.result c.from_residual.ensures.1 in
    rw (r.1, r.2)
    (fault-records s c.args.piece.now c.args.into.now.items c.end_line.new.into.items c.args.limits p part c.loop-part.invariant.ready c.split.ensures.clean
    (omega (arith, c.loop-part.invariant.taken, c.requires.room, ap length e, length-append part (10 ∷ rest)))
    rest c.loop-part.left.now h e c.in_err-end_line-in_default-Some.field-0.0 fault)

pub loop-part-preserved : goal.loop-part-preserved
loop-part-preserved c =
    let part = c.split.result.0.now in
    let rest = c.in_default-Some.behind.now in
    let p = c.loop-part.progress in
    let e : c.loop-part.left.now ≡ part ++ 10 ∷ rest = c.split.ensures.whole ∙ ap (whole_of 10 part) c.in_default-Some.is-1 in
    let front : take (length part) c.loop-part.left.now ≡ part = ap (take (length part)) e ∙ take_at part (10 ∷ rest) (length part) refl in
    let line = c.in_ok-end_line-in_default-Some.ensures in
    let ended = subst (EndsLine c.args.limits p c.end_line.new.progress) front line.ok in
    let behind_is = c.in_default-Some.behind-is in
    record {
      ready = ended.ready;
      taken = omega (arith, c.loop-part.invariant.taken, ended.taken, ap length e, length-append part (10 ∷ rest), ap (λ (b : Bor (List ℕ)). length b.now) behind_is);
      read = subst (λ (b : Bor (List ℕ)). HasRead (reading_of c.args.limits c.args.progress.now) c.args.piece.now c.args.into.now.items (reading_of c.args.limits c.end_line.new.progress) b.now c.end_line.new.into.items)
          (sym behind_is)
          (HasRead-EndsLine (reading_of c.args.limits c.args.progress.now) c.args.piece.now c.args.into.now.items c.loop-part.into.items c.end_line.new.into.items
          c.args.limits p c.end_line.new.progress part rest c.loop-part.left.now c.loop-part.invariant.read e c.split.ensures.clean ended
          (line.record ∙ ap (λ (q : List ℕ). c.loop-part.into.items ++ cut 9 (p.line.items ++ q) ∷ []) front));
    }
