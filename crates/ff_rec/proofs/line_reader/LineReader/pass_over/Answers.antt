-- After a refusal nothing is read.
use Rattle.std.proofs.Common.{◌≡◌, Some, sym, ap, ◌∙◌}
use Rattle.ff_rec.specs.Reading.{Reading}
use Rattle.ff_rec.proofs.Feeding.{after-stays}
use Rattle.ff_rec.proofs.Steps.{state_of-fault, UnlessMemory-err}
use Rattle.ff_rec.proofs.line_reader.LineReader.pass_over.Goals as goal

pub returns-in-Some-clause-state : goal.returns-in-Some-clause-state
returns-in-Some-clause-state c =
    let s = c.args.self.now in
    let is : s.fault ≡ Some c.in-Some.fault =
    sym (ap (λ (r : Reading). r.fault) c.self.view_is) ∙ state_of-fault c.self.inside.fault c.self.inside.limits c.self.inside.progress ∙ c.in-Some.is in
    UnlessMemory-err c.in-Some.fault _ (sym (after-stays s c.in-Some.fault c.args.piece.now is))
