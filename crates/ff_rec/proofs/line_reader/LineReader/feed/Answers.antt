-- After a refusal nothing is read.
use Rattle.std.proofs.Common.{◌≡◌, List, ◌++◌, Some, sym, ap, ◌∙◌}
use Rattle.std.proofs.lemmas.List.{append-nil}
use Rattle.ff_rec.specs.Lines.{Rec}
use Rattle.ff_rec.specs.Reading.{Reading}
use Rattle.ff_rec.proofs.Feeding.{after-stays, given-stays}
use Rattle.ff_rec.proofs.Steps.{state_of-fault, UnlessMemory-err}
use Rattle.ff_rec.proofs.line_reader.LineReader.feed.Goals as goal

pub returns-in-Some-clause-state : goal.returns-in-Some-clause-state
returns-in-Some-clause-state c =
    let s = c.args.self.now in
    let is : s.fault ≡ Some c.in-Some.fault =
    sym (ap (λ (r : Reading). r.fault) c.self.view_is) ∙ state_of-fault c.self.inside.fault c.self.inside.limits c.self.inside.progress ∙ c.in-Some.is in
    UnlessMemory-err c.in-Some.fault _ (sym (after-stays s c.in-Some.fault c.args.piece.now is))

pub returns-in-Some-clause-records : goal.returns-in-Some-clause-records
returns-in-Some-clause-records c =
    let s = c.args.self.now in
    let old = c.args.into.now.items in
    let is : s.fault ≡ Some c.in-Some.fault =
    sym (ap (λ (r : Reading). r.fault) c.self.view_is) ∙ state_of-fault c.self.inside.fault c.self.inside.limits c.self.inside.progress ∙ c.in-Some.is in
    UnlessMemory-err c.in-Some.fault _ (sym (ap (λ (rs : List Rec). old ++ rs) (given-stays s c.in-Some.fault c.args.piece.now is) ∙ append-nil old))
