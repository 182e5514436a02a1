-- Where the first five rules are kept, the sixth decides.
use Rattle.std.proofs.Common.{◌≡◌, true, List, None, refl}
use Rattle.std.specs.List.{list_any}
use Rattle.std.specs.Prelude.{position}
use Rattle.ff_prog.specs.Checking.{at_rule, lowest_broken}
use Rattle.ff_prog.specs.Names.{is_crowded}
use Rattle.ff_prog.specs.Rules.{first_at, is_past_most, reads_unwritten, has_twins, is_out, breaks_out, puts_unwritten}
use Rattle.ff_prog.specs.declared.statement.Statement.{Statement}

pub lowest_broken-sixth : (ss : List Statement) → first_at is_past_most ss ≡ None → first_at is_crowded ss ≡ None → first_at reads_unwritten ss ≡ None → position has_twins ss ≡ None → first_at breaks_out ss ≡ None → list_any is_out ss ≡ true → lowest_broken ss ≡ at_rule 6 (position (puts_unwritten ss) ss) None
lowest_broken-sixth ss tasks names writers twins outs some = rw (tasks, names, writers, twins, outs, some) refl
