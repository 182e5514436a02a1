use Rattle.std.proofs.Common.{◌≡◌, ◌-◌, length, vec_len}
use Rattle.ff_prog.specs.Known.{KnowsLinks}
use Rattle.ff_prog.specs.Links.{AreLinks}
use Rattle.ff_prog.specs.Rules.{first_at, first_from, reads_unwritten}
use Rattle.ff_prog.proofs.linking.link_operands.Given as goal

-- the statements so far are linked, and the latest writer of each name is known
abbrev pub invariant-loop-k : goal.invariant-loop-k
invariant-loop-k l = record {
  many : vec_len l.links ≡ l.k;
  links : AreLinks l.statements l.links.items l.k;
  writers : KnowsLinks l.writers.entries l.statements l.k;
  same : first_at reads_unwritten l.statements ≡ first_from (reads_unwritten l.statements) l.k (length l.statements - l.k);
}
