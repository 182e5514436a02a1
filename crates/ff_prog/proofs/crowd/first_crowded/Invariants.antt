use Rattle.std.proofs.Common.{◌≡◌, ◌-◌, length}
use Rattle.ff_prog.specs.Known.{HasNames}
use Rattle.ff_prog.specs.Names.{is_crowded, names_until}
use Rattle.ff_prog.specs.Rules.{first_at, first_from}
use Rattle.ff_prog.proofs.crowd.first_crowded.Given as goal

-- the names so far, which aren't too many
abbrev pub invariant-loop-k : goal.invariant-loop-k
invariant-loop-k l = record {
  seen : HasNames l.seen.keys (names_until l.statements l.k);
  same : first_at is_crowded l.statements ≡ first_from (is_crowded l.statements) l.k (length l.statements - l.k);
}
