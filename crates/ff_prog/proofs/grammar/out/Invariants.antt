use Rattle.std.proofs.Common.{◌≡◌, ◌++◌}
use Rattle.std.specs.Prelude.{option_map}
use Rattle.ff_prog.specs.Grammar.{names}
use Rattle.ff_prog.specs.Seen.{words_of, ahead_size}
use Rattle.ff_prog.proofs.grammar.out.Given as goal

-- the names so far stand before those ahead
abbrev pub invariant-loop-ahead : goal.invariant-loop-ahead
invariant-loop-ahead l = names (words_of l.initial.ahead) ≡ option_map (λ ns. l.names.items ++ ns) (names (words_of l.ahead))

abbrev pub decreases-loop-ahead : goal.decreases-loop-ahead
decreases-loop-ahead l = ahead_size l.ahead
