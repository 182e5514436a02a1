use Rattle.std.proofs.Common.{◌≡◌, drop}
use Rattle.ff_net.specs.Tree.{tree_of}
use Rattle.ff_net.specs.Rules.{faults_of, first}
use Rattle.ff_net.proofs.fault.fault_among.Given as goal

-- the rules that are left decide
abbrev pub invariant-loop-rule : goal.invariant-loop-rule
invariant-loop-rule g l =
    let faults = faults_of g.N.Node.does l.version (tree_of l.net) in
    first (faults l.rules) ≡ first (faults (drop l.rule-index l.rules))
