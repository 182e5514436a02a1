use Rattle.std.proofs.Common.{◌≡◌, List, ◌++◌, map, take, drop}
use Rattle.ff_ops.specs.Arguments.{AllFit}
use Rattle.ff_text.specs.OperationTokens.{argument_token}
use Rattle.ff_text.specs.Printing.{tokens_of}
use Rattle.ff_text.specs.Seen.{context_of}
use Rattle.ff_text.specs.Wants.{Want, Argument, walk}
use Rattle.ff_text.proofs.operation.arguments_of.Given as goal

-- what was taken are arguments of the first kinds
abbrev pub invariant-loop-kind : goal.invariant-loop-kind
invariant-loop-kind l = record {
  eaten : (ws : List Want) → walk (context_of l.context) l.initial.reader (map (λ kind. Argument kind) l.kinds ++ ws) ≡ walk (context_of l.context) l.reader (map (λ kind. Argument kind) (drop l.kind-index l.kinds) ++ ws);
  fit : AllFit l.args.items (take l.kind-index l.kinds);
  text : tokens_of l.initial.reader ≡ map argument_token l.args.items ++ tokens_of l.reader;
}
