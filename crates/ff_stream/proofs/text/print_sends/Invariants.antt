use Rattle.std.proofs.Common.{◌≡◌, [], ◌++◌, length}
use Rattle.ff_rec.specs.Lines.{text}
use Rattle.ff_stream.proofs.text.print_sends.Given as goal

-- what is printed so far and the text of what is left are the text of all; nothing but the sends changed
abbrev pub invariant-loop-r : goal.invariant-loop-r
invariant-loop-r l = record {
  told : l.into.items ++ text l.out.sends ≡ l.initial.into.items ++ text l.initial.out.sends;
  rest : record l.out { sends = [] } ≡ record l.initial.out { sends = [] };
}

abbrev pub decreases-loop-r : goal.decreases-loop-r
decreases-loop-r l = length l.out.sends
