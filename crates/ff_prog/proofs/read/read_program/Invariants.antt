use Rattle.std.proofs.Common.{◌≡◌, ◌++◌, map, Some, vec_len, ◌+◌, ◌≤◌}
use Rattle.std.specs.List.{filter, flat_map}
use Rattle.ff_rec.specs.Pieces.{rest_cut}
use Rattle.ff_prog.specs.Words.{line_pieces, is_statement, statements}
use Rattle.ff_prog.specs.Reading.{read}
use Rattle.ff_prog.specs.Seen.{rest_size}
use Rattle.ff_prog.proofs.read.read_program.Given as goal

-- the statements so far stand before those of the lines ahead
abbrev pub invariant-loop-lines : goal.invariant-loop-lines
invariant-loop-lines l = record {
  same : read (statements l.text) ≡ map Some l.program.items ++ read (filter is_statement (flat_map line_pieces (rest_cut 10 l.lines)));
  few : vec_len l.program + rest_size l.lines ≤ 65537;
}

abbrev pub decreases-loop-lines : goal.decreases-loop-lines
decreases-loop-lines l = rest_size l.lines

-- and before those of the pieces ahead in this line
abbrev pub invariant-loop-pieces : goal.invariant-loop-pieces
invariant-loop-pieces l = record {
  same : read (statements l.text) ≡ map Some l.program.items ++ read (filter is_statement (rest_cut 59 l.pieces ++ flat_map line_pieces (rest_cut 10 l.more_lines)));
  few : vec_len l.program + (rest_size l.pieces + rest_size l.more_lines) ≤ 65537;
}

abbrev pub decreases-loop-pieces : goal.decreases-loop-pieces
decreases-loop-pieces l = rest_size l.pieces
