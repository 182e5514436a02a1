use Rattle.std.proofs.Common.{rules, ◌≡◌, ◌∙◌, true, length, slice_index_or, sym, arith}
use Rattle.std.specs.Char.{is_ascii_digit}
use Rattle.ff_words.proofs.Numbers.{read_is, cast_read}
use Rattle.ff_words.proofs.number.read_plain.Goals as goal
use Rattle.ff_words.proofs.number.read_plain.Goals.{then-first-eq48, else-first-eq48}

pub returns : goal.returns
returns c =
    let digit : is_ascii_digit (slice_index_or c.args.text.now 0 0) ≡ true = search rules in
    let alone : slice_index_or c.args.text.now 0 0 ≡ 48 → length c.args.text.now ≡ 1 =
    elim c.if-first-eq48.branch [ then-first-eq48 w ↦ λ e. grind arith | else-first-eq48 w ↦ λ e. grind arith ] in
    let found = sym c.read_number.ensures ∙ c.in_ok-n.was in
    cast_read c.args.text.now c.in_ok-n.n (read_is c.args.text.now c.in_ok-n.n c.in-len1-up.len_at_least digit alone found)
