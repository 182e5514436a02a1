use Rattle.std.proofs.Common.{◌≡◌, ◌<◌, ◌^◌, drop}
use Rattle.std.specs.Str.{all_ascii_digits}
use Rattle.std.specs.Str.Parse.{digits_value, digits_value_after}
use Rattle.ff_rec.proofs.number.read_digits.Given as goal

-- the digits that are left go on from what those before them are
abbrev pub invariant-loop-digit : goal.invariant-loop-digit
invariant-loop-digit l = record {
  value : digits_value_after 10 l.n (drop l.digit-index l.digits) ≡ digits_value 10 l.digits;
  numeral : all_ascii_digits (drop l.digit-index l.digits) ≡ all_ascii_digits l.digits;
  small : l.n < 10 ^ l.digit-index;
}
