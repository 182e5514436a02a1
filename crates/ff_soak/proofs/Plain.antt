-- The records of a soak are plain.
use Rattle.std.proofs.Common.{ℕ, ◌*◌, ◌%◌, pos, arith}
use Rattle.std.specs.List.{AllByRecursion}
use Rattle.ff_rec.specs.Lines.{IsPlain}
use Rattle.ff_rec.proofs.Digits.{IsPlain-printed}
use Rattle.ff_soak.specs.Records.{soak_record}

pub IsPlain-soak_record : (i : ℕ) → AllByRecursion IsPlain (soak_record i)
IsPlain-soak_record i = (((λ e. omega arith, λ e. omega arith), IsPlain-printed (pos (i * i % 11))), (IsPlain-printed (pos (617 * i % 1000)), tt))
