-- How two numbers stand to each other.
use Rattle.std.specs.Prelude.{Bool, not, ◌&&◌, ℤ, int_lt, int_le}
use Rattle.ff_rec.specs.declared.cmp.Cmp.{Cmp}
use Rattle.ff_rec.specs.declared.cmp.Cmp.TheVariants.{Lt, Le, Eq, Ne, Ge, Gt}

-- whether a comparison holds of `x` and `y`
abbrev pub compares : Cmp → ℤ → ℤ → Bool
compares Lt x y = int_lt x y
compares Le x y = int_le x y
compares Eq x y = int_le x y && int_le y x
compares Ne x y = not (int_le x y && int_le y x)
compares Ge x y = int_le y x
compares Gt x y = int_lt y x
