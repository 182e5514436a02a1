-- The name of a row is that of no other.
use Rattle.std.proofs.Common.{◌≡◌, ℕ, Bool, true, false, cond, List, [], ◌∷◌, Option, Some, refl, sym, ap, ◌∙◌}
use Rattle.std.specs.Prelude.{find}
use Rattle.std.specs.Cmp.Lexicographic.{bytes_decides}
use Rattle.ff_rec.specs.Fields.{same_bytes}
use Rattle.ff_ops.specs.Table.{name_of, row_named}
use Rattle.ff_ops.specs.declared.row.Row.{Row}
use Rattle.ff_ops.specs.declared.row.Row.TheVariants.{Id}
use Rattle.ff_ops.specs.declared.row.TheConstants.{ROWS}

-- what is found passes the test
find-front : {A : Type 0} (test : A → Bool) (y x : A) (rest : Option A) (b : Bool) → test y ≡ b → (rest ≡ Some x → test x ≡ true) → cond b (Some y) rest ≡ Some x → test x ≡ true
find-front test y x rest true is behind h = let same : y ≡ x = cc in ap test (sym same) ∙ is
find-front test y x rest false is behind h = behind h

pub find-test : {A : Type 0} (test : A → Bool) (xs : List A) (x : A) → find test xs ≡ Some x → test x ≡ true
find-test test [] x e = absurd (cc)
find-test test (y ∷ ys) x e = find-front test y x (find test ys) (test y) refl (find-test test ys x) e

-- the row with a name has this name
pub name_of-row_named : (name : List ℕ) (row : Row) → row_named name ≡ Some row → name_of row ≡ name
name_of-row_named name row e =
    (bytes_decides (name_of row) name).0 (find-test (λ r. same_bytes (name_of r) name) ROWS row e)

-- each row is found by its name
pub row_named-name_of : (row : Row) → row_named (name_of row) ≡ Some row
row_named-name_of Id = refl
row_named-name_of row = refl
