-- Arguments that fit one by one, and what an operation is read from.
use Rattle.std.proofs.Common.{◌≡◌, ◌==◌, ◌+◌, ℕ, Bool, true, false, not, ◌&&◌, cond, List, [], ◌∷◌, length, Option, None, Some, Result, Ok, Err, refl, sym, ap, subst, ◌∙◌, arith}
use Rattle.std.proofs.lemmas.Bool.{eq-eqb, eqb-true}
use Rattle.std.proofs.lemmas.Iterator.Adapters.{position_from-zero}
use Rattle.std.specs.List.{position_from, zip}
use Rattle.ff_ops.specs.Arguments.{suits, is_within, AllFit}
use Rattle.ff_ops.specs.Operation.{OpState, operation, first_unsuited, first_outside, read_op}
use Rattle.ff_ops.specs.Table.{kinds_of, row_named}
use Rattle.ff_ops.specs.declared.arg.Arg.{Arg}
use Rattle.ff_ops.specs.declared.arg.ArgKind.{ArgKind}
use Rattle.ff_ops.specs.declared.op.OpFault.{OpFault}
use Rattle.ff_ops.specs.declared.op.OpFault.TheVariants.{UnknownOp, ArgCount, ArgKind as WrongKind, ArgRange}
use Rattle.ff_ops.specs.declared.row.Row.{Row}

-- tests of which none fails
passed-front : (b : Bool) (i : ℕ) (rest : Option ℕ) → cond (not b) (Some i) rest ≡ None → (b ≡ true) × (rest ≡ None)
passed-front true i rest e = (refl, e)
passed-front false i rest e = absurd (cc)

passes-front : (b : Bool) (i : ℕ) (rest : Option ℕ) → b ≡ true → rest ≡ None → cond (not b) (Some i) rest ≡ None
passes-front true i rest is e = e
passes-front false i rest is e = absurd (cc)

both-true : (b c : Bool) → b ≡ true → c ≡ true → (b && c) ≡ true
both-true true true e h = refl
both-true true false e h = absurd (cc)
both-true false c e h = absurd (cc)

parts-true : (b c : Bool) → (b && c) ≡ true → (b ≡ true) × (c ≡ true)
parts-true true c e = (refl, e)
parts-true false c e = absurd (cc)

AllFit-none : (i j : ℕ) (args : List Arg) (kinds : List ArgKind) → length args ≡ length kinds
    → position_from (λ a. not (suits a.0 a.1)) i (zip args kinds) ≡ None → position_from (λ a. not (is_within a.0 a.1)) j (zip args kinds) ≡ None → AllFit args kinds
AllFit-none i j [] [] len u o = tt
AllFit-none i j [] (k ∷ ks) len u o = absurd (omega arith)
AllFit-none i j (a ∷ as') [] len u o = absurd (omega arith)
AllFit-none i j (a ∷ as') (k ∷ ks) len u o =
    let s = passed-front (suits a k) i (position_from (λ a. not (suits a.0 a.1)) (i + 1) (zip as' ks)) u in
    let w = passed-front (is_within a k) j (position_from (λ a. not (is_within a.0 a.1)) (j + 1) (zip as' ks)) o in
    (both-true (suits a k) (is_within a k) s.0 w.0, AllFit-none (i + 1) (j + 1) as' ks (omega arith) s.1 w.1)

none-AllFit : (i j : ℕ) (args : List Arg) (kinds : List ArgKind) → AllFit args kinds
    → (length args ≡ length kinds) × (position_from (λ a. not (suits a.0 a.1)) i (zip args kinds) ≡ None) × (position_from (λ a. not (is_within a.0 a.1)) j (zip args kinds) ≡ None)
none-AllFit i j [] [] h = (refl, refl, refl)
none-AllFit i j [] (k ∷ ks) h = absurd h
none-AllFit i j (a ∷ as') [] h = absurd h
none-AllFit i j (a ∷ as') (k ∷ ks) h =
    let p = parts-true (suits a k) (is_within a k) h.0 in
    let q = none-AllFit (i + 1) (j + 1) as' ks h.1 in (
      omega (arith, q.0),
      passes-front (suits a k) i (position_from (λ a. not (suits a.0 a.1)) (i + 1) (zip as' ks)) p.0 q.1,
      passes-front (is_within a k) j (position_from (λ a. not (is_within a.0 a.1)) (j + 1) (zip as' ks)) p.1 q.2,
    )

-- arguments of which none is unsuited or outside fit
pub AllFit-passed : (args : List Arg) (kinds : List ArgKind) → length args ≡ length kinds → first_unsuited args kinds ≡ None → first_outside args kinds ≡ None
    → AllFit args kinds
AllFit-passed args kinds len u o =
    AllFit-none 0 0 args kinds len
    (sym (position_from-zero (λ a. not (suits a.0 a.1)) (zip args kinds)) ∙ u)
    (sym (position_from-zero (λ a. not (is_within a.0 a.1)) (zip args kinds)) ∙ o)

-- what an operation is read from
pub record IsReadFrom (name : List ℕ) (args : List Arg) (o : OpState) : Type 0 where
  pub named : row_named name ≡ Some o.row
  pub given : o.args ≡ args
  pub fit : AllFit args (kinds_of o.row)

abbrev pub Reads : List ℕ → List Arg → Result OpState OpFault → Type 0
Reads name args r = (o : OpState) → r ≡ Ok o → IsReadFrom name args o

abbrev within : List Arg → Row → Option ℕ → Result OpState OpFault
within args row None = Ok (operation row args)
within args row (Some k) = Err (ArgRange k)

abbrev suited : List Arg → Row → Option ℕ → Result OpState OpFault
suited args row None = within args row (first_outside args (kinds_of row))
suited args row (Some k) = Err (WrongKind k)

abbrev by_row : List Arg → Option Row → Result OpState OpFault
by_row args None = Err UnknownOp
by_row args (Some row) = cond (length args == length (kinds_of row)) (suited args row (first_unsuited args (kinds_of row))) (Err ArgCount)

Reads-within : (name : List ℕ) (args : List Arg) (row : Row) → row_named name ≡ Some row → length args ≡ length (kinds_of row)
    → first_unsuited args (kinds_of row) ≡ None → (k : Option ℕ) → first_outside args (kinds_of row) ≡ k → Reads name args (within args row k)
Reads-within name args row named len u None w o h =
    let same : operation row args ≡ o = cc in
    let fit = AllFit-passed args (kinds_of row) len u w in
    record { named = named ∙ ap (λ s. Some s.row) same; given = ap (λ s. s.args) (sym same); fit = subst (λ (s : OpState). AllFit args (kinds_of s.row)) same fit }
Reads-within name args row named len u (Some k) w o h = absurd (cc)

Reads-suited : (name : List ℕ) (args : List Arg) (row : Row) → row_named name ≡ Some row → length args ≡ length (kinds_of row)
    → (k : Option ℕ) → first_unsuited args (kinds_of row) ≡ k → Reads name args (suited args row k)
Reads-suited name args row named len None u o h = Reads-within name args row named len u (first_outside args (kinds_of row)) refl o h
Reads-suited name args row named len (Some k) u o h = absurd (cc)

Reads-if : (name : List ℕ) (args : List Arg) (test : Bool) (r : Result OpState OpFault) → (test ≡ true → Reads name args r) → Reads name args (cond test r (Err ArgCount))
Reads-if name args true r h o e = h refl o e
Reads-if name args false r h o e = absurd (cc)

Reads-by_row : (name : List ℕ) (args : List Arg) (row : Option Row) → row_named name ≡ row → Reads name args (by_row args row)
Reads-by_row name args None named o e = absurd (cc)
Reads-by_row name args (Some row) named o e =
    Reads-if name args (length args == length (kinds_of row)) (suited args row (first_unsuited args (kinds_of row)))
    (λ len. Reads-suited name args row named (eqb-true (length args) (length (kinds_of row)) len) (first_unsuited args (kinds_of row)) refl) o e

pub IsReadFrom-read_op : (name : List ℕ) (args : List Arg) → Reads name args (read_op name args)
IsReadFrom-read_op name args = Reads-by_row name args (row_named name) refl

-- arguments that fit make an operation
pub read_op-AllFit : (name : List ℕ) (row : Row) (args : List Arg) → row_named name ≡ Some row → AllFit args (kinds_of row) → read_op name args ≡ Ok (operation row args)
read_op-AllFit name row args named fit =
    let h = none-AllFit 0 0 args (kinds_of row) fit in
    ap (by_row args) named
    ∙ ap (λ b. cond b (suited args row (first_unsuited args (kinds_of row))) (Err ArgCount)) (eq-eqb (length args) (length (kinds_of row)) h.0)
    ∙ ap (suited args row) (position_from-zero (λ a. not (suits a.0 a.1)) (zip args (kinds_of row)) ∙ h.1)
    ∙ ap (within args row) (position_from-zero (λ a. not (is_within a.0 a.1)) (zip args (kinds_of row)) ∙ h.2)
