-- In whatever order statements are done, each gives what it gives in program order.
use Rattle.std.proofs.Common.{◌≡◌, ℕ, Bool, true, false, List, [], ◌∷◌, ◌++◌, Option, None, Some, refl, sym, ap, ◌∙◌, ◌⊎◌, inl, inr, eqb-true}
use Rattle.std.specs.Prelude.{slice_get, if◌then◌else◌, option_map, is_some, ◌==◌}
use Rattle.std.specs.List.{AllByRecursion}
use Rattle.ff_prog.specs.Writers.{latest, name_in, name_if, reads}
use Rattle.ff_prog.specs.declared.statement.Operand.{Operand}
use Rattle.ff_prog.specs.declared.statement.Operand.TheVariants as operand
use Rattle.ff_prog.specs.declared.statement.Statement.{Statement}
use Rattle.ff_prog.specs.declared.statement.Statement.TheVariants.{Task, Out}
use Rattle.ff_mdf.specs.declared.value.Value.{Value}
use Rattle.ff_mdf.specs.declared.value.MdfAnswer.{MdfAnswer}
use Rattle.ff_mdf.specs.Values.{applied, or_bad}
use Rattle.ff_mdf.specs.Stores.{Env, value_of, value_if, answer, given, after, answer_at}
use Rattle.ff_mdf.specs.Versions.{version}
use Rattle.ff_mdf.specs.Orders.{Back, back_of, came, by_backs, IsBack, IsSound, AnyOrderGivesStore}
use Rattle.ff_mdf.proofs.Versions.{after-version}

-- a fact of all elements, for both parts of a list
pub parts : (P : List ℕ → Type 0) (xs ys : List (List ℕ)) → AllByRecursion P (xs ++ ys) → AllByRecursion P xs × AllByRecursion P ys
parts P [] ys h = (tt, h)
parts P (x ∷ xs) ys h = let both = parts P xs ys h.1 in ((h.0, both.0), both.1)

-- a fact of all elements that follows from another
follows : (P Q : List ℕ → Type 0) → ((n : List ℕ) → P n → Q n) → (xs : List (List ℕ)) → AllByRecursion P xs → AllByRecursion Q xs
follows P Q f [] h = tt
follows P Q f (x ∷ xs) h = (f x h.0, follows P Q f xs h.1)

-- two meanings of names agree on one
abbrev pub Agree : Env → Env → List ℕ → Type 0
Agree e f n = e n ≡ f n

pub value_same : (e f : Env) (o : Operand) → AllByRecursion (Agree e f) (name_in o) → value_of e o ≡ value_of f o
value_same e f (operand.Name n) h = h.0
value_same e f (operand.Num x) h = refl

pub value_if_same : (e f : Env) (o : Option Operand) → AllByRecursion (Agree e f) (name_if o) → value_if e o ≡ value_if f o
value_if_same e f None h = refl
value_if_same e f (Some o) h = ap Some (value_same e f o h)

-- what a statement gives stands on the names that it reads alone
answer_same : (e f : Env) (s : Option Statement) → AllByRecursion (Agree e f) (reads s) → answer s e ≡ answer s f
answer_same e f (Some (Task first second op a b c)) h =
    let one = parts (Agree e f) (name_in a) (name_if b ++ name_if c) h in
    let two = parts (Agree e f) (name_if b) (name_if c) one.1 in
    ap (λ v. applied op v (value_if e b) (value_if e c)) (value_same e f a one.0)
    ∙ ap (λ v. applied op (value_of f a) v (value_if e c)) (value_if_same e f b two.0)
    ∙ ap (λ v. applied op (value_of f a) (value_if f b) v) (value_if_same e f c two.1)
answer_same e f (Some (Out names)) h = refl
answer_same e f None h = refl

-- what came back from a writer that is back
came_one : (g : MdfAnswer → Value) (r : Option MdfAnswer) (y : MdfAnswer) → ((x : MdfAnswer) → r ≡ Some x → x ≡ y) → is_some r ≡ true → or_bad (option_map g r) ≡ g y
came_one g None y known back = cc
came_one g (Some x) y known back = ap g (known x refl)

-- where what came back is as in program order, so is what came back for a name
came_is : (ss : List Statement) (log : List Back) (n : List ℕ) (o : Option ℕ) → ((k : ℕ) (x : MdfAnswer) → back_of log k ≡ Some x → x ≡ answer_at ss k) → ((j : ℕ) → o ≡ Some j → is_some (back_of log j) ≡ true) → came ss log n o ≡ version ss n o
came_is ss log n None known back = refl
came_is ss log n (Some j) known back = came_one (λ x. given (slice_get ss j) x n) (back_of log j) (answer_at ss j) (known j) (back j refl)

agrees : (ss : List Statement) (log : List Back) → ((k : ℕ) (x : MdfAnswer) → back_of log k ≡ Some x → x ≡ answer_at ss k) → (k : ℕ) (n : List ℕ) → IsBack ss log k n → by_backs ss log k n ≡ after ss k n
agrees ss log known k n back = came_is ss log n (latest ss n k) known back ∙ sym (after-version ss k n)

-- what stands first, or behind
chosen : (t : Bool) (x y : MdfAnswer) (r : Option MdfAnswer) → (if t then Some x else r) ≡ Some y → ((t ≡ true) × (x ≡ y)) ⊎ (r ≡ Some y)
chosen true x y r e = inl (refl, cc)
chosen false x y r e = inr e

order : (ss : List Statement) (log : List Back) → IsSound ss log → (k : ℕ) (x : MdfAnswer) → back_of log k ≡ Some x → x ≡ answer_at ss k
order ss [] sound k x e = cc
order ss (b ∷ log) sound k x e =
    elim (chosen (b.id == k) b.answer x (back_of log k) e) [
      | inl h ↦ let same = eqb-true b.id k h.0 in
          sym h.1
          ∙ sound.1
          ∙ answer_same (by_backs ss log b.id) (after ss b.id) (slice_get ss b.id)
          (follows (IsBack ss log b.id) (Agree (by_backs ss log b.id) (after ss b.id)) (agrees ss log (order ss log sound.2) b.id) (reads (slice_get ss b.id)) sound.0)
          ∙ ap (answer_at ss) same
      | inr h ↦ order ss log sound.2 k x h
    ]

pub orders : AnyOrderGivesStore
orders ss log sound = record {
  answers = order ss log sound;
  values = agrees ss log (order ss log sound);
}
