-- What is spelled as a statement is read as it.
use Rattle.std.proofs.Common.{◌≡◌, Bool, true, false, not, ◌&&◌, List, [], ◌∷◌, None, Some, refl, sym, ap, subst, ◌∙◌}
use Rattle.std.proofs.lemmas.Bool.{cond-true, cond-false}
use Rattle.std.specs.Prelude.{codes, option_map, option_and_then}
use Rattle.std.specs.List.{AllByRecursion}
use Rattle.std.specs.Str.{bytes_eq}
use Rattle.std.proofs.lemmas.Slice.Eq.{bytes_eq-Decides}
use Rattle.ff_prog.specs.Grammar.{statement, name, names, operand, operands, first, second, third, op_named, call, made, is_equal}
use Rattle.ff_prog.specs.Spelling.{Word, word_of, is_unary, is_binary, IsName, IsOperand, IsSpelled, unary, binary, picked, divided, put_out}
use Rattle.ff_prog.specs.Words.{is_name}
use Rattle.ff_prog.specs.declared.op.MdfOp.{MdfOp}
use Rattle.ff_prog.specs.declared.op.MdfOp.TheVariants.{Copy, Neg, Add, Sub, Mul, Div, Rem, Min, Max, Pick, DivMod}
use Rattle.ff_prog.specs.declared.operands.Operands.{Operands}
use Rattle.ff_prog.specs.declared.operands.Operands.TheVariants.{One, Two, Three}
use Rattle.ff_prog.specs.declared.operands.Targets.{Targets}
use Rattle.ff_prog.specs.declared.operands.Targets.TheVariants as targets
use Rattle.ff_prog.specs.declared.statement.Operand.{Operand}
use Rattle.ff_prog.specs.declared.statement.Operand.TheVariants.{Name, Num}
use Rattle.ff_prog.specs.declared.statement.Statement.{Statement}
use Rattle.ff_prog.specs.declared.statement.Statement.TheVariants.{Task, Out}

-- the second of two facts that both hold
and_right : (x y : Bool) → (x && y) ≡ true → y ≡ true
and_right true y e = e
and_right false y e = cc

not_true : (b : Bool) → not b ≡ true → b ≡ false
not_true true e = cc
not_true false e = refl

-- a name isn't `out`
name-not_out : (w : Word) → IsName w → bytes_eq w (codes "out") ≡ false
name-not_out [] e = cc
name-not_out (b ∷ bs) e = not_true (bytes_eq (b ∷ bs) (codes "out")) (and_right _ _ e)

name-is : (w : Word) → IsName w → name w ≡ Some w
name-is w e = cond-true (is_name w) (Some w) None e

operand-is : (w : Word) (o : Operand) → IsOperand w o → operand w ≡ Some o
operand-is w (Name n) h = cond-true (is_name w) _ _ h.0 ∙ ap (λ m. Some (Name m)) (sym h.1)
operand-is w (Num x) h = cond-false (is_name w) _ _ h.0 ∙ ap (option_map (λ n. Num n)) h.1

names-are : (ws : List Word) → AllByRecursion IsName ws → names ws ≡ Some ws
names-are [] h = refl
names-are (w ∷ ws) h = ap (λ t. option_and_then (λ n. option_map (λ ns. n ∷ ns) t) (name w)) (names-are ws h.1) ∙ ap (option_and_then (λ n. option_map (λ ns. n ∷ ns) (Some ws))) (name-is w h.0)

op_named-word_of : (op : MdfOp) → op_named (word_of op) ≡ Some op
op_named-word_of Copy = refl
op_named-word_of Neg = refl
op_named-word_of Add = refl
op_named-word_of Sub = refl
op_named-word_of Mul = refl
op_named-word_of Div = refl
op_named-word_of Rem = refl
op_named-word_of Min = refl
op_named-word_of Max = refl
op_named-word_of Pick = refl
op_named-word_of DivMod = refl

made-unary : (op : MdfOp) (n : Word) (a : Operand) → is_unary op ≡ true → made op (targets.One n) (One a) ≡ Some (Task n None op a None None)
made-unary Copy n a e = refl
made-unary Neg n a e = refl
made-unary Add n a e = cc
made-unary Sub n a e = cc
made-unary Mul n a e = cc
made-unary Div n a e = cc
made-unary Rem n a e = cc
made-unary Min n a e = cc
made-unary Max n a e = cc
made-unary Pick n a e = cc
made-unary DivMod n a e = cc

made-binary : (op : MdfOp) (n : Word) (a b : Operand) → is_binary op ≡ true → made op (targets.One n) (Two a b) ≡ Some (Task n None op a (Some b) None)
made-binary Copy n a b e = cc
made-binary Neg n a b e = cc
made-binary Add n a b e = refl
made-binary Sub n a b e = refl
made-binary Mul n a b e = refl
made-binary Div n a b e = refl
made-binary Rem n a b e = refl
made-binary Min n a b e = refl
made-binary Max n a b e = refl
made-binary Pick n a b e = cc
made-binary DivMod n a b e = cc

-- the operands that words are
operands-one : (v : Word) (a : Operand) → IsOperand v a → operands (v ∷ []) ≡ Some (One a)
operands-one v a h = ap (option_and_then (first [])) (operand-is v a h)

operands-two : (v w : Word) (a b : Operand) → IsOperand v a → IsOperand w b → operands (v ∷ w ∷ []) ≡ Some (Two a b)
operands-two v w a b h k = ap (option_and_then (first (w ∷ []))) (operand-is v a h) ∙ ap (option_and_then (second a [])) (operand-is w b k)

operands-three : (v w u : Word) (a b c : Operand) → IsOperand v a → IsOperand w b → IsOperand u c → operands (v ∷ w ∷ u ∷ []) ≡ Some (Three a b c)
operands-three v w u a b c h k l = ap (option_and_then (first (w ∷ u ∷ []))) (operand-is v a h) ∙ ap (option_and_then (second a (u ∷ []))) (operand-is w b k) ∙ ap (option_and_then (third a b [])) (operand-is u c l)

-- an operation with its operands
call-is : (op : MdfOp) (vs : List Word) (t : Targets) (os : Operands) → operands vs ≡ Some os → call (word_of op ∷ vs) t ≡ made op t os
call-is op vs t os e = ap (option_and_then (λ p. option_and_then (made p t) (operands vs))) (op_named-word_of op) ∙ ap (option_and_then (made op t)) e

-- a task of one name, and of two
one-name : (n : Word) (ws : List Word) → IsName n → statement (n ∷ codes "=" ∷ ws) ≡ call ws (targets.One n)
one-name n ws h = cond-false (bytes_eq n (codes "out")) _ _ (name-not_out n h) ∙ ap (λ t. option_and_then (call ws) (option_map (λ m. targets.One m) t)) (name-is n h)

-- a name isn't `=`
name-not_equal : (w : Word) → IsName w → is_equal w ≡ false
name-not_equal w h = by_test (is_equal w) refl
  where
    by_test : (t : Bool) → is_equal w ≡ t → is_equal w ≡ false
    by_test true e = let no : is_name (codes "=") ≡ true = subst IsName ((bytes_eq-Decides w (codes "=")).0 e) h in cc
    by_test false e = e

two-names : (n m : Word) (ws : List Word) → IsName n → IsName m → statement (n ∷ m ∷ codes "=" ∷ ws) ≡ call ws (targets.Two n m)
two-names n m ws h k =
    cond-false (bytes_eq n (codes "out")) _ _ (name-not_out n h)
    ∙ cond-false (is_equal m) _ _ (name-not_equal m k)
    ∙ ap (λ t. option_and_then (call ws) (option_and_then (λ p. option_map (λ q. targets.Two p q) (name m)) t)) (name-is n h)
    ∙ ap (λ t. option_and_then (call ws) (option_map (λ q. targets.Two n q) t)) (name-is m k)

pub statement-spelled : (ws : List Word) (s : Statement) → IsSpelled ws s → statement ws ≡ Some s
statement-spelled ws s (unary {n} {v} {op} {a} u h k) = one-name n (word_of op ∷ v ∷ []) h ∙ call-is op (v ∷ []) (targets.One n) (One a) (operands-one v a k) ∙ made-unary op n a u
statement-spelled ws s (binary {n} {v} {w} {op} {a} {b} u h k l) = one-name n (word_of op ∷ v ∷ w ∷ []) h ∙ call-is op (v ∷ w ∷ []) (targets.One n) (Two a b) (operands-two v w a b k l) ∙ made-binary op n a b u
statement-spelled ws s (picked {n} {v} {w} {u} {a} {b} {c} h k l m) = one-name n (codes "pick" ∷ v ∷ w ∷ u ∷ []) h ∙ call-is Pick (v ∷ w ∷ u ∷ []) (targets.One n) (Three a b c) (operands-three v w u a b c k l m)
statement-spelled ws s (divided {n} {m} {v} {w} {a} {b} h i k l) = two-names n m (codes "divmod" ∷ v ∷ w ∷ []) h i ∙ call-is DivMod (v ∷ w ∷ []) (targets.Two n m) (Two a b) (operands-two v w a b k l)
statement-spelled ws s (put_out {n} {ns} h) = ap (option_map (λ ms. Out ms)) (names-are (n ∷ ns) h)
