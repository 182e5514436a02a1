-- What is read as a statement is spelled as it.
use Rattle.std.proofs.Common.{◌≡◌, Bool, true, false, List, [], ◌∷◌, Option, None, Some, refl, sym, ap, subst, ◌∙◌}
use Rattle.std.specs.Prelude.{codes, if◌then◌else◌, option_map, option_and_then}
use Rattle.std.specs.List.{AllByRecursion}
use Rattle.std.specs.Str.{bytes_eq}
use Rattle.std.proofs.lemmas.Slice.Eq.{bytes_eq-Decides}
use Rattle.ff_prog.specs.Grammar.{statement, name, names, operand, operands, first, second, third, op_named, call, made, task, task_of_two, out, one_target, two_targets, is_equal}
use Rattle.ff_prog.specs.Spelling.{Word, word_of, IsName, IsOperand, IsSpelled, unary, binary, picked, divided, put_out, StatementsAreSpelled}
use Rattle.ff_prog.specs.Words.{is_name, plain_number}
use Rattle.ff_prog.specs.declared.op.MdfOp.{MdfOp}
use Rattle.ff_prog.specs.declared.op.MdfOp.TheVariants.{Copy, Neg, Add, Sub, Mul, Div, Rem, Min, Max, Pick, DivMod}
use Rattle.ff_prog.specs.declared.operands.Operands.{Operands}
use Rattle.ff_prog.specs.declared.operands.Operands.TheVariants.{One, Two, Three}
use Rattle.ff_prog.specs.declared.operands.Targets.TheVariants as targets
use Rattle.ff_prog.specs.declared.statement.Operand.{Operand}
use Rattle.ff_prog.specs.declared.statement.Operand.TheVariants.{Name, Num}
use Rattle.ff_prog.specs.declared.statement.Statement.{Statement}
use Rattle.ff_prog.specs.declared.statement.Statement.TheVariants.{Task, Out}
use Rattle.ff_prog.proofs.Spelled.{statement-spelled}

-- what a chain of options came from
record From {A B : Type 0} (f : A → Option B) (o : Option A) (y : B) : Type 0 where
  value : A
  here : o ≡ Some value
  gives : f value ≡ Some y

and_then-from : {A B : Type 0} (f : A → Option B) (o : Option A) (y : B) → option_and_then f o ≡ Some y → From f o y
and_then-from f None y e = cc
and_then-from f (Some x) y e = record { value = x; here = refl; gives = e }

-- what a mapped option came from
record Mapped {A B : Type 0} (f : A → B) (o : Option A) (y : B) : Type 0 where
  value : A
  here : o ≡ Some value
  is : f value ≡ y

map-from : {A B : Type 0} (f : A → B) (o : Option A) (y : B) → option_map f o ≡ Some y → Mapped f o y
map-from f None y e = cc
map-from f (Some x) y e = record { value = x; here = refl; is = cc }

-- a choice with nothing on its other side
chosen : {A : Type 0} (t : Bool) (o : Option A) (y : A) → (if t then o else None) ≡ Some y → (t ≡ true) × (o ≡ Some y)
chosen true o y e = (refl, e)
chosen false o y e = cc

name-from : (w n : Word) → name w ≡ Some n → (n ≡ w) × IsName w
name-from w n e = let h = chosen (is_name w) (Some w) n e in (cc, h.0)

operand_by : (t : Bool) (w : Word) (o : Operand) → is_name w ≡ t → (if t then Some (Name w) else option_map (λ n. Num n) (plain_number w)) ≡ Some o → IsOperand w o
operand_by true w (Name n) t e = (t, cc)
operand_by true w (Num x) t e = cc
operand_by false w (Name n) t e = let h = map-from (λ x. Num x) (plain_number w) (Name n) e in let no : Num h.value ≡ Name n = h.is in cc
operand_by false w (Num x) t e =
    let h = map-from (λ y. Num y) (plain_number w) (Num x) e in
    let same : Num h.value ≡ Num x = h.is in
    let value : h.value ≡ x = cc in
    (t, h.here ∙ ap Some value)

operand-from : (w : Word) (o : Operand) → operand w ≡ Some o → IsOperand w o
operand-from w o e = operand_by (is_name w) w o refl e

names-from : (ws ns : List Word) → names ws ≡ Some ns → (ns ≡ ws) × AllByRecursion IsName ws
names-from [] ns e = (cc, tt)
names-from (w ∷ ws) ns e =
    let a = and_then-from (λ n. option_map (λ ms. n ∷ ms) (names ws)) (name w) ns e in
    let b = map-from (λ ms. a.value ∷ ms) (names ws) ns a.gives in
    let head = name-from w a.value a.here in
    let tail = names-from ws b.value b.here in
    let whole : a.value ∷ b.value ≡ ns = b.is in
    (sym whole ∙ ap (λ n. n ∷ b.value) head.0 ∙ ap (λ ms. w ∷ ms) tail.0, (head.1, tail.1))

-- the words that are operands
data AreOperands : List Word → Operands → Type 0 where
  one : {v : Word} {a : Operand} → IsOperand v a → AreOperands (v ∷ []) (One a)
  two : {v w : Word} {a b : Operand} → IsOperand v a → IsOperand w b → AreOperands (v ∷ w ∷ []) (Two a b)
  three : {v w u : Word} {a b c : Operand} → IsOperand v a → IsOperand w b → IsOperand u c → AreOperands (v ∷ w ∷ u ∷ []) (Three a b c)

third-from : (v w u : Word) (a b c : Operand) (ws : List Word) (os : Operands) → IsOperand v a → IsOperand w b → IsOperand u c → third a b ws c ≡ Some os → AreOperands (v ∷ w ∷ u ∷ ws) os
third-from v w u a b c [] os h k l e = let is : Three a b c ≡ os = cc in subst (AreOperands (v ∷ w ∷ u ∷ [])) is (three h k l)
third-from v w u a b c (x ∷ ws) os h k l e = cc

second-from : (v w : Word) (a b : Operand) (ws : List Word) (os : Operands) → IsOperand v a → IsOperand w b → second a ws b ≡ Some os → AreOperands (v ∷ w ∷ ws) os
second-from v w a b [] os h k e = let is : Two a b ≡ os = cc in subst (AreOperands (v ∷ w ∷ [])) is (two h k)
second-from v w a b (u ∷ ws) os h k e =
    let c = and_then-from (third a b ws) (operand u) os e in
    third-from v w u a b c.value ws os h k (operand-from u c.value c.here) c.gives

first-from : (v : Word) (a : Operand) (ws : List Word) (os : Operands) → IsOperand v a → first ws a ≡ Some os → AreOperands (v ∷ ws) os
first-from v a [] os h e = let is : One a ≡ os = cc in subst (AreOperands (v ∷ [])) is (one h)
first-from v a (w ∷ ws) os h e =
    let b = and_then-from (second a ws) (operand w) os e in
    second-from v w a b.value ws os h (operand-from w b.value b.here) b.gives

operands-from : (ws : List Word) (os : Operands) → operands ws ≡ Some os → AreOperands ws os
operands-from [] os e = cc
operands-from (v ∷ ws) os e =
    let a = and_then-from (first ws) (operand v) os e in
    first-from v a.value ws os (operand-from v a.value a.here) a.gives

-- an operation is read from its word, or from one of those behind it
word_by : (t : Bool) (w v : Word) (op p : MdfOp) (o : Option MdfOp) → bytes_eq w v ≡ t → (op ≡ p → v ≡ word_of p) → (o ≡ Some p → w ≡ word_of p) → (if t then Some op else o) ≡ Some p → w ≡ word_of p
word_by true w v op p o t here behind e = let is : op ≡ p = cc in (bytes_eq-Decides w v).0 t ∙ here is
word_by false w v op p o t here behind e = behind e

word_at : (w : Word) (op p : MdfOp) (o : Option MdfOp) → (o ≡ Some p → w ≡ word_of p) → (if bytes_eq w (word_of op) then Some op else o) ≡ Some p → w ≡ word_of p
word_at w op p o behind e = word_by (bytes_eq w (word_of op)) w (word_of op) op p o refl (λ is. ap word_of is) behind e

op_named-from : (w : Word) (p : MdfOp) → op_named w ≡ Some p → w ≡ word_of p
op_named-from w p =
    word_at w Copy p _
    (word_at w Neg p _
    (word_at w Add p _
    (word_at w Sub p _
    (word_at w Mul p _
    (word_at w Div p _
    (word_at w Rem p _
    (word_at w Min p _
    (word_at w Max p _
    (word_at w Pick p _
    (word_at w DivMod p None (λ e. cc)))))))))))

-- a statement spelled is spelled as its equal
spelled_as : (ws : List Word) (t s : Statement) → IsSpelled ws t → Some t ≡ Some s → IsSpelled ws s
spelled_as ws t s h e = let is : t ≡ s = cc in subst (IsSpelled ws) is h

-- which statement one name, an operation and operands make
made-one : (n : Word) (op : MdfOp) (vs : List Word) (os : Operands) (s : Statement) → IsName n → AreOperands vs os → made op (targets.One n) os ≡ Some s → IsSpelled (n ∷ codes "=" ∷ word_of op ∷ vs) s
made-one n Copy vs os s h (one {v} {a} k) e = spelled_as (n ∷ codes "=" ∷ word_of Copy ∷ v ∷ []) (Task n None Copy a None None) s (unary refl h k) e
made-one n Copy vs os s h (two k l) e = cc
made-one n Copy vs os s h (three k l m) e = cc
made-one n Neg vs os s h (one {v} {a} k) e = spelled_as (n ∷ codes "=" ∷ word_of Neg ∷ v ∷ []) (Task n None Neg a None None) s (unary refl h k) e
made-one n Neg vs os s h (two k l) e = cc
made-one n Neg vs os s h (three k l m) e = cc
made-one n Add vs os s h (one k) e = cc
made-one n Add vs os s h (two {v} {w} {a} {b} k l) e = spelled_as (n ∷ codes "=" ∷ word_of Add ∷ v ∷ w ∷ []) (Task n None Add a (Some b) None) s (binary refl h k l) e
made-one n Add vs os s h (three k l m) e = cc
made-one n Sub vs os s h (one k) e = cc
made-one n Sub vs os s h (two {v} {w} {a} {b} k l) e = spelled_as (n ∷ codes "=" ∷ word_of Sub ∷ v ∷ w ∷ []) (Task n None Sub a (Some b) None) s (binary refl h k l) e
made-one n Sub vs os s h (three k l m) e = cc
made-one n Mul vs os s h (one k) e = cc
made-one n Mul vs os s h (two {v} {w} {a} {b} k l) e = spelled_as (n ∷ codes "=" ∷ word_of Mul ∷ v ∷ w ∷ []) (Task n None Mul a (Some b) None) s (binary refl h k l) e
made-one n Mul vs os s h (three k l m) e = cc
made-one n Div vs os s h (one k) e = cc
made-one n Div vs os s h (two {v} {w} {a} {b} k l) e = spelled_as (n ∷ codes "=" ∷ word_of Div ∷ v ∷ w ∷ []) (Task n None Div a (Some b) None) s (binary refl h k l) e
made-one n Div vs os s h (three k l m) e = cc
made-one n Rem vs os s h (one k) e = cc
made-one n Rem vs os s h (two {v} {w} {a} {b} k l) e = spelled_as (n ∷ codes "=" ∷ word_of Rem ∷ v ∷ w ∷ []) (Task n None Rem a (Some b) None) s (binary refl h k l) e
made-one n Rem vs os s h (three k l m) e = cc
made-one n Min vs os s h (one k) e = cc
made-one n Min vs os s h (two {v} {w} {a} {b} k l) e = spelled_as (n ∷ codes "=" ∷ word_of Min ∷ v ∷ w ∷ []) (Task n None Min a (Some b) None) s (binary refl h k l) e
made-one n Min vs os s h (three k l m) e = cc
made-one n Max vs os s h (one k) e = cc
made-one n Max vs os s h (two {v} {w} {a} {b} k l) e = spelled_as (n ∷ codes "=" ∷ word_of Max ∷ v ∷ w ∷ []) (Task n None Max a (Some b) None) s (binary refl h k l) e
made-one n Max vs os s h (three k l m) e = cc
made-one n Pick vs os s h (one k) e = cc
made-one n Pick vs os s h (two k l) e = cc
made-one n Pick vs os s h (three {v} {w} {u} {a} {b} {c} k l m) e = spelled_as (n ∷ codes "=" ∷ word_of Pick ∷ v ∷ w ∷ u ∷ []) (Task n None Pick a (Some b) (Some c)) s (picked h k l m) e
made-one n DivMod vs os s h (one k) e = cc
made-one n DivMod vs os s h (two k l) e = cc
made-one n DivMod vs os s h (three k l m) e = cc

made-two : (n m : Word) (op : MdfOp) (vs : List Word) (os : Operands) (s : Statement) → IsName n → IsName m → AreOperands vs os → made op (targets.Two n m) os ≡ Some s → IsSpelled (n ∷ m ∷ codes "=" ∷ word_of op ∷ vs) s
made-two n m Copy vs os s h i x e = cc
made-two n m Neg vs os s h i x e = cc
made-two n m Add vs os s h i x e = cc
made-two n m Sub vs os s h i x e = cc
made-two n m Mul vs os s h i x e = cc
made-two n m Div vs os s h i x e = cc
made-two n m Rem vs os s h i x e = cc
made-two n m Min vs os s h i x e = cc
made-two n m Max vs os s h i x e = cc
made-two n m Pick vs os s h i x e = cc
made-two n m DivMod vs os s h i (one k) e = cc
made-two n m DivMod vs os s h i (two {v} {w} {a} {b} k l) e = spelled_as (n ∷ m ∷ codes "=" ∷ word_of DivMod ∷ v ∷ w ∷ []) (Task n (Some m) DivMod a (Some b) None) s (divided h i k l) e
made-two n m DivMod vs os s h i (three k l m') e = cc

-- from the operation on
call-one : (n : Word) (ws : List Word) (s : Statement) → IsName n → call ws (targets.One n) ≡ Some s → IsSpelled (n ∷ codes "=" ∷ ws) s
call-one n [] s h e = cc
call-one n (w ∷ ws) s h e =
    let p = and_then-from (λ op. option_and_then (made op (targets.One n)) (operands ws)) (op_named w) s e in
    let os = and_then-from (made p.value (targets.One n)) (operands ws) s p.gives in
    let spelled = made-one n p.value ws os.value s h (operands-from ws os.value os.here) os.gives in
    subst (λ (u : Word). IsSpelled (n ∷ codes "=" ∷ u ∷ ws) s) (sym (op_named-from w p.value p.here)) spelled

call-two : (n m : Word) (ws : List Word) (s : Statement) → IsName n → IsName m → call ws (targets.Two n m) ≡ Some s → IsSpelled (n ∷ m ∷ codes "=" ∷ ws) s
call-two n m [] s h i e = cc
call-two n m (w ∷ ws) s h i e =
    let p = and_then-from (λ op. option_and_then (made op (targets.Two n m)) (operands ws)) (op_named w) s e in
    let os = and_then-from (made p.value (targets.Two n m)) (operands ws) s p.gives in
    let spelled = made-two n m p.value ws os.value s h i (operands-from ws os.value os.here) os.gives in
    subst (λ (u : Word). IsSpelled (n ∷ m ∷ codes "=" ∷ u ∷ ws) s) (sym (op_named-from w p.value p.here)) spelled

-- from `=` on
one-from : (n q : Word) (ws : List Word) (s : Statement) → is_equal q ≡ true → option_and_then (call ws) (one_target n) ≡ Some s → IsSpelled (n ∷ q ∷ ws) s
one-from n q ws s t e =
    let a = and_then-from (call ws) (one_target n) s e in
    let b = map-from (λ m. targets.One m) (name n) a.value a.here in
    let h = name-from n b.value b.here in
    let target : a.value ≡ targets.One n = sym b.is ∙ ap (λ m. targets.One m) h.0 in
    let called : call ws (targets.One n) ≡ Some s = ap (call ws) (sym target) ∙ a.gives in
    subst (λ (u : Word). IsSpelled (n ∷ u ∷ ws) s) (sym ((bytes_eq-Decides q (codes "=")).0 t)) (call-one n ws s h.1 called)

two-from : (n m q : Word) (ws : List Word) (s : Statement) → is_equal q ≡ true → option_and_then (call ws) (two_targets n m) ≡ Some s → IsSpelled (n ∷ m ∷ q ∷ ws) s
two-from n m q ws s t e =
    let a = and_then-from (call ws) (two_targets n m) s e in
    let b = and_then-from (λ p. option_map (λ r. targets.Two p r) (name m)) (name n) a.value a.here in
    let c = map-from (λ r. targets.Two b.value r) (name m) a.value b.gives in
    let h = name-from n b.value b.here in
    let i = name-from m c.value c.here in
    let target : a.value ≡ targets.Two n m = sym c.is ∙ ap (λ p. targets.Two p c.value) h.0 ∙ ap (targets.Two n) i.0 in
    let called : call ws (targets.Two n m) ≡ Some s = ap (call ws) (sym target) ∙ a.gives in
    subst (λ (u : Word). IsSpelled (n ∷ m ∷ u ∷ ws) s) (sym ((bytes_eq-Decides q (codes "=")).0 t)) (call-two n m ws s h.1 i.1 called)

two_names-from : (n m : Word) (ws : List Word) (s : Statement) → task_of_two n m ws ≡ Some s → IsSpelled (n ∷ m ∷ ws) s
two_names-from n m [] s e = cc
two_names-from n m (q ∷ ws) s e = let h = chosen (is_equal q) (option_and_then (call ws) (two_targets n m)) s e in two-from n m q ws s h.0 h.1

task_by : (t : Bool) (n q : Word) (ws : List Word) (s : Statement) → is_equal q ≡ t → (if t then option_and_then (call ws) (one_target n) else task_of_two n q ws) ≡ Some s → IsSpelled (n ∷ q ∷ ws) s
task_by true n q ws s t e = one-from n q ws s t e
task_by false n q ws s t e = two_names-from n q ws s e

task-from : (n : Word) (ws : List Word) (s : Statement) → task n ws ≡ Some s → IsSpelled (n ∷ ws) s
task-from n [] s e = cc
task-from n (q ∷ ws) s e = task_by (is_equal q) n q ws s refl e

out-from : (ws : List Word) (s : Statement) → out ws ≡ Some s → IsSpelled (codes "out" ∷ ws) s
out-from [] s e = cc
out-from (w ∷ ws) s e =
    let a = map-from (λ ns. Out ns) (names (w ∷ ws)) s e in
    let h = names-from (w ∷ ws) a.value a.here in
    let is : Out (w ∷ ws) ≡ s = ap (λ ns. Out ns) (sym h.0) ∙ a.is in
    subst (IsSpelled (codes "out" ∷ w ∷ ws)) is (put_out h.1)

statement_by : (t : Bool) (w : Word) (ws : List Word) (s : Statement) → bytes_eq w (codes "out") ≡ t → (if t then out ws else task w ws) ≡ Some s → IsSpelled (w ∷ ws) s
statement_by true w ws s t e = subst (λ (u : Word). IsSpelled (u ∷ ws) s) (sym ((bytes_eq-Decides w (codes "out")).0 t)) (out-from ws s e)
statement_by false w ws s t e = task-from w ws s e

statement-from : (ws : List Word) (s : Statement) → statement ws ≡ Some s → IsSpelled ws s
statement-from [] s e = cc
statement-from (w ∷ ws) s e = statement_by (bytes_eq w (codes "out")) w ws s refl e

pub spells : StatementsAreSpelled
spells ws s = (statement-from ws s, statement-spelled ws s)
