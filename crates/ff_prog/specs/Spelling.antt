-- The language of statements as a table: which words each statement is written in.
use Rattle.std.specs.Prelude.{◌≡◌, ℕ, Bool, true, false, List, [], ◌∷◌, None, Some, codes, ◌↔◌}
use Rattle.std.specs.List.{AllByRecursion}
use Rattle.ff_prog.specs.Grammar.{statement}
use Rattle.ff_prog.specs.Words.{is_name, plain_number}
use Rattle.ff_prog.specs.declared.op.MdfOp.{MdfOp}
use Rattle.ff_prog.specs.declared.op.MdfOp.TheVariants.{Copy, Neg, Add, Sub, Mul, Div, Rem, Min, Max, Pick, DivMod}
use Rattle.ff_prog.specs.declared.statement.Operand.{Operand}
use Rattle.ff_prog.specs.declared.statement.Operand.TheVariants.{Name, Num}
use Rattle.ff_prog.specs.declared.statement.Statement.{Statement}
use Rattle.ff_prog.specs.declared.statement.Statement.TheVariants.{Task, Out}

-- a word
abbrev pub Word : Type 0
Word = List ℕ

-- the name of an operation
abbrev pub word_of : MdfOp → Word
word_of Copy = codes "copy"
word_of Neg = codes "neg"
word_of Add = codes "add"
word_of Sub = codes "sub"
word_of Mul = codes "mul"
word_of Div = codes "div"
word_of Rem = codes "rem"
word_of Min = codes "min"
word_of Max = codes "max"
word_of Pick = codes "pick"
word_of DivMod = codes "divmod"

-- the operations of one operand
abbrev pub is_unary : MdfOp → Bool
is_unary Copy = true
is_unary Neg = true
is_unary _ = false

-- the operations of two operands that write one name
abbrev pub is_binary : MdfOp → Bool
is_binary Copy = false
is_binary Neg = false
is_binary Pick = false
is_binary DivMod = false
is_binary _ = true

-- a word is a name
abbrev pub IsName : Word → Type 0
IsName w = is_name w ≡ true

-- a word is an operand: a name, or a number
abbrev pub IsOperand : Word → Operand → Type 0
IsOperand w (Name n) = IsName w × (n ≡ w)
IsOperand w (Num x) = (is_name w ≡ false) × (plain_number w ≡ Some x)

-- the words of a statement
pub data IsSpelled : List Word → Statement → Type 0 where
  unary : {n v : Word} {op : MdfOp} {a : Operand} → is_unary op ≡ true → IsName n → IsOperand v a
      → IsSpelled (n ∷ codes "=" ∷ word_of op ∷ v ∷ []) (Task n None op a None None)
  binary : {n v w : Word} {op : MdfOp} {a b : Operand} → is_binary op ≡ true → IsName n → IsOperand v a → IsOperand w b
      → IsSpelled (n ∷ codes "=" ∷ word_of op ∷ v ∷ w ∷ []) (Task n None op a (Some b) None)
  picked : {n v w u : Word} {a b c : Operand} → IsName n → IsOperand v a → IsOperand w b → IsOperand u c
      → IsSpelled (n ∷ codes "=" ∷ codes "pick" ∷ v ∷ w ∷ u ∷ []) (Task n None Pick a (Some b) (Some c))
  divided : {n m v w : Word} {a b : Operand} → IsName n → IsName m → IsOperand v a → IsOperand w b
      → IsSpelled (n ∷ m ∷ codes "=" ∷ codes "divmod" ∷ v ∷ w ∷ []) (Task n (Some m) DivMod a (Some b) None)
  put_out : {n : Word} {ns : List Word} → AllByRecursion IsName (n ∷ ns) → IsSpelled (codes "out" ∷ n ∷ ns) (Out (n ∷ ns))

-- what `statement` gives for words is the one statement that they spell
abbrev pub StatementsAreSpelled : Type 0
StatementsAreSpelled = (ws : List Word) (s : Statement) → (statement ws ≡ Some s) ↔ IsSpelled ws s
