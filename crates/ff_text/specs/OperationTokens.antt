-- Operations and their arguments as tokens, and the arguments that tokens are.
use Rattle.std.specs.Prelude.{◌≡◌, List, ◌∷◌, map, Option, None, Some}
use Rattle.std.specs.Option.{option_map}
use Rattle.ff_rec.specs.declared.cmp.Cmp.{Cmp}
use Rattle.ff_rec.specs.declared.cmp.Cmp.TheVariants.{Lt, Le, Eq, Ne, Ge, Gt}
use Rattle.ff_ops.specs.Operation.{OpState, operation}
use Rattle.ff_ops.specs.Table.{name_of, kinds_of}
use Rattle.ff_ops.specs.Arguments.{AllFit}
use Rattle.ff_ops.specs.declared.arg.Arg.{Arg}
use Rattle.ff_ops.specs.declared.arg.Arg.TheVariants.{Num, Cmp as Compared, Text}
use Rattle.ff_text.specs.declared.text_mark.TextMark.{TextMark}
use Rattle.ff_text.specs.declared.text_mark.TextMark.TheVariants.{Open, Close, Comma, Less, AtMost, Equal, Unequal, AtLeast, Greater, Semicolon}
use Rattle.ff_text.specs.Tokens.{Token, Word, Number, Sign, Quoted, Bad, Stop}

-- the mark of a comparison
abbrev pub mark_of : Cmp → TextMark
mark_of Lt = Less
mark_of Le = AtMost
mark_of Eq = Equal
mark_of Ne = Unequal
mark_of Ge = AtLeast
mark_of Gt = Greater

-- an argument as a token
abbrev pub argument_token : Arg → Token
argument_token (Num n) = Number (Some n)
argument_token (Compared cmp) = Sign (mark_of cmp)
argument_token (Text bytes) = Quoted bytes

-- an operation as tokens: its name, and its arguments
abbrev pub spelling : OpState → List Token
spelling o = Word (name_of o.row) ∷ map argument_token o.args

-- an operation whose arguments fit its row, before its first record
abbrev pub IsNew : OpState → Type 0
IsNew o = (o ≡ operation o.row o.args) × AllFit o.args (kinds_of o.row)

-- the comparison that a mark is
abbrev pub comparison : TextMark → Option Cmp
comparison Open = None
comparison Close = None
comparison Comma = None
comparison Less = Some Lt
comparison AtMost = Some Le
comparison Equal = Some Eq
comparison Unequal = Some Ne
comparison AtLeast = Some Ge
comparison Greater = Some Gt
comparison Semicolon = None

-- the argument that a token is
abbrev pub argument : Token → Option Arg
argument (Word bytes) = None
argument (Number None) = None
argument (Number (Some n)) = Some (Num n)
argument (Sign mark) = option_map (λ cmp. Compared cmp) (comparison mark)
argument (Quoted bytes) = Some (Text bytes)
argument Bad = None
argument Stop = None
