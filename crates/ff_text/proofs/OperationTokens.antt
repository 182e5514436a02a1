-- Arguments and comparisons, and their tokens.
use Rattle.std.proofs.Common.{◌≡◌, Option, None, Some, refl, ap, ◌∙◌}
use Rattle.std.specs.Option.{option_map}
use Rattle.ff_rec.specs.declared.cmp.Cmp.{Cmp}
use Rattle.ff_rec.specs.declared.cmp.Cmp.TheVariants.{Lt, Le, Eq, Ne, Ge, Gt}
use Rattle.ff_ops.specs.declared.arg.Arg.{Arg}
use Rattle.ff_ops.specs.declared.arg.Arg.TheVariants.{Num, Cmp as Compared, Text}
use Rattle.ff_text.specs.declared.text_mark.TextMark.{TextMark}
use Rattle.ff_text.specs.declared.text_mark.TextMark.TheVariants.{Open, Close, Comma, Less, AtMost, Equal, Unequal, AtLeast, Greater, Semicolon}
use Rattle.ff_text.specs.Tokens.{Token, Word, Number, Sign, Quoted, Bad, Stop}
use Rattle.ff_text.specs.OperationTokens.{mark_of, argument_token, comparison, argument}

-- comparisons and their marks
comparison-mark_of : (cmp : Cmp) → comparison (mark_of cmp) ≡ Some cmp
comparison-mark_of Lt = refl
comparison-mark_of Le = refl
comparison-mark_of Eq = refl
comparison-mark_of Ne = refl
comparison-mark_of Ge = refl
comparison-mark_of Gt = refl

mark_of-comparison : (m : TextMark) (cmp : Cmp) → comparison m ≡ Some cmp → m ≡ mark_of cmp
mark_of-comparison Open cmp e = absurd (cc)
mark_of-comparison Close cmp e = absurd (cc)
mark_of-comparison Comma cmp e = absurd (cc)
mark_of-comparison Less cmp e = let is : Lt ≡ cmp = cc in ap mark_of is
mark_of-comparison AtMost cmp e = let is : Le ≡ cmp = cc in ap mark_of is
mark_of-comparison Equal cmp e = let is : Eq ≡ cmp = cc in ap mark_of is
mark_of-comparison Unequal cmp e = let is : Ne ≡ cmp = cc in ap mark_of is
mark_of-comparison AtLeast cmp e = let is : Ge ≡ cmp = cc in ap mark_of is
mark_of-comparison Greater cmp e = let is : Gt ≡ cmp = cc in ap mark_of is
mark_of-comparison Semicolon cmp e = absurd (cc)

-- arguments and their tokens
pub argument-argument_token : (a : Arg) → argument (argument_token a) ≡ Some a
argument-argument_token (Num n) = refl
argument-argument_token (Compared cmp) = ap (option_map (λ c. Compared c)) (comparison-mark_of cmp)
argument-argument_token (Text bytes) = refl

argument-sign : (m : TextMark) (c : Option Cmp) (a : Arg) → comparison m ≡ c → option_map (λ cmp. Compared cmp) c ≡ Some a → Sign m ≡ argument_token a
argument-sign m None a is e = absurd (cc)
argument-sign m (Some cmp) a is e =
    let same : Compared cmp ≡ a = cc in ap Sign (mark_of-comparison m cmp is) ∙ ap argument_token same

pub argument_token-argument : (t : Token) (a : Arg) → argument t ≡ Some a → t ≡ argument_token a
argument_token-argument (Word bytes) a e = absurd (cc)
argument_token-argument (Number None) a e = absurd (cc)
argument_token-argument (Number (Some n)) a e = let same : Num n ≡ a = cc in ap argument_token same
argument_token-argument (Sign m) a e = argument-sign m (comparison m) a refl e
argument_token-argument (Quoted bytes) a e = let same : Text bytes ≡ a = cc in ap argument_token same
argument_token-argument Bad a e = absurd (cc)
argument_token-argument Stop a e = absurd (cc)
