-- Bytes can stand for each network that a text spells.
use Rattle.std.proofs.Common.{◌≡◌, ℕ, zero, suc, List, [], ◌∷◌, ◌++◌, map, Option, None, Some, subst}
use Rattle.std.specs.List.{AllByRecursion}
use Rattle.std.specs.Option.{MatchOption}
use Rattle.ff_ops.specs.Operation.{OpState}
use Rattle.ff_ops.specs.declared.arg.Arg.{Arg}
use Rattle.ff_ops.specs.declared.arg.Arg.TheVariants.{Num, Cmp as Compared, Text}
use Rattle.ff_net.specs.Tree.{Tree, Trees, Leaf, Pipe, Comb, Farm, OFarm, A2a, Wrap, none, more}
use Rattle.ff_text.specs.declared.text_mark.TextMark.TheVariants.{Close, Open}
use Rattle.ff_text.specs.Tokens.{Token, Sign, Stop, PlacedToken}
use Rattle.ff_text.specs.Cutting.{lexeme, put, spots, tokens}
use Rattle.ff_text.specs.Printing.{IsPrintable, tokens_of}
use Rattle.ff_text.specs.OperationTokens.{argument_token}
use Rattle.ff_text.specs.Grammar.{spelling, parts_spelling, behind_spelling, route_spelling, count_token}
use Rattle.ff_text.specs.Faults.{text_of}
use Rattle.ff_text.specs.PrintLaw.{CanPrint, CanPrintAll}
use Rattle.ff_text.proofs.CutTokens.{IsCut}
use Rattle.ff_text.proofs.Inside.{IsInside-lexeme}

abbrev AreCut : List Token → Type 0
AreCut ts = AllByRecursion IsCut ts

-- the tokens of a text
AreCut-put : (o : Option Token) (at : ℕ) (ss : List PlacedToken) → MatchOption o (Unit {0}) IsCut → AreCut (tokens_of ss) → AreCut (tokens_of (put o at ss))
AreCut-put None at ss h k = k
AreCut-put (Some t) at ss h k = (h, k)

AreCut-spots : (skip at : ℕ) (bs : List ℕ) → AreCut (tokens_of (spots skip at bs))
AreCut-spots skip at [] = (tt, tt)
AreCut-spots (suc skip) at (b ∷ bs) = AreCut-spots skip (suc at) bs
AreCut-spots zero at (b ∷ bs) =
    let l = lexeme b bs in AreCut-put l.token at (spots l.more (suc at) bs) (IsInside-lexeme b bs).holds (AreCut-spots l.more (suc at) bs)

-- some of them
AreCut-split : (ts us : List Token) → AreCut (ts ++ us) → AreCut ts × AreCut us
AreCut-split [] us h = (tt, h)
AreCut-split (t ∷ ts) us h = let k = AreCut-split ts us h.1 in ((h.0, k.0), k.1)

-- those of arguments, and of a network
IsPrintable-cut : (a : Arg) → IsCut (argument_token a) → IsPrintable (argument_token a)
IsPrintable-cut (Num n) h = h
IsPrintable-cut (Compared cmp) h = h
IsPrintable-cut (Text bytes) h = h

arguments-cut : (args : List Arg) → AreCut (map argument_token args) → AllByRecursion (λ a. IsPrintable (argument_token a)) args
arguments-cut [] h = tt
arguments-cut (a ∷ args) h = (IsPrintable-cut a h.0, arguments-cut args h.1)

mutual
  CanPrint-cut : (t : Tree OpState) → AreCut (spelling t) → CanPrint t
  CanPrint-cut (Leaf o) h = arguments-cut o.args h.1
  CanPrint-cut (Pipe ts) h = CanPrintAll-parts ts h.1.1
  CanPrint-cut (Comb ts) h = CanPrintAll-parts ts h.1.1
  CanPrint-cut (Farm n s w) h = CanPrint-cut w (AreCut-split (spelling w) (Sign Close ∷ []) h.1.1.1.1).0
  CanPrint-cut (OFarm n s w) h = CanPrint-cut w (AreCut-split (spelling w) (Sign Close ∷ []) h.1.1.1.1).0
  CanPrint-cut (A2a n l r m t) h =
      let right = count_token m ∷ Sign Open ∷ (spelling t ++ Sign Close ∷ []) in
      let left = AreCut-split (spelling l) (Sign Close ∷ (route_spelling r ++ right)) h.1.1.1 in
      let back = AreCut-split (route_spelling r) right left.1.1 in
      (CanPrint-cut l left.0, CanPrint-cut t (AreCut-split (spelling t) (Sign Close ∷ []) back.1.1.1).0)
  CanPrint-cut (Wrap n w test) h =
      let k = AreCut-split (spelling w) _ h.1.1.1 in (CanPrint-cut w k.0, k.1.1.1.1.1.0)

  CanPrintAll-parts : (ts : Trees OpState) → AreCut (parts_spelling ts) → CanPrintAll ts
  CanPrintAll-parts none h = tt
  CanPrintAll-parts (more t ts) h =
      let k = AreCut-split (spelling t) (behind_spelling ts) h in (CanPrint-cut t k.0, CanPrintAll-behind ts k.1)

  CanPrintAll-behind : (ts : Trees OpState) → AreCut (behind_spelling ts) → CanPrintAll ts
  CanPrintAll-behind none h = tt
  CanPrintAll-behind (more t ts) h =
      let k = AreCut-split (spelling t) (behind_spelling ts) h.1 in (CanPrint-cut t k.0, CanPrintAll-behind ts k.1)

pub CanPrint-text : (text : List ℕ) (t : Tree OpState) → tokens_of (tokens text) ≡ text_of t → CanPrint t
CanPrint-text text t spelled = CanPrint-cut t (AreCut-split (spelling t) (Stop ∷ []) (subst AreCut spelled (AreCut-spots 0 0 text))).0
