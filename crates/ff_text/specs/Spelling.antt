-- How networks are spelled where words may stand for some: each part by its form or its operation, or by one word.
use Rattle.std.specs.Prelude.{◌≡◌, ℕ, List, [], ◌∷◌, ◌++◌, codes, None, Some, ◌⊎◌}
use Rattle.ff_ops.specs.Operation.{OpState}
use Rattle.ff_ops.specs.Table.{row_named}
use Rattle.ff_net.specs.Tree.{Tree, Trees, Leaf, Pipe, Comb, Farm, OFarm, A2a, Wrap, none, more}
use Rattle.ff_text.specs.declared.text_mark.TextMark.TheVariants.{Open, Close, Comma}
use Rattle.ff_text.specs.Tokens.{Token, Word, Number, Sign}
use Rattle.ff_text.specs.OperationTokens.{mark_of, spelling as operation_spelling}
use Rattle.ff_text.specs.Grammar.{form_named, sched_word, count_token, route_spelling}
use Rattle.ff_text.specs.Names.{Name, net_named}

-- what tokens begin with, and the tokens behind it
abbrev pub Front : Type 1
Front = List Token → List Token → Type 0

-- one word that is no form's and no operation's, and stands for the network
abbrev pub IsUse : List Name → Tree OpState → Front
IsUse names t ts rest = (word : List ℕ) × (ts ≡ Word word ∷ rest) × (form_named word ≡ None) × (row_named word ≡ None) × (net_named names word ≡ Some t)

-- something in `(` and `)`
abbrev pub InMarks : Front → Front
InMarks Inner ts rest = (inner : List Token) × (ts ≡ Sign Open ∷ inner) × Inner inner (Sign Close ∷ rest)

-- something in `(` and `)` behind these tokens
abbrev pub MarksBehind : List Token → Front → Front
MarksBehind before Inner ts rest = (marks : List Token) × (ts ≡ before ++ marks) × InMarks Inner marks rest

abbrev mutual
  -- a network, where these names stand for networks
  pub Spells : List Name → Tree OpState → Front
  Spells names (Leaf o) ts rest = IsUse names (Leaf o) ts rest ⊎ (ts ≡ operation_spelling o ++ rest)
  Spells names (Pipe us) ts rest = IsUse names (Pipe us) ts rest ⊎ MarksBehind (Word (codes "pipe") ∷ []) (λ xs ys. SpellsParts names us xs ys) ts rest
  Spells names (Comb us) ts rest = IsUse names (Comb us) ts rest ⊎ MarksBehind (Word (codes "comb") ∷ []) (λ xs ys. SpellsParts names us xs ys) ts rest
  Spells names (Farm n s w) ts rest =
      IsUse names (Farm n s w) ts rest ⊎ MarksBehind (Word (codes "farm") ∷ count_token n ∷ Word (sched_word s) ∷ []) (λ xs ys. Spells names w xs ys) ts rest
  Spells names (OFarm n s w) ts rest =
      IsUse names (OFarm n s w) ts rest ⊎ MarksBehind (Word (codes "ofarm") ∷ count_token n ∷ Word (sched_word s) ∷ []) (λ xs ys. Spells names w xs ys) ts rest
  Spells names (A2a n l r m t) ts rest =
      IsUse names (A2a n l r m t) ts rest
      ⊎ ((middle : List Token) × MarksBehind (Word (codes "a2a") ∷ count_token n ∷ []) (λ xs ys. Spells names l xs ys) ts (route_spelling r ++ middle)
      × MarksBehind (count_token m ∷ []) (λ xs ys. Spells names t xs ys) middle rest)
  Spells names (Wrap n w test) ts rest =
      IsUse names (Wrap n w test) ts rest
      ⊎ MarksBehind (Word (codes "wrap") ∷ count_token n ∷ []) (λ xs ys. Spells names w xs ys) ts
      (Word (codes "if") ∷ count_token test.field ∷ Sign (mark_of test.cmp) ∷ Number (Some test.value) ∷ rest)

  -- the parts of a pipe or comb, with a `,` between each two
  pub SpellsParts : List Name → Trees OpState → Front
  SpellsParts names none ts rest = ts ≡ rest
  SpellsParts names (more t us) ts rest = (behind : List Token) × Spells names t ts behind × SpellsBehind names us behind rest

  -- the parts behind the first
  pub SpellsBehind : List Name → Trees OpState → Front
  SpellsBehind names none ts rest = ts ≡ rest
  SpellsBehind names (more t us) ts rest = (first : List Token) × (behind : List Token) × (ts ≡ Sign Comma ∷ first) × Spells names t first behind × SpellsBehind names us behind rest
