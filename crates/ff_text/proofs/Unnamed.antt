-- Without names, networks are spelled as they are in version One.
use Rattle.std.proofs.Common.{◌≡◌, List, [], ◌∷◌, ◌++◌, codes, Some, refl, sym, ap, subst, ◌∙◌, append_assoc, inl, inr}
use Rattle.std.specs.Prelude.{◌⊎◌}
use Rattle.ff_ops.specs.Operation.{OpState}
use Rattle.ff_net.specs.Tree.{Tree, Trees, Leaf, Pipe, Comb, Farm, OFarm, A2a, Wrap, none, more}
use Rattle.ff_text.specs.declared.text_mark.TextMark.TheVariants.{Open, Close, Comma}
use Rattle.ff_text.specs.Tokens.{Token, Word, Number, Sign}
use Rattle.ff_text.specs.OperationTokens.{mark_of}
use Rattle.ff_text.specs.Grammar.{spelling, parts_spelling, behind_spelling, route_spelling, sched_word, count_token}
use Rattle.ff_text.specs.SpellingLaw.{SpelledWithoutNames}
use Rattle.ff_text.specs.Spelling.{Front, IsUse, MarksBehind, Spells, SpellsParts, SpellsBehind}

-- no word stands for a network
own : (t : Tree OpState) (ts rest : List Token) (Own : Type 0) → IsUse [] t ts rest ⊎ Own → Own
own t ts rest Own (inl use') = let named = use'.4 in absurd (cc)
own t ts rest Own (inr h) = h

-- what is in the marks, and behind them
in_marks : (before inner us ts rest : List Token) (Inner : Front) → ((xs ys : List Token) → Inner xs ys → xs ≡ inner ++ ys) → MarksBehind before Inner ts (us ++ rest)
    → ts ≡ before ++ Sign Open ∷ ((inner ++ Sign Close ∷ us) ++ rest)
in_marks before inner us ts rest Inner each h =
    h.1
    ∙ ap (λ vs. before ++ vs) (h.2.1 ∙ ap (λ vs. Sign Open ∷ vs) (each h.2.0 (Sign Close ∷ (us ++ rest)) h.2.2 ∙ sym (append_assoc inner (Sign Close ∷ us) rest)))

-- what stands behind a network, moved into its tokens
joined : (t : Tree OpState) (us rest : List Token) → Spells [] t (spelling t ++ (us ++ rest)) (us ++ rest) → Spells [] t ((spelling t ++ us) ++ rest) (us ++ rest)
joined t us rest h = subst (λ ts. Spells [] t ts (us ++ rest)) (sym (append_assoc (spelling t) us rest)) h

before : (t : Tree OpState) (us rest : List Token) → Spells [] t (spelling t ++ Sign Close ∷ (us ++ rest)) (Sign Close ∷ (us ++ rest))
    → Spells [] t ((spelling t ++ Sign Close ∷ us) ++ rest) (Sign Close ∷ (us ++ rest))
before t us rest h = joined t (Sign Close ∷ us) rest h

mutual
  pub Spells-unnamed : (t : Tree OpState) (ts rest : List Token) → Spells [] t ts rest → ts ≡ spelling t ++ rest
  Spells-unnamed (Leaf o) ts rest h = own (Leaf o) ts rest _ h
  Spells-unnamed (Pipe us) ts rest h =
      let k = own (Pipe us) ts rest _ h in
      k.1 ∙ ap (λ vs. Word (codes "pipe") ∷ vs) (k.2.1 ∙ ap (λ vs. Sign Open ∷ vs) (SpellsParts-unnamed us k.2.0 rest k.2.2))
  Spells-unnamed (Comb us) ts rest h =
      let k = own (Comb us) ts rest _ h in
      k.1 ∙ ap (λ vs. Word (codes "comb") ∷ vs) (k.2.1 ∙ ap (λ vs. Sign Open ∷ vs) (SpellsParts-unnamed us k.2.0 rest k.2.2))
  Spells-unnamed (Farm n s w) ts rest h =
      in_marks (Word (codes "farm") ∷ count_token n ∷ Word (sched_word s) ∷ []) (spelling w) [] ts rest (λ xs ys. Spells [] w xs ys) (λ xs ys k. Spells-unnamed w xs ys k)
      (own (Farm n s w) ts rest _ h)
  Spells-unnamed (OFarm n s w) ts rest h =
      in_marks (Word (codes "ofarm") ∷ count_token n ∷ Word (sched_word s) ∷ []) (spelling w) [] ts rest (λ xs ys. Spells [] w xs ys) (λ xs ys k. Spells-unnamed w xs ys k)
      (own (OFarm n s w) ts rest _ h)
  Spells-unnamed (A2a n l r m t) ts rest h =
      let k = own (A2a n l r m t) ts rest _ h in
      let back = count_token m ∷ Sign Open ∷ (spelling t ++ Sign Close ∷ []) in
      let right = in_marks (count_token m ∷ []) (spelling t) [] k.0 rest (λ xs ys. Spells [] t xs ys) (λ xs ys p. Spells-unnamed t xs ys p) k.2 in
      let middle = ap (λ us. route_spelling r ++ us) right ∙ sym (append_assoc (route_spelling r) back rest) in
      in_marks (Word (codes "a2a") ∷ count_token n ∷ []) (spelling l) (route_spelling r ++ back) ts rest (λ xs ys. Spells [] l xs ys) (λ xs ys p. Spells-unnamed l xs ys p)
      (subst (λ us. MarksBehind (Word (codes "a2a") ∷ count_token n ∷ []) (λ xs ys. Spells [] l xs ys) ts us) middle k.1)
  Spells-unnamed (Wrap n w test) ts rest h =
      let tests = Word (codes "if") ∷ count_token test.field ∷ Sign (mark_of test.cmp) ∷ Number (Some test.value) ∷ [] in
      in_marks (Word (codes "wrap") ∷ count_token n ∷ []) (spelling w) tests ts rest (λ xs ys. Spells [] w xs ys) (λ xs ys k. Spells-unnamed w xs ys k)
      (own (Wrap n w test) ts rest _ h)

  SpellsParts-unnamed : (us : Trees OpState) (ts rest : List Token) → SpellsParts [] us ts (Sign Close ∷ rest) → ts ≡ parts_spelling us ++ rest
  SpellsParts-unnamed none ts rest h = h
  SpellsParts-unnamed (more t us) ts rest h =
      Spells-unnamed t ts h.0 h.1 ∙ ap (λ vs. spelling t ++ vs) (SpellsBehind-unnamed us h.0 rest h.2) ∙ sym (append_assoc (spelling t) (behind_spelling us) rest)

  SpellsBehind-unnamed : (us : Trees OpState) (ts rest : List Token) → SpellsBehind [] us ts (Sign Close ∷ rest) → ts ≡ behind_spelling us ++ rest
  SpellsBehind-unnamed none ts rest h = h
  SpellsBehind-unnamed (more t us) ts rest h =
      h.2
      ∙ ap (λ vs. Sign Comma ∷ vs)
      (Spells-unnamed t h.0 h.1 h.3 ∙ ap (λ vs. spelling t ++ vs) (SpellsBehind-unnamed us h.1 rest h.4) ∙ sym (append_assoc (spelling t) (behind_spelling us) rest))

-- and as they are spelled
mutual
  pub Spells-spelling : (t : Tree OpState) (rest : List Token) → Spells [] t (spelling t ++ rest) rest
  Spells-spelling (Leaf o) rest = inr refl
  Spells-spelling (Pipe us) rest = inr (Sign Open ∷ (parts_spelling us ++ rest), refl, (parts_spelling us ++ rest, refl, SpellsParts-spelling us rest))
  Spells-spelling (Comb us) rest = inr (Sign Open ∷ (parts_spelling us ++ rest), refl, (parts_spelling us ++ rest, refl, SpellsParts-spelling us rest))
  Spells-spelling (Farm n s w) rest =
      inr (Sign Open ∷ ((spelling w ++ Sign Close ∷ []) ++ rest), refl, ((spelling w ++ Sign Close ∷ []) ++ rest, refl, before w [] rest (Spells-spelling w (Sign Close ∷ rest))))
  Spells-spelling (OFarm n s w) rest =
      inr (Sign Open ∷ ((spelling w ++ Sign Close ∷ []) ++ rest), refl, ((spelling w ++ Sign Close ∷ []) ++ rest, refl, before w [] rest (Spells-spelling w (Sign Close ∷ rest))))
  Spells-spelling (A2a n l r m t) rest =
      let back = count_token m ∷ Sign Open ∷ (spelling t ++ Sign Close ∷ []) in
      let left = (spelling l ++ Sign Close ∷ (route_spelling r ++ back)) ++ rest in
      let right = (spelling t ++ Sign Close ∷ []) ++ rest in
      let middle = subst (λ us. Spells [] l left (Sign Close ∷ us)) (append_assoc (route_spelling r) back rest) (before l (route_spelling r ++ back) rest (Spells-spelling l (Sign Close ∷ ((route_spelling r ++ back) ++ rest)))) in
      inr (back ++ rest, (Sign Open ∷ left, refl, (left, refl, middle)), (Sign Open ∷ right, refl, (right, refl, before t [] rest (Spells-spelling t (Sign Close ∷ rest)))))
  Spells-spelling (Wrap n w test) rest =
      let tests = Word (codes "if") ∷ count_token test.field ∷ Sign (mark_of test.cmp) ∷ Number (Some test.value) ∷ [] in
      let inner = (spelling w ++ Sign Close ∷ tests) ++ rest in
      inr (Sign Open ∷ inner, refl, (inner, refl, before w tests rest (Spells-spelling w (Sign Close ∷ (tests ++ rest)))))

  SpellsParts-spelling : (us : Trees OpState) (rest : List Token) → SpellsParts [] us (parts_spelling us ++ rest) (Sign Close ∷ rest)
  SpellsParts-spelling none rest = refl
  SpellsParts-spelling (more t us) rest =
      (behind_spelling us ++ rest, joined t (behind_spelling us) rest (Spells-spelling t (behind_spelling us ++ rest)), SpellsBehind-spelling us rest)

  SpellsBehind-spelling : (us : Trees OpState) (rest : List Token) → SpellsBehind [] us (behind_spelling us ++ rest) (Sign Close ∷ rest)
  SpellsBehind-spelling none rest = refl
  SpellsBehind-spelling (more t us) rest = (
    (spelling t ++ behind_spelling us) ++ rest,
    behind_spelling us ++ rest,
    refl,
    joined t (behind_spelling us) rest (Spells-spelling t (behind_spelling us ++ rest)),
    SpellsBehind-spelling us rest,
  )

pub spelled_without_names : SpelledWithoutNames
spelled_without_names t ts rest = (Spells-unnamed t ts rest, λ e. subst (λ us. Spells [] t us rest) (sym e) (Spells-spelling t rest))
