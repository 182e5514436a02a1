-- No more tokens stand behind a network than from it on.
use Rattle.std.proofs.Common.{◌≡◌, ◌≤◌, List, [], ◌∷◌, ◌++◌, length, codes, Some, ap, arith, length-append, inl, inr}
use Rattle.std.specs.Prelude.{◌⊎◌}
use Rattle.ff_ops.specs.Operation.{OpState}
use Rattle.ff_net.specs.Tree.{Tree, Trees, Leaf, Pipe, Comb, Farm, OFarm, A2a, Wrap, none, more}
use Rattle.ff_text.specs.declared.text_mark.TextMark.TheVariants.{Close}
use Rattle.ff_text.specs.Tokens.{Token, Word, Number, Sign}
use Rattle.ff_text.specs.OperationTokens.{mark_of, spelling as operation_spelling}
use Rattle.ff_text.specs.Grammar.{sched_word, count_token, route_spelling}
use Rattle.ff_text.specs.Names.{Name}
use Rattle.ff_text.specs.Spelling.{Front, IsUse, MarksBehind, Spells, SpellsParts, SpellsBehind}

-- behind the tokens `before`
shorter-append : (ts before rest : List Token) → ts ≡ before ++ rest → length rest ≤ length ts
shorter-append ts before rest e = omega (arith, ap length e, length-append before rest)

shorter-marks : (before ts rest : List Token) (Inner : Front) → ((xs ys : List Token) → Inner xs ys → length ys ≤ length xs) → MarksBehind before Inner ts rest → length rest ≤ length ts
shorter-marks before ts rest Inner each h =
    let inner = each h.2.0 (Sign Close ∷ rest) h.2.2 in
    omega (arith, ap length h.1, length-append before h.0, ap length h.2.1, inner)

use-or : (names : List Name) (t : Tree OpState) (ts rest : List Token) (Own : Type 0) → (Own → length rest ≤ length ts) → IsUse names t ts rest ⊎ Own → length rest ≤ length ts
use-or names t ts rest Own own (inl (word, e, f, r, named)) = omega (arith, ap length e)
use-or names t ts rest Own own (inr h) = own h

module _ (names : List Name) where
  mutual
    pub Spells-shorter : (t : Tree OpState) (ts rest : List Token) → Spells names t ts rest → length rest ≤ length ts
    Spells-shorter (Leaf o) ts rest h = use-or names (Leaf o) ts rest _ (shorter-append ts (operation_spelling o) rest) h
    Spells-shorter (Pipe us) ts rest h =
        use-or names (Pipe us) ts rest _ (shorter-marks (Word (codes "pipe") ∷ []) ts rest (λ xs ys. SpellsParts names us xs ys) (λ xs ys k. SpellsParts-shorter us xs ys k)) h
    Spells-shorter (Comb us) ts rest h =
        use-or names (Comb us) ts rest _ (shorter-marks (Word (codes "comb") ∷ []) ts rest (λ xs ys. SpellsParts names us xs ys) (λ xs ys k. SpellsParts-shorter us xs ys k)) h
    Spells-shorter (Farm n s w) ts rest h =
        use-or names (Farm n s w) ts rest _
        (shorter-marks (Word (codes "farm") ∷ count_token n ∷ Word (sched_word s) ∷ []) ts rest (λ xs ys. Spells names w xs ys) (λ xs ys k. Spells-shorter w xs ys k)) h
    Spells-shorter (OFarm n s w) ts rest h =
        use-or names (OFarm n s w) ts rest _
        (shorter-marks (Word (codes "ofarm") ∷ count_token n ∷ Word (sched_word s) ∷ []) ts rest (λ xs ys. Spells names w xs ys) (λ xs ys k. Spells-shorter w xs ys k)) h
    Spells-shorter (A2a n l r m t) ts rest h =
        use-or names (A2a n l r m t) ts rest _
        (λ k.
        let left = shorter-marks (Word (codes "a2a") ∷ count_token n ∷ []) ts (route_spelling r ++ k.0) (λ xs ys. Spells names l xs ys) (λ xs ys p. Spells-shorter l xs ys p) k.1 in
        let right = shorter-marks (count_token m ∷ []) k.0 rest (λ xs ys. Spells names t xs ys) (λ xs ys p. Spells-shorter t xs ys p) k.2 in
        omega (arith, left, right, length-append (route_spelling r) k.0)) h
    Spells-shorter (Wrap n w test) ts rest h =
        use-or names (Wrap n w test) ts rest _
        (λ k.
        let inner = shorter-marks (Word (codes "wrap") ∷ count_token n ∷ []) ts (Word (codes "if") ∷ count_token test.field ∷ Sign (mark_of test.cmp) ∷ Number (Some test.value) ∷ rest)
        (λ xs ys. Spells names w xs ys) (λ xs ys p. Spells-shorter w xs ys p) k in
        omega (arith, inner)) h

    SpellsParts-shorter : (us : Trees OpState) (ts rest : List Token) → SpellsParts names us ts rest → length rest ≤ length ts
    SpellsParts-shorter none ts rest h = omega (arith, ap length h)
    SpellsParts-shorter (more t us) ts rest h = omega (arith, Spells-shorter t ts h.0 h.1, SpellsBehind-shorter us h.0 rest h.2)

    SpellsBehind-shorter : (us : Trees OpState) (ts rest : List Token) → SpellsBehind names us ts rest → length rest ≤ length ts
    SpellsBehind-shorter none ts rest h = omega (arith, ap length h)
    SpellsBehind-shorter (more t us) ts rest h = omega (arith, ap length h.2, Spells-shorter t h.0 h.1 h.3, SpellsBehind-shorter us h.1 rest h.4)
