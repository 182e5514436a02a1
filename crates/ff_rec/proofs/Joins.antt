-- Pieces between separators: what was cut is joined again, what was joined is cut again, and what holds of each piece.
use Rattle.std.proofs.Common.{◌≡◌, ◌≢◌, ℕ, suc, ◌+◌, Bool, true, false, cond, eqb, List, [], ◌∷◌, ◌++◌, length, refl, sym, ap, ap₂, ◌∙◌, subst, append_assoc, arith, eq-eqb, eqb-true}
use Rattle.std.specs.List.{AllByRecursion}
use Rattle.std.proofs.lemmas.List.{append-nil}
use Rattle.std.proofs.lemmas.Bool.{cond_both, both_ways}
use Rattle.ff_rec.specs.Lines.{IsPlain, IsPlainByte, onto_first, cut, tabs, behind, joined}
use Rattle.ff_rec.specs.Pieces.{Lacks}
use Rattle.ff_rec.specs.Block.{before}
use Rattle.ff_rec.proofs.Cuts.{cut-sep, cut-Lacks, cut-split}

-- a list that has a first element
pub record HasFirst (ps : List (List ℕ)) : Type 0 where
  pub first : List ℕ
  pub others : List (List ℕ)
  pub is : ps ≡ first ∷ others

HasFirst-onto_first : (c : ℕ) (ps : List (List ℕ)) → HasFirst (onto_first c ps)
HasFirst-onto_first c [] = record { first = c ∷ []; others = []; is = refl }
HasFirst-onto_first c (p ∷ ps) = record { first = c ∷ p; others = ps; is = refl }

-- there is always a piece
pub HasFirst-cut : (sep : ℕ) (bs : List ℕ) → HasFirst (cut sep bs)
HasFirst-cut sep [] = record { first = []; others = []; is = refl }
HasFirst-cut sep (c ∷ cs) =
    cond_both (eqb c sep) ([] ∷ cut sep cs) (onto_first c (cut sep cs)) HasFirst
    (λ _. record { first = []; others = cut sep cs; is = refl }) (λ _. HasFirst-onto_first c (cut sep cs))

joined-onto_first : (c : ℕ) (ps : List (List ℕ)) → joined (onto_first c ps) ≡ c ∷ joined ps
joined-onto_first c [] = refl
joined-onto_first c (p ∷ ps) = refl

-- fields that each stand after a tab are a tab, and then the fields joined
pub behind-is : (ps : List (List ℕ)) → HasFirst ps → behind ps ≡ 9 ∷ joined ps
behind-is ps h = subst (λ (q : List (List ℕ)). behind q ≡ 9 ∷ joined q) (sym h.is) refl

-- what was cut at its tabs is joined again
pub joined-cut : (bs : List ℕ) → joined (cut 9 bs) ≡ bs
joined-cut [] = refl
joined-cut (c ∷ cs) =
    cond_both (eqb c 9) ([] ∷ cut 9 cs) (onto_first c (cut 9 cs)) (λ (ps : List (List ℕ)). joined ps ≡ c ∷ cs)
    (λ tab. behind-is (cut 9 cs) (HasFirst-cut 9 cs) ∙ ap₂ ◌∷◌ (sym (eqb-true c 9 tab)) (joined-cut cs))
    (λ _. joined-onto_first c (cut 9 cs) ∙ ap (λ (t : List ℕ). c ∷ t) (joined-cut cs))

onto_first-append : (c : ℕ) (ps qs : List (List ℕ)) → HasFirst ps → onto_first c (ps ++ qs) ≡ onto_first c ps ++ qs
onto_first-append c ps qs h = subst (λ (q : List (List ℕ)). onto_first c (q ++ qs) ≡ onto_first c q ++ qs) (sym h.is) refl

next-append : (b : Bool) (c : ℕ) (ps qs : List (List ℕ)) → HasFirst ps → cond b ([] ∷ (ps ++ qs)) (onto_first c (ps ++ qs)) ≡ cond b ([] ∷ ps) (onto_first c ps) ++ qs
next-append true c ps qs h = refl
next-append false c ps qs h = onto_first-append c ps qs h

-- the pieces of two texts with a separator between them
pub cut-append : (sep : ℕ) (xs bs : List ℕ) → cut sep (xs ++ sep ∷ bs) ≡ cut sep xs ++ cut sep bs
cut-append sep [] bs = cut-sep sep bs
cut-append sep (c ∷ cs) bs =
    ap (λ (ps : List (List ℕ)). cond (eqb c sep) ([] ∷ ps) (onto_first c ps)) (cut-append sep cs bs)
    ∙ next-append (eqb c sep) c (cut sep cs) (cut sep bs) (HasFirst-cut sep cs)

-- fields without tabs that are joined are cut into the same fields
pub cut-joined : (f : List ℕ) (fs : List (List ℕ)) → Lacks 9 f → AllByRecursion (Lacks 9) fs → cut 9 (f ++ behind fs) ≡ f ∷ fs
cut-joined f [] h hs = ap (cut 9) (append-nil f) ∙ cut-Lacks 9 f h
cut-joined f (g ∷ gs) h hs = cut-split 9 f (g ++ behind gs) h ∙ ap (λ (ps : List (List ℕ)). f ∷ ps) (cut-joined g gs hs.0 hs.1)

-- fields that stand before other bytes
pub cut-before : (fs : List (List ℕ)) (bs : List ℕ) → AllByRecursion (Lacks 9) fs → cut 9 (before fs ++ bs) ≡ fs ++ cut 9 bs
cut-before [] bs hs = refl
cut-before (f ∷ fs) bs hs =
    ap (cut 9) (append_assoc f (9 ∷ before fs) bs) ∙ cut-split 9 f (before fs ++ bs) hs.0
    ∙ ap (λ (ps : List (List ℕ)). f ∷ ps) (cut-before fs bs hs.1)

-- what holds of each element, weakened
pub AllByRecursion-weaker : {X : Type 0} (P Q : X → Type 0) → ((x : X) → P x → Q x) → (xs : List X) → AllByRecursion P xs → AllByRecursion Q xs
AllByRecursion-weaker P Q w [] h = tt
AllByRecursion-weaker P Q w (x ∷ xs) h = (w x h.0, AllByRecursion-weaker P Q w xs h.1)

-- what holds of everything holds of each element
pub AllByRecursion-each : {X : Type 0} (P : X → Type 0) → ((x : X) → P x) → (xs : List X) → AllByRecursion P xs
AllByRecursion-each P w [] = tt
AllByRecursion-each P w (x ∷ xs) = (w x, AllByRecursion-each P w xs)

onto_first-All : (P : ℕ → Type 0) (c : ℕ) (ps : List (List ℕ)) → P c → AllByRecursion (AllByRecursion P) ps → AllByRecursion (AllByRecursion P) (onto_first c ps)
onto_first-All P c [] h hs = ((h, tt), tt)
onto_first-All P c (p ∷ ps) h hs = ((h, hs.0), hs.1)

-- what holds of each byte but the separators holds of each byte of the pieces
pub cut-All : (P : ℕ → Type 0) (sep : ℕ) (bs : List ℕ) → AllByRecursion (λ c. c ≢ sep → P c) bs → AllByRecursion (AllByRecursion P) (cut sep bs)
cut-All P sep [] h = (tt, tt)
cut-All P sep (c ∷ cs) h =
    cond_both (eqb c sep) ([] ∷ cut sep cs) (onto_first c (cut sep cs)) (AllByRecursion (AllByRecursion P))
    (λ _. (tt, cut-All P sep cs h.1))
    (λ other. onto_first-All P c (cut sep cs) (h.0 (λ same. both_ways (eqb c sep) other (eq-eqb c sep same))) (cut-All P sep cs h.1))

-- no piece has a separator
pub Lacks-cut : (sep : ℕ) (bs : List ℕ) → AllByRecursion (Lacks sep) (cut sep bs)
Lacks-cut sep bs = cut-All (λ c. c ≢ sep) sep bs (AllByRecursion-each (λ c. c ≢ sep → c ≢ sep) (λ c h. h) bs)

-- each piece of a line is plain
pub IsPlain-cut : (bs : List ℕ) → Lacks 10 bs → AllByRecursion IsPlain (cut 9 bs)
IsPlain-cut bs h = cut-All IsPlainByte 9 bs (AllByRecursion-weaker (λ c. c ≢ 10) (λ c. c ≢ 9 → IsPlainByte c) (λ c ten nine. (nine, ten)) bs h)

-- plain bytes have no tab
pub Lacks-IsPlain : (bs : List ℕ) → IsPlain bs → Lacks 9 bs
Lacks-IsPlain bs h = AllByRecursion-weaker IsPlainByte (λ c. c ≢ 9) (λ c p. p.0) bs h

-- plain bytes are one piece
pub cut-IsPlain : (bs : List ℕ) → IsPlain bs → cut 9 bs ≡ bs ∷ []
cut-IsPlain bs h = cut-Lacks 9 bs (Lacks-IsPlain bs h)

length-onto_first : (c : ℕ) (ps : List (List ℕ)) → HasFirst ps → length (onto_first c ps) ≡ length ps
length-onto_first c ps h = subst (λ (q : List (List ℕ)). length (onto_first c q) ≡ length q) (sym h.is) refl

length-next : (b : Bool) (c : ℕ) (ps : List (List ℕ)) (n : ℕ) → HasFirst ps → length ps ≡ suc n → length (cond b ([] ∷ ps) (onto_first c ps)) ≡ suc (cond b 1 0 + n)
length-next true c ps n h e = omega arith
length-next false c ps n h e = omega (arith, length-onto_first c ps h)

-- there is one piece more than there are tabs
pub length-cut : (bs : List ℕ) → length (cut 9 bs) ≡ suc (tabs bs)
length-cut [] = refl
length-cut (c ∷ cs) = length-next (eqb c 9) c (cut 9 cs) (tabs cs) (HasFirst-cut 9 cs) (length-cut cs)
