-- How bytes are cut at a separator, and where its first place is.
use Rattle.std.proofs.Common.{◌≡◌, ◌≢◌, ℕ, suc, zero, ◌+◌, ◌<◌, cond, List, [], ◌∷◌, ◌++◌, length, get_or, take, drop, refl, sym, ap, subst, ◌∙◌, take_all, arith}
use Rattle.std.proofs.lemmas.Bool.{ne_eqb, eq-eqb, eqb-true}
use Rattle.std.proofs.lemmas.List.{take-append-drop, drop_more}
use Rattle.memchr.specs.Find.{Nowhere, NoneBefore, Passes, is_byte}
use Rattle.ff_rec.specs.Lines.{cut, onto_first}
use Rattle.ff_rec.specs.Pieces.{Lacks}

-- a byte that isn't the separator goes onto the first piece
pub cut-other : (sep c : ℕ) (cs : List ℕ) → c ≢ sep → cut sep (c ∷ cs) ≡ onto_first c (cut sep cs)
cut-other sep c cs other = ap (λ b. cond b ([] ∷ cut sep cs) (onto_first c (cut sep cs))) (ne_eqb c sep other)

-- a separator ends an empty piece
pub cut-sep : (sep : ℕ) (cs : List ℕ) → cut sep (sep ∷ cs) ≡ [] ∷ cut sep cs
cut-sep sep cs = ap (λ b. cond b ([] ∷ cut sep cs) (onto_first sep (cut sep cs))) (eq-eqb sep sep refl)

-- without a separator there is one piece
pub cut-Lacks : (sep : ℕ) (bytes : List ℕ) → Lacks sep bytes → cut sep bytes ≡ bytes ∷ []
cut-Lacks sep [] clean = refl
cut-Lacks sep (c ∷ cs) clean = cut-other sep c cs clean.0 ∙ ap (onto_first c) (cut-Lacks sep cs clean.1)

-- the first separator ends the first piece
pub cut-split : (sep : ℕ) (front rest : List ℕ) → Lacks sep front → cut sep (front ++ sep ∷ rest) ≡ front ∷ cut sep rest
cut-split sep [] rest clean = cut-sep sep rest
cut-split sep (c ∷ cs) rest clean = cut-other sep c (cs ++ sep ∷ rest) clean.0 ∙ ap (onto_first c) (cut-split sep cs rest clean.1)

-- the bytes before the first place of the separator lack it
pub Lacks-take : (sep : ℕ) (bytes : List ℕ) (n : ℕ) → Nowhere (Passes (is_byte sep) bytes) 0 n → Lacks sep (take n bytes)
Lacks-take sep bytes zero none = tt
Lacks-take sep [] (suc n) none = tt
Lacks-take sep (c ∷ cs) (suc n) none =
    (λ e. none 0 (omega arith) (omega arith) (eq-eqb c sep e), Lacks-take sep cs n (λ k low high. none (suc k) (omega arith) (omega arith)))

-- bytes at none of whose places the separator stands lack it
pub Lacks-all : (sep : ℕ) (bytes : List ℕ) → Nowhere (Passes (is_byte sep) bytes) 0 (length bytes) → Lacks sep bytes
Lacks-all sep bytes none = subst (Lacks sep) (take_all (length bytes) bytes (omega arith)) (Lacks-take sep bytes (length bytes) none)

-- bytes are what stands before a place, the byte there, and the rest
pub take-byte-drop : (bytes : List ℕ) (n c : ℕ) → n < length bytes → get_or bytes n 0 ≡ c → take n bytes ++ c ∷ drop (n + 1) bytes ≡ bytes
take-byte-drop bytes n c below is =
    ap (λ d. take n bytes ++ d ∷ drop (n + 1) bytes) (sym is) ∙ ap (λ rest. take n bytes ++ rest) (sym (drop_more bytes n 0 below)) ∙ take-append-drop n bytes

-- cut at the first place of the separator
pub cut-place : (sep : ℕ) (bytes : List ℕ) (n : ℕ) → NoneBefore (Passes (is_byte sep) bytes) 0 (length bytes) n → Passes (is_byte sep) bytes n
    → cut sep bytes ≡ take n bytes ∷ cut sep (drop (n + 1) bytes)
cut-place sep bytes n first at =
    ap (cut sep) (sym (take-byte-drop bytes n sep first.high (eqb-true (get_or bytes n 0) sep at)))
    ∙ cut-split sep (take n bytes) (drop (n + 1) bytes) (Lacks-take sep bytes n first.before)
