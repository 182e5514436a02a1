-- The names of a set, with one name more, and with many.
use Rattle.std.proofs.Common.{◌≡◌, ◌<◌, ℕ, ◌+◌, Bool, true, false, not, List, [], ◌∷◌, ◌++◌, length, get_or, take, refl, sym, ap, subst, ◌∙◌, arith}
use Rattle.std.proofs.Math.Bool.{or-false}
use Rattle.std.proofs.lemmas.List.{length_push, take_more}
use Rattle.std.proofs.lemmas.List.Folds.{list_any-append}
use Rattle.std.specs.Prelude.{if◌then◌else◌, ◌||◌}
use Rattle.std.specs.Borrow.{Bor}
use Rattle.std.specs.Cmp.Lexicographic.{nat_list_eq_equiv}
use Rattle.std.specs.Str.{bytes_eq}
use Rattle.ff_prog.specs.Known.{HasNames, NotesNames, has_name}
use Rattle.ff_prog.specs.Names.{with_name, with_new}
use Rattle.ff_prog.specs.Rules.{is_in}

-- new names of two lists, one after the other
pub with_new-append : (ns xs ys : List (List ℕ)) → with_new ns (xs ++ ys) ≡ with_new (with_new ns xs) ys
with_new-append ns [] ys = refl
with_new-append ns (x ∷ xs) ys = with_new-append (with_name ns x) xs ys

-- a name stands in a list with one more where it stood there or is that one
is_in-push : (ns : List (List ℕ)) (m n : List ℕ) → is_in (ns ++ m ∷ []) n ≡ (is_in ns n || bytes_eq n m)
is_in-push ns m n = list_any-append (bytes_eq n) ns (m ∷ []) ∙ ap (λ t. is_in ns n || t) (or-false (bytes_eq n m))

-- equal names stand in the same lists
is_in-congr : (ns : List (List ℕ)) (m n : List ℕ) → bytes_eq m n ≡ true → is_in ns m ≡ is_in ns n
is_in-congr [] m n e = refl
is_in-congr (x ∷ xs) m n e = ap (λ t. t || is_in xs m) (nat_list_eq_equiv.congr m n x e) ∙ ap (λ t. bytes_eq n x || t) (is_in-congr xs m n e)

-- by whether the name stood there, and whether it is the one that is looked for
with_name_cases : (there same here : Bool) → (same ≡ true → here ≡ there) → (if same then true else here) ≡ (if there then here else (here || same))
with_name_cases true true here h = sym (h refl)
with_name_cases true false here h = refl
with_name_cases false true true h = refl
with_name_cases false true false h = refl
with_name_cases false false true h = refl
with_name_cases false false false h = refl

-- whether a name stands in a list, where that is chosen
is_in-chosen : (t : Bool) (xs ys : List (List ℕ)) (n : List ℕ) → is_in (if t then xs else ys) n ≡ (if t then is_in xs n else is_in ys n)
is_in-chosen true xs ys n = refl
is_in-chosen false xs ys n = refl

is_in-with_name : (ns : List (List ℕ)) (m n : List ℕ) → is_in (with_name ns m) n ≡ (if bytes_eq m n then true else is_in ns n)
is_in-with_name ns m n =
    is_in-chosen (is_in ns m) ns (ns ++ m ∷ []) n
    ∙ ap (λ t. if is_in ns m then is_in ns n else t) (is_in-push ns m n ∙ ap (λ t. is_in ns n || t) (nat_list_eq_equiv.symm n m))
    ∙ sym (with_name_cases (is_in ns m) (bytes_eq m n) (is_in ns n) (λ e. sym (is_in-congr ns m n e)))

length-with_name : (ns : List (List ℕ)) (m : List ℕ) (t : Bool) → length (if t then ns else ns ++ m ∷ []) ≡ length ns + (if not t then 1 else 0)
length-with_name ns m true = omega arith
length-with_name ns m false = length_push ns m

-- a set with one name more
pub NotesNames-insert : (old new : List (Bor (List ℕ))) (m : List ℕ) (added : Bool) → added ≡ not (has_name old m) → ((n : List ℕ) → has_name new n ≡ (if bytes_eq m n then true else has_name old n)) → length new ≡ length old + (if added then 1 else 0)
    → NotesNames old new (m ∷ [])
NotesNames-insert old new m added is updates len ns h = record {
  same = λ n. updates n ∙ ap (λ t. if bytes_eq m n then true else t) (h.same n) ∙ sym (is_in-with_name ns m n);
  many = len ∙ ap (λ k. k + (if added then 1 else 0)) h.many
      ∙ ap (λ t. length ns + (if t then 1 else 0)) (is ∙ ap not (h.same m))
      ∙ sym (length-with_name ns m (is_in ns m));
}

-- the names of two lists, put in one after the other
pub NotesNames-append : (a b c : List (Bor (List ℕ))) (xs ys : List (List ℕ)) → NotesNames a b xs → NotesNames b c ys → NotesNames a c (xs ++ ys)
NotesNames-append a b c xs ys one two ns h = subst (HasNames c) (sym (with_new-append ns xs ys)) (two (with_new ns xs) (one ns h))

-- the names of a list up to the next place
pub NotesNames-take : (a b c : List (Bor (List ℕ))) (xs : List (List ℕ)) (i : ℕ) (x : List ℕ) → i < length xs → x ≡ get_or xs i x → NotesNames a b (take i xs) → NotesNames b c (x ∷ []) → NotesNames a c (take (i + 1) xs)
NotesNames-take a b c xs i x below at one two =
    let whole : take i xs ++ x ∷ [] ≡ take (i + 1) xs = ap (λ y. take i xs ++ y ∷ []) at ∙ sym (take_more xs i x below) in
    subst (NotesNames a c) whole (NotesNames-append a b c (take i xs) (x ∷ []) one two)
