-- Steps of the loops over a comb's parts.
use Rattle.std.proofs.Common.{◌≡◌, ℕ, zero, suc, ◌+◌, ◌<◌, ◌≤◌, Bool, true, false, List, [], ◌∷◌, ◌++◌, map, length, take, drop, set, get_or, refl, sym, ap, ap₂, ◌∙◌, append_assoc, append-nil, add-one, arith}
use Rattle.ff_rec.specs.Lines.{Rec}
use Rattle.ff_node.specs.Behaviour.{Behaviour}
use Rattle.ff_node.specs.Sends.{Sent, add, rejects_alone}
use Rattle.ff_node.specs.Passing.{fed, fed_last, passed, passed_last}
use Rattle.ff_node.specs.Comb.{Part, part, parts, given_from, given_rejected, part_from, part_sends, part_rejects, part_after, part_total, part_total_rejects, through, through_rejects, through_after, total, total_rejects}
use Rattle.ff_node.specs.CombPartLaws.{given_from-append, given_rejected-append, part_from-append, part_sends-total, part_rejects-total}
use Rattle.ff_node.proofs.SendsLaws.{add-add, add-nothing, add-sends}

-- each element replaced by what `f` makes of it, one place further
pub set-mapped : {A : Type 0} (f : A → A) (xs : List A) (i : ℕ) (x : A) → i < length xs → x ≡ get_or (take i (map f xs) ++ drop i xs) i x
    → set (take i (map f xs) ++ drop i xs) i (f x) ≡ take (suc i) (map f xs) ++ drop (suc i) xs
set-mapped f [] i x below is = absurd (omega arith)
set-mapped f (y ∷ ys) zero x below is = ap (λ z. f z ∷ ys) is
set-mapped f (y ∷ ys) (suc i) x below is = ap (λ zs. f y ∷ zs) (set-mapped f ys i x (omega arith) is)

pub set-mapped_at : {A : Type 0} (f : A → A) (xs ys : List A) (i : ℕ) (x y : A) → ys ≡ take i (map f xs) ++ drop i xs → i < length xs → x ≡ get_or ys i x → y ≡ f x
    → set ys i y ≡ take (i + 1) (map f xs) ++ drop (i + 1) xs
set-mapped_at f xs ys i x y so_far below is made =
    ap₂ (λ zs z. set zs i z) so_far made
    ∙ set-mapped f xs i x below (is ∙ ap (λ zs. get_or zs i x) so_far)
    ∙ ap (λ k. take k (map f xs) ++ drop k xs) (sym (add-one i))

module _ {N : Type 0} (b : Behaviour N) where
  -- a part after a record, and what it sends, with those behind it
  pub part_after-feed : (s : N) (e : Bool) (x : Rec) (xs all : List Rec) (q : Part N) → e ≡ false → all ≡ x ∷ xs → q ≡ part_from b s (x ∷ [])
      → part_after b q xs ≡ part_after b (part s e) all
  part_after-feed s e x xs all q runs whole after =
      ap (λ p. part_after b p xs) after ∙ part_from-append b s (x ∷ []) xs ∙ sym (ap₂ (λ (f : Bool) us. part_after b (part s f) us) runs whole)

  pub add-feed : (s : N) (e : Bool) (x : Rec) (xs all : List Rec) (q : Part N) (out new : Sent) → e ≡ false → all ≡ x ∷ xs → q ≡ part_from b s (x ∷ [])
      → new ≡ add out (given_from b s (x ∷ [])) (given_rejected b s (x ∷ []))
      → add new (part_sends b q xs) (part_rejects b q xs) ≡ add out (part_sends b (part s e) all) (part_rejects b (part s e) all)
  add-feed s e x xs all q out new runs whole after sent =
      ap₂ (λ (o : Sent) (p : Part N). add o (part_sends b p xs) (part_rejects b p xs)) sent after
      ∙ add-add out (given_from b s (x ∷ [])) (given_rejected b s (x ∷ [])) (part_sends b (part_from b s (x ∷ [])) xs) (part_rejects b (part_from b s (x ∷ [])) xs)
      ∙ ap₂ (add out) (given_from-append b s (x ∷ []) xs) (given_rejected-append b s (x ∷ []) xs)
      ∙ sym (ap₂ (λ (f : Bool) us. add out (part_sends b (part s f) us) (part_rejects b (part s f) us)) runs whole)

  -- a part's last records and its end
  pub add-end : (p q : Part N) (us : List Rec) (out mid : Sent) → q ≡ part_after b p us → mid ≡ add out (part_sends b p us) (part_rejects b p us)
      → add mid (part_total b q []) (part_total_rejects b q []) ≡ add out (part_total b p us) (part_total_rejects b p us)
  add-end p q us out mid after sent =
      ap₂ (λ (o : Sent) (r : Part N). add o (part_total b r []) (part_total_rejects b r [])) sent after
      ∙ add-add out (part_sends b p us) (part_rejects b p us) (part_total b (part_after b p us) []) (part_total_rejects b (part_after b p us) [])
      ∙ ap₂ (add out)
      (part_sends-total b p us [] ∙ ap (part_total b p) (append-nil us))
      (part_rejects-total b p us [] ∙ ap (part_total_rejects b p) (append-nil us))

  pub add-end_runs : (p : Part N) (s : N) (e : Bool) (us : List Rec) (out mid new : Sent) → e ≡ false → part s e ≡ part_after b p us
      → mid ≡ add out (part_sends b p us) (part_rejects b p us) → new ≡ add mid (b.last s) (b.last_rejects s)
      → new ≡ add out (part_total b p us) (part_total_rejects b p us)
  add-end_runs p s e us out mid new runs after sent at_end =
      at_end
      ∙ sym (ap (λ (f : Bool). add mid (part_total b (part s f) []) (part_total_rejects b (part s f) [])) runs)
      ∙ add-end p (part s e) us out mid after sent

  pub add-end_ended : (p : Part N) (s : N) (e : Bool) (us : List Rec) (out mid : Sent) → e ≡ true → part s e ≡ part_after b p us
      → mid ≡ add out (part_sends b p us) (part_rejects b p us)
      → mid ≡ add out (part_total b p us) (part_total_rejects b p us)
  add-end_ended p s e us out mid ended after sent =
      sym (add-nothing mid)
      ∙ sym (ap (λ (f : Bool). add mid (part_total b (part s f) []) (part_total_rejects b (part s f) [])) ended)
      ∙ add-end p (part s e) us out mid after sent

-- a part among the others
parts-drop : {N : Type 0} (ns : List N) (es : List Bool) (i : ℕ) (n : N) (e : Bool) → i < length ns → length ns ≤ length es
    → n ≡ get_or ns i n → e ≡ get_or es i false → drop i (parts ns es) ≡ part n e ∷ drop (suc i) (parts ns es)
parts-drop [] es i n e below flags node_is flag_is = absurd (omega arith)
parts-drop (m ∷ ns) [] i n e below flags node_is flag_is = absurd (omega arith)
parts-drop (m ∷ ns) (f ∷ es) zero n e below flags node_is flag_is = ap₂ (λ k g. part k g ∷ parts ns es) (sym node_is) (sym flag_is)
parts-drop (m ∷ ns) (f ∷ es) (suc i) n e below flags node_is flag_is = parts-drop ns es i n e (omega arith) (omega arith) node_is flag_is

parts-drop_set : {N : Type 0} (ns : List N) (es : List Bool) (i : ℕ) (n : N) (e : Bool)
    → drop (suc i) (parts (set ns i n) (set es i e)) ≡ drop (suc i) (parts ns es)
parts-drop_set [] es i n e = refl
parts-drop_set (m ∷ ns) [] zero n e = refl
parts-drop_set (m ∷ ns) [] (suc i) n e = parts-drop_set ns [] i n e
parts-drop_set (m ∷ ns) (f ∷ es) zero n e = refl
parts-drop_set (m ∷ ns) (f ∷ es) (suc i) n e = parts-drop_set ns es i n e

parts-take_set : {N : Type 0} (ns : List N) (es : List Bool) (i : ℕ) (n : N) (e : Bool) → i < length ns → length ns ≤ length es
    → take (suc i) (parts (set ns i n) (set es i e)) ≡ take i (parts ns es) ++ part n e ∷ []
parts-take_set [] es i n e below flags = absurd (omega arith)
parts-take_set (m ∷ ns) [] i n e below flags = absurd (omega arith)
parts-take_set (m ∷ ns) (f ∷ es) zero n e below flags = refl
parts-take_set (m ∷ ns) (f ∷ es) (suc i) n e below flags = ap (λ ps. part m f ∷ ps) (parts-take_set ns es i n e (omega arith) (omega arith))

-- a node that keeps its kind among the others
pub map-set_same : {A B : Type 0} (f : A → B) (xs : List A) (i : ℕ) (x y : A) → x ≡ get_or xs i x → f y ≡ f x → map f (set xs i y) ≡ map f xs
map-set_same f [] i x y is same = refl
map-set_same f (z ∷ zs) zero x y is same = ap (λ v. v ∷ map f zs) (same ∙ ap f is)
map-set_same f (z ∷ zs) (suc i) x y is same = ap (λ vs. f z ∷ vs) (map-set_same f zs i x y is same)

-- one part of the loop
module _ {N : Type 0} (b : Behaviour N) (ns : List N) (es : List Bool) (i : ℕ) (n : N) (e : Bool)
    (below : i < length ns) (flags : length ns ≤ length es) (node_is : n ≡ get_or ns i n) (flag_is : e ≡ get_or es i false) (m : N) (f : Bool) where
  here : drop i (parts ns es) ≡ part n e ∷ drop (suc i) (parts ns es)
  here = parts-drop ns es i n e below flags node_is flag_is

  behind : drop (i + 1) (parts (set ns i m) (set es i f)) ≡ drop (suc i) (parts ns es)
  behind = ap (λ j. drop j (parts (set ns i m) (set es i f))) (add-one i) ∙ parts-drop_set ns es i m f

  pub passed-step : (out new : Sent) → new ≡ fed b (part n e) out
      → passed b (drop (i + 1) (parts (set ns i m) (set es i f))) new ≡ passed b (drop i (parts ns es)) out
  passed-step out new taken =
      let sends = part_sends b (part n e) out.sends in
      let rejects = part_rejects b (part n e) out.sends in
      let rest = drop (i + 1) (parts (set ns i m) (set es i f)) in
      ap (passed b rest) taken
      ∙ add-add (rejects_alone out) [] rejects (through b rest sends) (through_rejects b rest sends)
      ∙ ap (λ ps. add (rejects_alone out) (through b ps sends) (rejects ++ through_rejects b ps sends)) behind
      ∙ sym (ap (λ ps. passed b ps out) here)

  pub passed_last-step : (out new : Sent) → new ≡ fed_last b (part n e) out
      → passed_last b (drop (i + 1) (parts (set ns i m) (set es i f))) new ≡ passed_last b (drop i (parts ns es)) out
  passed_last-step out new taken =
      let sends = part_total b (part n e) out.sends in
      let rejects = part_total_rejects b (part n e) out.sends in
      let rest = drop (i + 1) (parts (set ns i m) (set es i f)) in
      ap (passed_last b rest) taken
      ∙ add-add (rejects_alone out) [] rejects (total b rest sends) (total_rejects b rest sends)
      ∙ ap (λ ps. add (rejects_alone out) (total b ps sends) (rejects ++ total_rejects b ps sends)) behind
      ∙ sym (ap (λ ps. passed_last b ps out) here)

  pub through_after-step : (us vs : List Rec) → vs ≡ part_sends b (part n e) us → part m f ≡ part_after b (part n e) us
      → take (i + 1) (parts (set ns i m) (set es i f)) ++ through_after b (drop (i + 1) (parts (set ns i m) (set es i f))) vs
      ≡ take i (parts ns es) ++ through_after b (drop i (parts ns es)) us
  through_after-step us vs sent after =
      ap₂ (λ front ps. front ++ through_after b ps vs)
      (ap (λ j. take j (parts (set ns i m) (set es i f))) (add-one i) ∙ parts-take_set ns es i m f below flags) behind
      ∙ append_assoc (take i (parts ns es)) (part m f ∷ []) (through_after b (drop (suc i) (parts ns es)) vs)
      ∙ ap₂ (λ p ws. take i (parts ns es) ++ p ∷ through_after b (drop (suc i) (parts ns es)) ws) after sent
      ∙ sym (ap (λ ps. take i (parts ns es) ++ through_after b ps us) here)

-- no part is left at the end of the loop
pub parts-drop_all : {N : Type 0} (ns : List N) (es : List Bool) (i : ℕ) → length ns ≤ i → drop i (parts ns es) ≡ []
parts-drop_all [] es zero all = refl
parts-drop_all [] es (suc i) all = refl
parts-drop_all (n ∷ ns) es zero all = absurd (omega arith)
parts-drop_all (n ∷ ns) [] (suc i) all = parts-drop_all ns [] i (omega arith)
parts-drop_all (n ∷ ns) (e ∷ es) (suc i) all = parts-drop_all ns es i (omega arith)

pub parts-take_all : {N : Type 0} (ns : List N) (es : List Bool) (i : ℕ) → length ns ≤ i → take i (parts ns es) ≡ parts ns es
parts-take_all [] es zero all = refl
parts-take_all [] es (suc i) all = refl
parts-take_all (n ∷ ns) es zero all = absurd (omega arith)
parts-take_all (n ∷ ns) [] (suc i) all = ap (λ ps. part n false ∷ ps) (parts-take_all ns [] i (omega arith))
parts-take_all (n ∷ ns) (e ∷ es) (suc i) all = ap (λ ps. part n e ∷ ps) (parts-take_all ns es i (omega arith))

module _ {N : Type 0} (b : Behaviour N) (ns : List N) (es : List Bool) (i : ℕ) (all : length ns ≤ i) where
  pub passed-done : (out : Sent) → passed b (drop i (parts ns es)) out ≡ out
  passed-done out = ap (λ ps. passed b ps out) (parts-drop_all ns es i all) ∙ add-sends out

  pub passed_last-done : (out : Sent) → passed_last b (drop i (parts ns es)) out ≡ out
  passed_last-done out = ap (λ ps. passed_last b ps out) (parts-drop_all ns es i all) ∙ add-sends out

  pub through_after-done : (us : List Rec) → take i (parts ns es) ++ through_after b (drop i (parts ns es)) us ≡ parts ns es
  through_after-done us =
      ap₂ (λ front ps. front ++ through_after b ps us) (parts-take_all ns es i all) (parts-drop_all ns es i all) ∙ append-nil (parts ns es)
