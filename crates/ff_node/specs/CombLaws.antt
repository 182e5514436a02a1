-- Laws of several nodes run as one: records in two steps, and a comb on a list.
use Rattle.std.specs.Prelude.{◌≡◌, ℕ, ◌+◌, Bool, true, false, if◌then◌else◌, List, [], ◌∷◌, ◌++◌, map, refl}
use Rattle.std.proofs.Common.{◌∙◌, sym, ap, ap₂, arith}
use Rattle.ff_rec.specs.Lines.{Rec}
use Rattle.ff_rec.specs.Weights.{weigh, Same}
use Rattle.ff_rec.proofs.WeightLaws.{weigh-append}
use Rattle.ff_node.specs.Behaviour.{Behaviour, node, node_rejected, pipeline, pipeline_rejected, sent_from, rejected_from, state_from}
use Rattle.ff_node.specs.Comb.{Part, part, part_sends, part_rejects, part_after, part_total, part_total_rejects, through, through_rejects, through_after, total, total_rejects, opened, first_ended, comb_node, nodes_of, CombIsPipeline, CombEndsWithFirst}
use Rattle.ff_node.specs.CombPartLaws.{part_sends-total, part_rejects-total, part_sends-append, part_after-append}

module _ {N : Type 0} (b : Behaviour N) where
  -- what carries all: records in two steps through all parts
  pub through-total : (ps : List (Part N)) (us vs : List Rec) → through b ps us ++ total b (through_after b ps us) vs ≡ total b ps (us ++ vs)
  through-total [] us vs = refl
  through-total (p ∷ ps) us vs =
      through-total ps (part_sends b p us) (part_total b (part_after b p us) vs)
      ∙ ap (total b ps) (part_sends-total b p us vs)

  -- the rejects by their weights, since those of the first part come first in either step
  pub through_rejects-total : (h : Rec → ℕ) (ps : List (Part N)) (us vs : List Rec)
      → weigh h (through_rejects b ps us) + weigh h (total_rejects b (through_after b ps us) vs) ≡ weigh h (total_rejects b ps (us ++ vs))
  through_rejects-total h [] us vs = refl
  through_rejects-total h (p ∷ ps) us vs =
      let here : part_rejects b p us ++ part_total_rejects b (part_after b p us) vs ≡ part_total_rejects b p (us ++ vs) = part_rejects-total b p us vs in
      let there : weigh h (through_rejects b ps (part_sends b p us)) + weigh h (total_rejects b (through_after b ps (part_sends b p us)) (part_total b (part_after b p us) vs))
      ≡ weigh h (total_rejects b ps (part_total b p (us ++ vs))) =
      through_rejects-total h ps (part_sends b p us) (part_total b (part_after b p us) vs)
      ∙ ap (λ ys. weigh h (total_rejects b ps ys)) (part_sends-total b p us vs) in
      omega (
        arith,
        there,
        ap (weigh h) here,
        weigh-append h (part_rejects b p us) (part_total_rejects b (part_after b p us) vs),
        weigh-append h (part_rejects b p us) (through_rejects b ps (part_sends b p us)),
        weigh-append h (part_total_rejects b (part_after b p us) vs) (total_rejects b (through_after b ps (part_sends b p us)) (part_total b (part_after b p us) vs)),
        weigh-append h (part_total_rejects b p (us ++ vs)) (total_rejects b ps (part_total b p (us ++ vs))),
      )

  pub through-append : (ps : List (Part N)) (us vs : List Rec) → through b ps us ++ through b (through_after b ps us) vs ≡ through b ps (us ++ vs)
  through-append [] us vs = refl
  through-append (p ∷ ps) us vs =
      through-append ps (part_sends b p us) (part_sends b (part_after b p us) vs)
      ∙ ap (through b ps) (part_sends-append b p us vs)

  pub through_after-append : (ps : List (Part N)) (us vs : List Rec) → through_after b (through_after b ps us) vs ≡ through_after b ps (us ++ vs)
  through_after-append [] us vs = refl
  through_after-append (p ∷ ps) us vs =
      ap₂ (λ q qs. q ∷ qs) (part_after-append b p us vs)
      (through_after-append ps (part_sends b p us) (part_sends b (part_after b p us) vs)
      ∙ ap (through_after b ps) (part_sends-append b p us vs))

  -- where the first part has ended, nothing that comes counts
  pub total-ended : (ps : List (Part N)) (us : List Rec) → first_ended ps ≡ true → total b ps us ≡ total b ps []
  total-ended [] us ended = cc
  total-ended (p ∷ ps) us ended =
      ap (λ (e : Bool). total b ps (if e then [] else sent_from b p.node us)) ended
      ∙ sym (ap (λ (e : Bool). total b ps (if e then [] else sent_from b p.node [])) ended)

  pub total_rejects-ended : (ps : List (Part N)) (us : List Rec) → first_ended ps ≡ true → total_rejects b ps us ≡ total_rejects b ps []
  total_rejects-ended [] us ended = refl
  total_rejects-ended (p ∷ ps) us ended =
      ap (λ (e : Bool). (if e then [] else rejected_from b p.node us) ++ total_rejects b ps (if e then [] else sent_from b p.node us)) ended
      ∙ sym (ap (λ (e : Bool). (if e then [] else rejected_from b p.node []) ++ total_rejects b ps (if e then [] else sent_from b p.node [])) ended)

  -- what a comb sends and rejects for a list, in any of its states
  pub sent_from-comb : (ps : List (Part N)) (xs : List Rec) → sent_from (comb_node b) ps xs ≡ total b ps xs
  sent_from-comb ps [] = refl
  sent_from-comb ps (x ∷ xs) =
      let qs = through_after b ps (x ∷ []) in
      by (first_ended qs) refl (sent_from-comb qs xs) ∙ through-total ps (x ∷ []) xs
    where
      by : (e : Bool) → first_ended (through_after b ps (x ∷ [])) ≡ e
          → sent_from (comb_node b) (through_after b ps (x ∷ [])) xs ≡ total b (through_after b ps (x ∷ [])) xs
          → through b ps (x ∷ []) ++ (if e then total b (through_after b ps (x ∷ [])) [] else sent_from (comb_node b) (through_after b ps (x ∷ [])) xs)
          ≡ through b ps (x ∷ []) ++ total b (through_after b ps (x ∷ [])) xs
      by true is rest = ap (λ ys. through b ps (x ∷ []) ++ ys) (sym (total-ended (through_after b ps (x ∷ [])) xs is))
      by false is rest = ap (λ ys. through b ps (x ∷ []) ++ ys) rest

  pub rejected_from-comb : (h : Rec → ℕ) (ps : List (Part N)) (xs : List Rec) → weigh h (rejected_from (comb_node b) ps xs) ≡ weigh h (total_rejects b ps xs)
  rejected_from-comb h ps [] = refl
  rejected_from-comb h ps (x ∷ xs) =
      let qs = through_after b ps (x ∷ []) in
      by (first_ended qs) refl (rejected_from-comb h qs xs) ∙ through_rejects-total h ps (x ∷ []) xs
    where
      by : (e : Bool) → first_ended (through_after b ps (x ∷ [])) ≡ e
          → weigh h (rejected_from (comb_node b) (through_after b ps (x ∷ [])) xs) ≡ weigh h (total_rejects b (through_after b ps (x ∷ [])) xs)
          → weigh h (through_rejects b ps (x ∷ []) ++ (if e then total_rejects b (through_after b ps (x ∷ [])) [] else rejected_from (comb_node b) (through_after b ps (x ∷ [])) xs))
          ≡ weigh h (through_rejects b ps (x ∷ [])) + weigh h (total_rejects b (through_after b ps (x ∷ [])) xs)
      by true is rest =
          weigh-append h (through_rejects b ps (x ∷ [])) (total_rejects b (through_after b ps (x ∷ [])) [])
          ∙ ap (λ ys. weigh h (through_rejects b ps (x ∷ [])) + weigh h ys) (sym (total_rejects-ended (through_after b ps (x ∷ [])) xs is))
      by false is rest =
          weigh-append h (through_rejects b ps (x ∷ [])) (rejected_from (comb_node b) (through_after b ps (x ∷ [])) xs)
          ∙ ap (λ n. weigh h (through_rejects b ps (x ∷ [])) + n) rest

  -- from the opening states on, these are the nodes one behind another
  pub total-opened : (ps : List (Part N)) (xs : List Rec) → total b (map (opened b) ps) xs ≡ pipeline b (nodes_of ps) xs
  total-opened [] xs = refl
  total-opened (p ∷ ps) xs = total-opened ps (node b p.node xs)

  pub total_rejects-opened : (ps : List (Part N)) (xs : List Rec) → total_rejects b (map (opened b) ps) xs ≡ pipeline_rejected b (nodes_of ps) xs
  total_rejects-opened [] xs = refl
  total_rejects-opened (p ∷ ps) xs = ap (λ ys. node_rejected b p.node xs ++ ys) (total_rejects-opened ps (node b p.node xs))

  pub node-comb : (ps : List (Part N)) (xs : List Rec) → node (comb_node b) ps xs ≡ pipeline b (nodes_of ps) xs
  node-comb ps xs = sent_from-comb (map (opened b) ps) xs ∙ total-opened ps xs

  pub node_rejected-comb : (ps : List (Part N)) (xs : List Rec) → Same (node_rejected (comb_node b) ps xs) (pipeline_rejected b (nodes_of ps) xs)
  node_rejected-comb ps xs = record { by = λ h. rejected_from-comb h (map (opened b) ps) xs ∙ ap (weigh h) (total_rejects-opened ps xs) }

  pub comb-is_pipeline : CombIsPipeline b
  comb-is_pipeline ps xs = (node-comb ps xs, node_rejected-comb ps xs)

  pub comb-ends_with_first : CombEndsWithFirst b
  comb-ends_with_first o ps x = by (b.ends o x)
    where
      by : (e : Bool) → (if e then part (b.opening (b.next o x)) true else part (b.next o x) false).ended ≡ e
      by true = refl
      by false = refl

  -- the state of a comb after a list
  pub through_after-nil : (ps : List (Part N)) → through_after b (map (opened b) ps) [] ≡ map (opened b) ps
  through_after-nil [] = refl
  through_after-nil (p ∷ ps) = ap (λ qs. opened b p ∷ qs) (through_after-nil ps)

  pub state_from-comb : (ps : List (Part N)) (x : Rec) (xs : List Rec) → state_from (comb_node b) ps (x ∷ xs) ≡ through_after b ps (x ∷ xs)
  state_from-comb ps x [] = refl
  state_from-comb ps x (y ∷ xs) = state_from-comb (through_after b ps (x ∷ [])) y xs ∙ through_after-append ps (x ∷ []) (y ∷ xs)

  pub state_from-opened : (ps : List (Part N)) (xs : List Rec) → state_from (comb_node b) (map (opened b) ps) xs ≡ through_after b (map (opened b) ps) xs
  state_from-opened ps [] = sym (through_after-nil ps)
  state_from-opened ps (x ∷ xs) = state_from-comb (map (opened b) ps) x xs
