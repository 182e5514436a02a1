-- Combs of Plain nodes, with a Fold among them, and of one Keyed node.
use Rattle.std.specs.Prelude.{◌≡◌, ℕ, Bool, true, false, if◌then◌else◌, List, [], ◌∷◌, ◌++◌, map, refl, ◌⊎◌}
use Rattle.std.specs.List.{AllByRecursion, flat_map}
use Rattle.std.proofs.Common.{◌∙◌, sym, ap, ap₂, append-nil, inl, inr, arith}
use Rattle.ff_rec.specs.Lines.{Rec}
use Rattle.ff_rec.specs.Fields.{having, lacking, contents}
use Rattle.ff_rec.specs.Weights.{weigh, Same}
use Rattle.ff_rec.proofs.WeightLaws.{Same-≡, Same-sym, Same-trans, Same-append, Same-nil, Same-refl, weigh-append}
use Rattle.ff_node.specs.Behaviour.{Behaviour, node, node_rejected, pipeline, pipeline_rejected}
use Rattle.ff_node.specs.Classes.{reached, IsPlainNode, IsFoldNode, IsKeyedNode}
use Rattle.ff_node.specs.OnLists.{GoesByCounts}
use Rattle.ff_node.specs.OnListsLaws.{GoesByCounts-plain, GoesByCounts-fold}
use Rattle.ff_node.specs.Comb.{Part, given_from, part_from, part_sends, through, through_rejects, through_after, total, total_rejects, opened, first_ended, comb_node, nodes_of}
use Rattle.ff_node.specs.CombLaws.{node-comb, node_rejected-comb, state_from-opened}
use Rattle.ff_node.specs.CombStateLaws.{part_after-ended, part_sends-plain, part_rejects-plain, part_total-plain, part_total_rejects-plain, part_sends-fold, on-plain, on-fold}

-- functions that agree
flat_map-≡ : {A B : Type 0} (g h : A → List B) → ((x : A) → g x ≡ h x) → (xs : List A) → flat_map g xs ≡ flat_map h xs
flat_map-≡ g h agree [] = refl
flat_map-≡ g h agree (x ∷ xs) = ap₂ (λ ys zs. ys ++ zs) (agree x) (flat_map-≡ g h agree xs)

-- all parts are Plain
abbrev pub ArePlain : {N : Type 0} → Behaviour N → List (Part N) → Type 0
ArePlain b ps = AllByRecursion (λ p. IsPlainNode b p.node) ps

-- the first part that isn't Plain is a Fold
abbrev pub HasFold : {N : Type 0} → Behaviour N → List (Part N) → Type 0
HasFold b [] = ⊥
HasFold b (p ∷ ps) = IsFoldNode b p.node ⊎ (IsPlainNode b p.node × HasFold b ps)

-- each part goes by counts
abbrev pub GoByCounts : {N : Type 0} → Behaviour N → List (Part N) → Type 0
GoByCounts b ps = AllByRecursion (λ p. GoesByCounts b p.node) ps

module _ {N : Type 0} (b : Behaviour N) where
  -- parts that are all Plain do in every state what they do in their opening states
  through-plain : (ps : List (Part N)) → ArePlain b ps → (ys us : List Rec) → through b (through_after b (map (opened b) ps) ys) us ≡ through b (map (opened b) ps) us
  through-plain [] h ys us = refl
  through-plain (p ∷ ps) h ys us =
      through-plain ps h.1 (given_from b (b.opening p.node) ys) (part_sends b (part_from b (b.opening p.node) ys) us)
      ∙ ap (through b (map (opened b) ps)) (part_sends-plain b p.node h.0 ys us)

  through_rejects-plain : (ps : List (Part N)) → ArePlain b ps → (ys us : List Rec) → through_rejects b (through_after b (map (opened b) ps) ys) us ≡ through_rejects b (map (opened b) ps) us
  through_rejects-plain [] h ys us = refl
  through_rejects-plain (p ∷ ps) h ys us =
      ap₂ (λ (front back : List Rec). front ++ back) (part_rejects-plain b p.node h.0 ys us) (
      through_rejects-plain ps h.1 (given_from b (b.opening p.node) ys) (part_sends b (part_from b (b.opening p.node) ys) us)
      ∙ ap (through_rejects b (map (opened b) ps)) (part_sends-plain b p.node h.0 ys us))

  -- and nothing comes at the end
  total-plain : (ps : List (Part N)) → ArePlain b ps → (ys : List Rec) → total b (through_after b (map (opened b) ps) ys) [] ≡ []
  total-plain [] h ys = refl
  total-plain (p ∷ ps) h ys =
      let behind = through_after b (map (opened b) ps) (given_from b (b.opening p.node) ys) in
      ap (total b behind) (part_total-plain b p.node h.0 ys) ∙ total-plain ps h.1 (given_from b (b.opening p.node) ys)

  total_rejects-plain : (ps : List (Part N)) → ArePlain b ps → (ys : List Rec) → total_rejects b (through_after b (map (opened b) ps) ys) [] ≡ []
  total_rejects-plain [] h ys = refl
  total_rejects-plain (p ∷ ps) h ys =
      let behind = through_after b (map (opened b) ps) (given_from b (b.opening p.node) ys) in
      ap₂ (λ (front us : List Rec). front ++ total_rejects b behind us) (part_total_rejects-plain b p.node h.0 ys) (part_total-plain b p.node h.0 ys)
      ∙ total_rejects-plain ps h.1 (given_from b (b.opening p.node) ys)

  first_ended-plain : (ps : List (Part N)) → ArePlain b ps → (ys us : List Rec) → first_ended (through_after b (through_after b (map (opened b) ps) ys) us) ≡ false
  first_ended-plain [] h ys us = refl
  first_ended-plain (p ∷ ps) h ys us = part_after-ended b p.node (on-plain b p.node h.0) ys us

  -- with a Fold among them nothing comes out before the end
  through-nil : (ps : List (Part N)) → through b ps [] ≡ []
  through-nil [] = refl
  through-nil (p ∷ ps) = ap (through b ps) (by p.ended) ∙ through-nil ps
    where
      by : (e : Bool) → (if e then [] else given_from b p.node []) ≡ []
      by true = refl
      by false = refl

  through-fold : (ps : List (Part N)) → HasFold b ps → (ys us : List Rec) → through b (through_after b (map (opened b) ps) ys) us ≡ []
  through-fold [] h ys us = absurd h
  through-fold (p ∷ ps) h ys us =
      let behind = through_after b (map (opened b) ps) (given_from b (b.opening p.node) ys) in
      elim h [
        | inl fold ↦ ap (through b behind) (part_sends-fold b p.node fold ys us) ∙ through-nil behind
        | inr later ↦ through-fold ps later.1 (given_from b (b.opening p.node) ys) (part_sends b (part_from b (b.opening p.node) ys) us)
      ]

  first_ended-fold : (ps : List (Part N)) → HasFold b ps → (ys us : List Rec) → first_ended (through_after b (through_after b (map (opened b) ps) ys) us) ≡ false
  first_ended-fold [] h ys us = refl
  first_ended-fold (p ∷ ps) h ys us = elim h [
    | inl fold ↦ part_after-ended b p.node (on-fold b p.node fold) ys us
    | inr later ↦ part_after-ended b p.node (on-plain b p.node later.0) ys us
  ]

  -- the order of the records is lost at the Fold
  pipeline-any_order : (ps : List (Part N)) → HasFold b ps → (xs ys : List Rec) → Same xs ys → pipeline b (nodes_of ps) xs ≡ pipeline b (nodes_of ps) ys
  pipeline-any_order [] h xs ys s = absurd h
  pipeline-any_order (p ∷ ps) h xs ys s = elim h [
    | inl fold ↦ ap (pipeline b (nodes_of ps)) (fold.any_order xs ys s)
    | inr later ↦ pipeline-any_order ps later.1 (node b p.node xs) (node b p.node ys) (GoesByCounts-plain b p.node later.0 xs ys s).0
  ]

  pipeline_rejected-any_order : (ps : List (Part N)) → GoByCounts b ps → (xs ys : List Rec) → Same xs ys → Same (pipeline_rejected b (nodes_of ps) xs) (pipeline_rejected b (nodes_of ps) ys)
  pipeline_rejected-any_order [] h xs ys s = Same-refl []
  pipeline_rejected-any_order (p ∷ ps) h xs ys s =
      Same-append (h.0 xs ys s).1 (pipeline_rejected-any_order ps h.1 (node b p.node xs) (node b p.node ys) (h.0 xs ys s).0)

  -- the states of a comb are those of its parts
  comb-reached : (ps : List (Part N)) (ys : List Rec) → reached (comb_node b) ps ys ≡ through_after b (map (opened b) ps) ys
  comb-reached ps ys = state_from-opened b ps ys

  pub IsPlainNode-comb : (ps : List (Part N)) → ArePlain b ps → IsPlainNode (comb_node b) ps
  IsPlainNode-comb ps h = record {
    sends = λ ys x. ap (λ (qs : List (Part N)). through b qs (x ∷ [])) (comb-reached ps ys) ∙ through-plain ps h ys (x ∷ []);
    rejects = λ ys x. ap (λ (qs : List (Part N)). through_rejects b qs (x ∷ [])) (comb-reached ps ys) ∙ through_rejects-plain ps h ys (x ∷ []);
    ends = λ ys x. ap (λ (qs : List (Part N)). first_ended (through_after b qs (x ∷ []))) (comb-reached ps ys) ∙ first_ended-plain ps h ys (x ∷ []);
    last = λ ys. ap (λ (qs : List (Part N)). total b qs []) (comb-reached ps ys) ∙ total-plain ps h ys;
    last_rejects = λ ys. ap (λ (qs : List (Part N)). total_rejects b qs []) (comb-reached ps ys) ∙ total_rejects-plain ps h ys;
  }

  pub IsFoldNode-comb : (ps : List (Part N)) → HasFold b ps → GoByCounts b ps → IsFoldNode (comb_node b) ps
  IsFoldNode-comb ps h all = record {
    sends = λ ys x. ap (λ (qs : List (Part N)). through b qs (x ∷ [])) (comb-reached ps ys) ∙ through-fold ps h ys (x ∷ []);
    ends = λ ys x. ap (λ (qs : List (Part N)). first_ended (through_after b qs (x ∷ []))) (comb-reached ps ys) ∙ first_ended-fold ps h ys (x ∷ []);
    any_order = λ xs ys s. node-comb b ps xs ∙ pipeline-any_order ps h xs ys s ∙ sym (node-comb b ps ys);
    rejected_any_order = λ xs ys s. Same-trans (node_rejected-comb b ps xs) (Same-trans (pipeline_rejected-any_order ps all xs ys s) (Same-sym (node_rejected-comb b ps ys)));
  }

  -- a comb of one part rejects what the part does
  node_rejected-one : (p : Part N) (xs : List Rec) → Same (node_rejected (comb_node b) (p ∷ []) xs) (node_rejected b p.node xs)
  node_rejected-one p xs = Same-trans (node_rejected-comb b (p ∷ []) xs) (Same-≡ (node_rejected b p.node xs ++ []) (node_rejected b p.node xs) (append-nil (node_rejected b p.node xs)))

  node_rejected-one-contents : (h : Rec → ℕ) (p : Part N) (f : ℕ) (xs : List Rec) (ks : List (List ℕ))
      → weigh h (flat_map (λ k. node_rejected (comb_node b) (p ∷ []) (having f k xs)) ks) ≡ weigh h (flat_map (λ k. node_rejected b p.node (having f k xs)) ks)
  node_rejected-one-contents h p f xs [] = refl
  node_rejected-one-contents h p f xs (k ∷ ks) =
      let comb = λ (c : List ℕ). node_rejected (comb_node b) (p ∷ []) (having f c xs) in
      let alone = λ (c : List ℕ). node_rejected b p.node (having f c xs) in
      omega (
        arith,
        weigh-append h (comb k) (flat_map comb ks),
        weigh-append h (alone k) (flat_map alone ks),
        (node_rejected-one p (having f k xs)).by h,
        node_rejected-one-contents h p f xs ks,
      )

  pub IsKeyedNode-comb : (p : Part N) (f : ℕ) → IsKeyedNode b f p.node → IsKeyedNode (comb_node b) f (p ∷ [])
  IsKeyedNode-comb p f h = record {
    fold = IsFoldNode-comb (p ∷ []) (inl h.fold) (GoesByCounts-fold b p.node h.fold, tt);
    parts = λ xs. node-comb b (p ∷ []) xs ∙ h.parts xs
        ∙ sym (flat_map-≡ (λ k. node (comb_node b) (p ∷ []) (having f k xs)) (λ k. node b p.node (having f k xs)) (λ k. node-comb b (p ∷ []) (having f k xs)) (contents f xs));
    rejected_parts = λ xs. record { by = λ w. refused_weights w xs };
    rejected_nothing = Same-nil (node_rejected (comb_node b) (p ∷ []) []) (Same-sym (Same-trans (node_rejected-one p []) (Same-≡ (node_rejected b p.node []) [] h.rejected_nothing)));
  }
    where
      refused_weights : (w : Rec → ℕ) (xs : List Rec) → weigh w (node_rejected (comb_node b) (p ∷ []) xs)
          ≡ weigh w (flat_map (λ k. node_rejected (comb_node b) (p ∷ []) (having f k xs)) (contents f xs) ++ node_rejected (comb_node b) (p ∷ []) (lacking f xs))
      refused_weights w xs =
          omega (
            arith,
            (node_rejected-one p xs).by w,
            (h.rejected_parts xs).by w,
            (node_rejected-one p (lacking f xs)).by w,
            node_rejected-one-contents w p f xs (contents f xs),
            weigh-append w (flat_map (λ k. node_rejected (comb_node b) (p ∷ []) (having f k xs)) (contents f xs)) (node_rejected (comb_node b) (p ∷ []) (lacking f xs)),
            weigh-append w (flat_map (λ k. node_rejected b p.node (having f k xs)) (contents f xs)) (node_rejected b p.node (lacking f xs)),
          )
