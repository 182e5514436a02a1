-- A behaviour that is part of another: what one of its states does, the other does in the state that stands for it.
use Rattle.std.specs.Prelude.{◌≡◌, ℕ, if◌then◌else◌, List, [], ◌∷◌, ◌++◌, refl}
use Rattle.std.specs.List.{flat_map}
use Rattle.std.proofs.Common.{◌∙◌, sym, ap, subst}
use Rattle.ff_rec.specs.Lines.{Rec}
use Rattle.ff_rec.specs.Weights.{Same}
use Rattle.ff_rec.specs.Fields.{contents, having, lacking}
use Rattle.ff_node.specs.Behaviour.{Behaviour, sent_from, rejected_from, state_from, node, node_rejected}
use Rattle.ff_node.specs.Classes.{ClassLaw, IsPlainNode, IsFoldNode, IsKeyedNode, reached}
use Rattle.ff_node.specs.declared.class.Class.{Class}
use Rattle.ff_node.specs.declared.class.Class.TheVariants.{Plain, Ordered, Fold, Keyed}

-- `at s` in `c` does what `s` does in `b`
pub record IsPart {S T : Type 0} (b : Behaviour S) (c : Behaviour T) (at : S → T) : Type 0 where
  pub opening : (s : S) → c.opening (at s) ≡ at (b.opening s)
  pub sends : (s : S) (r : Rec) → c.sends (at s) r ≡ b.sends s r
  pub rejects : (s : S) (r : Rec) → c.rejects (at s) r ≡ b.rejects s r
  pub next : (s : S) (r : Rec) → c.next (at s) r ≡ at (b.next s r)
  pub ends : (s : S) (r : Rec) → c.ends (at s) r ≡ b.ends s r
  pub last : (s : S) → c.last (at s) ≡ b.last s
  pub last_rejects : (s : S) → c.last_rejects (at s) ≡ b.last_rejects s

module _ {S T : Type 0} (b : Behaviour S) (c : Behaviour T) (at : S → T) (h : IsPart b c at) where
  -- the states that records lead to
  state_from-at : (s : S) (ys : List Rec) → state_from c (at s) ys ≡ at (state_from b s ys)
  state_from-at s [] = refl
  state_from-at s (y ∷ ys) = ap (λ t. state_from c t ys) (h.next s y) ∙ state_from-at (b.next s y) ys

  reached-at : (s : S) (ys : List Rec) → reached c (at s) ys ≡ at (reached b s ys)
  reached-at s ys = ap (λ t. state_from c t ys) (h.opening s) ∙ state_from-at (b.opening s) ys

  -- what is sent and rejected for a list
  sent_from-at : (s : S) (ys : List Rec) → sent_from c (at s) ys ≡ sent_from b s ys
  sent_from-at s [] = h.last s
  sent_from-at s (y ∷ ys) =
      ap (λ sends. sends ++ (if c.ends (at s) y then c.last (c.next (at s) y) else sent_from c (c.next (at s) y) ys)) (h.sends s y)
      ∙ ap (λ ends. b.sends s y ++ (if ends then c.last (c.next (at s) y) else sent_from c (c.next (at s) y) ys)) (h.ends s y)
      ∙ ap (λ t. b.sends s y ++ (if b.ends s y then c.last t else sent_from c t ys)) (h.next s y)
      ∙ ap (λ last. b.sends s y ++ (if b.ends s y then last else sent_from c (at (b.next s y)) ys)) (h.last (b.next s y))
      ∙ ap (λ rest. b.sends s y ++ (if b.ends s y then b.last (b.next s y) else rest)) (sent_from-at (b.next s y) ys)

  rejected_from-at : (s : S) (ys : List Rec) → rejected_from c (at s) ys ≡ rejected_from b s ys
  rejected_from-at s [] = h.last_rejects s
  rejected_from-at s (y ∷ ys) =
      ap (λ rejects. rejects ++ (if c.ends (at s) y then c.last_rejects (c.next (at s) y) else rejected_from c (c.next (at s) y) ys)) (h.rejects s y)
      ∙ ap (λ ends. b.rejects s y ++ (if ends then c.last_rejects (c.next (at s) y) else rejected_from c (c.next (at s) y) ys)) (h.ends s y)
      ∙ ap (λ t. b.rejects s y ++ (if b.ends s y then c.last_rejects t else rejected_from c t ys)) (h.next s y)
      ∙ ap (λ last. b.rejects s y ++ (if b.ends s y then last else rejected_from c (at (b.next s y)) ys)) (h.last_rejects (b.next s y))
      ∙ ap (λ rest. b.rejects s y ++ (if b.ends s y then b.last_rejects (b.next s y) else rest)) (rejected_from-at (b.next s y) ys)

  pub node-at : (s : S) (ys : List Rec) → node c (at s) ys ≡ node b s ys
  node-at s ys = ap (λ t. sent_from c t ys) (h.opening s) ∙ sent_from-at (b.opening s) ys

  pub node_rejected-at : (s : S) (ys : List Rec) → node_rejected c (at s) ys ≡ node_rejected b s ys
  node_rejected-at s ys = ap (λ t. rejected_from c t ys) (h.opening s) ∙ rejected_from-at (b.opening s) ys

  -- the laws of the classes go along
  plain-at : (s : S) → IsPlainNode b s → IsPlainNode c (at s)
  plain-at s p = record {
    sends = λ ys x. ap (λ t. c.sends t x) (reached-at s ys) ∙ h.sends (reached b s ys) x ∙ p.sends ys x ∙ sym (h.sends (b.opening s) x) ∙ sym (ap (λ t. c.sends t x) (h.opening s));
    rejects = λ ys x. ap (λ t. c.rejects t x) (reached-at s ys) ∙ h.rejects (reached b s ys) x ∙ p.rejects ys x ∙ sym (h.rejects (b.opening s) x) ∙ sym (ap (λ t. c.rejects t x) (h.opening s));
    ends = λ ys x. ap (λ t. c.ends t x) (reached-at s ys) ∙ h.ends (reached b s ys) x ∙ p.ends ys x;
    last = λ ys. ap c.last (reached-at s ys) ∙ h.last (reached b s ys) ∙ p.last ys;
    last_rejects = λ ys. ap c.last_rejects (reached-at s ys) ∙ h.last_rejects (reached b s ys) ∙ p.last_rejects ys;
  }

  fold-at : (s : S) → IsFoldNode b s → IsFoldNode c (at s)
  fold-at s p = record {
    sends = λ ys x. ap (λ t. c.sends t x) (reached-at s ys) ∙ h.sends (reached b s ys) x ∙ p.sends ys x;
    ends = λ ys x. ap (λ t. c.ends t x) (reached-at s ys) ∙ h.ends (reached b s ys) x ∙ p.ends ys x;
    any_order = λ xs ys same. node-at s xs ∙ p.any_order xs ys same ∙ sym (node-at s ys);
    rejected_any_order = λ xs ys same. subst (λ zs. Same zs (node_rejected c (at s) ys)) (sym (node_rejected-at s xs))
        (subst (λ zs. Same (node_rejected b s xs) zs) (sym (node_rejected-at s ys)) (p.rejected_any_order xs ys same));
  }

  keyed-at : (f : ℕ) (s : S) → IsKeyedNode b f s → IsKeyedNode c f (at s)
  keyed-at f s p = record {
    fold = fold-at s p.fold;
    parts = λ xs. node-at s xs ∙ p.parts xs ∙ sym (flat_map-same (λ k. node c (at s) (having f k xs)) (λ k. node b s (having f k xs)) (λ k. node-at s (having f k xs)) (contents f xs));
    rejected_parts = λ xs. subst (λ zs. Same zs (flat_map (λ k. node_rejected c (at s) (having f k xs)) (contents f xs) ++ node_rejected c (at s) (lacking f xs))) (sym (node_rejected-at s xs))
        (subst (λ zs. Same (node_rejected b s xs) (zs ++ node_rejected c (at s) (lacking f xs)))
        (sym (flat_map-same (λ k. node_rejected c (at s) (having f k xs)) (λ k. node_rejected b s (having f k xs)) (λ k. node_rejected-at s (having f k xs)) (contents f xs)))
        (subst (λ zs. Same (node_rejected b s xs) (flat_map (λ k. node_rejected b s (having f k xs)) (contents f xs) ++ zs)) (sym (node_rejected-at s (lacking f xs))) (p.rejected_parts xs)));
    rejected_nothing = node_rejected-at s [] ∙ p.rejected_nothing;
  }
    where
      flat_map-same : (f g : List ℕ → List Rec) → ((k : List ℕ) → f k ≡ g k) → (ks : List (List ℕ)) → flat_map f ks ≡ flat_map g ks
      flat_map-same f g e [] = refl
      flat_map-same f g e (k ∷ ks) = ap (λ ys. ys ++ flat_map f ks) (e k) ∙ ap (λ ys. g k ++ ys) (flat_map-same f g e ks)

  pub class_law-at : (class : Class) (s : S) → ClassLaw b s class → ClassLaw c (at s) class
  class_law-at Plain s law = plain-at s law
  class_law-at Ordered s law = tt
  class_law-at Fold s law = fold-at s law
  class_law-at (Keyed f) s law = keyed-at f s law
