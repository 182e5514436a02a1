-- A node that sends and rejects nothing, of any class.
use Rattle.std.specs.Prelude.{◌≡◌, ℕ, false, List, [], ◌∷◌, ◌++◌, refl}
use Rattle.std.specs.List.{flat_map}
use Rattle.std.proofs.Common.{sym, ap, ◌∙◌}
use Rattle.ff_rec.specs.Lines.{Rec}
use Rattle.ff_rec.specs.Fields.{contents, having, lacking}
use Rattle.ff_rec.specs.Weights.{Same, weigh}
use Rattle.ff_node.specs.declared.class.Class.{Class}
use Rattle.ff_node.specs.declared.class.Class.TheVariants.{Plain, Ordered, Fold, Keyed}
use Rattle.ff_node.specs.Behaviour.{Behaviour, KeepsKind, sent_from, rejected_from, node, node_rejected}
use Rattle.ff_node.specs.Classes.{IsPlainNode, IsFoldNode, IsKeyedNode, ClassLaw}

-- it does nothing; `kind` is its class
abbrev pub silent : {S : Type 0} → (S → Class) → Behaviour S
silent kind = record {
  class = kind;
  opening = λ s. s;
  sends = λ s x. [];
  rejects = λ s x. [];
  next = λ s x. s;
  ends = λ s x. false;
  last = λ s. [];
  last_rejects = λ s. [];
}

module _ {S : Type 0} (kind : S → Class) where
  sent_from-silent : (s : S) (xs : List Rec) → sent_from (silent kind) s xs ≡ []
  sent_from-silent s [] = refl
  sent_from-silent s (x ∷ xs) = sent_from-silent s xs

  rejected_from-silent : (s : S) (xs : List Rec) → rejected_from (silent kind) s xs ≡ []
  rejected_from-silent s [] = refl
  rejected_from-silent s (x ∷ xs) = rejected_from-silent s xs

  node-each : (o : S) (f : ℕ) (xs : List Rec) (ks : List (List ℕ)) → flat_map (λ k. node (silent kind) o (having f k xs)) ks ≡ []
  node-each o f xs [] = refl
  node-each o f xs (k ∷ ks) = ap (λ ys. ys ++ flat_map (λ j. node (silent kind) o (having f j xs)) ks) (sent_from-silent o (having f k xs)) ∙ node-each o f xs ks

  node_rejected-each : (o : S) (f : ℕ) (xs : List Rec) (ks : List (List ℕ)) → flat_map (λ k. node_rejected (silent kind) o (having f k xs)) ks ≡ []
  node_rejected-each o f xs [] = refl
  node_rejected-each o f xs (k ∷ ks) = ap (λ ys. ys ++ flat_map (λ j. node_rejected (silent kind) o (having f j xs)) ks) (rejected_from-silent o (having f k xs)) ∙ node_rejected-each o f xs ks

  same_nothing : (xs ys : List Rec) → xs ≡ [] → ys ≡ [] → Same xs ys
  same_nothing xs ys e d = record { by = λ h. ap (weigh h) (e ∙ sym d) }

  pub plain-silent : (o : S) → IsPlainNode (silent kind) o
  plain-silent o = record {
    sends = λ ys x. refl;
    rejects = λ ys x. refl;
    ends = λ ys x. refl;
    last = λ ys. refl;
    last_rejects = λ ys. refl;
  }

  pub fold-silent : (o : S) → IsFoldNode (silent kind) o
  fold-silent o = record {
    sends = λ ys x. refl;
    ends = λ ys x. refl;
    any_order = λ xs ys same. sent_from-silent o xs ∙ sym (sent_from-silent o ys);
    rejected_any_order = λ xs ys same. same_nothing (node_rejected (silent kind) o xs) (node_rejected (silent kind) o ys) (rejected_from-silent o xs) (rejected_from-silent o ys);
  }

  pub keyed-silent : (f : ℕ) (o : S) → IsKeyedNode (silent kind) f o
  keyed-silent f o = record {
    fold = fold-silent o;
    parts = λ xs. sent_from-silent o xs ∙ sym (node-each o f xs (contents f xs));
    rejected_parts = λ xs. same_nothing (node_rejected (silent kind) o xs)
        (flat_map (λ k. node_rejected (silent kind) o (having f k xs)) (contents f xs) ++ node_rejected (silent kind) o (lacking f xs))
        (rejected_from-silent o xs)
        (ap (λ ys. ys ++ node_rejected (silent kind) o (lacking f xs)) (node_rejected-each o f xs (contents f xs)) ∙ rejected_from-silent o (lacking f xs));
    rejected_nothing = refl;
  }

  -- it keeps the law of every class
  pub silent_law : (o : S) (c : Class) → ClassLaw (silent kind) o c
  silent_law o Plain = plain-silent o
  silent_law o Ordered = tt
  silent_law o Fold = fold-silent o
  silent_law o (Keyed f) = keyed-silent f o

  pub silent_kind : KeepsKind (silent kind)
  silent_kind = record { opening_of_opening = λ s. refl; opening_of_next = λ s x. refl; class_of_opening = λ s. refl }
