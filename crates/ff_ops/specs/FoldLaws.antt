-- The law of all folds: where two records in either order lead to one state, the order of the records doesn't matter.
use Rattle.std.specs.Prelude.{◌≡◌, Bool, false, if◌then◌else◌, List, [], ◌∷◌, ◌++◌, refl}
use Rattle.std.specs.List.{flat_map}
use Rattle.std.proofs.Common.{◌∙◌, sym, ap, ap₂}
use Rattle.ff_rec.specs.Lines.{Rec}
use Rattle.ff_rec.specs.Weights.{weigh, Same}
use Rattle.ff_rec.proofs.WeightLaws.{IsPicked, Same-nil, Same-flat_map}
use Rattle.ff_rec.proofs.Counts.{Same-pick_record}
use Rattle.ff_node.specs.Behaviour.{Behaviour, sent_from, rejected_from, state_from}
use Rattle.ff_node.specs.Classes.{IsFoldNode, reached}
use Rattle.ff_node.specs.OnListsLaws.{reached-next}

-- what a fold shows step by step: it sends nothing, never ends, rejects a record the same in every state that records lead to,
-- rejects nothing at the end, and two records in either order lead to one state
pub record FoldSteps {S : Type 0} (b : Behaviour S) (o : S) : Type 0 where
  pub sends : (ys : List Rec) (x : Rec) → b.sends (reached b o ys) x ≡ []
  pub ends : (ys : List Rec) (x : Rec) → b.ends (reached b o ys) x ≡ false
  pub rejects : (ys : List Rec) (x : Rec) → b.rejects (reached b o ys) x ≡ b.rejects (b.opening o) x
  pub last_rejects : (ys : List Rec) → b.last_rejects (reached b o ys) ≡ []
  pub swaps : (ys : List Rec) (x y : Rec) → b.next (b.next (reached b o ys) x) y ≡ b.next (b.next (reached b o ys) y) x

module _ {S : Type 0} (b : Behaviour S) (o : S) (h : FoldSteps b o) where
  -- a record in the middle leads where the same record in front leads
  state_from-middle : (us front : List Rec) (x : Rec) (back : List Rec) → state_from b (reached b o us) (front ++ x ∷ back) ≡ state_from b (b.next (reached b o us) x) (front ++ back)
  state_from-middle us [] x back = refl
  state_from-middle us (f ∷ front) x back =
      ap (λ (s : S). state_from b s (front ++ x ∷ back)) (reached-next b o us f)
      ∙ state_from-middle (us ++ f ∷ []) front x back
      ∙ ap (λ (s : S). state_from b (b.next s x) (front ++ back)) (sym (reached-next b o us f))
      ∙ ap (λ (s : S). state_from b s (front ++ back)) (h.swaps us f x)

  -- lists that are the same lead to one state
  pub state_from-Same : (us xs ys : List Rec) → Same xs ys → state_from b (reached b o us) xs ≡ state_from b (reached b o us) ys
  state_from-Same us [] ys s = ap (state_from b (reached b o us)) (sym (Same-nil ys s))
  state_from-Same us (x ∷ xs) ys s =
      let p : IsPicked x xs ys = Same-pick_record x xs ys s in
      ap (λ (t : S). state_from b t xs) (reached-next b o us x)
      ∙ state_from-Same (us ++ x ∷ []) xs (p.front ++ p.back) p.rest
      ∙ ap (λ (t : S). state_from b t (p.front ++ p.back)) (sym (reached-next b o us x))
      ∙ sym (state_from-middle us p.front x p.back)
      ∙ ap (state_from b (reached b o us)) (sym p.is)

  -- nothing is sent but at the end
  sent_from-last : (us xs : List Rec) → sent_from b (reached b o us) xs ≡ b.last (state_from b (reached b o us) xs)
  sent_from-last us [] = refl
  sent_from-last us (x ∷ xs) =
      ap (λ (e : Bool). b.sends (reached b o us) x ++ (if e then b.last (b.next (reached b o us) x) else sent_from b (b.next (reached b o us) x) xs)) (h.ends us x)
      ∙ ap (λ (front : List Rec). front ++ sent_from b (b.next (reached b o us) x) xs) (h.sends us x)
      ∙ ap (λ (s : S). sent_from b s xs) (reached-next b o us x)
      ∙ sent_from-last (us ++ x ∷ []) xs
      ∙ ap (λ (s : S). b.last (state_from b s xs)) (sym (reached-next b o us x))

  -- each record is rejected or not as in the opening state
  rejected_from-each : (us xs : List Rec) → rejected_from b (reached b o us) xs ≡ flat_map (b.rejects (b.opening o)) xs
  rejected_from-each us [] = h.last_rejects us
  rejected_from-each us (x ∷ xs) =
      ap (λ (e : Bool). b.rejects (reached b o us) x ++ (if e then b.last_rejects (b.next (reached b o us) x) else rejected_from b (b.next (reached b o us) x) xs)) (h.ends us x)
      ∙ ap₂ (λ (front : List Rec) (s : S). front ++ rejected_from b s xs) (h.rejects us x) (reached-next b o us x)
      ∙ ap (λ (back : List Rec). b.rejects (b.opening o) x ++ back) (rejected_from-each (us ++ x ∷ []) xs)

  -- such a node is a Fold
  pub IsFoldNode-steps : IsFoldNode b o
  IsFoldNode-steps = record {
    sends = h.sends;
    ends = h.ends;
    any_order = λ xs ys s. sent_from-last [] xs ∙ ap b.last (state_from-Same [] xs ys s) ∙ sym (sent_from-last [] ys);
    rejected_any_order = λ xs ys s. record {
      by = λ w. ap (weigh w) (rejected_from-each [] xs) ∙ (Same-flat_map (b.rejects (b.opening o)) s).by w ∙ sym (ap (weigh w) (rejected_from-each [] ys));
    };
  }
