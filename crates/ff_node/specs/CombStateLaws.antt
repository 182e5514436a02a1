-- A part of a comb in the states that records lead to, where it is Plain or a Fold.
use Rattle.std.specs.Prelude.{◌≡◌, Bool, true, false, if◌then◌else◌, List, [], ◌∷◌, ◌++◌, refl}
use Rattle.std.specs.List.{flat_map}
use Rattle.std.proofs.Common.{◌∙◌, sym, ap, ap₂, append_assoc, append-nil}
use Rattle.ff_rec.specs.Lines.{Rec}
use Rattle.ff_node.specs.Behaviour.{Behaviour}
use Rattle.ff_node.specs.Classes.{reached, IsPlainNode, IsFoldNode}
use Rattle.ff_node.specs.OnListsLaws.{reached-next}
use Rattle.ff_node.specs.Comb.{Part, part, given_from, given_rejected, part_from, part_sends, part_rejects, part_after, part_total, part_total_rejects}

-- it never ends by itself
pub record GoesOnAlways {S : Type 0} (b : Behaviour S) (o : S) : Type 0 where
  pub ends : (ys : List Rec) (x : Rec) → b.ends (reached b o ys) x ≡ false

-- one part in the states that records lead to
module _ {N : Type 0} (b : Behaviour N) (o : N) where
  part_from-on : GoesOnAlways b o → (ys us : List Rec) → part_from b (reached b o ys) us ≡ part (reached b o (ys ++ us)) false
  part_from-on h ys [] = ap (λ zs. part (reached b o zs) false) (sym (append-nil ys))
  part_from-on h ys (x ∷ us) =
      ap (λ (e : Bool). if e then part (b.opening (b.next (reached b o ys) x)) true else part_from b (b.next (reached b o ys) x) us) (h.ends ys x)
      ∙ ap (λ (s : N). part_from b s us) (reached-next b o ys x)
      ∙ part_from-on h (ys ++ x ∷ []) us
      ∙ ap (λ zs. part (reached b o zs) false) (append_assoc ys (x ∷ []) us)

  part_after-on : GoesOnAlways b o → (ys : List Rec) → part_from b (b.opening o) ys ≡ part (reached b o ys) false
  part_after-on h ys = part_from-on h [] ys

  pub part_after-ended : GoesOnAlways b o → (ys us : List Rec) → (part_after b (part_from b (b.opening o) ys) us).ended ≡ false
  part_after-ended h ys us = ap (λ (p : Part N). (part_after b p us).ended) (part_after-on h ys) ∙ ap (λ (p : Part N). p.ended) (part_from-on h ys us)

  -- a Plain part
  given_from-plain : IsPlainNode b o → (ys us : List Rec) → given_from b (reached b o ys) us ≡ flat_map (b.sends (b.opening o)) us
  given_from-plain h ys [] = refl
  given_from-plain h ys (x ∷ us) =
      ap (λ (e : Bool). b.sends (reached b o ys) x ++ (if e then b.last (b.next (reached b o ys) x) else given_from b (b.next (reached b o ys) x) us)) (h.ends ys x)
      ∙ ap₂ (λ (front : List Rec) (s : N). front ++ given_from b s us) (h.sends ys x) (reached-next b o ys x)
      ∙ ap (λ (back : List Rec). b.sends (b.opening o) x ++ back) (given_from-plain h (ys ++ x ∷ []) us)

  given_rejected-plain : IsPlainNode b o → (ys us : List Rec) → given_rejected b (reached b o ys) us ≡ flat_map (b.rejects (b.opening o)) us
  given_rejected-plain h ys [] = refl
  given_rejected-plain h ys (x ∷ us) =
      ap (λ (e : Bool). b.rejects (reached b o ys) x ++ (if e then b.last_rejects (b.next (reached b o ys) x) else given_rejected b (b.next (reached b o ys) x) us)) (h.ends ys x)
      ∙ ap₂ (λ (front : List Rec) (s : N). front ++ given_rejected b s us) (h.rejects ys x) (reached-next b o ys x)
      ∙ ap (λ (back : List Rec). b.rejects (b.opening o) x ++ back) (given_rejected-plain h (ys ++ x ∷ []) us)

  pub on-plain : IsPlainNode b o → GoesOnAlways b o
  on-plain h = record { ends = h.ends }

  pub part_sends-plain : IsPlainNode b o → (ys us : List Rec) → part_sends b (part_from b (b.opening o) ys) us ≡ given_from b (b.opening o) us
  part_sends-plain h ys us =
      ap (λ (p : Part N). part_sends b p us) (part_after-on (on-plain h) ys) ∙ given_from-plain h ys us ∙ sym (given_from-plain h [] us)

  pub part_rejects-plain : IsPlainNode b o → (ys us : List Rec) → part_rejects b (part_from b (b.opening o) ys) us ≡ given_rejected b (b.opening o) us
  part_rejects-plain h ys us =
      ap (λ (p : Part N). part_rejects b p us) (part_after-on (on-plain h) ys) ∙ given_rejected-plain h ys us ∙ sym (given_rejected-plain h [] us)

  pub part_total-plain : IsPlainNode b o → (ys : List Rec) → part_total b (part_from b (b.opening o) ys) [] ≡ []
  part_total-plain h ys = ap (λ (p : Part N). part_total b p []) (part_after-on (on-plain h) ys) ∙ h.last ys

  pub part_total_rejects-plain : IsPlainNode b o → (ys : List Rec) → part_total_rejects b (part_from b (b.opening o) ys) [] ≡ []
  part_total_rejects-plain h ys = ap (λ (p : Part N). part_total_rejects b p []) (part_after-on (on-plain h) ys) ∙ h.last_rejects ys

  -- a part that is a Fold
  given_from-fold : IsFoldNode b o → (ys us : List Rec) → given_from b (reached b o ys) us ≡ []
  given_from-fold h ys [] = refl
  given_from-fold h ys (x ∷ us) =
      ap (λ (e : Bool). b.sends (reached b o ys) x ++ (if e then b.last (b.next (reached b o ys) x) else given_from b (b.next (reached b o ys) x) us)) (h.ends ys x)
      ∙ ap₂ (λ (front : List Rec) (s : N). front ++ given_from b s us) (h.sends ys x) (reached-next b o ys x)
      ∙ given_from-fold h (ys ++ x ∷ []) us

  pub on-fold : IsFoldNode b o → GoesOnAlways b o
  on-fold h = record { ends = h.ends }

  pub part_sends-fold : IsFoldNode b o → (ys us : List Rec) → part_sends b (part_from b (b.opening o) ys) us ≡ []
  part_sends-fold h ys us = ap (λ (p : Part N). part_sends b p us) (part_after-on (on-fold h) ys) ∙ given_from-fold h ys us
