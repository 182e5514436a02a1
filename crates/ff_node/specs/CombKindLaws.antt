-- What a comb is is fixed when it is made.
use Rattle.std.specs.Prelude.{◌≡◌, Bool, true, false, if◌then◌else◌, List, [], ◌∷◌, map, refl}
use Rattle.std.proofs.Common.{◌∙◌, ap, ap₂}
use Rattle.ff_rec.specs.Lines.{Rec}
use Rattle.ff_node.specs.Behaviour.{Behaviour, KeepsKind}
use Rattle.ff_node.specs.Comb.{Part, part, part_from, part_sends, part_after, through_after, opened, part_classes, joint_class, comb_node}

module _ {N : Type 0} (b : Behaviour N) (kind : KeepsKind b) where
  part_from-opened : (s : N) (us : List Rec) → opened b (part_from b s us) ≡ part (b.opening s) false
  part_from-opened s [] = refl
  part_from-opened s (x ∷ xs) = by (b.ends s x) (part_from-opened (b.next s x) xs)
    where
      by : (e : Bool) → opened b (part_from b (b.next s x) xs) ≡ part (b.opening (b.next s x)) false
          → opened b (if e then part (b.opening (b.next s x)) true else part_from b (b.next s x) xs) ≡ part (b.opening s) false
      by true rest = ap (λ n. part n false) (kind.opening_of_opening (b.next s x) ∙ kind.opening_of_next s x)
      by false rest = rest ∙ ap (λ n. part n false) (kind.opening_of_next s x)

  part_after-opened : (p : Part N) (us : List Rec) → opened b (part_after b p us) ≡ opened b p
  part_after-opened p us = by p.ended
    where
      by : (e : Bool) → opened b (if e then p else part_from b p.node us) ≡ opened b p
      by true = refl
      by false = part_from-opened p.node us

  through_after-opened : (ps : List (Part N)) (us : List Rec) → map (opened b) (through_after b ps us) ≡ map (opened b) ps
  through_after-opened [] us = refl
  through_after-opened (p ∷ ps) us = ap₂ (λ q qs. q ∷ qs) (part_after-opened p us) (through_after-opened ps (part_sends b p us))

  opened-opened : (ps : List (Part N)) → map (opened b) (map (opened b) ps) ≡ map (opened b) ps
  opened-opened [] = refl
  opened-opened (p ∷ ps) = ap₂ (λ n qs. part n false ∷ qs) (kind.opening_of_opening p.node) (opened-opened ps)

  classes-opened : (ps : List (Part N)) → part_classes b (map (opened b) ps) ≡ part_classes b ps
  classes-opened [] = refl
  classes-opened (p ∷ ps) = ap₂ (λ c cs. c ∷ cs) (kind.class_of_opening p.node) (classes-opened ps)

  pub comb_keeps_kind : KeepsKind (comb_node b)
  comb_keeps_kind = record {
    opening_of_opening = opened-opened;
    opening_of_next = λ ps x. through_after-opened ps (x ∷ []);
    class_of_opening = λ ps. ap joint_class (classes-opened ps);
  }
