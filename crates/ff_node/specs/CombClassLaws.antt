-- The law of a comb's class, from the laws of its parts.
use Rattle.std.specs.Prelude.{◌≡◌, ℕ, List, [], ◌∷◌, refl}
use Rattle.std.specs.List.{AllByRecursion}
use Rattle.std.proofs.Common.{sym, subst, inl, inr}
use Rattle.ff_node.specs.declared.class.Class.{Class}
use Rattle.ff_node.specs.declared.class.Class.TheVariants.{Plain, Ordered, Fold, Keyed}
use Rattle.ff_node.specs.Behaviour.{Behaviour}
use Rattle.ff_node.specs.Classes.{IsFoldNode, IsKeyedNode, ClassLaw}
use Rattle.ff_node.specs.OnLists.{GoesByCounts}
use Rattle.ff_node.specs.OnListsLaws.{plain-law, keyed-law, GoesByCounts-plain, GoesByCounts-fold}
use Rattle.ff_node.specs.Comb.{Part, joint_class, part_classes, comb_node}
use Rattle.ff_node.specs.CombFoldLaws.{ArePlain, HasFold, GoByCounts, IsPlainNode-comb, IsFoldNode-comb, IsKeyedNode-comb}
use Rattle.ff_node.specs.JointClassLaws.{IsUnordered, IsFolding, HasFolding, joined_class-plain, joined_class-unordered, joined_class-folding, joined_class-keyed}

module _ {N : Type 0} (b : Behaviour N) (law : (o : N) → ClassLaw b o (b.class o)) where
  counts-law : (o : N) → IsUnordered (b.class o) → GoesByCounts b o
  counts-law o h = by (b.class o) (law o) h
    where
      by : (c : Class) → ClassLaw b o c → IsUnordered c → GoesByCounts b o
      by Plain l u = GoesByCounts-plain b o l
      by Ordered l u = absurd u
      by Fold l u = GoesByCounts-fold b o l
      by (Keyed f) l u = GoesByCounts-fold b o l.fold

  folding-law : (o : N) → IsFolding (b.class o) → IsFoldNode b o
  folding-law o h = by (b.class o) (law o) h
    where
      by : (c : Class) → ClassLaw b o c → IsFolding c → IsFoldNode b o
      by Plain l u = absurd u
      by Ordered l u = absurd u
      by Fold l u = l
      by (Keyed f) l u = l.fold

  are_plain : (ps : List (Part N)) → AllByRecursion (λ d. d ≡ Plain) (part_classes b ps) → ArePlain b ps
  are_plain [] h = tt
  are_plain (p ∷ ps) h = (plain-law b law p.node h.0, are_plain ps h.1)

  go_by_counts : (ps : List (Part N)) → AllByRecursion IsUnordered (part_classes b ps) → GoByCounts b ps
  go_by_counts [] h = tt
  go_by_counts (p ∷ ps) h = (counts-law p.node h.0, go_by_counts ps h.1)

  has_fold : (ps : List (Part N)) → HasFolding (part_classes b ps) → HasFold b ps
  has_fold [] h = h
  has_fold (p ∷ ps) h = elim h [
    | inl here ↦ inl (folding-law p.node here)
    | inr later ↦ inr (plain-law b law p.node later.0, has_fold ps later.1)
  ]

  keyed_one : (p : Part N) (ps : List (Part N)) (f : ℕ) → joint_class (part_classes b (p ∷ ps)) ≡ Keyed f → IsKeyedNode (comb_node b) f (p ∷ ps)
  keyed_one p [] f is = IsKeyedNode-comb b p f (keyed-law b law p.node f is)
  keyed_one p (q ∷ qs) f is = absurd (joined_class-keyed (b.class p.node) (b.class q.node) (part_classes b qs) f is)

  pub comb_class_law : (ps : List (Part N)) → ClassLaw (comb_node b) ps (joint_class (part_classes b ps))
  comb_class_law [] = IsPlainNode-comb b [] tt
  comb_class_law (p ∷ ps) = by (joint_class (part_classes b (p ∷ ps))) refl
    where
      by : (c : Class) → joint_class (part_classes b (p ∷ ps)) ≡ c → ClassLaw (comb_node b) (p ∷ ps) c
      by Plain is = IsPlainNode-comb b (p ∷ ps) (are_plain (p ∷ ps) (joined_class-plain (b.class p.node) (part_classes b ps) is))
      by Ordered is = tt
      by Fold is =
          let open_class : IsUnordered (joint_class (part_classes b (p ∷ ps))) = subst IsUnordered (sym is) tt in
          let folding : IsFolding (joint_class (part_classes b (p ∷ ps))) = subst IsFolding (sym is) tt in
          IsFoldNode-comb b (p ∷ ps) (has_fold (p ∷ ps) (joined_class-folding (b.class p.node) (part_classes b ps) folding))
          (go_by_counts (p ∷ ps) (joined_class-unordered (b.class p.node) (part_classes b ps) open_class))
      by (Keyed f) is = keyed_one p ps f is
