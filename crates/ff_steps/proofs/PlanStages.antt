-- The units of the plan of a network without copies: a stage for each leaf and each comb.
use Rattle.std.proofs.Common.{◌≡◌, ℕ, suc, ◌+◌, ◌-◌, ◌≤◌, false, List, [], ◌∷◌, ◌++◌, refl, sym, subst, append-nil, arith}
use Rattle.std.specs.List.{AllByRecursion}
use Rattle.std.proofs.lemmas.Bool.{true≢false}
use Rattle.ff_node.specs.Behaviour.{Behaviour}
use Rattle.ff_net.proofs.Kept.{or-false}
use Rattle.ff_net.specs.Counts.{count, inner_edges}
use Rattle.ff_net.specs.Forms.{has_copies, any_copies}
use Rattle.ff_net.specs.Good.{Good, GoodParts}
use Rattle.ff_net.specs.Nodes.{nodes_in, node_groups, groups_through}
use Rattle.ff_net.specs.Places.{child}
use Rattle.ff_net.specs.Tree.{Tree, Trees, Leaf, Pipe, Comb, Farm, OFarm, A2a, Wrap, none, more}
use Rattle.ff_plan.specs.declared.kind.UnitKind.TheVariants.{Stage}
use Rattle.ff_plan.specs.Laying.{lay, lay_parts}
use Rattle.ff_plan.specs.Rows.{Laid, laid}

-- a unit is the stage of these nodes, with one in and one out
pub record IsStageOf {N : Type 0} (l : Laid N) (nodes : List N) : Type 0 where
  pub from : ℕ
  pub to : ℕ
  pub is : l ≡ laid Stage (from ∷ []) (to ∷ []) l.row.place l.net
  pub nodes_are : nodes_in l.net ≡ nodes

-- each unit is the stage of one of these groups of nodes
abbrev pub AreStages : {N : Type 0} → List (Laid N) → List (List N) → Type 0
AreStages [] [] = Unit {0}
AreStages [] (g ∷ groups) = ⊥
AreStages (l ∷ ls) [] = ⊥
AreStages (l ∷ ls) (g ∷ groups) = IsStageOf l g × AreStages ls groups

-- what is so of each edge that one of these units reads
abbrev pub OnIns : {N : Type 0} → (ℕ → Type 0) → List (Laid N) → Type 0
OnIns P [] = Unit {0}
OnIns P (l ∷ ls) = AllByRecursion P l.row.ins × OnIns P ls

module _ {N : Type 0} where
  AreStages-append : (ls ks : List (Laid N)) (gs hs : List (List N)) → AreStages ls gs → AreStages ks hs → AreStages (ls ++ ks) (gs ++ hs)
  AreStages-append [] ks [] hs left right = right
  AreStages-append [] ks (g ∷ gs) hs left right = absurd left
  AreStages-append (l ∷ ls) ks [] hs left right = absurd left
  AreStages-append (l ∷ ls) ks (g ∷ gs) hs left right = (left.0, AreStages-append ls ks gs hs left.1 right)

  OnIns-front : (P : ℕ → Type 0) (ls ks : List (Laid N)) → OnIns P (ls ++ ks) → OnIns P ls
  OnIns-front P [] ks on = tt
  OnIns-front P (l ∷ ls) ks on = (on.0, OnIns-front P ls ks on.1)

  mutual
    pub AreStages-lay : (at : List ℕ) (t : Tree N) (i o e : ℕ) → has_copies t ≡ false → AreStages (lay at t i o e) (node_groups t)
    AreStages-lay at (Leaf n) i o e whole = (record { from = i; to = o; is = refl; nodes_are = refl }, tt)
    AreStages-lay at (Pipe ts) i o e whole = AreStages-parts at 1 ts i o e (e + (count ts - 1)) whole
    AreStages-lay at (Comb ts) i o e whole = (record { from = i; to = o; is = refl; nodes_are = refl }, tt)
    AreStages-lay at (Farm n s w) i o e whole = absurd (true≢false whole)
    AreStages-lay at (OFarm n s w) i o e whole = absurd (true≢false whole)
    AreStages-lay at (A2a n l r m t) i o e whole = absurd (true≢false whole)
    AreStages-lay at (Wrap n w p) i o e whole = absurd (true≢false whole)

    AreStages-parts : (at : List ℕ) (k : ℕ) (ts : Trees N) (i o j e : ℕ) → any_copies ts ≡ false → AreStages (lay_parts at k ts i o j e) (groups_through ts)
    AreStages-parts at k none i o j e whole = tt
    AreStages-parts at k (more t none) i o j e whole =
        let both = or-false (has_copies t) false whole in
        subst (λ groups. AreStages (lay (child at k) t i o e) groups) (sym (append-nil (node_groups t))) (AreStages-lay (child at k) t i o e both.0)
    AreStages-parts at k (more t (more u us)) i o j e whole =
        let both = or-false (has_copies t) (any_copies (more u us)) whole in
        AreStages-append (lay (child at k) t i j e) (lay_parts at (k + 1) (more u us) j o (suc j) (e + inner_edges t)) (node_groups t) (groups_through (more u us))
        (AreStages-lay (child at k) t i j e both.0) (AreStages-parts at (k + 1) (more u us) j o (suc j) (e + inner_edges t) both.1)

  module _ (b : Behaviour N) where
    mutual
      -- one of them reads the edge that the network reads
      pub OnIns-lay : (P : ℕ → Type 0) (at : List ℕ) (t : Tree N) (i o e : ℕ) → has_copies t ≡ false → Good b t → OnIns P (lay at t i o e) → P i
      OnIns-lay P at (Leaf n) i o e whole good on = on.0.0
      OnIns-lay P at (Pipe ts) i o e whole good on = OnIns-parts P at 1 ts i o e (e + (count ts - 1)) whole good.0.0 good.1 on
      OnIns-lay P at (Comb ts) i o e whole good on = on.0.0
      OnIns-lay P at (Farm n s w) i o e whole good on = absurd (true≢false whole)
      OnIns-lay P at (OFarm n s w) i o e whole good on = absurd (true≢false whole)
      OnIns-lay P at (A2a n l r m t) i o e whole good on = absurd (true≢false whole)
      OnIns-lay P at (Wrap n w p) i o e whole good on = absurd (true≢false whole)

      OnIns-parts : (P : ℕ → Type 0) (at : List ℕ) (k : ℕ) (ts : Trees N) (i o j e : ℕ) → any_copies ts ≡ false → 1 ≤ count ts → GoodParts b ts → OnIns P (lay_parts at k ts i o j e) → P i
      OnIns-parts P at k none i o j e whole some good on = absurd (omega (arith, some))
      OnIns-parts P at k (more t none) i o j e whole some good on =
          let both = or-false (has_copies t) false whole in OnIns-lay P (child at k) t i o e both.0 good.0 on
      OnIns-parts P at k (more t (more u us)) i o j e whole some good on =
          let both = or-false (has_copies t) (any_copies (more u us)) whole in
          OnIns-lay P (child at k) t i j e both.0 good.0
          (OnIns-front P (lay (child at k) t i j e) (lay_parts at (k + 1) (more u us) j o (suc j) (e + inner_edges t)) on)
