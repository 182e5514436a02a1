-- What the parts of a pipe behind one part do with its answer, for what that part means: where the part is ordered the two are one list, and
-- else no part behind it asks for an order.
use Rattle.std.proofs.Common.{◌≡◌, ◌⊎◌, ℕ, Bool, true, false, not, ◌||◌, List, sym, subst, inl, inr}
use Rattle.std.proofs.lemmas.Bool.{false≢true}
use Rattle.ff_rec.specs.Lines.{Rec}
use Rattle.ff_rec.specs.Weights.{Same}
use Rattle.ff_rec.proofs.WeightLaws.{Same-refl, Same-≡, Same-sym, Same-trans}
use Rattle.ff_node.specs.Behaviour.{Behaviour}
use Rattle.ff_node.specs.OnLists.{UnorderedGoesByCounts}
use Rattle.ff_net.specs.Forms.{any_unordered}
use Rattle.ff_net.specs.Good.{SteadyParts}
use Rattle.ff_net.specs.Meaning.{mean_through, mean_rejected_through, FineThrough, SameInOrder}
use Rattle.ff_net.specs.Tree.{Trees}
use Rattle.ff_plan.proofs.FormLaws.{same_in_order}
use Rattle.ff_plan.proofs.MeanSame.{mean_through_steady, rejected_through_steady, fine_through_steady}

-- one list is in whatever order is asked for
pub in_order-≡ : (s : Bool) (xs ys : List Rec) → ys ≡ xs → SameInOrder s xs ys
in_order-≡ true xs ys is = is
in_order-≡ false xs ys is = Same-≡ xs ys (sym is)

-- a part that is unordered, or isn't, means `us` and answered `ys`: what the parts behind it do with the answer, they do for what it means
pub record Carry {N : Type 0} (b : Behaviour N) (m : ℕ) (unordered : Bool) (ts : Trees N) (us ys : List Rec) : Type 0 where
  pub answer : (zs : List Rec) → SameInOrder (not (any_unordered ts)) (mean_through b m ts ys) zs → SameInOrder (not (unordered || any_unordered ts)) (mean_through b m ts us) zs
  pub rejects : Same (mean_rejected_through b m ts us) (mean_rejected_through b m ts ys)
  pub fine : FineThrough b m ts ys → FineThrough b m ts us
  pub fine_back : FineThrough b m ts us → FineThrough b m ts ys

-- of one list
Carry-≡ : {N : Type 0} (b : Behaviour N) (m : ℕ) (ts : Trees N) (us ys : List Rec) → ys ≡ us → Carry b m false ts us ys
Carry-≡ b m ts us ys is = subst (λ (vs : List Rec). Carry b m false ts us vs) (sym is) record {
  answer = λ zs same. same;
  rejects = Same-refl (mean_rejected_through b m ts us);
  fine = λ fine. fine;
  fine_back = λ fine. fine;
}

-- of the same records
Carry-steady : {N : Type 0} (b : Behaviour N) (law : UnorderedGoesByCounts b) (m : ℕ) (ts : Trees N) (us ys : List Rec) → SteadyParts b ts → Same us ys
    → Carry b m true ts us ys
Carry-steady b law m ts us ys steady same = record {
  answer = λ zs order. Same-trans (mean_through_steady b law m ts steady us ys same) (same_in_order (not (any_unordered ts)) (mean_through b m ts ys) zs order);
  rejects = rejected_through_steady b law m ts steady us ys same;
  fine = fine_through_steady b law m ts steady ys us (Same-sym same);
  fine_back = fine_through_steady b law m ts steady us ys same;
}

-- the choice that a good pipe gives at each part
pub carry : {N : Type 0} (b : Behaviour N) (law : UnorderedGoesByCounts b) (m : ℕ) (unordered : Bool) (ts : Trees N) (us ys : List Rec)
    → (not unordered ≡ true) ⊎ SteadyParts b ts → SameInOrder (not unordered) us ys → Carry b m unordered ts us ys
carry b law m false ts us ys choice is = Carry-≡ b m ts us ys is
carry b law m true ts us ys (inl ordered) same = absurd (false≢true ordered)
carry b law m true ts us ys (inr steady) same = Carry-steady b law m ts us ys steady same
