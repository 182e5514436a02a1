-- Several lists that are each dealt to the same places, and what comes together at each place.
use Rattle.std.proofs.Common.{◌≡◌, ℕ, ◌<◌, ◌==◌, Bool, cond, List, filter, sym, ap, ◌∙◌}
use Rattle.ff_rec.specs.Fields.{field_at}
use Rattle.ff_rec.specs.Lines.{Rec}
use Rattle.ff_rec.specs.Weights.{weigh, Same}
use Rattle.ff_rec.proofs.WeightLaws.{weigh-filter}
use Rattle.ff_node.specs.Picks.{ArePicks, share, by_key, place_of}
use Rattle.ff_plan.proofs.Totals.{total, total-same, total-total}
use Rattle.ff_plan.proofs.Shares.{total-weigh-share, share-by_key}

-- `n` lists are dealt by the picks of each to `m` places; place j holds their shares for it, merged by its own picks
pub record AreColumns {A : Type 0} (n m : ℕ) (rows : ℕ → List A) (deals : ℕ → List ℕ) (columns : ℕ → List A) (merges : ℕ → List ℕ) : Type 0 where
  pub dealt : (k : ℕ) → k < n → ArePicks m (deals k) (rows k)
  pub merged : (j : ℕ) → j < m → ArePicks n (merges j) (columns j)
  pub shares : (j k : ℕ) → j < m → k < n → Same (share (merges j) (columns j) k) (share (deals k) (rows k) j)

module _ {A : Type 0} {n m : ℕ} {rows : ℕ → List A} {deals : ℕ → List ℕ} {columns : ℕ → List A} {merges : ℕ → List ℕ} (are : AreColumns n m rows deals columns merges) where
  -- what one place holds weighs what the lists' shares for it do
  pub weigh-column : (h : A → ℕ) (j : ℕ) → j < m → weigh h (columns j) ≡ total n (λ k. weigh h (share (deals k) (rows k) j))
  weigh-column h j below =
      sym (total-weigh-share (are.merged j below) h)
      ∙ total-same n (λ k. weigh h (share (merges j) (columns j) k)) (λ k. weigh h (share (deals k) (rows k) j)) (λ k low. (are.shares j k below low).by h)

  -- what all places hold weighs what the lists do
  pub total-weigh-columns : (h : A → ℕ) → total m (λ j. weigh h (columns j)) ≡ total n (λ k. weigh h (rows k))
  total-weigh-columns h =
      total-same m (λ j. weigh h (columns j)) (λ j. total n (λ k. weigh h (share (deals k) (rows k) j))) (λ j below. weigh-column h j below)
      ∙ total-total m n (λ j k. weigh h (share (deals k) (rows k) j))
      ∙ total-same n (λ k. total m (λ j. weigh h (share (deals k) (rows k) j))) (λ k. weigh h (rows k)) (λ k low. total-weigh-share (are.dealt k low) h)

-- lists that are dealt by key: place j holds the records whose key has it
pub Same-column-by_key : {n m : ℕ} {rows : ℕ → List Rec} {columns : ℕ → List Rec} {merges : ℕ → List ℕ} (f : ℕ) (xs : List Rec)
    → AreColumns n m rows (λ k. by_key f m (rows k)) columns merges → ((h : Rec → ℕ) → total n (λ k. weigh h (rows k)) ≡ weigh h xs)
    → (j : ℕ) → j < m → Same (columns j) (filter (λ x. place_of (field_at f x) m == j) xs)
Same-column-by_key {n} {m} {rows} {columns} {merges} f xs are together j below = record { by = weights }
  where
    weights : (h : Rec → ℕ) → weigh h (columns j) ≡ weigh h (filter (λ x. place_of (field_at f x) m == j) xs)
    weights h =
        let test : Rec → Bool = λ x. place_of (field_at f x) m == j in
        weigh-column are h j below
        ∙ total-same n (λ k. weigh h (share (by_key f m (rows k)) (rows k) j)) (λ k. weigh (λ x. cond (test x) (h x) 0) (rows k))
        (λ k low. ap (weigh h) (share-by_key f m (rows k) j) ∙ weigh-filter h test (rows k))
        ∙ together (λ x. cond (test x) (h x) 0)
        ∙ sym (weigh-filter h test xs)
