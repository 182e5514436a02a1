-- A node that goes by keys, on several places to which the records come by their key: together they do what one does for all records.
use Rattle.std.proofs.Common.{◌≡◌, ℕ, zero, suc, ◌<◌, ◌≤◌, ◌==◌, ltb, Bool, not, ◌&&◌, List, [], ◌++◌, filter, Option, sym, ap, ◌∙◌, arith}
use Rattle.std.proofs.lemmas.Bool.{lt-ltb}
use Rattle.std.proofs.lemmas.List.Elements.{filter_agree}
use Rattle.ff_rec.specs.Fields.{field_at}
use Rattle.ff_rec.specs.Lines.{Rec}
use Rattle.ff_rec.specs.Weights.{weigh, Same}
use Rattle.ff_rec.proofs.WeightLaws.{weigh-append}
use Rattle.ff_node.specs.Behaviour.{Behaviour, node, node_rejected}
use Rattle.ff_node.specs.OnLists.{GoesByKeys, GoesByCounts, kept_by, left_by}
use Rattle.ff_node.specs.Picks.{share, by_key, place_of}
use Rattle.ff_plan.proofs.Filters.{filter-filter, filter-all, filter-none, up_to-is, up_to-other, ltb-zero}
use Rattle.ff_plan.proofs.Shares.{place_of-lt, share-by_key}
use Rattle.ff_plan.proofs.Totals.{total, total-same}

-- what is made of records is made of those that a test of field `f` keeps, and of the others
pub record IsMadeByKeys (f : ℕ) (made : List Rec → List Rec) : Type 0 where
  pub parts : (test : Option (List ℕ) → Bool) (xs : List Rec) → Same (made xs) (made (kept_by f test xs) ++ made (left_by f test xs))
  pub nothing : made [] ≡ []

module _ (f : ℕ) (made : List Rec → List Rec) (law : IsMadeByKeys f made) (n : ℕ) (xs : List Rec) where
  -- the records of place j, and those of the places below k
  abbrev at_place : ℕ → List Rec
  at_place j = filter (λ x. place_of (field_at f x) n == j) xs

  abbrev below : ℕ → List Rec
  below k = filter (λ x. ltb (place_of (field_at f x) n) k) xs

  kept_by-below : (k : ℕ) → kept_by f (λ o. place_of o n == k) (below (suc k)) ≡ at_place k
  kept_by-below k =
      filter-filter (λ x. place_of (field_at f x) n == k) (λ x. ltb (place_of (field_at f x) n) (suc k)) xs
      ∙ filter_agree (λ x. ltb (place_of (field_at f x) n) (suc k) && (place_of (field_at f x) n == k)) (λ x. place_of (field_at f x) n == k)
      (λ x. up_to-is (place_of (field_at f x) n) k) xs

  left_by-below : (k : ℕ) → left_by f (λ o. place_of o n == k) (below (suc k)) ≡ below k
  left_by-below k =
      filter-filter (λ x. not (place_of (field_at f x) n == k)) (λ x. ltb (place_of (field_at f x) n) (suc k)) xs
      ∙ filter_agree (λ x. ltb (place_of (field_at f x) n) (suc k) && not (place_of (field_at f x) n == k)) (λ x. ltb (place_of (field_at f x) n) k)
      (λ x. up_to-other (place_of (field_at f x) n) k) xs

  -- what is made at the places below k is made of their records
  weigh-below : (h : Rec → ℕ) (k : ℕ) → total k (λ j. weigh h (made (at_place j))) ≡ weigh h (made (below k))
  weigh-below h zero = sym (ap (λ ys. weigh h (made ys)) (filter-none (λ x. ltb (place_of (field_at f x) n) 0) xs (λ x. ltb-zero (place_of (field_at f x) n))) ∙ ap (weigh h) law.nothing)
  weigh-below h (suc k) = omega (
    arith,
    weigh-below h k,
    (law.parts (λ o. place_of o n == k) (below (suc k))).by h,
    weigh-append h (made (kept_by f (λ o. place_of o n == k) (below (suc k)))) (made (left_by f (λ o. place_of o n == k) (below (suc k)))),
    ap (λ ys. weigh h (made ys)) (kept_by-below k),
    ap (λ ys. weigh h (made ys)) (left_by-below k),
  )

  -- what is made at all places weighs what is made of all records
  pub total-weigh-places : 1 ≤ n → (h : Rec → ℕ) → total n (λ j. weigh h (made (at_place j))) ≡ weigh h (made xs)
  total-weigh-places some h =
      weigh-below h n
      ∙ ap (λ ys. weigh h (made ys)) (filter-all (λ x. ltb (place_of (field_at f x) n) n) xs (λ x. lt-ltb (place_of (field_at f x) n) n (place_of-lt (field_at f x) n some)))

  -- the same of lists with the records of each place in another order
  pub total-weigh-keyed : ((us vs : List Rec) → Same us vs → Same (made us) (made vs)) → 1 ≤ n → (zs : ℕ → List Rec)
      → ((j : ℕ) → j < n → Same (zs j) (filter (λ x. place_of (field_at f x) n == j) xs)) → (h : Rec → ℕ) → total n (λ j. weigh h (made (zs j))) ≡ weigh h (made xs)
  total-weigh-keyed counts some zs places h =
      total-same n (λ j. weigh h (made (zs j))) (λ j. weigh h (made (at_place j))) (λ j low. (counts (zs j) (at_place j) (places j low)).by h)
      ∙ total-weigh-places some h

module _ {S : Type 0} (b : Behaviour S) (f : ℕ) (o : S) (law : GoesByKeys b f o) where
  sends_by_keys : IsMadeByKeys f (node b o)
  sends_by_keys = record { parts = law.sends; nothing = law.sends_nothing }

  rejects_by_keys : IsMadeByKeys f (node_rejected b o)
  rejects_by_keys = record { parts = law.rejects; nothing = law.rejects_nothing }

  -- one list, dealt by key
  pub total-node-by_key : (n : ℕ) (xs : List Rec) → 1 ≤ n → (h : Rec → ℕ) → total n (λ j. weigh h (node b o (share (by_key f n xs) xs j))) ≡ weigh h (node b o xs)
  total-node-by_key n xs some h =
      total-same n (λ j. weigh h (node b o (share (by_key f n xs) xs j))) (λ j. weigh h (node b o (filter (λ x. place_of (field_at f x) n == j) xs)))
      (λ j low. ap (λ ys. weigh h (node b o ys)) (share-by_key f n xs j))
      ∙ total-weigh-places f (node b o) sends_by_keys n xs some h

  pub total-node_rejected-by_key : (n : ℕ) (xs : List Rec) → 1 ≤ n → (h : Rec → ℕ)
      → total n (λ j. weigh h (node_rejected b o (share (by_key f n xs) xs j))) ≡ weigh h (node_rejected b o xs)
  total-node_rejected-by_key n xs some h =
      total-same n (λ j. weigh h (node_rejected b o (share (by_key f n xs) xs j))) (λ j. weigh h (node_rejected b o (filter (λ x. place_of (field_at f x) n == j) xs)))
      (λ j low. ap (λ ys. weigh h (node_rejected b o ys)) (share-by_key f n xs j))
      ∙ total-weigh-places f (node_rejected b o) rejects_by_keys n xs some h

  -- lists with the records of each place, in whatever order
  pub keyed_places : GoesByCounts b o → (n : ℕ) (xs : List Rec) → 1 ≤ n → (zs : ℕ → List Rec)
      → ((j : ℕ) → j < n → Same (zs j) (filter (λ x. place_of (field_at f x) n == j) xs)) → (h : Rec → ℕ)
      → (total n (λ j. weigh h (node b o (zs j))) ≡ weigh h (node b o xs)) × (total n (λ j. weigh h (node_rejected b o (zs j))) ≡ weigh h (node_rejected b o xs))
  keyed_places counts n xs some zs places h = (
    total-weigh-keyed f (node b o) sends_by_keys n xs (λ us vs same. (counts us vs same).0) some zs places h,
    total-weigh-keyed f (node_rejected b o) rejects_by_keys n xs (λ us vs same. (counts us vs same).1) some zs places h,
  )
