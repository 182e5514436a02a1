-- Networks of Plain nodes without a wrap: what they send and reject for a list is what they do for each of its records.
use Rattle.std.proofs.Common.{◌≡◌, ℕ, false, List, [], ◌∷◌, ◌++◌, refl, sym, ap, ◌∙◌, arith}
use Rattle.std.proofs.lemmas.Bool.{true≢false, or_parts}
use Rattle.std.proofs.lemmas.Grind.{flat_map-append}
use Rattle.std.specs.List.{flat_map}
use Rattle.ff_rec.specs.Lines.{Rec}
use Rattle.ff_rec.specs.Weights.{Same}
use Rattle.ff_rec.proofs.WeightLaws.{Same-≡, Same-trans, Same-refl, Same-append, weigh-append}
use Rattle.ff_node.specs.Behaviour.{Behaviour}
use Rattle.ff_node.specs.OnLists.{PlainGoesByRecords}
use Rattle.ff_net.specs.Forms.{has_wrap, any_wrap}
use Rattle.ff_net.specs.Good.{ArePlain, EachPlain}
use Rattle.ff_net.specs.Meaning.{mean, mean_through, mean_rejected, mean_rejected_through, Fine, FineThrough}
use Rattle.ff_net.specs.Tree.{Tree, Trees, Leaf, Pipe, Comb, Farm, OFarm, A2a, Wrap, none, more}
use Rattle.ff_plan.proofs.Shares.{Additive}

-- each element alone
flat_map-one : {A : Type 0} (xs : List A) → flat_map (λ x. x ∷ []) xs ≡ xs
flat_map-one [] = refl
flat_map-one (x ∷ xs) = ap (λ ys. x ∷ ys) (flat_map-one xs)

-- nothing for each
flat_map-none : {A B : Type 0} (xs : List A) → flat_map {A = B} (λ x. []) xs ≡ []
flat_map-none [] = refl
flat_map-none (x ∷ xs) = flat_map-none xs

-- two functions one behind the other
pub flat_map-flat_map : {A B C : Type 0} (g : B → List C) (f : A → List B) (xs : List A) → flat_map g (flat_map f xs) ≡ flat_map (λ x. flat_map g (f x)) xs
flat_map-flat_map g f [] = refl
flat_map-flat_map g f (x ∷ xs) = flat_map-append g (f x) (flat_map f xs) ∙ ap (λ ys. flat_map g (f x) ++ ys) (flat_map-flat_map g f xs)

-- two functions beside each other, but for the order
Same-flat_map-both : {A B : Type 0} (f g : A → List B) (xs : List A) → Same (flat_map f xs ++ flat_map g xs) (flat_map (λ x. f x ++ g x) xs)
Same-flat_map-both f g [] = Same-refl []
Same-flat_map-both f g (x ∷ xs) = record {
  by = λ h. omega (
    arith,
    weigh-append h (f x ++ flat_map f xs) (g x ++ flat_map g xs),
    weigh-append h (f x) (flat_map f xs),
    weigh-append h (g x) (flat_map g xs),
    weigh-append h (f x ++ g x) (flat_map (λ y. f y ++ g y) xs),
    weigh-append h (f x) (g x),
    weigh-append h (flat_map f xs) (flat_map g xs),
    (Same-flat_map-both f g xs).by h,
  );
}

-- without a wrap no limit is passed
module _ {N : Type 0} (b : Behaviour N) (m : ℕ) where
  mutual
    pub no_wrap_fine : (t : Tree N) → has_wrap t ≡ false → (xs : List Rec) → Fine b m t xs
    no_wrap_fine (Leaf o) free xs = tt
    no_wrap_fine (Pipe ts) free xs = no_wrap_fine_through ts free xs
    no_wrap_fine (Comb ts) free xs = no_wrap_fine_through ts free xs
    no_wrap_fine (Farm n s w) free xs = no_wrap_fine w free xs
    no_wrap_fine (OFarm n s w) free xs = no_wrap_fine w free xs
    no_wrap_fine (A2a n l r k t) free xs =
        let parts = or_parts (has_wrap l) (has_wrap t) free in
        (no_wrap_fine l parts.0 xs, no_wrap_fine t parts.1 (mean b m l xs))
    no_wrap_fine (Wrap n w p) free xs = absurd (true≢false free)

    pub no_wrap_fine_through : (ts : Trees N) → any_wrap ts ≡ false → (xs : List Rec) → FineThrough b m ts xs
    no_wrap_fine_through none free xs = tt
    no_wrap_fine_through (more t ts) free xs =
        let parts = or_parts (has_wrap t) (any_wrap ts) free in
        (no_wrap_fine t parts.0 xs, no_wrap_fine_through ts parts.1 (mean b m t xs))

  pub plain_fine : (t : Tree N) → ArePlain b t → has_wrap t ≡ false → (xs : List Rec) → Fine b m t xs
  plain_fine t plain free xs = no_wrap_fine t free xs

-- what is sent for a list is what is sent for each record, and the rejects are, but for the order, those of each record
pub record GoesByEach (send reject : List Rec → List Rec) : Type 0 where
  pub sent : Rec → List Rec
  pub sends : (xs : List Rec) → send xs ≡ flat_map sent xs
  pub rejected : Rec → List Rec
  pub rejects : (xs : List Rec) → Same (reject xs) (flat_map rejected xs)

-- one behind the other
GoesByEach-then : (send reject send' reject' : List Rec → List Rec) → GoesByEach send reject → GoesByEach send' reject'
    → GoesByEach (λ xs. send' (send xs)) (λ xs. reject xs ++ reject' (send xs))
GoesByEach-then send reject send' reject' first second = record {
  sent = λ x. flat_map second.sent (first.sent x);
  sends = λ xs. second.sends (send xs) ∙ ap (flat_map second.sent) (first.sends xs) ∙ flat_map-flat_map second.sent first.sent xs;
  rejected = λ x. first.rejected x ++ flat_map second.rejected (first.sent x);
  rejects = λ xs.
      let later : Same (reject' (send xs)) (flat_map (λ x. flat_map second.rejected (first.sent x)) xs) =
      Same-trans (second.rejects (send xs)) (Same-≡ (flat_map second.rejected (send xs)) (flat_map (λ x. flat_map second.rejected (first.sent x)) xs)
      (ap (flat_map second.rejected) (first.sends xs) ∙ flat_map-flat_map second.rejected first.sent xs)) in
      Same-trans (Same-append (first.rejects xs) later) (Same-flat_map-both first.rejected (λ x. flat_map second.rejected (first.sent x)) xs);
}

module _ {N : Type 0} (b : Behaviour N) (law : PlainGoesByRecords b) (m : ℕ) where
  mutual
    pub plain_goes_by_each : (t : Tree N) → ArePlain b t → has_wrap t ≡ false → GoesByEach (mean b m t) (mean_rejected b m t)
    plain_goes_by_each (Leaf o) plain free = record {
      sent = b.sends (b.opening o);
      sends = λ xs. (law o plain xs).0;
      rejected = b.rejects (b.opening o);
      rejects = λ xs. Same-≡ (mean_rejected b m (Leaf o) xs) (flat_map (b.rejects (b.opening o)) xs) (law o plain xs).1;
    }
    plain_goes_by_each (Pipe ts) plain free = plain_goes_by_each_through ts plain free
    plain_goes_by_each (Comb ts) plain free = plain_goes_by_each_through ts plain free
    plain_goes_by_each (Farm n s w) plain free = plain_goes_by_each w plain free
    plain_goes_by_each (OFarm n s w) plain free = plain_goes_by_each w plain free
    plain_goes_by_each (A2a n l r k t) plain free =
        let parts = or_parts (has_wrap l) (has_wrap t) free in
        GoesByEach-then (mean b m l) (mean_rejected b m l) (mean b m t) (mean_rejected b m t)
        (plain_goes_by_each l plain.0 parts.0) (plain_goes_by_each t plain.1 parts.1)
    plain_goes_by_each (Wrap n w p) plain free = absurd (true≢false free)

    pub plain_goes_by_each_through : (ts : Trees N) → EachPlain b ts → any_wrap ts ≡ false → GoesByEach (mean_through b m ts) (mean_rejected_through b m ts)
    plain_goes_by_each_through none plain free = record {
      sent = λ x. x ∷ [];
      sends = λ xs. sym (flat_map-one xs);
      rejected = λ x. [];
      rejects = λ xs. Same-≡ [] (flat_map (λ x. []) xs) (sym (flat_map-none xs));
    }
    plain_goes_by_each_through (more t ts) plain free =
        let parts = or_parts (has_wrap t) (any_wrap ts) free in
        GoesByEach-then (mean b m t) (mean_rejected b m t) (mean_through b m ts) (mean_rejected_through b m ts)
        (plain_goes_by_each t plain.0 parts.0) (plain_goes_by_each_through ts plain.1 parts.1)

  pub plain_each : (t : Tree N) → ArePlain b t → has_wrap t ≡ false → (f : Rec → List Rec) × ((xs : List Rec) → mean b m t xs ≡ flat_map f xs)
  plain_each t plain free = let goes = plain_goes_by_each t plain free in (goes.sent, goes.sends)

  pub plain_rejects : (t : Tree N) → ArePlain b t → has_wrap t ≡ false → (g : Rec → List Rec) × ((xs : List Rec) → Same (mean_rejected b m t xs) (flat_map g xs))
  plain_rejects t plain free = let goes = plain_goes_by_each t plain free in (goes.rejected, goes.rejects)

  pub mean_additive : (t : Tree N) → ArePlain b t → has_wrap t ≡ false → Additive (mean b m t)
  mean_additive t plain free =
      let goes = plain_goes_by_each t plain free in
      record { each = goes.sent; is = λ xs. Same-≡ (mean b m t xs) (flat_map goes.sent xs) (goes.sends xs) }

  pub mean_rejected_additive : (t : Tree N) → ArePlain b t → has_wrap t ≡ false → Additive (mean_rejected b m t)
  mean_rejected_additive t plain free =
      let goes = plain_goes_by_each t plain free in
      record { each = goes.rejected; is = goes.rejects }
