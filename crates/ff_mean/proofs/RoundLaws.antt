-- Wraps of workers that send the same.
use Rattle.std.proofs.Common.{◌≡◌, ℕ, zero, suc, ◌<◌, not, List, [], ◌++◌, length, refl, sym, ap, ap₂, ◌∙◌, subst}
use Rattle.std.specs.Prelude.{Option, None, Some}
use Rattle.std.specs.List.{filter, flat_map}
use Rattle.ff_rec.specs.Lines.{Rec}
use Rattle.ff_rec.specs.Weights.{Same}
use Rattle.ff_rec.proofs.WeightLaws.{Same-refl, Same-≡, Same-sym, Same-trans, Same-append}
use Rattle.ff_node.specs.declared.class.Class.TheVariants.{Plain}
use Rattle.ff_node.specs.Behaviour.{Behaviour, KeepsKind, node, node_rejected}
use Rattle.ff_node.specs.Classes.{ClassLaw}
use Rattle.ff_node.specs.OnListsLaws.{plain_goes_by_records}
use Rattle.ff_node.specs.Sends.{Sent}
use Rattle.ff_net.specs.declared.net.Test.{Test}
use Rattle.ff_net.specs.Levels.{meets, again, leaves_with, levels, over_levels}
use Rattle.ff_mean.specs.Gathering.{HasRunRounds}

module _ (f g : List Rec → List Rec) (p : Test) (same : (xs : List Rec) → f xs ≡ g xs) where
  again-≡ : (xs : List Rec) → again f p xs ≡ again g p xs
  again-≡ xs = ap (filter (meets p)) (same xs)

  levels-≡ : (n : ℕ) (xs : List Rec) → levels f p n xs ≡ levels g p n xs
  levels-≡ zero xs = refl
  levels-≡ (suc n) xs = ap (λ l. xs ++ l) (levels-≡ n (again f p xs) ∙ ap (levels g p n) (again-≡ xs))

  results-≡ : (n : ℕ) (xs : List Rec) → over_levels (leaves_with f p) f p n xs ≡ over_levels (leaves_with g p) g p n xs
  results-≡ zero xs = refl
  results-≡ (suc n) xs =
      ap₂ (λ (k : List Rec) (l : List Rec). k ++ l) (ap (filter (λ r. not (meets p r))) (same xs))
      (results-≡ n (again f p xs) ∙ ap (over_levels (leaves_with g p) g p n) (again-≡ xs))

  over_levels-Same : (h j : List Rec → List Rec) → ((xs : List Rec) → Same (h xs) (j xs)) → (n : ℕ) (xs : List Rec) → Same (over_levels h f p n xs) (over_levels j g p n xs)
  over_levels-Same h j alike zero xs = Same-refl []
  over_levels-Same h j alike (suc n) xs =
      Same-append (alike xs)
      (Same-trans (over_levels-Same h j alike n (again f p xs))
      (Same-≡ (over_levels j g p n (again f p xs)) (over_levels j g p n (again g p xs)) (ap (over_levels j g p n) (again-≡ xs))))

  -- a run of the one is a run of the other
  pub HasRunRounds-≡ : (h j : List Rec → List Rec) → ((xs : List Rec) → Same (h xs) (j xs)) → (m : ℕ) (xs : List Rec) (before after : Sent) (answer : Option (List Rec))
      → HasRunRounds f h p m xs before after answer → HasRunRounds g j p m xs before after answer
  HasRunRounds-≡ h j alike m xs before after None ran =
      λ within. ran (λ over. within (subst (λ (l : List Rec). m < length l) (levels-≡ (suc m) xs) over))
  HasRunRounds-≡ h j alike m xs before after (Some ys) ran = record {
    fine = λ over. ran.fine (subst (λ (l : List Rec). m < length l) (sym (levels-≡ (suc m) xs)) over);
    sent = ran.sent ∙ results-≡ (suc m) xs;
    losses = ran.losses;
    same = Same-trans (Same-sym (over_levels-Same h j alike (suc m) xs)) ran.same;
    added = ran.added;
  }

-- a Plain worker does with lists what it does in its opening state with their records
pub HasRunRounds-plain : {S : Type 0} (b : Behaviour S) → KeepsKind b → ((o : S) → ClassLaw b o (b.class o)) → (o s : S) → b.class o ≡ Plain → s ≡ b.opening o
    → (m : ℕ) (p : Test) (xs : List Rec) (before after : Sent) (answer : Option (List Rec))
    → HasRunRounds (flat_map (b.sends (b.opening s))) (flat_map (b.rejects (b.opening s))) p m xs before after answer
    → HasRunRounds (node b o) (node_rejected b o) p m xs before after answer
HasRunRounds-plain b keeps law o s plain is m p xs before after answer ran =
    let kind : b.opening s ≡ b.opening o = ap b.opening is ∙ keeps.opening_of_opening o in
    let by_records = plain_goes_by_records b law o plain in
    HasRunRounds-≡ (flat_map (b.sends (b.opening s))) (node b o) p (λ us. ap (λ u. flat_map (b.sends u) us) kind ∙ sym (by_records us).0)
    (flat_map (b.rejects (b.opening s))) (node_rejected b o)
    (λ us. Same-≡ (flat_map (b.rejects (b.opening s)) us) (node_rejected b o us) (ap (λ u. flat_map (b.rejects u) us) kind ∙ sym (by_records us).1))
    m xs before after answer ran
