-- A deal fits any in with what it sends for its records.
use Rattle.std.specs.Prelude.{◌≡◌, ◌≢◌, ◌<◌, ◌==◌, ℕ, suc, Bool, true, false, List, [], ◌∷◌, ◌++◌, length, map}
use Rattle.std.specs.List.{AllByRecursion}
use Rattle.std.proofs.Common.{refl, ap, ◌∙◌, subst, arith, cond}
use Rattle.ff_rec.specs.Lines.{Rec}
use Rattle.ff_rec.specs.Streams.{items, carried}
use Rattle.ff_rec.specs.declared.msg.Msg.TheVariants.{Item, Mark, Pick}
use Rattle.ff_node.specs.Fits.{IsDealt, IsMarkedDeal, marked}
use Rattle.ff_node.specs.Picks.{share, turns, by_key}
use Rattle.ff_node.specs.Runs.{Message}
use Rattle.ff_unit.specs.Deals.{behind, deal_outs, FitsDeal}
use Rattle.ff_unit.specs.declared.dealing.Dealing.{Dealing}
use Rattle.ff_unit.specs.declared.dealing.Dealing.TheVariants.{InTurn, OnDemand, ByKey, GroupsInTurn, GroupsOnDemand}
use Rattle.ff_unit.specs.CarriedLaws.{items-carried}
use Rattle.ff_unit.specs.DealPairLaws.{on, on-own, on-other}
use Rattle.ff_unit.specs.DealPickLaws.{IsPicked}
use Rattle.ff_unit.specs.DealRowLaws.{rows, length-rows, at-rows_all}
use Rattle.ff_unit.specs.DealSentLaws.{sent}

-- where nothing follows a record, an out is given its share
on-sent : (way : Dealing) (n : ℕ) → ((w : ℕ) → behind way n w ≡ []) → (j : ℕ) (p : List ℕ) (xs : List Rec) → on j (sent way n p xs) ≡ carried (share p xs j)
on-sent way n none j [] xs = refl
on-sent way n none j (w ∷ p) [] = refl
on-sent way n none j (w ∷ p) (x ∷ xs) =
    ap (λ b. on j (((w, Item x) ∷ b) ++ sent way n p xs)) (none w) ∙ by (w == j) (on-sent way n none j p xs)
  where
    by : (e : Bool) → on j (sent way n p xs) ≡ carried (share p xs j)
        → cond e (Item x ∷ on j (sent way n p xs)) (on j (sent way n p xs)) ≡ carried (cond e (x ∷ share p xs j) (share p xs j))
    by true rest = ap (λ l. Item x ∷ l) rest
    by false rest = rest

-- where a Mark follows each record, its share in groups
on-sent_groups : (n j : ℕ) (p : List ℕ) (xs : List Rec) → on j (sent GroupsInTurn n p xs) ≡ marked (share p xs j)
on-sent_groups n j [] xs = refl
on-sent_groups n j (w ∷ p) [] = refl
on-sent_groups n j (w ∷ p) (x ∷ xs) = by (w == j) (on-sent_groups n j p xs)
  where
    by : (e : Bool) → on j (sent GroupsInTurn n p xs) ≡ marked (share p xs j)
        → cond e (Item x ∷ cond e (Mark ∷ on j (sent GroupsInTurn n p xs)) (on j (sent GroupsInTurn n p xs))) (cond e (Mark ∷ on j (sent GroupsInTurn n p xs)) (on j (sent GroupsInTurn n p xs)))
        ≡ marked (cond e (x ∷ share p xs j) (share p xs j))
    by true rest = ap (λ l. Item x ∷ Mark ∷ l) rest
    by false rest = rest

on-sent_demand : (n j : ℕ) (p : List ℕ) (xs : List Rec) → j < n → on j (sent GroupsOnDemand n p xs) ≡ marked (share p xs j)
on-sent_demand n j [] xs below = refl
on-sent_demand n j (w ∷ p) [] below = refl
on-sent_demand n j (w ∷ p) (x ∷ xs) below =
    ap (λ (l : List Message). cond (w == j) (Item x ∷ cond (w == j) (Mark ∷ l) l) (cond (w == j) (Mark ∷ l) l)) (on-other n j (Pick w) (sent GroupsOnDemand n p xs) (λ e. omega arith))
    ∙ by (w == j) (on-sent_demand n j p xs below)
  where
    by : (e : Bool) → on j (sent GroupsOnDemand n p xs) ≡ marked (share p xs j)
        → cond e (Item x ∷ cond e (Mark ∷ on j (sent GroupsOnDemand n p xs)) (on j (sent GroupsOnDemand n p xs))) (cond e (Mark ∷ on j (sent GroupsOnDemand n p xs)) (on j (sent GroupsOnDemand n p xs)))
        ≡ marked (cond e (x ∷ share p xs j) (share p xs j))
    by true rest = ap (λ l. Item x ∷ Mark ∷ l) rest
    by false rest = rest

-- the last out is told the picks
on-sent_last : (n : ℕ) (p : List ℕ) (xs : List Rec) → length p ≡ length xs → AllByRecursion (λ w. w < n) p → on n (sent GroupsOnDemand n p xs) ≡ map (λ w. Pick w) p
on-sent_last n [] xs number h = refl
on-sent_last n (w ∷ p) [] number h = absurd (omega (arith, number))
on-sent_last n (w ∷ p) (x ∷ xs) number h =
    let rest = sent GroupsOnDemand n p xs in
    let here : w < n = h.0 in
    let other : w ≢ n = λ e. omega arith in
    on-other w n (Item x) ((w, Mark) ∷ (n, Pick w) ∷ rest) other
    ∙ on-other w n Mark ((n, Pick w) ∷ rest) other
    ∙ on-own n n (Pick w) rest refl
    ∙ ap (λ l. Pick w ∷ l) (on-sent_last n p xs (omega (arith, number)) h.1)

-- the whole lists of all outs
abbrev pub outs_of : Dealing → ℕ → List ℕ → List Rec → List (List Message)
outs_of way n p xs = rows (λ j. on j (sent way n p xs)) 0 (deal_outs way n)

-- each out is given its share
IsDealt-sent : (way : Dealing) (n : ℕ) (p : List ℕ) (xs : List Rec) → ((w : ℕ) → behind way n w ≡ []) → deal_outs way n ≡ n → IsPicked way n 0 p xs → IsDealt n p xs (outs_of way n p xs)
IsDealt-sent way n p xs none number are = record {
  outs_are = length-rows (λ j. on j (sent way n p xs)) 0 (deal_outs way n) ∙ number;
  picks_are = record { each = are.each; within = are.within };
  shares = λ j below. at-rows_all (λ j. on j (sent way n p xs)) (deal_outs way n) j (omega (arith, below, number)) ∙ on-sent way n none j p xs;
}

-- a deal fits what it sends for all records of its in
pub FitsDeal-sent : (way : Dealing) (n : ℕ) (p : List ℕ) (ms : List Message) → IsPicked way n 0 p (items ms) → FitsDeal way n (ms ∷ []) (outs_of way n p (items ms))
FitsDeal-sent InTurn n p ms are = (
  refl,
  λ xs e.
      let outs = outs_of InTurn n p (items ms) in
      subst (λ ys. IsDealt n (turns n (length ys)) ys outs) (ap items e ∙ items-carried xs)
      (subst (λ q. IsDealt n q (items ms) outs) are.by_way (IsDealt-sent InTurn n p (items ms) (λ w. refl) refl are)),
)
FitsDeal-sent OnDemand n p ms are = (
  refl,
  λ xs e.
      let outs = outs_of OnDemand n p (items ms) in
      (p, subst (λ ys. IsDealt n p ys outs) (ap items e ∙ items-carried xs) (IsDealt-sent OnDemand n p (items ms) (λ w. refl) refl are)),
)
FitsDeal-sent (ByKey f) n p ms are = (
  refl,
  λ xs e.
      let outs = outs_of (ByKey f) n p (items ms) in
      subst (λ ys. IsDealt n (by_key f n ys) ys outs) (ap items e ∙ items-carried xs)
      (subst (λ q. IsDealt n q (items ms) outs) are.by_way (IsDealt-sent (ByKey f) n p (items ms) (λ w. refl) refl are)),
)
FitsDeal-sent GroupsInTurn n p ms are = (
  refl,
  length-rows (λ j. on j (sent GroupsInTurn n p (items ms))) 0 n,
  λ xs e.
      let outs = outs_of GroupsInTurn n p (items ms) in
      subst (λ ys. IsMarkedDeal n (turns n (length ys)) ys outs) (ap items e ∙ items-carried xs)
      (subst (λ q. IsMarkedDeal n q (items ms) outs) are.by_way (record {
        picks_are = record { each = are.each; within = are.within };
        shares = λ j below. at-rows_all (λ j. on j (sent GroupsInTurn n p (items ms))) n j below ∙ on-sent_groups n j p (items ms);
      })),
)
FitsDeal-sent GroupsOnDemand n p ms are = (
  refl,
  length-rows (λ j. on j (sent GroupsOnDemand n p (items ms))) 0 (suc n),
  λ xs e.
      let outs = outs_of GroupsOnDemand n p (items ms) in (
        p,
        subst (λ ys. IsMarkedDeal n p ys outs) (ap items e ∙ items-carried xs) (record {
          picks_are = record { each = are.each; within = are.within };
          shares = λ j below. at-rows_all (λ j. on j (sent GroupsOnDemand n p (items ms))) (suc n) j (omega (arith, below)) ∙ on-sent_demand n j p (items ms) below;
        }),
        at-rows_all (λ j. on j (sent GroupsOnDemand n p (items ms))) (suc n) n (omega arith) ∙ on-sent_last n p (items ms) are.each are.within,
      ),
)
