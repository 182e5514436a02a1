-- How a wrap goes on: a level more, the end, and a level that has no room.
use Rattle.std.proofs.Common.{◌≡◌, ℕ, zero, suc, ◌+◌, ◌-◌, ◌<◌, ◌≤◌, List, [], ◌∷◌, ◌++◌, length, refl, sym, ap, ◌∙◌, append_assoc, append-nil, length-append, arith}
use Rattle.std.specs.Prelude.{Some}
use Rattle.std.specs.List.{flat_map}
use Rattle.ff_rec.specs.Lines.{Rec}
use Rattle.ff_rec.proofs.WeightLaws.{Same-refl}
use Rattle.ff_node.specs.Sends.{Sent, add}
use Rattle.ff_node.proofs.SendsLaws.{add-add, add-nothing}
use Rattle.ff_net.specs.declared.net.Test.{Test}
use Rattle.ff_net.specs.Levels.{again, leaves_with, levels, over_levels, IsOver}
use Rattle.ff_mean.specs.Gathering.{HasRunRounds}
use Rattle.ff_mean.specs.Rounds.{RunsLevel}
use Rattle.ff_net.specs.declared.tasks.Tasks.{Tasks}
use Rattle.ff_mean.proofs.NodeSteps.{empty-added}

module _ (send reject : Rec → List Rec) (p : Test) where
  -- where no record is left, no further level holds or gives one
  levels-nothing : (n : ℕ) → levels (flat_map send) p n [] ≡ []
  levels-nothing zero = refl
  levels-nothing (suc n) = levels-nothing n

  results-nothing : (n : ℕ) → over_levels (leaves_with (flat_map send) p) (flat_map send) p n [] ≡ []
  results-nothing zero = refl
  results-nothing (suc n) = results-nothing n

  rejects-nothing : (n : ℕ) → over_levels (flat_map reject) (flat_map send) p n [] ≡ []
  rejects-nothing zero = refl
  rejects-nothing (suc n) = rejects-nothing n

-- `k` levels were run, which held the records `past`: they and the levels from the next one on are all levels
pub record GoesRound (send reject : Rec → List Rec) (p : Test) (m : ℕ) (xs : List Rec) (x : Tasks) (before after : Sent) : Type 0 where
  pub k : ℕ
  pub past : List Rec
  pub few : k ≤ length past
  pub room : length past + length x.next + x.room ≡ m
  pub reached : (i n : ℕ) → i ≡ k + n → levels (flat_map send) p i xs ≡ past ++ levels (flat_map send) p n x.next
  pub results : (i n : ℕ) → i ≡ k + n
      → over_levels (leaves_with (flat_map send) p) (flat_map send) p i xs ≡ x.results ++ over_levels (leaves_with (flat_map send) p) (flat_map send) p n x.next
  pub rejects : (i n : ℕ) → i ≡ k + n
      → add before [] (over_levels (flat_map reject) (flat_map send) p i xs) ≡ add after [] (over_levels (flat_map reject) (flat_map send) p n x.next)
  pub empty : after.sends ≡ []

module _ (send reject : Rec → List Rec) (p : Test) (m : ℕ) where
  -- no level yet
  pub GoesRound-start : (x : Tasks) (out : Sent) → x.results ≡ [] → x.room + length x.next ≡ m → out.sends ≡ [] → GoesRound send reject p m x.next x out out
  GoesRound-start x out none room empty =
      let same : (i n : ℕ) → i ≡ 0 + n → i ≡ n = λ i n is. omega (arith, is) in
      record {
        k = 0;
        past = [];
        few = omega arith;
        room = omega (arith, room);
        reached = λ i n is. ap (λ j. levels (flat_map send) p j x.next) (same i n is);
        results = λ i n is. ap (λ j. over_levels (leaves_with (flat_map send) p) (flat_map send) p j x.next) (same i n is)
            ∙ ap (λ l. l ++ over_levels (leaves_with (flat_map send) p) (flat_map send) p n x.next) (sym none);
        rejects = λ i n is. ap (λ j. add out [] (over_levels (flat_map reject) (flat_map send) p j x.next)) (same i n is);
        empty = empty;
      }

  -- more is fed than there may be
  pub IsOver-fed : (xs : List Rec) → m < length xs → IsOver (flat_map send) p m xs
  IsOver-fed xs over = omega (arith, over, length-append xs (levels (flat_map send) p m (again (flat_map send) p xs)))

  module _ (xs : List Rec) (x : Tasks) (before out : Sent) (so_far : GoesRound send reject p m xs x before out) where
    some_left : (l : List Rec) → ¬ l ≡ [] → 1 ≤ length l
    some_left [] some = absurd (some refl)
    some_left (r ∷ rest) some = omega arith

    -- a level more
    pub GoesRound-level : (y z : Tasks) (after : Sent) → ¬ x.next ≡ [] → y.next ≡ [] → y.room ≡ x.room → y.results ≡ x.results
        → RunsLevel send reject p x.next y z out after → GoesRound send reject p m xs z before after
    GoesRound-level y z after some none room results ran =
        let cur = x.next in
        let next_level = again (flat_map send) p cur in
        let next : z.next ≡ next_level = ran.next ∙ ap (λ l. l ++ next_level) none in
        let all_results : z.results ≡ x.results ++ leaves_with (flat_map send) p cur = ran.results ∙ ap (λ l. l ++ leaves_with (flat_map send) p cur) results in
        let one : 1 ≤ length cur = some_left cur some in
        let before_it : (i n : ℕ) → i ≡ (so_far.k + 1) + n → i ≡ so_far.k + suc n = λ i n is. omega (arith, is) in
        record {
          k = so_far.k + 1;
          past = so_far.past ++ cur;
          few = omega (arith, one, so_far.few, length-append so_far.past cur);
          room = omega (arith, so_far.room, ran.room, room, ap length next, length-append so_far.past cur);
          reached = λ i n is. so_far.reached i (suc n) (before_it i n is)
              ∙ sym (append_assoc so_far.past cur (levels (flat_map send) p n next_level))
              ∙ ap (λ l. (so_far.past ++ cur) ++ levels (flat_map send) p n l) (sym next);
          results = λ i n is. so_far.results i (suc n) (before_it i n is)
              ∙ sym (append_assoc x.results (leaves_with (flat_map send) p cur) (over_levels (leaves_with (flat_map send) p) (flat_map send) p n next_level))
              ∙ ap (λ l. l ++ over_levels (leaves_with (flat_map send) p) (flat_map send) p n next_level) (sym all_results)
              ∙ ap (λ l. z.results ++ over_levels (leaves_with (flat_map send) p) (flat_map send) p n l) (sym next);
          rejects = λ i n is. so_far.rejects i (suc n) (before_it i n is)
              ∙ sym (add-add out [] (flat_map reject cur) [] (over_levels (flat_map reject) (flat_map send) p n next_level))
              ∙ ap (λ (s : Sent). add s [] (over_levels (flat_map reject) (flat_map send) p n next_level)) (sym ran.rejects)
              ∙ ap (λ l. add after [] (over_levels (flat_map reject) (flat_map send) p n l)) (sym next);
          empty = empty-added out after (flat_map reject cur) so_far.empty ran.rejects;
        }

    -- a level for which there is no room
    pub IsOver-level : ¬ x.next ≡ [] → x.room < length (again (flat_map send) p x.next) → IsOver (flat_map send) p m xs
    IsOver-level some full =
        let cur = x.next in
        let next_level = again (flat_map send) p cur in
        let one : 1 ≤ length cur = some_left cur some in
        let n = m - so_far.k - 1 in
        let is : suc m ≡ so_far.k + suc (suc n) = omega (arith, one, so_far.few, so_far.room) in
        let more = levels (flat_map send) p n (again (flat_map send) p next_level) in
        omega (
          arith,
          full,
          so_far.room,
          ap length (so_far.reached (suc m) (suc (suc n)) is),
          length-append so_far.past (cur ++ (next_level ++ more)),
          length-append cur (next_level ++ more),
          length-append next_level more,
        )

    -- no task is left
    pub HasRunRounds-end : x.next ≡ [] → HasRunRounds (flat_map send) (flat_map reject) p m xs before out (Some x.results)
    HasRunRounds-end none =
        let n = suc m - so_far.k in
        let is : suc m ≡ so_far.k + n = omega (arith, so_far.few, so_far.room) in
        let all : levels (flat_map send) p (suc m) xs ≡ so_far.past =
        so_far.reached (suc m) n is
        ∙ ap (λ l. so_far.past ++ levels (flat_map send) p n l) none
        ∙ ap (λ l. so_far.past ++ l) (levels-nothing send reject p n)
        ∙ append-nil so_far.past in
        record {
          fine = λ over. absurd (omega (arith, over, so_far.room, ap length all));
          sent = sym (so_far.results (suc m) n is
              ∙ ap (λ l. x.results ++ over_levels (leaves_with (flat_map send) p) (flat_map send) p n l) none
              ∙ ap (λ l. x.results ++ l) (results-nothing send reject p n)
              ∙ append-nil x.results);
          losses = over_levels (flat_map reject) (flat_map send) p (suc m) xs;
          same = Same-refl (over_levels (flat_map reject) (flat_map send) p (suc m) xs);
          added = sym (so_far.rejects (suc m) n is
              ∙ ap (λ l. add out [] (over_levels (flat_map reject) (flat_map send) p n l)) none
              ∙ ap (add out []) (rejects-nothing send reject p n)
              ∙ add-nothing out);
        }
