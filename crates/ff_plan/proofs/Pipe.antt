-- The law of a pipe, part by part.
use Rattle.std.proofs.Common.{◌≡◌, ◌⊎◌, ℕ, suc, ◌+◌, ◌-◌, ◌≤◌, Bool, true, false, not, ◌||◌, List, ◌++◌, refl, sym, subst, append-nil, inl, inr, arith}
use Rattle.ff_rec.specs.Lines.{Rec}
use Rattle.ff_rec.specs.Streams.{carried}
use Rattle.ff_rec.proofs.WeightLaws.{Same-≡, Same-append, Same-trans}
use Rattle.ff_node.specs.Behaviour.{Behaviour}
use Rattle.ff_node.specs.OnLists.{UnorderedGoesByCounts}
use Rattle.ff_net.specs.Counts.{count, inner_edges}
use Rattle.ff_net.specs.Forms.{is_unordered, is_ordered}
use Rattle.ff_net.specs.Good.{InRange, GoodParts, SteadyParts}
use Rattle.ff_net.specs.Logs.{Event}
use Rattle.ff_net.specs.Meaning.{mean, mean_rejected, SameInOrder}
use Rattle.ff_net.specs.Places.{child}
use Rattle.ff_net.specs.Tree.{Tree, Trees, Pipe, none, more}
use Rattle.ff_plan.specs.Histories.{EachUnit}
use Rattle.ff_plan.specs.Laying.{lay, lay_parts}
use Rattle.ff_plan.specs.Rows.{Laid}
use Rattle.ff_plan.proofs.Carries.{Carry, carry}
use Rattle.ff_plan.proofs.Opens.{View, KnownOf, Known, Outcome, LawOf}
use Rattle.ff_plan.proofs.UnitLists.{AreSplit, EachUnit-append, EachUnit-has_log, all_rejected-append}

or-nothing : (a : Bool) → a ≡ (a || false)
or-nothing true = refl
or-nothing false = refl

-- the law of each part
abbrev pub EachLaw : {N : Type 0} → Behaviour N → ℕ → View N → Trees N → Type 0
EachLaw b m v none = Unit {0}
EachLaw b m v (more t ts) = LawOf b m v t × EachLaw b m v ts

module _ {N : Type 0} (b : Behaviour N) (by_counts : UnorderedGoesByCounts b) (m : ℕ) (v : View N) where
  -- the law of the only part
  only : (t : Tree N) (ls : List (Laid N)) (logs : List (List Event)) (o : ℕ) (xs : List Rec) → Outcome b m v t ls logs o xs → Outcome b m v (Pipe (more t none)) ls logs o xs
  only t ls logs o xs (inl answer) =
      inl (record {
        fine = (answer.fine, tt);
        ys = answer.ys;
        out = answer.out;
        same = subst (λ (u : Bool). SameInOrder (not u) (mean b m t xs) answer.ys) (or-nothing (is_unordered t)) answer.same;
        rejects = λ whole. Same-trans (Same-≡ _ _ (append-nil (mean_rejected b m t xs))) (answer.rejects whole);
        calm = answer.calm;
      })
  only t ls logs o xs (inr burst) = inr ((λ fine. burst.0 fine.0), burst.1)

  -- the law of a part and of the parts behind it
  both : (t : Tree N) (ts : Trees N) (ls ks : List (Laid N)) (logs : List (List Event)) (split : AreSplit (λ l log. KnownOf b m v l.row.kind l log) ls ks logs) (j o : ℕ) (xs : List Rec)
      → (is_ordered t ≡ true) ⊎ SteadyParts b ts → Outcome b m v t ls split.front j xs
      → ((ys : List Rec) → v.In j (carried ys) → Outcome b m v (Pipe ts) ks split.back o ys) → Outcome b m v (Pipe (more t ts)) (ls ++ ks) (split.front ++ split.back) o xs
  both t ts ls ks logs split j o xs choice (inr burst) behind =
      let logged = EachUnit-has_log _ ls split.front split.left in
      inr ((λ fine. burst.0 fine.0), v.burst_left ls split.front ks split.back logged burst.1)
  both t ts ls ks logs split j o xs choice (inl first) behind =
      let carries = carry b by_counts m (is_unordered t) ts (mean b m t xs) first.ys choice first.same in
      let logged = EachUnit-has_log _ ls split.front split.left in
      by carries logged (behind first.ys (v.link j (carried first.ys) first.out))
    where
      by : Carry b m (is_unordered t) ts (mean b m t xs) first.ys → EachUnit (λ l log. Unit {0}) ls split.front → Outcome b m v (Pipe ts) ks split.back o first.ys
          → Outcome b m v (Pipe (more t ts)) (ls ++ ks) (split.front ++ split.back) o xs
      by carries logged (inr burst) = inr ((λ fine. burst.0 (carries.fine_back fine.1)), v.burst_right ls split.front ks split.back logged burst.1)
      by carries logged (inl second) =
          inl (record {
            fine = (first.fine, carries.fine second.fine);
            ys = second.ys;
            out = second.out;
            same = carries.answer second.ys second.same;
            rejects = λ whole. Same-trans (Same-append (first.rejects whole) (Same-trans carries.rejects (second.rejects whole))) (Same-≡ _ _ (sym (all_rejected-append b ls ks v.edge)));
            calm = v.calm_both ls split.front ks split.back logged first.calm second.calm;
          })

  law_parts : (ts : Trees N) → 1 ≤ count ts → GoodParts b ts → EachLaw b m v ts → (at : List ℕ) (k i o j e : ℕ) (logs : List (List Event)) (xs : List Rec)
      → Known b m v (lay_parts at k ts i o j e) logs → v.In i (carried xs) → Outcome b m v (Pipe ts) (lay_parts at k ts i o j e) logs o xs
  law_parts none some good laws at k i o j e logs xs known in_i = absurd (omega (arith, some))
  law_parts (more t none) some good laws at k i o j e logs xs known in_i =
      only t (lay (child at k) t i o e) logs o xs (laws.0 (child at k) i o e logs xs known in_i)
  law_parts (more t (more u us)) some good laws at k i o j e logs xs known in_i =
      let ls = lay (child at k) t i j e in
      let ks = lay_parts at (k + 1) (more u us) j o (suc j) (e + inner_edges t) in
      let split = EachUnit-append _ ls ks logs known in
      let first = laws.0 (child at k) i j e split.front xs split.left in_i in
      let behind : (ys : List Rec) → v.In j (carried ys) → Outcome b m v (Pipe (more u us)) ks split.back o ys =
      λ ys in_j. law_parts (more u us) (omega arith) good.1 laws.1 at (k + 1) j o (suc j) (e + inner_edges t) split.back ys split.right in_j in
      subst (λ (rows : List (List Event)). Outcome b m v (Pipe (more t (more u us))) (ls ++ ks) rows o xs) (sym split.is)
      (both t (more u us) ls ks logs split j o xs good.2 first behind)

  pub law_pipe : (ts : Trees N) → InRange (count ts) → GoodParts b ts → EachLaw b m v ts → LawOf b m v (Pipe ts)
  law_pipe ts many good laws at i o e logs xs known in_i =
      law_parts ts many.0 good laws at 1 i o e (e + (count ts - 1)) logs xs known in_i
