-- Networks that are laid alike side by side, each between two edges of its own.
use Rattle.std.proofs.Common.{◌≡◌, ℕ, zero, suc, ◌+◌, ◌<◌, List, [], ◌∷◌, ◌++◌, refl, ap, inl, inr, arith}
use Rattle.ff_rec.specs.Lines.{Rec}
use Rattle.ff_rec.specs.Streams.{carried}
use Rattle.ff_rec.specs.Weights.{weigh}
use Rattle.ff_rec.proofs.WeightLaws.{weigh-append}
use Rattle.ff_node.specs.Behaviour.{Behaviour}
use Rattle.ff_net.specs.Forms.{is_ordered}
use Rattle.ff_net.specs.Logs.{Event}
use Rattle.ff_net.specs.Meaning.{mean, mean_rejected, Fine, SameInOrder}
use Rattle.ff_net.specs.Tree.{Tree}
use Rattle.ff_plan.specs.Histories.{all_rejected}
use Rattle.ff_plan.specs.Laying.{lay, lay_copies}
use Rattle.ff_plan.specs.Rows.{Laid}
use Rattle.ff_plan.proofs.Opens.{View, Known, HasAnswer, LawOf}
use Rattle.ff_plan.proofs.Totals.{total}
use Rattle.ff_plan.proofs.UnitLists.{OnRange, EachUnit-append, all_rejected-append}

-- a sum from its first place on
pub total-first : (n : ℕ) (f : ℕ → ℕ) → total (suc n) f ≡ f 0 + total n (λ j. f (suc j))
total-first zero f = omega arith
total-first (suc n) f = omega (arith, total-first n f)

-- one thing in front of others
abbrev pub onto : {A : Type 0} → A → (ℕ → A) → ℕ → A
onto x f zero = x
onto x f (suc j) = f j

-- network j gives an answer for list j on edge o + j; in a whole run they rejected together what each of them rejects for its list
pub record HaveAnswers {N : Type 0} (b : Behaviour N) (m : ℕ) (v : View N) (t : Tree N) (ls : List (Laid N)) (o n : ℕ) (xss : ℕ → List Rec) : Type 0 where
  pub yss : ℕ → List Rec
  pub outs : OnRange v.Out o n (λ j. carried (yss j))
  pub same : (j : ℕ) → j < n → SameInOrder (is_ordered t) (mean b m t (xss j)) (yss j)
  pub rejects : v.Whole → (h : Rec → ℕ) → total n (λ j. weigh h (mean_rejected b m t (xss j))) ≡ weigh h (all_rejected b ls v.edge)

module _ {N : Type 0} (b : Behaviour N) (m : ℕ) (v : View N) (t : Tree N) where
  -- one network, and those behind it
  one_more : (ls ks : List (Laid N)) (logs : List (List Event)) (o n : ℕ) (xss : ℕ → List Rec)
      → HasAnswer b m v t ls logs o (xss 0) → HaveAnswers b m v t ks (suc o) n (λ j. xss (suc j)) → HaveAnswers b m v t (ls ++ ks) o (suc n) xss
  one_more ls ks logs o n xss first rest = record {
    yss = onto first.ys rest.yss;
    outs = (first.out, rest.outs);
    same = same;
    rejects = rejects;
  }
    where
      same : (j : ℕ) → j < suc n → SameInOrder (is_ordered t) (mean b m t (xss j)) (onto first.ys rest.yss j)
      same zero below = first.same
      same (suc j) below = rest.same j (omega (arith, below))

      rejects : v.Whole → (h : Rec → ℕ) → total (suc n) (λ j. weigh h (mean_rejected b m t (xss j))) ≡ weigh h (all_rejected b (ls ++ ks) v.edge)
      rejects whole h =
          omega (
            arith,
            total-first n (λ j. weigh h (mean_rejected b m t (xss j))),
            (first.rejects whole).by h,
            rest.rejects whole h,
            ap (weigh h) (all_rejected-append b ls ks v.edge),
            weigh-append h (all_rejected b ls v.edge) (all_rejected b ks v.edge),
          )

  -- the law of all of them, where no wrap in them is over its limit
  pub law_copies : LawOf b m v t → ((xs : List Rec) → Fine b m t xs) → (at : List ℕ) (width i o e n : ℕ) (logs : List (List Event)) (xss : ℕ → List Rec)
      → Known b m v (lay_copies (lay at t) width i o e n) logs → OnRange v.In i n (λ j. carried (xss j)) → HaveAnswers b m v t (lay_copies (lay at t) width i o e n) o n xss
  law_copies law fine at width i o e zero [] xss known ins = record {
    yss = xss;
    outs = tt;
    same = λ j below. absurd (omega (arith, below));
    rejects = λ whole h. refl;
  }
  law_copies law fine at width i o e zero (log ∷ logs) xss known ins = absurd known
  law_copies law fine at width i o e (suc n) logs xss known ins =
      let ls = lay at t i o e in
      let ks = lay_copies (lay at t) width (suc i) (suc o) (e + width) n in
      let split = EachUnit-append _ ls ks logs known in
      let rest = law_copies law fine at width (suc i) (suc o) (e + width) n split.back (λ j. xss (suc j)) split.right ins.1 in
      elim (law at i o e split.front (xss 0) split.left ins.0) [ inl first ↦ one_more ls ks split.front o n xss first rest | inr burst ↦ absurd (burst.0 (fine (xss 0))) ]
