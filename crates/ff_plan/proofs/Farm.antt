-- The law of a farm: a deal by some picks, workers that each give what they mean for their share, and a merge.
use Rattle.std.proofs.Common.{◌≡◌, ℕ, ◌+◌, ◌*◌, ◌<◌, false, List, [], ◌∷◌, ◌++◌, map, length, sym, ap, ap₂, ◌∙◌, refl, append-nil, inl}
use Rattle.ff_rec.specs.Lines.{Rec}
use Rattle.ff_rec.specs.Streams.{carried}
use Rattle.ff_rec.specs.Weights.{weigh, Same}
use Rattle.ff_rec.proofs.WeightLaws.{Same-≡, Same-trans}
use Rattle.ff_node.specs.Behaviour.{Behaviour}
use Rattle.ff_node.specs.OnLists.{PlainGoesByRecords}
use Rattle.ff_node.specs.Picks.{ArePicks, share, turns}
use Rattle.ff_node.specs.Runs.{Message}
use Rattle.ff_net.specs.declared.net.Sched.{Sched}
use Rattle.ff_net.specs.declared.net.Sched.TheVariants.{Rr as InTurn, Od as OnDemand}
use Rattle.ff_net.specs.Counts.{inner_edges}
use Rattle.ff_net.specs.Forms.{has_wrap, is_ordered}
use Rattle.ff_net.specs.Good.{ArePlain}
use Rattle.ff_net.specs.Logs.{Event}
use Rattle.ff_net.specs.Meaning.{mean, mean_rejected}
use Rattle.ff_net.specs.Places.{child}
use Rattle.ff_net.specs.Tree.{Tree, Farm}
use Rattle.ff_plan.specs.declared.kind.UnitKind.TheVariants.{Merge}
use Rattle.ff_plan.specs.Histories.{rejected_by, all_rejected}
use Rattle.ff_plan.specs.Laying.{deal_kind, lay, lay_copies}
use Rattle.ff_plan.specs.Rows.{Laid, laid, range}
use Rattle.ff_plan.proofs.Copies.{HaveAnswers, law_copies}
use Rattle.ff_plan.proofs.Dealing.{Deals, Merges, deals_in_turn, deals_on_demand, merges}
use Rattle.ff_plan.proofs.EdgeLists.{OnRange-each}
use Rattle.ff_plan.proofs.Masters.{calm_of, NoMaster-lay}
use Rattle.ff_plan.proofs.MeanPlain.{no_wrap_fine, mean_additive, mean_rejected_additive}
use Rattle.ff_plan.proofs.Opens.{View, KnownOf, LawOf}
use Rattle.ff_plan.proofs.FormLaws.{same_in_order}
use Rattle.ff_plan.proofs.Shares.{total-weigh-additive, same_of_shares}
use Rattle.ff_plan.proofs.UnitLists.{OnRange, OnRange-map, AllOn-listed, length-range, EachUnit-append, EachUnit-one, all_rejected-append}

module _ {N : Type 0} (b : Behaviour N) where
  -- a deal rejects nothing
  rejected_by-deal : (s : Sched) (t : Tree N) (ins : List (List Message)) → rejected_by b (deal_kind s) t ins ≡ []
  rejected_by-deal InTurn t ins = refl
  rejected_by-deal OnDemand t ins = refl

  -- nor does a merge, so that only the workers do
  all_rejected-farm : (s : Sched) (ins outs ends : List ℕ) (o : ℕ) (at : List ℕ) (t : Tree N) (ls : List (Laid N)) (edge : ℕ → List Message)
      → all_rejected b (laid (deal_kind s) ins outs at t ∷ (ls ++ laid Merge ends (o ∷ []) at t ∷ [])) edge ≡ all_rejected b ls edge
  all_rejected-farm s ins outs ends o at t ls edge =
      ap₂ (λ front back. front ++ back) (rejected_by-deal s t (map edge ins)) (all_rejected-append b ls (laid Merge ends (o ∷ []) at t ∷ []) edge)
      ∙ append-nil (all_rejected b ls edge)

  module _ (m : ℕ) (v : View N) where
    -- the shares that a farm's deal puts on its edges
    pub deals_by_schedule : (s : Sched) (at : List ℕ) (t : Tree N) (log : List Event) (i e n : ℕ) (xs : List Rec)
        → KnownOf b m v (deal_kind s) (laid (deal_kind s) (i ∷ []) (range e n) at t) log → v.In i (carried xs) → (picks : List ℕ) × Deals v e n picks xs
    deals_by_schedule InTurn at t log i e n xs known from =
        (turns n (length xs), deals_in_turn b m v at t log i e n xs known from)
    deals_by_schedule OnDemand at t log i e n xs known from =
        deals_on_demand b m v at t log i e n xs known from

    module _ (by_records : PlainGoesByRecords b) (n : ℕ) (w : Tree N) (plain : ArePlain b w) (free : has_wrap w ≡ false) where
      -- what the workers give for their shares is together what one of them means for all records
      given_together : (xs : List Rec) (picks : List ℕ) (ls : List (Laid N)) (k o : ℕ) → ArePicks n picks xs → (given : HaveAnswers b m v w ls k n (share picks xs))
          → (merged : Merges v o n given.yss) → Same (mean b m w xs) merged.ys
      given_together xs picks ls k o dealt given merged = same_of_shares (mean b m w) dealt merged.are shares (mean_additive b by_records m w plain free)
        where
          shares : (j : ℕ) → j < n → Same (mean b m w (share picks xs j)) (share merged.picks merged.ys j)
          shares j below =
              Same-trans (same_in_order (is_ordered w) (mean b m w (share picks xs j)) (given.yss j) (given.same j below))
              (Same-≡ (given.yss j) (share merged.picks merged.ys j) (sym (merged.parts j below)))

      pub law_farm : (s : Sched) → LawOf b m v w → LawOf b m v (Farm n s w)
      law_farm s law at i o e [] xs known from = absurd known
      law_farm s law at i o e (log ∷ logs) xs known from =
          let workers = lay_copies (lay (child at 1) w) (inner_edges w) e (e + n) (e + 2 * n) n in
          let merge : Laid N = laid Merge (range (e + n) n) (o ∷ []) at (Farm n s w) in
          let split = EachUnit-append _ workers (merge ∷ []) logs known.1 in
          let last = EachUnit-one (λ l lg. KnownOf b m v l.row.kind l lg) merge split.back split.right in
          let dealt = deals_by_schedule s at (Farm n s w) log i e n xs known.0 from in
          let shares : ℕ → List Rec = share dealt.0 xs in
          let taken : OnRange v.In e n (λ j. carried (shares j)) =
          OnRange-each v.In e n (λ j. carried (shares j)) (λ j below. v.link (e + j) (carried (shares j)) (dealt.1.out j below)) in
          let given = law_copies b m v w law (no_wrap_fine b m w free) (child at 1) (inner_edges w) e (e + n) (e + 2 * n) n split.front shares split.left taken in
          let lists : ℕ → List Message = λ j. carried (given.yss j) in
          let brought = AllOn-listed v.In (e + n) n lists (OnRange-map v.Out v.In (e + n) n lists v.link given.outs) in
          let merged = merges b m v at (Farm n s w) last.0 (range (e + n) n) o n given.yss last.1 (length-range (e + n) n) brought in
          inl (record {
            fine = no_wrap_fine b m w free xs;
            ys = merged.ys;
            out = merged.out;
            same = given_together xs dealt.0 workers (e + n) o dealt.1.are given merged;
            rejects = λ whole. record {
              by = λ h.
                  sym (total-weigh-additive (mean_rejected b m w) (mean_rejected_additive b by_records m w plain free) dealt.1.are h)
                  ∙ given.rejects whole h
                  ∙ ap (weigh h) (sym (all_rejected-farm s (i ∷ []) (range e n) (range (e + n) n) o at (Farm n s w) workers v.edge));
            };
            calm = calm_of v _ (lay at (Farm n s w) i o e) (log ∷ logs) (NoMaster-lay (Farm n s w) at i o e free) known;
          })
