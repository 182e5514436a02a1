-- The law of an ordered farm: a deal that marks each record, workers that answer each with a group, and a merge in the order of the deal.
use Rattle.std.proofs.Common.{◌≡◌, ℕ, zero, suc, ◌+◌, ◌*◌, true, false, List, [], ◌∷◌, ◌++◌, map, refl, sym, ap, ap₂, ◌∙◌, subst, append-nil, inl, arith}
use Rattle.std.proofs.lemmas.Simd.{map-map}
use Rattle.std.specs.List.{flat_map}
use Rattle.ff_rec.specs.Lines.{Rec}
use Rattle.ff_rec.specs.Weights.{weigh}
use Rattle.ff_rec.proofs.WeightLaws.{weigh-append}
use Rattle.ff_node.specs.Behaviour.{Behaviour, KeepsKind}
use Rattle.ff_node.specs.Classes.{ClassLaw}
use Rattle.ff_node.specs.Comb.{CombIsPipeline}
use Rattle.ff_node.specs.Fits.{marked, grouped}
use Rattle.ff_node.specs.OnListsLaws.{plain_goes_by_records}
use Rattle.ff_node.specs.Picks.{ArePicks, share}
use Rattle.ff_node.specs.Runs.{Message}
use Rattle.ff_net.specs.declared.net.Sched.{Sched}
use Rattle.ff_net.specs.declared.net.Sched.TheVariants.{Rr as InTurn, Od as OnDemand}
use Rattle.ff_net.specs.Counts.{inner_edges, pick_edges}
use Rattle.ff_net.specs.Forms.{has_wrap, is_ordered}
use Rattle.ff_net.specs.Good.{ArePlain, Good}
use Rattle.ff_net.specs.Logs.{Event}
use Rattle.ff_net.specs.Meaning.{mean, mean_rejected}
use Rattle.ff_net.specs.Places.{child}
use Rattle.ff_net.specs.RuleTests.{is_pipeline}
use Rattle.ff_net.specs.Tree.{Tree, OFarm}
use Rattle.ff_plan.specs.Histories.{rejected_by, all_rejected}
use Rattle.ff_plan.specs.Laying.{odeal_kind, omerge_kind, lay, lay_copies}
use Rattle.ff_plan.specs.Rows.{Laid, laid, range}
use Rattle.ff_plan.proofs.Alone.{mean-alone}
use Rattle.ff_plan.proofs.Carries.{in_order-≡}
use Rattle.ff_plan.proofs.Copies.{total-first}
use Rattle.ff_plan.proofs.EdgeLists.{OnRange-at, OnRange-each}
use Rattle.ff_plan.proofs.FormLaws.{pipeline_no_wrap}
use Rattle.ff_plan.proofs.Grouped.{joined, marked-grouped, joined-ones}
use Rattle.ff_plan.proofs.GroupLaws.{groups_of}
use Rattle.ff_plan.proofs.Masters.{calm_of, NoMaster-lay}
use Rattle.ff_plan.proofs.MeanPlain.{no_wrap_fine, mean_rejected_additive}
use Rattle.ff_plan.proofs.ODealing.{deals_in_order, merges_in_order, told_on}
use Rattle.ff_plan.proofs.Opens.{View, Known, KnownOf, LawOf}
use Rattle.ff_plan.proofs.Shares.{total-weigh-additive}
use Rattle.ff_plan.proofs.Totals.{total, total-same}
use Rattle.ff_plan.proofs.UnitLists.{OnRange, EachUnit-append, EachUnit-one, all_rejected-append}

-- network j gives what it makes of each of its groups, on edge o + j; in a whole run they rejected together what each of them rejects
pub record GiveGroups {N : Type 0} (b : Behaviour N) (v : View N) (send reject : List Rec → List Rec) (ls : List (Laid N)) (o n : ℕ) (gss : ℕ → List (List Rec)) : Type 0 where
  pub outs : OnRange v.Out o n (λ j. grouped (map send (gss j)))
  pub rejects : v.Whole → (h : Rec → ℕ) → total n (λ j. weigh h (reject (joined (gss j)))) ≡ weigh h (all_rejected b ls v.edge)

module _ {N : Type 0} (b : Behaviour N) where
  -- neither the deal nor the merge rejects anything
  rejected_by-odeal : (s : Sched) (t : Tree N) (ins : List (List Message)) → rejected_by b (odeal_kind s) t ins ≡ []
  rejected_by-odeal InTurn t ins = refl
  rejected_by-odeal OnDemand t ins = refl

  rejected_by-omerge : (s : Sched) (t : Tree N) (ins : List (List Message)) → rejected_by b (omerge_kind s) t ins ≡ []
  rejected_by-omerge InTurn t ins = refl
  rejected_by-omerge OnDemand t ins = refl

  all_rejected-ofarm : (s : Sched) (ins outs ends : List ℕ) (o : ℕ) (at : List ℕ) (t : Tree N) (ls : List (Laid N)) (edge : ℕ → List Message)
      → all_rejected b (laid (odeal_kind s) ins outs at t ∷ (ls ++ laid (omerge_kind s) ends (o ∷ []) at t ∷ [])) edge ≡ all_rejected b ls edge
  all_rejected-ofarm s ins outs ends o at t ls edge =
      ap₂ ◌++◌ (rejected_by-odeal s t (map edge ins)) (all_rejected-append b ls (laid (omerge_kind s) ends (o ∷ []) at t ∷ []) edge)
      ∙ ap (λ (held : List Rec). all_rejected b ls edge ++ (held ++ [])) (rejected_by-omerge s t (map edge ends))
      ∙ append-nil (all_rejected b ls edge)

module _ {N : Type 0} (b : Behaviour N) (keeps : KeepsKind b) (combed : CombIsPipeline b) (law : (o : N) → ClassLaw b o (b.class o)) (m : ℕ) (v : View N)
    (w : Tree N) (line : is_pipeline w ≡ true) (good : Good b w) (plain : ArePlain b w) where
  -- the workers side by side
  give_groups : (at : List ℕ) (width i o e n : ℕ) (logs : List (List Event)) (gss : ℕ → List (List Rec)) → Known b m v (lay_copies (lay at w) width i o e n) logs
      → OnRange v.In i n (λ j. grouped (gss j)) → GiveGroups b v (mean b m w) (mean_rejected b m w) (lay_copies (lay at w) width i o e n) o n gss
  give_groups at width i o e zero logs gss known ins = record { outs = tt; rejects = λ whole h. refl }
  give_groups at width i o e (suc n) logs gss known ins =
      let ls = lay at w i o e in
      let ks = lay_copies (lay at w) width (suc i) (suc o) (e + width) n in
      let split = EachUnit-append _ ls ks logs known in
      let first = groups_of b keeps combed law m v w line good plain at i o e split.front (gss 0) split.left ins.0 in
      let rest = give_groups at width (suc i) (suc o) (e + width) n split.back (λ j. gss (suc j)) split.right ins.1 in
      record {
        outs = (first.out, rest.outs);
        rejects = λ whole h.
            omega (
              arith,
              total-first n (λ j. weigh h (mean_rejected b m w (joined (gss j)))),
              (first.rejects whole).by h,
              rest.rejects whole h,
              ap (weigh h) (all_rejected-append b ls ks v.edge),
              weigh-append h (all_rejected b ls v.edge) (all_rejected b ks v.edge),
            );
      }

  -- what a worker sends for one record
  abbrev send : Rec → List Rec
  send x = mean b m w (x ∷ [])

  -- each record in a group of its own
  abbrev alone : List Rec → List (List Rec)
  alone xs = map (λ x. x ∷ []) xs

  -- groups that come from a deal, and such as go to a merge
  dealt_groups : (e n : ℕ) (lists : ℕ → List Rec) → OnRange v.Out e n (λ j. marked (lists j)) → OnRange v.In e n (λ j. grouped (alone (lists j)))
  dealt_groups e n lists outs =
      OnRange-each v.In e n (λ j. grouped (alone (lists j))) (λ j below.
      subst (v.In (e + j)) (marked-grouped (lists j)) (v.link (e + j) (marked (lists j)) (OnRange-at v.Out e n (λ k. marked (lists k)) outs j below)))

  given_groups : (e n : ℕ) (lists : ℕ → List Rec) → OnRange v.Out e n (λ j. grouped (map (mean b m w) (alone (lists j)))) → OnRange v.In e n (λ j. grouped (map send (lists j)))
  given_groups e n lists outs =
      OnRange-each v.In e n (λ j. grouped (map send (lists j))) (λ j below.
      subst (λ gs. v.In (e + j) (grouped gs)) (map-map (mean b m w) (λ x. x ∷ []) (lists j))
      (v.link (e + j) (grouped (map (mean b m w) (alone (lists j)))) (OnRange-at v.Out e n (λ k. grouped (map (mean b m w) (alone (lists k)))) outs j below)))

  -- what the workers reject for their shares is together what one of them rejects for all records
  rejects_together : (free : has_wrap w ≡ false) (n : ℕ) (xs : List Rec) (picks : List ℕ) → ArePicks n picks xs → (h : Rec → ℕ)
      → weigh h (mean_rejected b m w xs) ≡ total n (λ j. weigh h (mean_rejected b m w (joined (alone (share picks xs j)))))
  rejects_together free n xs picks are h =
      sym (total-weigh-additive (mean_rejected b m w) (mean_rejected_additive b (plain_goes_by_records b law) m w plain free) are h)
      ∙ total-same n (λ j. weigh h (mean_rejected b m w (share picks xs j))) (λ j. weigh h (mean_rejected b m w (joined (alone (share picks xs j)))))
      (λ j below. ap (λ ys. weigh h (mean_rejected b m w ys)) (sym (joined-ones (share picks xs j))))

  pub law_ofarm : (n : ℕ) (s : Sched) → LawOf b m v (OFarm n s w)
  law_ofarm n s at i o e [] xs known from = absurd known
  law_ofarm n s at i o e (log ∷ logs) xs known from =
      let form : Tree N = OFarm n s w in
      let free = pipeline_no_wrap b w line good in
      let workers = lay_copies (lay (child at 1) w) (inner_edges w) e (e + n) (e + 2 * n + pick_edges s) n in
      let tells = range (e + 2 * n) (pick_edges s) in
      let merge : Laid N = laid (omerge_kind s) (range (e + n) n ++ tells) (o ∷ []) at form in
      let split = EachUnit-append _ workers (merge ∷ []) logs known.1 in
      let last = EachUnit-one (λ l lg. KnownOf b m v l.row.kind l lg) merge split.back split.right in
      let dealt = deals_in_order b m v at form log s i e n (e + 2 * n) xs known.0 from in
      let shares : ℕ → List Rec = share dealt.picks xs in
      let given = give_groups (child at 1) (inner_edges w) e (e + n) (e + 2 * n + pick_edges s) n split.front (λ j. alone (shares j)) split.left (dealt_groups e n shares dealt.out) in
      let brought = given_groups (e + n) n shares given.outs in
      inl (record {
        fine = no_wrap_fine b m w free xs;
        ys = flat_map send xs;
        out = merges_in_order b m v at form last.0 s send (e + n) n (e + 2 * n) o xs dealt.picks dealt.are last.1 brought (told_on v s n (e + 2 * n) xs dealt.picks dealt.told);
        same = in_order-≡ (is_ordered form) (mean b m w xs) (flat_map send xs) (sym (mean-alone b m (plain_goes_by_records b law) w plain free xs));
        rejects = λ whole. record {
          by = λ h.
              rejects_together free n xs dealt.picks dealt.are h
              ∙ given.rejects whole h
              ∙ ap (weigh h) (sym (all_rejected-ofarm b s (i ∷ []) (range e n ++ tells) (range (e + n) n ++ tells) o at form workers v.edge));
        };
        calm = calm_of v (λ u lg. KnownOf b m v u.row.kind u lg) (lay at form i o e) (log ∷ logs) (NoMaster-lay form at i o e free) known;
      })
