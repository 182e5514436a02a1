-- As many sweeps as the budget has are enough.
use Rattle.std.proofs.Common.{◌≡◌, ◌⊎◌, ℕ, ◌+◌, ◌≤◌, Bool, true, false, List, [], ◌∷◌, ◌++◌, length, map, sym, ap, ◌∙◌, inl, inr, arith, length-append}
use Rattle.std.proofs.lemmas.Bool.{cases_lt}
use Rattle.std.proofs.lemmas.Bool.Decides.{eqb_tells}
use Rattle.std.proofs.lemmas.List.{length-map}
use Rattle.ff_rec.specs.Streams.{carried, unaborted, GoesOn}
use Rattle.ff_rec.proofs.WeightLaws.{weigh-one}
use Rattle.ff_node.specs.Behaviour.{Behaviour, KeepsKind}
use Rattle.ff_node.specs.Classes.{ClassLaw}
use Rattle.ff_node.specs.CombLaws.{comb-is_pipeline}
use Rattle.ff_node.specs.Runs.{Message}
use Rattle.ff_net.specs.Counts.{edges, units as units_of_all}
use Rattle.ff_net.specs.Forms.{has_choice}
use Rattle.ff_net.specs.Good.{Good}
use Rattle.ff_net.specs.Tree.{Tree}
use Rattle.ff_plan.specs.Histories.{IsPartial}
use Rattle.ff_plan.specs.Laying.{units_of}
use Rattle.ff_plan.specs.Plans.{rows_of}
use Rattle.ff_plan.specs.Rows.{range}
use Rattle.ff_plan.proofs.CutWraps.{law_wrap_cut}
use Rattle.ff_plan.proofs.JoinedUnits.{is_joined}
use Rattle.ff_plan.proofs.NetLaws.{law_net}
use Rattle.ff_plan.proofs.NodeFacts.{are_nodes}
use Rattle.ff_plan.proofs.Opens.{LawOf}
use Rattle.ff_plan.proofs.UnitLists.{length-range}
use Rattle.ff_plan.proofs.Views.{cut_view}
use Rattle.ff_port.specs.Queues.{put_of}
use Rattle.ff_unit.specs.Units.{IsUnit}
use Rattle.ff_steps.specs.Core.{CoreState, party, edge, is_short, all_ended}
use Rattle.ff_steps.specs.Events.{Follows}
use Rattle.ff_steps.specs.NetCores.{IsGood, port_row}
use Rattle.ff_steps.specs.NetUnits.{NetState, net_does, log_of_net}
use Rattle.ff_steps.proofs.FeederRuns.{GoesOn-feeder}
use Rattle.ff_steps.proofs.NetRuns.{RanOver-core, run-feeder}
use Rattle.ff_steps.proofs.OverBegins.{begins-units}
use Rattle.ff_steps.proofs.Shapes.{shapes-lay}
use Rattle.ff_plan.specs.Traffic.{budget}
use Rattle.ff_plan.specs.TrafficLaws.{EndsOnce}
use Rattle.ff_plan.proofs.NetTraffic.{traffic_moment, traffic_so_far}
use Rattle.ff_sweeps.proofs.Potentials.{one_if, is_closed, got_size, put_size, closed_size}
use Rattle.ff_sweeps.specs.Schedules.{sweeps_of}
use Rattle.ff_sweeps.proofs.CoreStuck.{once-edge, no_edge, length-units}
use Rattle.ff_sweeps.proofs.StepSizes.{weigh-le}
use Rattle.ff_sweeps.proofs.SweepSteps.{Keeps, power}
use Rattle.ff_sweeps.proofs.SweepMoves.{sweeps_move}

one_if-few : (x : Bool) → one_if x ≤ 1
one_if-few true = omega arith
one_if-few false = omega arith

module _ {N : Type 0} (b : Behaviour N) (kind : KeepsKind b) (law : (o : N) → ClassLaw b o (b.class o)) (laws : IsUnit (net_does b)) (m : ℕ) (keep : Bool) (t : Tree N) (good : Good b t)
    (fixed : has_choice t ≡ false) (count : ℕ) (c : CoreState (NetState N)) (inv : Keeps b kind laws m keep t count c) where
  abbrev got : ℕ → List Message
  got e = (edge c e).got

  abbrev put : ℕ → List Message
  put e = put_of (edge c e)

  cut_laws : (got put : ℕ → List Message) (first : (e : ℕ) → (rest : List Message) × (put e ≡ got e ++ rest)) (u : Tree N) → Good b u → LawOf b m (cut_view b m got put first) u
  cut_laws gs ps first u is_good =
      law_net b (are_nodes b kind law) m (cut_view b m gs ps first) (λ n w p is. law_wrap_cut b kind law (comb-is_pipeline b) m n w p is.2 is.3 gs ps first) u is_good

  partial : IsPartial b m (units_of t) got put (map log_of_net c.units)
  partial =
      let over = RanOver-core b m keep t c inv.is inv.sound in
      record { first = over.first; begins = begins-units b kind laws m keep got put c.units (units_of t) (shapes-lay b t good [] 0 1 2) over.made over.ran }

  goes : GoesOn (unaborted (put 0)) (carried c.input)
  goes = GoesOn-feeder c.input c.feeder [] (put 0 ∷ []) (run-feeder b m keep t c inv.is inv.sound)

  once : (e : ℕ) → EndsOnce (put e)
  once e = elim (cases_lt e (edges t)) [
    | inl low ↦
        let o = once-edge b laws m keep t good c inv.is inv.sound inv.run e low in
        record { front = o.front; back = o.back; is = o.is; inner = o.inner; few = o.few }
    | inr beyond ↦
        let none : put e ≡ [] = ap (λ q. put_of q) (no_edge b laws m keep t good c inv.is inv.sound inv.run c.edges e (omega (arith, beyond, inv.run.many))) in
        record { front = []; back = []; is = none; inner = tt; few = omega arith }
  ]

  -- what is raised stays below the budget
  pub bounded : power b kind laws m keep t count c + 1 ≤ budget b m t c.input
  bounded =
      let nodes = are_nodes b kind law in
      let xs = c.input in
      let gots = weigh-le (got_size c) (λ e. length (put e)) 0 (edges t) (λ e l. omega (arith, length-append (got e) (edge c e).inside)) in
      let all = traffic_so_far b nodes m t good fixed cut_laws got put (map log_of_net c.units) xs partial goes once in
      let but_last = traffic_moment b nodes m t good fixed cut_laws (put_size c) got put (map log_of_net c.units) xs partial goes once (λ e. elim (eqb_tells e 1) [
        | inl h ↦ rw h.0 (omega arith)
        | inr h ↦ rw h.0 (omega arith)
      ]) in
      let closed = weigh-le (closed_size b c) (λ _. 1) 0 (count + 2) (λ q l. one_if-few (is_closed b (party c q))) in
      let many : count ≡ units_of_all t =
      sym inv.many ∙ sym (length-units b laws m keep t good c inv.is inv.sound inv.run) ∙ length-map (rows_of t) port_row ∙ (is_joined b t good).many in
      omega (arith, gots, all, but_last, closed, weigh-one (range 0 (count + 2)), length-range 0 (count + 2), many)

module _ {N : Type 0} (b : Behaviour N) (kind : KeepsKind b) (law : (o : N) → ClassLaw b o (b.class o)) (laws : IsUnit (net_does b)) (m : ℕ) (keep : Bool) (t : Tree N) (good : Good b t)
    (fixed : has_choice t ≡ false) (count : ℕ) where
  -- no network of the plain kind gets stuck
  pub sweeps_end : (c c' : CoreState (NetState N)) → Keeps b kind laws m keep t count c → c'.input ≡ c.input → Follows (net_does b) (IsGood b m t) (sweeps_of count (budget b m t c.input)) c c'
      → (all_ended (net_does b) c' ≡ true) ⊎ (is_short (net_does b) c' ≡ true)
  sweeps_end c c' inv same chain =
      let all = sweeps_move b kind laws m keep t good fixed count (budget b m t c.input) c c' inv chain in
      elim all.1 [
        | inr either ↦ either
        | inl raised ↦ absurd (let few = bounded b kind law laws m keep t good fixed count c' all.0 in omega (arith, few, raised, ap (budget b m t) same))
      ]
