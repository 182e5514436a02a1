-- The runs of the parties of a network's core, by the edges of its plan.
use Rattle.std.proofs.Common.{◌≡◌, ℕ, suc, ◌+◌, ◌<◌, Bool, List, [], ◌∷◌, length, map, get_or, refl, sym, ap, ◌∙◌, subst, arith}
use Rattle.std.proofs.lemmas.List.{length-map, length-append, get_or_append_left}
use Rattle.ff_node.specs.Behaviour.{Behaviour}
use Rattle.ff_node.specs.Runs.{Message, HasRun}
use Rattle.ff_net.specs.Tree.{Tree}
use Rattle.ff_plan.specs.Plans.{rows_of}
use Rattle.ff_plan.specs.Rows.{Row as PlanRow}
use Rattle.ff_port.specs.Queues.{Queue, put_of}
use Rattle.ff_rec.specs.Lines.{Rec}
use Rattle.ff_unit.specs.Units.{Doing, Ran}
use Rattle.ff_steps.specs.Core.{CoreState, party, edge, gots_of, puts_of, IsSound}
use Rattle.ff_steps.specs.Links.{edge_at, ends_at, gots_at, puts_at}
use Rattle.ff_steps.specs.NetCores.{port_row, port_rows, IsNetCore}
use Rattle.ff_steps.specs.NetUnits.{NetState, net_does}
use Rattle.ff_steps.specs.OverEdges.{RanAlong, RanOver}
use Rattle.ff_steps.specs.Parties.{Party, AsFeeder, AsDrainer, PartyRan, FeederStep, DrainerStep, opening_feeder, opening_drainer}
use Rattle.ff_steps.specs.Wiring.{Row, row_at, feeder_row, drainer_row}
use Rattle.ff_steps.proofs.CoreSteps.{row-behind}
use Rattle.ff_steps.proofs.PartyAt.{length-parties, party-feeder, party-drainer}
use Rattle.ff_steps.proofs.UnitRan.{Ran-unit}

-- what is told of each of these edges
map-ends : {A : Type 0} (f : Queue Rec → A) (edges : List (Queue Rec)) (es : List ℕ) → map f (ends_at edges es) ≡ map (λ e. f (edge_at edges e)) es
map-ends f edges [] = refl
map-ends f edges (e ∷ es) = ap (λ l. f (edge_at edges e) ∷ l) (map-ends f edges es)

-- units that ran, each by the row with its number
pub RanAlong-rows : {U : Type 0} (d : Doing U) (got put : ℕ → List Message) (rows : List PlanRow) (units : List U) → length rows ≡ length units
    → ((i : ℕ) (e : U) → i < length units → Ran d (get_or units i e) (map got (row_at (map port_row rows) i).ins) (map put (row_at (map port_row rows) i).outs))
    → RanAlong d got put rows units
RanAlong-rows d got put [] [] many runs = tt
RanAlong-rows d got put [] (u ∷ units) many runs = absurd (omega (arith, many))
RanAlong-rows d got put (row ∷ rows) [] many runs = absurd (omega (arith, many))
RanAlong-rows d got put (row ∷ rows) (u ∷ units) many runs =
    (runs 0 u (omega arith), RanAlong-rows d got put rows units (omega (arith, many)) (λ i e low. runs (suc i) e (omega (arith, low))))

module _ {N : Type 0} (b : Behaviour N) (m : ℕ) (keep : Bool) (t : Tree N) (c : CoreState (NetState N)) (is : IsNetCore b m keep t c)
    (sound : IsSound (net_does b) c) where
  length-units : length (port_rows t) ≡ length c.units
  length-units =
      omega (arith, sound.rows_are, length-parties c, ap length is.rows, length-append (port_rows t) (feeder_row ∷ drainer_row ∷ []))

  -- a unit
  ran-unit : (i : ℕ) (d : NetState N) → i < length c.units
      → Ran (net_does b) (get_or c.units i d) (map (λ e. (edge c e).got) (row_at (port_rows t) i).ins) (map (λ e. put_of (edge c e)) (row_at (port_rows t) i).outs)
  ran-unit i d low =
      subst (λ gots. Ran (net_does b) (get_or c.units i d) gots (map (λ e. put_of (edge c e)) (row_at (port_rows t) i).outs)) (map-ends (λ q. q.got) c.edges (row_at (port_rows t) i).ins)
      (subst (λ puts. Ran (net_does b) (get_or c.units i d) (gots_at c.edges (row_at (port_rows t) i).ins) puts) (map-ends (λ q. put_of q) c.edges (row_at (port_rows t) i).outs)
      (subst (λ (r : Row). Ran (net_does b) (get_or c.units i d) (gots_at c.edges r.ins) (puts_at c.edges r.outs)) at (Ran-unit (net_does b) c sound i d low)))
    where
      at : row_at c.rows i ≡ row_at (port_rows t) i
      at = ap (λ rows. row_at rows i) is.rows
          ∙ get_or_append_left (port_rows t) (feeder_row ∷ drainer_row ∷ []) (record { ins = []; outs = [] }) i (subst (λ n. i < n) (sym length-units) low)

  -- all of them
  pub RanOver-core : RanOver b m keep t c.units (λ e. (edge c e).got) (λ e. put_of (edge c e))
  RanOver-core = record {
    made = sound.made_of ∙ is.made;
    first = λ e. ((edge c e).inside, refl);
    ran = RanAlong-rows (net_does b) (λ e. (edge c e).got) (λ e. put_of (edge c e)) (rows_of t) c.units
        (sym (length-map (rows_of t) port_row) ∙ length-units) ran-unit;
  }

  -- the feeder and the drainer
  ran-party : (p : ℕ) (row : Row) (q : Party (NetState N)) → p < length c.units + 2 → row_at c.rows p ≡ row → party c p ≡ q
      → PartyRan (net_does b) c.input q (gots_at c.edges row.ins) (puts_at c.edges row.outs)
  ran-party p row q low at who =
      subst (λ (r : Row). PartyRan (net_does b) c.input q (gots_at c.edges r.ins) (puts_at c.edges r.outs)) at
      (subst (λ x. PartyRan (net_does b) c.input x (gots_of c p) (puts_of c p)) who (sound.ran p (omega (arith, low, length-parties c))))

  pub run-feeder : HasRun FeederStep (opening_feeder c.input) 0 1 c.feeder [] (put_of (edge c 0) ∷ [])
  run-feeder = ran-party (length c.units) feeder_row (AsFeeder c.feeder) (omega arith)
      (ap (λ rows. row_at rows (length c.units)) is.rows ∙ row-behind (port_rows t) (length c.units) 0 (omega (arith, length-units))) (party-feeder c (length c.units) refl)

  pub run-drainer : HasRun DrainerStep opening_drainer 1 0 c.drainer ((edge c 1).got ∷ []) []
  run-drainer = ran-party (suc (length c.units)) drainer_row (AsDrainer c.drainer) (omega arith)
      (ap (λ rows. row_at rows (suc (length c.units))) is.rows ∙ row-behind (port_rows t) (suc (length c.units)) 1 (omega (arith, length-units))) (party-drainer c (length c.units) refl)
