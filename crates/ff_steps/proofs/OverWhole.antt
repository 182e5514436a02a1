-- Units that ran over the edges of a network's plan and have all ended with their ins gave an answer of the network.
use Rattle.std.proofs.Common.{◌≡◌, ℕ, zero, suc, ◌<◌, Bool, true, false, List, [], ◌∷◌, ◌++◌, length, map, flat_map, refl, sym, ap, ap₂, ◌∙◌, subst, append-nil, arith}
use Rattle.std.specs.List.{AllByRecursion}
use Rattle.ff_rec.specs.Lines.{Rec}
use Rattle.ff_rec.specs.Streams.{carried, closed, items}
use Rattle.ff_rec.specs.declared.msg.Msg.TheVariants.{Eos}
use Rattle.ff_rec.proofs.WeightLaws.{Same-sym, Same-trans, Same-length}
use Rattle.ff_node.specs.Behaviour.{Behaviour, KeepsKind, node_rejected}
use Rattle.ff_node.specs.Comb.{comb_node, running}
use Rattle.ff_node.specs.Runs.{Message}
use Rattle.ff_node.specs.Sends.{counted}
use Rattle.ff_net.specs.Counts.{edges}
use Rattle.ff_net.specs.Forms.{has_copies}
use Rattle.ff_net.specs.Good.{Good}
use Rattle.ff_net.specs.Meaning.{Fine}
use Rattle.ff_net.specs.Nodes.{nodes_in, node_groups}
use Rattle.ff_net.specs.Tree.{Tree}
use Rattle.ff_net.proofs.NodeGroups.{joined-node_groups}
use Rattle.ff_plan.specs.Histories.{IsHistory, rejected_by}
use Rattle.ff_plan.specs.Laying.{units_of}
use Rattle.ff_plan.specs.LogLaws.{LogLaws}
use Rattle.ff_plan.specs.PlanLaws.{Answered, WholeRuns}
use Rattle.ff_plan.specs.Plans.{rows_of}
use Rattle.ff_plan.specs.Rows.{Row, Laid}
use Rattle.ff_plan.specs.WiringLaws.{IsJoined, unit_ins, unit_outs, all_ins}
use Rattle.ff_plan.proofs.JoinedUnits.{is_joined}
use Rattle.ff_plan.proofs.LaidUnits.{length-rows_of}
use Rattle.ff_unit.specs.MessageLaws.{IsOpen-carried}
use Rattle.ff_unit.specs.Units.{Doing, IsUnit}
use Rattle.ff_steps.specs.NetUnits.{NetState, net_does, any_over, log_of_net}
use Rattle.ff_steps.specs.OverEdges.{RanAlong, RanOver, HasAnswered, IsOver, LogsAreRight}
use Rattle.ff_steps.proofs.MessageLists.{items-carried}
use Rattle.ff_steps.proofs.OneUnit.{no_copies-one_unit}
use Rattle.ff_steps.proofs.OverEnds.{before_eos, before_eos-whole, HasEndedWell}
use Rattle.ff_steps.proofs.OverLists.{AreEnded, AreEnded-units, IsHistory-ended, past-ended, calm-ended, OnOuts-ended, number-ended, kept-ended, none-ended}
use Rattle.ff_steps.proofs.PlanStages.{AreStages, AreStages-lay, OnIns, OnIns-lay}
use Rattle.ff_steps.proofs.Ports.{each-port, port-each, each-front}
use Rattle.ff_steps.proofs.PutsOpen.{EndsOnce, EndsOnce-ran, open-net}
use Rattle.ff_steps.proofs.Shapes.{shapes-lay}

-- what is so of each edge of a list, and of each edge on one side of some units
of-map : {A B : Type 0} (f : A → B) (P : B → Type 0) (xs : List A) → AllByRecursion P (map f xs) → AllByRecursion (λ x. P (f x)) xs
of-map f P [] each = tt
of-map f P (x ∷ xs) each = (each.0, of-map f P xs each.1)

to-map : {A B : Type 0} (f : A → B) (P : B → Type 0) (xs : List A) → AllByRecursion (λ x. P (f x)) xs → AllByRecursion P (map f xs)
to-map f P [] each = tt
to-map f P (x ∷ xs) each = (each.0, to-map f P xs each.1)

-- as many units as rows
length-along : {U : Type 0} (d : Doing U) (got put : ℕ → List Message) (rows : List Row) (units : List U) → RanAlong d got put rows units → length rows ≡ length units
length-along d got put [] [] ran = refl
length-along d got put [] (u ∷ units) ran = absurd ran
length-along d got put (row ∷ rows) [] ran = absurd ran
length-along d got put (row ∷ rows) (u ∷ units) ran = ap suc (length-along d got put rows units ran.1)

module _ {N : Type 0} (b : Behaviour N) (kind : KeepsKind b) (laws : IsUnit (net_does b)) (m : ℕ) (keep : Bool) (t : Tree N) (good : Good b t)
    (units : List (NetState N)) (got put : ℕ → List Message) (over : RanOver b m keep t units got put) (ended : AllByRecursion (HasEndedWell (net_does b)) units)
    (xs : List Rec) (fed : put 0 ≡ closed (carried xs)) where
  joined : IsJoined t
  joined = is_joined b t good

  -- on each edge nothing stands behind an end
  once-along : (rows : List Row) (us : List (NetState N)) → RanAlong (net_does b) got put rows us → AllByRecursion (AllByRecursion (λ e. EndsOnce (put e))) (unit_outs rows)
  once-along [] us ran = tt
  once-along (row ∷ rows) [] ran = absurd ran
  once-along (row ∷ rows) (u ∷ us) ran = (
    of-map put EndsOnce row.outs (EndsOnce-ran (net_does b) laws (open-net b) u (map got row.ins) (map put row.outs) ran.0),
    once-along rows us ran.1,
  )

  once-outs : AllByRecursion (AllByRecursion (λ e. EndsOnce (put e))) (unit_outs (rows_of t))
  once-outs = once-along (rows_of t) units over.ran

  once-edge : (e : ℕ) → e < edges t → EndsOnce (put e)
  once-edge zero low = record { front = carried xs; back = Eos ∷ []; is = fed; inner = IsOpen-carried xs; few = omega arith }
  once-edge (suc e) low =
      let j = joined.written (suc e) low (λ is. omega (arith, is)) in
      each-port (λ f. EndsOnce (put f)) (unit_outs (rows_of t)) (suc e) j.party j.port once-outs j.at

  once-ins : AllByRecursion (AllByRecursion (λ e. EndsOnce (put e))) (unit_ins (rows_of t))
  once-ins =
      each-front (λ f. EndsOnce (put f)) (unit_ins (rows_of t)) ([] ∷ (1 ∷ []) ∷ [])
      (port-each (λ f. EndsOnce (put f)) (all_ins (rows_of t)) (λ e p i port. once-edge e (joined.readers.within e p i port)))

  -- on the sides of the units
  along-side : (side : Row → List ℕ) (P : ℕ → Type 0) (ls : List (Laid N)) → AllByRecursion (AllByRecursion P) (map side (map (λ (l : Laid N). l.row) ls))
      → AllByRecursion (λ (l : Laid N). AllByRecursion P (side l.row)) ls
  along-side side P ls each =
      of-map (λ (l : Laid N). l.row) (λ row. AllByRecursion P (side row)) ls (of-map side (AllByRecursion P) (map (λ (l : Laid N). l.row) ls) each)

  side-along : (side : Row → List ℕ) (P : ℕ → Type 0) (ls : List (Laid N)) → AllByRecursion (λ (l : Laid N). AllByRecursion P (side l.row)) ls
      → AllByRecursion (AllByRecursion P) (map side (map (λ (l : Laid N). l.row) ls))
  side-along side P ls each =
      to-map side (AllByRecursion P) (map (λ (l : Laid N). l.row) ls) (to-map (λ (l : Laid N). l.row) (λ row. AllByRecursion P (side row)) ls each)

  all_ended : AreEnded b kind laws m keep got put over.first (units_of t) units
  all_ended =
      AreEnded-units b kind laws m keep got put over.first units (units_of t) (shapes-lay b t good [] 0 1 2)
      (along-side (λ row. row.ins) (λ e. EndsOnce (put e)) (units_of t) once-ins) (along-side (λ row. row.outs) (λ e. EndsOnce (put e)) (units_of t) once-outs)
      over.made over.ran ended

  -- the records on the first edge
  first-edge : before_eos (put 0) ≡ carried xs
  first-edge = before_eos-whole (carried xs) (put 0) (IsOpen-carried xs) fed

  -- what the plan law says of them
  history : IsHistory b m (units_of t) (λ e. before_eos (put e)) (map log_of_net units)
  history = IsHistory-ended b kind laws m keep got put over.first (units_of t) units all_ended

  answered : WholeRuns b m t → any_over units ≡ false → Answered b m t xs (λ e. before_eos (put e))
  answered runs none =
      (runs (λ e. before_eos (put e)) (map log_of_net units) xs history first-edge).1
      (calm-ended b kind laws m keep got put over.first (units_of t) units all_ended none)

  -- where some unit is over, the network's meaning is
  pub Over-over : WholeRuns b m t → IsOver units → ¬ Fine b m t xs
  Over-over runs is_over =
      (runs (λ e. before_eos (put e)) (map log_of_net units) xs history first-edge).0
      (past-ended b kind laws m keep got put over.first (units_of t) units all_ended is_over)

  whole-edge : (e : ℕ) → e < edges t → put e ≡ closed (before_eos (put e))
  whole-edge zero low = fed ∙ ap closed (sym first-edge)
  whole-edge (suc e) low =
      let j = joined.written (suc e) low (λ is. omega (arith, is)) in
      each-port (λ k. put k ≡ closed (before_eos (put k))) (unit_outs (rows_of t)) (suc e) j.party j.port
      (side-along (λ row. row.outs) (λ e. put e ≡ closed (before_eos (put e))) (units_of t) (OnOuts-ended b kind laws m keep got put over.first (units_of t) units all_ended)) j.at

  -- the logs of the masters
  pub LogsAreRight-over : LogLaws b m t → LogsAreRight b m t units put
  LogsAreRight-over logs =
      let right = logs (λ e. before_eos (put e)) (map log_of_net units) xs history first-edge in record {
        lists = λ e. before_eos (put e);
        carries = whole-edge;
        each = right.0;
        once = λ none. right.1 (calm-ended b kind laws m keep got put over.first (units_of t) units all_ended none);
      }

  -- the rejects of a unit alone, in their order
  kept_of_stage : keep ≡ true → (us : List (NetState N)) (ls : List (Laid N)) (groups : List (List N)) → length us ≡ 1 → AreStages ls groups
      → AreEnded b kind laws m keep got put over.first ls us → ((P : ℕ → Type 0) → OnIns P ls → P 0) → flat_map (λ g. g) groups ≡ nodes_in t
      → flat_map (net_does b).taken us ++ flat_map (net_does b).kept us ≡ node_rejected (comb_node b) (running (map b.opening (nodes_in t))) xs
  kept_of_stage k [] ls groups one are done reads nodes = absurd (omega (arith, one))
  kept_of_stage k (u ∷ v ∷ us) ls groups one are done reads nodes = absurd (omega (arith, one))
  kept_of_stage k (u ∷ []) [] groups one are done reads nodes = absurd done
  kept_of_stage k (u ∷ []) (l ∷ j ∷ ls) groups one are done reads nodes = absurd done.1
  kept_of_stage k (u ∷ []) (l ∷ []) [] one are done reads nodes = absurd are
  kept_of_stage k (u ∷ []) (l ∷ []) (g ∷ h ∷ groups) one are done reads nodes = absurd are.1
  kept_of_stage k (u ∷ []) (l ∷ []) (g ∷ []) one are done reads nodes =
      ap₂ (λ taken kept. taken ++ kept) (append-nil ((net_does b).taken u)) (append-nil ((net_does b).kept u))
      ∙ done.0.kept k
      ∙ ap (λ (x : Laid N). rejected_by b x.row.kind x.net (map (λ e. before_eos (put e)) x.row.ins)) are.0.is
      ∙ ap₂ (λ ns zs. node_rejected (comb_node b) (running (map b.opening ns)) zs) (are.0.nodes_are ∙ sym (append-nil g) ∙ nodes)
      (ap (λ e. items (before_eos (put e))) (reads (λ e. are.0.from ≡ e) (subst (λ (x : Laid N). OnIns (λ e. are.0.from ≡ e) (x ∷ [])) (sym are.0.is) ((refl, tt), tt)))
      ∙ ap items first-edge ∙ items-carried xs)

  -- a unit alone is a stage
  no_copies : length units ≡ 1 → has_copies t ≡ false
  no_copies one = no_copies-one_unit b t good (sym (length-rows_of t) ∙ length-along (net_does b) got put (rows_of t) units over.ran ∙ one)

  pub HasAnswered-over : WholeRuns b m t → any_over units ≡ false → HasAnswered b m keep t xs units put
  HasAnswered-over runs none =
      let a = answered runs none in record {
        ys = a.ys;
        carries = whole-edge 1 (omega arith) ∙ ap closed a.carries;
        answers = a.answers;
        number = number-ended b kind laws m keep got put over.first (units_of t) units all_ended ∙ ap counted (sym (Same-length a.rejects));
        kept = λ k. Same-trans (kept-ended b kind laws m keep got put over.first k (units_of t) units all_ended) (Same-sym a.rejects);
        kept_of_one = λ k one. kept_of_stage k units (units_of t) (node_groups t) one (AreStages-lay [] t 0 1 2 (no_copies one)) all_ended
            (λ P on. OnIns-lay b P [] t 0 1 2 (no_copies one) good on) (joined-node_groups t (no_copies one));
        none = λ k. none-ended b kind laws m keep got put over.first k (units_of t) units all_ended;
      }
