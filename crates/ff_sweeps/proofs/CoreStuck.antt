-- Where no party of a network's core can move, all have ended.
use Rattle.std.proofs.Common.{◌≡◌, ◌⊎◌, ℕ, zero, suc, ◌<◌, ◌≤◌, Bool, true, false, if◌then◌else◌, List, [], ◌∷◌, ◌++◌, length, map, slice_index_or, refl, sym, ap, ap₂, ◌∙◌, subst, inl, inr, arith, append-nil, length-append}
use Rattle.std.specs.Prelude.{slice_index}
use Rattle.std.specs.List.{AllByRecursion, list_all}
use Rattle.std.proofs.lemmas.Bool.{false≢true, cases_lt}
use Rattle.std.proofs.Common.{ltb, lt-ltb, le-ltb}
use Rattle.std.proofs.lemmas.List.{length-map, nil_from_length, get_or_append_left, get_or_default}
use Rattle.ff_rec.specs.Streams.{IsOpen, IsOpenMsg, at, carried}
use Rattle.ff_rec.specs.declared.msg.Msg.TheVariants.{Item, Mark, Pick, Eos, Abort}
use Rattle.ff_node.specs.Behaviour.{Behaviour}
use Rattle.ff_node.specs.Runs.{Message, Act, Took, Gave, Refused, Idle, Told, Handed, took, gave, HasRun}
use Rattle.ff_net.specs.Counts.{edges}
use Rattle.ff_net.specs.Forms.{has_choice}
use Rattle.ff_net.specs.Good.{Good}
use Rattle.ff_net.specs.Tree.{Tree, Leaf, Pipe, Comb, Farm, OFarm, A2a, Wrap}
use Rattle.ff_plan.specs.declared.kind.UnitKind.{UnitKind}
use Rattle.ff_plan.specs.declared.kind.UnitKind.TheVariants.{Stage, DealRr, DealOd, DealBy, Merge, ODealRr, ODealOd, OMergeTurn, OMergePick, Master, Worker}
use Rattle.ff_plan.specs.Laying.{units_of}
use Rattle.ff_plan.specs.Plans.{rows_of}
use Rattle.ff_plan.specs.Rows.{Row as PlanRow, Laid}
use Rattle.ff_plan.specs.WiringLaws.{IsJoined, unit_outs}
use Rattle.ff_plan.proofs.JoinedUnits.{is_joined}
use Rattle.ff_port.specs.Queues.{Queue, put_of, room_of, empty_queue}
use Rattle.ff_unit.specs.MessageLaws.{IsOpen-carried}
use Rattle.ff_unit.specs.RunLaws.{HasRun-keeps}
use Rattle.ff_unit.specs.TakenLaws.{at-added, length-added}
use Rattle.ff_unit.specs.Units.{Doing, IsUnit}
use Rattle.ff_steps.specs.Core.{CoreState, edge, IsSound, all_ended}
use Rattle.ff_steps.specs.Events.{known_at}
use Rattle.ff_steps.specs.Links.{edge_at, ends_at, knowns_at, rooms_at, known_over}
use Rattle.ff_steps.specs.NetCores.{IsNetCore, port_row, port_rows}
use Rattle.ff_steps.specs.NetUnits.{NetState, net_does, opening_net}
use Rattle.ff_steps.specs.OverEdges.{RanAlong}
use Rattle.ff_steps.specs.Parties.{Feeder, Drainer, DrainerStep, opening_drainer, AsUnit, AsFeeder, AsDrainer, has_ended}
use Rattle.ff_steps.specs.PlanUnits.{opened_unit}
use Rattle.ff_steps.specs.Wiring.{Row, row_at, feeder_row, drainer_row}
use Rattle.ff_steps.proofs.CoreSteps.{row-behind}
use Rattle.ff_steps.proofs.DrainerRuns.{IsEnded, IsEnded-drainer}
use Rattle.ff_steps.proofs.FeederRuns.{HasFed, HasFed-run, feeder_tail}
use Rattle.ff_steps.proofs.Heads.{head-same, tail-same}
use Rattle.ff_steps.proofs.NetRuns.{RanOver-core, run-feeder, run-drainer}
use Rattle.ff_steps.proofs.PartyAt.{length-parties, party-unit, party-feeder, party-drainer}
use Rattle.ff_steps.proofs.Ports.{each-port}
use Rattle.ff_steps.proofs.PutsOpen.{EndsOnce, EndsOnce-ran, open-net}
use Rattle.ff_steps.proofs.Shapes.{HasShape, IsShaped, shapes-lay}
use Rattle.ff_sweeps.proofs.Moments.{Moment, InOrder, Dry, Closed, IsStuck, AllEnded, Passed}
use Rattle.ff_unit.proofs.Rests.{HasEnd}
use Rattle.ff_unit.proofs.Rests.{AtRest}
use Rattle.ff_unit.proofs.HasEnds.{HasEnd-right, HasEnd-either, open-no_end}
use Rattle.ff_sweeps.proofs.Stuck.{passes_net}
use Rattle.ff_sweeps.proofs.Cores.{PartyRests, CannotMove, CanRun}
use Rattle.ff_sweeps.proofs.EdgeStuck.{Knows, known_by, Asks, kind_stuck}
use Rattle.ff_sweeps.proofs.UnitRests.{IsPlainShape, unit_rests}

-- behind an end nothing more was put
ended_all : (g rest front back : List Message) → g ++ rest ≡ front ++ back → IsOpen front → length back ≤ 1 → HasEnd g → rest ≡ []
ended_all [] rest front back is inner few end = absurd end
ended_all (m ∷ g) rest [] back is inner few end =
    nil_from_length rest (omega (arith, few, ap length is, length-append (m ∷ g) rest))
ended_all (m ∷ g) rest (f ∷ front) back is inner few end = elim (HasEnd-either (m ∷ []) g end) [
  | inl here ↦ absurd (open-no_end (f ∷ []) (inner.0, tt) (subst (λ (x : Message). HasEnd (x ∷ [])) (head-same is) here))
  | inr later ↦ ended_all g rest front back (tail-same is) inner.1 few later
]

-- a drainer that hasn't ended took no end
drainer_open : (d : Drainer) (gots puts : List (List Message)) → HasRun DrainerStep opening_drainer 1 0 d gots puts → d.done ≡ false → HasEnd (at gots 0) → ⊥
drainer_open d gots puts run = (HasRun-keeps DrainerStep Inv opening_drainer 1 0 (refl, λ off end. end) step d gots puts run).1
  where
    Inv : Drainer → List (List Message) → List (List Message) → Type 0
    Inv e gs ps = (length gs ≡ 1) × (e.done ≡ false → HasEnd (at gs 0) → ⊥)

    inner : (u v : Drainer) (gs : List (List Message)) (k : ℕ) (m : Message) → k ≡ 0 → u.done ≡ false → (HasEnd (m ∷ []) → ⊥) → Inv u gs [] → Inv v (took (Took k m) gs) []
    inner u v gs k m first going open_one h =
        let some : 0 < length gs = omega (arith, h.0) in
        subst (λ j. Inv v (took (Took j m) gs) []) (sym first) (
          length-added gs 0 m ∙ h.0,
          λ off end. elim (HasEnd-either (at gs 0) (m ∷ []) (subst HasEnd (at-added gs 0 m some) end)) [ inl before ↦ h.1 going before | inr here ↦ open_one here ],
        )

    last : (u v : Drainer) (gs : List (List Message)) (k : ℕ) (m : Message) → v.done ≡ true → Inv u gs [] → Inv v (took (Took k m) gs) []
    last u v gs k m done h = (length-added gs k m ∙ h.0, λ off. absurd (false≢true (sym off ∙ done)))

    step : (u : Drainer) (gs ps : List (List Message)) (act : Act) (v : Drainer) → Inv u gs ps → DrainerStep u act v → Inv v (took act gs) (gave act ps)
    step u gs ps (Took k (Item x)) v h s = inner u v gs k (Item x) s.0 s.1 (λ e. e) h
    step u gs ps (Took k Mark) v h s = inner u v gs k Mark s.0 s.1 (λ e. e) h
    step u gs ps (Took k (Pick w)) v h s = inner u v gs k (Pick w) s.0 s.1 (λ e. e) h
    step u gs ps (Took k Eos) v h s = last u v gs k Eos (ap (λ (x : Drainer). x.done) s.2) h
    step u gs ps (Took k Abort) v h s = last u v gs k Abort (ap (λ (x : Drainer). x.done) s.2) h
    step u gs ps (Gave k m) v h s = absurd s
    step u gs ps Refused v h s = absurd s
    step u gs ps Idle v h s = subst (λ (x : Drainer). Inv x gs ps) (sym s) h
    step u gs ps Told v h s = absurd s
    step u gs ps (Handed x) v h s = absurd s

-- an ended list has an end
pub ended-has : (ms : List Message) → IsEnded ms → HasEnd ms
ended-has ms e = subst HasEnd (sym e.is) (HasEnd-right e.front (e.last ∷ []) (last_end e.last e.ends))
  where
    last_end : (m : Message) → (IsOpenMsg m → ⊥) → HasEnd (m ∷ [])
    last_end (Item x) ends = absurd (ends tt)
    last_end Mark ends = absurd (ends tt)
    last_end (Pick w) ends = absurd (ends tt)
    last_end Eos ends = tt
    last_end Abort ends = tt

-- whether a party has ended
known_done : (done : Bool) → (done ≡ true) ⊎ (done ≡ false)
known_done true = inl refl
known_done false = inr refl

-- the sides of some rows
of-map : {A B : Type 0} (f : A → B) (P : B → Type 0) (xs : List A) → AllByRecursion P (map f xs) → AllByRecursion (λ x. P (f x)) xs
of-map f P [] each = tt
of-map f P (x ∷ xs) each = (each.0, of-map f P xs each.1)

-- maps that agree on the places of a list
map-same : (f g : ℕ → ℕ) (es : List ℕ) → ((k : ℕ) → k < length es → f (slice_index es k) ≡ g (slice_index es k)) → map f es ≡ map g es
map-same f g [] same = refl
map-same f g (e ∷ es) same = ap₂ (λ x xs. x ∷ xs) (same 0 (omega arith)) (map-same f g es (λ k below. same (suc k) (omega (arith, below))))

map-ends : {A : Type 0} (f : Queue _ → A) (es : List (Queue _)) (ks : List ℕ) → map f (ends_at es ks) ≡ map (λ e. f (edge_at es e)) ks
map-ends f es [] = refl
map-ends f es (k ∷ ks) = ap (λ l. f (edge_at es k) ∷ l) (map-ends f es ks)

-- the shapes that are asked for
shape_plain : {N : Type 0} (b : Behaviour N) (kind : UnitKind) (t : Tree N) (n k : ℕ) → IsShaped b kind t n k → IsPlainShape kind n k
shape_plain b Stage t n k s = s
shape_plain b DealRr t n k s = s.0
shape_plain b DealOd t n k s = tt
shape_plain b (DealBy f) t n k s = s.0
shape_plain b Merge t n k s = s.1
shape_plain b ODealRr t n k s = s.0
shape_plain b ODealOd t n k s = tt
shape_plain b OMergeTurn t n k s = s.1
shape_plain b OMergePick t n k s = tt
shape_plain b Master t n k s = tt
shape_plain b Worker t n k s = tt

shape_asks : {N : Type 0} (b : Behaviour N) (v : Moment) (inside room : ℕ → ℕ) (knows : Knows v inside room) (row : PlanRow) (done : Bool) (ends : done ≡ true → v.Ended row) (kind : UnitKind) (t : Tree N)
    → IsShaped b kind t (length row.ins) (length row.outs) → Asks v inside room knows row done ends kind
shape_asks b v inside room knows row done ends Stage t s = s
shape_asks b v inside room knows row done ends DealRr t s = tt
shape_asks b v inside room knows row done ends DealOd t s = tt
shape_asks b v inside room knows row done ends (DealBy f) t s = tt
shape_asks b v inside room knows row done ends Merge t s = tt
shape_asks b v inside room knows row done ends ODealRr t s = s.0
shape_asks b v inside room knows row done ends ODealOd t s = tt
shape_asks b v inside room knows row done ends OMergeTurn t s = s.0.0
shape_asks b v inside room knows row done ends OMergePick t s = tt
shape_asks b v inside room knows row done ends Master t s = tt
shape_asks b v inside room knows row done ends Worker t s = tt

-- each unit has an out
shape_some : {N : Type 0} (b : Behaviour N) (kind : UnitKind) (t : Tree N) (n k : ℕ) → IsShaped b kind t n k → 0 < k
shape_some b Stage t n k s = omega (arith, s.1)
shape_some b DealRr t n k s = omega (arith, s.1.0)
shape_some b DealOd t n k s = omega (arith, s.1.0)
shape_some b (DealBy f) t n k s = omega (arith, s.1.0)
shape_some b Merge t n k s = omega (arith, s.1)
shape_some b ODealRr t n k s = omega (arith, s.1.0)
shape_some b ODealOd t n k s = omega (arith, s.1.is)
shape_some b OMergeTurn t n k s = omega (arith, s.1)
shape_some b OMergePick t n k s = omega (arith, s.1)
shape_some b Master (Leaf o) n k s = absurd s
shape_some b Master (Pipe ts) n k s = absurd s
shape_some b Master (Comb ts) n k s = absurd s
shape_some b Master (Farm c p w) n k s = absurd s
shape_some b Master (OFarm c p w) n k s = absurd s
shape_some b Master (A2a c l r j w) n k s = absurd s
shape_some b Master (Wrap c w p) n k s = omega (arith, s.2)
shape_some b Worker t n k s = omega (arith, s.1)

some_outs : {N : Type 0} (b : Behaviour N) (ls : List (Laid N)) → AllByRecursion (HasShape b) ls → AllByRecursion (λ (l : Laid N). 0 < length l.row.outs) ls
some_outs b [] shapes = tt
some_outs b (l ∷ ls) shapes = (shape_some b l.row.kind l.net (length l.row.ins) (length l.row.outs) shapes.0, some_outs b ls shapes.1)

-- all parties have ended where each has
pub all_done : {U : Type 0} (d : Doing U) (us : List U) (f : Feeder) (e : Drainer) → ((i : ℕ) (u : U) → i < length us → d.done (slice_index_or us i u) ≡ true) → f.done ≡ true → e.done ≡ true
    → list_all (has_ended d) (map (λ u. AsUnit u) us ++ AsFeeder f ∷ AsDrainer e ∷ []) ≡ true
all_done d [] f e each fed drained = rw (fed, drained) refl
all_done d (u ∷ us) f e each fed drained =
    let first : d.done u ≡ true = each 0 u (omega arith) in
    rw first (all_done d us f e (λ i w low. each (suc i) w (omega (arith, low))) fed drained)

module _ {N : Type 0} (b : Behaviour N) (laws : IsUnit (net_does b)) (m : ℕ) (keep : Bool) (t : Tree N) (good : Good b t)
    (c : CoreState (NetState N)) (is : IsNetCore b m keep t c) (sound : IsSound (net_does b) c) (run : CanRun b t c) where
  pub joined : IsJoined t
  joined = is_joined b t good

  abbrev got : ℕ → List Message
  got e = (edge c e).got

  abbrev put : ℕ → List Message
  put e = put_of (edge c e)

  -- the units whose row this is have ended
  abbrev v : Moment
  v = record { got = got; put = put; Ended = λ row. (i : ℕ) (u : NetState N) → i < length c.units → row_at (port_rows t) i ≡ port_row row → (net_does b).done (slice_index_or c.units i u) ≡ true }

  in_order : InOrder v
  in_order e = ((edge c e).inside, refl)

  -- nothing is put behind an end
  once-along : (rows : List PlanRow) (us : List (NetState N)) → RanAlong (net_does b) got put rows us → AllByRecursion (AllByRecursion (λ e. EndsOnce (put e))) (unit_outs rows)
  once-along [] us ran = tt
  once-along (row ∷ rows) [] ran = absurd ran
  once-along (row ∷ rows) (u ∷ us) ran = (
    of-map put EndsOnce row.outs (EndsOnce-ran (net_does b) laws (open-net b) u (map got row.ins) (map put row.outs) ran.0),
    once-along rows us ran.1,
  )

  fed : HasFed c.input c.feeder (put 0 ∷ [])
  fed = HasFed-run c.input c.feeder [] (put 0 ∷ []) (run-feeder b m keep t c is sound)

  pub once-edge : (e : ℕ) → e < edges t → EndsOnce (put e)
  once-edge zero low = record {
    front = carried fed.sent;
    back = feeder_tail c.feeder.done c.feeder.refused;
    is = head-same fed.puts_are;
    inner = IsOpen-carried fed.sent;
    few = tail_few c.feeder.done c.feeder.refused;
  }
    where
      tail_few : (done refused : Bool) → length (feeder_tail done refused) ≤ 1
      tail_few false refused = omega arith
      tail_few true false = omega arith
      tail_few true true = omega arith
  once-edge (suc e) low =
      let j = joined.written (suc e) low (λ h. omega (arith, h)) in
      each-port (λ f. EndsOnce (put f)) (unit_outs (rows_of t)) (suc e) j.party j.port (once-along (rows_of t) c.units (RanOver-core b m keep t c is sound).ran) j.at

  -- an edge that isn't one
  pub no_edge : (es : List (Queue _)) (e : ℕ) → length es ≤ e → edge_at es e ≡ empty_queue 0
  no_edge [] e beyond = refl
  no_edge (q ∷ es) zero beyond = absurd (omega (arith, beyond))
  no_edge (q ∷ es) (suc e) beyond = no_edge es e (omega (arith, beyond))

  pub dry_end : (e : ℕ) → HasEnd (got e) → Dry v e
  dry_end e end = by (cases_lt e (edges t))
    where
      by : (e < edges t) ⊎ (edges t ≤ e) → Dry v e
      by (inr beyond) = absurd (subst HasEnd (ap (λ (q : Queue _). q.got) (no_edge c.edges e (omega (arith, beyond, run.many)))) end)
      by (inl low) =
          let once = once-edge e low in
          let none = ended_all (got e) (edge c e).inside once.front once.back once.is once.inner once.few end in
          ap (λ l. got e ++ l) none ∙ append-nil (got e)

  abbrev inside : ℕ → ℕ
  inside e = length (edge c e).inside

  abbrev room : ℕ → ℕ
  room e = if ltb e (edges t) then room_of (edge c e) else 1

  room-within : (e : ℕ) → e < edges t → room e ≡ room_of (edge c e)
  room-within e low = rw (lt-ltb e (edges t) low) refl

  dry-none : (e : ℕ) → Dry v e → inside e ≡ 0
  dry-none e dry = let all : length (got e ++ (edge c e).inside) ≡ length (got e) = ap length dry in omega (arith, all, length-append (got e) (edge c e).inside)

  knows : Knows v inside room
  knows = record {
    none = λ e none. ap (λ l. got e ++ l) (nil_from_length (edge c e).inside none) ∙ append-nil (got e);
    ended = dry_end;
    full = λ e full dry. by e dry full (cases_lt e (edges t));
  }
    where
      by : (e : ℕ) → Dry v e → room e ≡ 0 → (e < edges t) ⊎ (edges t ≤ e) → ⊥
      by e dry full (inl low) = omega (arith, run.caps e low, dry-none e dry, sym (room-within e low) ∙ full)
      by e dry full (inr beyond) = let h : 1 ≡ 0 = subst (λ (x : Bool). (if x then room_of (edge c e) else 1) ≡ 0) (le-ltb e (edges t) beyond) full in omega (arith, h)

  -- the rows of the units
  pub length-units : length (port_rows t) ≡ length c.units
  length-units = omega (arith, sound.rows_are, length-parties c, ap length is.rows, length-append (port_rows t) (feeder_row ∷ drainer_row ∷ []))

  row-unit : (i : ℕ) → i < length c.units → row_at c.rows i ≡ row_at (port_rows t) i
  row-unit i low =
      ap (λ rows. row_at rows i) is.rows
      ∙ get_or_append_left (port_rows t) (feeder_row ∷ drainer_row ∷ []) (record { ins = []; outs = [] }) i (omega (arith, low, length-units))

  row-low : (i : ℕ) → i < length c.units → i < length c.rows
  row-low i low = omega (arith, low, sound.rows_are, length-parties c)

  -- what a unit knows of its edges
  known-unit : (i : ℕ) → i < length c.units → known_at c i ≡ known_by inside room (row_at c.rows i).ins (row_at c.rows i).outs
  known-unit i low =
      let row = row_at c.rows i in
      let first : knowns_at c.edges row.ins ≡ map inside row.ins = map-ends (λ q. length q.inside) c.edges row.ins in
      let second : rooms_at c.edges row.outs ≡ map room row.outs =
      map-ends (λ q. room_of q) c.edges row.outs
      ∙ map-same (λ e. room_of (edge c e)) room row.outs (λ k below.
      let inner = sound.wired.outs_within i k (row-low i low) below in
      sym (room-within (slice_index row.outs k) (omega (arith, inner, run.many)))) in
      λ j. record { knowns = first j; rooms = second j; waiting = 0 }

  -- an edge has one writer
  one_unit : (i j : ℕ) → i < length c.units → j < length c.units → 0 < length (row_at (port_rows t) i).outs → row_at (port_rows t) j ≡ row_at (port_rows t) i → j ≡ i
  one_unit i j i_low j_low some same =
      let here = row-unit i i_low in
      let there = row-unit j j_low in
      let outs : (row_at c.rows j).outs ≡ (row_at c.rows i).outs = ap (λ (r : Row). r.outs) (there ∙ same ∙ sym here) in
      let some_i : 0 < length (row_at c.rows i).outs = subst (λ (r : Row). 0 < length r.outs) (sym here) some in
      let some_j : 0 < length (row_at c.rows j).outs = subst (λ es. 0 < length es) (sym outs) some_i in
      (sound.wired.one_writer j i 0 0 (row-low j j_low) (row-low i i_low) some_j some_i (ap (λ es. slice_index es 0) outs)).0

  abbrev EndedAt : Row → Type 0
  EndedAt row = (i : ℕ) (u : NetState N) → i < length c.units → row_at (port_rows t) i ≡ row → (net_does b).done (slice_index_or c.units i u) ≡ true

  -- of a unit with its row
  abbrev Fact : Row → NetState N → Type 0
  Fact row u =
      AtRest (net_does b) u (known_by inside room row.ins row.outs) (known_by inside room row.ins row.outs)
      × ((net_does b).told u ≡ false) × (0 < length row.outs → (net_does b).done u ≡ true → EndedAt row)

  abbrev FactAlong : List (Laid N) → List (NetState N) → Type 0
  FactAlong [] us = Unit {0}
  FactAlong (l ∷ ls) [] = Unit {0}
  FactAlong (l ∷ ls) (u ∷ us) = Fact (port_row l.row) u × FactAlong ls us

  fact_along : (ls : List (Laid N)) (us : List (NetState N)) → ((i : ℕ) (u : NetState N) → i < length us → Fact (row_at (map port_row (map (λ (l : Laid N). l.row) ls)) i) (slice_index_or us i u)) → FactAlong ls us
  fact_along [] us each = tt
  fact_along (l ∷ ls) [] each = tt
  fact_along (l ∷ ls) (u ∷ us) each = (each 0 u (omega arith), fact_along ls us (λ i w low. each (suc i) w (omega (arith, low))))

  stuck_along : (ls : List (Laid N)) (us : List (NetState N)) → map (opening_net b) us ≡ map (opened_unit b m keep) ls → AllByRecursion (HasShape b) ls
      → AllByRecursion (λ (l : Laid N). 0 < length l.row.outs) ls
      → RanAlong (net_does b) got put (map (λ (l : Laid N). l.row) ls) us → FactAlong ls us → AllByRecursion (IsStuck v) ls
  stuck_along [] us made shapes some ran facts = tt
  stuck_along (l ∷ ls) [] made shapes some ran facts = absurd ran
  stuck_along (l ∷ ls) (u ∷ us) made shapes some ran facts =
      let row = l.row in
      let fact = facts.0 in
      let known = known_by inside room row.ins row.outs in
      let rests = unit_rests b laws m keep l.net (length row.ins) (length row.outs) (map got row.ins) (map put row.outs) known known refl row.kind u
      (shape_plain b row.kind l.net (length row.ins) (length row.outs) shapes.0) (head-same made) ran.0 fact.1 fact.0 in
      let done = (net_does b).done u in
      let ends : done ≡ true → v.Ended row = fact.2 some.0 in (
        kind_stuck v inside room knows row done ends row.kind (shape_asks b v inside room knows row done ends row.kind l.net shapes.0) rests,
        stuck_along ls us (tail-same made) shapes.1 some.1 ran.1 facts.1,
      )

  module _ (still : CannotMove (net_does b) c) where
    fact-unit : (i : ℕ) (u : NetState N) → i < length c.units → Fact (row_at (port_rows t) i) (slice_index_or c.units i u)
    fact-unit i u low =
        let w = slice_index_or c.units i u in
        let rests : AtRest (net_does b) w (known_at c i) (known_at c i) =
        subst (PartyRests (net_does b) (known_at c i)) (party-unit c i u low) (still i (omega (arith, low, length-parties c))) in
        let known = known-unit i low ∙ ap (λ (r : Row). known_by inside room r.ins r.outs) (row-unit i low) in (
          subst (λ k. AtRest (net_does b) w k k) known rests,
          run.untold i u low,
          λ some done j x j_low same.
              let one = one_unit i j low j_low some same in
              subst (λ n. (net_does b).done (slice_index_or c.units n x) ≡ true) (sym one) (subst (λ y. (net_does b).done y ≡ true) (get_or_default c.units i u x low) done),
        )

    module _ (fixed : has_choice t ≡ false) where
      stuck : AllByRecursion (IsStuck v) (units_of t)
      stuck =
          let shapes = shapes-lay b t good [] 0 1 2 in
          stuck_along (units_of t) c.units (sound.made_of ∙ is.made) shapes (some_outs b (units_of t) shapes)
          (RanOver-core b m keep t c is sound).ran (fact_along (units_of t) c.units fact-unit)

      -- the rows of the feeder and the drainer
      feeder_at : row_at c.rows (length c.units) ≡ feeder_row
      feeder_at = ap (λ rows. row_at rows (length c.units)) is.rows ∙ row-behind (port_rows t) (length c.units) 0 (omega (arith, length-units))

      drainer_at : row_at c.rows (suc (length c.units)) ≡ drainer_row
      drainer_at = ap (λ rows. row_at rows (suc (length c.units))) is.rows ∙ row-behind (port_rows t) (suc (length c.units)) 1 (omega (arith, length-units))

      feeder_rests : (c.feeder.done ≡ true) ⊎ (room_of (edge c 0) ≡ 0)
      feeder_rests =
          subst (λ (r : Row). PartyRests (net_does b) (known_over c.edges r) (AsFeeder c.feeder)) feeder_at
          (subst (PartyRests (net_does b) (known_at c (length c.units))) (party-feeder c (length c.units) refl) (still (length c.units) (omega (arith, length-parties c))))

      drainer_rests : (c.drainer.done ≡ true) ⊎ (inside 1 ≡ 0)
      drainer_rests =
          subst (λ (r : Row). PartyRests (net_does b) (known_over c.edges r) (AsDrainer c.drainer)) drainer_at
          (subst (PartyRests (net_does b) (known_at c (suc (length c.units)))) (party-drainer c (length c.units) refl) (still (suc (length c.units)) (omega (arith, length-parties c))))

      -- the drainer took all that came
      drainer_dry : Dry v 1
      drainer_dry = elim drainer_rests [
        | inl done ↦ dry_end 1 (ended-has (got 1) (IsEnded-drainer c.drainer (got 1 ∷ []) [] (run-drainer b m keep t c is sound) done))
        | inr none ↦ knows.none 1 none
      ]

      -- so all units passed on what came
      passed : Passed v (0 ∷ []) (1 ∷ []) (AllEnded v (units_of t))
      passed = passes_net b v in_order t good fixed [] 0 1 2 stuck (drainer_dry, tt)

      -- and the feeder has ended
      feeder_done : c.feeder.done ≡ true
      feeder_done = elim feeder_rests [
        | inl done ↦ done
        | inr full ↦
            let low : 0 < edges t = omega arith in
            absurd (knows.full 0 (room-within 0 low ∙ full) passed.dry.0)
      ]

      fed_end : Closed v 0
      fed_end =
          subst HasEnd (sym (head-same fed.puts_are))
          (HasEnd-right (carried fed.sent) (feeder_tail c.feeder.done c.feeder.refused)
          (subst (λ done. HasEnd (feeder_tail done c.feeder.refused)) (sym feeder_done) (tail_end c.feeder.refused)))
        where
          tail_end : (refused : Bool) → HasEnd (feeder_tail true refused)
          tail_end false = tt
          tail_end true = tt

      all : AllByRecursion (Closed v) (1 ∷ []) × AllEnded v (units_of t)
      all = passed.ends (fed_end, tt)

      drainer_done : c.drainer.done ≡ true
      drainer_done = elim (known_done c.drainer.done) [
        | inl done ↦ done
        | inr going ↦ absurd (drainer_open c.drainer (got 1 ∷ []) [] (run-drainer b m keep t c is sound) going (subst HasEnd drainer_dry all.0.0))
      ]

      ended_index : (ls : List (Laid N)) → AllEnded v ls → (i : ℕ) → i < length ls → EndedAt (row_at (map port_row (map (λ (l : Laid N). l.row) ls)) i)
      ended_index [] ended i low = absurd (omega (arith, low))
      ended_index (l ∷ ls) ended zero low = ended.0
      ended_index (l ∷ ls) ended (suc i) low = ended_index ls ended.1 i (omega (arith, low))

      unit_done : (i : ℕ) (u : NetState N) → i < length c.units → (net_does b).done (slice_index_or c.units i u) ≡ true
      unit_done i u low =
          let many : length (units_of t) ≡ length c.units =
          sym (length-map (units_of t) (λ (l : Laid N). l.row)) ∙ sym (length-map (rows_of t) port_row) ∙ length-units in
          ended_index (units_of t) all.1 i (omega (arith, low, many)) i u low refl

      pub all_have_ended : all_ended (net_does b) c ≡ true
      all_have_ended = all_done (net_does b) c.units c.feeder c.drainer unit_done feeder_done drainer_done
