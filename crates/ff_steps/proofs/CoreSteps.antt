-- A step of a party, over the parts of a core, is a step of the core.
use Rattle.std.proofs.Common.{◌≡◌, ℕ, zero, suc, ◌+◌, ◌<◌, List, [], ◌∷◌, ◌++◌, length, map, slice_index, slice_index_or, slice_set, refl, sym, ap, ◌∙◌, subst, arith, get_or-set_same, length-set, length-append}
use Rattle.std.proofs.Math.Seq.{map-set_same}
use Rattle.std.proofs.lemmas.List.{get_or_append_left}
use Rattle.ff_rec.specs.Lines.{Rec}
use Rattle.ff_node.specs.Runs.{Act, Took, Gave, Refused, Idle, Told, Handed, took, gave}
use Rattle.ff_port.specs.Queues.{Queue, put_of, room_of}
use Rattle.ff_unit.specs.Units.{Doing, IsUnit, Ran}
use Rattle.ff_steps.specs.Core.{CoreState, parties, party, gots_of, puts_of, IsSound}
use Rattle.ff_steps.specs.Events.{CoreStep, Stalls}
use Rattle.ff_steps.specs.Links.{edge_at, gots_at, puts_at, known_over}
use Rattle.ff_steps.specs.Moves.{UnitMoves, FeederMoves, DrainerMoves, feeder_of, drainer_of}
use Rattle.ff_steps.specs.Parties.{Party, Feeder, Drainer, AsUnit, AsFeeder, AsDrainer, PartyStep, PartyRan, FeederStep, DrainerStep}
use Rattle.ff_steps.specs.Seen.{core_of}
use Rattle.ff_steps.specs.Wiring.{Row, row_at, IsWired, IsPortRow, all_rows, feeder_row, drainer_row}
use Rattle.ff_steps.specs.declared.drainer.Drainer.{Drainer as Draining}
use Rattle.ff_steps.specs.declared.feeder.Feeder.{Feeder as Feeding}
use Rattle.ff_steps.proofs.EdgesKept.{EdgesKeep-rest, EdgesKeep-to, EdgesKeep-from}
use Rattle.ff_steps.proofs.Others.{others-unit, others-feeder, others-drainer, Stalls-unit, Stalls-feeder, Stalls-drainer}
use Rattle.ff_steps.proofs.PartyAt.{length-parties, party-unit, party-feeder, party-drainer}

-- a step of the parties, told of the parties that stand at `p`
pub PartyStep-at : {U : Type 0} (b : Doing U) (act : Act) {q r x y : Party U} → q ≡ x → r ≡ y → PartyStep b x act y → PartyStep b q act r
PartyStep-at b act {q} {r} {x} {y} old new step = subst (λ z. PartyStep b z act r) (sym old) (subst (λ z. PartyStep b x act z) (sym new) step)

Stalls-at : {U : Type 0} (b : Doing U) (c c' : CoreState U) (p : ℕ) (act : Act) {q r x y : Party U} → q ≡ x → r ≡ y → Stalls b c c' p x y act → Stalls b c c' p q r act
Stalls-at b c c' p act {q} {r} {x} {y} old new step = subst (λ z. Stalls b c c' p z r act) (sym old) (subst (λ z. Stalls b c c' p x z act) (sym new) step)

-- what a party's ports saw, by its row
gots_of-row : {U : Type 0} (c : CoreState U) (p : ℕ) (row : Row) → row_at c.rows p ≡ row → gots_of c p ≡ gots_at c.edges row.ins
gots_of-row c p row is = ap (λ (r : Row). gots_at c.edges r.ins) is

puts_of-row : {U : Type 0} (c : CoreState U) (p : ℕ) (row : Row) → row_at c.rows p ≡ row → puts_of c p ≡ puts_at c.edges row.outs
puts_of-row c p row is = ap (λ (r : Row). puts_at c.edges r.outs) is

-- the rows behind those of the units
pub row-behind : (rows : List Row) (p i : ℕ) → p ≡ length rows + i → row_at (all_rows rows) p ≡ row_at (feeder_row ∷ drainer_row ∷ []) i
row-behind [] p i e = let same : p ≡ i = omega (arith, e) in ap (λ n. row_at (feeder_row ∷ drainer_row ∷ []) n) same
row-behind (r ∷ rows) zero i e = absurd (omega (arith, e))
row-behind (r ∷ rows) (suc p) i e = row-behind rows p i (omega (arith, e))

-- the row of one party keeps no edge twice
pub IsPortRow-wired : (rows : List Row) (edges p : ℕ) → IsWired rows edges → p < length rows → IsPortRow (row_at rows p) edges
IsPortRow-wired rows edges p wired low = record {
  ins_within = λ i i_low. wired.ins_within p i low i_low;
  outs_within = λ i i_low. wired.outs_within p i low i_low;
  ins_differ = λ i j i_low j_low same. (wired.one_reader p p i j low low i_low j_low same).1;
  outs_differ = λ i j i_low j_low same. (wired.one_writer p p i j low low i_low j_low same).1;
  apart = λ i j i_low j_low same. wired.no_loop p i j low i_low j_low same;
}

-- the feeder takes nothing, and the drainer gives nothing
took-feeder : (f : Feeder) (act : Act) (g : Feeder) → FeederStep f act g → [] ≡ took act []
took-feeder f (Took k m) g step = absurd step
took-feeder f (Gave k m) g step = refl
took-feeder f Refused g step = refl
took-feeder f Idle g step = refl
took-feeder f Told g step = refl
took-feeder f (Handed x) g step = refl

gave-drainer : (d : Drainer) (act : Act) (e : Drainer) → DrainerStep d act e → [] ≡ gave act []
gave-drainer d (Took k m) e step = refl
gave-drainer d (Gave k m) e step = absurd step
gave-drainer d Refused e step = refl
gave-drainer d Idle e step = refl
gave-drainer d Told e step = refl
gave-drainer d (Handed x) e step = refl

module _ {U : Type 0} (b : Doing U) (rows : List Row) (edges : List (Queue Rec)) (units : List U) (f : Feeding) (d : Draining) where
  abbrev c : CoreState U
  c = core_of b rows edges units f d

  module _ (sound : IsSound b (core_of b rows edges units f d)) where
    pub length-rows : length rows ≡ length units
    length-rows = omega (arith, sound.rows_are, length-parties c, length-append rows (feeder_row ∷ drainer_row ∷ []))

    -- the rows of the units, the feeder and the drainer
    pub row-unit : (p : ℕ) → p < length units → row_at (all_rows rows) p ≡ row_at rows p
    row-unit p low = get_or_append_left rows (feeder_row ∷ drainer_row ∷ []) (record { ins = []; outs = [] }) p (subst (λ n. p < n) (sym length-rows) low)

    pub row-feeder : row_at (all_rows rows) (length units) ≡ feeder_row
    row-feeder = row-behind rows (length units) 0 (omega (arith, length-rows))

    pub row-drainer : row_at (all_rows rows) (suc (length units)) ≡ drainer_row
    row-drainer = row-behind rows (suc (length units)) 1 (omega (arith, length-rows))

    low-row : (p : ℕ) → p < length (parties c) → p < length c.rows
    low-row p low = subst (λ n. p < n) (sym sound.rows_are) low

    -- the feeder and the drainer have their edges
    pub some-edges : (0 < length edges) × (1 < length edges)
    some-edges = (
      subst (λ (r : Row). (i : ℕ) → i < length r.outs → slice_index r.outs i < length edges) row-feeder
          (λ i i_low. sound.wired.outs_within (length units) i (low-row (length units) (omega (arith, length-parties c))) i_low) 0 (omega arith),
      subst (λ (r : Row). (i : ℕ) → i < length r.ins → slice_index r.ins i < length edges) row-drainer
          (λ i i_low. sound.wired.ins_within (suc (length units)) i (low-row (suc (length units)) (omega (arith, length-parties c))) i_low) 0 (omega arith),
    )

    -- a unit has its ports and its run at its row
    pub IsPortRow-unit : (p : ℕ) → p < length units → IsPortRow (row_at rows p) (length edges)
    IsPortRow-unit p low =
        subst (λ r. IsPortRow r (length edges)) (row-unit p low)
        (IsPortRow-wired (all_rows rows) (length edges) p sound.wired (low-row p (omega (arith, low, length-parties c))))

    pub ran-unit : (p : ℕ) → p < length units → (u : U) → u ≡ slice_index_or units p u
        → Ran b u (gots_at edges (row_at rows p).ins) (puts_at edges (row_at rows p).outs)
    ran-unit p low u is =
        subst (λ (r : Row). Ran b u (gots_at edges r.ins) (puts_at edges r.outs)) (row-unit p low)
        (subst (λ q. PartyRan b f.input q (gots_of c p) (puts_of c p)) (party-unit c p u low ∙ ap (λ x. AsUnit x) (sym is))
        (sound.ran p (omega (arith, low, length-parties c))))

    -- so has the feeder, and the drainer
    pub ran-feeder : PartyRan b f.input (AsFeeder (feeder_of f)) [] (put_of (edge_at edges 0) ∷ [])
    ran-feeder =
        subst (λ (r : Row). PartyRan b f.input (AsFeeder (feeder_of f)) (gots_at edges r.ins) (puts_at edges r.outs)) row-feeder
        (subst (λ q. PartyRan b f.input q (gots_of c (length units)) (puts_of c (length units))) (party-feeder c (length units) refl)
        (sound.ran (length units) (omega (arith, length-parties c))))

    -- unit `p` steps
    pub CoreStep-unit : IsUnit b → (p : ℕ) (units' : List U) (edges' : List (Queue Rec)) → p < length units
        → UnitMoves b p (row_at rows p) units edges units' edges' → CoreStep b p c (core_of b rows edges' units' f d)
    CoreStep-unit laws p units' edges' low moves₀ = record {
      act = moves.act;
      steps = PartyStep-at b moves.act old_is new_is moves.steps;
      takes = moves.takes;
      gives = moves.gives;
      stalls = Stalls-at b c c' p moves.act old_is new_is (Stalls-unit b c c' p moves.old moves.new moves.act moves.answer moves.answers moves.waits);
      edges = EdgesKeep-rest p c c' moves.rest;
      others = λ q q_low ne. ap (λ us. slice_index_or (map (λ u. AsUnit u) us ++ AsFeeder c.feeder ∷ AsDrainer c.drainer ∷ []) q (AsDrainer c.drainer)) moves.is
          ∙ others-unit units (AsFeeder c.feeder ∷ AsDrainer c.drainer ∷ []) p q moves.new (AsDrainer c.drainer) ne;
      number = ap length moves.is ∙ length-set units p moves.new;
      made = (
        ap (λ us. map b.opening us) moves.is
            ∙ map-set_same b.opening units p moves.new moves.old (laws.opening_kept moves.old moves.act moves.new moves.steps ∙ ap b.opening moves.was),
        refl,
        refl,
      );
    }
      where
        c' : CoreState U
        c' = core_of b rows edges' units' f d

        moves : UnitMoves b p (row_at (all_rows rows) p) units edges units' edges'
        moves = subst (λ r. UnitMoves b p r units edges units' edges') (sym (row-unit p low)) moves₀

        old_is : party c p ≡ AsUnit moves.old
        old_is = party-unit c p moves.old low ∙ ap (λ u. AsUnit u) (sym moves.was)

        new_is : party c' p ≡ AsUnit moves.new
        new_is = party-unit c' p moves.new (subst (λ us. p < length us) (sym moves.is) (subst (λ n. p < n) (sym (length-set units p moves.new)) low))
            ∙ ap (λ u. AsUnit u) (ap (λ us. slice_index_or us p moves.new) moves.is ∙ get_or-set_same units p moves.new moves.new low)

    -- the feeder steps
    pub CoreStep-feeder : (g : Feeding) (edges' : List (Queue Rec)) → g.input ≡ f.input
        → FeederMoves (feeder_of f) (edge_at edges 0) (feeder_of g) (edge_at edges' 0) → edges' ≡ slice_set edges 0 (edge_at edges' 0)
        → CoreStep b (length units) c (core_of b rows edges' units g d)
    CoreStep-feeder g edges' kept moves is = record {
      act = moves.act;
      steps = PartyStep-at b moves.act old_is new_is moves.steps;
      takes = gots_of-row c' p feeder_row row-feeder ∙ took-feeder (feeder_of f) moves.act (feeder_of g) moves.steps ∙ ap (took moves.act) (sym (gots_of-row c p feeder_row row-feeder));
      gives = puts_of-row c' p feeder_row row-feeder ∙ moves.gives ∙ ap (gave moves.act) (sym (puts_of-row c p feeder_row row-feeder));
      stalls = Stalls-at b c c' p moves.act old_is new_is (Stalls-feeder b c c' p (feeder_of f) (feeder_of g) moves.act (room_of (edge_at edges 0) ≡ 0)
          (λ none. ap (λ (r : Row). slice_index (known_over edges r).rooms 0) row-feeder ∙ none) moves.stalls);
      edges = EdgesKeep-to p c c' 0 (edge_at edges' 0) row-feeder some-edges.0 is moves.got moves.cap;
      others = λ q q_low ne. others-feeder units (AsFeeder (feeder_of g)) (AsFeeder (feeder_of f)) (AsDrainer c.drainer ∷ []) q (AsDrainer c.drainer) ne;
      number = refl;
      made = (refl, kept, refl);
    }
      where
        p : ℕ
        p = length units

        c' : CoreState U
        c' = core_of b rows edges' units g d

        old_is : party c p ≡ AsFeeder (feeder_of f)
        old_is = party-feeder c p refl

        new_is : party c' p ≡ AsFeeder (feeder_of g)
        new_is = party-feeder c' p refl

    -- the drainer steps
    pub CoreStep-drainer : (e : Draining) (edges' : List (Queue Rec))
        → DrainerMoves (drainer_of d) (edge_at edges 1) (drainer_of e) (edge_at edges' 1) → edges' ≡ slice_set edges 1 (edge_at edges' 1)
        → CoreStep b (suc (length units)) c (core_of b rows edges' units f e)
    CoreStep-drainer e edges' moves is = record {
      act = moves.act;
      steps = PartyStep-at b moves.act old_is new_is moves.steps;
      takes = gots_of-row c' p drainer_row row-drainer ∙ moves.takes ∙ ap (took moves.act) (sym (gots_of-row c p drainer_row row-drainer));
      gives = puts_of-row c' p drainer_row row-drainer ∙ gave-drainer (drainer_of d) moves.act (drainer_of e) moves.steps ∙ ap (gave moves.act) (sym (puts_of-row c p drainer_row row-drainer));
      stalls = Stalls-at b c c' p moves.act old_is new_is (Stalls-drainer b c c' p (drainer_of d) (drainer_of e) moves.act ((edge_at edges 1).inside ≡ [])
          (λ none. ap (λ (r : Row). slice_index (known_over edges r).knowns 0) row-drainer ∙ ap length none) moves.stalls);
      edges = EdgesKeep-from p c c' 1 (edge_at edges' 1) row-drainer some-edges.1 is moves.put moves.cap;
      others = λ q q_low ne. others-drainer units (AsFeeder c.feeder) (AsDrainer (drainer_of e)) (AsDrainer (drainer_of d)) q (subst (λ n. q < n) (length-parties c) q_low) ne;
      number = refl;
      made = (refl, refl, refl);
    }
      where
        p : ℕ
        p = suc (length units)

        c' : CoreState U
        c' = core_of b rows edges' units f e

        old_is : party c p ≡ AsDrainer (drainer_of d)
        old_is = party-drainer c (length units) refl

        new_is : party c' p ≡ AsDrainer (drainer_of e)
        new_is = party-drainer c' (length units) refl

-- other units that were the same before their first steps
pub core_of-units : {U : Type 0} (b : Doing U) (rows : List Row) (edges : List (Queue Rec)) (units units' : List U) (f : Feeding) (d : Draining)
    → map b.opening units' ≡ map b.opening units → core_of b rows edges units' f d ≡ record (core_of b rows edges units f d) { units = units' }
core_of-units {U} b rows edges units units' f d same = ap (λ (m : List U). record (core_of b rows edges units f d) { made = m; units = units' }) same
