-- The parties of a core, and how each steps.
use Rattle.std.specs.Prelude.{◌≡◌, ◌⊎◌, Bool, true, false, List, [], ◌∷◌, ◌++◌}
use Rattle.ff_rec.specs.Lines.{Rec}
use Rattle.ff_rec.specs.declared.msg.Msg.TheVariants.{Item, Mark, Pick, Eos, Abort}
use Rattle.ff_node.specs.Runs.{Message, Act, Took, Gave, Refused, Idle, Told, Handed, HasRun}
use Rattle.ff_unit.specs.Units.{Doing, Ran}

-- the feeder: the records that it didn't put yet, whether it was refused memory, and whether it has ended
pub record Feeder : Type 0 where
  pub left : List Rec
  pub refused : Bool
  pub done : Bool

-- the drainer: the records that it took and kept, whether it was refused memory, and whether it has ended
pub record Drainer : Type 0 where
  pub output : List Rec
  pub refused : Bool
  pub done : Bool

-- `U` is what is seen of a unit
pub data Party (U : Type 0) : Type 0 where
  AsUnit : (u : U) → Party U
  AsFeeder : (f : Feeder) → Party U
  AsDrainer : (d : Drainer) → Party U

-- the feeder puts the next record, Eos behind the last one, or Abort once it was refused memory; then it has ended
abbrev pub FeederGives : Feeder → Message → Feeder → Type 0
FeederGives f (Item x) g = (f.refused ≡ false) × (f.left ≡ x ∷ g.left) × (g ≡ record f { left = g.left })
FeederGives f Mark g = ⊥
FeederGives f (Pick w) g = ⊥
FeederGives f Eos g = (f.refused ≡ false) × (f.left ≡ []) × (g ≡ record f { done = true })
FeederGives f Abort g = (f.refused ≡ true) × (g ≡ record f { done = true })

abbrev pub FeederStep : Feeder → Act → Feeder → Type 0
FeederStep f (Took k m) g = ⊥
FeederStep f (Gave k m) g = (k ≡ 0) × (f.done ≡ false) × FeederGives f m g
FeederStep f Refused g = (f.done ≡ false) × (f.refused ≡ false) × (g ≡ record f { refused = true })
FeederStep f Idle g = g ≡ f
FeederStep f Told g = ⊥
FeederStep f (Handed x) g = ⊥

-- the drainer keeps a record, unless it was or is refused memory; Eos and Abort end it
abbrev pub DrainerTakes : Drainer → Message → Drainer → Type 0
DrainerTakes d (Item x) e = ((d.refused ≡ false) × (e ≡ record d { output = d.output ++ x ∷ [] })) ⊎ (e ≡ record d { refused = true })
DrainerTakes d Mark e = e ≡ d
DrainerTakes d (Pick w) e = e ≡ d
DrainerTakes d Eos e = e ≡ record d { done = true }
DrainerTakes d Abort e = e ≡ record d { done = true }

abbrev pub DrainerStep : Drainer → Act → Drainer → Type 0
DrainerStep d (Took k m) e = (k ≡ 0) × (d.done ≡ false) × DrainerTakes d m e
DrainerStep d (Gave k m) e = ⊥
DrainerStep d Refused e = ⊥
DrainerStep d Idle e = e ≡ d
DrainerStep d Told e = ⊥
DrainerStep d (Handed x) e = ⊥

-- a party steps as what it is, and stays that
abbrev pub PartyStep : {U : Type 0} → Doing U → Party U → Act → Party U → Type 0
PartyStep b (AsUnit u) act (AsUnit v) = b.Steps u act v
PartyStep b (AsUnit u) act (AsFeeder g) = ⊥
PartyStep b (AsUnit u) act (AsDrainer e) = ⊥
PartyStep b (AsFeeder f) act (AsUnit v) = ⊥
PartyStep b (AsFeeder f) act (AsFeeder g) = FeederStep f act g
PartyStep b (AsFeeder f) act (AsDrainer e) = ⊥
PartyStep b (AsDrainer d) act (AsUnit v) = ⊥
PartyStep b (AsDrainer d) act (AsFeeder g) = ⊥
PartyStep b (AsDrainer d) act (AsDrainer e) = DrainerStep d act e

-- the feeder had the whole input before its first step, and the drainer nothing
abbrev pub opening_feeder : List Rec → Feeder
opening_feeder input = record { left = input; refused = false; done = false }

abbrev pub opening_drainer : Drainer
opening_drainer = record { output = []; refused = false; done = false }

-- a party is reached by its own steps from what it was before its first one, and these took and put so
abbrev pub PartyRan : {U : Type 0} → Doing U → List Rec → Party U → List (List Message) → List (List Message) → Type 0
PartyRan b input (AsUnit u) gots puts = Ran b u gots puts
PartyRan b input (AsFeeder f) gots puts = HasRun FeederStep (opening_feeder input) 0 1 f gots puts
PartyRan b input (AsDrainer d) gots puts = HasRun DrainerStep opening_drainer 1 0 d gots puts

-- whether a party has ended
abbrev pub has_ended : {U : Type 0} → Doing U → Party U → Bool
has_ended b (AsUnit u) = b.done u
has_ended b (AsFeeder f) = f.done
has_ended b (AsDrainer d) = d.done
