-- How a unit steps that runs a node between its in and its out: a stage, and what puts a Mark behind the sends of each record.
use Rattle.std.specs.Prelude.{◌≡◌, ◌⊎◌, Bool, true, if◌then◌else◌, List, [], ◌∷◌, ◌++◌, Option, None, Some, IsSome}
use Rattle.ff_rec.specs.Lines.{Rec}
use Rattle.ff_rec.specs.Streams.{IsOpenMsg, carried}
use Rattle.ff_rec.specs.declared.msg.Msg.TheVariants.{Item, Mark, Pick, Eos as EosMsg, Abort as AbortMsg}
use Rattle.ff_node.specs.Behaviour.{Behaviour}
use Rattle.ff_node.specs.Runs.{Message, Act, Took, Gave, Refused, Idle, Told, Handed}
use Rattle.ff_node.specs.Sends.{count_more, kept_of}
use Rattle.ff_port.specs.declared.answers.End.{End}
use Rattle.ff_port.specs.declared.answers.End.TheVariants.{Eos, Abort, Memory}
use Rattle.ff_unit.specs.Stage.{StageState}
use Rattle.ff_unit.specs.declared.mode.Mode.{Mode}
use Rattle.ff_unit.specs.declared.mode.Mode.TheVariants.{Live, Shut, Cut}

-- what is held behind the sends of a record: a Mark, where that is asked for
abbrev pub behind_of : Bool → List Message
behind_of marks = if marks then Mark ∷ [] else []

-- messages with more behind them
abbrev pub followed : List Message → List Message → List Message
followed [] ms = ms
followed (m ∷ behind) ms = ms ++ m ∷ behind

-- a live node goes on after a record: its sends are held, with `behind` behind them
abbrev pub goes_on : {N : Type 0} → Behaviour N → List Message → StageState N → Rec → StageState N
goes_on b behind u x = record u {
  node = b.next u.node x;
  held = followed behind (carried (b.sends u.node x));
  rejects = count_more u.rejects (b.rejects u.node x);
  kept = u.kept ++ kept_of u.keeps (b.rejects u.node x);
}

-- a node in state `n` ends behind these sends and rejects: what it sends at the end and Eos are held
abbrev pub closes : {N : Type 0} → Behaviour N → StageState N → N → List Rec → List Rec → Option End → StageState N
closes b u n sends rejects fin = record u {
  node = b.opening n;
  held = carried (sends ++ b.last n) ++ EosMsg ∷ [];
  mode = Shut;
  fin = fin;
  rejects = count_more u.rejects (rejects ++ b.last_rejects n);
  kept = u.kept ++ kept_of u.keeps (rejects ++ b.last_rejects n);
}

-- a live node takes a record
abbrev pub works : {N : Type 0} → Behaviour N → List Message → StageState N → Rec → StageState N
works b behind u x =
    if b.ends u.node x then closes b u (b.next u.node x) (b.sends u.node x) (b.rejects u.node x) None else goes_on b behind u x

-- a call of the node was refused memory: it is given up, what would be sent is dropped, and Abort is held
pub record GivesUp {N : Type 0} (b : Behaviour N) (u : StageState N) (fin : Option End) (v : StageState N) : Type 0 where
  pub kind : b.opening v.node ≡ b.opening u.node
  pub held : v.held ≡ AbortMsg ∷ []
  pub mode : v.mode ≡ Cut
  pub fin_is : v.fin ≡ fin
  pub done : v.done ≡ u.done
  pub keeps : v.keeps ≡ u.keeps
  pub told : v.told ≡ u.told
  pub taken : v.taken ≡ u.taken

-- the end of a unit that was refused memory, once its in has ended
abbrev pub short_fin : Option End → Option End
short_fin None = None
short_fin (Some fin) = Some Memory

-- a put was refused memory: all that is held is dropped, and Abort is held
abbrev pub drops : {N : Type 0} → StageState N → StageState N
drops u = record u { held = AbortMsg ∷ []; mode = Cut; fin = short_fin u.fin }

-- a stage whose node is live takes a message
abbrev pub LiveTakes : {N : Type 0} → Behaviour N → List Message → StageState N → Message → StageState N → Type 0
LiveTakes b behind u (Item x) v = (v ≡ works b behind u x) ⊎ GivesUp b u None v
LiveTakes b behind u Mark v = v ≡ record u { held = Mark ∷ [] }
LiveTakes b behind u (Pick w) v = v ≡ u
LiveTakes b behind u EosMsg v = (v ≡ closes b u u.node [] [] (Some Eos)) ⊎ GivesUp b u (Some Memory) v
LiveTakes b behind u AbortMsg v = v ≡ record u { held = AbortMsg ∷ []; mode = Cut; fin = Some Abort }

-- a stage whose node has ended drops what it takes, and ends with its in
abbrev pub ShutTakes : {N : Type 0} → StageState N → Message → StageState N → Type 0
ShutTakes u (Item x) v = v ≡ u
ShutTakes u Mark v = v ≡ u
ShutTakes u (Pick w) v = v ≡ u
ShutTakes u EosMsg v = v ≡ record u { fin = Some Eos }
ShutTakes u AbortMsg v = v ≡ record u { fin = Some Abort }

-- a stage that was refused memory drops what it takes, and ends with its in
abbrev pub CutTakes : {N : Type 0} → StageState N → Message → StageState N → Type 0
CutTakes u (Item x) v = v ≡ u
CutTakes u Mark v = v ≡ u
CutTakes u (Pick w) v = v ≡ u
CutTakes u EosMsg v = v ≡ record u { fin = Some Memory }
CutTakes u AbortMsg v = v ≡ record u { fin = Some Memory }

abbrev pub StageTakes : {N : Type 0} → Behaviour N → List Message → Mode → StageState N → Message → StageState N → Type 0
StageTakes b behind Live u m v = LiveTakes b behind u m v
StageTakes b behind Shut u m v = ShutTakes u m v
StageTakes b behind Cut u m v = CutTakes u m v

-- some held message that isn't the last of a stream
abbrev pub IsOpenFront : List Message → Type 0
IsOpenFront [] = ⊥
IsOpenFront (m ∷ ms) = IsOpenMsg m

-- one act of a stage: it puts the first message that it holds; where it holds none and its end isn't decided, it takes; a
-- reject that it keeps may be taken out at any time
abbrev pub StageStep : {N : Type 0} → Behaviour N → List Message → StageState N → Act → StageState N → Type 0
StageStep b behind u (Took k m) v = (k ≡ 0) × (u.held ≡ []) × (u.fin ≡ None) × StageTakes b behind u.mode u m v
StageStep b behind u (Gave k m) v = (k ≡ 0) × (u.held ≡ m ∷ v.held) × (v ≡ record u { held = v.held })
StageStep b behind u Refused v = IsOpenFront u.held × (v ≡ drops u)
StageStep b behind u Idle v = (v ≡ u) ⊎ ((u.held ≡ []) × IsSome u.fin × (v ≡ record u { done = true }))
StageStep b behind u Told v =
    (u.held ≡ []) × (u.mode ≡ Live) × (u.fin ≡ None)
    × (v ≡ record u { held = AbortMsg ∷ []; mode = Cut; fin = Some Abort; told = true })
StageStep b behind u (Handed x) v = (u.kept ≡ x ∷ v.kept) × (v ≡ record u { kept = v.kept; taken = u.taken ++ x ∷ [] })
