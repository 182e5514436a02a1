-- What ties the ports of a stage to its state, by its mode. `o` is the opening state of its node, `g` what it took, and `t` what
-- it put with what it holds.
use Rattle.std.proofs.Common.{◌≡◌, true, List, [], ◌∷◌, ◌++◌, Option, None, Some, refl, ap, ◌∙◌, subst, append_assoc}
use Rattle.std.specs.Prelude.{IsSome, ◌⊎◌}
use Rattle.ff_rec.specs.Streams.{IsOpen, closed}
use Rattle.ff_rec.specs.declared.msg.Msg.TheVariants.{Abort as AbortMsg}
use Rattle.ff_node.specs.Behaviour.{Behaviour}
use Rattle.ff_node.specs.Runs.{Message}
use Rattle.ff_port.specs.declared.answers.End.{End}
use Rattle.ff_port.specs.declared.answers.End.TheVariants.{Eos, Abort, Memory}
use Rattle.ff_unit.specs.Stage.{StageState}
use Rattle.ff_unit.specs.declared.mode.Mode.{Mode}
use Rattle.ff_unit.specs.declared.mode.Mode.TheVariants.{Live, Shut, Cut}
use Rattle.ff_unit.specs.Units.{HasAbort}
use Rattle.ff_unit.specs.AnswerLaws.{answer}
use Rattle.ff_unit.specs.MessageLaws.{IsOpen-front, before_last}

-- the node is live: what is still to come is what it answers for the rest of the in
pub record TiedLive {N : Type 0} (b : Behaviour N) (o n : N) (fin : Option End) (g t : List Message) : Type 0 where
  pub undecided : fin ≡ None
  pub ins : IsOpen g
  pub outs : IsOpen t
  pub exact : (rest : List Message) → answer b o (g ++ rest) ≡ t ++ answer b n rest

-- this list was ended by its one Eos
pub record IsClosed (g : List Message) : Type 0 where
  pub inner : List Message
  pub open_inner : IsOpen inner
  pub is : g ≡ closed inner

-- the in of a stage whose node has ended
abbrev pub EndsIn : Option End → List Message → Type 0
EndsIn None g = IsOpen g
EndsIn (Some Eos) g = IsClosed g
EndsIn (Some Abort) g = Unit {0}
EndsIn (Some Memory) g = Unit {0}

-- the node has ended: nothing more is to come, whatever the rest of the in
pub record TiedShut {N : Type 0} (b : Behaviour N) (o : N) (fin : Option End) (g t : List Message) : Type 0 where
  pub whole : List Message
  pub is : t ≡ closed whole
  pub inner : IsOpen whole
  pub ends : EndsIn fin g
  pub exact : (rest : List Message) → answer b o (g ++ rest) ≡ whole

-- a stream that was cut off doesn't end by Eos
abbrev pub IsCutEnd : Option End → Type 0
IsCutEnd None = Unit {0}
IsCutEnd (Some Eos) = ⊥
IsCutEnd (Some Abort) = Unit {0}
IsCutEnd (Some Memory) = Unit {0}

-- the stream was cut off: what was put before the Abort begins the answer
pub record TiedCut {N : Type 0} (b : Behaviour N) (o : N) (fin : Option End) (g t : List Message) : Type 0 where
  pub outs : List Message
  pub is : t ≡ outs ++ AbortMsg ∷ []
  pub inner : IsOpen outs
  pub ends : IsCutEnd fin
  pub more : List Message → List Message
  pub exact : (rest : List Message) → answer b o (g ++ rest) ≡ outs ++ more rest

abbrev pub TiedAt : {N : Type 0} → Behaviour N → N → Mode → N → Option End → List Message → List Message → Type 0
TiedAt b o Live n fin g t = TiedLive b o n fin g t
TiedAt b o Shut n fin g t = TiedShut b o fin g t
TiedAt b o Cut n fin g t = TiedCut b o fin g t

-- the stage took `g` and put `p`
abbrev pub TiedTo : {N : Type 0} → Behaviour N → N → StageState N → List Message → List Message → Type 0
TiedTo b o u g p = TiedAt b o u.mode u.node u.fin g (p ++ u.held)

-- an end that is an Abort
abbrev pub IsAbortEnd : Option End → Type 0
IsAbortEnd None = ⊥
IsAbortEnd (Some Eos) = ⊥
IsAbortEnd (Some Abort) = Unit {0}
IsAbortEnd (Some Memory) = ⊥

-- a stage that ends by Abort was told to, or took one
abbrev pub HasCause : {N : Type 0} → StageState N → List Message → Type 0
HasCause u g = IsAbortEnd u.fin → (u.told ≡ true) ⊎ HasAbort g

-- and it ends only with nothing held, and once that is decided
pub record Tied {N : Type 0} (b : Behaviour N) (o : N) (u : StageState N) (g p : List Message) : Type 0 where
  pub done : u.done ≡ true → (u.held ≡ []) × IsSome u.fin
  pub tied : TiedTo b o u g p
  pub cause : HasCause u g

-- an open list that was put begins the answer
pub record Begun {N : Type 0} (b : Behaviour N) (o : N) (g p : List Message) : Type 0 where
  pub outs : IsOpen p
  pub more : List Message → List Message
  pub exact : (rest : List Message) → answer b o (g ++ rest) ≡ p ++ more rest

-- it does where something is held behind it
pub TiedAt-begun : {N : Type 0} (b : Behaviour N) (o : N) (mode : Mode) (n : N) (fin : Option End) (g p : List Message) (m : Message) (held : List Message)
    → TiedAt b o mode n fin g (p ++ m ∷ held) → Begun b o g p
TiedAt-begun b o Live n fin g p m held t = record {
  outs = IsOpen-front p (m ∷ held) t.outs;
  more = λ rest. (m ∷ held) ++ answer b n rest;
  exact = λ rest. t.exact rest ∙ append_assoc p (m ∷ held) (answer b n rest);
}
TiedAt-begun b o Shut n fin g p m held t =
    let front = before_last p held m t.whole _ t.is in record {
      outs = IsOpen-front p front.0 (subst IsOpen front.1 t.inner);
      more = λ _. front.0;
      exact = λ rest. t.exact rest ∙ front.1;
    }
TiedAt-begun b o Cut n fin g p m held t =
    let front = before_last p held m t.outs _ t.is in record {
      outs = IsOpen-front p front.0 (subst IsOpen front.1 t.inner);
      more = λ rest. front.0 ++ t.more rest;
      exact = λ rest. t.exact rest ∙ ap (λ l. l ++ t.more rest) front.1 ∙ append_assoc p front.0 (t.more rest);
    }

-- what was put is cut off behind a list that begins the answer
pub Begun-cut : {N : Type 0} (b : Behaviour N) (o : N) (fin : Option End) (g p : List Message) → IsCutEnd fin → Begun b o g p → TiedCut b o fin g (p ++ AbortMsg ∷ [])
Begun-cut b o fin g p ends begun = record { outs = p; is = refl; inner = begun.outs; ends = ends; more = begun.more; exact = begun.exact }
