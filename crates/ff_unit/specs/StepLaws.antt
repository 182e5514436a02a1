-- A step that took one message, and one that put one.
use Rattle.std.specs.Prelude.{◌≡◌, ℕ}
use Rattle.std.proofs.Common.{refl}
use Rattle.ff_rec.specs.Lines.{Rec}
use Rattle.ff_rec.specs.Streams.{added}
use Rattle.ff_node.specs.Runs.{Message, Took, Gave}
use Rattle.ff_port.specs.declared.answers.Step.TheVariants.{Moved}
use Rattle.ff_port.specs.declared.ports.Ports.{Ghosts}
use Rattle.ff_unit.specs.Units.{Doing, StepsOnce}

module _ {U S : Type 0} {d : Doing U} {ports : Ghosts S Rec} {u : U} {before : S} {v : U} {after : S} (k : ℕ) (m : Message) (linked : ports.link after ≡ ports.link before) where
  pub StepsOnce-took : ports.gots after ≡ added (ports.gots before) k m → ports.puts after ≡ ports.puts before → d.Steps u (Took k m) v
      → StepsOnce d ports u before Moved v after
  StepsOnce-took takes same steps = record {
    one = record { act = Took k m; steps = steps; takes = takes; gives = same; answers = refl };
    waits = tt;
    ended = tt;
    linked = linked;
  }

  pub StepsOnce-gave : ports.gots after ≡ ports.gots before → ports.puts after ≡ added (ports.puts before) k m → d.Steps u (Gave k m) v
      → StepsOnce d ports u before Moved v after
  StepsOnce-gave same gives steps = record {
    one = record { act = Gave k m; steps = steps; takes = same; gives = gives; answers = refl };
    waits = tt;
    ended = tt;
    linked = linked;
  }
