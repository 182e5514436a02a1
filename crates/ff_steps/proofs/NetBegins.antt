-- What the drainer of a network's core kept is the first of an answer.
use Rattle.std.proofs.Common.{◌≡◌, ℕ, Bool, false, List, [], ◌∷◌, ◌++◌, ap, ◌∙◌, append_assoc}
use Rattle.ff_rec.specs.Lines.{Rec}
use Rattle.ff_rec.specs.Streams.{items}
use Rattle.ff_node.specs.Behaviour.{Behaviour, KeepsKind}
use Rattle.ff_net.specs.Good.{Good}
use Rattle.ff_net.specs.Meaning.{Fine}
use Rattle.ff_net.specs.Tree.{Tree}
use Rattle.ff_plan.specs.PlanLaws.{BeginsAnswer, CutRuns}
use Rattle.ff_port.specs.Queues.{put_of}
use Rattle.ff_unit.specs.MessageLaws.{items-append}
use Rattle.ff_unit.specs.Units.{IsUnit}
use Rattle.ff_steps.specs.Core.{CoreState, edge, IsSound}
use Rattle.ff_steps.specs.NetCores.{IsNetCore, IsGood}
use Rattle.ff_steps.specs.NetUnits.{NetState, net_does}
use Rattle.ff_steps.proofs.DrainerRuns.{items-drainer}
use Rattle.ff_steps.proofs.FeederRuns.{GoesOn-feeder}
use Rattle.ff_steps.proofs.NetRuns.{RanOver-core, run-feeder, run-drainer}
use Rattle.ff_steps.proofs.OverBegins.{BeginsAnswer-over}
use Rattle.ff_steps.proofs.Schedules.{MadeOfSame}

module _ {N : Type 0} (b : Behaviour N) (kind : KeepsKind b) (laws : IsUnit (net_does b)) (m : ℕ) (keep : Bool) (t : Tree N) (good : Good b t) (cut : (m : ℕ) → CutRuns b m t)
    (c : CoreState (NetState N)) (is : IsNetCore b m keep t c) (sound : IsSound (net_does b) c) where
  BeginsAnswer-core : Fine b m t c.input → BeginsAnswer b m t c.input c.drainer.output
  BeginsAnswer-core fine =
      from (BeginsAnswer-over b kind laws m keep t good (cut m) c.units (λ e. (edge c e).got) (λ e. put_of (edge c e)) (RanOver-core b m keep t c is sound) c.input
      (GoesOn-feeder c.input c.feeder [] (put_of (edge c 0) ∷ []) (run-feeder b m keep t c is sound)) fine)
      (items-drainer c.drainer ((edge c 1).got ∷ []) [] (run-drainer b m keep t c is sound))
    where
      from : BeginsAnswer b m t c.input (items (put_of (edge c 1)))
          → ((lost : List Rec) × (items (edge c 1).got ≡ c.drainer.output ++ lost) × (c.drainer.refused ≡ false → lost ≡ [])) → BeginsAnswer b m t c.input c.drainer.output
      from a d = record {
        all = a.all;
        answers = a.answers;
        rest = d.0 ++ (items (edge c 1).inside ++ a.rest);
        splits = a.splits ∙ ap (λ l. l ++ a.rest) (items-append (edge c 1).got (edge c 1).inside ∙ ap (λ l. l ++ items (edge c 1).inside) d.1)
            ∙ append_assoc (c.drainer.output ++ d.0) (items (edge c 1).inside) a.rest ∙ append_assoc c.drainer.output d.0 (items (edge c 1).inside ++ a.rest);
      }

  -- a sound core of a network is at a good moment
  pub IsGood-core : IsGood b m t c
  IsGood-core = record { sound = sound; begins = BeginsAnswer-core }

-- a core that was made of a network stays so
pub IsNetCore-made : {N : Type 0} (b : Behaviour N) (m : ℕ) (keep : Bool) (t : Tree N) (c c' : CoreState (NetState N)) → MadeOfSame c c' → IsNetCore b m keep t c → IsNetCore b m keep t c'
IsNetCore-made b m keep t c c' same is = record { made = same.0 ∙ is.made; rows = same.2 ∙ is.rows }
