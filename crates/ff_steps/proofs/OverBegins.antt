-- What units that ran over the edges of a network's plan put so far.
use Rattle.std.proofs.Common.{◌≡◌, ℕ, Bool, List, [], ◌∷◌, map}
use Rattle.std.specs.List.{AllByRecursion}
use Rattle.ff_rec.specs.Lines.{Rec}
use Rattle.ff_rec.specs.Streams.{carried, items, unaborted, GoesOn}
use Rattle.ff_node.specs.Behaviour.{Behaviour, KeepsKind}
use Rattle.ff_node.specs.Runs.{Message}
use Rattle.ff_net.specs.Good.{Good}
use Rattle.ff_net.specs.Meaning.{Fine}
use Rattle.ff_net.specs.Tree.{Tree}
use Rattle.ff_plan.specs.Histories.{EachUnit, BeginsUnit}
use Rattle.ff_plan.specs.Laying.{units_of}
use Rattle.ff_plan.specs.PlanLaws.{BeginsAnswer, CutRuns}
use Rattle.ff_plan.specs.Rows.{Laid}
use Rattle.ff_unit.specs.Units.{IsUnit}
use Rattle.ff_steps.specs.NetUnits.{NetState, net_does, opening_net, log_of_net}
use Rattle.ff_steps.specs.OverEdges.{RanAlong, RanOver}
use Rattle.ff_steps.specs.PlanUnits.{opened_unit}
use Rattle.ff_steps.proofs.Heads.{head-same, tail-same}
use Rattle.ff_steps.proofs.Shapes.{HasShape, shapes-lay}
use Rattle.ff_steps.proofs.UnitFits.{BeginsUnit-unit}

module _ {N : Type 0} (b : Behaviour N) (kind : KeepsKind b) (laws : IsUnit (net_does b)) (m : ℕ) (keep : Bool) where
  -- all units begin to fit what they took and put
  pub begins-units : (got put : ℕ → List Message) (units : List (NetState N)) (ls : List (Laid N)) → AllByRecursion (HasShape b) ls
      → map (opening_net b) units ≡ map (opened_unit b m keep) ls → RanAlong (net_does b) got put (map (λ l. l.row) ls) units
      → EachUnit (λ l log. BeginsUnit b m l log (map got l.row.ins) (map put l.row.outs)) ls (map log_of_net units)
  begins-units got put [] [] shapes made ran = tt
  begins-units got put (u ∷ units) [] shapes made ran = absurd ran
  begins-units got put [] (l ∷ ls) shapes made ran = absurd ran
  begins-units got put (u ∷ units) (l ∷ ls) shapes made ran = (
    BeginsUnit-unit b kind m keep u l (head-same made) shapes.0 (map got l.row.ins) (map put l.row.outs) (laws.begins u (map got l.row.ins) (map put l.row.outs) ran.0),
    begins-units got put units ls shapes.1 (tail-same made) ran.1,
  )

  -- at each moment, if no wrap is over its limit for these records: those that were put on the last edge are the first of an answer
  pub BeginsAnswer-over : (t : Tree N) → Good b t → CutRuns b m t → (units : List (NetState N)) (got put : ℕ → List Message) → RanOver b m keep t units got put
      → (xs : List Rec) → GoesOn (unaborted (put 0)) (carried xs) → Fine b m t xs → BeginsAnswer b m t xs (items (put 1))
  BeginsAnswer-over t good cut units got put over xs goes fine =
      cut got put (map log_of_net units) xs (record {
        first = over.first;
        begins = begins-units got put units (units_of t) (shapes-lay b t good [] 0 1 2) over.made over.ran;
      }) goes fine
