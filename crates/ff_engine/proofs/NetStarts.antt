-- From a network that was checked to the jobs that stand for it.
use Rattle.std.proofs.Common.{◌≡◌, ℕ, Bool, List, [], length, refl, sym, ap, ◌∙◌, subst}
use Rattle.std.specs.Prelude.{Err}
use Rattle.std.proofs.lemmas.List.{length-map}
use Rattle.ff_rec.specs.Lines.{text}
use Rattle.ff_rec.specs.Streams.{items}
use Rattle.ff_node.specs.Behaviour.{Behaviour}
use Rattle.ff_net.specs.Counts.{units}
use Rattle.ff_net.specs.Tree.{Tree}
use Rattle.ff_net.specs.declared.net.Version.{Version}
use Rattle.ff_plan.proofs.LaidUnits.{length-rows_of}
use Rattle.ff_spawn.specs.declared.fault.Denial.{Denial}
use Rattle.ff_spawn.specs.declared.fault.Denial.TheVariants.{Refused, NoMemory}
use Rattle.ff_stream.specs.Jobs.{Job, job}
use Rattle.ff_stream.specs.Streams.{Streams}
use Rattle.ff_stream.proofs.Endings.{IsCutShort-none}
use Rattle.ff_engine.specs.Callers.{CallerState}
use Rattle.ff_engine.specs.Faults.{denied}
use Rattle.ff_engine.specs.Jobs.{JobState, RingSize}
use Rattle.ff_engine.specs.Networks.{UnitOf, HasFed, HasLaws}
use Rattle.ff_engine.specs.Runs.{NetRan}
use Rattle.ff_engine.specs.Starts.{IsPrepared}

-- a start that wasn't made leaves the streams
pub NetRan-denied : {N : Type 0} (j : Job N) (s : Streams) (denial : Denial) → s.left_now ≡ s.left → s.faults_now ≡ s.faults → s.taken_now ≡ s.taken
    → NetRan j s (Err (denied denial))
NetRan-denied j s Refused left faults taken = record { left = left; faults = faults; taken = taken }
NetRan-denied j s NoMemory left faults taken = IsCutShort-none j s left taken

module _ {N : Type 0} (b : Behaviour N) where
  -- nothing was put and nothing came, so no record was fed
  pub HasFed-prepared : (t : Tree N) (version : Version) (limit : ℕ) (keep : Bool) → HasLaws b t
      → (cap : ℕ) (first : RingSize) (c c' : CallerState) (jobs crew : List (JobState (UnitOf N))) (unit_room room ins outs : ℕ) → c' ≡ c → crew ≡ jobs
      → (us' : List (UnitOf N)) (running : List (JobState (UnitOf N))) → IsPrepared b limit keep t cap first c jobs us' unit_room running room ins outs
      → HasFed b (job b t version limit keep) c' crew [] []
  HasFed-prepared t version limit keep laws cap first c c' jobs crew unit_room room ins outs same started us' running prepared =
      let j = job b t version limit keep in
      subst (λ s. HasFed b j s crew [] []) (sym same) (subst (λ js. HasFed b j c js [] []) (sym started) (record {
        put = prepared.put;
        linked = prepared.linked;
        shows = ap (λ ms. text (items ms)) prepared.got ∙ sym prepared.text;
        holds = prepared.holds;
        waits = λ wraps. refl;
        made = record {
          does_is = refl;
          laws = laws;
          units_are = prepared.units_are;
          rows_are = prepared.rows_are;
        };
      }))

  -- as many jobs as units
  pub length-prepared : (t : Tree N) (limit : ℕ) (keep : Bool) (cap : ℕ) (first : RingSize) (c : CallerState) (jobs : List (JobState (UnitOf N))) (unit_room room ins outs : ℕ)
      (us : List (UnitOf N)) (running : List (JobState (UnitOf N))) → IsPrepared b limit keep t cap first c jobs us unit_room running room ins outs → length jobs ≡ units t
  length-prepared t limit keep cap first c jobs unit_room room ins outs us running prepared =
      sym (length-map jobs (λ job. job.row)) ∙ ap length prepared.rows_are ∙ length-rows_of t
