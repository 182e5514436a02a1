-- A worker of a wrap keeps the laws of a unit, since its stage does.
use Rattle.std.specs.Prelude.{◌≡◌, ◌⊎◌, IsSome}
use Rattle.std.proofs.Common.{true, List, [], ◌∷◌, ◌++◌, length, map, Some, refl, sym, ap, ◌∙◌, subst, arith, append_assoc, inl, inr}
use Rattle.std.proofs.lemmas.Bool.{false≢true}
use Rattle.std.specs.List.{AllByRecursion, flat_map}
use Rattle.ff_rec.specs.Streams.{IsOpen, GoesOn, at, items, closed, unaborted}
use Rattle.ff_rec.specs.declared.msg.Msg.TheVariants.{Mark, Eos as EosMsg}
use Rattle.ff_node.specs.Behaviour.{Behaviour, KeepsKind, node_rejected}
use Rattle.ff_node.specs.Classes.{ClassLaw}
use Rattle.ff_node.specs.Fits.{FitsStage, FitsWorker, IsItemOrMark, replaced}
use Rattle.ff_node.specs.Runs.{Message, AllGoOn, AreOpen, HasOuts, BeginsToFit, FitsWhole}
use Rattle.ff_node.specs.Sends.{counted}
use Rattle.ff_node.specs.declared.class.Class.TheVariants.{Plain}
use Rattle.ff_port.specs.declared.answers.End.TheVariants.{Eos, Abort}
use Rattle.ff_unit.specs.MessageLaws.{IsOpen-front, unaborted-append}
use Rattle.ff_unit.specs.Stage.{StageState}
use Rattle.ff_unit.specs.StageAbortLaws.{Leads-aborted_stage}
use Rattle.ff_unit.specs.StageKeptLaws as stages
use Rattle.ff_unit.specs.StageKindLaws.{opening_stage-step, taken-step, told-step}
use Rattle.ff_unit.specs.StageLaws.{IsUnit-stage}
use Rattle.ff_unit.specs.StagePorts.{StageReady}
use Rattle.ff_unit.specs.StageShortLaws.{short_of-ends, short_stage-step, live_stage-step}
use Rattle.ff_unit.specs.StageTiedLaws.{TiedAt}
use Rattle.ff_unit.specs.StageUnit.{stage_does}
use Rattle.ff_unit.specs.Units.{IsUnit, Ran, HasRejects, HasAbort, TookAbort}
use Rattle.ff_unit.specs.declared.mode.Mode.TheVariants.{Live}
use Rattle.ff_loop.specs.WorkerMarkLaws.{with_marks, with_marks-append, with_marks-unaborted, items-with_marks, IsOpen-with_marks, IsOpen-unmarked, HasAbort-with_marks, IsItemOrMark-with_marks, replaced-with_marks, with_marks-closed}
use Rattle.ff_loop.specs.WorkerTakesLaws.{IsLevel, IsMarkedAt}
use Rattle.ff_loop.specs.WorkerUnit.{worker_does}
use Rattle.ff_loop.specs.WorkerPortLaws.{IsMarkedRun, node-at, level-at, ins-at, HasRun-marked}

-- a stage that fits with the Marks: for each task its sends and a Mark
FitsWorker-marked : {N : Type 0} (b : Behaviour N) (o : N) (ms : List Message) (outs : List (List Message)) → b.class o ≡ Plain
    → FitsStage b o (with_marks ms ∷ []) outs → FitsWorker b o (ms ∷ []) outs
FitsWorker-marked b o ms outs plain fits = record {
  one_in = refl;
  one_out = fits.one_out;
  tasks = λ xs e. fits.plain plain (subst (λ l. AllByRecursion IsItemOrMark (with_marks l)) (sym e) (IsItemOrMark-with_marks xs))
      ∙ ap (λ l. flat_map (replaced b o) (with_marks l)) e
      ∙ replaced-with_marks b o xs;
}

-- what the worker took goes on as what its stage took
GoesOn-marked : (g ins late ms : List Message) → with_marks g ≡ ins ++ late → GoesOn (unaborted g) ms → GoesOn (unaborted ins) (with_marks ms)
GoesOn-marked g ins late ms marked on = record {
  inner = IsOpen-with_marks ms on.inner;
  more = unaborted late ++ with_marks on.more;
  is = sym (with_marks-append ms (EosMsg ∷ []))
      ∙ ap with_marks on.is
      ∙ with_marks-append (unaborted g) on.more
      ∙ ap (λ l. l ++ with_marks on.more) (with_marks-unaborted g ∙ ap unaborted marked ∙ unaborted-append ins late)
      ∙ append_assoc (unaborted ins) (unaborted late) (with_marks on.more);
}

module _ {N : Type 0} (b : Behaviour N) (kind : KeepsKind b) (law : (o : N) → ClassLaw b o (b.class o)) where
  unit : IsUnit (stage_does b)
  unit = IsUnit-stage b kind law

  -- its node is Plain
  plain-node : (u : StageState N) (gots puts : List (List Message)) → Ran (worker_does b) u gots puts → b.class u.node ≡ Plain
  plain-node u gots puts ran = sym (kind.class_of_opening u.node) ∙ ran.0

  -- its ports are as its code asks
  ready-worker : (u : StageState N) (gots puts : List (List Message)) → Ran (worker_does b) u gots puts → StageReady u gots puts
  ready-worker u gots puts ran = of (HasRun-marked b u gots puts ran.1)
    where
      of : IsMarkedRun b u gots puts → StageReady u gots puts
      of r = by r.marked
        where
          ready : StageReady r.stage (r.ins ∷ []) (r.put ∷ [])
          ready = unit.ready r.stage (r.ins ∷ []) (r.put ∷ []) (tt, r.run)

          as_stage : u ≡ r.stage → StageReady u gots puts
          as_stage same = record {
            one_in = ap length r.gots_are;
            one_out = ap length r.puts_are;
            open_out = subst (λ w. (w.held ≡ []) ⊎ IsOpen (at puts 0)) (sym same)
                (subst (λ l. (r.stage.held ≡ []) ⊎ IsOpen (at l 0)) (sym r.puts_are) ready.open_out);
            ended = subst (λ (w : StageState N). w.done ≡ true → (w.held ≡ []) × IsSome w.fin) (sym same) ready.ended;
          }

          open_put : r.stage.mode ≡ Live → IsOpen r.put
          open_put live =
              let t = stages.HasRun-tied b kind r.stage (r.ins ∷ []) (r.put ∷ []) r.run in
              let tied = subst (λ mode. TiedAt b (b.opening r.stage.node) mode r.stage.node r.stage.fin t.got (t.put ++ r.stage.held)) live t.tied.tied in
              subst IsOpen (sym (ap (λ l. at l 0) t.puts_are)) (IsOpen-front t.put r.stage.held tied.outs)

          by : IsMarkedAt r.stage u r.ins r.got → StageReady u gots puts
          by (inl level) = as_stage level.same
          by (inr (inl owes)) = record {
            one_in = ap length r.gots_are;
            one_out = ap length r.puts_are;
            open_out = inr (subst (λ l. IsOpen (at l 0)) (sym r.puts_are) (open_put owes.live));
            ended = λ done. absurd (false≢true (subst IsSome owes.undecided (ready.ended (sym (ap (λ w. w.done) owes.same) ∙ done)).1));
          }
          by (inr (inr late)) = as_stage late.same

  -- however its in goes on, its out can go on so that it fits
  begins-worker : (u : StageState N) (gots puts : List (List Message)) → Ran (worker_does b) u gots puts → BeginsToFit (FitsWorker b u.node) gots puts
  begins-worker u gots puts ran = of (HasRun-marked b u gots puts ran.1)
    where
      of : IsMarkedRun b u gots puts → BeginsToFit (FitsWorker b u.node) gots puts
      of r = λ ins on. subst (HasOuts (FitsWorker b u.node) ins) (sym r.puts_are) (by ins (subst (λ l. AllGoOn l ins) r.gots_are on))
        where
          by : (ins : List (List Message)) → AllGoOn (r.got ∷ []) ins → HasOuts (FitsWorker b u.node) ins (r.put ∷ [])
          by [] on = absurd on
          by (ms ∷ []) on =
              let late = ins-at b r.stage u r.ins r.got r.marked in
              let outs = unit.begins r.stage (r.ins ∷ []) (r.put ∷ []) (tt, r.run) (with_marks ms ∷ [])
              (GoesOn-marked r.got r.ins late.0 ms late.1 on.0, tt) in
              record {
                outs = outs.outs;
                goes_on = outs.goes_on;
                fits = FitsWorker-marked b u.node ms outs.outs (plain-node u gots puts ran)
                    (subst (λ o. FitsStage b o (with_marks ms ∷ []) outs.outs) (node-at b r.stage u r.ins r.got r.marked) outs.fits);
              }
          by (ms ∷ next ∷ mss) on = absurd on.1

  -- the whole in and the whole out
  whole-worker : (u : StageState N) (gots puts : List (List Message)) → Ran (worker_does b) u gots puts → u.done ≡ true → u.fin ≡ Some Eos
      → FitsWhole (FitsWorker b u.node) gots puts
  whole-worker u gots puts ran done fin = of (HasRun-marked b u gots puts ran.1)
    where
      of : IsMarkedRun b u gots puts → FitsWhole (FitsWorker b u.node) gots puts
      of r = by whole.ins whole.ins_open whole.gots_are whole.fits
        where
          level : IsLevel r.stage u r.ins r.got
          level = level-at b r.stage u r.ins r.got Eos fin r.marked

          whole : FitsWhole (FitsStage b r.stage.node) (r.ins ∷ []) (r.put ∷ [])
          whole = unit.whole r.stage (r.ins ∷ []) (r.put ∷ []) (tt, r.run) (sym (ap (λ w. w.done) level.same) ∙ done) (sym (ap (λ w. w.fin) level.same) ∙ fin)

          by : (ins : List (List Message)) → AreOpen ins → r.ins ∷ [] ≡ map closed ins → FitsStage b r.stage.node ins whole.outs → FitsWhole (FitsWorker b u.node) gots puts
          by [] opens are fits = absurd (omega (arith, ap length are))
          by (ms ∷ []) opens are fits =
              let unmarked = with_marks-closed r.got ms (sym level.ins_are ∙ ap (λ l. at l 0) are) in
              record {
                ins = unmarked.inner ∷ [];
                outs = whole.outs;
                ins_open = (IsOpen-unmarked unmarked.inner (subst IsOpen unmarked.marked opens.0), tt);
                outs_open = whole.outs_open;
                gots_are = r.gots_are ∙ ap (λ l. l ∷ []) unmarked.is;
                puts_are = r.puts_are ∙ whole.puts_are;
                fits = FitsWorker-marked b u.node unmarked.inner whole.outs (plain-node u gots puts ran)
                    (subst (λ o. FitsStage b o (with_marks unmarked.inner ∷ []) whole.outs) (node-at b r.stage u r.ins r.got r.marked)
                    (subst (λ l. FitsStage b r.stage.node (l ∷ []) whole.outs) unmarked.marked fits));
              }
          by (ms ∷ next ∷ mss) opens are fits = absurd (omega (arith, ap length are))

  -- its rejects
  rejects-worker : (u : StageState N) (gots puts : List (List Message)) → Ran (worker_does b) u gots puts → u.done ≡ true → u.fin ≡ Some Eos
      → HasRejects (worker_does b) u gots
  rejects-worker u gots puts ran done fin = of (HasRun-marked b u gots puts ran.1)
    where
      of : IsMarkedRun b u gots puts → HasRejects (worker_does b) u gots
      of r =
          let level = level-at b r.stage u r.ins r.got Eos fin r.marked in
          let stage = unit.rejects_are r.stage (r.ins ∷ []) (r.put ∷ []) (tt, r.run) (sym (ap (λ w. w.done) level.same) ∙ done) (sym (ap (λ w. w.fin) level.same) ∙ fin) in
          let has : HasRejects (stage_does b) u (r.ins ∷ []) = subst (λ w. HasRejects (stage_does b) w (r.ins ∷ [])) (sym level.same) stage in
          let same : items r.ins ≡ items r.got = ap items level.ins_are ∙ items-with_marks r.got in
          subst (HasRejects (worker_does b) u) (sym r.gots_are) (record {
            number_is = has.number_is ∙ ap (λ xs. counted (length (node_rejected b u.node xs))) same;
            kept_are = λ keeps. has.kept_are keeps ∙ ap (node_rejected b u.node) same;
            none = has.none;
          })

  -- why it ends by Abort
  causes-worker : (u : StageState N) (gots puts : List (List Message)) → Ran (worker_does b) u gots puts → u.fin ≡ Some Abort
      → (u.told ≡ true) ⊎ TookAbort gots
  causes-worker u gots puts ran fin = of (HasRun-marked b u gots puts ran.1)
    where
      of : IsMarkedRun b u gots puts → (u.told ≡ true) ⊎ TookAbort gots
      of r = by (unit.causes r.stage (r.ins ∷ []) (r.put ∷ []) (tt, r.run) (sym (ap (λ w. w.fin) level.same) ∙ fin))
        where
          level : IsLevel r.stage u r.ins r.got
          level = level-at b r.stage u r.ins r.got Abort fin r.marked

          by : (r.stage.told ≡ true) ⊎ TookAbort (r.ins ∷ []) → (u.told ≡ true) ⊎ TookAbort gots
          by (inl told) = inl (ap (λ w. w.told) level.same ∙ told)
          by (inr (inl has)) = inr (subst TookAbort (sym r.gots_are) (inl (HasAbort-with_marks r.got (subst HasAbort level.ins_are has))))
          by (inr (inr none)) = absurd none

  pub IsUnit-worker : IsUnit (worker_does b)
  IsUnit-worker = record {
    opening_kept = opening_stage-step b (Mark ∷ []) kind;
    taken_kept = taken-step b (Mark ∷ []) kind;
    told_kept = told-step b (Mark ∷ []) kind;
    opened = λ u. (refl, refl, refl);
    ready = ready-worker;
    ends = λ u gots puts ran done. ((ready-worker u gots puts ran).ended done).1;
    begins = begins-worker;
    whole = whole-worker;
    rejects_are = rejects-worker;
    causes = causes-worker;
    not_short = λ u. (refl, refl);
    short_ends = λ u. short_of-ends u.mode u.fin;
    short_by = short_stage-step b (Mark ∷ []);
    asks_kept = live_stage-step b (Mark ∷ []);
    aborts_by = Leads-aborted_stage b (Mark ∷ []);
  }
