-- The ports of a worker after a run, and the run of its stage.
use Rattle.std.specs.Prelude.{◌≡◌}
use Rattle.std.proofs.Common.{List, [], ◌∷◌, ◌++◌, Some, sym, ap, ◌∙◌, subst, append-nil, inl, inr}
use Rattle.std.proofs.lemmas.Option.{none-some}
use Rattle.ff_rec.specs.declared.msg.Msg.TheVariants.{Mark}
use Rattle.ff_node.specs.Behaviour.{Behaviour}
use Rattle.ff_node.specs.Runs.{Message, HasRun}
use Rattle.ff_port.specs.declared.answers.End.{End}
use Rattle.ff_unit.specs.Stage.{StageState, opening_stage}
use Rattle.ff_unit.specs.StageKeptLaws as stages
use Rattle.ff_unit.specs.StageSteps.{StageStep}
use Rattle.ff_loop.specs.WorkerMarkLaws.{with_marks}
use Rattle.ff_loop.specs.WorkerRunLaws.{IsMarked-leads}
use Rattle.ff_loop.specs.WorkerTakesLaws.{IsLevel, IsMarkedAt}
use Rattle.ff_loop.specs.WorkerUnit.{WorkerStep}

-- the ports of a worker after a run, and the run of its stage
pub record IsMarkedRun {N : Type 0} (b : Behaviour N) (u : StageState N) (gots puts : List (List Message)) : Type 0 where
  pub got : List Message
  pub put : List Message
  pub gots_are : gots ≡ got ∷ []
  pub puts_are : puts ≡ put ∷ []
  pub stage : StageState N
  pub ins : List Message
  pub run : HasRun (StageStep b []) (opening_stage b stage) 1 1 stage (ins ∷ []) (put ∷ [])
  pub marked : IsMarkedAt stage u ins got

module _ {N : Type 0} (b : Behaviour N) where
  -- the worker is as its stage, but for what it holds
  opening-at : (s u : StageState N) (ins g : List Message) → IsMarkedAt s u ins g → opening_stage b u ≡ opening_stage b s
  opening-at s u ins g (inl level) = ap (opening_stage b) level.same
  opening-at s u ins g (inr (inl owes)) = ap (opening_stage b) owes.same
  opening-at s u ins g (inr (inr late)) = ap (opening_stage b) late.same

  pub node-at : (s u : StageState N) (ins g : List Message) → IsMarkedAt s u ins g → s.node ≡ u.node
  node-at s u ins g (inl level) = ap (λ w. w.node) (sym level.same)
  node-at s u ins g (inr (inl owes)) = ap (λ w. w.node) (sym owes.same)
  node-at s u ins g (inr (inr late)) = ap (λ w. w.node) (sym late.same)

  -- where its end is decided, its stage took all
  pub level-at : (s u : StageState N) (ins g : List Message) (fin : End) → u.fin ≡ Some fin → IsMarkedAt s u ins g → IsLevel s u ins g
  level-at s u ins g fin e (inl level) = level
  level-at s u ins g fin e (inr (inl owes)) = absurd (none-some fin (sym owes.undecided ∙ sym (ap (λ w. w.fin) owes.same) ∙ e))
  level-at s u ins g fin e (inr (inr late)) = absurd (none-some fin (sym late.undecided ∙ sym (ap (λ w. w.fin) late.same) ∙ e))

  -- what the stage took, with what it has still to take
  pub ins-at : (s u : StageState N) (ins g : List Message) → IsMarkedAt s u ins g → (late : List Message) × (with_marks g ≡ ins ++ late)
  ins-at s u ins g (inl level) = ([], sym level.ins_are ∙ sym (append-nil ins))
  ins-at s u ins g (inr (inl owes)) = (Mark ∷ [], sym owes.ins_are)
  ins-at s u ins g (inr (inr late)) = (Mark ∷ [], sym late.ins_are)

  pub HasRun-marked : (u : StageState N) (gots puts : List (List Message)) → HasRun (WorkerStep b) (opening_stage b u) 1 1 u gots puts → IsMarkedRun b u gots puts
  HasRun-marked u gots puts run =
      let m = IsMarked-leads b (opening_stage b u) run.acts u run.leads in
      record {
        got = stages.ins_of run.acts;
        put = stages.outs_of run.acts;
        gots_are = run.takes ∙ stages.took_on-one b (Mark ∷ []) (opening_stage b u) run.acts u run.leads;
        puts_are = run.gives ∙ stages.gave_on-one b (Mark ∷ []) (opening_stage b u) run.acts u run.leads;
        stage = m.stage;
        ins = stages.ins_of m.acts;
        run = subst (λ start. HasRun (StageStep b []) start 1 1 m.stage (stages.ins_of m.acts ∷ []) (stages.outs_of run.acts ∷ []))
            (opening-at m.stage u (stages.ins_of m.acts) (stages.ins_of run.acts) m.at) (record {
              acts = m.acts;
              leads = m.leads;
              takes = sym (stages.took_on-one b [] (opening_stage b u) m.acts m.stage m.leads);
              gives = sym (stages.gave_on-one b [] (opening_stage b u) m.acts m.stage m.leads ∙ ap (λ l. l ∷ []) m.outs_are);
            });
        marked = m.at;
      }
