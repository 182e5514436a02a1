-- A stage that has ended with its in has counted the rejects of its node.
use Rattle.std.proofs.Common.{◌≡◌, ℕ, Bool, true, List, [], ◌∷◌, ◌++◌, Option, Some, refl, sym, ap, ◌∙◌, subst, append-nil, inl, inr}
use Rattle.std.proofs.lemmas.Option.{none-some}
use Rattle.ff_rec.specs.Lines.{Rec}
use Rattle.ff_rec.specs.Streams.{items}
use Rattle.ff_node.specs.Behaviour.{Behaviour, KeepsKind, rejected_from}
use Rattle.ff_node.specs.Runs.{Message, Act, Took, Gave, Refused, Idle, Told, Handed, Leads, HasRun}
use Rattle.ff_node.specs.Sends.{kept_of}
use Rattle.ff_node.proofs.SendsLaws.{count_more-zero, kept_of-nil}
use Rattle.ff_port.specs.declared.answers.End.{End}
use Rattle.ff_port.specs.declared.answers.End.TheVariants.{Eos}
use Rattle.ff_unit.specs.Stage.{StageState, started, opening_stage}
use Rattle.ff_unit.specs.StageSteps.{StageStep}
use Rattle.ff_unit.specs.declared.mode.Mode.{Mode}
use Rattle.ff_unit.specs.declared.mode.Mode.TheVariants.{Live, Shut, Cut}
use Rattle.ff_unit.specs.RefusalLaws.{refusal, refusal-closed, AreRefused, AreRefused-handed, AreRefused-none}
use Rattle.ff_unit.specs.StageKeptLaws.{takes_one, ins_of, outs_of, Tied-leads, took_on-one}
use Rattle.ff_unit.specs.StageRefusalLaws.{RefusesAt, RefusesTo, cut_refuses, takes_refuses}
use Rattle.ff_unit.specs.StageUnit.{stage_does}
use Rattle.ff_unit.specs.Units.{HasRejects}
use Rattle.ff_unit.specs.StageTiedLaws.{TiedAt, IsClosed, EndsIn, IsCutEnd}

module _ {N : Type 0} (b : Behaviour N) (o : N) where
  -- the first kept reject is taken out
  handed_refuses : (mode : Mode) (n : N) (rejects : ℕ) (keeps : Bool) (x : Rec) (kept taken : List Rec) (g : List Message)
      → RefusesAt b o mode n rejects keeps (x ∷ kept) taken g → RefusesAt b o mode n rejects keeps kept (taken ++ x ∷ []) g
  handed_refuses Live n rejects keeps x kept taken g r = record { all = r.all; counts = AreRefused-handed rejects keeps x kept taken r.all r.counts; exact = r.exact }
  handed_refuses Shut n rejects keeps x kept taken g r = record { all = r.all; counts = AreRefused-handed rejects keeps x kept taken r.all r.counts; exact = r.exact }
  handed_refuses Cut n rejects keeps x kept taken g r = tt

  -- one step
  step_refuses : (u : StageState N) (g : List Message) (act : Act) (v : StageState N) → StageStep b [] u act v
      → RefusesTo b o u g → RefusesTo b o v (takes_one act g)
  step_refuses u g (Took k m) v s r = takes_refuses b o u g u.mode m v refl s.3 r
  step_refuses u g (Gave k m) v s r = subst (λ w. RefusesTo b o w g) (sym s.2) r
  step_refuses u g Refused v s r = cut_refuses b o v g (ap (λ w. w.mode) s.1)
  step_refuses u g Idle v (inl e) r = subst (λ w. RefusesTo b o w g) (sym e) r
  step_refuses u g Idle v (inr s) r = subst (λ w. RefusesTo b o w g) (sym s.2) r
  step_refuses u g Told v s r = cut_refuses b o v g (ap (λ w. w.mode) s.3)
  step_refuses u g (Handed x) v s r =
      subst (λ w. RefusesTo b o w g) (sym s.1)
      (handed_refuses u.mode u.node u.rejects u.keeps x v.kept u.taken g (subst (λ l. RefusesAt b o u.mode u.node u.rejects u.keeps l u.taken g) s.0 r))

  -- any number of steps from a stage that made none
  Leads-refuses : (keeps : Bool) (acts : List Act) (u : StageState N) → Leads (StageStep b []) (started o keeps) acts u → RefusesTo b o u (ins_of acts)
  Leads-refuses keeps [] u e =
      subst (λ w. RefusesTo b o w []) (sym e) (record { all = []; counts = record { number = refl; held = sym (kept_of-nil keeps) }; exact = λ rest. refl })
  Leads-refuses keeps (act ∷ acts) u l = step_refuses l.0 (ins_of acts) act u l.2 (Leads-refuses keeps acts l.0 l.1)

  -- a stage that is to end by Eos has them all
  RefusesAt-all : (mode : Mode) (n : N) (fin : Option End) (rejects : ℕ) (keeps : Bool) (kept taken : List Rec) (g t : List Message)
      → TiedAt b o mode n fin g t → fin ≡ Some Eos → RefusesAt b o mode n rejects keeps kept taken g → AreRefused rejects keeps kept taken (rejected_from b o (items g))
  RefusesAt-all Live n fin rejects keeps kept taken g t h e r = absurd (none-some Eos (sym h.undecided ∙ e))
  RefusesAt-all Shut n fin rejects keeps kept taken g t h e r =
      let ins : IsClosed g = subst (λ f. EndsIn f g) e h.ends in
      subst (AreRefused rejects keeps kept taken)
      (sym (r.exact []) ∙ ap (refusal b o) (append-nil g ∙ ins.is) ∙ refusal-closed b o ins.inner ins.open_inner ∙ ap (λ l. rejected_from b o (items l)) (sym ins.is))
      r.counts
  RefusesAt-all Cut n fin rejects keeps kept taken g t h e r = absurd (subst IsCutEnd e h.ends)

module _ {N : Type 0} (b : Behaviour N) (kind : KeepsKind b) where
  -- their number, and those it holds behind those that were taken out
  pub HasRejects-stage : (u : StageState N) (gots puts : List (List Message))
      → HasRun (StageStep b []) (opening_stage b u) 1 1 u gots puts → u.done ≡ true → u.fin ≡ Some Eos → HasRejects (stage_does b) u gots
  HasRejects-stage u gots puts run done fin =
      let o = b.opening u.node in
      let g = ins_of run.acts in
      let tied = Tied-leads b kind o u.keeps run.acts u run.leads in
      let a = RefusesAt-all b o u.mode u.node u.fin u.rejects u.keeps u.kept u.taken g (outs_of run.acts ++ u.held) tied.tied fin (Leads-refuses b o u.keeps run.acts u run.leads) in
      subst (HasRejects (stage_does b) u) (sym (run.takes ∙ took_on-one b [] (opening_stage b u) run.acts u run.leads)) (record {
        number_is = a.number ∙ count_more-zero (rejected_from b o (items g));
        kept_are = λ keeps. a.held ∙ ap (λ k. kept_of k (rejected_from b o (items g))) keeps;
        none = λ keeps. AreRefused-none u.rejects u.kept u.taken (rejected_from b o (items g))
            (subst (λ k. AreRefused u.rejects k u.kept u.taken (rejected_from b o (items g))) keeps a);
      })
