-- Every run of a stage keeps it tied to its ports.
use Rattle.std.proofs.Common.{◌≡◌, Bool, true, false, List, [], ◌∷◌, ◌++◌, length, Option, None, Some, refl, sym, ap, ◌∙◌, subst, append_assoc, append-nil, arith, inl, inr}
use Rattle.std.specs.Prelude.{IsSome}
use Rattle.std.proofs.lemmas.Bool.{false≢true}
use Rattle.ff_rec.specs.Lines.{Rec}
use Rattle.ff_rec.specs.declared.msg.Msg.TheVariants.{Item, Mark, Pick, Eos as EosMsg, Abort as AbortMsg}
use Rattle.ff_rec.specs.Streams.{added}
use Rattle.ff_node.specs.Behaviour.{Behaviour, KeepsKind}
use Rattle.ff_node.specs.Runs.{Message, Act, Took, Gave, Refused, Idle, Told, Handed, Leads, HasRun, took, gave, took_on, gave_on}
use Rattle.ff_port.specs.declared.answers.End.{End}
use Rattle.ff_port.specs.declared.answers.End.TheVariants.{Eos, Abort, Memory}
use Rattle.ff_unit.specs.Stage.{StageState, started, opening_stage}
use Rattle.ff_unit.specs.StageSteps.{StageStep, StageTakes, IsOpenFront, drops, short_fin, works}
use Rattle.ff_unit.specs.Units.{HasAbort}
use Rattle.ff_unit.specs.declared.mode.Mode.{Mode}
use Rattle.ff_unit.specs.declared.mode.Mode.TheVariants.{Live, Shut, Cut}
use Rattle.ff_unit.specs.AnswerLaws.{answer}
use Rattle.ff_unit.specs.StageKindLaws.{StageTakes-kept}
use Rattle.ff_unit.specs.StageTiedLaws.{Tied, TiedTo, TiedAt, TiedLive, TiedCut, IsCutEnd, IsAbortEnd, HasCause, TiedAt-begun, Begun-cut}
use Rattle.ff_unit.specs.StageTakesLaws.{StageTakes-tied}

-- what an act took at the one in, and gave to the one out
abbrev pub takes_one : Act → List Message → List Message
takes_one (Took k m) g = g ++ m ∷ []
takes_one (Gave k m) g = g
takes_one Refused g = g
takes_one Idle g = g
takes_one Told g = g
takes_one (Handed x) g = g

abbrev pub gives_one : Act → List Message → List Message
gives_one (Took k m) p = p
gives_one (Gave k m) p = p ++ m ∷ []
gives_one Refused p = p
gives_one Idle p = p
gives_one Told p = p
gives_one (Handed x) p = p

-- the same of a list of acts, the newest first
abbrev pub ins_of : List Act → List Message
ins_of [] = []
ins_of (act ∷ acts) = takes_one act (ins_of acts)

abbrev pub outs_of : List Act → List Message
outs_of [] = []
outs_of (act ∷ acts) = gives_one act (outs_of acts)

-- where its end isn't decided, a stage hasn't ended
undone : {N : Type 0} (u : StageState N) → (u.done ≡ true → (u.held ≡ []) × IsSome u.fin) → u.fin ≡ None → u.done ≡ true → ⊥
undone u ends none done = false≢true (subst IsSome none (ends done).1)

short_fin-cut : (fin : Option End) → IsCutEnd (short_fin fin)
short_fin-cut None = tt
short_fin-cut (Some fin) = tt

module _ {N : Type 0} (b : Behaviour N) (kind : KeepsKind b) (o : N) where
  -- a put is refused memory
  drops-tied : (u : StageState N) (held : List Message) (g p : List Message) → u.held ≡ held → IsOpenFront held → TiedTo b o u g p → TiedTo b o (drops u) g p
  drops-tied u [] g p e h t = absurd h
  drops-tied u (m ∷ held) g p e h t =
      Begun-cut b o (short_fin u.fin) g p (short_fin-cut u.fin)
      (TiedAt-begun b o u.mode u.node u.fin g p m held (subst (λ l. TiedAt b o u.mode u.node u.fin g (p ++ l)) e t))

  -- a live stage is told to abort
  told-tied : (u : StageState N) (g p : List Message) → u.held ≡ [] → u.mode ≡ Live → TiedTo b o u g p → TiedCut b o (Some Abort) g (p ++ AbortMsg ∷ [])
  told-tied u g p none live t =
      let l : TiedLive b o u.node u.fin g p = subst (λ l. TiedLive b o u.node u.fin g l) (ap (λ h. p ++ h) none ∙ append-nil p) (subst (λ mode. TiedAt b o mode u.node u.fin g (p ++ u.held)) live t) in
      Begun-cut b o (Some Abort) g p tt (record { outs = l.outs; more = answer b u.node; exact = l.exact })

  -- an Abort is taken last
  HasAbort-last : (g : List Message) → HasAbort (g ++ AbortMsg ∷ [])
  HasAbort-last [] = tt
  HasAbort-last (Item x ∷ g) = HasAbort-last g
  HasAbort-last (Mark ∷ g) = HasAbort-last g
  HasAbort-last (Pick w ∷ g) = HasAbort-last g
  HasAbort-last (EosMsg ∷ g) = HasAbort-last g
  HasAbort-last (AbortMsg ∷ g) = tt

  fin-works : (u : StageState N) (x : Rec) → u.fin ≡ None → (ends : Bool) → b.ends u.node x ≡ ends → (works b [] u x).fin ≡ None
  fin-works u x none true e = rw e refl
  fin-works u x none false e = rw e none

  -- a stage that goes on ends by Abort only where it takes one
  StageTakes-cause : (mode : Mode) (u : StageState N) (m : Message) (v : StageState N) (g : List Message) → u.fin ≡ None → StageTakes b [] mode u m v
      → IsAbortEnd v.fin → HasAbort (g ++ m ∷ [])
  StageTakes-cause mode u m v g none takes end = by mode m takes
    where
      no : (fin : Option End) → v.fin ≡ fin → (IsAbortEnd fin → ⊥) → (m : Message) → HasAbort (g ++ m ∷ [])
      no fin e other m = absurd (other (subst IsAbortEnd e end))

      by : (mode : Mode) (m : Message) → StageTakes b [] mode u m v → HasAbort (g ++ m ∷ [])
      by Live (Item x) (inl e) = no None (ap (λ w. w.fin) e ∙ fin-works u x none (b.ends u.node x) refl) (λ h. h) (Item x)
      by Live (Item x) (inr gives) = no None gives.fin_is (λ h. h) (Item x)
      by Live Mark e = no None (ap (λ w. w.fin) e ∙ none) (λ h. h) Mark
      by Live (Pick w) e = no None (ap (λ z. z.fin) e ∙ none) (λ h. h) (Pick w)
      by Live EosMsg (inl e) = no (Some Eos) (ap (λ w. w.fin) e) (λ h. h) EosMsg
      by Live EosMsg (inr gives) = no (Some Memory) gives.fin_is (λ h. h) EosMsg
      by Live AbortMsg e = HasAbort-last g
      by Shut (Item x) e = no None (ap (λ w. w.fin) e ∙ none) (λ h. h) (Item x)
      by Shut Mark e = no None (ap (λ w. w.fin) e ∙ none) (λ h. h) Mark
      by Shut (Pick w) e = no None (ap (λ z. z.fin) e ∙ none) (λ h. h) (Pick w)
      by Shut EosMsg e = no (Some Eos) (ap (λ w. w.fin) e) (λ h. h) EosMsg
      by Shut AbortMsg e = HasAbort-last g
      by Cut (Item x) e = no None (ap (λ w. w.fin) e ∙ none) (λ h. h) (Item x)
      by Cut Mark e = no None (ap (λ w. w.fin) e ∙ none) (λ h. h) Mark
      by Cut (Pick w) e = no None (ap (λ z. z.fin) e ∙ none) (λ h. h) (Pick w)
      by Cut EosMsg e = no (Some Memory) (ap (λ w. w.fin) e) (λ h. h) EosMsg
      by Cut AbortMsg e = no (Some Memory) (ap (λ w. w.fin) e) (λ h. h) AbortMsg

  short_fin-cause : (fin : Option End) → IsAbortEnd (short_fin fin) → ⊥
  short_fin-cause None h = h
  short_fin-cause (Some fin) h = h

  -- one step
  pub Tied-step : (u : StageState N) (g p : List Message) (act : Act) (v : StageState N) → StageStep b [] u act v → Tied b o u g p
      → Tied b o v (takes_one act g) (gives_one act p)
  Tied-step u g p (Took k m) v s t = record {
    done = λ done. absurd (undone u t.done s.2 (sym (StageTakes-kept b [] kind u.mode u m v s.3).done ∙ done));
    tied = StageTakes-tied b o g p u.mode u m v refl s.1 s.2 s.3 t.tied;
    cause = λ end. inr (StageTakes-cause u.mode u m v g s.2 s.3 end);
  }
  Tied-step u g p (Gave k m) v s t = record {
    done = λ done. absurd (omega (arith, ap length (sym (t.done (sym (ap (λ w. w.done) s.2) ∙ done)).0 ∙ s.1)));
    tied = subst (λ w. TiedTo b o w g (p ++ m ∷ [])) (sym s.2)
        (subst (λ l. TiedAt b o u.mode u.node u.fin g l) (ap (λ h. p ++ h) s.1 ∙ sym (append_assoc p (m ∷ []) v.held)) t.tied);
    cause = subst (λ w. HasCause w g) (sym s.2) t.cause;
  }
  Tied-step u g p Refused v s t = record {
    done = λ done. absurd (subst IsOpenFront (t.done (sym (ap (λ w. w.done) s.1) ∙ done)).0 s.0);
    tied = subst (λ w. TiedTo b o w g p) (sym s.1) (drops-tied u u.held g p refl s.0 t.tied);
    cause = subst (λ w. HasCause w g) (sym s.1) (λ end. absurd (short_fin-cause u.fin end));
  }
  Tied-step u g p Idle v (inl e) t = subst (λ w. Tied b o w g p) (sym e) t
  Tied-step u g p Idle v (inr s) t = subst (λ w. Tied b o w g p) (sym s.2) (record { done = λ _. (s.0, s.1); tied = t.tied; cause = t.cause })
  Tied-step u g p Told v s t = record {
    done = λ done. absurd (undone u t.done s.2 (sym (ap (λ w. w.done) s.3) ∙ done));
    tied = subst (λ w. TiedTo b o w g p) (sym s.3) (told-tied u g p s.0 s.1 t.tied);
    cause = subst (λ w. HasCause w g) (sym s.3) (λ end. inl refl);
  }
  Tied-step u g p (Handed x) v s t = subst (λ w. Tied b o w g p) (sym s.1) (record { done = t.done; tied = t.tied; cause = t.cause })

  -- any number of steps from a stage that made none
  pub Tied-leads : (keeps : Bool) (acts : List Act) (u : StageState N) → Leads (StageStep b []) (started o keeps) acts u → Tied b o u (ins_of acts) (outs_of acts)
  Tied-leads keeps [] u e =
      subst (λ w. Tied b o w [] []) (sym e)
      (record { done = λ done. absurd (false≢true done); tied = record { undecided = refl; ins = tt; outs = tt; exact = λ rest. refl }; cause = λ end. absurd end })
  Tied-leads keeps (act ∷ acts) u l = Tied-step l.0 (ins_of acts) (outs_of acts) act u l.2 (Tied-leads keeps acts l.0 l.1)

-- the ports are one in and one out
module _ {N : Type 0} (b : Behaviour N) (behind : List Message) where
  took-one : (u : StageState N) (act : Act) (v : StageState N) (g : List Message) → StageStep b behind u act v → took act (g ∷ []) ≡ takes_one act g ∷ []
  took-one u (Took k m) v g s = ap (λ k. added (g ∷ []) k m) s.0
  took-one u (Gave k m) v g s = refl
  took-one u Refused v g s = refl
  took-one u Idle v g s = refl
  took-one u Told v g s = refl
  took-one u (Handed x) v g s = refl

  gave-one : (u : StageState N) (act : Act) (v : StageState N) (p : List Message) → StageStep b behind u act v → gave act (p ∷ []) ≡ gives_one act p ∷ []
  gave-one u (Took k m) v p s = refl
  gave-one u (Gave k m) v p s = ap (λ k. added (p ∷ []) k m) s.0
  gave-one u Refused v p s = refl
  gave-one u Idle v p s = refl
  gave-one u Told v p s = refl
  gave-one u (Handed x) v p s = refl

  pub took_on-one : (start : StageState N) (acts : List Act) (u : StageState N) → Leads (StageStep b behind) start acts u → took_on ([] ∷ []) acts ≡ ins_of acts ∷ []
  took_on-one start [] u l = refl
  took_on-one start (act ∷ acts) u l = ap (took act) (took_on-one start acts l.0 l.1) ∙ took-one l.0 act u (ins_of acts) l.2

  pub gave_on-one : (start : StageState N) (acts : List Act) (u : StageState N) → Leads (StageStep b behind) start acts u → gave_on ([] ∷ []) acts ≡ outs_of acts ∷ []
  gave_on-one start [] u l = refl
  gave_on-one start (act ∷ acts) u l = ap (gave act) (gave_on-one start acts l.0 l.1) ∙ gave-one l.0 act u (outs_of acts) l.2

-- the ports of a stage after a run, tied to its state
pub record IsTiedRun {N : Type 0} (b : Behaviour N) (u : StageState N) (gots puts : List (List Message)) : Type 0 where
  pub got : List Message
  pub put : List Message
  pub gots_are : gots ≡ got ∷ []
  pub puts_are : puts ≡ put ∷ []
  pub tied : Tied b (b.opening u.node) u got put

-- every run is such
pub HasRun-tied : {N : Type 0} (b : Behaviour N) (kind : KeepsKind b) (u : StageState N) (gots puts : List (List Message))
    → HasRun (StageStep b []) (opening_stage b u) 1 1 u gots puts → IsTiedRun b u gots puts
HasRun-tied b kind u gots puts run = record {
  got = ins_of run.acts;
  put = outs_of run.acts;
  gots_are = run.takes ∙ took_on-one b [] (opening_stage b u) run.acts u run.leads;
  puts_are = run.gives ∙ gave_on-one b [] (opening_stage b u) run.acts u run.leads;
  tied = Tied-leads b kind (b.opening u.node) u.keeps run.acts u run.leads;
}
