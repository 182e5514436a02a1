-- A run of a worker is a run of a stage that takes a Mark behind each record.
use Rattle.std.specs.Prelude.{◌≡◌, ◌⊎◌, IsSome}
use Rattle.std.proofs.Common.{ℕ, List, [], ◌∷◌, ◌++◌, length, get_or, drop, None, refl, sym, ap, ◌∙◌, subst, arith, length-append, inl, inr}
use Rattle.std.proofs.lemmas.Bool.{false≢true}
use Rattle.ff_rec.specs.declared.msg.Msg.TheVariants.{Mark}
use Rattle.ff_node.specs.Behaviour.{Behaviour}
use Rattle.ff_node.specs.Runs.{Message, Act, Took, Gave, Refused, Idle, Told, Handed, Leads}
use Rattle.ff_unit.specs.Stage.{StageState}
use Rattle.ff_unit.specs.StageSteps.{StageStep, StageTakes, IsOpenFront, drops, short_fin}
use Rattle.ff_unit.specs.StageKeptLaws.{takes_one, gives_one, ins_of, outs_of}
use Rattle.ff_unit.specs.declared.mode.Mode.TheVariants.{Live, Shut, Cut}
use Rattle.ff_loop.specs.WorkerMarkLaws.{with_marks}
use Rattle.ff_loop.specs.WorkerTakesLaws.{with_mark, IsLevel, DropsMark, IsMarkedAt, IsMarked, took-level, drops_mark, stepped}
use Rattle.ff_loop.specs.WorkerUnit.{WorkerStep}

module _ {N : Type 0} (b : Behaviour N) (start : StageState N) where
  module _ (g p : List Message) (acts : List Act) (s : StageState N) (leads : Leads (StageStep b []) start acts s) (outs : outs_of acts ≡ p) where
    -- from where the stage has taken all that the worker took
    level-step : (u : StageState N) → IsLevel s u (ins_of acts) g → (act : Act) (v : StageState N) → WorkerStep b u act v
        → IsMarked b start v (takes_one act g) (gives_one act p)
    level-step u level act v step = by act (subst (λ w. WorkerStep b w act v) level.same step)
      where
        both : (act : Act) → StageStep b [] s act v → takes_one act (ins_of acts) ≡ with_marks (takes_one act g)
            → IsMarked b start v (takes_one act g) (gives_one act p)
        both act step ins = stepped b start g p acts s leads outs act v v (takes_one act g) (gives_one act p) step refl (inl (record { same = refl; ins_are = ins }))

        by : (act : Act) → WorkerStep b s act v → IsMarked b start v (takes_one act g) (gives_one act p)
        by (Took k m) step = took-level b start g p acts s leads outs s.mode m v refl level.ins_are step.1 step.2 step.3
        by (Gave k m) step = both (Gave k m) step level.ins_are
        by Refused step = both Refused step level.ins_are
        by Idle step = both Idle step level.ins_are
        by Told step = both Told step level.ins_are
        by (Handed x) step = both (Handed x) step level.ins_are

  -- from where the stage has still to take a Mark that it will drop
  drops-step : (g p : List Message) (acts : List Act) (s : StageState N) (leads : Leads (StageStep b []) start acts s) (outs : outs_of acts ≡ p)
      → (u : StageState N) → DropsMark s u (ins_of acts) g → (act : Act) (v : StageState N) → WorkerStep b u act v
      → IsMarked b start v (takes_one act g) (gives_one act p)
  drops-step g p acts s leads outs u late act v step = by act (subst (λ w. WorkerStep b w act v) late.same step)
    where
      same_mode : v.mode ≡ s.mode → (v.mode ≡ Shut) ⊎ (v.mode ≡ Cut)
      same_mode e = elim late.dead [ inl shut ↦ inl (e ∙ shut) | inr cut ↦ inr (e ∙ cut) ]

      not_live : s.mode ≡ Live → ⊥
      not_live live = elim late.dead [
        | inl shut ↦ let e : Live ≡ Shut = sym live ∙ shut in cc
        | inr cut ↦ let e : Live ≡ Cut = sym live ∙ cut in cc
      ]

      both : (act : Act) → StageStep b [] s act v → takes_one act (ins_of acts) ++ Mark ∷ [] ≡ with_marks (takes_one act g)
          → (v.mode ≡ Shut) ⊎ (v.mode ≡ Cut) → v.fin ≡ None → IsMarked b start v (takes_one act g) (gives_one act p)
      both act step ins dead fin = stepped b start g p acts s leads outs act v v (takes_one act g) (gives_one act p) step refl
          (inr (inr (record { same = refl; dead = dead; undecided = fin; ins_are = ins })))

      by : (act : Act) → WorkerStep b s act v → IsMarked b start v (takes_one act g) (gives_one act p)
      by (Took k m) step =
          took-level b start g p (Took 0 Mark ∷ acts) s (s, leads, (refl, step.1, step.2, drops_mark b start g p acts s leads outs late.dead)) outs s.mode m v refl
          late.ins_are step.1 step.2 step.3
      by (Gave k m) step = both (Gave k m) step late.ins_are (same_mode (ap (λ w. w.mode) step.2)) (ap (λ w. w.fin) step.2 ∙ late.undecided)
      by Refused step = both Refused step late.ins_are (inr (ap (λ w. w.mode) step.1)) (ap (λ w. w.fin) step.1 ∙ ap short_fin late.undecided)
      by Idle (inl e) = both Idle (inl e) late.ins_are (same_mode (ap (λ w. w.mode) e)) (ap (λ w. w.fin) e ∙ late.undecided)
      by Idle (inr ended) = absurd (false≢true (subst IsSome late.undecided ended.1))
      by Told step = absurd (not_live step.1)
      by (Handed x) step = both (Handed x) step late.ins_are (same_mode (ap (λ w. w.mode) step.1)) (ap (λ w. w.fin) step.1 ∙ late.undecided)

  -- from where the worker holds a Mark that the stage has still to take
  module _ (g p : List Message) (acts : List Act) (s : StageState N) (leads : Leads (StageStep b []) start acts s) (outs : outs_of acts ≡ p)
      (live : s.mode ≡ Live) (undecided : s.fin ≡ None) (ins : ins_of acts ++ Mark ∷ [] ≡ with_marks g) where
    -- the stage takes the Mark
    took_mark : (held : List Message) → s.held ≡ held → held ≡ [] → StageStep b [] s (Took 0 Mark) (record s { held = Mark ∷ [] })
    took_mark held e none = (refl, e ∙ none, undecided, subst (λ mode. StageTakes b [] mode s Mark (record s { held = Mark ∷ [] })) (sym live) refl)

    owes-gave : (k : ℕ) (m : Message) (v : StageState N) (held : List Message) → s.held ≡ held → k ≡ 0 → held ++ Mark ∷ [] ≡ m ∷ v.held
        → v ≡ record s { held = v.held } → IsMarked b start v g (p ++ m ∷ [])
    owes-gave k m v [] e first given is = record {
      acts = Gave k m ∷ Took 0 Mark ∷ acts;
      stage = v;
      leads = (record s { held = Mark ∷ [] }, (s, leads, took_mark [] e refl), (first, given, is));
      outs_are = ap (λ l. l ++ m ∷ []) outs;
      at = inl (record { same = refl; ins_are = ins });
    }
    owes-gave k m v (h ∷ rest) e first given is =
        let front : h ≡ m = ap (λ l. get_or l 0 m) given in
        let behind : v.held ≡ rest ++ Mark ∷ [] = sym (ap (drop 1) given) in
        record {
          acts = Gave k m ∷ acts;
          stage = record s { held = rest };
          leads = (s, leads, (first, e ∙ ap (λ z. z ∷ rest) front, refl));
          outs_are = ap (λ l. l ++ m ∷ []) outs;
          at = inr (inl (record { same = is ∙ ap (λ (l : List Message). record s { held = l }) behind; live = live; undecided = undecided; ins_are = ins }));
        }

    owes-refused : (v : StageState N) (held : List Message) → s.held ≡ held → IsOpenFront (held ++ Mark ∷ []) → v ≡ drops s → IsMarked b start v g p
    owes-refused v [] e front is = record {
      acts = Refused ∷ Took 0 Mark ∷ acts;
      stage = v;
      leads = (record s { held = Mark ∷ [] }, (s, leads, took_mark [] e refl), (tt, is));
      outs_are = outs;
      at = inl (record { same = refl; ins_are = ins });
    }
    owes-refused v (h ∷ rest) e front is = record {
      acts = Refused ∷ acts;
      stage = v;
      leads = (s, leads, (subst IsOpenFront (sym e) front, is));
      outs_are = outs;
      at = inr (inr (record {
        same = refl;
        dead = inr (ap (λ w. w.mode) is);
        undecided = ap (λ w. w.fin) is ∙ ap short_fin undecided;
        ins_are = ins;
      }));
    }

    held-some : s.held ++ Mark ∷ [] ≡ [] → ⊥
    held-some none = omega (arith, ap length none, length-append s.held (Mark ∷ []))

    owes-step : (act : Act) (v : StageState N) → WorkerStep b (with_mark s) act v → IsMarked b start v (takes_one act g) (gives_one act p)
    owes-step (Took k m) v step = absurd (held-some step.1)
    owes-step (Gave k m) v step = owes-gave k m v s.held refl step.0 step.1 step.2
    owes-step Refused v step = owes-refused v s.held refl step.0 step.1
    owes-step Idle v (inl e) = record {
      acts = acts;
      stage = s;
      leads = leads;
      outs_are = outs;
      at = inr (inl (record { same = e; live = live; undecided = undecided; ins_are = ins }));
    }
    owes-step Idle v (inr ended) = absurd (held-some ended.0)
    owes-step Told v step = absurd (held-some step.0)
    owes-step (Handed x) v step = record {
      acts = Handed x ∷ acts;
      stage = record s { kept = v.kept; taken = s.taken ++ x ∷ [] };
      leads = (s, leads, (step.0, refl));
      outs_are = outs;
      at = inr (inl (record { same = step.1; live = live; undecided = undecided; ins_are = ins }));
    }

  -- one act of a worker
  mark-step : (u : StageState N) (g p : List Message) (act : Act) (v : StageState N) → WorkerStep b u act v → IsMarked b start u g p
      → IsMarked b start v (takes_one act g) (gives_one act p)
  mark-step u g p act v step marked = by marked.at
    where
      by : IsMarkedAt marked.stage u (ins_of marked.acts) g → IsMarked b start v (takes_one act g) (gives_one act p)
      by (inl level) = level-step g p marked.acts marked.stage marked.leads marked.outs_are u level act v step
      by (inr (inl owes)) =
          owes-step g p marked.acts marked.stage marked.leads marked.outs_are owes.live owes.undecided owes.ins_are act v
          (subst (λ w. WorkerStep b w act v) owes.same step)
      by (inr (inr late)) = drops-step g p marked.acts marked.stage marked.leads marked.outs_are u late act v step

  -- any number of them
  pub IsMarked-leads : (acts : List Act) (u : StageState N) → Leads (WorkerStep b) start acts u → IsMarked b start u (ins_of acts) (outs_of acts)
  IsMarked-leads [] u e = record { acts = []; stage = start; leads = refl; outs_are = refl; at = inl (record { same = e; ins_are = refl }) }
  IsMarked-leads (act ∷ acts) u l = mark-step l.0 (ins_of acts) (outs_of acts) act u l.2 (IsMarked-leads acts l.0 l.1)
