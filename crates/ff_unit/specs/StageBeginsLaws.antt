-- What a run of a stage has put begins what its node sends for all of the in.
use Rattle.std.specs.Prelude.{◌⊎◌}
use Rattle.std.proofs.Common.{◌≡◌, List, [], ◌∷◌, ◌++◌, length, Option, refl, sym, ap, ◌∙◌, subst, append_assoc, append-nil, inl, inr}
use Rattle.ff_rec.specs.Streams.{IsOpen, at, unaborted, closed, GoesOn}
use Rattle.ff_rec.specs.declared.msg.Msg.TheVariants.{Eos as EosMsg}
use Rattle.ff_node.specs.Behaviour.{Behaviour, KeepsKind}
use Rattle.ff_node.specs.Classes.{ClassLaw}
use Rattle.ff_node.specs.Fits.{FitsStage}
use Rattle.ff_node.specs.Runs.{Message, HasRun, AllGoOn, HasOuts, BeginsToFit}
use Rattle.ff_port.specs.declared.answers.End.{End}
use Rattle.ff_unit.specs.Stage.{StageState, opening_stage}
use Rattle.ff_unit.specs.StagePorts.{StageReady}
use Rattle.ff_unit.specs.StageSteps.{StageStep}
use Rattle.ff_unit.specs.declared.mode.Mode.{Mode}
use Rattle.ff_unit.specs.declared.mode.Mode.TheVariants.{Live, Shut, Cut}
use Rattle.ff_unit.specs.AnswerLaws.{answer, IsOpen-answer, answer-closed, answer-unaborted, FitsStage-answer}
use Rattle.ff_unit.specs.MessageLaws.{unaborted-append, unaborted-open, unaborted-closed, unaborted-cut}
use Rattle.ff_unit.specs.StageKeptLaws.{IsTiedRun, HasRun-tied}
use Rattle.ff_unit.specs.StageTiedLaws.{TiedAt, Tied, TiedAt-begun}

module _ {N : Type 0} (b : Behaviour N) (o : N) where
  -- what was put and is held, without an Abort, goes on to the whole answer
  TiedAt-goes_on : (mode : Mode) (n : N) (fin : Option End) (g t rest : List Message) → TiedAt b o mode n fin g t
      → (more : List Message) × (closed (answer b o (g ++ rest)) ≡ unaborted t ++ more)
  TiedAt-goes_on Live n fin g t rest h = (
    closed (answer b n rest),
    ap closed (h.exact rest) ∙ append_assoc t (answer b n rest) (EosMsg ∷ []) ∙ ap (λ l. l ++ closed (answer b n rest)) (sym (unaborted-open t h.outs)),
  )
  TiedAt-goes_on Shut n fin g t rest h = (
    [],
    ap closed (h.exact rest) ∙ sym (unaborted-closed h.whole h.inner) ∙ ap unaborted (sym h.is) ∙ sym (append-nil (unaborted t)),
  )
  TiedAt-goes_on Cut n fin g t rest h = (
    closed (h.more rest),
    ap closed (h.exact rest) ∙ append_assoc h.outs (h.more rest) (EosMsg ∷ [])
        ∙ ap (λ l. l ++ closed (h.more rest)) (sym (unaborted-cut h.outs h.inner) ∙ ap unaborted (sym h.is)),
  )

  -- and so does what was put
  Tied-goes_on : (u : StageState N) (g p ms : List Message) → Tied b o u g p → GoesOn (unaborted g) ms → GoesOn (unaborted p) (answer b o ms)
  Tied-goes_on u g p ms t on =
      let rest = TiedAt-goes_on u.mode u.node u.fin g (p ++ u.held) on.more t.tied in record {
        inner = IsOpen-answer b o ms;
        more = unaborted u.held ++ rest.0;
        is = ap closed (sym (answer-closed b o ms) ∙ ap (answer b o) on.is ∙ answer-unaborted b o g on.more)
            ∙ rest.1
            ∙ ap (λ l. l ++ rest.0) (unaborted-append p u.held)
            ∙ append_assoc (unaborted p) (unaborted u.held) rest.0;
      }

module _ {N : Type 0} (b : Behaviour N) (kind : KeepsKind b) where
  -- while something is held, neither Eos nor Abort was put
  IsOpen-held : (u : StageState N) (g p held : List Message) → Tied b (b.opening u.node) u g p → u.held ≡ held → (u.held ≡ []) ⊎ IsOpen p
  IsOpen-held u g p [] t e = inl e
  IsOpen-held u g p (m ∷ held) t e =
      inr (TiedAt-begun b (b.opening u.node) u.mode u.node u.fin g p m held
      (subst (λ h. TiedAt b (b.opening u.node) u.mode u.node u.fin g (p ++ h)) e t.tied)).outs

  -- its ports are as its code asks
  pub StageReady-run : (u : StageState N) (gots puts : List (List Message)) → HasRun (StageStep b []) (opening_stage b u) 1 1 u gots puts
      → StageReady u gots puts
  StageReady-run u gots puts run = of (HasRun-tied b kind u gots puts run)
    where
      of : IsTiedRun b u gots puts → StageReady u gots puts
      of r = record {
        one_in = ap length r.gots_are;
        one_out = ap length r.puts_are;
        open_out = subst (λ l. (u.held ≡ []) ⊎ IsOpen (at l 0)) (sym r.puts_are) (IsOpen-held u r.got r.put u.held r.tied refl);
        ended = r.tied.done;
      }

  -- however its in goes on, its out can go on so that it fits
  pub BeginsToFit-stage : (law : (o : N) → ClassLaw b o (b.class o)) (u : StageState N) (gots puts : List (List Message))
      → HasRun (StageStep b []) (opening_stage b u) 1 1 u gots puts → BeginsToFit (FitsStage b u.node) gots puts
  BeginsToFit-stage law u gots puts run =
      let r = HasRun-tied b kind u gots puts run in
      λ ins on. subst (HasOuts (FitsStage b u.node) ins) (sym r.puts_are) (outs r.got r.put r.tied ins (subst (λ l. AllGoOn l ins) r.gots_are on))
    where
      outs : (g p : List Message) → Tied b (b.opening u.node) u g p → (ins : List (List Message)) → AllGoOn (g ∷ []) ins → HasOuts (FitsStage b u.node) ins (p ∷ [])
      outs g p t [] on = absurd on
      outs g p t (ms ∷ []) on = record {
        outs = answer b (b.opening u.node) ms ∷ [];
        goes_on = (Tied-goes_on b (b.opening u.node) u g p ms t on.0, tt);
        fits = FitsStage-answer b u.node (law u.node) ms;
      }
      outs g p t (ms ∷ next ∷ mss) on = absurd on.1
