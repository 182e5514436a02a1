-- A stage that has ended with its in fits what it took and put.
use Rattle.std.proofs.Common.{◌≡◌, true, List, [], ◌∷◌, ◌++◌, Option, Some, sym, ap, ◌∙◌, subst, append-nil}
use Rattle.std.proofs.lemmas.Option.{none-some}
use Rattle.ff_rec.specs.Streams.{IsOpen, closed}
use Rattle.ff_node.specs.Behaviour.{Behaviour, KeepsKind}
use Rattle.ff_node.specs.Classes.{ClassLaw}
use Rattle.ff_node.specs.Fits.{FitsStage}
use Rattle.ff_node.specs.Runs.{Message, HasRun, FitsWhole}
use Rattle.ff_port.specs.declared.answers.End.{End}
use Rattle.ff_port.specs.declared.answers.End.TheVariants.{Eos}
use Rattle.ff_unit.specs.Stage.{StageState, opening_stage}
use Rattle.ff_unit.specs.StageSteps.{StageStep}
use Rattle.ff_unit.specs.declared.mode.Mode.{Mode}
use Rattle.ff_unit.specs.declared.mode.Mode.TheVariants.{Live, Shut, Cut}
use Rattle.ff_unit.specs.AnswerLaws.{answer, answer-closed, FitsStage-answer, IsOpen-answer}
use Rattle.ff_unit.specs.StageKeptLaws.{HasRun-tied}
use Rattle.ff_unit.specs.StageTiedLaws.{TiedAt, IsClosed, EndsIn, IsCutEnd}

-- an in that was ended, and the whole answer to it
record IsWhole {N : Type 0} (b : Behaviour N) (o : N) (g t : List Message) : Type 0 where
  ins : List Message
  ins_open : IsOpen ins
  ins_are : g ≡ closed ins
  outs_are : t ≡ closed (answer b o ins)

-- a stage that is to end by Eos took and puts such lists
TiedAt-whole : {N : Type 0} (b : Behaviour N) (o : N) (mode : Mode) (n : N) (fin : Option End) (g t : List Message)
    → TiedAt b o mode n fin g t → fin ≡ Some Eos → IsWhole b o g t
TiedAt-whole b o Live n fin g t h e = absurd (none-some Eos (sym h.undecided ∙ e))
TiedAt-whole b o Shut n fin g t h e =
    let ins : IsClosed g = subst (λ f. EndsIn f g) e h.ends in record {
      ins = ins.inner;
      ins_open = ins.open_inner;
      ins_are = ins.is;
      outs_are = h.is ∙ ap closed (sym (h.exact []) ∙ ap (answer b o) (append-nil g ∙ ins.is) ∙ answer-closed b o ins.inner);
    }
TiedAt-whole b o Cut n fin g t h e = absurd (subst IsCutEnd e h.ends)

module _ {N : Type 0} (b : Behaviour N) (kind : KeepsKind b) where
  -- the whole in and the whole out
  pub FitsWhole-stage : (law : (o : N) → ClassLaw b o (b.class o)) (u : StageState N) (gots puts : List (List Message))
      → HasRun (StageStep b []) (opening_stage b u) 1 1 u gots puts → u.done ≡ true → u.fin ≡ Some Eos → FitsWhole (FitsStage b u.node) gots puts
  FitsWhole-stage law u gots puts run done fin =
      let r = HasRun-tied b kind u gots puts run in
      let o = b.opening u.node in
      let put = subst (λ l. TiedAt b o u.mode u.node u.fin r.got l) (ap (λ h. r.put ++ h) (r.tied.done done).0 ∙ append-nil r.put) r.tied.tied in
      let whole = TiedAt-whole b o u.mode u.node u.fin r.got r.put put fin in record {
        ins = whole.ins ∷ [];
        outs = answer b o whole.ins ∷ [];
        ins_open = (whole.ins_open, tt);
        outs_open = (IsOpen-answer b o whole.ins, tt);
        gots_are = r.gots_are ∙ ap (λ l. l ∷ []) whole.ins_are;
        puts_are = r.puts_are ∙ ap (λ l. l ∷ []) whole.outs_are;
        fits = FitsStage-answer b u.node (law u.node) whole.ins;
      }
