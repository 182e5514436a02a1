-- A worker takes what its stage takes, and the stage a Mark behind each record.
use Rattle.std.specs.Prelude.{◌≡◌, ◌⊎◌}
use Rattle.std.proofs.Common.{Bool, true, false, List, [], ◌∷◌, ◌++◌, None, refl, sym, ap, ◌∙◌, subst, append_assoc, inl, inr}
use Rattle.std.proofs.lemmas.Bool.{cond-true, cond-false}
use Rattle.ff_rec.specs.Lines.{Rec}
use Rattle.ff_rec.specs.declared.msg.Msg.TheVariants.{Item, Mark, Pick, Eos as EosMsg, Abort as AbortMsg}
use Rattle.ff_node.specs.Behaviour.{Behaviour}
use Rattle.ff_node.specs.Runs.{Message, Act, Took, Leads}
use Rattle.ff_unit.specs.Stage.{StageState}
use Rattle.ff_unit.specs.StageSteps.{StageStep, StageTakes, closes, goes_on, works}
use Rattle.ff_unit.specs.StageKeptLaws.{takes_one, gives_one, ins_of, outs_of}
use Rattle.ff_unit.specs.declared.mode.Mode.{Mode}
use Rattle.ff_unit.specs.declared.mode.Mode.TheVariants.{Live, Shut, Cut}
use Rattle.ff_loop.specs.WorkerMarkLaws.{with_marks, with_marks-append}

-- a worker that holds the Mark which its stage will take
abbrev pub with_mark : {N : Type 0} → StageState N → StageState N
with_mark s = record s { held = s.held ++ Mark ∷ [] }

-- the stage took all that the worker took, with the Marks
pub record IsLevel {N : Type 0} (s u : StageState N) (ins g : List Message) : Type 0 where
  pub same : u ≡ s
  pub ins_are : ins ≡ with_marks g

-- the worker holds a Mark that the stage has still to take
pub record OwesMark {N : Type 0} (s u : StageState N) (ins g : List Message) : Type 0 where
  pub same : u ≡ with_mark s
  pub live : s.mode ≡ Live
  pub undecided : s.fin ≡ None
  pub ins_are : ins ++ Mark ∷ [] ≡ with_marks g

-- the stage has still to take a Mark, which it will drop
pub record DropsMark {N : Type 0} (s u : StageState N) (ins g : List Message) : Type 0 where
  pub same : u ≡ s
  pub dead : (s.mode ≡ Shut) ⊎ (s.mode ≡ Cut)
  pub undecided : s.fin ≡ None
  pub ins_are : ins ++ Mark ∷ [] ≡ with_marks g

-- which of these it is
abbrev pub IsMarkedAt : {N : Type 0} → StageState N → StageState N → List Message → List Message → Type 0
IsMarkedAt s u ins g = IsLevel s u ins g ⊎ (OwesMark s u ins g ⊎ DropsMark s u ins g)

-- a worker that took `g` and put `p`, and the stage
pub record IsMarked {N : Type 0} (b : Behaviour N) (start u : StageState N) (g p : List Message) : Type 0 where
  pub acts : List Act
  pub stage : StageState N
  pub leads : Leads (StageStep b []) start acts stage
  pub outs_are : outs_of acts ≡ p
  pub at : IsMarkedAt stage u (ins_of acts) g

module _ {N : Type 0} (b : Behaviour N) (start : StageState N) where
  -- the same state, another name
  renamed : (u v : StageState N) (g p : List Message) → v ≡ u → IsMarked b start u g p → IsMarked b start v g p
  renamed u v g p e m = subst (λ w. IsMarked b start w g p) (sym e) m

  -- one act of both
  module _ (g p : List Message) (acts : List Act) (s : StageState N) (leads : Leads (StageStep b []) start acts s) (outs : outs_of acts ≡ p) where
    -- a record is taken, and the Mark behind it isn't
    item-ins : (x : Rec) → ins_of acts ≡ with_marks g → (ins_of acts ++ Item x ∷ []) ++ Mark ∷ [] ≡ with_marks (g ++ Item x ∷ [])
    item-ins x ins = append_assoc (ins_of acts) (Item x ∷ []) (Mark ∷ []) ∙ ap (λ l. l ++ Item x ∷ Mark ∷ []) ins ∙ sym (with_marks-append g (Item x ∷ []))

    -- a live node goes on
    goes_on-marked : (x : Rec) (v : StageState N) → ins_of acts ≡ with_marks g → s.held ≡ [] → s.fin ≡ None → s.mode ≡ Live → b.ends s.node x ≡ false
        → v ≡ works b (Mark ∷ []) s x → IsMarked b start v (g ++ Item x ∷ []) p
    goes_on-marked x v ins none undecided live ends e = record {
      acts = Took 0 (Item x) ∷ acts;
      stage = goes_on b [] s x;
      leads = (
        s,
        leads,
        (
          refl,
          none,
          undecided,
          subst (λ mode. StageTakes b [] mode s (Item x) (goes_on b [] s x)) (sym live)
              (inl (sym (cond-false (b.ends s.node x) (closes b s (b.next s.node x) (b.sends s.node x) (b.rejects s.node x) None) (goes_on b [] s x) ends))),
        ),
      );
      outs_are = outs;
      at = inr (inl (record {
        same = e ∙ cond-false (b.ends s.node x) (closes b s (b.next s.node x) (b.sends s.node x) (b.rejects s.node x) None) (goes_on b (Mark ∷ []) s x) ends;
        live = live;
        undecided = undecided;
        ins_are = item-ins x ins;
      }));
    }

    -- a live node ends
    closes-marked : (x : Rec) (v : StageState N) → ins_of acts ≡ with_marks g → s.held ≡ [] → s.fin ≡ None → s.mode ≡ Live → b.ends s.node x ≡ true
        → v ≡ works b (Mark ∷ []) s x → IsMarked b start v (g ++ Item x ∷ []) p
    closes-marked x v ins none undecided live ends e =
        let ended = closes b s (b.next s.node x) (b.sends s.node x) (b.rejects s.node x) None in
        record {
          acts = Took 0 (Item x) ∷ acts;
          stage = ended;
          leads = (
            s,
            leads,
            (
              refl,
              none,
              undecided,
              subst (λ mode. StageTakes b [] mode s (Item x) ended) (sym live) (inl (sym (cond-true (b.ends s.node x) ended (goes_on b [] s x) ends))),
            ),
          );
          outs_are = outs;
          at = inr (inr (record {
            same = e ∙ cond-true (b.ends s.node x) ended (goes_on b (Mark ∷ []) s x) ends;
            dead = inl refl;
            undecided = refl;
            ins_are = item-ins x ins;
          }));
        }

    works-marked : (x : Rec) (v : StageState N) → ins_of acts ≡ with_marks g → s.held ≡ [] → s.fin ≡ None → s.mode ≡ Live
        → v ≡ works b (Mark ∷ []) s x → (ends : Bool) → b.ends s.node x ≡ ends → IsMarked b start v (g ++ Item x ∷ []) p
    works-marked x v ins none undecided live e true ends = closes-marked x v ins none undecided live ends e
    works-marked x v ins none undecided live e false ends = goes_on-marked x v ins none undecided live ends e

    -- a record that is dropped, or for which the node was given up
    dropped-marked : (x : Rec) (v : StageState N) → ins_of acts ≡ with_marks g → s.held ≡ [] → s.fin ≡ None → StageTakes b [] s.mode s (Item x) v
        → (v.mode ≡ Shut) ⊎ (v.mode ≡ Cut) → v.fin ≡ None → IsMarked b start v (g ++ Item x ∷ []) p
    dropped-marked x v ins none undecided takes dead fin = record {
      acts = Took 0 (Item x) ∷ acts;
      stage = v;
      leads = (s, leads, (refl, none, undecided, takes));
      outs_are = outs;
      at = inr (inr (record { same = refl; dead = dead; undecided = fin; ins_are = item-ins x ins }));
    }

    -- any other message is taken by both
    other-marked : (m : Message) (v : StageState N) → ins_of acts ≡ with_marks g → s.held ≡ [] → s.fin ≡ None → StageTakes b [] s.mode s m v
        → with_marks (m ∷ []) ≡ m ∷ [] → IsMarked b start v (g ++ m ∷ []) p
    other-marked m v ins none undecided takes plain = record {
      acts = Took 0 m ∷ acts;
      stage = v;
      leads = (s, leads, (refl, none, undecided, takes));
      outs_are = outs;
      at = inl (record {
        same = refl;
        ins_are = ap (λ l. l ++ m ∷ []) ins ∙ ap (λ l. with_marks g ++ l) (sym plain) ∙ sym (with_marks-append g (m ∷ []));
      });
    }

    -- a message is taken, where the stage has taken all that was
    pub took-level : (mode : Mode) (m : Message) (v : StageState N) → s.mode ≡ mode → ins_of acts ≡ with_marks g → s.held ≡ [] → s.fin ≡ None
        → StageTakes b (Mark ∷ []) mode s m v → IsMarked b start v (g ++ m ∷ []) p
    took-level Live (Item x) v live ins none undecided (inl e) = works-marked x v ins none undecided live e (b.ends s.node x) refl
    took-level Live (Item x) v live ins none undecided (inr gives) =
        dropped-marked x v ins none undecided (subst (λ mode. StageTakes b [] mode s (Item x) v) (sym live) (inr gives)) (inr gives.mode) gives.fin_is
    took-level Live Mark v live ins none undecided takes = other-marked Mark v ins none undecided (subst (λ mode. StageTakes b [] mode s Mark v) (sym live) takes) refl
    took-level Live (Pick w) v live ins none undecided takes =
        other-marked (Pick w) v ins none undecided (subst (λ mode. StageTakes b [] mode s (Pick w) v) (sym live) takes) refl
    took-level Live EosMsg v live ins none undecided takes = other-marked EosMsg v ins none undecided (subst (λ mode. StageTakes b [] mode s EosMsg v) (sym live) takes) refl
    took-level Live AbortMsg v live ins none undecided takes =
        other-marked AbortMsg v ins none undecided (subst (λ mode. StageTakes b [] mode s AbortMsg v) (sym live) takes) refl
    took-level Shut (Item x) v shut ins none undecided takes =
        dropped-marked x v ins none undecided (subst (λ mode. StageTakes b [] mode s (Item x) v) (sym shut) takes)
        (inl (ap (λ w. w.mode) takes ∙ shut)) (ap (λ w. w.fin) takes ∙ undecided)
    took-level Shut Mark v shut ins none undecided takes = other-marked Mark v ins none undecided (subst (λ mode. StageTakes b [] mode s Mark v) (sym shut) takes) refl
    took-level Shut (Pick w) v shut ins none undecided takes =
        other-marked (Pick w) v ins none undecided (subst (λ mode. StageTakes b [] mode s (Pick w) v) (sym shut) takes) refl
    took-level Shut EosMsg v shut ins none undecided takes = other-marked EosMsg v ins none undecided (subst (λ mode. StageTakes b [] mode s EosMsg v) (sym shut) takes) refl
    took-level Shut AbortMsg v shut ins none undecided takes =
        other-marked AbortMsg v ins none undecided (subst (λ mode. StageTakes b [] mode s AbortMsg v) (sym shut) takes) refl
    took-level Cut (Item x) v cut ins none undecided takes =
        dropped-marked x v ins none undecided (subst (λ mode. StageTakes b [] mode s (Item x) v) (sym cut) takes)
        (inr (ap (λ w. w.mode) takes ∙ cut)) (ap (λ w. w.fin) takes ∙ undecided)
    took-level Cut Mark v cut ins none undecided takes = other-marked Mark v ins none undecided (subst (λ mode. StageTakes b [] mode s Mark v) (sym cut) takes) refl
    took-level Cut (Pick w) v cut ins none undecided takes =
        other-marked (Pick w) v ins none undecided (subst (λ mode. StageTakes b [] mode s (Pick w) v) (sym cut) takes) refl
    took-level Cut EosMsg v cut ins none undecided takes = other-marked EosMsg v ins none undecided (subst (λ mode. StageTakes b [] mode s EosMsg v) (sym cut) takes) refl
    took-level Cut AbortMsg v cut ins none undecided takes =
        other-marked AbortMsg v ins none undecided (subst (λ mode. StageTakes b [] mode s AbortMsg v) (sym cut) takes) refl

    -- a stage that is at an end drops a Mark
    pub drops_mark : (s.mode ≡ Shut) ⊎ (s.mode ≡ Cut) → StageTakes b [] s.mode s Mark s
    drops_mark (inl shut) = subst (λ mode. StageTakes b [] mode s Mark s) (sym shut) refl
    drops_mark (inr cut) = subst (λ mode. StageTakes b [] mode s Mark s) (sym cut) refl

    -- an act of the stage alone, or of both
    pub stepped : (act : Act) (t v : StageState N) (g' p' : List Message) → StageStep b [] s act t → gives_one act p ≡ p' → IsMarkedAt t v (takes_one act (ins_of acts)) g'
        → IsMarked b start v g' p'
    stepped act t v g' p' step gives at = record {
      acts = act ∷ acts;
      stage = t;
      leads = (s, leads, step);
      outs_are = ap (gives_one act) outs ∙ gives;
      at = at;
    }
