-- What a run of the drainer has kept.
use Rattle.std.proofs.Common.{◌≡◌, ◌⊎◌, ℕ, Bool, true, false, List, [], ◌∷◌, ◌++◌, refl, sym, ap, ap₂, ◌∙◌, subst, append_assoc, inl, inr}
use Rattle.std.proofs.lemmas.Bool.{both_ways}
use Rattle.std.proofs.lemmas.List.{append-nil}
use Rattle.ff_rec.specs.Lines.{Rec}
use Rattle.ff_rec.specs.Streams.{IsOpenMsg, at, items}
use Rattle.ff_rec.specs.declared.msg.Msg.TheVariants.{Item, Mark, Pick, Eos, Abort}
use Rattle.ff_node.specs.Runs.{Message, Act, Took, Gave, Refused, Idle, Told, Handed, took, took_on, Leads, HasRun}
use Rattle.ff_steps.specs.Parties.{Drainer, DrainerStep, opening_drainer}
use Rattle.ff_unit.specs.MessageLaws.{items-append}

-- the last message of a list is Eos or Abort
pub record IsEnded (ms : List Message) : Type 0 where
  pub front : List Message
  pub last : Message
  pub is : ms ≡ front ++ last ∷ []
  pub ends : IsOpenMsg last → ⊥

-- a drainer has kept the first records that it took, and all of them where it wasn't refused memory
pub record HasDrained (d : Drainer) (gots : List (List Message)) : Type 0 where
  pub got : List Message
  pub gots_are : gots ≡ got ∷ []
  pub lost : List Rec
  pub kept : items got ≡ d.output ++ lost
  pub all : d.refused ≡ false → lost ≡ []
  pub ended : d.done ≡ true → IsEnded got

-- one message more at the only in
abbrev pulled : List (List Message) → Message → List (List Message)
pulled gots m = took (Took 0 m) gots

-- a drainer by its parts
abbrev drainer : List Rec → Bool → Bool → Drainer
drainer output refused done = record { output = output; refused = refused; done = done }

-- it takes a record and keeps it
HasDrained-kept : (output : List Rec) (x : Rec) (gots : List (List Message)) → HasDrained (drainer output false false) gots
    → HasDrained (drainer (output ++ x ∷ []) false false) (pulled gots (Item x))
HasDrained-kept output x gots h = record {
  got = h.got ++ Item x ∷ [];
  gots_are = ap (λ g. pulled g (Item x)) h.gots_are;
  lost = [];
  kept = items-append h.got (Item x ∷ []) ∙ ap (λ l. l ++ x ∷ []) (h.kept ∙ ap (λ l. output ++ l) (h.all refl) ∙ append-nil output) ∙ sym (append-nil (output ++ x ∷ []));
  all = λ e. refl;
  ended = λ e. absurd (both_ways false refl e);
}

-- it takes a record and drops it
HasDrained-lost : (output : List Rec) (refused : Bool) (x : Rec) (gots : List (List Message)) → HasDrained (drainer output refused false) gots
    → HasDrained (drainer output true false) (pulled gots (Item x))
HasDrained-lost output refused x gots h = record {
  got = h.got ++ Item x ∷ [];
  gots_are = ap (λ g. pulled g (Item x)) h.gots_are;
  lost = h.lost ++ x ∷ [];
  kept = items-append h.got (Item x ∷ []) ∙ ap (λ l. l ++ x ∷ []) h.kept ∙ append_assoc output h.lost (x ∷ []);
  all = λ e. absurd (both_ways true e refl);
  ended = λ e. absurd (both_ways false refl e);
}

-- it takes a message that carries nothing
HasDrained-plain : (output : List Rec) (refused : Bool) (m : Message) (gots : List (List Message)) → items (m ∷ []) ≡ [] → HasDrained (drainer output refused false) gots
    → HasDrained (drainer output refused false) (pulled gots m)
HasDrained-plain output refused m gots e h = record {
  got = h.got ++ m ∷ [];
  gots_are = ap (λ g. pulled g m) h.gots_are;
  lost = h.lost;
  kept = items-append h.got (m ∷ []) ∙ ap (λ l. items h.got ++ l) e ∙ append-nil (items h.got) ∙ h.kept;
  all = h.all;
  ended = λ e. absurd (both_ways false refl e);
}

-- it takes Eos or Abort
HasDrained-ended : (output : List Rec) (refused : Bool) (m : Message) (gots : List (List Message)) → items (m ∷ []) ≡ [] → (IsOpenMsg m → ⊥) → HasDrained (drainer output refused false) gots
    → HasDrained (drainer output refused true) (pulled gots m)
HasDrained-ended output refused m gots e ends h = record {
  got = h.got ++ m ∷ [];
  gots_are = ap (λ g. pulled g m) h.gots_are;
  lost = h.lost;
  kept = items-append h.got (m ∷ []) ∙ ap (λ l. items h.got ++ l) e ∙ append-nil (items h.got) ∙ h.kept;
  all = h.all;
  ended = λ d. record { front = h.got; last = m; is = refl; ends = ends };
}

-- a drainer whose flags are known
HasDrained-known : (d : Drainer) (refused done : Bool) (gots : List (List Message)) → d.refused ≡ refused → d.done ≡ done → HasDrained d gots → HasDrained (drainer d.output refused done) gots
HasDrained-known d refused done gots r e h = subst (λ x. HasDrained x gots) (ap₂ (drainer d.output) r e) h

HasDrained-from : (d e : Drainer) (k : ℕ) (m : Message) (gots : List (List Message)) → k ≡ 0 → d ≡ e → HasDrained d (pulled gots m) → HasDrained e (took (Took k m) gots)
HasDrained-from d e k m gots port same h = subst (λ j. HasDrained e (took (Took j m) gots)) (sym port) (subst (λ x. HasDrained x (pulled gots m)) same h)

-- one step of a drainer
HasDrained-more : (d : Drainer) (act : Act) (e : Drainer) (gots : List (List Message)) → HasDrained d gots → DrainerStep d act e → HasDrained e (took act gots)
HasDrained-more d (Took k (Item x)) e gots h step = either step.2
  where
    either : ((d.refused ≡ false) × (e ≡ record d { output = d.output ++ x ∷ [] })) ⊎ (e ≡ record d { refused = true }) → HasDrained e (took (Took k (Item x)) gots)
    either (inl s) = HasDrained-from (drainer (d.output ++ x ∷ []) false false) e k (Item x) gots step.0 (ap₂ (drainer (d.output ++ x ∷ [])) (sym s.0) (sym step.1) ∙ sym s.1)
        (HasDrained-kept d.output x gots (HasDrained-known d false false gots s.0 step.1 h))
    either (inr s) = HasDrained-from (drainer d.output true false) e k (Item x) gots step.0 (ap (drainer d.output true) (sym step.1) ∙ sym s)
        (HasDrained-lost d.output d.refused x gots (HasDrained-known d d.refused false gots refl step.1 h))
HasDrained-more d (Took k Mark) e gots h step = HasDrained-from (drainer d.output d.refused false) e k Mark gots step.0 (ap (drainer d.output d.refused) (sym step.1) ∙ sym step.2)
    (HasDrained-plain d.output d.refused Mark gots refl (HasDrained-known d d.refused false gots refl step.1 h))
HasDrained-more d (Took k (Pick w)) e gots h step = HasDrained-from (drainer d.output d.refused false) e k (Pick w) gots step.0 (ap (drainer d.output d.refused) (sym step.1) ∙ sym step.2)
    (HasDrained-plain d.output d.refused (Pick w) gots refl (HasDrained-known d d.refused false gots refl step.1 h))
HasDrained-more d (Took k Eos) e gots h step = HasDrained-from (drainer d.output d.refused true) e k Eos gots step.0 (sym step.2)
    (HasDrained-ended d.output d.refused Eos gots refl (λ x. x) (HasDrained-known d d.refused false gots refl step.1 h))
HasDrained-more d (Took k Abort) e gots h step = HasDrained-from (drainer d.output d.refused true) e k Abort gots step.0 (sym step.2)
    (HasDrained-ended d.output d.refused Abort gots refl (λ x. x) (HasDrained-known d d.refused false gots refl step.1 h))
HasDrained-more d (Gave k m) e gots h step = absurd step
HasDrained-more d Refused e gots h step = absurd step
HasDrained-more d Idle e gots h step = subst (λ x. HasDrained x gots) (sym step) h
HasDrained-more d Told e gots h step = absurd step
HasDrained-more d (Handed x) e gots h step = absurd step

HasDrained-leads : (acts : List Act) (d : Drainer) → Leads DrainerStep opening_drainer acts d → HasDrained d (took_on ([] ∷ []) acts)
HasDrained-leads [] d l = subst (λ e. HasDrained e ([] ∷ [])) (sym l)
    (record { got = []; gots_are = refl; lost = []; kept = refl; all = λ e. refl; ended = λ e. absurd (both_ways false refl e) })
HasDrained-leads (act ∷ acts) d l = HasDrained-more l.0 act d (took_on ([] ∷ []) acts) (HasDrained-leads acts l.0 l.1) l.2

-- a run of the drainer
HasDrained-run : (d : Drainer) (gots puts : List (List Message)) → HasRun DrainerStep opening_drainer 1 0 d gots puts → HasDrained d gots
HasDrained-run d gots puts run = subst (HasDrained d) (sym run.takes) (HasDrained-leads run.acts d run.leads)

-- what it kept is a beginning of what it took
pub items-drainer : (d : Drainer) (gots puts : List (List Message)) → HasRun DrainerStep opening_drainer 1 0 d gots puts
    → (lost : List Rec) × (items (at gots 0) ≡ d.output ++ lost) × (d.refused ≡ false → lost ≡ [])
items-drainer d gots puts run = of (HasDrained-run d gots puts run)
  where
    of : HasDrained d gots → (lost : List Rec) × (items (at gots 0) ≡ d.output ++ lost) × (d.refused ≡ false → lost ≡ [])
    of h = (h.lost, ap (λ g. items (at g 0)) h.gots_are ∙ h.kept, h.all)

-- once it has ended, it took Eos or Abort last
pub IsEnded-drainer : (d : Drainer) (gots puts : List (List Message)) → HasRun DrainerStep opening_drainer 1 0 d gots puts
    → d.done ≡ true → IsEnded (at gots 0)
IsEnded-drainer d gots puts run done = of (HasDrained-run d gots puts run)
  where
    of : HasDrained d gots → IsEnded (at gots 0)
    of h = subst (λ g. IsEnded (at g 0)) (sym h.gots_are) (h.ended done)
