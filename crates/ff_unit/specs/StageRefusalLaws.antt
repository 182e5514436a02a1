-- What ties the rejects of a stage to what it took, and that it stays so when a message is taken.
use Rattle.std.proofs.Common.{◌≡◌, ℕ, Bool, true, false, cond, List, [], ◌∷◌, ◌++◌, Option, refl, sym, ap, ◌∙◌, subst, append_assoc, inl, inr}
use Rattle.ff_rec.specs.Lines.{Rec}
use Rattle.ff_rec.specs.declared.msg.Msg.TheVariants.{Item, Mark, Pick, Eos as EosMsg, Abort as AbortMsg}
use Rattle.ff_node.specs.Behaviour.{Behaviour}
use Rattle.ff_node.specs.Runs.{Message}
use Rattle.ff_node.specs.Sends.{count_more, kept_of}
use Rattle.ff_port.specs.declared.answers.End.{End}
use Rattle.ff_unit.specs.Stage.{StageState}
use Rattle.ff_unit.specs.StageSteps.{StageTakes, LiveTakes, ShutTakes, CutTakes, works}
use Rattle.ff_unit.specs.declared.mode.Mode.{Mode}
use Rattle.ff_unit.specs.declared.mode.Mode.TheVariants.{Live, Shut, Cut}
use Rattle.ff_unit.specs.RefusalLaws.{refusal, AreRefused, AreRefused-more}

-- while the node is live, what is still to be rejected is what it rejects for the rest of the in
pub record RefusesLive {N : Type 0} (b : Behaviour N) (o n : N) (rejects : ℕ) (keeps : Bool) (kept taken : List Rec) (g : List Message) : Type 0 where
  pub all : List Rec
  pub counts : AreRefused rejects keeps kept taken all
  pub exact : (rest : List Message) → refusal b o (g ++ rest) ≡ all ++ refusal b n rest

-- once it has ended, nothing more
pub record RefusesShut {N : Type 0} (b : Behaviour N) (o : N) (rejects : ℕ) (keeps : Bool) (kept taken : List Rec) (g : List Message) : Type 0 where
  pub all : List Rec
  pub counts : AreRefused rejects keeps kept taken all
  pub exact : (rest : List Message) → refusal b o (g ++ rest) ≡ all

abbrev pub RefusesAt : {N : Type 0} → Behaviour N → N → Mode → N → ℕ → Bool → List Rec → List Rec → List Message → Type 0
RefusesAt b o Live n rejects keeps kept taken g = RefusesLive b o n rejects keeps kept taken g
RefusesAt b o Shut n rejects keeps kept taken g = RefusesShut b o rejects keeps kept taken g
RefusesAt b o Cut n rejects keeps kept taken g = Unit {0}

abbrev pub RefusesTo : {N : Type 0} → Behaviour N → N → StageState N → List Message → Type 0
RefusesTo b o u g = RefusesAt b o u.mode u.node u.rejects u.keeps u.kept u.taken g

module _ {N : Type 0} (b : Behaviour N) (o : N) where
  -- nothing is said of a stream that was cut off
  pub cut_refuses : (v : StageState N) (g : List Message) → v.mode ≡ Cut → RefusesTo b o v g
  cut_refuses v g cut = rw cut tt

  module _ (u : StageState N) (g : List Message) where
    refuses_on : (n : N) (m : Message) (new : List Rec) → ((rest : List Message) → refusal b u.node (m ∷ rest) ≡ new ++ refusal b n rest)
        → RefusesLive b o u.node u.rejects u.keeps u.kept u.taken g → RefusesLive b o n (count_more u.rejects new) u.keeps (u.kept ++ kept_of u.keeps new) u.taken (g ++ m ∷ [])
    refuses_on n m new more r = record {
      all = r.all ++ new;
      counts = AreRefused-more u.rejects u.keeps u.kept u.taken r.all new r.counts;
      exact = λ rest. ap (refusal b o) (append_assoc g (m ∷ []) rest) ∙ r.exact (m ∷ rest) ∙ ap (λ l. r.all ++ l) (more rest) ∙ sym (append_assoc r.all new (refusal b n rest));
    }

    refuses_last : (m : Message) (new : List Rec) → ((rest : List Message) → refusal b u.node (m ∷ rest) ≡ new)
        → RefusesLive b o u.node u.rejects u.keeps u.kept u.taken g → RefusesShut b o (count_more u.rejects new) u.keeps (u.kept ++ kept_of u.keeps new) u.taken (g ++ m ∷ [])
    refuses_last m new more r = record {
      all = r.all ++ new;
      counts = AreRefused-more u.rejects u.keeps u.kept u.taken r.all new r.counts;
      exact = λ rest. ap (refusal b o) (append_assoc g (m ∷ []) rest) ∙ r.exact (m ∷ rest) ∙ ap (λ l. r.all ++ l) (more rest);
    }

    -- a message that carries no record
    refuses_none : (m : Message) → ((rest : List Message) → refusal b u.node (m ∷ rest) ≡ refusal b u.node rest)
        → RefusesLive b o u.node u.rejects u.keeps u.kept u.taken g → RefusesLive b o u.node u.rejects u.keeps u.kept u.taken (g ++ m ∷ [])
    refuses_none m more r = record {
      all = r.all;
      counts = r.counts;
      exact = λ rest. ap (refusal b o) (append_assoc g (m ∷ []) rest) ∙ r.exact (m ∷ rest) ∙ ap (λ l. r.all ++ l) (more rest);
    }

    -- a node that has ended drops what is taken
    refuses_more : (m : Message) → RefusesShut b o u.rejects u.keeps u.kept u.taken g → RefusesShut b o u.rejects u.keeps u.kept u.taken (g ++ m ∷ [])
    refuses_more m r = record { all = r.all; counts = r.counts; exact = λ rest. ap (refusal b o) (append_assoc g (m ∷ []) rest) ∙ r.exact (m ∷ rest) }

    works_refuses : (x : Rec) (ends : Bool) → b.ends u.node x ≡ ends → u.mode ≡ Live
        → RefusesLive b o u.node u.rejects u.keeps u.kept u.taken g → RefusesTo b o (works b [] u x) (g ++ Item x ∷ [])
    works_refuses x true e live r =
        rw e (refuses_last (Item x) (b.rejects u.node x ++ b.last_rejects (b.next u.node x))
        (λ rest. ap (λ c. b.rejects u.node x ++ cond c (b.last_rejects (b.next u.node x)) (refusal b (b.next u.node x) rest)) e) r)
    works_refuses x false e live r =
        rw (e, live) (refuses_on (b.next u.node x) (Item x) (b.rejects u.node x)
        (λ rest. ap (λ c. b.rejects u.node x ++ cond c (b.last_rejects (b.next u.node x)) (refusal b (b.next u.node x) rest)) e) r)

    live_refuses : (m : Message) (v : StageState N) → u.mode ≡ Live → LiveTakes b [] u m v
        → RefusesLive b o u.node u.rejects u.keeps u.kept u.taken g → RefusesTo b o v (g ++ m ∷ [])
    live_refuses (Item x) v live (inl e) r = subst (λ w. RefusesTo b o w (g ++ Item x ∷ [])) (sym e) (works_refuses x (b.ends u.node x) refl live r)
    live_refuses (Item x) v live (inr gives) r = cut_refuses v (g ++ Item x ∷ []) gives.mode
    live_refuses Mark v live e r = subst (λ w. RefusesTo b o w (g ++ Mark ∷ [])) (sym e) (rw live (refuses_none Mark (λ rest. refl) r))
    live_refuses (Pick w) v live e r = subst (λ w'. RefusesTo b o w' (g ++ Pick w ∷ [])) (sym e) (rw live (refuses_none (Pick w) (λ rest. refl) r))
    live_refuses EosMsg v live (inl e) r =
        subst (λ w. RefusesTo b o w (g ++ EosMsg ∷ [])) (sym e) (refuses_last EosMsg (b.last_rejects u.node) (λ rest. refl) r)
    live_refuses EosMsg v live (inr gives) r = cut_refuses v (g ++ EosMsg ∷ []) gives.mode
    live_refuses AbortMsg v live e r = cut_refuses v (g ++ AbortMsg ∷ []) (ap (λ w. w.mode) e)

    shut_refuses : (m : Message) (v : StageState N) → u.mode ≡ Shut → ShutTakes u m v → RefusesShut b o u.rejects u.keeps u.kept u.taken g
        → RefusesTo b o v (g ++ m ∷ [])
    shut_refuses m v shut takes r = by m takes
      where
        same : (m : Message) (fin : Option End) → v ≡ record u { fin = fin } → RefusesTo b o v (g ++ m ∷ [])
        same m fin e = subst (λ w. RefusesTo b o w (g ++ m ∷ [])) (sym e) (rw shut (refuses_more m r))

        by : (m : Message) → ShutTakes u m v → RefusesTo b o v (g ++ m ∷ [])
        by (Item x) e = same (Item x) u.fin e
        by Mark e = same Mark u.fin e
        by (Pick w) e = same (Pick w) u.fin e
        by EosMsg e = same EosMsg _ e
        by AbortMsg e = same AbortMsg _ e

    cut_stays : (m : Message) (v : StageState N) → u.mode ≡ Cut → CutTakes u m v → v.mode ≡ Cut
    cut_stays (Item x) v cut e = ap (λ w. w.mode) e ∙ cut
    cut_stays Mark v cut e = ap (λ w. w.mode) e ∙ cut
    cut_stays (Pick w) v cut e = ap (λ w'. w'.mode) e ∙ cut
    cut_stays EosMsg v cut e = ap (λ w. w.mode) e ∙ cut
    cut_stays AbortMsg v cut e = ap (λ w. w.mode) e ∙ cut

    -- a message is taken, in any mode
    pub takes_refuses : (mode : Mode) (m : Message) (v : StageState N) → u.mode ≡ mode → StageTakes b [] mode u m v
        → RefusesAt b o mode u.node u.rejects u.keeps u.kept u.taken g → RefusesTo b o v (g ++ m ∷ [])
    takes_refuses Live m v is takes r = live_refuses m v is takes r
    takes_refuses Shut m v is takes r = shut_refuses m v is takes r
    takes_refuses Cut m v is takes r = cut_refuses v (g ++ m ∷ []) (cut_stays m v is takes)
