-- A stage stays tied to its ports when it takes a message.
use Rattle.std.proofs.Common.{◌≡◌, Bool, true, false, cond, List, [], ◌∷◌, ◌++◌, Option, None, Some, refl, sym, ap, ◌∙◌, subst, append_assoc, append-nil, inl, inr}
use Rattle.std.proofs.lemmas.List.{map-append}
use Rattle.ff_rec.specs.Lines.{Rec}
use Rattle.ff_rec.specs.Streams.{IsOpen, IsOpenMsg, carried}
use Rattle.ff_rec.specs.declared.msg.Msg.TheVariants.{Item, Mark, Pick, Eos as EosMsg, Abort as AbortMsg}
use Rattle.ff_node.specs.Behaviour.{Behaviour}
use Rattle.ff_node.specs.Runs.{Message}
use Rattle.ff_port.specs.declared.answers.End.{End}
use Rattle.ff_port.specs.declared.answers.End.TheVariants.{Eos, Abort, Memory}
use Rattle.ff_unit.specs.Stage.{StageState}
use Rattle.ff_unit.specs.StageSteps.{StageTakes, LiveTakes, ShutTakes, CutTakes, GivesUp, works}
use Rattle.ff_unit.specs.declared.mode.Mode.{Mode}
use Rattle.ff_unit.specs.declared.mode.Mode.TheVariants.{Live, Shut, Cut}
use Rattle.ff_unit.specs.AnswerLaws.{answer}
use Rattle.ff_unit.specs.MessageLaws.{IsOpen-append, IsOpen-carried}
use Rattle.ff_unit.specs.StageTiedLaws.{TiedLive, TiedShut, TiedCut, TiedAt, TiedTo, EndsIn, IsCutEnd, Begun-cut}

module _ {N : Type 0} (b : Behaviour N) (o : N) (g p : List Message) where
  -- the answer is as before where a message of the rest is taken
  exact-takes : (n : N) (m : Message) (rest : List Message) → ((rest : List Message) → answer b o (g ++ rest) ≡ p ++ answer b n rest)
      → answer b o ((g ++ m ∷ []) ++ rest) ≡ p ++ answer b n (m ∷ rest)
  exact-takes n m rest exact = ap (answer b o) (append_assoc g (m ∷ []) rest) ∙ exact (m ∷ rest)

  -- a live node goes on, and these messages are held
  goes_on-tied : (n n' : N) (fin : Option End) (m : Message) (held : List Message) → IsOpenMsg m → IsOpen held
      → ((rest : List Message) → answer b n (m ∷ rest) ≡ held ++ answer b n' rest)
      → TiedLive b o n fin g p → TiedLive b o n' fin (g ++ m ∷ []) (p ++ held)
  goes_on-tied n n' fin m held inner held_inner answers t = record {
    undecided = t.undecided;
    ins = IsOpen-append g (m ∷ []) t.ins (inner, tt);
    outs = IsOpen-append p held t.outs held_inner;
    exact = λ rest. exact-takes n m rest t.exact ∙ ap (λ l. p ++ l) (answers rest) ∙ sym (append_assoc p held (answer b n' rest));
  }

  -- a live node ends, and these records and Eos are held
  closes-tied : (n : N) (fin fin' : Option End) (m : Message) (xs : List Rec) → EndsIn fin' (g ++ m ∷ [])
      → ((rest : List Message) → answer b n (m ∷ rest) ≡ carried xs)
      → TiedLive b o n fin g p → TiedShut b o fin' (g ++ m ∷ []) (p ++ (carried xs ++ EosMsg ∷ []))
  closes-tied n fin fin' m xs ends answers t = record {
    whole = p ++ carried xs;
    is = sym (append_assoc p (carried xs) (EosMsg ∷ []));
    inner = IsOpen-append p (carried xs) t.outs (IsOpen-carried xs);
    ends = ends;
    exact = λ rest. exact-takes n m rest t.exact ∙ ap (λ l. p ++ l) (answers rest);
  }

  -- a live node is given up
  cut-tied : (n : N) (fin fin' : Option End) (m : Message) → IsCutEnd fin' → TiedLive b o n fin g p → TiedCut b o fin' (g ++ m ∷ []) (p ++ AbortMsg ∷ [])
  cut-tied n fin fin' m ends t =
      Begun-cut b o fin' (g ++ m ∷ []) p ends (record { outs = t.outs; more = λ rest. answer b n (m ∷ rest); exact = λ rest. exact-takes n m rest t.exact })

  gives_up-tied : (u v : StageState N) (fin : Option End) (m : Message) → IsCutEnd fin → GivesUp b u fin v → TiedLive b o u.node u.fin g p
      → TiedTo b o v (g ++ m ∷ []) p
  gives_up-tied u v fin m ends gives t = rw (gives.mode, gives.fin_is, gives.held) (cut-tied u.node u.fin fin m ends t)

  -- a live node works on a record, whether or not it ends
  works-tied : (u : StageState N) (x : Rec) (ends : Bool) → b.ends u.node x ≡ ends → u.mode ≡ Live → TiedLive b o u.node u.fin g p
      → TiedTo b o (works b [] u x) (g ++ Item x ∷ []) p
  works-tied u x true e live t =
      rw e (closes-tied u.node u.fin None (Item x) (b.sends u.node x ++ b.last (b.next u.node x)) (IsOpen-append g (Item x ∷ []) t.ins (tt, tt))
      (λ rest. ap (λ c. carried (b.sends u.node x) ++ cond c (carried (b.last (b.next u.node x))) (answer b (b.next u.node x) rest)) e
      ∙ sym (map-append (λ y. Item y) (b.sends u.node x) (b.last (b.next u.node x)))) t)
  works-tied u x false e live t =
      rw (e, live) (goes_on-tied u.node (b.next u.node x) u.fin (Item x) (carried (b.sends u.node x)) tt (IsOpen-carried (b.sends u.node x))
      (λ rest. ap (λ c. carried (b.sends u.node x) ++ cond c (carried (b.last (b.next u.node x))) (answer b (b.next u.node x) rest)) e) t)

  -- a node that has ended, and a stream that was cut off, drop what they take
  shut-tied : (fin fin' : Option End) (m : Message) (t : List Message) → EndsIn fin' (g ++ m ∷ []) → TiedShut b o fin g t → TiedShut b o fin' (g ++ m ∷ []) t
  shut-tied fin fin' m t ends s = record {
    whole = s.whole;
    is = s.is;
    inner = s.inner;
    ends = ends;
    exact = λ rest. ap (answer b o) (append_assoc g (m ∷ []) rest) ∙ s.exact (m ∷ rest);
  }

  dropped-tied : (fin fin' : Option End) (m : Message) (t : List Message) → IsCutEnd fin' → TiedCut b o fin g t → TiedCut b o fin' (g ++ m ∷ []) t
  dropped-tied fin fin' m t ends c = record {
    outs = c.outs;
    is = c.is;
    inner = c.inner;
    ends = ends;
    more = λ rest. c.more (m ∷ rest);
    exact = λ rest. ap (answer b o) (append_assoc g (m ∷ []) rest) ∙ c.exact (m ∷ rest);
  }

  live_takes : (u : StageState N) (m : Message) (v : StageState N) → u.mode ≡ Live → u.held ≡ [] → LiveTakes b [] u m v
      → TiedLive b o u.node u.fin g p → TiedTo b o v (g ++ m ∷ []) p
  live_takes u (Item x) v live none (inl e) t = subst (λ w. TiedTo b o w (g ++ Item x ∷ []) p) (sym e) (works-tied u x (b.ends u.node x) refl live t)
  live_takes u (Item x) v live none (inr gives) t = gives_up-tied u v None (Item x) tt gives t
  live_takes u Mark v live none e t =
      subst (λ w. TiedTo b o w (g ++ Mark ∷ []) p) (sym e) (rw live (goes_on-tied u.node u.node u.fin Mark (Mark ∷ []) tt (tt, tt) (λ rest. refl) t))
  live_takes u (Pick w) v live none e t =
      subst (λ w'. TiedTo b o w' (g ++ Pick w ∷ []) p) (sym e) (rw (live, none) (goes_on-tied u.node u.node u.fin (Pick w) [] tt tt (λ rest. refl) t))
  live_takes u EosMsg v live none (inl e) t =
      subst (λ w. TiedTo b o w (g ++ EosMsg ∷ []) p) (sym e)
      (closes-tied u.node u.fin (Some Eos) EosMsg (b.last u.node) (record { inner = g; open_inner = t.ins; is = refl }) (λ rest. refl) t)
  live_takes u EosMsg v live none (inr gives) t = gives_up-tied u v (Some Memory) EosMsg tt gives t
  live_takes u AbortMsg v live none e t = subst (λ w. TiedTo b o w (g ++ AbortMsg ∷ []) p) (sym e) (cut-tied u.node u.fin (Some Abort) AbortMsg tt t)

  shut_takes : (u : StageState N) (m : Message) (v : StageState N) → u.mode ≡ Shut → u.fin ≡ None → ShutTakes u m v
      → TiedShut b o u.fin g (p ++ u.held) → TiedTo b o v (g ++ m ∷ []) p
  shut_takes u m v shut none takes s = by m takes
    where
      ins : IsOpen g
      ins = subst (λ f. EndsIn f g) none s.ends

      inner : (m : Message) → IsOpenMsg m → v ≡ u → TiedTo b o v (g ++ m ∷ []) p
      inner m h e =
          subst (λ w. TiedTo b o w (g ++ m ∷ []) p) (sym e)
          (rw shut (shut-tied u.fin u.fin m (p ++ u.held) (subst (λ f. EndsIn f (g ++ m ∷ [])) (sym none) (IsOpen-append g (m ∷ []) ins (h, tt))) s))

      by : (m : Message) → ShutTakes u m v → TiedTo b o v (g ++ m ∷ []) p
      by (Item x) e = inner (Item x) tt e
      by Mark e = inner Mark tt e
      by (Pick w) e = inner (Pick w) tt e
      by EosMsg e =
          subst (λ w. TiedTo b o w (g ++ EosMsg ∷ []) p) (sym e)
          (rw shut (shut-tied u.fin (Some Eos) EosMsg (p ++ u.held) (record { inner = g; open_inner = ins; is = refl }) s))
      by AbortMsg e = subst (λ w. TiedTo b o w (g ++ AbortMsg ∷ []) p) (sym e) (rw shut (shut-tied u.fin (Some Abort) AbortMsg (p ++ u.held) tt s))

  cut_takes : (u : StageState N) (m : Message) (v : StageState N) → u.mode ≡ Cut → CutTakes u m v → TiedCut b o u.fin g (p ++ u.held) → TiedTo b o v (g ++ m ∷ []) p
  cut_takes u m v cut takes c = by m takes
    where
      same : (m : Message) → v ≡ u → TiedTo b o v (g ++ m ∷ []) p
      same m e = subst (λ w. TiedTo b o w (g ++ m ∷ []) p) (sym e) (rw cut (dropped-tied u.fin u.fin m (p ++ u.held) c.ends c))

      ended : (m : Message) → v ≡ record u { fin = Some Memory } → TiedTo b o v (g ++ m ∷ []) p
      ended m e = subst (λ w. TiedTo b o w (g ++ m ∷ []) p) (sym e) (rw cut (dropped-tied u.fin (Some Memory) m (p ++ u.held) tt c))

      by : (m : Message) → CutTakes u m v → TiedTo b o v (g ++ m ∷ []) p
      by (Item x) e = same (Item x) e
      by Mark e = same Mark e
      by (Pick w) e = same (Pick w) e
      by EosMsg e = ended EosMsg e
      by AbortMsg e = ended AbortMsg e

  -- a message is taken, in any mode
  pub StageTakes-tied : (mode : Mode) (u : StageState N) (m : Message) (v : StageState N) → u.mode ≡ mode → u.held ≡ [] → u.fin ≡ None → StageTakes b [] mode u m v
      → TiedAt b o mode u.node u.fin g (p ++ u.held) → TiedTo b o v (g ++ m ∷ []) p
  StageTakes-tied Live u m v is none undecided takes t =
      live_takes u m v is none takes (subst (λ l. TiedLive b o u.node u.fin g l) (ap (λ h. p ++ h) none ∙ append-nil p) t)
  StageTakes-tied Shut u m v is none undecided takes t = shut_takes u m v is undecided takes t
  StageTakes-tied Cut u m v is none undecided takes t = cut_takes u m v is takes t
