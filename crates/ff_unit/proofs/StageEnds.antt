-- A stage that waits, or has ended, passed on what came.
use Rattle.std.proofs.Common.{◌≡◌, ◌≢◌, ◌⊎◌, ◌≤◌, Bool, true, false, List, [], ◌∷◌, ◌++◌, Option, None, Some, refl, sym, ap, ◌∙◌, subst, inl, inr, arith, append-nil, append_assoc}
use Rattle.std.specs.Prelude.{IsSome}
use Rattle.std.proofs.lemmas.Bool.{false≢true}
use Rattle.ff_rec.specs.Lines.{Rec}
use Rattle.ff_rec.specs.Streams.{carried}
use Rattle.ff_rec.specs.declared.msg.Msg.TheVariants.{Item, Mark, Pick, Eos as EosMsg, Abort as AbortMsg}
use Rattle.ff_node.specs.Behaviour.{Behaviour}
use Rattle.ff_node.specs.Fits.{marks}
use Rattle.ff_node.specs.Runs.{Message, Act, Took, Gave, Refused, Idle, Told, Handed, Leads}
use Rattle.ff_port.specs.declared.answers.End.{End}
use Rattle.ff_port.specs.declared.answers.End.TheVariants.{Eos, Abort, Memory}
use Rattle.ff_unit.specs.Stage.{StageState, started}
use Rattle.ff_unit.specs.StageSteps.{StageStep, StageTakes, LiveTakes, ShutTakes, CutTakes, GivesUp, short_fin, works}
use Rattle.ff_unit.specs.declared.mode.Mode.{Mode}
use Rattle.ff_unit.specs.declared.mode.Mode.TheVariants.{Live, Shut, Cut}
use Rattle.ff_unit.specs.StageKeptLaws.{takes_one, gives_one, ins_of, outs_of}
use Rattle.ff_unit.proofs.Rests.{HasEnd}
use Rattle.ff_unit.proofs.HasEnds.{HasEnd-left, HasEnd-right, HasEnd-either, marks-carried}
use Rattle.ff_unit.proofs.TurnMarks.{marks-append}

-- what a take makes of the end that was decided, and of the Marks
record NextEnds {N : Type 0} (u : StageState N) (m : Message) (v : StageState N) : Type 0 where
  pub told : v.told ≡ u.told
  pub decided : IsSome v.fin → HasEnd (m ∷ [])
  pub undecided : v.fin ≡ None → HasEnd (m ∷ []) → ⊥
  pub live : v.mode ≡ Live → v.fin ≡ None
  pub over : (v.mode ≡ Live → ⊥) → HasEnd v.held ⊎ (u.mode ≡ Live → ⊥)
  pub fewer : marks v.held ≤ marks (m ∷ [])
  pub same : v.mode ≡ Live → (u.mode ≡ Live) × (marks v.held ≡ marks (m ∷ []))

none_some : {fin : Option End} → fin ≡ None → IsSome fin → ⊥
none_some is some = false≢true (subst IsSome is some)

module _ {N : Type 0} (b : Behaviour N) (u : StageState N) (none : u.fin ≡ None) (empty : u.held ≡ []) where
  -- nothing is held, and the mode stays
  same_state : (m : Message) → (HasEnd (m ∷ []) → ⊥) → u.mode ≢ Live → NextEnds u m u
  same_state m open_one other = record {
    told = refl;
    decided = λ some. absurd (none_some none some);
    undecided = λ is h. open_one h;
    live = λ is. none;
    over = λ h. inr h;
    fewer = rw empty (omega arith);
    same = λ is. absurd (other is);
  }

  -- a record to a live node
  works_next : (x : Rec) → u.mode ≡ Live → (ends : Bool) → b.ends u.node x ≡ ends → NextEnds u (Item x) (works b [] u x)
  works_next x live true e =
      let sends = b.sends u.node x ++ b.last (b.next u.node x) in
      let none_marked : marks (carried sends ++ EosMsg ∷ []) ≡ 0 = omega (arith, marks-append (carried sends) (EosMsg ∷ []), marks-carried sends) in
      rw e (record {
        told = refl;
        decided = λ some. absurd (none_some refl some);
        undecided = λ is h. h;
        live = λ is. refl;
        over = λ h. inl (HasEnd-right (carried sends) (EosMsg ∷ []) tt);
        fewer = omega (arith, none_marked);
        same = λ is. absurd cc;
      })
  works_next x live false e =
      rw e (record {
        told = refl;
        decided = λ some. absurd (none_some none some);
        undecided = λ is h. h;
        live = λ is. none;
        over = λ h. absurd (h live);
        fewer = omega (arith, marks-carried (b.sends u.node x));
        same = λ is. (is, marks-carried (b.sends u.node x));
      })

  -- the node is given up
  gives_up_next : (m : Message) (v : StageState N) → GivesUp b u None v → (HasEnd (m ∷ []) → ⊥) → NextEnds u m v
  gives_up_next m v g open_one = record {
    told = g.told;
    decided = λ some. absurd (none_some g.fin_is some);
    undecided = λ is h. open_one h;
    live = λ is. g.fin_is;
    over = λ h. inl (subst HasEnd (sym g.held) tt);
    fewer = rw (g.held) (omega arith);
    same = λ is. let h : Cut ≡ Live = sym g.mode ∙ is in absurd cc;
  }

  gives_up_last : (m : Message) (fin : End) (v : StageState N) → GivesUp b u (Some fin) v → HasEnd (m ∷ []) → NextEnds u m v
  gives_up_last m fin v g end = record {
    told = g.told;
    decided = λ some. end;
    undecided = λ is h. absurd (let e : Some fin ≡ None = sym g.fin_is ∙ is in cc);
    live = λ is. let h : Cut ≡ Live = sym g.mode ∙ is in absurd cc;
    over = λ h. inl (subst HasEnd (sym g.held) tt);
    fewer = rw (g.held) (omega arith);
    same = λ is. let h : Cut ≡ Live = sym g.mode ∙ is in absurd cc;
  }

  -- the end is decided, and nothing is held besides; what ends a stream was taken
  last_state : (m : Message) (fin : End) → HasEnd (m ∷ []) → u.mode ≢ Live → NextEnds u m (record u { fin = Some fin })
  last_state m fin end other = record {
    told = refl;
    decided = λ some. end;
    undecided = λ is h. absurd (let e : Some fin ≡ None = is in cc);
    live = λ is. absurd (other is);
    over = λ h. inr h;
    fewer = rw empty (omega arith);
    same = λ is. absurd (other is);
  }

  live_next : u.mode ≡ Live → (m : Message) (v : StageState N) → LiveTakes b [] u m v → NextEnds u m v
  live_next live (Item x) v (inl e) = subst (NextEnds u (Item x)) (sym e) (works_next x live (b.ends u.node x) refl)
  live_next live (Item x) v (inr g) = gives_up_next (Item x) v g (λ h. h)
  live_next live Mark v e = subst (NextEnds u Mark) (sym e) (record {
    told = refl;
    decided = λ some. absurd (none_some none some);
    undecided = λ is h. h;
    live = λ is. none;
    over = λ h. absurd (h live);
    fewer = omega arith;
    same = λ is. (live, refl);
  })
  live_next live (Pick w) v e = subst (NextEnds u (Pick w)) (sym e) (record {
    told = refl;
    decided = λ some. absurd (none_some none some);
    undecided = λ is h. h;
    live = λ is. none;
    over = λ h. absurd (h live);
    fewer = rw empty (omega arith);
    same = λ is. (live, rw empty refl);
  })
  live_next live EosMsg v (inl e) =
      let sends = [] ++ b.last u.node in
      let none_marked : marks (carried sends ++ EosMsg ∷ []) ≡ 0 = omega (arith, marks-append (carried sends) (EosMsg ∷ []), marks-carried sends) in
      subst (NextEnds u EosMsg) (sym e) (record {
        told = refl;
        decided = λ some. tt;
        undecided = λ is h. absurd (let e : Some Eos ≡ None = is in cc);
        live = λ is. absurd (let e : Shut ≡ Live = is in cc);
        over = λ h. inl (HasEnd-right (carried sends) (EosMsg ∷ []) tt);
        fewer = omega (arith, none_marked);
        same = λ is. absurd (let e : Shut ≡ Live = is in cc);
      })
  live_next live EosMsg v (inr g) = gives_up_last EosMsg Memory v g tt
  live_next live AbortMsg v e = subst (NextEnds u AbortMsg) (sym e) (record {
    told = refl;
    decided = λ some. tt;
    undecided = λ is h. absurd (let e : Some Abort ≡ None = is in cc);
    live = λ is. absurd (let e : Cut ≡ Live = is in cc);
    over = λ h. inl tt;
    fewer = omega arith;
    same = λ is. absurd (let e : Cut ≡ Live = is in cc);
  })

  shut_next : u.mode ≢ Live → (m : Message) (v : StageState N) → ShutTakes u m v → NextEnds u m v
  shut_next other (Item x) v e = subst (NextEnds u (Item x)) (sym e) (same_state (Item x) (λ h. h) other)
  shut_next other Mark v e = subst (NextEnds u Mark) (sym e) (same_state Mark (λ h. h) other)
  shut_next other (Pick w) v e = subst (NextEnds u (Pick w)) (sym e) (same_state (Pick w) (λ h. h) other)
  shut_next other EosMsg v e = subst (NextEnds u EosMsg) (sym e) (last_state EosMsg Eos tt other)
  shut_next other AbortMsg v e = subst (NextEnds u AbortMsg) (sym e) (last_state AbortMsg Abort tt other)

  cut_next : u.mode ≢ Live → (m : Message) (v : StageState N) → CutTakes u m v → NextEnds u m v
  cut_next other (Item x) v e = subst (NextEnds u (Item x)) (sym e) (same_state (Item x) (λ h. h) other)
  cut_next other Mark v e = subst (NextEnds u Mark) (sym e) (same_state Mark (λ h. h) other)
  cut_next other (Pick w) v e = subst (NextEnds u (Pick w)) (sym e) (same_state (Pick w) (λ h. h) other)
  cut_next other EosMsg v e = subst (NextEnds u EosMsg) (sym e) (last_state EosMsg Memory tt other)
  cut_next other AbortMsg v e = subst (NextEnds u AbortMsg) (sym e) (last_state AbortMsg Memory tt other)

  next : (mode : Mode) → u.mode ≡ mode → (m : Message) (v : StageState N) → StageTakes b [] mode u m v → NextEnds u m v
  next Live is m v takes = live_next is m v takes
  next Shut is m v takes = shut_next (λ live. let h : Shut ≡ Live = sym is ∙ live in cc) m v takes
  next Cut is m v takes = cut_next (λ live. let h : Cut ≡ Live = sym is ∙ live in cc) m v takes

-- what a stage took and put, by whether its end is decided and whether its node is live
pub record StageEnds {N : Type 0} (u : StageState N) (g p : List Message) : Type 0 where
  pub decided : IsSome u.fin → (u.told ≡ true) ⊎ HasEnd g
  pub undecided : u.fin ≡ None → HasEnd g → ⊥
  pub live : u.mode ≡ Live → u.fin ≡ None
  pub over : (u.mode ≡ Live → ⊥) → HasEnd (p ++ u.held)
  pub fewer : marks (p ++ u.held) ≤ marks g
  pub same : u.mode ≡ Live → marks (p ++ u.held) ≡ marks g

module _ {N : Type 0} (b : Behaviour N) where
  takes_ends : (u : StageState N) (g p : List Message) (m : Message) (v : StageState N) → u.fin ≡ None → u.held ≡ [] → StageEnds u g p → NextEnds u m v → StageEnds v (g ++ m ∷ []) p
  takes_ends u g p m v none empty t n =
      let fewer : marks p ≤ marks g = subst (λ ms. marks ms ≤ marks g) (ap (λ h. p ++ h) empty ∙ append-nil p) t.fewer in
      record {
        decided = λ some. inr (HasEnd-right g (m ∷ []) (n.decided some));
        undecided = λ is h. elim (HasEnd-either g (m ∷ []) h) [ inl before ↦ t.undecided none before | inr here ↦ n.undecided is here ];
        live = n.live;
        over = λ other. elim (n.over other) [
          | inl h ↦ HasEnd-right p v.held h
          | inr h ↦ HasEnd-left p v.held (subst HasEnd (ap (λ l. p ++ l) empty ∙ append-nil p) (t.over h))
        ];
        fewer = omega (arith, fewer, n.fewer, marks-append p v.held, marks-append g (m ∷ []));
        same = λ is.
            let both = n.same is in
            let before : marks p ≡ marks g = subst (λ ms. marks ms ≡ marks g) (ap (λ h. p ++ h) empty ∙ append-nil p) (t.same both.0) in
            omega (arith, before, both.1, marks-append p v.held, marks-append g (m ∷ []));
      }

  short_fin-some : (fin : Option End) → IsSome (short_fin fin) → IsSome fin
  short_fin-some None some = some
  short_fin-some (Some fin) some = refl

  short_fin-none : (fin : Option End) → short_fin fin ≡ None → fin ≡ None
  short_fin-none None is = refl
  short_fin-none (Some fin) is = let h : Some Memory ≡ None = is in cc

  step_ends : (u : StageState N) (g p : List Message) (act : Act) (v : StageState N) → StageStep b [] u act v → StageEnds u g p → StageEnds v (takes_one act g) (gives_one act p)
  step_ends u g p (Took k m) v s t = takes_ends u g p m v s.2 s.1 t (next b u s.2 s.1 u.mode refl m v s.3)
  step_ends u g p (Gave k m) v s t =
      subst (λ w. StageEnds w g (p ++ m ∷ [])) (sym s.2)
      (let all : p ++ u.held ≡ (p ++ m ∷ []) ++ v.held = ap (λ h. p ++ h) s.1 ∙ sym (append_assoc p (m ∷ []) v.held) in
      record {
        decided = t.decided;
        undecided = t.undecided;
        live = t.live;
        over = λ other. subst HasEnd all (t.over other);
        fewer = subst (λ ms. marks ms ≤ marks g) all t.fewer;
        same = λ is. subst (λ ms. marks ms ≡ marks g) all (t.same is);
      })
  step_ends u g p Refused v s t =
      subst (λ w. StageEnds w g p) (sym s.1) (record {
        decided = λ some. t.decided (short_fin-some u.fin some);
        undecided = λ is h. t.undecided (short_fin-none u.fin is) h;
        live = λ is. absurd (let e : Cut ≡ Live = is in cc);
        over = λ other. HasEnd-right p (AbortMsg ∷ []) tt;
        fewer = omega (arith, t.fewer, marks-append p u.held, marks-append p (AbortMsg ∷ []));
        same = λ is. absurd (let e : Cut ≡ Live = is in cc);
      })
  step_ends u g p Idle v (inl e) t = subst (λ w. StageEnds w g p) (sym e) t
  step_ends u g p Idle v (inr s) t = subst (λ w. StageEnds w g p) (sym s.2) (record { decided = t.decided; undecided = t.undecided; live = t.live; over = t.over; fewer = t.fewer; same = t.same })
  step_ends u g p Told v s t =
      subst (λ w. StageEnds w g p) (sym s.3) (record {
        decided = λ some. inl refl;
        undecided = λ is h. absurd (let e : Some Abort ≡ None = is in cc);
        live = λ is. absurd (let e : Cut ≡ Live = is in cc);
        over = λ other. HasEnd-right p (AbortMsg ∷ []) tt;
        fewer = omega (arith, t.fewer, marks-append p u.held, marks-append p (AbortMsg ∷ []));
        same = λ is. absurd (let e : Cut ≡ Live = is in cc);
      })
  step_ends u g p (Handed x) v s t = subst (λ w. StageEnds w g p) (sym s.1) (record { decided = t.decided; undecided = t.undecided; live = t.live; over = t.over; fewer = t.fewer; same = t.same })

  pub leads_ends : (o : N) (keeps : Bool) (acts : List Act) (u : StageState N) → Leads (StageStep b []) (started o keeps) acts u → StageEnds u (ins_of acts) (outs_of acts)
  leads_ends o keeps [] u e =
      subst (λ w. StageEnds w [] []) (sym e) (record {
        decided = λ some. absurd (none_some refl some);
        undecided = λ is h. h;
        live = λ is. refl;
        over = λ other. absurd (other refl);
        fewer = omega arith;
        same = λ is. refl;
      })
  leads_ends o keeps (act ∷ acts) u l = step_ends l.0 (ins_of acts) (outs_of acts) act u l.2 (leads_ends o keeps acts l.0 l.1)
