-- A unit that is one of several kinds steps on as that kind does.
use Rattle.std.specs.Prelude.{◌≡◌, ℕ, zero, suc, Bool, true, List}
use Rattle.std.proofs.Common.{refl, sym, ap, ap₂, ◌∙◌, subst, inl, inr}
use Rattle.ff_node.specs.Runs.{Message, Act, Took, Gave, Refused, Idle, Told, Handed}
use Rattle.ff_port.specs.declared.answers.Step.{Step}
use Rattle.ff_port.specs.declared.answers.Step.TheVariants.{Moved, Waits, Ended}
use Rattle.ff_unit.specs.Units.{Doing, One, Moves, StepsOn, EndedOnly, ShortOnly, Answers, idle_answer}

-- `as_one` is how a unit of the one kind is seen among others
module _ {U V : Type 0} (d : Doing U) (others : Doing V) (as_one : U → V) (acts : (u : U) (act : Act) (v : U) → d.Steps u act v → others.Steps (as_one u) act (as_one v))
    (done : (u : U) → others.done (as_one u) ≡ d.done u) (fin : (u : U) → others.fin (as_one u) ≡ d.fin u)
    (rests : (u : U) → d.Rests u → others.Rests (as_one u)) where
  Answers-whole : (act : Act) (v : U) (answer : Step) → Answers d v act answer → Answers others (as_one v) act answer
  Answers-whole (Took k m) v answer a = a
  Answers-whole (Gave k m) v answer a = a
  Answers-whole Refused v answer a = a
  Answers-whole Idle v answer a = a ∙ ap₂ idle_answer (sym (done v)) (sym (fin v))
  Answers-whole Told v answer a = absurd a
  Answers-whole (Handed x) v answer a = absurd a

  One-whole : (u : U) (gots puts : List (List Message)) (answer : Step) (v : U) (gots' puts' : List (List Message))
      → One d u gots puts answer v gots' puts' → One others (as_one u) gots puts answer (as_one v) gots' puts'
  One-whole u gots puts answer v gots' puts' one = record {
    act = one.act;
    steps = acts u one.act v one.steps;
    takes = one.takes;
    gives = one.gives;
    answers = Answers-whole one.act v answer one.answers;
  }

  Moves-whole : (n : ℕ) (u : U) (gots puts : List (List Message)) (v : U) (gots' puts' : List (List Message))
      → Moves d n u gots puts v gots' puts' → Moves others n (as_one u) gots puts (as_one v) gots' puts'
  Moves-whole zero u gots puts v gots' puts' m = (ap as_one m.0, m.1, m.2)
  Moves-whole (suc n) u gots puts v gots' puts' m =
      (as_one m.0, m.1, m.2, Moves-whole n u gots puts m.0 m.1 m.2 m.3, One-whole m.0 m.1 m.2 Moved v gots' puts' m.4)

  EndedOnly-whole : (u : U) (answer : Step) (v : U) (waiting : ℕ) → EndedOnly d u answer v waiting → EndedOnly others (as_one u) answer (as_one v) waiting
  EndedOnly-whole u Moved v waiting e = tt
  EndedOnly-whole u Waits v waiting e = tt
  EndedOnly-whole u (Ended how) v waiting e = (done v ∙ e.0, fin v ∙ e.1, rests v e.2, λ goes_on. e.3 (λ is. goes_on (done u ∙ is)))

  StepsOn-whole : (u : U) (gots puts : List (List Message)) (answer : Step) (v : U) (gots' puts' : List (List Message)) (waiting : ℕ)
      → StepsOn d u gots puts answer v gots' puts' waiting → StepsOn others (as_one u) gots puts answer (as_one v) gots' puts' waiting
  StepsOn-whole u gots puts answer v gots' puts' waiting s = record {
    moves = s.moves;
    before_last = as_one s.before_last;
    gots_before = s.gots_before;
    puts_before = s.puts_before;
    moved = Moves-whole s.moves u gots puts s.before_last s.gots_before s.puts_before s.moved;
    last_answer = s.last_answer;
    last = One-whole s.before_last s.gots_before s.puts_before s.last_answer v gots' puts' s.last;
    ended = EndedOnly-whole s.before_last s.last_answer v waiting s.ended;
    answers = s.answers;
  }

  -- told of what equals them
  pub StepsOn-others : {u : U} {gots puts : List (List Message)} {answer : Step} {v : U} {gots' puts' : List (List Message)} {waiting : ℕ}
      {before : V} {says : Step} {after : V} {got put : List (List Message)} {left : ℕ}
      → before ≡ as_one u → says ≡ answer → after ≡ as_one v → got ≡ gots' → put ≡ puts' → left ≡ waiting
      → StepsOn d u gots puts answer v gots' puts' waiting → StepsOn others before gots puts says after got put left
  StepsOn-others {u} {gots} {puts} {answer} {v} {gots'} {puts'} {waiting} {before} {says} {after} {got} {put} {left} unit tells then takes gives leaves s =
      subst (λ x. StepsOn others x gots puts says after got put left) (sym unit)
      (subst (λ x. StepsOn others (as_one u) gots puts x after got put left) (sym tells)
      (subst (λ x. StepsOn others (as_one u) gots puts answer x got put left) (sym then)
      (subst (λ x. StepsOn others (as_one u) gots puts answer (as_one v) x put left) (sym takes)
      (subst (λ x. StepsOn others (as_one u) gots puts answer (as_one v) gots' x left) (sym gives)
      (subst (λ x. StepsOn others (as_one u) gots puts answer (as_one v) gots' puts' x) (sym leaves)
      (StepsOn-whole u gots puts answer v gots' puts' waiting s))))))

-- and it is short of memory as that kind is
module _ {U V : Type 0} (d : Doing U) (others : Doing V) (as_one : U → V) (short : (u : U) → others.short (as_one u) ≡ d.short u)
    (asks : (u : U) → others.asks (as_one u) ≡ d.asks u) where
  pub ShortOnly-others : {grows : Bool} {u v : U} {before after : V} → before ≡ as_one u → after ≡ as_one v → ShortOnly d grows u v
      → ShortOnly others grows before after
  ShortOnly-others {grows} {u} {v} {before} {after} first last only = λ e. elim (only (sym (ap others.short last ∙ short v) ∙ e)) [
    | inl was ↦ inl (ap others.short first ∙ short u ∙ was)
    | inr (inl grown) ↦ inr (inl grown)
    | inr (inr own) ↦ inr (inr (ap others.asks first ∙ asks u ∙ own))
  ]
