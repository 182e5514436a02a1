-- Runs of any unit go on with its acts.
use Rattle.std.specs.Prelude.{◌≡◌, ◌⊎◌, ℕ, zero, suc, Bool, true, List, [], ◌∷◌, Option, None, Some}
use Rattle.std.proofs.Common.{refl, ◌∙◌, ap, sym, subst, inl, inr}
use Rattle.ff_rec.specs.Lines.{Rec}
use Rattle.ff_node.specs.Runs.{Message, Act, Took, Gave, Refused, Idle, Told, Handed, Leads, took, gave}
use Rattle.ff_port.specs.declared.answers.Step.{Step}
use Rattle.ff_port.specs.declared.answers.Step.TheVariants.{Moved, Waits, Ended}
use Rattle.ff_port.specs.declared.answers.End.TheVariants.{Memory}
use Rattle.ff_unit.specs.Units.{Doing, IsUnit, Ran, RanFrom, One, Moves, StepsOn, Answers, HandsReject, EndedOnly, EndsAs, AnswersOver, OneOver, ShortOnly, LacksBy, taken_by, told_by, answer_behind}

module _ {U : Type 0} (d : Doing U) where
  -- one step over channels that grow, or that don't, is one step
  answers-over : (grows : Bool) (act : Act) (v : U) (answer : Step) → AnswersOver d grows v act answer → Answers d v act answer
  answers-over grows (Took k m) v answer a = a
  answers-over grows (Gave k m) v answer a = a
  answers-over grows Refused v answer a = a.0
  answers-over grows Idle v answer a = a
  answers-over grows Told v answer a = absurd a
  answers-over grows (Handed x) v answer a = absurd a

  pub One-over : (grows : Bool) (u : U) (gots puts : List (List Message)) (answer : Step) (v : U) (gots' puts' : List (List Message))
      → OneOver d grows u gots puts answer v gots' puts' → One d u gots puts answer v gots' puts'
  One-over grows u gots puts answer v gots' puts' one =
      record { act = one.act; steps = one.steps; takes = one.takes; gives = one.gives; answers = answers-over grows one.act v answer one.answers }

module _ {U : Type 0} (d : Doing U) (laws : IsUnit d) where
  -- one act more
  pub Ran-act : (u : U) (gots puts : List (List Message)) (act : Act) (v : U) (gots' puts' : List (List Message))
      → Ran d u gots puts → d.Steps u act v → gots' ≡ took act gots → puts' ≡ gave act puts → Ran d v gots' puts'
  Ran-act u gots puts act v gots' puts' ran step takes gives =
      let run = ran.1 in
      subst (λ o. RanFrom d o v gots' puts') (sym (laws.opening_kept u act v step)) (
        ran.0,
        record {
          acts = act ∷ run.acts;
          leads = (u, run.leads, step);
          takes = takes ∙ ap (took act) run.takes;
          gives = gives ∙ ap (gave act) run.gives;
        },
      )

  -- one step more
  pub Ran-one : (u : U) (gots puts : List (List Message)) (answer : Step) (v : U) (gots' puts' : List (List Message))
      → One d u gots puts answer v gots' puts' → Ran d u gots puts → Ran d v gots' puts'
  Ran-one u gots puts answer v gots' puts' one ran = Ran-act u gots puts one.act v gots' puts' ran one.steps one.takes one.gives

  -- a kept reject is taken out, or none is held
  pub Ran-hands : (u : U) (gots puts : List (List Message)) (x : Option Rec) (v : U) → Ran d u gots puts → HandsReject d u x v → Ran d v gots puts
  Ran-hands u gots puts None v ran h = subst (λ w. Ran d w gots puts) (sym h.1) ran
  Ran-hands u gots puts (Some x) v ran h = Ran-act u gots puts (Handed x) v gots puts ran h.0 refl refl

  pub opening-hands : (u : U) (x : Option Rec) (v : U) → HandsReject d u x v → d.opening v ≡ d.opening u
  opening-hands u None v h = ap d.opening h.1
  opening-hands u (Some x) v h = laws.opening_kept u (Handed x) v h.0

  -- no step takes a reject out
  taken_by-answers : (act : Act) (v : U) (answer : Step) (taken : List Rec) → Answers d v act answer → taken_by act taken ≡ taken
  taken_by-answers (Took k m) v answer taken a = refl
  taken_by-answers (Gave k m) v answer taken a = refl
  taken_by-answers Refused v answer taken a = refl
  taken_by-answers Idle v answer taken a = refl
  taken_by-answers Told v answer taken a = refl
  taken_by-answers (Handed x) v answer taken a = absurd a

  -- nor tells it to abort
  told_by-answers : (act : Act) (v : U) (answer : Step) (told : Bool) → Answers d v act answer → told_by act told ≡ told
  told_by-answers (Took k m) v answer told a = refl
  told_by-answers (Gave k m) v answer told a = refl
  told_by-answers Refused v answer told a = refl
  told_by-answers Idle v answer told a = refl
  told_by-answers Told v answer told a = absurd a
  told_by-answers (Handed x) v answer told a = refl

  module _ (u : U) (gots puts : List (List Message)) (answer : Step) (v : U) (gots' puts' : List (List Message)) (one : One d u gots puts answer v gots' puts') where
    pub taken-one : d.taken v ≡ d.taken u
    taken-one = laws.taken_kept u one.act v one.steps ∙ taken_by-answers one.act v answer (d.taken u) one.answers

    pub told-one : d.told v ≡ d.told u
    told-one = laws.told_kept u one.act v one.steps ∙ told_by-answers one.act v answer (d.told u) one.answers

  -- what makes it short of memory
  short-by : (u : U) (grows : Bool) (act : Act) (v : U) (answer : Step) → AnswersOver d grows v act answer → (d.short u ≡ true) ⊎ LacksBy (d.asks u) act
      → (d.short u ≡ true) ⊎ (grows ≡ true) ⊎ (d.asks u ≡ true)
  short-by u grows act v answer a (inl before) = inl before
  short-by u grows (Took k m) v answer a (inr asks) = inr (inr asks)
  short-by u grows (Gave k m) v answer a (inr asks) = inr (inr asks)
  short-by u grows Refused v answer a (inr lacks) = inr (inl a.1)
  short-by u grows Idle v answer a (inr lacks) = absurd lacks
  short-by u grows Told v answer a (inr lacks) = absurd lacks
  short-by u grows (Handed x) v answer a (inr lacks) = absurd lacks

  pub short-one : (grows : Bool) (u : U) (gots puts : List (List Message)) (answer : Step) (v : U) (gots' puts' : List (List Message))
      → OneOver d grows u gots puts answer v gots' puts' → ShortOnly d grows u v
  short-one grows u gots puts answer v gots' puts' one = λ short. short-by u grows one.act v answer one.answers (laws.short_by u one.act v one.steps short)

  pub asks-one : (u : U) (gots puts : List (List Message)) (answer : Step) (v : U) (gots' puts' : List (List Message))
      → One d u gots puts answer v gots' puts' → d.asks v ≡ true → d.asks u ≡ true
  asks-one u gots puts answer v gots' puts' one = laws.asks_kept u one.act v one.steps

  -- one step behind another
  pub short-then : (grows : Bool) (u w v : U) → (d.asks w ≡ true → d.asks u ≡ true) → ShortOnly d grows u w → ShortOnly d grows w v → ShortOnly d grows u v
  short-then grows u w v kept first second = λ short. elim (second short) [ inl before ↦ first before | inr (inl g) ↦ inr (inl g) | inr (inr asks) ↦ inr (inr (kept asks)) ]

  -- one that has ended as the answer tells
  pub memory-ends : (answer : Step) (v : U) → EndsAs d answer v → answer ≡ Ended Memory → d.short v ≡ true
  memory-ends answer v ends e = laws.short_ends v (subst (λ a. EndsAs d a v) e ends).1

  -- any number of acts
  pub opening-leads : (u : U) (acts : List Act) (v : U) → Leads d.Steps u acts v → d.opening v ≡ d.opening u
  opening-leads u [] v e = ap d.opening e
  opening-leads u (act ∷ acts) v l = laws.opening_kept l.0 act v l.2 ∙ opening-leads u acts l.0 l.1

  -- any number of moves
  pub Ran-moves : (n : ℕ) (u : U) (gots puts : List (List Message)) (v : U) (gots' puts' : List (List Message))
      → Moves d n u gots puts v gots' puts' → Ran d u gots puts → Ran d v gots' puts'
  Ran-moves zero u gots puts v gots' puts' m ran =
      subst (λ w. Ran d w gots' puts') (sym m.0) (subst (λ gs. Ran d u gs puts') (sym m.1) (subst (λ ps. Ran d u gots ps) (sym m.2) ran))
  Ran-moves (suc n) u gots puts v gots' puts' m ran = Ran-one m.0 m.1 m.2 Moved v gots' puts' m.4 (Ran-moves n u gots puts m.0 m.1 m.2 m.3 ran)

  opening-moves : (n : ℕ) (u : U) (gots puts : List (List Message)) (v : U) (gots' puts' : List (List Message))
      → Moves d n u gots puts v gots' puts' → d.opening v ≡ d.opening u
  opening-moves zero u gots puts v gots' puts' m = ap d.opening m.0
  opening-moves (suc n) u gots puts v gots' puts' m =
      laws.opening_kept m.0 m.4.act v m.4.steps ∙ opening-moves n u gots puts m.0 m.1 m.2 m.3

  taken-moves : (n : ℕ) (u : U) (gots puts : List (List Message)) (v : U) (gots' puts' : List (List Message))
      → Moves d n u gots puts v gots' puts' → d.taken v ≡ d.taken u
  taken-moves zero u gots puts v gots' puts' m = ap d.taken m.0
  taken-moves (suc n) u gots puts v gots' puts' m =
      taken-one m.0 m.1 m.2 Moved v gots' puts' m.4 ∙ taken-moves n u gots puts m.0 m.1 m.2 m.3

  told-moves : (n : ℕ) (u : U) (gots puts : List (List Message)) (v : U) (gots' puts' : List (List Message))
      → Moves d n u gots puts v gots' puts' → d.told v ≡ d.told u
  told-moves zero u gots puts v gots' puts' m = ap d.told m.0
  told-moves (suc n) u gots puts v gots' puts' m =
      told-one m.0 m.1 m.2 Moved v gots' puts' m.4 ∙ told-moves n u gots puts m.0 m.1 m.2 m.3

  -- an end alone tells what it tells
  EndsAs-only : (u : U) (answer : Step) (v : U) (waiting : ℕ) → EndedOnly d u answer v waiting → EndsAs d answer v
  EndsAs-only u Moved v waiting e = tt
  EndsAs-only u Waits v waiting e = tt
  EndsAs-only u (Ended fin) v waiting e = (e.0, e.1, e.2)

  EndsAs-behind : (n : ℕ) (answer : Step) (v : U) → EndsAs d answer v → EndsAs d (answer_behind n answer) v
  EndsAs-behind zero answer v e = e
  EndsAs-behind (suc n) Moved v e = tt
  EndsAs-behind (suc n) Waits v e = tt
  EndsAs-behind (suc n) (Ended fin) v e = e

  -- moves alone
  pub answer_behind-moved : (n : ℕ) → answer_behind n Moved ≡ Moved
  answer_behind-moved zero = refl
  answer_behind-moved (suc n) = refl

  pub StepsOn-moves : (n : ℕ) (u : U) (gots puts : List (List Message)) (v : U) (gots' puts' : List (List Message)) (waiting : ℕ)
      → Moves d (suc n) u gots puts v gots' puts' → StepsOn d u gots puts Moved v gots' puts' waiting
  StepsOn-moves n u gots puts v gots' puts' waiting m = record {
    moves = n;
    before_last = m.0;
    gots_before = m.1;
    puts_before = m.2;
    moved = m.3;
    last_answer = Moved;
    last = m.4;
    ended = tt;
    answers = sym (answer_behind-moved n);
  }

  -- moves and one step more
  module _ (u : U) (gots puts : List (List Message)) (answer : Step) (v : U) (gots' puts' : List (List Message)) (waiting : ℕ) (s : StepsOn d u gots puts answer v gots' puts' waiting) where
    pub Ran-on : Ran d u gots puts → Ran d v gots' puts'
    Ran-on ran =
        Ran-one s.before_last s.gots_before s.puts_before s.last_answer v gots' puts' s.last
        (Ran-moves s.moves u gots puts s.before_last s.gots_before s.puts_before s.moved ran)

    pub opening-on : d.opening v ≡ d.opening u
    opening-on =
        laws.opening_kept s.before_last s.last.act v s.last.steps
        ∙ opening-moves s.moves u gots puts s.before_last s.gots_before s.puts_before s.moved

    pub taken-on : d.taken v ≡ d.taken u
    taken-on =
        taken-one s.before_last s.gots_before s.puts_before s.last_answer v gots' puts' s.last
        ∙ taken-moves s.moves u gots puts s.before_last s.gots_before s.puts_before s.moved

    pub told-on : d.told v ≡ d.told u
    told-on =
        told-one s.before_last s.gots_before s.puts_before s.last_answer v gots' puts' s.last
        ∙ told-moves s.moves u gots puts s.before_last s.gots_before s.puts_before s.moved

    pub EndsAs-on : EndsAs d answer v
    EndsAs-on =
        subst (λ x. EndsAs d x v) (sym s.answers) (EndsAs-behind s.moves s.last_answer v (EndsAs-only s.before_last s.last_answer v waiting s.ended))
