-- A unit that steps on, by one step or by two that move.
use Rattle.std.specs.Prelude.{◌≡◌, ◌+◌, ◌≤◌, ◌<◌, ℕ, zero, suc, true, List}
use Rattle.std.proofs.Common.{inl, inr, refl, ◌∙◌, ap, sym, subst, arith}
use Rattle.ff_rec.specs.Lines.{Rec}
use Rattle.ff_node.specs.Runs.{Message}
use Rattle.ff_port.specs.declared.answers.Step.{Step}
use Rattle.ff_port.specs.declared.answers.Step.TheVariants.{Moved}
use Rattle.ff_port.specs.declared.ports.Ports.{Ghosts}
use Rattle.ff_unit.specs.Units.{Doing, IsUnit, Ran, One, Moves, StepsOnce, MovesTwice, StepsThrough, StepsOn, WaitsOnly, ShortOnly, known, answer_behind}
use Rattle.ff_unit.proofs.UnitRuns.{Ran-one, One-over, StepsOn-moves, answer_behind-moved, short-one, short-then, asks-one}

module _ {U S : Type 0} (d : Doing U) (ports : Ghosts S Rec) where
  -- as many moves as turns at least, and none before the first
  pub record MovesSome (turns : ℕ) (u : U) (start : S) (v : U) (now : S) : Type 0 where
    pub number : ℕ
    pub enough : turns ≤ number
    pub none : turns ≡ 0 → number ≡ 0
    pub moved : Moves d number u (ports.gots start) (ports.puts start) v (ports.gots now) (ports.puts now)

  pub MovesSome-none : (u : U) (start : S) → MovesSome 0 u start u start
  MovesSome-none u start = record { number = 0; enough = omega arith; none = λ e. refl; moved = (refl, refl, refl) }

  -- each step, whether or not the channels grow
  module _ (u : U) (before : S) (answer : Step) (v : U) (after : S) where
    One-once : StepsOnce d ports u before answer v after → One d u (ports.gots before) (ports.puts before) answer v (ports.gots after) (ports.puts after)
    One-once once = One-over d ports.grows u (ports.gots before) (ports.puts before) answer v (ports.gots after) (ports.puts after) once.one

    One-first : (twice : MovesTwice d ports u before answer v after)
        → One d u (ports.gots before) (ports.puts before) Moved twice.between twice.gots_between twice.puts_between
    One-first twice = One-over d ports.grows u (ports.gots before) (ports.puts before) Moved twice.between twice.gots_between twice.puts_between twice.first

    One-second : (twice : MovesTwice d ports u before answer v after)
        → One d twice.between twice.gots_between twice.puts_between Moved v (ports.gots after) (ports.puts after)
    One-second twice = One-over d ports.grows twice.between twice.gots_between twice.puts_between Moved v (ports.gots after) (ports.puts after) twice.second

  pub MovesSome-through : (turns : ℕ) (o : U) (start : S) (u : U) (before : S) (v : U) (after : S) → MovesSome turns o start u before
      → StepsThrough d ports u before Moved v after → MovesSome (turns + 1) o start v after
  MovesSome-through turns o start u before v after m (inl once) = record {
    number = suc m.number;
    enough = omega (arith, m.enough);
    none = λ e. absurd (omega (arith, e));
    moved = (u, ports.gots before, ports.puts before, m.moved, One-once u before Moved v after once);
  }
  MovesSome-through turns o start u before v after m (inr twice) = record {
    number = suc (suc m.number);
    enough = omega (arith, m.enough);
    none = λ e. absurd (omega (arith, e));
    moved = (
      twice.between,
      twice.gots_between,
      twice.puts_between,
      (u, ports.gots before, ports.puts before, m.moved, One-first u before Moved v after twice),
      One-second u before Moved v after twice,
    );
  }

  -- moves alone
  module _ (laws : IsUnit d) (o : U) (gots puts : List (List Message)) (v : U) (gots' puts' : List (List Message)) (waiting : ℕ) where
    pub StepsOn-number : (n : ℕ) → 0 < n → Moves d n o gots puts v gots' puts' → StepsOn d o gots puts Moved v gots' puts' waiting
    StepsOn-number zero some m = absurd (omega (arith, some))
    StepsOn-number (suc n) some m = StepsOn-moves d laws n o gots puts v gots' puts' waiting m

  module _ (u : U) (before : S) (answer : Step) (v : U) (after : S) where
    pub link-through : StepsThrough d ports u before answer v after → ports.link after ≡ ports.link before
    link-through (inl once) = once.linked
    link-through (inr twice) = twice.linked

    -- where it waits it made one step
    pub waits-through : StepsThrough d ports u before answer v after
        → WaitsOnly d u answer (known (ports.knowns before) (ports.rooms before) (ports.waiting before)) (known (ports.knowns after) (ports.rooms after) (ports.waiting after))
    waits-through (inl once) = once.waits
    waits-through (inr twice) =
        subst (λ a. WaitsOnly d u a (known (ports.knowns before) (ports.rooms before) (ports.waiting before)) (known (ports.knowns after) (ports.rooms after) (ports.waiting after)))
        (sym twice.answers) tt

    module _ (laws : IsUnit d) where
      pub Ran-through : StepsThrough d ports u before answer v after → Ran d u (ports.gots before) (ports.puts before) → Ran d v (ports.gots after) (ports.puts after)
      Ran-through (inl once) ran = Ran-one d laws u (ports.gots before) (ports.puts before) answer v (ports.gots after) (ports.puts after) (One-once u before answer v after once) ran
      Ran-through (inr twice) ran =
          Ran-one d laws twice.between twice.gots_between twice.puts_between Moved v (ports.gots after) (ports.puts after) (One-second u before answer v after twice)
          (Ran-one d laws u (ports.gots before) (ports.puts before) Moved twice.between twice.gots_between twice.puts_between (One-first u before answer v after twice) ran)

      -- where it is short of memory then, and whether it makes calls of its own
      pub short-through : StepsThrough d ports u before answer v after → ShortOnly d ports.grows u v
      short-through (inl once) =
          short-one d laws ports.grows u (ports.gots before) (ports.puts before) answer v (ports.gots after) (ports.puts after) once.one
      short-through (inr twice) =
          short-then d laws ports.grows u twice.between v
          (asks-one d laws u (ports.gots before) (ports.puts before) Moved twice.between twice.gots_between twice.puts_between (One-first u before answer v after twice))
          (short-one d laws ports.grows u (ports.gots before) (ports.puts before) Moved twice.between twice.gots_between twice.puts_between twice.first)
          (short-one d laws ports.grows twice.between twice.gots_between twice.puts_between Moved v (ports.gots after) (ports.puts after) twice.second)

      pub asks-through : StepsThrough d ports u before answer v after → d.asks v ≡ true → d.asks u ≡ true
      asks-through (inl once) = asks-one d laws u (ports.gots before) (ports.puts before) answer v (ports.gots after) (ports.puts after) (One-once u before answer v after once)
      asks-through (inr twice) = λ asks.
          asks-one d laws u (ports.gots before) (ports.puts before) Moved twice.between twice.gots_between twice.puts_between (One-first u before answer v after twice)
          (asks-one d laws twice.between twice.gots_between twice.puts_between Moved v (ports.gots after) (ports.puts after) (One-second u before answer v after twice) asks)

      -- moves before it, and it
      pub StepsOn-through : (turns : ℕ) (o : U) (start : S) (m : MovesSome turns o start u before) → StepsThrough d ports u before answer v after
          → StepsOn d o (ports.gots start) (ports.puts start) (answer_behind m.number answer) v (ports.gots after) (ports.puts after) (ports.waiting after)
      StepsOn-through turns o start m (inl once) = record {
        moves = m.number;
        before_last = u;
        gots_before = ports.gots before;
        puts_before = ports.puts before;
        moved = m.moved;
        last_answer = answer;
        last = One-once u before answer v after once;
        ended = once.ended;
        answers = refl;
      }
      StepsOn-through turns o start m (inr twice) = record {
        moves = suc m.number;
        before_last = twice.between;
        gots_before = twice.gots_between;
        puts_before = twice.puts_between;
        moved = (u, ports.gots before, ports.puts before, m.moved, One-first u before answer v after twice);
        last_answer = Moved;
        last = One-second u before answer v after twice;
        ended = tt;
        answers = ap (answer_behind m.number) twice.answers ∙ answer_behind-moved d laws m.number;
      }
