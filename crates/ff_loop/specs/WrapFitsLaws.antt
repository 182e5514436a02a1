-- The master of a wrap that has ended by Eos fits what it took and put, by its log.
use Rattle.std.specs.Prelude.{◌≡◌, ◌⊎◌, ◌<◌, ◌≤◌, ℕ, zero, suc, Bool, true, false, List, [], ◌∷◌, ◌++◌, length, map, Some}
use Rattle.std.specs.List.{AllByRecursion}
use Rattle.std.proofs.Common.{refl, sym, ap, ap₂, ◌∙◌, subst, arith, append-nil, inl, inr}
use Rattle.std.proofs.lemmas.Bool.{cases_lt, false≢true}
use Rattle.std.proofs.lemmas.List.{append_cancel_right}
use Rattle.std.proofs.lemmas.Option.{none-some}
use Rattle.ff_rec.specs.Streams.{IsOpen, at, carried, closed, items}
use Rattle.ff_rec.specs.declared.msg.Msg.TheVariants.{Eos as EosMsg}
use Rattle.ff_net.specs.Logs.{AreMasterIns, CarryTasks, FitsMaster, HasDone, HasOverrun, came, fed, given_to}
use Rattle.ff_node.specs.Fits.{IsItemOrMark}
use Rattle.ff_node.specs.Runs.{Message, AreOpen, FitsWhole}
use Rattle.ff_port.specs.declared.answers.End.{End}
use Rattle.ff_port.specs.declared.answers.End.TheVariants.{Eos}
use Rattle.ff_unit.specs.CarriedLaws.{items-carried}
use Rattle.ff_unit.specs.Closing.{any_live, decided}
use Rattle.ff_unit.specs.DealPairLaws.{on, on-append}
use Rattle.ff_unit.specs.FlagLaws.{live-none}
use Rattle.ff_unit.specs.MessageLaws.{IsOpen-carried}
use Rattle.ff_unit.specs.declared.mode.Mode.{Mode}
use Rattle.ff_unit.specs.declared.mode.Mode.TheVariants.{Live, Shut, Cut}
use Rattle.ff_loop.specs.Rounds.{test_of, limit_of, workers_of, log_of, taken_of}
use Rattle.ff_loop.specs.WrapBeginsLaws.{done-shut, out-shut}
use Rattle.ff_loop.specs.WrapMasters.{WrapState}
use Rattle.ff_loop.specs.WrapTiedLaws.{TiedShut, TiedAt, IsTied, end_by}

-- whole lists, each with its one Eos
pub record AreClosed (lists : List (List Message)) : Type 0 where
  pub fronts : List (List Message)
  pub opens : AreOpen fronts
  pub are : lists ≡ map closed fronts
  pub number : length fronts ≡ length lists
  pub each : (j : ℕ) → j < length lists → at lists j ≡ closed (at fronts j)

-- a list with its one Eos
abbrev HasFront : List Message → Type 0
HasFront ms = (front : List Message) × (ms ≡ closed front) × IsOpen front

AreClosed-each : (lists : List (List Message)) → ((j : ℕ) → j < length lists → HasFront (at lists j)) → AreClosed lists
AreClosed-each [] each = record { fronts = []; opens = tt; are = refl; number = refl; each = λ j below. absurd (omega (arith, below)) }
AreClosed-each (l ∷ lists) each =
    let first = each 0 (omega arith) in
    let rest = AreClosed-each lists (λ j below. each (suc j) (omega (arith, below))) in
    record {
      fronts = first.0 ∷ rest.fronts;
      opens = (first.2, rest.opens);
      are = ap₂ (λ a ls. a ∷ ls) first.1 rest.are;
      number = ap suc rest.number;
      each = by first.0 rest.fronts first.1 rest.each;
    }
  where
    by : (front : List Message) (fronts : List (List Message)) → l ≡ closed front → ((j : ℕ) → j < length lists → at lists j ≡ closed (at fronts j))
        → (j : ℕ) → j < suc (length lists) → at (l ∷ lists) j ≡ closed (at (front ∷ fronts) j)
    by front fronts here rest zero below = here
    by front fronts here rest (suc j) below = rest j (omega (arith, below))

-- where a list is closed in two ways, it is so in one
at-closed : (lists : List (List Message)) (c : AreClosed lists) (j : ℕ) (front : List Message) → j < length lists → at lists j ≡ closed front → at c.fronts j ≡ front
at-closed lists c j front below e = append_cancel_right (at c.fronts j) front (EosMsg ∷ []) (sym (c.each j below) ∙ e)

module _ (u : WrapState) (gots puts : List (List Message)) (t : IsTied u gots puts) (held : u.held ≡ []) (none : any_live u.live ≡ false) (s : TiedShut u gots t.given) where
  -- what was put on each out
  put : (j : ℕ) → j < suc (workers_of u.round) → at puts j ≡ on j (t.given ++ u.held)
  put j below = t.puts_are.each j below ∙ sym (append-nil (on j t.given)) ∙ ap (λ h. on j t.given ++ on j h) (sym held) ∙ sym (on-append j t.given u.held)

  task : (j : ℕ) → j < workers_of u.round → at puts j ≡ closed (carried (given_to j (log_of u.round)))
  task j below = put j (omega (arith, below)) ∙ s.tasks j below

  result : at puts (workers_of u.round) ≡ closed (carried (taken_of u.round))
  result = put (workers_of u.round) (omega arith) ∙ s.results ∙ ap (λ b. carried (taken_of u.round) ++ end_by b) none

  outs_closed : AreClosed puts
  outs_closed = AreClosed-each puts (λ j below. by j (cases_lt j (workers_of u.round)) (omega (arith, below, t.puts_are.outs)))
    where
      by : (j : ℕ) → (j < workers_of u.round) ⊎ (workers_of u.round ≤ j) → j < suc (workers_of u.round) → HasFront (at puts j)
      by j (inl inner) below =
          let tasks = given_to j (log_of u.round) in (carried tasks, task j inner, IsOpen-carried tasks)
      by j (inr last) below =
          let same : j ≡ workers_of u.round = omega (arith, last, below) in
          (carried (taken_of u.round), ap (at puts) same ∙ result, IsOpen-carried (taken_of u.round))

  -- what was taken at the in of a worker
  answer : (j : ℕ) (below : j < workers_of u.round) → at gots (suc j) ≡ closed (s.answers j below).front
  answer j below = (s.answers j below).is ∙ ap (λ b. (s.answers j below).front ++ end_by b) (live-none u.live (suc j) none)

  ins_closed : AreClosed gots
  ins_closed = AreClosed-each gots (λ j below. by j (omega (arith, below, t.ins)))
    where
      by : (j : ℕ) → j < suc (workers_of u.round) → HasFront (at gots j)
      by zero below = (s.fed_in.0, s.fed_in.1, s.fed_in.2)
      by (suc j) below = let inner : j < workers_of u.round = omega (arith, below) in ((s.answers j inner).front, answer j inner, (s.answers j inner).inner)

  in_at : (j : ℕ) (front : List Message) → j < suc (workers_of u.round) → at gots j ≡ closed front → at ins_closed.fronts j ≡ front
  in_at j front below e = at-closed gots ins_closed j front (omega (arith, below, t.ins)) e

  out_at : (j : ℕ) (front : List Message) → j < suc (workers_of u.round) → at puts j ≡ closed front → at outs_closed.fronts j ≡ front
  out_at j front below e = at-closed puts outs_closed j front (omega (arith, below, t.puts_are.outs)) e

  task_at : (j : ℕ) → j < workers_of u.round → at outs_closed.fronts j ≡ carried (given_to j (log_of u.round))
  task_at j below = out_at j (carried (given_to j (log_of u.round))) (omega (arith, below)) (task j below)

  -- what its ins may carry
  module _ (are : AreMasterIns (workers_of u.round) ins_closed.fronts) where
    fed_at : at ins_closed.fronts 0 ≡ carried (fed (log_of u.round))
    fed_at =
        let front : at ins_closed.fronts 0 ≡ s.fed_in.0 = in_at 0 s.fed_in.0 (omega arith) s.fed_in.1 in
        let same : are.records ≡ fed (log_of u.round) = sym (items-carried are.records) ∙ ap items (sym are.fed_in ∙ front) ∙ s.fed_in.3 in
        are.fed_in ∙ ap (λ xs. carried xs) same

    carry : CarryTasks (workers_of u.round) (log_of u.round) ins_closed.fronts outs_closed.fronts
    carry = record {
      tasks = task_at;
      answers = λ j below.
          let a = s.answers j below in
          let front : at ins_closed.fronts (suc j) ≡ a.front = in_at (suc j) a.front (omega (arith, below)) (answer j below) in
          let more = a.answers (subst (AllByRecursion IsItemOrMark) front (are.answers j below)) in
          (more.0, front ∙ more.1);
    }

    fits : HasDone (workers_of u.round) (limit_of u.round) (test_of u.round) (log_of u.round) ins_closed.fronts outs_closed.fronts
        ⊎ HasOverrun (workers_of u.round) (limit_of u.round) (test_of u.round) (log_of u.round) ins_closed.fronts outs_closed.fronts
    fits = by (cases_lt (limit_of u.round) (length (came (test_of u.round) (log_of u.round))))
      where
        by : (limit_of u.round < length (came (test_of u.round) (log_of u.round))) ⊎ (length (came (test_of u.round) (log_of u.round)) ≤ limit_of u.round)
            → HasDone (workers_of u.round) (limit_of u.round) (test_of u.round) (log_of u.round) ins_closed.fronts outs_closed.fronts
            ⊎ HasOverrun (workers_of u.round) (limit_of u.round) (test_of u.round) (log_of u.round) ins_closed.fronts outs_closed.fronts
        by (inl past) = inr (record { over = past; rest = []; fed_in = fed_at ∙ ap (λ xs. carried xs) (sym (append-nil (fed (log_of u.round)))); workers = carry })
        by (inr within) = inl (record {
          done = done-shut u gots t.given t.logged s;
          fed_in = fed_at;
          workers = carry;
          results = out_at (workers_of u.round) (carried (taken_of u.round)) (omega arith) result ∙ ap (λ xs. carried xs) (out-shut u gots t.given t.logged s within);
        })

  whole-shut : FitsWhole (FitsMaster (workers_of u.round) (limit_of u.round) (test_of u.round) (log_of u.round)) gots puts
  whole-shut = record {
    ins = ins_closed.fronts;
    outs = outs_closed.fronts;
    ins_open = ins_closed.opens;
    outs_open = outs_closed.opens;
    gots_are = ins_closed.are;
    puts_are = outs_closed.are;
    fits = record {
      ins_are = ins_closed.number ∙ t.ins;
      outs_are = outs_closed.number ∙ t.puts_are.outs;
      tasks = λ j below. (given_to j (log_of u.round), task_at j below);
      by = λ are. (t.logged.legal, fits are);
    };
  }

-- a decided end is that end
pub decided-is : (b : Bool) (end fin : End) → decided b end ≡ Some fin → end ≡ fin
decided-is true end fin e = absurd (none-some fin e)
decided-is false end fin e = cc

pub wrap-whole : (u : WrapState) (gots puts : List (List Message)) → IsTied u gots puts → u.done ≡ true → decided (any_live u.live) u.end ≡ Some Eos
    → FitsWhole (FitsMaster (workers_of u.round) (limit_of u.round) (test_of u.round) (log_of u.round)) gots puts
wrap-whole u gots puts t done fin = by u.mode t.tied
  where
    by : (mode : Mode) → TiedAt mode u gots t.given → FitsWhole (FitsMaster (workers_of u.round) (limit_of u.round) (test_of u.round) (log_of u.round)) gots puts
    by Live l = absurd (false≢true (sym l.0.goes_on ∙ done))
    by Shut s = whole-shut u gots puts t (t.ended done).0 (t.ended done).1 s
    by Cut c = absurd (c.end (decided-is (any_live u.live) u.end Eos fin))
