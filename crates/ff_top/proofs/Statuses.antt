-- Which status comes with which answer.
use Rattle.std.proofs.Common.{◌≡◌, ℕ, ◌≤◌, List, [], ◌∷◌, Option, None, Some, refl, sym, ap, subst, ◌∙◌, inl, inr, arith}
use Rattle.std.specs.Prelude.{◌⊎◌, Contains, option_and_then, Result, Ok, Err}
use Rattle.ff_net.specs.Tree.{Tree}
use Rattle.ff_ops.specs.Operation.{OpState}
use Rattle.ff_call.specs.Handling.{Handled}
use Rattle.ff_call.specs.Outside.{Outside}
use Rattle.ff_call.specs.Statuses.{fault_status, status_of, IsEarly}
use Rattle.ff_call.specs.Texts.{IsGivenFault}
use Rattle.ff_call.specs.declared.fault.Fault.{Fault}
use Rattle.ff_call.specs.declared.fault.Fault.TheVariants.{Usage, NotBuilt, File, TooLong, BadText, BrokenRule, BadStatement, BrokenProgram, NoSweep, Refused, Tasks, Line, Read, Write, Rejects, NoMemory}
use Rattle.ff_call_mdf.specs.Computing.{MdfDone}
use Rattle.ff_call_mdf.specs.Programs.{IsProgramFault}
use Rattle.ff_call_run.specs.Running.{RunDone}
use Rattle.ff_call_print.specs.Printing.{Printed}
use Rattle.ff_call_print.specs.declared.print.Form.TheVariants as form
use Rattle.ff_top.proofs.Calls.{None-Some}
use Rattle.ff_top.specs.Commands.{Works, DoneWith, given_to}
use Rattle.ff_top.specs.Endings.{Comes, Did, DidMdf, DidSoak, IsWordsFault}
use Rattle.ff_words.specs.Words.{command}
use Rattle.ff_words.specs.declared.command.Command.{Command}
use Rattle.ff_words.specs.declared.command.Command.TheVariants as of
use Rattle.ff_words.specs.declared.command.Given.{Given as GivenText}

-- 1 is the status of words that are no command alone, and 0 that of no fault
usage-alone : (fault : Fault) → fault_status fault ≡ 1 → fault ≡ Usage
usage-alone Usage is = refl
usage-alone NotBuilt is = absurd (omega arith)
usage-alone (File name) is = absurd (omega arith)
usage-alone TooLong is = absurd (omega arith)
usage-alone (BadText at kind) is = absurd (omega arith)
usage-alone (BrokenRule broken) is = absurd (omega arith)
usage-alone (BadStatement s) is = absurd (omega arith)
usage-alone (BrokenProgram rule s) is = absurd (omega arith)
usage-alone NoSweep is = absurd (omega arith)
usage-alone Refused is = absurd (omega arith)
usage-alone (Tasks most) is = absurd (omega arith)
usage-alone (Line passed n) is = absurd (omega arith)
usage-alone (Read n) is = absurd (omega arith)
usage-alone Write is = absurd (omega arith)
usage-alone (Rejects name n) is = absurd (omega arith)
usage-alone NoMemory is = absurd (omega arith)

-- each status is one of the seven, and no fault has 0
pub Contains-status : (status : ℕ) (answer : Result ℕ Fault) → status ≡ status_of answer → Contains (0 ∷ 1 ∷ 2 ∷ 3 ∷ 4 ∷ 5 ∷ 6 ∷ []) status
Contains-status status (Ok n) is = (0, omega arith, sym is)
Contains-status status (Err Usage) is = (1, omega arith, sym is)
Contains-status status (Err NotBuilt) is = (2, omega arith, sym is)
Contains-status status (Err TooLong) is = (2, omega arith, sym is)
Contains-status status (Err (BadText at kind)) is = (2, omega arith, sym is)
Contains-status status (Err (BrokenRule broken)) is = (2, omega arith, sym is)
Contains-status status (Err (BadStatement s)) is = (2, omega arith, sym is)
Contains-status status (Err (BrokenProgram rule s)) is = (2, omega arith, sym is)
Contains-status status (Err NoSweep) is = (2, omega arith, sym is)
Contains-status status (Err (Tasks most)) is = (3, omega arith, sym is)
Contains-status status (Err (Line passed n)) is = (3, omega arith, sym is)
Contains-status status (Err (File name)) is = (4, omega arith, sym is)
Contains-status status (Err (Read n)) is = (4, omega arith, sym is)
Contains-status status (Err Write) is = (4, omega arith, sym is)
Contains-status status (Err (Rejects name n)) is = (4, omega arith, sym is)
Contains-status status (Err Refused) is = (5, omega arith, sym is)
Contains-status status (Err NoMemory) is = (6, omega arith, sym is)

fault_some : (fault : Fault) → 1 ≤ fault_status fault
fault_some Usage = omega arith
fault_some NotBuilt = omega arith
fault_some TooLong = omega arith
fault_some (BadText at kind) = omega arith
fault_some (BrokenRule broken) = omega arith
fault_some (BadStatement s) = omega arith
fault_some (BrokenProgram rule s) = omega arith
fault_some NoSweep = omega arith
fault_some (Tasks most) = omega arith
fault_some (Line passed n) = omega arith
fault_some Refused = omega arith
fault_some NoMemory = omega arith
fault_some _ = omega arith

-- the answer of a call that ended so
abbrev stopped : Fault → Result ℕ Fault
stopped cause = Err cause

-- a text at fault is no words at fault, and no command answers so
module _ (before now : Outside) where
  Handled-usage : (given : GivenText) (Done : Tree OpState → Outside → Outside → Result ℕ Fault → Type 0)
      → ((t : Tree OpState) → Done t before now (Err Usage) → ⊥) → Handled given Done before now (Err Usage) → ⊥
  Handled-usage given Done never h = elim h [
    | inl refusal ↦ (
        let e : stopped Usage ≡ stopped refusal.cause = refusal.is in
        let same : Usage ≡ refusal.cause = cc in
        subst (λ (f : Fault). IsGivenFault before.told given f) (sym same) refusal.of_given)
    | inr work ↦ never work.net work.done
  ]

  Works-usage : (job : Command) → Works job before now (Err Usage) → ⊥
  Works-usage (of.Run given cap queue tasks way rejects) w = Handled-usage given (RunDone tasks way rejects) (λ t d. d.1) w
  Works-usage (of.Check given) w = Handled-usage given (Printed form.Network) (λ t d. d.0) w
  Works-usage (of.Plan given) w = Handled-usage given (Printed form.Plan) (λ t d. d.0) w
  Works-usage (of.Mdf given workers) w = elim w [
    | inl refusal ↦ (
        let e : stopped Usage ≡ stopped refusal.cause = refusal.is in
        let same : Usage ≡ refusal.cause = cc in
        subst (λ (f : Fault). IsProgramFault before.told given f) (sym same) refusal.of_given)
    | inr work ↦ work.done.0
  ]
  Works-usage (of.Soak n workers cap queue) w = w.0
  Works-usage _ w = let e = w.0 in cc

module _ (words : List (List ℕ)) (before now : Outside) where
  Comes-usage : Comes words before now (Err Usage) → command words ≡ None
  Comes-usage comes = elim comes [
    | inl early ↦ early.0
    | inr d ↦ absurd (Works-usage before now d.job d.works)
  ]

  pub usage : (status : ℕ) (answer : Result ℕ Fault) → status ≡ status_of answer → Comes words before now answer → status ≡ 1 → command words ≡ None
  usage status (Ok n) is comes one = absurd (omega arith)
  usage status (Err fault) is comes one =
      Comes-usage (subst (λ (f : Fault). Comes words before now (Err f)) (usage-alone fault (sym is ∙ one)) comes)

  words-statuses : (answer : Result ℕ Fault) → IsWordsFault words answer → (status_of answer ≡ 1) ⊎ (status_of answer ≡ 6)
  words-statuses (Ok n) is = absurd is
  words-statuses (Err Usage) is = inl refl
  words-statuses (Err NoMemory) is = inr refl
  words-statuses (Err _) is = absurd is

  pub no_command : (status : ℕ) (answer : Result ℕ Fault) → status ≡ status_of answer → Comes words before now answer → command words ≡ None → (status ≡ 1) ⊎ (status ≡ 6)
  no_command status answer is comes none = elim comes [
    | inl early ↦ subst (λ (n : ℕ). (n ≡ 1) ⊎ (n ≡ 6)) (sym is) (words-statuses answer early.0)
    | inr d ↦ absurd (None-Some (command words) d.job none d.is_command)
  ]

  -- the work of a command that was given a network
  Did-work : (n : ℕ) (job : Command) (given : GivenText) → command words ≡ Some job → given_to job ≡ Some given
      → Handled given (DoneWith job) before now (Ok n) → Did words before now (Ok n)
  Did-work n job given is given_is h = elim h [
    | inl refusal ↦ let e = refusal.is in absurd (cc)
    | inr work ↦ record {
      job = job;
      is_command = is;
      given = given;
      is_description = ap (λ (c : Option Command). option_and_then given_to c) is ∙ given_is;
      net = work.net;
      is_given = work.spelled;
      done = work.done;
    }
  ]

  -- one of the three
  abbrev DidOne : ℕ → Type 0
  DidOne n = Did words before now (Ok n) ⊎ (DidMdf words before now (Ok n) ⊎ DidSoak words before now (Ok n))

  Did-mdf : (n : ℕ) (given : GivenText) (workers : ℕ) → command words ≡ Some (of.Mdf given workers) → MdfDone given workers before now (Ok n) → DidMdf words before now (Ok n)
  Did-mdf n given workers is h = elim h [
    | inl refusal ↦ let e = refusal.is in absurd (cc)
    | inr work ↦ record { given = given; workers = workers; is_command = is; done = work }
  ]

  Did-works : (n : ℕ) (job : Command) → command words ≡ Some job → Works job before now (Ok n) → DidOne n
  Did-works n (of.Run given cap queue tasks way rejects) is w = inl (Did-work n (of.Run given cap queue tasks way rejects) given is refl w)
  Did-works n (of.Check given) is w = inl (Did-work n (of.Check given) given is refl w)
  Did-works n (of.Plan given) is w = inl (Did-work n (of.Plan given) given is refl w)
  Did-works n (of.Mdf given workers) is w = inr (inl (Did-mdf n given workers is w))
  Did-works n (of.Soak records workers cap queue) is w = inr (inr (record { records = records; workers = workers; cap = cap; queue = queue; is_command = is; done = w }))
  Did-works n _ is w = let e = w.0 in absurd (cc)

  pub done : (status : ℕ) (answer : Result ℕ Fault) → status ≡ status_of answer → Comes words before now answer → status ≡ 0
      → (rejected : ℕ) × DidOne rejected
  done status (Ok n) is comes zero = (
    n,
    elim comes [
      | inl early ↦ absurd early.0
      | inr d ↦ Did-works n d.job d.is_command d.works
    ],
  )
  done status (Err fault) is comes zero = absurd (omega (arith, fault_some fault))

-- statuses at which nothing was read
abbrev IsLow : ℕ → Type 0
IsLow status = (status ≡ 1) ⊎ ((status ≡ 2) ⊎ (status ≡ 5))

not_low : (status k : ℕ) → status ≡ k → (k ≡ 0) ⊎ (((3 ≤ k) × (k ≤ 4)) ⊎ (6 ≤ k)) → IsLow status → ⊥
not_low status k is other (inl one) = elim other [
  | inl none ↦ omega (arith, is, none, one)
  | inr late ↦ elim late [
    | inl mid ↦ omega (arith, is, mid.0, one)
    | inr high ↦ omega (arith, is, high, one)
  ]
]
not_low status k is other (inr (inl two)) = elim other [
  | inl none ↦ omega (arith, is, none, two)
  | inr late ↦ elim late [
    | inl mid ↦ omega (arith, is, mid.0, two)
    | inr high ↦ omega (arith, is, high, two)
  ]
]
not_low status k is other (inr (inr five)) = elim other [
  | inl none ↦ omega (arith, is, none, five)
  | inr late ↦ elim late [
    | inl mid ↦ omega (arith, is, mid.1, five)
    | inr high ↦ omega (arith, is, high, five)
  ]
]

-- a fault with status 1, 2 or 5 comes before the input is read
pub IsEarly-low : (status : ℕ) (answer : Result ℕ Fault) → status ≡ status_of answer → IsLow status → IsEarly answer
IsEarly-low status (Ok n) is low = not_low status 0 is (inl refl) low
IsEarly-low status (Err (File name)) is low = refl
IsEarly-low status (Err (Tasks most)) is low = absurd (not_low status 3 is (inr (inl (omega arith, omega arith))) low)
IsEarly-low status (Err (Line passed n)) is low = absurd (not_low status 3 is (inr (inl (omega arith, omega arith))) low)
IsEarly-low status (Err (Read n)) is low = absurd (not_low status 4 is (inr (inl (omega arith, omega arith))) low)
IsEarly-low status (Err Write) is low = absurd (not_low status 4 is (inr (inl (omega arith, omega arith))) low)
IsEarly-low status (Err (Rejects name n)) is low = absurd (not_low status 4 is (inr (inl (omega arith, omega arith))) low)
IsEarly-low status (Err NoMemory) is low = absurd (not_low status 6 is (inr (inr (omega arith))) low)
IsEarly-low status (Err _) is low = refl
