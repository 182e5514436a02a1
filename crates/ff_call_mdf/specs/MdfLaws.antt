-- How the command ends where no count rose.
use Rattle.std.proofs.Common.{◌≡◌, ◌⊎◌, ℕ, ◌<◌, List, [], ◌∷◌, ◌++◌, length, map, Option, None, Some, refl, sym, ap, ap₂, ◌∙◌, subst, inl, inr, arith}
use Rattle.std.specs.Prelude.{Result, Ok, Err}
use Rattle.ff_prog.specs.Checking.{lowest_broken}
use Rattle.ff_prog.specs.declared.statement.Statement.{Statement}
use Rattle.ff_call.specs.Counts.{Counts}
use Rattle.ff_call.specs.GivenLaws.{IsText-known, Rose-more}
use Rattle.ff_call.specs.Outside.{Outside, IsQuiet}
use Rattle.ff_call.specs.Statuses.{fault_status, status_of}
use Rattle.ff_call.specs.Texts.{IsKnown}
use Rattle.ff_call.specs.declared.fault.Fault.{Fault}
use Rattle.ff_call.specs.declared.fault.Fault.TheVariants.{File, TooLong, BadStatement, BrokenProgram, Refused, Write, NoMemory}
use Rattle.ff_call_mdf.specs.Computing.{Computed, MdfDone}
use Rattle.ff_call_mdf.specs.Programs.{IsProgramFault, IsRead}
use Rattle.ff_words.specs.declared.command.Given.{Given}

abbrev head_of : List (Option Statement) → Option Statement
head_of [] = None
head_of (o ∷ os) = o

abbrev rest_of : List (Option Statement) → List (Option Statement)
rest_of [] = []
rest_of (o ∷ os) = os

-- a list of statements has no gap
no-gap : (p before : List Statement) (behind : List (Option Statement)) → map Some p ≡ map Some before ++ None ∷ behind → ⊥
no-gap [] [] behind e = absurd (omega (arith, ap length e))
no-gap [] (s ∷ before) behind e = absurd (omega (arith, ap length e))
no-gap (r ∷ p) [] behind e = let first : Some r ≡ None = ap head_of e in absurd (cc)
no-gap (r ∷ p) (s ∷ before) behind e = no-gap p before behind (ap rest_of e)

-- and is known by what was read
same-statements : (p q : List Statement) → map Some p ≡ map Some q → p ≡ q
same-statements [] [] e = refl
same-statements [] (s ∷ q) e = absurd (omega (arith, ap length e))
same-statements (r ∷ p) [] e = absurd (omega (arith, ap length e))
same-statements (r ∷ p) (s ∷ q) e =
    let first : Some r ≡ Some s = ap head_of e in
    let one : r ≡ s = cc in
    ap₂ (λ x xs. x ∷ xs) one (same-statements p q (ap rest_of e))

-- its run is done, unless memory ran out
status-run : (p : List Statement) (w : ℕ) (before now : Outside) (answer : Result ℕ Fault) → IsQuiet before now → Counts before now answer
    → Computed p w before now answer → (status_of answer ≡ 0) ⊎ (status_of answer ≡ 6)
status-run p w before now (Ok k) quiet counts d = inl refl
status-run p w before now (Err Refused) quiet counts d = absurd (quiet.starts (Rose-more before.refused now.refused counts.starts))
status-run p w before now (Err Write) quiet counts d = absurd (quiet.output (Rose-more before.output_faults now.output_faults counts.output))
status-run p w before now (Err NoMemory) quiet counts d = inr refl
status-run p w before now (Err _) quiet counts d = absurd d.0

module _ (given : Given) (text : List ℕ) (before now : Outside) (known : IsKnown before.told given text) (quiet : IsQuiet before now) where
  -- a text that is a program's is refused for want of memory alone
  status-fault : (p : List Statement) (fault : Fault) → IsRead text p → Counts before now (Err fault) → IsProgramFault before.told given fault → fault_status fault ≡ 6
  status-fault p (File name) read counts is = absurd (quiet.files (Rose-more before.files_faults now.files_faults counts.files))
  status-fault p TooLong read counts is =
      let same : is.text ≡ text = IsText-known before.told given is.text text is.is_text known in
      let short = read.short in
      let beyond : 65536 < length text = subst (λ (s : List ℕ). 65536 < length s) same is.long in
      absurd (omega (arith, short, beyond))
  status-fault p (BadStatement s) read counts is =
      let same : is.text ≡ text = IsText-known before.told given is.text text is.is_text known in
      let its = subst (λ (t : List ℕ). IsRead t p) (sym same) read in
      let gap = is.of_text.1 in
      absurd (no-gap p gap.before gap.behind (sym its.spelled ∙ gap.whole))
  status-fault p (BrokenProgram rule s) read counts is =
      let same : is.text ≡ text = IsText-known before.told given is.text text is.is_text known in
      let its = subst (λ (t : List ℕ). IsRead t p) (sym same) read in
      let one : is.of_text.program ≡ p = same-statements is.of_text.program p (sym is.of_text.spelled ∙ its.spelled) in
      let e : Some (record { rule = rule; statement = s }) ≡ None = sym is.of_text.breaks ∙ ap lowest_broken one ∙ its.kept in
      absurd (cc)
  status-fault p NoMemory read counts is = refl
  status-fault p _ read counts is = absurd is

  -- a program that keeps the rules is run to its end, unless memory ran out
  pub status-computed : (w : ℕ) (answer : Result ℕ Fault) (p : List Statement) → IsRead text p → Counts before now answer → MdfDone given w before now answer
      → (status_of answer ≡ 0) ⊎ (status_of answer ≡ 6)
  status-computed w answer p read counts (inl refusal) =
      inr (ap (λ (a : Result ℕ Fault). status_of a) refusal.is
      ∙ status-fault p refusal.cause read (subst (λ (a : Result ℕ Fault). Counts before now a) refusal.is counts) refusal.of_given)
  status-computed w answer p read counts (inr work) = status-run work.program w before now answer quiet counts work.done

  -- a text that is at fault is refused
  status-bad : (fault : Fault) → Counts before now (Err fault) → IsProgramFault before.told given fault → (fault_status fault ≡ 2) ⊎ (fault_status fault ≡ 6)
  status-bad (File name) counts is = absurd (quiet.files (Rose-more before.files_faults now.files_faults counts.files))
  status-bad TooLong counts is = inl refl
  status-bad (BadStatement s) counts is = inl refl
  status-bad (BrokenProgram rule s) counts is = inl refl
  status-bad NoMemory counts is = inr refl
  status-bad _ counts is = absurd is

  -- and so is one that is no program's that keeps the rules, unless memory ran out
  pub status-no_program : (w : ℕ) (answer : Result ℕ Fault) → ((p : List Statement) → IsRead text p → ⊥) → Counts before now answer → MdfDone given w before now answer
      → (status_of answer ≡ 2) ⊎ (status_of answer ≡ 6)
  status-no_program w answer none counts (inl refusal) =
      subst (λ (a : Result ℕ Fault). (status_of a ≡ 2) ⊎ (status_of a ≡ 6)) (sym refusal.is)
      (status-bad refusal.cause (subst (λ (a : Result ℕ Fault). Counts before now a) refusal.is counts) refusal.of_given)
  status-no_program w answer none counts (inr work) =
      let same : work.is.text ≡ text = IsText-known before.told given work.is.text text work.is.is_text known in
      absurd (none work.program (subst (λ (s : List ℕ). IsRead s work.program) same work.is.is_read))
