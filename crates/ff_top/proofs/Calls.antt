-- What is answered where no count of faults or refused starts rose.
use Rattle.std.proofs.Common.{◌≡◌, ℕ, List, Option, None, Some, refl, sym, ap, subst, ◌∙◌, inl, inr}
use Rattle.std.specs.Prelude.{◌⊎◌, option_and_then, Result, Ok, Err}
use Rattle.ff_net.specs.Tree.{Tree}
use Rattle.ff_ops.specs.Operation.{OpState}
use Rattle.ff_rec.specs.Limits.{ReadingLaw}
use Rattle.ff_text.specs.SpellingLaw.{SpellingIsOfOneNet}
use Rattle.ff_plan.specs.declared.kind.Queue.{Queue}
use Rattle.ff_prog.specs.declared.statement.Statement.{Statement}
use Rattle.ff_call.specs.Counts.{Counts}
use Rattle.ff_call.specs.GivenLaws.{Handled-accepted, Handled-refused}
use Rattle.ff_call.specs.Handling.{Handled}
use Rattle.ff_call.specs.Outside.{Outside, IsQuiet}
use Rattle.ff_call.specs.Statuses.{status_of}
use Rattle.ff_call.specs.Texts.{IsKnown, IsSpelled, KeepsRules}
use Rattle.ff_call.specs.declared.fault.Fault.{Fault}
use Rattle.ff_call.specs.declared.fault.Fault.TheVariants.{Usage, NoMemory}
use Rattle.ff_call_mdf.specs.MdfLaws.{status-computed, status-no_program}
use Rattle.ff_call_mdf.specs.Programs.{IsRead}
use Rattle.ff_call_print.specs.PrintLaws.{status-printed}
use Rattle.ff_call_print.specs.Printing.{Printed}
use Rattle.ff_call_print.specs.declared.print.Form.{Form}
use Rattle.ff_call_print.specs.declared.print.Form.TheVariants as form
use Rattle.ff_call_run.specs.RunLaws.{status-within, status-beyond, status-unswept}
use Rattle.ff_call_run.specs.Running.{RunDone}
use Rattle.ff_call_soak.specs.SoakLaws.{status-soaked}
use Rattle.ff_top.specs.Commands.{Works, given_to, IsInLimits, IsBeyond, IsUnswept}
use Rattle.ff_top.specs.Endings.{Comes, IsAccepted, IsRefused, IsComplete, IsWordsFault, description}
use Rattle.ff_words.specs.Words.{command}
use Rattle.ff_words.specs.declared.command.Command.{Command}
use Rattle.ff_words.specs.declared.command.Command.TheVariants as of
use Rattle.ff_words.specs.declared.command.Given.{Given as GivenText}

pub None-Some : {A : Type 0} (o : Option A) (x : A) → o ≡ None → o ≡ Some x → ⊥
None-Some o x none some = let e : Some x ≡ None = sym some ∙ none in cc

-- the text or file that these words give is that of their command
given-is : (words : List (List ℕ)) (job : Command) (given : GivenText) → command words ≡ Some job → description words ≡ Some given → given_to job ≡ Some given
given-is words job given is given_is = sym (ap (λ (c : Option Command). option_and_then given_to c) is) ∙ given_is

-- words that are no command are given no text
None-description : (words : List (List ℕ)) (given : GivenText) → command words ≡ None → description words ≡ Some given → ⊥
None-description words given none is = None-Some (description words) given (ap (λ (c : Option Command). option_and_then given_to c) none) is

-- two commands that the same words are
same-command : (words : List (List ℕ)) (job other : Command) → command words ≡ Some job → command words ≡ Some other → job ≡ other
same-command words job other is is_other = let e : Some job ≡ Some other = sym is ∙ is_other in cc

-- words at fault are told so with 1, or memory ran out
module _ (words : List (List ℕ)) (P : ℕ → Type 0) where
  words-status : (answer : Result ℕ Fault) → IsWordsFault words answer → (command words ≡ None → ⊥) → P 6 → P (status_of answer)
  words-status (Ok n) is some six = absurd is
  words-status (Err Usage) is some six = absurd (some is)
  words-status (Err NoMemory) is some six = six
  words-status (Err _) is some six = absurd is

module _ (law : ReadingLaw) (one : SpellingIsOfOneNet) (before now : Outside) (answer : Result ℕ Fault) (quiet : IsQuiet before now) (counts : Counts before now answer) where
  -- a command that is given an accepted text
  module _ (given : GivenText) (text : List ℕ) (t : Tree OpState) (is_known : IsKnown before.told given text) (spelled : IsSpelled text t) (kept : KeepsRules t) where
    did : (its : GivenText) (Done : Tree OpState → Outside → Outside → Result ℕ Fault → Type 0) → Some its ≡ Some given
        → Handled its Done before now answer → (status_of answer ≡ 6) ⊎ Done t before now answer
    did its Done is h =
        let same : its ≡ given = cc in
        Handled-accepted one given text t Done before now answer is_known spelled kept quiet counts
        (subst (λ (g : GivenText). Handled g Done before now answer) same h)

    printed-status : (form : Form) (its : GivenText) → Some its ≡ Some given → Handled its (Printed form) before now answer
        → (status_of answer ≡ 0) ⊎ (status_of answer ≡ 6)
    printed-status form its is h = elim (did its (Printed form) is h) [
      | inl short ↦ inr short
      | inr d ↦ status-printed form t before now answer quiet counts d
    ]

    done-status : (job : Command) → given_to job ≡ Some given → Works job before now answer → IsInLimits job t before.left
        → (status_of answer ≡ 0) ⊎ (status_of answer ≡ 6)
    done-status (of.Run its cap queue tasks way rejects) is w within = elim (did its (RunDone tasks way rejects) is w) [
      | inl short ↦ inr short
      | inr d ↦ status-within law way tasks rejects t before now quiet answer counts within d
    ]
    done-status (of.Check its) is w within = printed-status form.Network its is w
    done-status (of.Plan its) is w within = printed-status form.Plan its is w
    done-status _ is w within = absurd (cc)

    beyond-status : (job : Command) → given_to job ≡ Some given → Works job before now answer → IsBeyond job t before.left
        → (status_of answer ≡ 3) ⊎ (status_of answer ≡ 6)
    beyond-status (of.Run its cap queue tasks way rejects) is w beyond = elim (did its (RunDone tasks way rejects) is w) [
      | inl short ↦ inr short
      | inr d ↦ status-beyond law way tasks rejects t before now quiet answer counts beyond d
    ]
    beyond-status _ is w beyond = absurd beyond

    unswept-status : (job : Command) → given_to job ≡ Some given → Works job before now answer → IsUnswept job t
        → (status_of answer ≡ 2) ⊎ (status_of answer ≡ 6)
    unswept-status (of.Run its cap queue tasks way rejects) is w cannot = elim (did its (RunDone tasks way rejects) is w) [
      | inl short ↦ inr short
      | inr d ↦ inl (status-unswept way tasks rejects t before now answer cannot d)
    ]
    unswept-status _ is w cannot = absurd cannot

  -- one that is given a text that is no network
  module _ (given : GivenText) (text : List ℕ) (is_known : IsKnown before.told given text) (refused : (t : Tree OpState) → IsSpelled text t → KeepsRules t → ⊥) where
    refuses : (its : GivenText) (Done : Tree OpState → Outside → Outside → Result ℕ Fault → Type 0) → Some its ≡ Some given
        → Handled its Done before now answer → (status_of answer ≡ 2) ⊎ (status_of answer ≡ 6)
    refuses its Done is h =
        let same : its ≡ given = cc in
        Handled-refused given text Done before now answer is_known refused quiet counts
        (subst (λ (g : GivenText). Handled g Done before now answer) same h)

    refused-status : (job : Command) → given_to job ≡ Some given → Works job before now answer → (status_of answer ≡ 2) ⊎ (status_of answer ≡ 6)
    refused-status (of.Run its cap queue tasks way rejects) is w = refuses its (RunDone tasks way rejects) is w
    refused-status (of.Check its) is w = refuses its (Printed form.Network) is w
    refused-status (of.Plan its) is w = refuses its (Printed form.Plan) is w
    refused-status _ is w = absurd (cc)

-- of what these words did, by the command that they are
module _ (words : List (List ℕ)) (before now : Outside) (answer : Result ℕ Fault) (comes : Comes words before now answer) (job : Command) (asked : command words ≡ Some job) where
  by-command : (P : ℕ → Type 0) → P 6 → (Works job before now answer → P (status_of answer)) → P (status_of answer)
  by-command P six works = elim comes [
    | inl early ↦ words-status words P answer early.0 (λ none. None-Some (command words) job none asked) six
    | inr d ↦ works (subst (λ (c : Command). Works c before now answer) (same-command words d.job job d.is_command asked) d.works)
  ]

-- the same of an accepted command, and of one whose text is refused
module _ (law : ReadingLaw) (one : SpellingIsOfOneNet) (words : List (List ℕ)) (before now : Outside) (answer : Result ℕ Fault) (comes : Comes words before now answer) (counts : Counts before now answer) where
  done-accepted : IsQuiet before now → (job : Command) (t : Tree OpState) → IsAccepted words before job t → IsInLimits job t before.left
      → (status_of answer ≡ 0) ⊎ (status_of answer ≡ 6)
  done-accepted quiet job t a within =
      by-command words before now answer comes job a.is_command (λ (n : ℕ). (n ≡ 0) ⊎ (n ≡ 6)) (inr refl)
      (λ w. done-status law one before now answer quiet counts a.given a.text t a.is_known a.spelled a.kept job (given-is words job a.given a.is_command a.is_description) w within)

  beyond-accepted : IsQuiet before now → (job : Command) (t : Tree OpState) → IsAccepted words before job t → IsBeyond job t before.left
      → (status_of answer ≡ 3) ⊎ (status_of answer ≡ 6)
  beyond-accepted quiet job t a beyond =
      by-command words before now answer comes job a.is_command (λ (n : ℕ). (n ≡ 3) ⊎ (n ≡ 6)) (inr refl)
      (λ w. beyond-status law one before now answer quiet counts a.given a.text t a.is_known a.spelled a.kept job (given-is words job a.given a.is_command a.is_description) w beyond)

  unswept-accepted : IsQuiet before now → (job : Command) (t : Tree OpState) → IsAccepted words before job t → IsUnswept job t
      → (status_of answer ≡ 2) ⊎ (status_of answer ≡ 6)
  unswept-accepted quiet job t a cannot =
      by-command words before now answer comes job a.is_command (λ (n : ℕ). (n ≡ 2) ⊎ (n ≡ 6)) (inr refl)
      (λ w. unswept-status law one before now answer quiet counts a.given a.text t a.is_known a.spelled a.kept job (given-is words job a.given a.is_command a.is_description) w cannot)

  refused-text : IsQuiet before now → IsRefused words before → (status_of answer ≡ 2) ⊎ (status_of answer ≡ 6)
  refused-text quiet r = elim comes [
    | inl early ↦ words-status words (λ (n : ℕ). (n ≡ 2) ⊎ (n ≡ 6)) answer early.0
        (λ none. None-description words r.given none r.is_description) (inr refl)
    | inr d ↦ refused-status law one before now answer quiet counts r.given r.text r.is_known r.refused d.job
        (given-is words d.job r.given d.is_command r.is_description) d.works
  ]

  soaked-asked : IsQuiet before now → (n workers cap : ℕ) (queue : Queue) → command words ≡ Some (of.Soak n workers cap queue)
      → (status_of answer ≡ 0) ⊎ (status_of answer ≡ 6)
  soaked-asked quiet n workers cap queue asked =
      by-command words before now answer comes (of.Soak n workers cap queue) asked (λ (k : ℕ). (k ≡ 0) ⊎ (k ≡ 6)) (inr refl)
      (λ w. status-soaked n workers before now answer quiet counts w)

  -- the same of a program
  computed-asked : IsQuiet before now → (given : GivenText) (workers : ℕ) → command words ≡ Some (of.Mdf given workers)
      → (text : List ℕ) → IsKnown before.told given text → (program : List Statement) → IsRead text program → (status_of answer ≡ 0) ⊎ (status_of answer ≡ 6)
  computed-asked quiet given workers asked text known program read =
      by-command words before now answer comes (of.Mdf given workers) asked (λ (k : ℕ). (k ≡ 0) ⊎ (k ≡ 6)) (inr refl)
      (λ w. status-computed given text before now known quiet workers answer program read counts w)

  no_program-asked : IsQuiet before now → (given : GivenText) (workers : ℕ) → command words ≡ Some (of.Mdf given workers)
      → (text : List ℕ) → IsKnown before.told given text → ((program : List Statement) → IsRead text program → ⊥) → (status_of answer ≡ 2) ⊎ (status_of answer ≡ 6)
  no_program-asked quiet given workers asked text known none =
      by-command words before now answer comes (of.Mdf given workers) asked (λ (k : ℕ). (k ≡ 2) ⊎ (k ≡ 6)) (inr refl)
      (λ w. status-no_program given text before now known quiet workers answer none counts w)

-- all of it, said of the status
pub complete : ReadingLaw → SpellingIsOfOneNet → (words : List (List ℕ)) (before now : Outside) (status : ℕ) (answer : Result ℕ Fault) → status ≡ status_of answer
    → Comes words before now answer → Counts before now answer → IsComplete status words before now
complete law one words before now status answer is comes counts = subst (λ (n : ℕ). IsComplete n words before now) (sym is) (record {
  done = done-accepted law one words before now answer comes counts;
  beyond = beyond-accepted law one words before now answer comes counts;
  unswept = unswept-accepted law one words before now answer comes counts;
  refused = refused-text law one words before now answer comes counts;
  computed = computed-asked law one words before now answer comes counts;
  no_program = no_program-asked law one words before now answer comes counts;
  soaked = soaked-asked law one words before now answer comes counts;
})
