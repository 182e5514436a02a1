-- What is known of a call whose text was at fault, and of one whose text is known.
use Rattle.std.proofs.Common.{◌≡◌, ◌⊎◌, ℕ, ◌<◌, List, [], ◌∷◌, ◌++◌, length, Option, None, Some, refl, sym, ap, subst, inl, inr, ◌∙◌, append_assoc, arith}
use Rattle.std.specs.Prelude.{Result, Err}
use Rattle.std.proofs.KnownBytes.{Keeps-refl}
use Rattle.std.proofs.lemmas.List.{append_cancel_right, map-append}
use Rattle.ff_rec.specs.Counts.{more, Rose}
use Rattle.ff_io.specs.Files.{Holdings, KeepsAll}
use Rattle.ff_net.specs.Rules.{first_fault}
use Rattle.ff_net.specs.Tree.{Tree}
use Rattle.ff_net.specs.declared.fault.RuleFault.{RuleFault}
use Rattle.ff_ops.specs.Operation.{OpState, op_node}
use Rattle.ff_text.specs.Grammar.{spelling}
use Rattle.ff_text.specs.Printing.{tokens_of}
use Rattle.ff_text.specs.Reading.{IsReadFault}
use Rattle.ff_text.specs.SpellingLaw.{SpellingIsOfOneNet}
use Rattle.ff_text.specs.Tokens.{Stop, PlacedToken}
use Rattle.ff_text.specs.declared.fault.ReadFault.TheVariants.{Text as TextFault}
use Rattle.ff_text.specs.declared.fault.TextKind.{TextKind}
use Rattle.ff_call.specs.Counts.{Files, Counts, raised}
use Rattle.ff_call.specs.Handling.{Handled}
use Rattle.ff_call.specs.Outside.{Outside, IsUntouched, IsQuiet}
use Rattle.ff_call.specs.Statuses.{fault_status, status_of}
use Rattle.ff_call.specs.Texts.{version, IsText, IsKnown, IsSpelled, KeepsRules, IsLong, IsBadText, IsBroken, IsGivenFault}
use Rattle.ff_call.specs.declared.fault.Fault.{Fault}
use Rattle.ff_call.specs.declared.fault.Fault.TheVariants as cause
use Rattle.ff_words.specs.declared.command.Given.{Given}
use Rattle.ff_words.specs.declared.command.Given.TheVariants as source

-- nothing was done but to read the text, which keeps the files
pub IsUntouched-given : (before : Outside) (told : Option Holdings) (n : ℕ) → KeepsAll before.told told
    → IsUntouched before (record before { told = told; files_faults = n })
IsUntouched-given before told n keeps = record {
  reading = record { left = Keeps-refl before.left; ended = refl; faults = refl; files = keeps };
  taken = Keeps-refl before.taken;
  starting = record { starts = refl; worked = refl };
}

-- and no other count rose than that of the files
pub Counts-given : (before : Outside) (told : Option Holdings) (n : ℕ) (given : Given) (fault : Fault)
    → IsGivenFault before.told given fault → n ≡ raised Files before.files_faults fault
    → Counts before (record before { told = told; files_faults = n }) (Err fault)
Counts-given before told n given (cause.File name) is rose = record { files = rose; input = refl; output = refl; starts = refl }
Counts-given before told n given cause.TooLong is rose = record { files = rose; input = refl; output = refl; starts = refl }
Counts-given before told n given (cause.BadText at kind) is rose = record { files = rose; input = refl; output = refl; starts = refl }
Counts-given before told n given (cause.BrokenRule broken) is rose = record { files = rose; input = refl; output = refl; starts = refl }
Counts-given before told n given cause.NoMemory is rose = record { files = rose; input = inl refl; output = refl; starts = refl }
Counts-given before told n given _ is rose = absurd is

-- a count that rose
pub Rose-more : (n now : ℕ) → now ≡ more n → Rose n now
Rose-more n now e = omega arith

-- a text that is known is the text that is given
pub IsText-known : (told : Option Holdings) (given : Given) (text known : List ℕ) → IsText told given text → IsKnown told given known → text ≡ known
IsText-known told (source.Text bytes) text known is is_known = is ∙ sym is_known
IsText-known None (source.File name) text known is is_known = absurd is_known
IsText-known (Some holds) (source.File name) text known is is_known = let e : Some text ≡ Some known = sym is ∙ is_known in cc

-- the tokens of a text are those of one network
pub IsSpelled-one : SpellingIsOfOneNet → (text : List ℕ) (t u : Tree OpState) → IsSpelled text t → IsSpelled text u → t ≡ u
IsSpelled-one one text t u a b =
    one t u 15 a.net b.net (append_cancel_right (spelling t) (spelling u) (Stop ∷ []) (sym a.spelled ∙ b.spelled))

-- what stands before and with a token, and what stands behind it
tokens_of-split : (before : List PlacedToken) (spot : PlacedToken) (after : List PlacedToken)
    → tokens_of (before ++ spot ∷ after) ≡ (tokens_of before ++ spot.token ∷ []) ++ tokens_of after
tokens_of-split before spot after =
    map-append (λ (s : PlacedToken). s.token) before (spot ∷ after) ∙ sym (append_assoc (tokens_of before) (spot.token ∷ []) (tokens_of after))

-- a text that spells a network has no fault
IsReadFault-spelled : (text : List ℕ) (t : Tree OpState) (at : ℕ) (kind : TextKind) → IsSpelled text t → IsReadFault text (TextFault at kind) → ⊥
IsReadFault-spelled text t at kind a fault =
    let f = fault.1 in
    f.stuck (t, tokens_of f.after, a.net, sym a.spelled ∙ ap tokens_of f.whole ∙ tokens_of-split f.before f.spot f.after)

module _ (one : SpellingIsOfOneNet) (told : Option Holdings) (given : Given) (text : List ℕ) (is_known : IsKnown told given text)
    (t : Tree OpState) (spelled : IsSpelled text t) (kept : KeepsRules t) where
  -- an accepted text isn't too long
  IsLong-accepted : IsLong told given → ⊥
  IsLong-accepted long =
      let same : long.text ≡ text = IsText-known told given long.text text long.is_text is_known in
      let short = spelled.short in
      let beyond : 65536 < length text = subst (λ (s : List ℕ). 65536 < length s) same long.long in
      omega (arith, short, beyond)

  -- it has no fault
  IsBadText-accepted : (at : ℕ) (kind : TextKind) → IsBadText told given at kind → ⊥
  IsBadText-accepted at kind bad =
      let same : bad.text ≡ text = IsText-known told given bad.text text bad.is_text is_known in
      IsReadFault-spelled bad.text t at kind (subst (λ (s : List ℕ). IsSpelled s t) (sym same) spelled) bad.fault

  -- and its network breaks no rule
  IsBroken-accepted : (fault : RuleFault) → IsBroken told given fault → ⊥
  IsBroken-accepted fault broken =
      let same : broken.text ≡ text = IsText-known told given broken.text text broken.is_text is_known in
      let its : IsSpelled text broken.net = subst (λ (s : List ℕ). IsSpelled s broken.net) same broken.spelled in
      let same_net : broken.net ≡ t = IsSpelled-one one text broken.net t its spelled in
      let e : Some (fault.rule, fault.path) ≡ None = sym broken.breaks ∙ ap (λ (u : Tree OpState). first_fault op_node version u) same_net ∙ kept in cc

  -- so where no count rose it is only refused for want of memory
  pub status-accepted : (before now : Outside) (fault : Fault) → IsQuiet before now → Counts before now (Err fault)
      → IsGivenFault told given fault → fault_status fault ≡ 6
  status-accepted before now (cause.File name) quiet counts is = absurd (quiet.files (Rose-more before.files_faults now.files_faults counts.files))
  status-accepted before now cause.TooLong quiet counts is = absurd (IsLong-accepted is)
  status-accepted before now (cause.BadText at kind) quiet counts is = absurd (IsBadText-accepted at kind is)
  status-accepted before now (cause.BrokenRule broken) quiet counts is = absurd (IsBroken-accepted broken is)
  status-accepted before now cause.NoMemory quiet counts is = refl
  status-accepted before now _ quiet counts is = absurd is

-- where no count rose, a text that is at fault is refused, unless memory ran out
pub status-refused : (told : Option Holdings) (given : Given) (before now : Outside) (fault : Fault) → IsQuiet before now
    → Counts before now (Err fault) → IsGivenFault told given fault → (fault_status fault ≡ 2) ⊎ (fault_status fault ≡ 6)
status-refused told given before now (cause.File name) quiet counts is = absurd (quiet.files (Rose-more before.files_faults now.files_faults counts.files))
status-refused told given before now cause.TooLong quiet counts is = inl refl
status-refused told given before now (cause.BadText at kind) quiet counts is = inl refl
status-refused told given before now (cause.BrokenRule broken) quiet counts is = inl refl
status-refused told given before now cause.NoMemory quiet counts is = inr refl
status-refused told given before now _ quiet counts is = absurd is

-- a command that is given an accepted text did with its network what it does, unless memory ran out before
pub Handled-accepted : SpellingIsOfOneNet → (given : Given) (text : List ℕ) (t : Tree OpState) (Done : Tree OpState → Outside → Outside → Result ℕ Fault → Type 0)
    (before now : Outside) (answer : Result ℕ Fault) → IsKnown before.told given text → IsSpelled text t → KeepsRules t
    → IsQuiet before now → Counts before now answer → Handled given Done before now answer
    → (status_of answer ≡ 6) ⊎ Done t before now answer
Handled-accepted one given text t Done before now answer is_known spelled kept quiet counts h = elim h [
  | inl refusal ↦ inl (ap (λ (a : Result ℕ Fault). status_of a) refusal.is
      ∙ status-accepted one before.told given text is_known t spelled kept before now refusal.cause quiet
      (subst (λ (a : Result ℕ Fault). Counts before now a) refusal.is counts) refusal.of_given)
  | inr work ↦ (
      let same_text : work.spelled.text ≡ text = IsText-known before.told given work.spelled.text text work.spelled.is_text is_known in
      let its : IsSpelled text work.net = subst (λ (s : List ℕ). IsSpelled s work.net) same_text work.spelled.spelled in
      inr (subst (λ (u : Tree OpState). Done u before now answer) (IsSpelled-one one text work.net t its spelled) work.done))
]

-- one that is given a text that is no network refuses it, unless memory ran out
pub Handled-refused : (given : Given) (text : List ℕ) (Done : Tree OpState → Outside → Outside → Result ℕ Fault → Type 0)
    (before now : Outside) (answer : Result ℕ Fault) → IsKnown before.told given text → ((t : Tree OpState) → IsSpelled text t → KeepsRules t → ⊥)
    → IsQuiet before now → Counts before now answer → Handled given Done before now answer
    → (status_of answer ≡ 2) ⊎ (status_of answer ≡ 6)
Handled-refused given text Done before now answer is_known refused quiet counts h = elim h [
  | inl refusal ↦ subst (λ (a : Result ℕ Fault). (status_of a ≡ 2) ⊎ (status_of a ≡ 6)) (sym refusal.is)
      (status-refused before.told given before now refusal.cause quiet
      (subst (λ (a : Result ℕ Fault). Counts before now a) refusal.is counts) refusal.of_given)
  | inr work ↦ (
      let same_text : work.spelled.text ≡ text = IsText-known before.told given work.spelled.text text work.spelled.is_text is_known in
      absurd (refused work.net (subst (λ (s : List ℕ). IsSpelled s work.net) same_text work.spelled.spelled) work.spelled.kept))
]
