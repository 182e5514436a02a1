-- The description of a network that a command is given, in its words or by a file.
use Rattle.std.specs.Prelude.{◌≡◌, ℕ, ◌<◌, ◌≤◌, List, length, Option, None, Some}
use Rattle.ff_io.specs.Files.{Holdings, HoldsBytes}
use Rattle.ff_net.specs.Rules.{first_fault}
use Rattle.ff_net.specs.Tree.{Tree}
use Rattle.ff_net.specs.declared.fault.RuleFault.{RuleFault}
use Rattle.ff_net.specs.declared.net.Version.{Version}
use Rattle.ff_net.specs.declared.net.Version.TheVariants.{One}
use Rattle.ff_ops.specs.Operation.{OpState, op_node}
use Rattle.ff_text.specs.Cutting.{tokens}
use Rattle.ff_text.specs.Faults.{text_of}
use Rattle.ff_text.specs.Grammar.{IsNet, most_forms}
use Rattle.ff_text.specs.Printing.{tokens_of}
use Rattle.ff_text.specs.Reading.{IsReadFault}
use Rattle.ff_text.specs.declared.fault.ReadFault.TheVariants.{Text as TextFault}
use Rattle.ff_text.specs.declared.fault.TextKind.{TextKind}
use Rattle.ff_rec.specs.declared.limits.TheConstants.{LONGEST_TEXT}
use Rattle.ff_call.specs.declared.fault.Fault.{Fault}
use Rattle.ff_call.specs.declared.fault.Fault.TheVariants.{File, TooLong, BadText, BrokenRule, NoMemory}
use Rattle.ff_words.specs.declared.command.Given.{Given}
use Rattle.ff_words.specs.declared.command.Given.TheVariants as source

-- the text that is given, as far as the files tell what they hold
abbrev pub IsText : Option Holdings → Given → List ℕ → Type 0
IsText told (source.Text bytes) text = text ≡ bytes
IsText told (source.File name) text = HoldsBytes told name text

-- the text that is given, where it is known: it stands in the words, or the files tell it
abbrev pub IsKnown : Option Holdings → Given → List ℕ → Type 0
IsKnown told (source.Text bytes) text = text ≡ bytes
IsKnown None (source.File name) text = ⊥
IsKnown (Some holds) (source.File name) text = holds name ≡ Some text

-- the tokens of a text that isn't too long spell a network, with its nodes before their first records
pub record IsSpelled (text : List ℕ) (t : Tree OpState) : Type 0 where
  pub short : length text ≤ LONGEST_TEXT
  pub net : IsNet t most_forms
  pub spelled : tokens_of (tokens text) ≡ text_of t

-- the version of the texts of today
abbrev pub version : Version
version = One

-- a network keeps all rules, with the limits of that version
abbrev pub KeepsRules : Tree OpState → Type 0
KeepsRules t = first_fault op_node version t ≡ None

-- the text that is given spells this network, which keeps all rules
pub record IsGiven (told : Option Holdings) (given : Given) (t : Tree OpState) : Type 0 where
  pub text : List ℕ
  pub is_text : IsText told given text
  pub spelled : IsSpelled text t
  pub kept : KeepsRules t

-- a network breaks this rule, the lowest, at its first place
abbrev pub Breaks : Tree OpState → RuleFault → Type 0
Breaks t fault = first_fault op_node version t ≡ Some (fault.rule, fault.path)

-- the text that is given has too many bytes
pub record IsLong (told : Option Holdings) (given : Given) : Type 0 where
  pub text : List ℕ
  pub is_text : IsText told given text
  pub long : LONGEST_TEXT < length text

-- the text that is given spells no network: this is its first fault
pub record IsBadText (told : Option Holdings) (given : Given) (at : ℕ) (kind : TextKind) : Type 0 where
  pub text : List ℕ
  pub is_text : IsText told given text
  pub fault : IsReadFault text (TextFault at kind)

-- the text that is given spells a network that breaks this rule
pub record IsBroken (told : Option Holdings) (given : Given) (fault : RuleFault) : Type 0 where
  pub text : List ℕ
  pub is_text : IsText told given text
  pub net : Tree OpState
  pub spelled : IsSpelled text net
  pub breaks : Breaks net fault

-- when each fault of the text that is given comes
abbrev pub IsGivenFault : Option Holdings → Given → Fault → Type 0
IsGivenFault told given (File name) = given ≡ source.File name
IsGivenFault told given TooLong = IsLong told given
IsGivenFault told given (BadText at kind) = IsBadText told given at kind
IsGivenFault told given (BrokenRule fault) = IsBroken told given fault
IsGivenFault told given NoMemory = Unit {0}
IsGivenFault told given _ = ⊥

-- when each fault of the bytes of a text comes
abbrev pub IsSpelledFault : List ℕ → Fault → Type 0
IsSpelledFault text TooLong = LONGEST_TEXT < length text
IsSpelledFault text (BadText at kind) = IsReadFault text (TextFault at kind)
IsSpelledFault text (BrokenRule fault) = (t : Tree OpState) × IsSpelled text t × Breaks t fault
IsSpelledFault text NoMemory = Unit {0}
IsSpelledFault text _ = ⊥
