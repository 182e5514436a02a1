-- Words whose first is the name of no command.
use Rattle.std.proofs.Common.{◌≡◌, ◌≤◌, Bool, true, false, List, [], ◌∷◌, ℕ, None, refl, length, slice_index_or, arith}
use Rattle.std.specs.Prelude.{String, string_bytes, codes}
use Rattle.std.specs.Global.{Global}
use Rattle.std.specs.Str.{bytes_eq}
use Rattle.std.proofs.lemmas.Slice.Eq.{bytes_eq-Decides}
use Rattle.ff_words.specs.Parsed.{texts}
use Rattle.ff_words.specs.Words.{command, command_named}

-- a name that isn't `word`
abbrev pub IsOther : List ℕ → List ℕ → Type 0
IsOther word name = name ≡ word → ⊥

bytes_eq-other : (word name : List ℕ) → IsOther word name → bytes_eq name word ≡ false
bytes_eq-other word name other = go (bytes_eq name word) refl
  where
    go : (b : Bool) → bytes_eq name word ≡ b → bytes_eq name word ≡ false
    go true e = absurd (other ((bytes_eq-Decides name word).0 e))
    go false e = e

abbrev pub IsNoName : List ℕ → Type 0
IsNoName name = IsOther (codes "run") name × IsOther (codes "check") name × IsOther (codes "plan") name
    × IsOther (codes "mdf") name × IsOther (codes "dc") name × IsOther (codes "soak") name

command_named-none : (name : List ℕ) (words : List (List ℕ)) → IsNoName name → command_named name words ≡ None
command_named-none name words other =
    rw (
      bytes_eq-other _ name other.0,
      bytes_eq-other _ name other.1,
      bytes_eq-other _ name other.2,
      bytes_eq-other _ name other.3,
      bytes_eq-other _ name other.4,
      bytes_eq-other _ name other.5,
    ) refl

pub command-none : (words : List (String Global)) (name : String Global) → 1 ≤ length words
    → name ≡ slice_index_or words 0 name → IsNoName (string_bytes name) → command (texts words) ≡ None
command-none [] name long first other = absurd (omega arith)
command-none (word ∷ rest) name long first other =
    command_named-none (string_bytes word) (texts (word ∷ rest)) (rw (← first) other)
