-- What units with several ins or outs share: which ins still give, what is held for each out, and how it will end.
use Rattle.std.specs.Prelude.{◌≡◌, ℕ, Bool, true, false, if◌then◌else◌, List, [], ◌∷◌, replicate, slice_index, slice_index_or, Option, None, Some}
use Rattle.ff_rec.specs.Lines.{Rec}
use Rattle.ff_rec.specs.declared.msg.Msg.TheVariants.{Eos as EosMsg, Abort as AbortMsg}
use Rattle.ff_node.specs.Runs.{Message}
use Rattle.ff_port.specs.declared.answers.End.{End}
use Rattle.ff_port.specs.declared.answers.End.TheVariants.{Eos, Abort, Memory}
use Rattle.ff_unit.specs.Units.{Known}

-- in `k` still gives
abbrev pub IsLive : List Bool → ℕ → Type 0
IsLive live k = slice_index_or live k false ≡ true

-- some in still gives
abbrev pub any_live : List Bool → Bool
any_live [] = false
any_live (l ∷ live) = if l then true else any_live live

-- every in still gives, or none does
abbrev pub all_live : ℕ → List Bool
all_live n = replicate n true

abbrev pub none_live : ℕ → List Bool
none_live n = replicate n false

-- how a unit will end that took an Abort: want of memory stays what it is
abbrev pub spoiled : End → End
spoiled Eos = Abort
spoiled Abort = Abort
spoiled Memory = Memory

-- whether it will end for want of memory
abbrev pub is_memory : End → Bool
is_memory Eos = false
is_memory Abort = false
is_memory Memory = true

-- the end is decided once no in gives any more
abbrev pub decided : Bool → End → Option End
decided true end = None
decided false end = Some end

-- what is told at the end: Eos, or Abort where one was taken; where memory was short Abort was told before
abbrev pub told_last : End → List Message
told_last Eos = EosMsg ∷ []
told_last Abort = AbortMsg ∷ []
told_last Memory = []

-- what a merge tells at once of an Abort that it takes, unless it told one before
abbrev pub told_first : End → List Message
told_first Eos = AbortMsg ∷ []
told_first Abort = []
told_first Memory = []

-- what it tells once no in gives any more: Eos, unless it told an Abort before
abbrev pub told_well : End → List Message
told_well Eos = EosMsg ∷ []
told_well Abort = []
told_well Memory = []

-- a unit without rejects
abbrev pub no_rejects : {U : Type 0} → U → List Rec
no_rejects u = []

-- no live in gave anything
abbrev pub AllDry : List Bool → Known → Known → Type 0
AllDry live before after = (k : ℕ) → IsLive live k → (slice_index before.knowns k ≡ 0) × (slice_index after.knowns k ≡ 0)
