-- What a call meets of the outside: files, input, output, threads and the sink of messages.
use Rattle.std.specs.Prelude.{◌≡◌, ℕ, Bool, List, Option}
use Rattle.std.specs.Io.KnownBytes.{Keeps}
use Rattle.ff_rec.specs.Counts.{Rose}
use Rattle.ff_io.specs.Files.{Holdings, KeepsAll}

-- What the files hold, the bytes that are left to read and whether the last read told the end, the bytes that the output took,
-- and for each of the three how often it failed. Of threads: how many starts were refused, how many were made, and how many
-- messages those that ended had handled.
pub record Outside : Type 0 where
  pub told : Option Holdings
  pub files_faults : ℕ
  pub left : Option (List ℕ)
  pub ended : Bool
  pub input_faults : ℕ
  pub taken : Option (List ℕ)
  pub output_faults : ℕ
  pub refused : ℕ
  pub starts : ℕ
  pub worked : ℕ

-- what these devices tell
abbrev pub outside_of : {F I O S : Type 0} → (F → Option Holdings) → (F → ℕ) → (I → Option (List ℕ)) → (I → Bool) → (I → ℕ)
    → (O → Option (List ℕ)) → (O → ℕ) → (S → ℕ) → (S → ℕ) → (S → ℕ) → F → I → O → S → Outside
outside_of told files_faults left ended input_faults taken output_faults refused starts worked files input out spawner = record {
  told = told files;
  files_faults = files_faults files;
  left = left input;
  ended = ended input;
  input_faults = input_faults input;
  taken = taken out;
  output_faults = output_faults out;
  refused = refused spawner;
  starts = starts spawner;
  worked = worked spawner;
}

-- this, with the bytes that the sink of messages took, and how often it failed
pub record World : Type 0 where
  pub outside : Outside
  pub said : Option (List ℕ)
  pub err_faults : ℕ

-- nothing was read, no read failed, and every name of the files holds what it held
pub record ReadsNothing (before now : Outside) : Type 0 where
  pub left : Keeps before.left now.left
  pub ended : now.ended ≡ before.ended
  pub faults : now.input_faults ≡ before.input_faults
  pub files : KeepsAll before.told now.told

-- no thread was started, and none had anything to do
pub record StartsNothing (before now : Outside) : Type 0 where
  pub starts : now.starts ≡ before.starts
  pub worked : now.worked ≡ before.worked

-- nothing was read, nothing written, no thread was started, and every name of the files holds what it held
pub record IsUntouched (before now : Outside) : Type 0 where
  pub reading : ReadsNothing before now
  pub taken : Keeps before.taken now.taken
  pub starting : StartsNothing before now

-- no count of faults rose, and no start was refused more
pub record IsQuiet (before now : Outside) : Type 0 where
  pub files : Rose before.files_faults now.files_faults → ⊥
  pub input : Rose before.input_faults now.input_faults → ⊥
  pub output : Rose before.output_faults now.output_faults → ⊥
  pub starts : Rose before.refused now.refused → ⊥
