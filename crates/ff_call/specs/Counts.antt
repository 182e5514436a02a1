-- The counts of faults and of refused starts, behind each answer of a call.
use Rattle.std.specs.Prelude.{◌≡◌, ℕ, ◌⊎◌, Option, None, Some, Result, Ok, Err}
use Rattle.ff_rec.specs.Counts.{more}
use Rattle.ff_call.specs.Outside.{Outside}
use Rattle.ff_call.specs.declared.fault.Fault.{Fault}
use Rattle.ff_call.specs.declared.fault.Fault.TheVariants as cause

-- the devices that have a count
pub data Device : Type 0 where
  Files : Device
  Input : Device
  Output : Device
  Spawner : Device

-- the device that failed, or refused, where a fault comes of that
abbrev pub blames : Fault → Option Device
blames (cause.File name) = Some Files
blames (cause.Rejects name rejected) = Some Files
blames (cause.Read rejected) = Some Input
blames cause.Write = Some Output
blames cause.Refused = Some Spawner
blames _ = None

-- the count of a device, behind a fault that is laid to this one
abbrev pub rises : Device → ℕ → Option Device → ℕ
rises Files n (Some Files) = more n
rises Input n (Some Input) = more n
rises Output n (Some Output) = more n
rises Spawner n (Some Spawner) = more n
rises _ n _ = n

-- the count of a device behind a fault
abbrev pub raised : Device → ℕ → Fault → ℕ
raised device n fault = rises device n (blames fault)

-- a count after a call with this answer, where each of its faults raises the count so
abbrev pub count_by : {A C : Type 0} → (ℕ → C → ℕ) → ℕ → Result A C → ℕ
count_by rises n (Ok a) = n
count_by rises n (Err c) = rises n c

-- a count of faults is the same, or one more where the device failed and something else came of it
abbrev pub StaysOrRises : ℕ → ℕ → Type 0
StaysOrRises before now = (now ≡ before) ⊎ (now ≡ more before)

-- how the count of the input's faults went: behind a read that failed a wrap may still be over its limit, and the output, the
-- file for the rejected records or memory may still fail
abbrev pub CountsRead : ℕ → ℕ → Fault → Type 0
CountsRead before now (cause.Tasks most) = StaysOrRises before now
CountsRead before now cause.Write = StaysOrRises before now
CountsRead before now (cause.Rejects name rejected) = StaysOrRises before now
CountsRead before now cause.NoMemory = StaysOrRises before now
CountsRead before now fault = now ≡ raised Input before fault

abbrev pub CountsInput : {A : Type 0} → ℕ → ℕ → Result A Fault → Type 0
CountsInput before now (Ok a) = now ≡ before
CountsInput before now (Err fault) = CountsRead before now fault

-- the device that is blamed for this answer failed once more, and no other, but that the input may have too
pub record Counts (before now : Outside) (answer : Result ℕ Fault) : Type 0 where
  pub files : now.files_faults ≡ count_by (raised Files) before.files_faults answer
  pub input : CountsInput before.input_faults now.input_faults answer
  pub output : now.output_faults ≡ count_by (raised Output) before.output_faults answer
  pub starts : now.refused ≡ count_by (raised Spawner) before.refused answer
