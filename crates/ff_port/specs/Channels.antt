-- What a try on one end of a channel does.
use Rattle.std.specs.Prelude.{◌≡◌, ℕ, ◌+◌, ◌≤◌, Bool, true, List, [], ◌∷◌, ◌++◌, Option, None, Some}
use Rattle.ff_rec.specs.Streams.{IsOpenMsg}
use Rattle.ff_rec.specs.declared.msg.Msg.{Msg}
use Rattle.ff_port.specs.declared.answers.Put.{Put as PutAnswer}
use Rattle.ff_port.specs.declared.answers.Put.TheVariants.{Done, Full, NoMemory}

-- a take at the reading end, by what was got and how many messages are known to be there, before and after: nothing is
-- answered only where nothing is known to be there
abbrev pub Takes : {T : Type 0} → List (Msg T) → ℕ → Option (Msg T) → List (Msg T) → ℕ → Type 0
Takes got known None got' known' = (got' ≡ got) × (known ≡ 0) × (known' ≡ 0)
Takes got known (Some m) got' known' = got' ≡ got ++ m ∷ []

-- a put at the writing end, by what was put and how much room is known, before and after: a message is handed back only
-- where no room is known, or on a channel that grows, for want of memory, and never Eos or Abort
abbrev pub Puts : {T : Type 0} → Bool → List (Msg T) → ℕ → Msg T → PutAnswer T → List (Msg T) → ℕ → Type 0
Puts grows put room m Done put' room' = (put' ≡ put ++ m ∷ []) × (room ≤ room' + 1)
Puts grows put room m (Full back) put' room' = (back ≡ m) × (put' ≡ put) × (room ≡ 0) × (room' ≡ 0)
Puts grows put room m (NoMemory back) put' room' = (back ≡ m) × (put' ≡ put) × (grows ≡ true) × IsOpenMsg m
