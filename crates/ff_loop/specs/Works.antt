-- The tasks of a wrap, which stay as they were where memory is refused.
use Rattle.ff_loop.specs.Rounds.{RoundState}
use Rattle.ff_loop.specs.declared.work.Work.{Work}
use Rattle.ff_loop.specs.declared.work.Work.TheVariants.{On, Off}

-- what was done: today, or before memory was refused
abbrev pub round_of : Work → RoundState
round_of (On rounds) = rounds
round_of (Off before) = before.value
