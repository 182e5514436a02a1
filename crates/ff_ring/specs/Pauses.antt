-- What contracts see of pauses.
use Rattle.std.specs.Prelude.{◌≡◌, ◌==◌, ◌*◌, ◌-◌, ℕ, Bool, true, false, not, nat_le, nat_lt, if◌then◌else◌}
use Rattle.ff_ring.specs.declared.pause.Pause.{Pause}
use Rattle.ff_ring.specs.Looking.{LooksState, looked, renewed_looks}

-- how many spins its longest pause has
abbrev pub most_of : Pause → ℕ
most_of p = p.most

-- how many spins the next pause has
abbrev pub spins_of : Pause → ℕ
spins_of p = p.spins

-- how it looks on behind its longest spins
abbrev pub looks_of : Pause → LooksState
looks_of p = p.looks

-- whether it lay down since something was done and since it last slept
abbrev pub lies_down : Pause → Bool
lies_down p = p.lies

-- whether it naps, how often it still may before it hands over what it has gathered, and whether it has napped since something was done
abbrev pub naps_of : Pause → Bool
naps_of p = p.naps

abbrev pub naps_left_of : Pause → ℕ
naps_left_of p = p.naps_left

abbrev pub has_napped : Pause → Bool
has_napped p = p.napped

-- how long the next park may last, in milliseconds
abbrev pub millis_of : Pause → ℕ
millis_of p = p.millis

-- how long the next doze may last, in microseconds
abbrev pub micros_of : Pause → ℕ
micros_of p = p.micros

-- nothing was waited for yet
abbrev pub IsFresh : Pause → Type 0
IsFresh p = (spins_of p ≡ 1) × (lies_down p ≡ false) × (has_napped p ≡ false) × (millis_of p ≡ 2) × (micros_of p ≡ 100)

-- whether its spins may still grow
abbrev pub spins_grow : Pause → Bool
spins_grow p = nat_le (spins_of p) (most_of p)

-- whether the next pause is spins
abbrev pub spins_next : Pause → Bool
spins_next p = if spins_grow p then true else nat_lt 0 (looks_of p).left

-- whether the thread lies down in the next pause
abbrev pub lies_next : Pause → Bool
lies_next p = if spins_next p then false else not (lies_down p)

-- whether it sleeps in the next pause: it lay down, and tried once more
abbrev pub sleeps_next : Pause → Bool
sleeps_next p = if spins_next p then false else lies_down p

-- the spins behind the next pause
abbrev pub spins_behind : Pause → ℕ
spins_behind p = if spins_grow p then 2 * spins_of p else spins_of p

-- how it looks on behind the next pause, and once something was done
abbrev pub looks_behind : Pause → LooksState
looks_behind p = if spins_grow p then looks_of p else looked (looks_of p)

abbrev pub looks_renewed : Pause → LooksState
looks_renewed p = if spins_grow p then looks_of p else renewed_looks (looks_of p)

-- whether it lies down behind the next pause
abbrev pub lies_behind : Pause → Bool
lies_behind p = if spins_next p then lies_down p else not (lies_down p)

-- how often it may nap once something was done: anew where it has handed over
abbrev pub naps_renewed : Pause → ℕ
naps_renewed p = if naps_of p then (if naps_left_of p == 0 then 4 else naps_left_of p) else naps_left_of p

-- whether it naps in the next pause, or parks
abbrev pub naps_next : Pause → Bool
naps_next p = if sleeps_next p then nat_lt 0 (naps_left_of p) else false

abbrev pub parks_next : Pause → Bool
parks_next p = if sleeps_next p then naps_left_of p == 0 else false

-- whether what waits is to be handed over behind the next pause: it lies down and naps no more before it parks, or it naps for the last time
abbrev pub hands_next : Pause → Bool
hands_next p =
    if lies_next p then (if has_napped p then true else naps_left_of p == 0) else (if naps_next p then naps_left_of p == 1 else false)

-- how often it may nap, and whether it has napped, behind the next pause
abbrev pub naps_behind : Pause → ℕ
naps_behind p = if naps_next p then naps_left_of p - 1 else (if hands_next p then 0 else naps_left_of p)

abbrev pub napped_behind : Pause → Bool
napped_behind p = if naps_next p then true else has_napped p
