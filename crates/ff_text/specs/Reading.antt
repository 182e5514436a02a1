-- What the code's readers answer, each for its wants.
use Rattle.std.specs.Prelude.{◌≡◌, ℕ, ◌<◌, ◌≤◌, length, Bool, true, false, List, [], ◌∷◌, ◌++◌, Result, Ok, Err}
use Rattle.ff_rec.specs.declared.limits.TheConstants.{LONGEST_TEXT}
use Rattle.ff_text.specs.declared.fault.ReadFault.{ReadFault}
use Rattle.ff_text.specs.declared.fault.ReadFault.TheVariants.{Text, TooLong, NoMemory}
use Rattle.ff_text.specs.declared.fault.TextKind.{TextKind}
use Rattle.ff_text.specs.Tokens.{PlacedToken}
use Rattle.ff_text.specs.Cutting.{tokens}
use Rattle.ff_text.specs.Faults.{IsFault}
use Rattle.ff_text.specs.Names.{Context}
use Rattle.ff_text.specs.Wants.{Want, Network, Parts, walk}

-- Whatever is wanted behind: what is wanted was taken, and the rest stands ahead; or the first fault is in it.
abbrev pub IsEaten : {A : Type 0} → Context → List Want → Result A ReadFault → List PlacedToken → List PlacedToken → Type 0
IsEaten context us (Ok x) old new = (ws : List Want) → walk context old (us ++ ws) ≡ walk context new ws
IsEaten context us (Err (Text at kind)) old new = (ws : List Want) → walk context old (us ++ ws) ≡ Err (record { at = at; kind = kind })
IsEaten context us (Err TooLong) old new = ⊥
IsEaten context us (Err NoMemory) old new = Unit {0}

-- Behind a part of a pipe or comb, whatever is wanted behind: another part follows, or it ends.
abbrev pub IsAnother : Context → ℕ → Result Bool ReadFault → List PlacedToken → List PlacedToken → Type 0
IsAnother context room (Ok true) old new = (ws : List Want) → walk context old (Parts room ∷ ws) ≡ walk context new (Network room ∷ Parts room ∷ ws)
IsAnother context room (Ok false) old new = (ws : List Want) → walk context old (Parts room ∷ ws) ≡ walk context new ws
IsAnother context room (Err (Text at kind)) old new = (ws : List Want) → walk context old (Parts room ∷ ws) ≡ Err (record { at = at; kind = kind })
IsAnother context room (Err TooLong) old new = ⊥
IsAnother context room (Err NoMemory) old new = Unit {0}

-- A word taken for a network by its name: nothing more is wanted of it; or what is wrong with it, at its place.
abbrev pub IsBegun : {A : Type 0} → Result (List Want) TextKind → ℕ → Result A ReadFault → Type 0
IsBegun begun spot (Ok x) = begun ≡ Ok []
IsBegun begun spot (Err (Text at kind)) = (at ≡ spot) × (begun ≡ Err kind)
IsBegun begun spot (Err TooLong) = ⊥
IsBegun begun spot (Err NoMemory) = Unit {0}

-- whatever is wanted behind, this is the first fault
abbrev pub IsStopped : Context → List Want → ReadFault → List PlacedToken → Type 0
IsStopped context us (Text at kind) spots = (ws : List Want) → walk context spots (us ++ ws) ≡ Err (record { at = at; kind = kind })
IsStopped context us TooLong spots = ⊥
IsStopped context us NoMemory spots = Unit {0}

-- Why a text isn't read: it is too long, or it has a first fault. Want of memory says nothing of the text.
abbrev pub IsReadFault : List ℕ → ReadFault → Type 0
IsReadFault text (Text at kind) = (length text ≤ LONGEST_TEXT) × IsFault (tokens text) (record { at = at; kind = kind })
IsReadFault text TooLong = LONGEST_TEXT < length text
IsReadFault text NoMemory = Unit {0}
