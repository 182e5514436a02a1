-- Lists that end with the messages that are still in a bundle.
use Rattle.std.specs.Prelude.{◌≡◌, ◌-◌, List, ◌++◌, length, take}

-- what stands in a list before this rest of it
abbrev pub ahead_of : {A : Type 0} → List A → List A → List A
ahead_of rest all = take (length all - length rest) all

-- a list ends with this rest
abbrev pub EndsWith : {A : Type 0} → List A → List A → Type 0
EndsWith rest all = all ≡ ahead_of rest all ++ rest
