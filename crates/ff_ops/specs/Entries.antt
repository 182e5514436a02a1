-- Values by key, as a list of entries whose keys rise in byte order.
use Rattle.std.specs.Prelude.{ℕ, List, [], ◌∷◌}
use Rattle.std.specs.Cmp.Lexicographic.{slice_cmp}
use Rattle.std.specs.Ordering.{nat_cmp}
use Rattle.std.specs.declared.cmp.Ordering.{Ordering}
use Rattle.std.specs.declared.cmp.Ordering.TheVariants.{Less, Equal, Greater}

-- a key with its value
abbrev pub Entry : Type 0 → Type 0
Entry V = List ℕ × V

-- the entries with a key's value changed, by how the key stands to the first of them; a new key begins at `none`
abbrev pub change_by : {V : Type 0} → Ordering → V → List ℕ → (V → V) → Entry V → List (Entry V) → List (Entry V) → List (Entry V)
change_by Less none key change first others changed = (key, change none) ∷ first ∷ others
change_by Equal none key change first others changed = (first.0, change first.1) ∷ others
change_by Greater none key change first others changed = first ∷ changed

-- the entries with a key's value changed; a key that isn't there begins at `none`
abbrev pub changed : {V : Type 0} → V → List ℕ → (V → V) → List (Entry V) → List (Entry V)
changed none key change [] = (key, change none) ∷ []
changed none key change (first ∷ others) =
    change_by (slice_cmp nat_cmp key first.0) none key change first others (changed none key change others)
