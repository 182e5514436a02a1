-- Groups on an in: what its next message tells of them, and how they are joined.
use Rattle.std.proofs.Common.{◌≡◌, ℕ, suc, ◌<◌, ◌⊎◌, cond, eqb, List, [], ◌∷◌, ◌++◌, refl, sym, ap, ap₂, ◌∙◌, arith, inl, inr, eq-eqb, ne_eqb}
use Rattle.std.specs.List.{AllByRecursion}
use Rattle.std.proofs.lemmas.Bool.{cases_eq}
use Rattle.ff_rec.specs.Lines.{Rec}
use Rattle.ff_rec.specs.Streams.{closed}
use Rattle.ff_rec.specs.declared.msg.Msg.TheVariants.{Item, Mark, Pick, Eos as EosMsg}
use Rattle.ff_node.specs.Fits.{grouped, without_first, first_group, gather, picked}
use Rattle.ff_node.specs.Runs.{Message}

-- a record is the first of a group that goes on
pub record GoesOnBy (x : Rec) (gs : List (List Rec)) : Type 0 where
  pub group : List Rec
  pub rest : List (List Rec)
  pub is : gs ≡ (x ∷ group) ∷ rest

-- what comes next is a record, a Mark, or the end
pub grouped-item : (gs : List (List Rec)) (x : Rec) (more : List Message) → closed (grouped gs) ≡ Item x ∷ more → GoesOnBy x gs
grouped-item [] x more e = absurd (cc)
grouped-item ([] ∷ rest) x more e = absurd (cc)
grouped-item ((y ∷ group) ∷ rest) x more e = record { group = group; rest = rest; is = cc }

pub grouped-mark : (gs : List (List Rec)) (more : List Message) → closed (grouped gs) ≡ Mark ∷ more → (rest : List (List Rec)) × (gs ≡ [] ∷ rest)
grouped-mark [] more e = absurd (cc)
grouped-mark ([] ∷ rest) more e = (rest, refl)
grouped-mark ((y ∷ group) ∷ rest) more e = absurd (cc)

pub grouped-eos : (gs : List (List Rec)) (more : List Message) → closed (grouped gs) ≡ EosMsg ∷ more → gs ≡ []
grouped-eos [] more e = refl
grouped-eos ([] ∷ rest) more e = absurd (cc)
grouped-eos ((y ∷ group) ∷ rest) more e = absurd (cc)

pub grouped-pick : (gs : List (List Rec)) (w : ℕ) (more : List Message) → closed (grouped gs) ≡ Pick w ∷ more → ⊥
grouped-pick [] w more e = cc
grouped-pick ([] ∷ rest) w more e = cc
grouped-pick ((y ∷ group) ∷ rest) w more e = cc

-- groups with others at place `k`
abbrev pub replaced_at : (ℕ → List (List Rec)) → ℕ → List (List Rec) → ℕ → List (List Rec)
replaced_at groups k gs j = cond (eqb k j) gs (groups j)

-- the same groups are joined to the same
pub gather-same : (n : ℕ) (picks : List ℕ) (f g : ℕ → List (List Rec)) → AllByRecursion (λ w. w < n) picks
    → ((j : ℕ) → j < n → f j ≡ g j) → gather picks f ≡ gather picks g
gather-same n [] f g below same = refl
gather-same n (w ∷ picks) f g below same =
    ap₂ (λ a b. a ++ b) (ap first_group (same w below.0))
    (gather-same n picks (without_first f w) (without_first g w) below.1 (λ j h. without w j (same j h)))
  where
    without : (w j : ℕ) → f j ≡ g j → without_first f w j ≡ without_first g w j
    without w j e = ap (λ gs. without_first (λ _. gs) w j) e

pub gather-equal : (picks : List ℕ) (f g : ℕ → List (List Rec)) → ((j : ℕ) → f j ≡ g j) → gather picks f ≡ gather picks g
gather-equal [] f g same = refl
gather-equal (w ∷ picks) f g same =
    ap₂ (λ a b. a ++ b) (ap first_group (same w))
    (gather-equal picks (without_first f w) (without_first g w) (λ j. ap (λ gs. without_first (λ _. gs) w j) (same j)))

-- the groups of a place but for its first, and those of another place
pub without_first-here : (groups : ℕ → List (List Rec)) (w j : ℕ) (group : List Rec) (rest : List (List Rec))
    → groups w ≡ group ∷ rest → w ≡ j → without_first groups w j ≡ rest
without_first-here groups w j group rest is e = let there : groups j ≡ group ∷ rest = ap groups (sym e) ∙ is in rw (eq-eqb w j e, there) refl

pub without_first-other : (groups : ℕ → List (List Rec)) (w j : ℕ) → (w ≡ j → ⊥) → without_first groups w j ≡ groups j
without_first-other groups w j ne = rw (ne_eqb w j ne) refl

pub replaced_at-here : (groups : ℕ → List (List Rec)) (w j : ℕ) (gs : List (List Rec)) → w ≡ j → replaced_at groups w gs j ≡ gs
replaced_at-here groups w j gs e = rw (eq-eqb w j e) refl

pub replaced_at-other : (groups : ℕ → List (List Rec)) (w j : ℕ) (gs : List (List Rec)) → (w ≡ j → ⊥) → replaced_at groups w gs j ≡ groups j
replaced_at-other groups w j gs ne = rw (ne_eqb w j ne) refl

-- where the first group of the first pick begins with a record, so does what is joined
pub gather-item : (groups : ℕ → List (List Rec)) (w : ℕ) (picks : List ℕ) (x : Rec) (group : List Rec) (rest : List (List Rec))
    → groups w ≡ (x ∷ group) ∷ rest → gather (w ∷ picks) groups ≡ x ∷ gather (w ∷ picks) (replaced_at groups w (group ∷ rest))
gather-item groups w picks x group rest is =
    ap₂ (λ a b. a ++ b) (ap first_group is) (gather-equal picks (without_first groups w) (without_first after w) others)
    ∙ ap (λ gs. x ∷ (first_group gs ++ gather picks (without_first after w))) (sym (replaced_at-here groups w w (group ∷ rest) refl))
  where
    after : ℕ → List (List Rec)
    after = replaced_at groups w (group ∷ rest)

    others : (j : ℕ) → without_first groups w j ≡ without_first after w j
    others j = by (cases_eq w j)
      where
        by : (w ≡ j) ⊎ (w ≡ j → ⊥) → without_first groups w j ≡ without_first after w j
        by (inl e) =
            without_first-here groups w j (x ∷ group) rest is e
            ∙ sym (without_first-here after w j group rest (replaced_at-here groups w w (group ∷ rest) refl) e)
        by (inr ne) = without_first-other groups w j ne ∙ sym (without_first-other after w j ne ∙ replaced_at-other groups w j (group ∷ rest) ne)

-- a pick counts at its own place alone
pub picked-here : (w : ℕ) (picks : List ℕ) → picked (w ∷ picks) w ≡ suc (picked picks w)
picked-here w picks = rw (eq-eqb w w refl) (omega arith)

pub picked-other : (w j : ℕ) (picks : List ℕ) → (w ≡ j → ⊥) → picked (w ∷ picks) j ≡ picked picks j
picked-other w j picks ne = rw (ne_eqb w j ne) (omega arith)
