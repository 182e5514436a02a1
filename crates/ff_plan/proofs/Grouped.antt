-- Groups of records, each with its Mark behind it: what a Plain node makes of them, what they carry, and how many they are.
use Rattle.std.proofs.Common.{◌≡◌, suc, List, [], ◌∷◌, ◌++◌, map, length, refl, sym, ap, ap₂, ◌∙◌, append-nil}
use Rattle.std.proofs.lemmas.Grind.{flat_map-append}
use Rattle.std.proofs.lemmas.List.{map-append}
use Rattle.std.specs.List.{AllByRecursion, flat_map}
use Rattle.ff_rec.specs.Lines.{Rec}
use Rattle.ff_rec.specs.Streams.{carried, items}
use Rattle.ff_rec.specs.declared.msg.Msg.TheVariants.{Item, Mark}
use Rattle.ff_node.specs.Behaviour.{Behaviour}
use Rattle.ff_node.specs.Fits.{IsItemOrMark, replaced, marked, grouped, marks}
use Rattle.ff_node.specs.Runs.{Message}

-- the records of all groups
abbrev pub joined : {A : Type 0} → List (List A) → List A
joined gs = flat_map (λ g. g) gs

-- each record in a group of its own
pub marked-grouped : (xs : List Rec) → marked xs ≡ grouped (map (λ x. x ∷ []) xs)
marked-grouped [] = refl
marked-grouped (x ∷ xs) = ap (λ ms. Item x ∷ Mark ∷ ms) (marked-grouped xs)

pub joined-ones : (xs : List Rec) → joined (map (λ x. x ∷ []) xs) ≡ xs
joined-ones [] = refl
joined-ones (x ∷ xs) = ap (λ ys. x ∷ ys) (joined-ones xs)

-- groups are records and Marks
IsItemOrMark-group : (xs : List Rec) (ms : List Message) → AllByRecursion IsItemOrMark ms → AllByRecursion IsItemOrMark ((carried xs ++ Mark ∷ []) ++ ms)
IsItemOrMark-group [] ms all = (tt, all)
IsItemOrMark-group (x ∷ xs) ms all = (tt, IsItemOrMark-group xs ms all)

pub IsItemOrMark-grouped : (gs : List (List Rec)) → AllByRecursion IsItemOrMark (grouped gs)
IsItemOrMark-grouped [] = tt
IsItemOrMark-grouped (g ∷ gs) = IsItemOrMark-group g (grouped gs) (IsItemOrMark-grouped gs)

items-group : (xs : List Rec) (ms : List Message) → items ((carried xs ++ Mark ∷ []) ++ ms) ≡ xs ++ items ms
items-group [] ms = refl
items-group (x ∷ xs) ms = ap (λ ys. x ∷ ys) (items-group xs ms)

pub items-grouped : (gs : List (List Rec)) → items (grouped gs) ≡ joined gs
items-grouped [] = refl
items-grouped (g ∷ gs) = items-group g (grouped gs) ∙ ap (λ xs. g ++ xs) (items-grouped gs)

marks-group : (xs : List Rec) (ms : List Message) → marks ((carried xs ++ Mark ∷ []) ++ ms) ≡ suc (marks ms)
marks-group [] ms = refl
marks-group (x ∷ xs) ms = marks-group xs ms

-- as many Marks as groups
pub marks-grouped : (gs : List (List Rec)) → marks (grouped gs) ≡ length gs
marks-grouped [] = refl
marks-grouped (g ∷ gs) = marks-group g (grouped gs) ∙ ap suc (marks-grouped gs)

module _ {S : Type 0} (b : Behaviour S) (o : S) (send : List Rec → List Rec) (sends : (x : Rec) → b.sends (b.opening o) x ≡ send (x ∷ []))
    (each : (xs : List Rec) → send xs ≡ flat_map (λ x. send (x ∷ [])) xs) where
  replaced-carried : (xs : List Rec) → flat_map (replaced b o) (carried xs) ≡ carried (flat_map (λ x. send (x ∷ [])) xs)
  replaced-carried [] = refl
  replaced-carried (x ∷ xs) =
      ap₂ ◌++◌ (ap carried (sends x)) (replaced-carried xs)
      ∙ sym (map-append (λ (y : Rec). Item y) (send (x ∷ [])) (flat_map (λ y. send (y ∷ [])) xs))

  -- a Plain node replaces each group by what it sends for its records
  pub replaced-grouped : (gs : List (List Rec)) → flat_map (replaced b o) (grouped gs) ≡ grouped (map send gs)
  replaced-grouped [] = refl
  replaced-grouped (g ∷ gs) =
      flat_map-append (replaced b o) (carried g ++ Mark ∷ []) (grouped gs)
      ∙ ap₂ ◌++◌
      (flat_map-append (replaced b o) (carried g) (Mark ∷ []) ∙ ap (λ ms. ms ++ Mark ∷ []) (replaced-carried g ∙ ap carried (sym (each g))))
      (replaced-grouped gs)

-- what goes by each record makes of the records of all groups what it makes of each group
pub joined-each : (send : List Rec → List Rec) → ((xs : List Rec) → send xs ≡ flat_map (λ x. send (x ∷ [])) xs) → (gs : List (List Rec)) → joined (map send gs) ≡ send (joined gs)
joined-each send each [] = sym (each [])
joined-each send each (g ∷ gs) =
    ap₂ ◌++◌ (each g) (joined-each send each gs ∙ each (joined gs))
    ∙ sym (flat_map-append (λ x. send (x ∷ [])) g (joined gs))
    ∙ sym (each (g ++ joined gs))

-- what goes by what it sends for each record goes by what it makes of each alone
pub each-alone : (send : List Rec → List Rec) (sent : Rec → List Rec) → ((xs : List Rec) → send xs ≡ flat_map sent xs) → (xs : List Rec) → send xs ≡ flat_map (λ x. send (x ∷ [])) xs
each-alone send sent sends xs = sends xs ∙ alone xs
  where
    alone : (ys : List Rec) → flat_map sent ys ≡ flat_map (λ x. send (x ∷ [])) ys
    alone [] = refl
    alone (y ∷ ys) = ap₂ ◌++◌ (sym (append-nil (sent y)) ∙ sym (sends (y ∷ []))) (alone ys)
