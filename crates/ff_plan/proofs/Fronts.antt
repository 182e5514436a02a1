-- Fronts of lists of messages: of records, of answers in their groups, and of whole lists.
use Rattle.std.proofs.Common.{◌≡◌, ◌⊎◌, ◌≤◌, List, [], ◌∷◌, ◌++◌, map, length, refl, sym, ap, ap₂, subst, ◌∙◌, inl, inr, arith, append_assoc, append-nil}
use Rattle.std.specs.List.{AllByRecursion, flat_map}
use Rattle.std.proofs.lemmas.List.{map-append}
use Rattle.ff_rec.specs.Lines.{Rec}
use Rattle.ff_rec.specs.Streams.{IsOpen, carried, closed, unaborted, GoesOn}
use Rattle.ff_rec.specs.declared.msg.Msg.TheVariants.{Item, Mark, Pick, Eos, Abort}
use Rattle.ff_node.specs.Fits.{grouped, IsItemOrMark}
use Rattle.ff_node.specs.Runs.{Message}
use Rattle.ff_net.specs.Logs.{HasEos}

-- what is sent for each task, as groups
pub grouped-map : (send : Rec → List Rec) (xs : List Rec) → grouped (map send xs) ≡ flat_map (λ x. carried (send x) ++ Mark ∷ []) xs
grouped-map send [] = refl
grouped-map send (x ∷ xs) = ap (λ ms. (carried (send x) ++ Mark ∷ []) ++ ms) (grouped-map send xs)

-- groups are of records and Marks
group_then : (group : List Rec) (ms : List Message) → AllByRecursion IsItemOrMark ms → AllByRecursion IsItemOrMark ((carried group ++ Mark ∷ []) ++ ms)
group_then [] ms all = (tt, all)
group_then (x ∷ group) ms all = (tt, group_then group ms all)

pub items_or_marks : (groups : List (List Rec)) → AllByRecursion IsItemOrMark (grouped groups)
items_or_marks [] = tt
items_or_marks (group ∷ groups) = group_then group (grouped groups) (items_or_marks groups)

-- groups are told apart by their Marks
first_group : (x y : List Rec) (us vs : List Message) → (carried x ++ Mark ∷ []) ++ us ≡ (carried y ++ Mark ∷ []) ++ vs → (x ≡ y) × (us ≡ vs)
first_group [] [] us vs is = (refl, cc is)
first_group [] (b ∷ y) us vs is = absurd (cc is)
first_group (a ∷ x) [] us vs is = absurd (cc is)
first_group (a ∷ x) (b ∷ y) us vs is =
    let rest = first_group x y us vs (cc is) in
    (ap₂ (λ r rs. r ∷ rs) (cc is) rest.0, rest.1)

pub grouped-front : (xs ys : List (List Rec)) (us vs : List Message) → grouped xs ++ us ≡ grouped ys ++ vs → length ys ≤ length xs → (more : List (List Rec)) × (xs ≡ ys ++ more)
grouped-front xs [] us vs is few = (xs, refl)
grouped-front [] (y ∷ ys) us vs is few = absurd (omega (arith, few))
grouped-front (x ∷ xs) (y ∷ ys) us vs is few =
    let front : List Rec → List Message = λ z. carried z ++ Mark ∷ [] in
    let both = first_group x y (grouped xs ++ us) (grouped ys ++ vs)
    (sym (append_assoc (front x) (grouped xs) us) ∙ is ∙ append_assoc (front y) (grouped ys) vs) in
    let less : length ys ≤ length xs = omega (arith, few) in
    let rest = grouped-front xs ys us vs both.1 less in
    (rest.0, ap₂ (λ z zs. z ∷ zs) both.0 rest.1)

-- records that stand first on a whole list of records are the first of them
pub carried-front : (xs ys : List Rec) (more : List Message) → closed (carried xs) ≡ carried ys ++ more → (rest : List Rec) × (xs ≡ ys ++ rest)
carried-front xs [] more is = (xs, refl)
carried-front [] (y ∷ ys) more is = absurd (cc is)
carried-front (x ∷ xs) (y ∷ ys) more is =
    let rest = carried-front xs ys more (cc is) in
    (rest.0, ap₂ (λ z zs. z ∷ zs) (cc is) rest.1)

-- and a whole list of records is all of it
pub closed-front : (xs ys : List Rec) (more : List Message) → closed (carried xs) ≡ closed (carried ys) ++ more → xs ≡ ys
closed-front [] [] more is = refl
closed-front [] (y ∷ ys) more is = absurd (cc is)
closed-front (x ∷ xs) [] more is = absurd (cc is)
closed-front (x ∷ xs) (y ∷ ys) more is = ap₂ (λ z zs. z ∷ zs) (cc is) (closed-front xs ys more (cc is))

-- where an Eos stands
HasEos-cons : (m : Message) (ms : List Message) → HasEos ms → HasEos (m ∷ ms)
HasEos-cons (Item x) ms has = has
HasEos-cons Mark ms has = has
HasEos-cons (Pick w) ms has = has
HasEos-cons Eos ms has = tt
HasEos-cons Abort ms has = has

pub HasEos-unaborted : (ms : List Message) → HasEos (unaborted ms) → HasEos ms
HasEos-unaborted [] has = has
HasEos-unaborted (Item x ∷ ms) has = HasEos-unaborted ms has
HasEos-unaborted (Mark ∷ ms) has = HasEos-unaborted ms has
HasEos-unaborted (Pick w ∷ ms) has = HasEos-unaborted ms has
HasEos-unaborted (Eos ∷ ms) has = tt
HasEos-unaborted (Abort ∷ ms) has = HasEos-unaborted ms has

-- a front of a whole list has its Eos, or stands before it
pub before-eos : (ms us more : List Message) → closed ms ≡ us ++ more → HasEos us ⊎ ((rest : List Message) × (ms ≡ us ++ rest))
before-eos ms [] more is = inr (ms, refl)
before-eos [] (u ∷ us) more is =
    let first : Eos ≡ u = cc is in
    inl (subst (λ m. HasEos (m ∷ us)) first tt)
before-eos (m ∷ ms) (u ∷ us) more is = elim (before-eos ms us more (cc is)) [
  | inl has ↦ inl (HasEos-cons u us has)
  | inr rest ↦ inr (rest.0, ap₂ (λ z zs. z ∷ zs) (cc is) rest.1)
]

pub IsOpen-carried : (xs : List Rec) → IsOpen (carried xs)
IsOpen-carried [] = tt
IsOpen-carried (x ∷ xs) = (tt, IsOpen-carried xs)

-- what a whole list of records goes on from
pub GoesOn-closed : (us : List Message) (xs : List Rec) → us ≡ closed (carried xs) → GoesOn us (carried xs)
GoesOn-closed us xs is = record { inner = IsOpen-carried xs; more = []; is = sym is ∙ sym (append-nil us) }

pub GoesOn-open : (us rest : List Message) (xs zs : List Rec) → carried xs ≡ us ++ rest → GoesOn us (carried (xs ++ zs))
GoesOn-open us rest xs zs is = record {
  inner = IsOpen-carried (xs ++ zs);
  more = rest ++ closed (carried zs);
  is = ap closed (map-append (λ x. Item x) xs zs)
      ∙ append_assoc (carried xs) (carried zs) (Eos ∷ [])
      ∙ ap (λ ms. ms ++ closed (carried zs)) is
      ∙ append_assoc us rest (closed (carried zs));
}
