-- Laws of lists of messages.
use Rattle.std.proofs.Common.{◌≡◌, List, [], ◌∷◌, ◌++◌, refl, sym, ap, ap₂, ◌∙◌, append_assoc, subst}
use Rattle.std.proofs.lemmas.List.{map-append, append-nil}
use Rattle.ff_rec.specs.Streams.{IsOpenMsg, items, carried, unaborted, closed, GoesOn}
use Rattle.ff_rec.specs.declared.msg.Msg.{Msg}
use Rattle.ff_rec.specs.declared.msg.Msg.TheVariants.{Item, Mark, Pick, Eos, Abort}
use Rattle.ff_unit.specs.MessageLaws.{IsOpen-carried, unaborted-append, unaborted-open, items-append}

-- records alone have no Abort
pub unaborted-carried : {T : Type 0} (xs : List T) → unaborted (carried xs) ≡ carried xs
unaborted-carried xs = unaborted-open (carried xs) (IsOpen-carried xs)

-- what records carry
pub items-carried : {T : Type 0} (xs : List T) → items (carried xs) ≡ xs
items-carried [] = refl
items-carried (x ∷ xs) = ap (λ l. x ∷ l) (items-carried xs)

pub items-closed : {T : Type 0} (xs : List T) → items (closed (carried xs)) ≡ xs
items-closed xs = items-append (carried xs) (Eos ∷ []) ∙ append-nil (items (carried xs)) ∙ items-carried xs

-- an Abort carries nothing
pub items-unaborted : {T : Type 0} (ms : List (Msg T)) → items (unaborted ms) ≡ items ms
items-unaborted [] = refl
items-unaborted (Item x ∷ ms) = ap (λ l. x ∷ l) (items-unaborted ms)
items-unaborted (Mark ∷ ms) = items-unaborted ms
items-unaborted (Pick w ∷ ms) = items-unaborted ms
items-unaborted (Eos ∷ ms) = items-unaborted ms
items-unaborted (Abort ∷ ms) = items-unaborted ms

-- records in a row
pub carried-append : {T : Type 0} (xs ys : List T) → carried (xs ++ ys) ≡ carried xs ++ carried ys
carried-append xs ys = map-append (λ x. Item x) xs ys

-- a front of what goes on to a whole list goes on to it too
pub GoesOn-front : {T : Type 0} (front back ms : List (Msg T)) → GoesOn (unaborted (front ++ back)) ms → GoesOn (unaborted front) ms
GoesOn-front front back ms g = record {
  inner = g.inner;
  more = unaborted back ++ g.more;
  is = g.is ∙ ap (λ l. l ++ g.more) (unaborted-append front back) ∙ append_assoc (unaborted front) (unaborted back) g.more;
}

-- the records of what goes on to a list of records are a front of it
pub GoesOn-items : {T : Type 0} (ms : List (Msg T)) (xs : List T) → GoesOn (unaborted ms) (carried xs) → (rest : List T) × (xs ≡ items ms ++ rest)
GoesOn-items ms xs g =
    (items g.more, sym (items-closed xs) ∙ ap items g.is ∙ items-append (unaborted ms) g.more ∙ ap (λ l. l ++ items g.more) (items-unaborted ms))

-- a list that ends with Eos or Abort, and is a front of a closed list of records, is all of it
pub ended-front : {T : Type 0} (ms : List (Msg T)) (m : Msg T) (back : List (Msg T)) (xs : List T) → (IsOpenMsg m → ⊥) → (ms ++ m ∷ []) ++ back ≡ closed (carried xs) → ms ≡ carried xs
ended-front [] m back [] end e = refl
ended-front {T} [] m back (x ∷ xs) end e = absurd (end (subst IsOpenMsg (ap (first m) (sym e)) tt))
  where
    first : Msg T → List (Msg T) → Msg T
    first d [] = d
    first d (y ∷ ys) = y
ended-front {T} (y ∷ ms) m back [] end e = absurd (nothing ms (cc e))
  where
    nothing : (zs : List (Msg T)) → (zs ++ m ∷ []) ++ back ≡ [] → ⊥
    nothing [] h = absurd (cc h)
    nothing (z ∷ zs) h = absurd (cc h)
ended-front (y ∷ ms) m back (x ∷ xs) end e = ap₂ (λ z zs. z ∷ zs) (cc e) (ended-front ms m back xs end (cc e))

-- a closed front of a closed list of records is all of it
pub closed-front : {T : Type 0} (ms : List (Msg T)) (back : List (Msg T)) (xs : List T) → closed ms ++ back ≡ closed (carried xs) → ms ≡ carried xs
closed-front ms back xs e = ended-front ms Eos back xs (λ h. h) e
