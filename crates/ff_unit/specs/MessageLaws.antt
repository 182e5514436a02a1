-- Laws of lists of messages.
use Rattle.std.proofs.Common.{◌≡◌, List, [], ◌∷◌, ◌++◌, length, drop, get_or, refl, sym, ap, ap₂, ◌∙◌, arith, length-append, append-nil}
use Rattle.ff_rec.specs.Streams.{IsOpen, items, carried, unaborted, closed}
use Rattle.ff_rec.specs.declared.msg.Msg.{Msg}
use Rattle.ff_rec.specs.declared.msg.Msg.TheVariants.{Item, Mark, Pick, Eos, Abort}

-- open lists one behind the other
pub IsOpen-append : {T : Type 0} (xs ys : List (Msg T)) → IsOpen xs → IsOpen ys → IsOpen (xs ++ ys)
IsOpen-append [] ys left right = right
IsOpen-append (x ∷ xs) ys left right = (left.0, IsOpen-append xs ys left.1 right)

-- the front of an open list
pub IsOpen-front : {T : Type 0} (xs ys : List (Msg T)) → IsOpen (xs ++ ys) → IsOpen xs
IsOpen-front [] ys h = tt
IsOpen-front (x ∷ xs) ys h = (h.0, IsOpen-front xs ys h.1)

pub IsOpen-carried : {T : Type 0} (xs : List T) → IsOpen (carried xs)
IsOpen-carried [] = tt
IsOpen-carried (x ∷ xs) = (tt, IsOpen-carried xs)

-- two lists without their Aborts
pub unaborted-append : {T : Type 0} (xs ys : List (Msg T)) → unaborted (xs ++ ys) ≡ unaborted xs ++ unaborted ys
unaborted-append [] ys = refl
unaborted-append (Item x ∷ xs) ys = ap (λ l. Item x ∷ l) (unaborted-append xs ys)
unaborted-append (Mark ∷ xs) ys = ap (λ l. Mark ∷ l) (unaborted-append xs ys)
unaborted-append (Pick w ∷ xs) ys = ap (λ l. Pick w ∷ l) (unaborted-append xs ys)
unaborted-append (Eos ∷ xs) ys = ap (λ l. Eos ∷ l) (unaborted-append xs ys)
unaborted-append (Abort ∷ xs) ys = unaborted-append xs ys

-- an open list has no Abort
pub unaborted-open : {T : Type 0} (xs : List (Msg T)) → IsOpen xs → unaborted xs ≡ xs
unaborted-open [] h = refl
unaborted-open (Item x ∷ xs) h = ap (λ l. Item x ∷ l) (unaborted-open xs h.1)
unaborted-open (Mark ∷ xs) h = ap (λ l. Mark ∷ l) (unaborted-open xs h.1)
unaborted-open (Pick w ∷ xs) h = ap (λ l. Pick w ∷ l) (unaborted-open xs h.1)
unaborted-open (Eos ∷ xs) h = absurd h.0
unaborted-open (Abort ∷ xs) h = absurd h.0

-- nor has an open list with one Eos behind it
pub unaborted-closed : {T : Type 0} (xs : List (Msg T)) → IsOpen xs → unaborted (closed xs) ≡ closed xs
unaborted-closed xs h = unaborted-append xs (Eos ∷ []) ∙ ap (λ l. l ++ Eos ∷ []) (unaborted-open xs h)

-- an Abort behind an open list falls away
pub unaborted-cut : {T : Type 0} (xs : List (Msg T)) → IsOpen xs → unaborted (xs ++ Abort ∷ []) ≡ xs
unaborted-cut xs h = unaborted-append xs (Abort ∷ []) ∙ append-nil (unaborted xs) ∙ unaborted-open xs h

-- what stands before a message of a list stands before its last one, or is all that does
pub before_last : {A : Type 0} (xs ys : List A) (m : A) (whole : List A) (e : A) → xs ++ m ∷ ys ≡ whole ++ e ∷ [] → (zs : List A) × (whole ≡ xs ++ zs)
before_last [] ys m whole e h = (whole, refl)
before_last (x ∷ xs) ys m [] e h = absurd (omega (arith, ap length h, length-append xs (m ∷ ys)))
before_last (x ∷ xs) ys m (w ∷ whole) e h =
    let rest = before_last xs ys m whole e (ap (drop 1) h) in
    (rest.0, ap₂ (λ a l. a ∷ l) (sym (ap (λ l. get_or l 0 x) h)) rest.1)

-- what is carried by lists one behind the other
pub items-append : {T : Type 0} (xs ys : List (Msg T)) → items (xs ++ ys) ≡ items xs ++ items ys
items-append [] ys = refl
items-append (Item x ∷ xs) ys = ap (λ l. x ∷ l) (items-append xs ys)
items-append (Mark ∷ xs) ys = items-append xs ys
items-append (Pick w ∷ xs) ys = items-append xs ys
items-append (Eos ∷ xs) ys = items-append xs ys
items-append (Abort ∷ xs) ys = items-append xs ys
