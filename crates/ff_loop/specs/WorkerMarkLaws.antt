-- Lists with a Mark behind each record.
use Rattle.std.proofs.Common.{◌≡◌, ◌<◌, List, [], ◌∷◌, ◌++◌, length, drop, get_or, refl, sym, ap, ◌∙◌, subst, arith, append_assoc, length-append}
use Rattle.std.specs.List.{AllByRecursion, flat_map}
use Rattle.ff_rec.specs.Lines.{Rec}
use Rattle.ff_rec.specs.Streams.{IsOpen, items, carried, unaborted, closed}
use Rattle.ff_rec.specs.declared.msg.Msg.TheVariants.{Item, Mark, Pick, Eos, Abort}
use Rattle.ff_node.specs.Behaviour.{Behaviour}
use Rattle.ff_node.specs.Fits.{IsItemOrMark, replaced}
use Rattle.ff_node.specs.Runs.{Message}
use Rattle.ff_unit.specs.Units.{HasAbort}

-- a Mark behind each record
abbrev pub with_marks : List Message → List Message
with_marks [] = []
with_marks (Item x ∷ ms) = Item x ∷ Mark ∷ with_marks ms
with_marks (Mark ∷ ms) = Mark ∷ with_marks ms
with_marks (Pick w ∷ ms) = Pick w ∷ with_marks ms
with_marks (Eos ∷ ms) = Eos ∷ with_marks ms
with_marks (Abort ∷ ms) = Abort ∷ with_marks ms

pub with_marks-append : (xs ys : List Message) → with_marks (xs ++ ys) ≡ with_marks xs ++ with_marks ys
with_marks-append [] ys = refl
with_marks-append (Item x ∷ xs) ys = ap (λ l. Item x ∷ Mark ∷ l) (with_marks-append xs ys)
with_marks-append (Mark ∷ xs) ys = ap (λ l. Mark ∷ l) (with_marks-append xs ys)
with_marks-append (Pick w ∷ xs) ys = ap (λ l. Pick w ∷ l) (with_marks-append xs ys)
with_marks-append (Eos ∷ xs) ys = ap (λ l. Eos ∷ l) (with_marks-append xs ys)
with_marks-append (Abort ∷ xs) ys = ap (λ l. Abort ∷ l) (with_marks-append xs ys)

-- without Aborts
pub with_marks-unaborted : (ms : List Message) → with_marks (unaborted ms) ≡ unaborted (with_marks ms)
with_marks-unaborted [] = refl
with_marks-unaborted (Item x ∷ ms) = ap (λ l. Item x ∷ Mark ∷ l) (with_marks-unaborted ms)
with_marks-unaborted (Mark ∷ ms) = ap (λ l. Mark ∷ l) (with_marks-unaborted ms)
with_marks-unaborted (Pick w ∷ ms) = ap (λ l. Pick w ∷ l) (with_marks-unaborted ms)
with_marks-unaborted (Eos ∷ ms) = ap (λ l. Eos ∷ l) (with_marks-unaborted ms)
with_marks-unaborted (Abort ∷ ms) = with_marks-unaborted ms

-- the records stay
pub items-with_marks : (ms : List Message) → items (with_marks ms) ≡ items ms
items-with_marks [] = refl
items-with_marks (Item x ∷ ms) = ap (λ l. x ∷ l) (items-with_marks ms)
items-with_marks (Mark ∷ ms) = items-with_marks ms
items-with_marks (Pick w ∷ ms) = items-with_marks ms
items-with_marks (Eos ∷ ms) = items-with_marks ms
items-with_marks (Abort ∷ ms) = items-with_marks ms

pub IsOpen-with_marks : (ms : List Message) → IsOpen ms → IsOpen (with_marks ms)
IsOpen-with_marks [] h = tt
IsOpen-with_marks (Item x ∷ ms) h = (tt, (tt, IsOpen-with_marks ms h.1))
IsOpen-with_marks (Mark ∷ ms) h = (tt, IsOpen-with_marks ms h.1)
IsOpen-with_marks (Pick w ∷ ms) h = (tt, IsOpen-with_marks ms h.1)
IsOpen-with_marks (Eos ∷ ms) h = absurd h.0
IsOpen-with_marks (Abort ∷ ms) h = absurd h.0

pub IsOpen-unmarked : (ms : List Message) → IsOpen (with_marks ms) → IsOpen ms
IsOpen-unmarked [] h = tt
IsOpen-unmarked (Item x ∷ ms) h = (tt, IsOpen-unmarked ms h.1.1)
IsOpen-unmarked (Mark ∷ ms) h = (tt, IsOpen-unmarked ms h.1)
IsOpen-unmarked (Pick w ∷ ms) h = (tt, IsOpen-unmarked ms h.1)
IsOpen-unmarked (Eos ∷ ms) h = absurd h.0
IsOpen-unmarked (Abort ∷ ms) h = absurd h.0

-- no Abort comes in by it
pub HasAbort-with_marks : (ms : List Message) → HasAbort (with_marks ms) → HasAbort ms
HasAbort-with_marks [] h = h
HasAbort-with_marks (Item x ∷ ms) h = HasAbort-with_marks ms h
HasAbort-with_marks (Mark ∷ ms) h = HasAbort-with_marks ms h
HasAbort-with_marks (Pick w ∷ ms) h = HasAbort-with_marks ms h
HasAbort-with_marks (Eos ∷ ms) h = HasAbort-with_marks ms h
HasAbort-with_marks (Abort ∷ ms) h = tt

-- records and Marks alone
pub IsItemOrMark-with_marks : (xs : List Rec) → AllByRecursion IsItemOrMark (with_marks (carried xs))
IsItemOrMark-with_marks [] = tt
IsItemOrMark-with_marks (x ∷ xs) = (tt, (tt, IsItemOrMark-with_marks xs))

-- a Plain node's stage puts a Mark behind the sends of each record
pub replaced-with_marks : {N : Type 0} (b : Behaviour N) (o : N) (xs : List Rec)
    → flat_map (replaced b o) (with_marks (carried xs)) ≡ flat_map (λ x. carried (b.sends (b.opening o) x) ++ Mark ∷ []) xs
replaced-with_marks b o [] = refl
replaced-with_marks b o (x ∷ xs) =
    ap (λ l. carried (b.sends (b.opening o) x) ++ (Mark ∷ l)) (replaced-with_marks b o xs)
    ∙ sym (append_assoc (carried (b.sends (b.opening o) x)) (Mark ∷ []) (flat_map (λ x. carried (b.sends (b.opening o) x) ++ Mark ∷ []) xs))

-- what was closed is closed without its Marks
pub record IsUnmarked (ms whole : List Message) : Type 0 where
  pub inner : List Message
  pub is : ms ≡ closed inner
  pub marked : whole ≡ with_marks inner

-- a message in front of both
IsUnmarked-front : (m : Message) (ms whole : List Message) → with_marks (m ∷ []) ≡ m ∷ [] → IsUnmarked ms whole → IsUnmarked (m ∷ ms) (m ∷ whole)
IsUnmarked-front m ms whole plain u = record {
  inner = m ∷ u.inner;
  is = ap (λ l. m ∷ l) u.is;
  marked = ap (λ l. m ∷ l) u.marked ∙ ap (λ l. l ++ with_marks u.inner) (sym plain) ∙ sym (with_marks-append (m ∷ []) u.inner);
}

-- a message that isn't a record stands in front of a closed list, too
closed-front : (m : Message) (ms whole : List Message) → with_marks (m ∷ []) ≡ m ∷ [] → (m ≡ Eos → ⊥)
    → ((rest : List Message) → with_marks ms ≡ closed rest → IsUnmarked ms rest) → m ∷ with_marks ms ≡ closed whole → IsUnmarked (m ∷ ms) whole
closed-front m ms [] plain other inner e = absurd (other (ap (λ l. get_or l 0 m) e))
closed-front m ms (a ∷ whole) plain other inner e =
    subst (λ z. IsUnmarked (m ∷ ms) (z ∷ whole)) (ap (λ l. get_or l 0 m) e) (IsUnmarked-front m ms whole plain (inner whole (ap (drop 1) e)))

-- an Eos is the last message, or stands in front
eos-front : (ms whole : List Message) → ((rest : List Message) → with_marks ms ≡ closed rest → IsUnmarked ms rest)
    → Eos ∷ with_marks ms ≡ closed whole → IsUnmarked (Eos ∷ ms) whole
eos-front [] [] inner e = record { inner = []; is = refl; marked = refl }
eos-front (m ∷ ms) [] inner e = absurd (omega (arith, ap length e, with_marks-length m ms))
  where
    with_marks-length : (m : Message) (ms : List Message) → 0 < length (with_marks (m ∷ ms))
    with_marks-length (Item x) ms = omega arith
    with_marks-length Mark ms = omega arith
    with_marks-length (Pick w) ms = omega arith
    with_marks-length Eos ms = omega arith
    with_marks-length Abort ms = omega arith
eos-front ms (a ∷ whole) inner e =
    subst (λ z. IsUnmarked (Eos ∷ ms) (z ∷ whole)) (ap (λ l. get_or l 0 Eos) e) (IsUnmarked-front Eos ms whole refl (inner whole (ap (drop 1) e)))

-- a record has its Mark behind it
item-front : (x : Rec) (ms whole : List Message) → ((rest : List Message) → with_marks ms ≡ closed rest → IsUnmarked ms rest)
    → Item x ∷ Mark ∷ with_marks ms ≡ closed whole → IsUnmarked (Item x ∷ ms) whole
item-front x ms [] inner e = absurd (omega (arith, ap length e))
item-front x ms (a ∷ []) inner e = let last : Mark ≡ Eos = ap (λ l. get_or l 1 Mark) e in absurd (cc)
item-front x ms (a ∷ c ∷ whole) inner e =
    let u = inner whole (ap (drop 2) e) in
    let first : Item x ≡ a = ap (λ l. get_or l 0 a) e in
    let second : Mark ≡ c = ap (λ l. get_or l 1 c) e in
    record {
      inner = Item x ∷ u.inner;
      is = ap (λ l. Item x ∷ l) u.is;
      marked = ap (λ z. z ∷ c ∷ whole) (sym first) ∙ ap (λ z. Item x ∷ z ∷ whole) (sym second) ∙ ap (λ l. Item x ∷ Mark ∷ l) u.marked;
    }

pub with_marks-closed : (ms whole : List Message) → with_marks ms ≡ closed whole → IsUnmarked ms whole
with_marks-closed [] whole e = absurd (omega (arith, ap length e, length-append whole (Eos ∷ [])))
with_marks-closed (Item x ∷ ms) whole e = item-front x ms whole (λ rest f. with_marks-closed ms rest f) e
with_marks-closed (Mark ∷ ms) whole e = closed-front Mark ms whole refl (λ same. cc) (λ rest f. with_marks-closed ms rest f) e
with_marks-closed (Pick w ∷ ms) whole e = closed-front (Pick w) ms whole refl (λ same. cc) (λ rest f. with_marks-closed ms rest f) e
with_marks-closed (Eos ∷ ms) whole e = eos-front ms whole (λ rest f. with_marks-closed ms rest f) e
with_marks-closed (Abort ∷ ms) whole e = closed-front Abort ms whole refl (λ same. cc) (λ rest f. with_marks-closed ms rest f) e
