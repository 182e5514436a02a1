-- Laws of what lists of messages carry, and of the beginnings of such lists.
use Rattle.std.proofs.Common.{◌≡◌, List, [], ◌∷◌, ◌++◌, length, drop, get_or, refl, sym, ap, ap₂, ◌∙◌, subst, arith, length-append, append-nil, append_assoc}
use Rattle.std.proofs.lemmas.List.{nil_from_length}
use Rattle.ff_rec.specs.Lines.{Rec}
use Rattle.ff_rec.specs.Streams.{IsOpen, IsOpenMsg, items, carried, unaborted, closed}
use Rattle.ff_rec.specs.declared.msg.Msg.{Msg}
use Rattle.ff_rec.specs.declared.msg.Msg.TheVariants.{Item, Mark, Pick, Eos, Abort}
use Rattle.ff_node.specs.Runs.{Message}
use Rattle.ff_unit.specs.MessageLaws.{items-append, before_last, IsOpen-carried}

pub items-carried : {T : Type 0} (xs : List T) → items (carried xs) ≡ xs
items-carried [] = refl
items-carried (x ∷ xs) = ap (λ l. x ∷ l) (items-carried xs)

pub items-unaborted : {T : Type 0} (ms : List (Msg T)) → items (unaborted ms) ≡ items ms
items-unaborted [] = refl
items-unaborted (Item x ∷ ms) = ap (λ l. x ∷ l) (items-unaborted ms)
items-unaborted (Mark ∷ ms) = items-unaborted ms
items-unaborted (Pick w ∷ ms) = items-unaborted ms
items-unaborted (Eos ∷ ms) = items-unaborted ms
items-unaborted (Abort ∷ ms) = items-unaborted ms

pub items-closed : {T : Type 0} (ms : List (Msg T)) → items (closed ms) ≡ items ms
items-closed ms = items-append ms (Eos ∷ []) ∙ append-nil (items ms)

-- nothing stands behind the Eos of a whole list
pub closed-behind : {T : Type 0} (ms inner more : List (Msg T)) → IsOpen ms → closed ms ≡ closed inner ++ more → more ≡ []
closed-behind [] inner more is e =
    nil_from_length more (omega (arith, ap length e, length-append (closed inner) more, length-append inner (Eos ∷ [])))
closed-behind (m ∷ ms) [] more is e = absurd (subst IsOpenMsg (ap (λ l. get_or l 0 m) e) is.0)
closed-behind (m ∷ ms) (i ∷ inner) more is e = closed-behind ms inner more is.1 (ap (drop 1) e)

-- these messages carry the first of some records, and nothing else
pub record BeginsCarried (ms : List Message) (ys : List Rec) : Type 0 where
  pub front : List Rec
  pub more : List Rec
  pub is : ms ≡ carried front
  pub all : ys ≡ front ++ more

-- the front of what carries records
pub BeginsCarried-front : (ms rest : List Message) (ys : List Rec) → carried ys ≡ ms ++ rest → BeginsCarried ms ys
BeginsCarried-front [] rest ys e = record { front = []; more = ys; is = refl; all = refl }
BeginsCarried-front (m ∷ ms) rest [] e = absurd (omega (arith, ap length e))
BeginsCarried-front (m ∷ ms) rest (y ∷ ys) e =
    let tail = BeginsCarried-front ms rest ys (ap (drop 1) e) in record {
      front = y ∷ tail.front;
      more = tail.more;
      is = ap₂ (λ h l. h ∷ l) (sym (ap (λ l. get_or l 0 m) e)) tail.is;
      all = ap (λ l. y ∷ l) tail.all;
    }

-- and where one message stands behind them
pub BeginsCarried-last : (ms rest : List Message) (m : Message) (ys : List Rec) (e : Message) → ms ++ m ∷ rest ≡ carried ys ++ e ∷ [] → BeginsCarried ms ys
BeginsCarried-last ms rest m ys e is =
    let split = before_last ms rest m (carried ys) e is in BeginsCarried-front ms split.0 ys split.1

-- some records more
pub BeginsCarried-more : (ms : List Message) (ys zs : List Rec) → BeginsCarried ms ys → BeginsCarried ms (ys ++ zs)
BeginsCarried-more ms ys zs b = record { front = b.front; more = b.more ++ zs; is = b.is; all = ap (λ l. l ++ zs) b.all ∙ append_assoc b.front b.more zs }

pub BeginsCarried-open : (ms : List Message) (ys : List Rec) → BeginsCarried ms ys → IsOpen ms
BeginsCarried-open ms ys b = subst IsOpen (sym b.is) (IsOpen-carried b.front)
