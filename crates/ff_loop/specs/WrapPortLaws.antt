-- What lists at the ports of a wrap's master go on to, and whether they have ended.
use Rattle.std.specs.Prelude.{◌≡◌, ◌⊎◌, ◌+◌, ◌<◌, ◌≤◌, ℕ, zero, suc, Bool, true, false, List, [], ◌∷◌, ◌++◌, length, drop}
use Rattle.std.specs.List.{AllByRecursion}
use Rattle.std.proofs.Common.{refl, sym, ap, ap₂, ◌∙◌, subst, get_or, arith, append-nil, append_assoc, inl, inr}
use Rattle.std.proofs.lemmas.Bool.{cases_lt}
use Rattle.std.proofs.lemmas.List.{map-append, append_cancel_right}
use Rattle.ff_rec.specs.Lines.{Rec}
use Rattle.ff_rec.specs.Streams.{IsOpen, IsOpenMsg, GoesOn, at, carried, closed, items, unaborted}
use Rattle.ff_rec.specs.declared.msg.Msg.TheVariants.{Item, Mark, Pick, Eos, Abort}
use Rattle.ff_net.specs.Logs.{Event, HasEos, BeginsWhole, got_from}
use Rattle.ff_node.specs.Fits.{IsItemOrMark, grouped}
use Rattle.ff_node.specs.Runs.{Message, AllGoOn}
use Rattle.ff_unit.specs.CarriedLaws.{items-carried, closed-behind, BeginsCarried-front}
use Rattle.ff_unit.specs.Deals.{on_outs}
use Rattle.ff_unit.specs.DealPairLaws.{Pair, on, on-append, on-on_outs-before, on-on_outs-behind, AllByRecursion-front}
use Rattle.ff_unit.specs.MessageLaws.{IsOpen-carried, unaborted-append, unaborted-open, unaborted-closed}
use Rattle.ff_loop.specs.WrapTiedLaws.{AnswersWhole, AnswersShut, HoldsFed, IsTold, end_by}

-- an Eos stays, and stands in no open list
pub HasEos-front : (ms ns : List Message) → HasEos ms → HasEos (ms ++ ns)
HasEos-front [] ns h = absurd h
HasEos-front (Item x ∷ ms) ns h = HasEos-front ms ns h
HasEos-front (Mark ∷ ms) ns h = HasEos-front ms ns h
HasEos-front (Pick w ∷ ms) ns h = HasEos-front ms ns h
HasEos-front (Eos ∷ ms) ns h = tt
HasEos-front (Abort ∷ ms) ns h = HasEos-front ms ns h

pub HasEos-closed : (ms : List Message) → HasEos (closed ms)
HasEos-closed [] = tt
HasEos-closed (Item x ∷ ms) = HasEos-closed ms
HasEos-closed (Mark ∷ ms) = HasEos-closed ms
HasEos-closed (Pick w ∷ ms) = HasEos-closed ms
HasEos-closed (Eos ∷ ms) = tt
HasEos-closed (Abort ∷ ms) = HasEos-closed ms

pub HasEos-open : (ms : List Message) → IsOpen ms → HasEos ms → ⊥
HasEos-open [] inner h = h
HasEos-open (Item x ∷ ms) inner h = HasEos-open ms inner.1 h
HasEos-open (Mark ∷ ms) inner h = HasEos-open ms inner.1 h
HasEos-open (Pick w ∷ ms) inner h = HasEos-open ms inner.1 h
HasEos-open (Eos ∷ ms) inner h = inner.0
HasEos-open (Abort ∷ ms) inner h = inner.0

-- what was put begins what was put and is held
pub HasEos-put : (j : ℕ) (ps held : List Pair) → HasEos (on j ps) → HasEos (on j (ps ++ held))
HasEos-put j ps held h = subst HasEos (sym (on-append j ps held)) (HasEos-front (on j ps) (on j held) h)

pub BeginsWhole-put : (j : ℕ) (ps held : List Pair) (xs : List Rec) → BeginsWhole (unaborted (on j (ps ++ held))) xs → BeginsWhole (unaborted (on j ps)) xs
BeginsWhole-put j ps held xs b = record {
  more = unaborted (on j held) ++ b.more;
  is = b.is
      ∙ ap (λ l. l ++ b.more) (ap unaborted (on-append j ps held) ∙ unaborted-append (on j ps) (on j held))
      ∙ append_assoc (unaborted (on j ps)) (unaborted (on j held)) b.more;
}

-- the first of some records, or all of them with their Eos
pub BeginsWhole-carried : (ms : List Message) (xs ys all : List Rec) → ms ≡ carried xs → xs ++ ys ≡ all → BeginsWhole (unaborted ms) all
BeginsWhole-carried ms xs ys all is whole = record {
  more = closed (carried ys);
  is = ap (λ l. closed (carried l)) (sym whole)
      ∙ ap closed (map-append (λ x. Item x) xs ys)
      ∙ append_assoc (carried xs) (carried ys) (Eos ∷ [])
      ∙ ap (λ l. l ++ closed (carried ys)) (sym (ap unaborted is ∙ unaborted-open (carried xs) (IsOpen-carried xs)));
}

pub BeginsWhole-ended : (live : Bool) (ms : List Message) (xs : List Rec) → ms ≡ carried xs ++ end_by live → BeginsWhole (unaborted ms) xs
BeginsWhole-ended true ms xs is = BeginsWhole-carried ms xs [] xs (is ∙ append-nil (carried xs)) (append-nil xs)
BeginsWhole-ended false ms xs is = record {
  more = [];
  is = sym (append-nil (unaborted ms) ∙ ap unaborted is ∙ unaborted-closed (carried xs) (IsOpen-carried xs));
}

-- an open list begins what it goes on to
open-front : (front whole more : List Message) → IsOpen front → closed whole ≡ front ++ more → (rest : List Message) × (whole ≡ front ++ rest)
open-front [] whole more inner e = (whole, refl)
open-front (m ∷ front) [] more inner e = absurd (subst IsOpenMsg (sym (ap (λ l. get_or l 0 m) e)) inner.0)
open-front (m ∷ front) (w ∷ whole) more inner e =
    let rest = open-front front whole more inner.1 (ap (drop 1) e) in
    (rest.0, ap₂ (λ a l. a ∷ l) (ap (λ l. get_or l 0 m) e) rest.1)

pub GoesOn-open : (front e ms whole : List Message) → IsOpen front → ms ≡ front ++ e → GoesOn (unaborted ms) whole → (rest : List Message) × (whole ≡ front ++ rest)
GoesOn-open front e ms whole inner is goes =
    open-front front whole (unaborted e ++ goes.more) inner
    (goes.is
    ∙ ap (λ l. l ++ goes.more) (ap unaborted is ∙ unaborted-append front e ∙ ap (λ l. l ++ unaborted e) (unaborted-open front inner))
    ∙ append_assoc front (unaborted e) goes.more)

-- and one that has ended is all of it
pub GoesOn-ended : (front ms whole : List Message) → IsOpen front → ms ≡ closed front → GoesOn (unaborted ms) whole → whole ≡ front
GoesOn-ended front ms whole inner is goes =
    let e : closed whole ≡ closed front ++ goes.more = goes.is ∙ ap (λ l. l ++ goes.more) (ap unaborted is ∙ unaborted-closed front inner) in
    append_cancel_right whole front (Eos ∷ []) (e ∙ ap (λ l. closed front ++ l) (closed-behind whole front goes.more goes.inner e) ∙ append-nil (closed front))

-- what was fed in, where in 0 carries records alone
pub HoldsFed-ended : (ms : List Message) (xs records : List Rec) → HoldsFed false ms xs → GoesOn (unaborted ms) (carried records) → ms ≡ closed (carried xs)
HoldsFed-ended ms xs records h goes =
    let all : carried records ≡ h.0 = GoesOn-ended h.0 ms (carried records) h.2 h.1 goes in
    let same : records ≡ xs = sym (items-carried records) ∙ ap items all ∙ h.3 in
    h.1 ∙ ap closed (sym all ∙ ap (λ l. carried l) same)

-- and nothing else came but Eos
pub HoldsFed-open : (ms : List Message) (xs records : List Rec) → HoldsFed true ms xs → GoesOn (unaborted ms) (carried records) → unaborted ms ≡ carried xs
HoldsFed-open ms xs records h goes =
    let rest = GoesOn-open ms [] ms (carried records) h.0 (sym (append-nil ms)) goes in
    let b = BeginsCarried-front ms rest.0 records rest.1 in
    let same : b.front ≡ xs = sym (items-carried b.front) ∙ ap items (sym b.is) ∙ h.1 in
    unaborted-open ms h.0 ∙ b.is ∙ ap (λ l. carried l) same

pub HoldsFed-only : (live : Bool) (ms : List Message) (xs records : List Rec) → HoldsFed live ms xs → GoesOn (unaborted ms) (carried records)
    → (unaborted ms ≡ carried xs) ⊎ (unaborted ms ≡ closed (carried xs))
HoldsFed-only true ms xs records h goes = inl (HoldsFed-open ms xs records h goes)
HoldsFed-only false ms xs records h goes = inr (ap unaborted (HoldsFed-ended ms xs records h goes) ∙ unaborted-closed (carried xs) (IsOpen-carried xs))

pub HoldsFed-begins : (live : Bool) (ms : List Message) (xs records : List Rec) → HoldsFed live ms xs → GoesOn (unaborted ms) (carried records)
    → (more : List Message) × (unaborted ms ≡ carried xs ++ more)
HoldsFed-begins true ms xs records h goes = ([], HoldsFed-open ms xs records h goes ∙ sym (append-nil (carried xs)))
HoldsFed-begins false ms xs records h goes =
    (Eos ∷ [], ap unaborted (HoldsFed-ended ms xs records h goes) ∙ unaborted-closed (carried xs) (IsOpen-carried xs))

-- what was taken at the in of a worker, where it goes on to records and Marks
pub AnswersWhole-begins : (log : List Event) (j : ℕ) (part : List Rec) (ms whole : List Message) → AnswersWhole log j part ms → AllByRecursion IsItemOrMark whole
    → GoesOn (unaborted ms) whole → (more : List Message) × (unaborted ms ≡ grouped (got_from j log) ++ more)
AnswersWhole-begins log j part ms whole a all goes =
    let rest = GoesOn-open ms [] ms whole a.inner (sym (append-nil ms)) goes in
    (carried part, unaborted-open ms a.inner ∙ a.answers (AllByRecursion-front IsItemOrMark ms rest.0 (subst (AllByRecursion IsItemOrMark) rest.1 all)))

pub AnswersShut-begins : (log : List Event) (j : ℕ) (live : Bool) (ms whole : List Message) → AnswersShut log j live ms → AllByRecursion IsItemOrMark whole
    → GoesOn (unaborted ms) whole → (more : List Message) × (unaborted ms ≡ grouped (got_from j log) ++ more)
AnswersShut-begins log j live ms whole a all goes =
    let rest = GoesOn-open a.front (end_by live) ms whole a.inner a.is goes in
    let front = a.answers (AllByRecursion-front IsItemOrMark a.front rest.0 (subst (AllByRecursion IsItemOrMark) rest.1 all)) in
    let behind = unaborted (end_by live) in (
      front.0 ++ behind,
      ap unaborted a.is
          ∙ unaborted-append a.front (end_by live)
          ∙ ap (λ ms. ms ++ behind) (unaborted-open a.front a.inner ∙ front.1)
          ∙ append_assoc (grouped (got_from j log)) front.0 behind,
    )

-- an out on which an end stands isn't to be told
pub IsTold-other : (m : Message) (n : ℕ) (held ps : List Pair) → IsTold m n held ps → (j : ℕ) → (IsOpen (on j ps) → ⊥) → on j held ≡ []
IsTold-other m n held ps t j ended = ap (on j) t.are ∙ by (cases_lt j t.next) (cases_lt j (t.next + t.left))
  where
    by : (j < t.next) ⊎ (t.next ≤ j) → (j < t.next + t.left) ⊎ (t.next + t.left ≤ j) → on j (on_outs t.next t.left m) ≡ []
    by (inl before) e = on-on_outs-before j t.next t.left m before
    by (inr from) (inr behind) = on-on_outs-behind j t.next t.left m behind
    by (inr from) (inl below) = absurd (ended (t.inner j from below))

-- at each port
pub AllGoOn-at : (gots ins : List (List Message)) (k : ℕ) → k < length gots → AllGoOn gots ins → GoesOn (unaborted (at gots k)) (at ins k)
AllGoOn-at [] ins k below h = absurd (omega (arith, below))
AllGoOn-at (g ∷ gots) [] k below h = absurd h
AllGoOn-at (g ∷ gots) (ms ∷ ins) zero below h = h.0
AllGoOn-at (g ∷ gots) (ms ∷ ins) (suc k) below h = AllGoOn-at gots ins k (omega (arith, below)) h.1
