-- The ends of fresh rings, by the numbers of their edges.
use Rattle.std.proofs.Common.{◌≡◌, ◌+◌, ◌<◌, ℕ, zero, suc, Option, None, Some, List, [], ◌∷◌, length, map, replicate, refl, sym, ap, ap₂, ◌∙◌, subst, arith}
use Rattle.std.specs.List.{AllByRecursion, AllZip}
use Rattle.std.specs.Prelude.{slice_index}
use Rattle.std.proofs.lemmas.Option.{none-some, same_Some}
use Rattle.ff_rec.specs.Lines.{Rec}
use Rattle.ff_rec.specs.Weights.{Same}
use Rattle.ff_plan.specs.Rows.{Row, range}
use Rattle.ff_plan.specs.declared.layout.Edge.{Edge}
use Rattle.ff_steps.proofs.Heads.{head-same, tail-same, cons≢nil}
use Rattle.ff_unit.specs.Units.{Doing}
use Rattle.ff_ring.specs.Ends.{got_of, put_of, room_of, read_ring, written_ring, IsMade}
use Rattle.ff_ring.specs.Names.{RingName}
use Rattle.ff_ring.specs.declared.ring_in.RingIn.{RingIn}
use Rattle.ff_ring.specs.declared.ring_out.RingOut.{RingOut}
use Rattle.ff_engine.specs.Boards.{AreFresh, AreNamed, IsFreshPair, IsFreshRing, IsRingOf}
use Rattle.ff_engine.specs.Jobs.{JobState, IsFresh, IsOpened, RingSize}
use Rattle.ff_engine.specs.RingSizes.{size_of, size_for}
use Rattle.ff_engine.specs.declared.delivery.Delivery.{Delivery}
use Rattle.ff_engine.specs.Slots.{slot, EachKept, Holds, emptied, taken_out}
use Rattle.ff_engine.proofs.SlotLaws.{AllZip-taken_out, EachKept-emptied, Holds-once}
use Rattle.ff_engine.proofs.Wired.{below-wired, once-wired}

-- both ends of the ring of an edge
pub record HasBoth (e : ℕ) (ins : List (Option (RingIn Rec))) (outs : List (Option (RingOut Rec))) : Type 0 where
  pub inn : RingIn Rec
  pub out : RingOut Rec
  pub in_is : slot ins e ≡ Some inn
  pub out_is : slot outs e ≡ Some out
  pub fresh : IsFreshRing inn out

both : (e : ℕ) (ins : List (Option (RingIn Rec))) (outs : List (Option (RingOut Rec))) → AllZip IsFreshPair ins outs → e < length ins → HasBoth e ins outs
both e [] outs all within = absurd (omega (arith, within))
both e (i ∷ ins) [] all within = absurd all
both zero (Some i ∷ ins) (Some o ∷ outs) all within = record { inn = i; out = o; in_is = refl; out_is = refl; fresh = all.0 }
both zero (Some i ∷ ins) (None ∷ outs) all within = absurd all.0
both zero (None ∷ ins) (o ∷ outs) all within = absurd all.0
both (suc e) (i ∷ ins) (o ∷ outs) all within =
    let rest = both e ins outs all.1 (omega (arith, within)) in
    record { inn = rest.inn; out = rest.out; in_is = rest.in_is; out_is = rest.out_is; fresh = rest.fresh }

pub length-both : (ins : List (Option (RingIn Rec))) (outs : List (Option (RingOut Rec))) → AllZip IsFreshPair ins outs → length outs ≡ length ins
length-both [] [] all = refl
length-both [] (o ∷ outs) all = absurd all
length-both (i ∷ ins) [] all = absurd all
length-both (i ∷ ins) (o ∷ outs) all = ap suc (length-both ins outs all.1)

-- the ends that are kept are among them
pub record OfIn (e : ℕ) (i : RingIn Rec) (outs : List (Option (RingOut Rec))) : Type 0 where
  pub out : RingOut Rec
  pub out_is : slot outs e ≡ Some out
  pub fresh : IsFreshRing i out

of_in : (e : ℕ) (i : RingIn Rec) (ins : List (Option (RingIn Rec))) (outs : List (Option (RingOut Rec))) → AllZip IsFreshPair ins outs → slot ins e ≡ Some i → OfIn e i outs
of_in e i [] outs all is_there = absurd (none-some i is_there)
of_in e i (j ∷ ins) [] all is_there = absurd all
of_in zero i (Some j ∷ ins) (Some o ∷ outs) all is_there =
    record { out = o; out_is = refl; fresh = subst (λ k. IsFreshRing k o) (same_Some j i is_there) all.0 }
of_in zero i (Some j ∷ ins) (None ∷ outs) all is_there = absurd all.0
of_in zero i (None ∷ ins) (o ∷ outs) all is_there = absurd all.0
of_in (suc e) i (j ∷ ins) (o ∷ outs) all is_there =
    let rest = of_in e i ins outs all.1 is_there in record { out = rest.out; out_is = rest.out_is; fresh = rest.fresh }

pub record OfOut (o : RingOut Rec) : Type 0 where
  pub put : put_of o ≡ []
  pub room : 0 < room_of o

of_out : (e : ℕ) (o : RingOut Rec) (ins : List (Option (RingIn Rec))) (outs : List (Option (RingOut Rec))) → AllZip IsFreshPair ins outs → slot outs e ≡ Some o → OfOut o
of_out e o ins [] all is_there = absurd (none-some o is_there)
of_out e o [] (p ∷ outs) all is_there = absurd all
of_out zero o (Some j ∷ ins) (Some p ∷ outs) all is_there =
    subst (λ k. OfOut k) (same_Some p o is_there) (record { put = all.0.put; room = all.0.room })
of_out zero o (Some j ∷ ins) (None ∷ outs) all is_there = absurd all.0
of_out zero o (None ∷ ins) (p ∷ outs) all is_there = absurd all.0
of_out (suc e) o (j ∷ ins) (p ∷ outs) all is_there = of_out e o ins outs all.1 is_there

abbrev pub ring_or : RingName → Option (RingOut Rec) → RingName
ring_or d None = d
ring_or d (Some o) = written_ring o

module _ (ins : List (Option (RingIn Rec))) (outs : List (Option (RingOut Rec))) (all : AllZip IsFreshPair ins outs) where
  pub AreFresh-rings : AreFresh ins outs
  AreFresh-rings = record {
    got = λ e i is_there. (of_in e i ins outs all is_there).fresh.got;
    put = λ e o is_there. (of_out e o ins outs all is_there).put;
    room = λ e o is_there. (of_out e o ins outs all is_there).room;
  }

  -- the name of the ring of each edge, and another one where there is none
  abbrev pub name_in : RingName → ℕ → RingName
  name_in d e = ring_or d (slot outs e)

  pub AreNamed-rings : (d : RingName) → AreNamed (name_in d) ins outs
  AreNamed-rings d = record {
    reads = λ e i is_there. (let o = of_in e i ins outs all is_there in o.fresh.pair ∙ sym (named e o.out o.out_is));
    writes = λ e o is_there. sym (named e o is_there);
  }
    where
      named : (e : ℕ) (o : RingOut Rec) → slot outs e ≡ Some o → name_in d e ≡ written_ring o
      named e o is_there = subst (λ s. ring_or d s ≡ written_ring o) (sym is_there) refl

  -- each edge of a plan has its ends
  module _ (ks : List ℕ) (n : ℕ) (once : Same ks (range 0 n)) (many : length ins ≡ n) where
    pub Holds-ins : Holds ks ins
    Holds-ins = Holds-once ks ins (once-wired ks n once) (λ e some. (let h = both e ins outs all (omega (arith, many, below-wired ks n once e some)) in (h.inn, h.in_is)))

    pub Holds-outs : Holds ks outs
    Holds-outs = Holds-once ks outs (once-wired ks n once) (λ e some. (let h = both e ins outs all (omega (arith, many, below-wired ks n once e some)) in (h.out, h.out_is)))

-- ends that were taken out leave others that are so
module _ (ins : List (Option (RingIn Rec))) (outs : List (Option (RingOut Rec))) where
  pub AreFresh-emptied : (ks js : List ℕ) → AreFresh ins outs → AreFresh (emptied ks ins) (emptied js outs)
  AreFresh-emptied ks js fresh = record {
    got = EachKept-emptied (λ e i. got_of i ≡ []) ks ins fresh.got;
    put = EachKept-emptied (λ e o. put_of o ≡ []) js outs fresh.put;
    room = EachKept-emptied (λ e o. 0 < room_of o) js outs fresh.room;
  }

  pub AreNamed-emptied : (name : ℕ → RingName) (ks js : List ℕ) → AreNamed name ins outs → AreNamed name (emptied ks ins) (emptied js outs)
  AreNamed-emptied name ks js named = record {
    reads = EachKept-emptied (λ e i. read_ring i ≡ name e) ks ins named.reads;
    writes = EachKept-emptied (λ e o. written_ring o ≡ name e) js outs named.writes;
  }

-- the rings of edges are as long as these
pub sizes-rings : (delivery : Delivery) (rows : List Row) (edges : List Edge) (outs : List (Option (RingOut Rec))) → AllZip (IsRingOf delivery rows) edges outs
    → (size : ℕ → RingSize) (k : ℕ) → map (λ (edge : Edge). size_for edge.cap) edges ≡ map size (range k (length edges))
    → (e : ℕ) (o : RingOut Rec) → slot outs e ≡ Some o → size_of o ≡ size (k + e)
sizes-rings delivery rows [] [] all size k are e o is = absurd (none-some o is)
sizes-rings delivery rows [] (s ∷ outs) all size k are e o is = absurd all
sizes-rings delivery rows (edge ∷ edges) [] all size k are e o is = absurd all
sizes-rings delivery rows (edge ∷ edges) (None ∷ outs) all size k are e o is = absurd all.0
sizes-rings delivery rows (edge ∷ edges) (Some out ∷ outs) all size k are zero o is =
    let made : IsMade edge.cap out = all.0.0 in
    let same : size_of out ≡ size_for edge.cap = ap₂ (λ bundle slots. record { bundle = bundle; slots = slots }) made.size made.count in
    let first : k ≡ k + 0 = omega arith in
    ap size_of (sym (same_Some out o is)) ∙ same ∙ head-same are ∙ ap size first
sizes-rings delivery rows (edge ∷ edges) (Some out ∷ outs) all size k are (suc e) o is =
    let next : suc k + e ≡ k + suc e = omega arith in
    sizes-rings delivery rows edges outs all.1 size (suc k) (tail-same are) e o is ∙ ap size next

-- what is so of each end, by the number of its edge, is so of their lists
pub map-ends : {A B : Type 0} (f : A → B) (name : ℕ → B) (ks : List ℕ) (xs : List A) → AllZip (λ e x. f x ≡ name e) ks xs → map f xs ≡ map name ks
map-ends f name [] [] all = refl
map-ends f name [] (x ∷ xs) all = absurd all
map-ends f name (k ∷ ks) [] all = absurd all
map-ends f name (k ∷ ks) (x ∷ xs) all = ap₂ (λ y ys. y ∷ ys) all.0 (map-ends f name ks xs all.1)

pub map-replicate : {A : Type 0} (a : A) (ks : List ℕ) → map (λ e. a) ks ≡ replicate (length ks) a
map-replicate a [] = refl
map-replicate a (k ∷ ks) = ap (λ l. a ∷ l) (map-replicate a ks)

pub rooms-at : {A : Type 0} (room : A → ℕ) (ks : List ℕ) (xs : List A) → AllZip (λ e x. 0 < room x) ks xs → (k : ℕ) → k < length ks → 0 < slice_index (map room xs) k
rooms-at room [] xs all k within = absurd (omega (arith, within))
rooms-at room (e ∷ ks) [] all k within = absurd all
rooms-at room (e ∷ ks) (x ∷ xs) all zero within = all.0
rooms-at room (e ∷ ks) (x ∷ xs) all (suc k) within = rooms-at room ks xs all.1 k (omega (arith, within))

-- the ends of a job, as they were taken out
module _ (ks : List ℕ) where
  module _ (ins : List (Option (RingIn Rec))) (xs : List (RingIn Rec)) (are : map (λ x. Some x) xs ≡ taken_out ks ins) where
    pub gots-taken : EachKept (λ e i. got_of i ≡ []) ins → map (λ i. got_of i) xs ≡ replicate (length ks) []
    gots-taken fresh =
        map-ends (λ i. got_of i) (λ e. []) ks xs (AllZip-taken_out (λ e i. got_of i ≡ []) ks ins xs fresh are) ∙ map-replicate [] ks

    pub reads-taken : (name : ℕ → RingName) → EachKept (λ e i. read_ring i ≡ name e) ins → map (λ i. read_ring i) xs ≡ map name ks
    reads-taken name named = map-ends (λ i. read_ring i) name ks xs (AllZip-taken_out (λ e i. read_ring i ≡ name e) ks ins xs named are)

  module _ (outs : List (Option (RingOut Rec))) (xs : List (RingOut Rec)) (are : map (λ x. Some x) xs ≡ taken_out ks outs) where
    pub puts-taken : EachKept (λ e o. put_of o ≡ []) outs → map (λ o. put_of o) xs ≡ replicate (length ks) []
    puts-taken fresh =
        map-ends (λ o. put_of o) (λ e. []) ks xs (AllZip-taken_out (λ e o. put_of o ≡ []) ks outs xs fresh are) ∙ map-replicate [] ks

    pub writes-taken : (name : ℕ → RingName) → EachKept (λ e o. written_ring o ≡ name e) outs → map (λ o. written_ring o) xs ≡ map name ks
    writes-taken name named = map-ends (λ o. written_ring o) name ks xs (AllZip-taken_out (λ e o. written_ring o ≡ name e) ks outs xs named are)

    pub sizes-taken : (size : ℕ → RingSize) → EachKept (λ e o. size_of o ≡ size e) outs → map (λ o. size_of o) xs ≡ map size ks
    sizes-taken size sized = map-ends (λ o. size_of o) size ks xs (AllZip-taken_out (λ e o. size_of o ≡ size e) ks outs xs sized are)

    pub rooms-taken : EachKept (λ e o. 0 < room_of o) outs → (k : ℕ) → k < length ks → 0 < slice_index (map (λ o. room_of o) xs) k
    rooms-taken roomy = rooms-at (λ o. room_of o) ks xs (AllZip-taken_out (λ e o. 0 < room_of o) ks outs xs roomy are)

-- a job of an opened unit made no step
pub IsFresh-made : {U : Type 0} (d : Doing U) (row : Row) (u : U) (job : JobState U) (rooms : List ℕ) (sizes : List RingSize) (reads writes : List RingName) → IsOpened d row u
    → job ≡ record { unit = u; row = row; gots = replicate (length row.ins) []; puts = replicate (length row.outs) []; rooms = rooms; sizes = sizes; reads = reads; writes = writes }
    → ((k : ℕ) → k < length row.outs → 0 < slice_index rooms k) → IsFresh d job
IsFresh-made d row u job rooms sizes reads writes opened is roomy = subst (λ j. IsFresh d j) (sym is) (record {
  made = opened.made;
  opened = opened.opened;
  gots = ap (λ n. replicate n []) (sym opened.ins);
  puts = ap (λ n. replicate n []) (sym opened.outs);
  room = λ k within. roomy k (omega (arith, within, opened.outs));
})

-- ends at which nothing was taken
pub AllEmpty-got : {A B : Type 0} (f : A → List B) (xs : List A) (n : ℕ) → map f xs ≡ replicate n [] → AllByRecursion (λ x. f x ≡ []) xs
AllEmpty-got f [] n are = tt
AllEmpty-got f (x ∷ xs) zero are = absurd (cons≢nil are)
AllEmpty-got f (x ∷ xs) (suc n) are = (head-same are, AllEmpty-got f xs n (tail-same are))
