-- The edges of a row, of which one has changed.
use Rattle.std.proofs.Common.{◌≡◌, ℕ, zero, suc, ◌<◌, ◌==◌, ◌||◌, Bool, true, false, List, [], ◌∷◌, length, map, Option, slice_index, slice_index_or, slice_set, refl, sym, ap, ap₂, ◌∙◌, subst, arith, get_or-set_same, get_or-set_other}
use Rattle.std.proofs.lemmas.Bool.{eq-eqb, ne_eqb}
use Rattle.std.proofs.lemmas.List.{get_or-map, length-map}
use Rattle.ff_rec.specs.Lines.{Rec}
use Rattle.ff_rec.specs.Streams.{IsOpen, at}
use Rattle.ff_node.specs.Runs.{Message}
use Rattle.ff_port.specs.Channels.{Takes, Puts}
use Rattle.ff_port.specs.Ends.{TakesAt, PutsAt, OthersStay}
use Rattle.ff_port.specs.Queues.{Queue, put_of, room_of, empty_queue}
use Rattle.ff_port.specs.declared.answers.Put.{Put as PutAnswer}
use Rattle.ff_port.proofs.Rows.{TakesAt-set, PutsAt-set, OthersStay-set, at-here}
use Rattle.ff_steps.specs.Links.{edge_at, ends_at, gots_at, puts_at, knowns_at, rooms_at, is_among}
use Rattle.ff_steps.proofs.Rests.{at-set, edge_at-read}

-- a change that `f` can't tell
pub map-ends_told : {A : Type 0} (f : Queue Rec → A) (edges : List (Queue Rec)) (es : List ℕ) (i : ℕ) (q : Queue Rec) → i < length edges → f q ≡ f (edge_at edges i)
    → map f (ends_at (slice_set edges i q) es) ≡ map f (ends_at edges es)
map-ends_told f edges [] i q within same = refl
map-ends_told f edges (e ∷ es) i q within same = ap₂ (λ x xs. x ∷ xs) (at-set f edges i e q within same) (map-ends_told f edges es i q within same)

-- a change of an edge that is none of these
pub ends_at-away : (edges : List (Queue Rec)) (es : List ℕ) (i : ℕ) (q : Queue Rec) → ((j : ℕ) → j < length es → slice_index es j ≡ i → ⊥)
    → ends_at (slice_set edges i q) es ≡ ends_at edges es
ends_at-away edges [] i q away = refl
ends_at-away edges (e ∷ es) i q away =
    ap₂ (λ x xs. x ∷ xs) (get_or-set_other edges i e q (empty_queue 0) (away 0 (omega arith))) (ends_at-away edges es i q (λ j low. away (suc j) (omega (arith, low))))

-- a change of the one at place `k`
pub ends_at-set : (edges : List (Queue Rec)) (es : List ℕ) (k : ℕ) (q : Queue Rec) → k < length es → slice_index es k < length edges
    → ((j : ℕ) → j < length es → slice_index es j ≡ slice_index es k → j ≡ k)
    → ends_at (slice_set edges (slice_index es k) q) es ≡ slice_set (ends_at edges es) k q
ends_at-set edges [] k q low within differ = absurd (omega (arith, low))
ends_at-set edges (e ∷ es) zero q low within differ =
    ap₂ (λ x xs. x ∷ xs) (get_or-set_same edges e q (empty_queue 0) within)
    (ends_at-away edges es e q (λ j j_low same. let no : suc j ≡ 0 = differ (suc j) (omega (arith, j_low)) same in omega (arith, no)))
ends_at-set edges (e ∷ es) (suc k) q low within differ =
    ap₂ (λ x xs. x ∷ xs)
    (get_or-set_other edges (slice_index es k) e q (empty_queue 0) (λ same. let no : 0 ≡ suc k = differ 0 (omega arith) same in omega (arith, no)))
    (ends_at-set edges es k q (omega (arith, low)) within (λ j j_low same. let e : suc j ≡ suc k = differ (suc j) (omega (arith, j_low)) same in omega (arith, e)))

-- whether a number is among others
pub is_among-not : (e : ℕ) (ks : List ℕ) → ((i : ℕ) → i < length ks → slice_index ks i ≡ e → ⊥) → is_among e ks ≡ false
is_among-not e [] away = refl
is_among-not e (k ∷ ks) away =
    ap₂ (λ x y. x || y) (ne_eqb e k (λ same. away 0 (omega arith) (sym same))) (is_among-not e ks (λ i low. away (suc i) (omega (arith, low))))

or-true : (x : Bool) → (x || true) ≡ true
or-true true = refl
or-true false = refl

pub is_among-index : (ks : List ℕ) (k : ℕ) → k < length ks → is_among (slice_index ks k) ks ≡ true
is_among-index [] k low = absurd (omega (arith, low))
is_among-index (e ∷ ks) zero low = ap (λ x. x || is_among e ks) (eq-eqb e e refl)
is_among-index (e ∷ ks) (suc k) low = ap (λ x. (slice_index ks k == e) || x) (is_among-index ks k (omega (arith, low))) ∙ or-true (slice_index ks k == e)

-- as many ends as edges
pub low-gots : (edges : List (Queue Rec)) (es : List ℕ) (k : ℕ) → k < length (gots_at edges es) → k < length es
low-gots edges es k low = subst (λ n. k < n) (length-map (ends_at edges es) (λ q. q.got) ∙ length-map es (λ e. edge_at edges e)) low

pub low-puts : (edges : List (Queue Rec)) (es : List ℕ) (k : ℕ) → k < length (puts_at edges es) → k < length es
low-puts edges es k low = subst (λ n. k < n) (length-map (ends_at edges es) (λ q. put_of q) ∙ length-map es (λ e. edge_at edges e)) low

-- the edge at place `k`
module _ (edges : List (Queue Rec)) (es : List ℕ) (k e : ℕ) (low : k < length es) (is : e ≡ slice_index es k) (within : e < length edges)
    (differ : (i j : ℕ) → i < length es → j < length es → slice_index es i ≡ slice_index es j → i ≡ j) (q q' : Queue Rec) (read : q ≡ slice_index_or edges e q) where
  low-ends : k < length (ends_at edges es)
  low-ends = subst (λ n. k < n) (sym (length-map es (λ x. edge_at edges x))) low

  here : q ≡ slice_index_or (ends_at edges es) k q
  here = edge_at-read edges e q within read ∙ ap (λ x. edge_at edges x) is ∙ sym (get_or-map (λ x. edge_at edges x) es k 0 q low)

  changed : ends_at (slice_set edges e q') es ≡ slice_set (ends_at edges es) k q'
  changed = ap (λ x. ends_at (slice_set edges x q') es) is
      ∙ ends_at-set edges es k q' low (subst (λ x. x < length edges) is within) (λ j j_low same. differ j k j_low low same)

  pub TakesAt-row : (answer : Option Message) → Takes q.got (length q.inside) answer q'.got (length q'.inside)
      → TakesAt k (gots_at edges es) (knowns_at edges es) answer (gots_at (slice_set edges e q') es) (knowns_at (slice_set edges e q') es)
  TakesAt-row answer takes =
      subst (λ now. TakesAt k (gots_at edges es) (knowns_at edges es) answer (map (λ x. x.got) now) (map (λ x. length x.inside) now)) (sym changed)
      (TakesAt-set (λ x. x.got) (λ x. length x.inside) (ends_at edges es) k q q' answer low-ends here takes)

  pub PutsAt-row : (m : Message) (answer : PutAnswer Rec) → Puts true (put_of q) (room_of q) m answer (put_of q') (room_of q')
      → PutsAt true k (puts_at edges es) (rooms_at edges es) m answer (puts_at (slice_set edges e q') es) (rooms_at (slice_set edges e q') es)
  PutsAt-row m answer puts =
      subst (λ now. PutsAt true k (puts_at edges es) (rooms_at edges es) m answer (map (λ x. put_of x) now) (map (λ x. room_of x) now)) (sym changed)
      (PutsAt-set (λ x. put_of x) true (λ x. room_of x) (ends_at edges es) k q q' m answer low-ends here puts)

  pub knowns-others : OthersStay k (knowns_at edges es) (knowns_at (slice_set edges e q') es)
  knowns-others = subst (λ now. OthersStay k (knowns_at edges es) (map (λ x. length x.inside) now)) (sym changed)
      (OthersStay-set (λ x. length x.inside) (ends_at edges es) k q' low-ends)

  pub rooms-others : OthersStay k (rooms_at edges es) (rooms_at (slice_set edges e q') es)
  rooms-others = subst (λ now. OthersStay k (rooms_at edges es) (map (λ x. room_of x) now)) (sym changed)
      (OthersStay-set (λ x. room_of x) (ends_at edges es) k q' low-ends)

  pub IsOpen-row : IsOpen (at (puts_at edges es) k) → IsOpen (put_of q)
  IsOpen-row inner = at-here (λ x. put_of x) (ends_at edges es) k q low-ends here inner
