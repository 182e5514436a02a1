-- What a call at one end does to the rows of all ends.
use Rattle.std.proofs.Common.{◌≡◌, ℕ, ◌+◌, ◌<◌, rules, ◌↔◌, Bool, true, false, IsTrue, List, [], ◌∷◌, ◌++◌, length, take, map, set, get_or, refl, sym, ◌∙◌, ap, subst, arith, Option, None, Some, length-append, option_to_list}
use Rattle.std.proofs.lemmas.List.{map-set, take-set, get_or-set_same, get_or-map, length-map, length-set}
use Rattle.std.proofs.Math.Seq.{map-set_same}
use Rattle.std.proofs.lemmas.List.Sums.{sum_by-cons, sum_by-set, sum_by_more}
use Rattle.std.specs.List.{sum_by}
use Rattle.ff_rec.specs.Streams.{IsOpen}
use Rattle.ff_rec.specs.declared.msg.Msg.{Msg}
use Rattle.ff_port.specs.declared.answers.Put.{Put as PutAnswer}
use Rattle.ff_port.specs.declared.answers.Put.TheVariants.{Done, Full, NoMemory}
use Rattle.ff_port.specs.Channels.{Takes, Puts}
use Rattle.ff_port.specs.Ends.{at, added, OthersStay, TakesAt, PutsAt}
use Rattle.ff_port.specs.Owned.{AllEmpty, count_of}

-- what f tells of the new element
get_or-map_set : {E A : Type 0} (f : E → A) (es : List E) (k : ℕ) (e : E) (d : A) → k < length es → get_or (map f (set es k e)) k d ≡ f e
get_or-map_set f es k e d below =
    ap (λ xs. get_or xs k d) (map-set f es k e) ∙ get_or-set_same (map f es) k (f e) d (subst (λ n. k < n) (sym (length-map es f)) below)

-- what f tells of an element of the row
get_or-map_at : {E A : Type 0} (f : E → A) (es : List E) (k : ℕ) (e : E) (d : A) → k < length es → e ≡ get_or es k e → get_or (map f es) k d ≡ f e
get_or-map_at f es k e d below here = get_or-map f es k e d below ∙ ap f (sym here)

-- only the number at place k changes
pub OthersStay-set : {E : Type 0} (f : E → ℕ) (es : List E) (k : ℕ) (e : E) → k < length es → OthersStay k (map f es) (map f (set es k e))
OthersStay-set f es k e below = map-set f es k e ∙ ap (λ n. set (map f es) k n) (sym (get_or-map_set f es k e 0 below))

-- what f can't tell apart
pub map-set_told : {E A : Type 0} (f : E → A) (es : List E) (k : ℕ) (e e' : E) → e ≡ get_or es k e → f e' ≡ f e → map f (set es k e') ≡ map f es
map-set_told f es k e e' here same = map-set_same f es k e' e (same ∙ ap f here)

-- a row of lists with one message more at place k
map-set_added : {T E : Type 0} (f : E → List (Msg T)) (es : List E) (k : ℕ) (e e' : E) (m : Msg T) → k < length es → e ≡ get_or es k e → f e' ≡ f e ++ m ∷ [] → map f (set es k e') ≡ added (map f es) k m
map-set_added f es k e e' m below here more =
    map-set f es k e' ∙ ap (λ ms. set (map f es) k ms) (more ∙ ap (λ ms. ms ++ m ∷ []) (sym (get_or-map_at f es k e [] below here)))

module _ {T E : Type 0} (f : E → List (Msg T)) where
  -- a take at one in, as all ins tell it
  pub TakesAt-set : (known : E → ℕ) (es : List E) (k : ℕ) (e e' : E) (answer : Option (Msg T)) → k < length es → e ≡ get_or es k e → Takes (f e) (known e) answer (f e') (known e') → TakesAt k (map f es) (map known es) answer (map f (set es k e')) (map known (set es k e'))
  TakesAt-set known es k e e' None below here h =
      (map-set_told f es k e e' here h.0, get_or-map_at known es k e 0 below here ∙ h.1, get_or-map_set known es k e' 0 below ∙ h.2)
  TakesAt-set known es k e e' (Some m) below here h = map-set_added f es k e e' m below here h

  -- a put at one out, as all outs tell it
  pub PutsAt-set : (grows : Bool) (room : E → ℕ) (es : List E) (k : ℕ) (e e' : E) (m : Msg T) (answer : PutAnswer T) → k < length es → e ≡ get_or es k e → Puts grows (f e) (room e) m answer (f e') (room e') → PutsAt grows k (map f es) (map room es) m answer (map f (set es k e')) (map room (set es k e'))
  PutsAt-set grows room es k e e' m Done below here h =
      (map-set_added f es k e e' m below here h.0, omega (arith, h.1, get_or-map_at room es k e 0 below here, get_or-map_set room es k e' 0 below))
  PutsAt-set grows room es k e e' m (Full back) below here h =
      (h.0, map-set_told f es k e e' here h.1, get_or-map_at room es k e 0 below here ∙ h.2, get_or-map_set room es k e' 0 below ∙ h.3)
  PutsAt-set grows room es k e e' m (NoMemory back) below here h = (h.0, map-set_told f es k e e' here h.1, h.2, h.3)

  -- the messages of the end that is called
  pub at-here : (es : List E) (k : ℕ) (e : E) → k < length es → e ≡ get_or es k e → IsOpen (at (map f es) k) → IsOpen (f e)
  at-here es k e below here o = subst (λ ms. IsOpen ms) (get_or-map_at f es k e [] below here) o

  -- one more was taken where a message was
  pub count_of-set : (known : E → ℕ) (es : List E) (k : ℕ) (e e' : E) (answer : Option (Msg T)) → k < length es → e ≡ get_or es k e → Takes (f e) (known e) answer (f e') (known e') → count_of f (set es k e') ≡ count_of f es + length (option_to_list answer)
  count_of-set known es k e e' None below here h =
      omega (arith, sum_by-set (λ i. length (f i)) es k e' e below, ap (λ i. length (f i)) here, ap (λ ms. length ms) h.0)
  count_of-set known es k e e' (Some m) below here h =
      omega (arith, sum_by-set (λ i. length (f i)) es k e' e below, ap (λ i. length (f i)) here, ap (λ ms. length ms) h, length-append (f e) (m ∷ []))

  -- nothing was taken at ins where nothing was taken
  pub count_of-empty : (es : List E) → AllEmpty f es → count_of f es ≡ 0
  count_of-empty [] h = refl
  count_of-empty (e ∷ es) h =
      let here : length (f e) ≡ 0 = ap (λ ms. length ms) h.0 in
      let behind : count_of f es ≡ 0 = count_of-empty es h.1 in
      omega (arith, sum_by-cons (λ i. length (f i)) e es, here, behind)

  -- the lists of what was taken tell how many messages that is
  count_of-lists : (es : List E) → count_of f es ≡ sum_by (λ ms. length ms) (map f es)
  count_of-lists [] = refl
  count_of-lists (e ∷ es) =
      omega (arith, sum_by-cons (λ i. length (f i)) e es, sum_by-cons (λ ms. length ms) (f e) (map f es), count_of-lists es)

  -- as many were taken where the same was taken
  pub count_of-same : (es es' : List E) → map f es' ≡ map f es → count_of f es' ≡ count_of f es
  count_of-same es es' same = count_of-lists es' ∙ ap (λ rows. sum_by (λ ms. length ms) rows) same ∙ sym (count_of-lists es)

-- what waits at the outs up to the one that was flushed last
pub sum_by_more_set : {E : Type 0} (f : E → ℕ) (es : List E) (k : ℕ) (e : E) → k < length es → sum_by f (take (k + 1) (set es k e)) ≡ sum_by f (take k es) + f e
sum_by_more_set f es k e below =
    let inside : k < length (set es k e) = omega (arith, below, length-set es k e) in
    sum_by_more f (set es k e) k e inside ∙ ap (λ xs. sum_by f xs + f (get_or (set es k e) k e)) (take-set es k e) ∙ ap (λ x. sum_by f (take k es) + f x) (get_or-set_same es k e e below)

-- an out more that keeps nothing back
pub all_flushed-more : {E : Type 0} (f : E → ℕ) (es : List E) (k : ℕ) (e : E) (done all all' : Bool) → k < length es → done ≡ true → IsTrue done ↔ (f e ≡ 0) → all' ≡ all → IsTrue all ↔ (sum_by f (take k es) ≡ 0) → IsTrue all' ↔ (sum_by f (take (k + 1) (set es k e)) ≡ 0)
all_flushed-more f es k e done all all' below is tells same h =
    let t : IsTrue done = search rules in
    let none : f e ≡ 0 = tells.0 t in
    subst (λ b. IsTrue b ↔ (sum_by f (take (k + 1) (set es k e)) ≡ 0)) (sym same)
    (λ t. omega (arith, sum_by_more_set f es k e below, none, h.0 t), λ z. h.1 (omega (arith, sum_by_more_set f es k e below, z)))

-- an out more that keeps something back
pub all_flushed-less : {E : Type 0} (f : E → ℕ) (es : List E) (k : ℕ) (e : E) (done all : Bool) → k < length es → done ≡ false → IsTrue done ↔ (f e ≡ 0) → all ≡ false → IsTrue all ↔ (sum_by f (take (k + 1) (set es k e)) ≡ 0)
all_flushed-less f es k e done all below is tells off = (
  λ t. search rules,
  λ z.
      let none : f e ≡ 0 = omega (arith, sum_by_more_set f es k e below, z) in
      let t : IsTrue done = tells.1 none in
      search rules,
)
