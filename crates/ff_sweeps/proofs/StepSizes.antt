-- What one step of a core does to the sizes of its edges.
use Rattle.std.proofs.Common.{◌≡◌, ◌≢◌, ◌⊎◌, ℕ, zero, suc, ◌+◌, ◌<◌, ◌≤◌, List, [], ◌∷◌, ◌++◌, length, refl, sym, ap, ◌∙◌, subst, inl, inr, arith, length-append}
use Rattle.std.specs.Prelude.{slice_index}
use Rattle.std.proofs.lemmas.Bool.Decides.{eqb_tells}
use Rattle.ff_rec.specs.Streams.{at, added}
use Rattle.ff_rec.specs.Weights.{weigh}
use Rattle.ff_node.specs.Runs.{Message, Act, Took, Gave, Refused, Idle, Told, Handed, took, gave}
use Rattle.ff_plan.specs.Rows.{range}
use Rattle.ff_port.specs.Queues.{Queue, put_of}
use Rattle.ff_unit.specs.TakenLaws.{at-added, at-added_other}
use Rattle.ff_unit.specs.Units.{Doing}
use Rattle.ff_steps.specs.Core.{CoreState, edge, gots_of, puts_of}
use Rattle.ff_steps.specs.Events.{CoreStep}
use Rattle.ff_steps.specs.Links.{edge_at, gots_at, puts_at}
use Rattle.ff_steps.specs.Wiring.{Row, row_at}

-- sums that grow
pub weigh-le : (f g : ℕ → ℕ) (a n : ℕ) → ((e : ℕ) → e < a + n → f e ≤ g e) → weigh f (range a n) ≤ weigh g (range a n)
weigh-le f g a zero each = omega arith
weigh-le f g a (suc n) each =
    let here = each a (omega arith) in
    let rest = weigh-le f g (suc a) n (λ e low. each e (omega (arith, low))) in
    omega (arith, here, rest)

pub weigh-lt : (f g : ℕ → ℕ) (a n x : ℕ) → ((e : ℕ) → e < a + n → f e ≤ g e) → a ≤ x → x < a + n → f x + 1 ≤ g x → weigh f (range a n) + 1 ≤ weigh g (range a n)
weigh-lt f g a zero x each from low more = absurd (omega (arith, from, low))
weigh-lt f g a (suc n) x each from low more = elim (eqb_tells a x) [
  | inl h ↦
      let here : f a + 1 ≤ g a = subst (λ y. f y + 1 ≤ g y) (sym h.1) more in
      omega (arith, here, weigh-le f g (suc a) n (λ e below. each e (omega (arith, below))))
  | inr h ↦
      let other : a ≢ x = h.1 in
      let after : suc a ≤ x = omega (arith, from, other) in
      let below : x < suc a + n = omega (arith, low) in
      let here = each a (omega arith) in
      let rest = weigh-lt f g (suc a) n x (λ e l. each e (omega (arith, l))) after below more in
      omega (arith, here, rest)
]

-- whether an edge is one of these
pub index_or : (es : List ℕ) (e : ℕ) → ((i : ℕ) × (i < length es) × (slice_index es i ≡ e)) ⊎ ((i : ℕ) → i < length es → slice_index es i ≢ e)
index_or [] e = inr (λ i low is. omega (arith, low))
index_or (x ∷ es) e = elim (eqb_tells x e) [
  | inl h ↦ inl (0, omega arith, h.1)
  | inr h ↦ elim (index_or es e) [
    | inl found ↦ inl (suc found.0, omega (arith, found.1), found.2)
    | inr none ↦ inr (not_one h.1 none)
  ]
]
  where
    not_one : (x ≡ e → ⊥) → ((i : ℕ) → i < length es → slice_index es i ≢ e) → (i : ℕ) → i < suc (length es) → slice_index (x ∷ es) i ≢ e
    not_one first none zero low = first
    not_one first none (suc i) low = none i (omega (arith, low))

pub at-gots : (edges : List (Queue _)) (es : List ℕ) (i : ℕ) → i < length es → at (gots_at edges es) i ≡ (edge_at edges (slice_index es i)).got
at-gots edges [] i low = absurd (omega (arith, low))
at-gots edges (e ∷ es) zero low = refl
at-gots edges (e ∷ es) (suc i) low = at-gots edges es i (omega (arith, low))

pub at-puts : (edges : List (Queue _)) (es : List ℕ) (i : ℕ) → i < length es → at (puts_at edges es) i ≡ put_of (edge_at edges (slice_index es i))
at-puts edges [] i low = absurd (omega (arith, low))
at-puts edges (e ∷ es) zero low = refl
at-puts edges (e ∷ es) (suc i) low = at-puts edges es i (omega (arith, low))

pub length-gots : (edges : List (Queue _)) (es : List ℕ) → length (gots_at edges es) ≡ length es
length-gots edges [] = refl
length-gots edges (e ∷ es) = ap suc (length-gots edges es)

pub length-puts : (edges : List (Queue _)) (es : List ℕ) → length (puts_at edges es) ≡ length es
length-puts edges [] = refl
length-puts edges (e ∷ es) = ap suc (length-puts edges es)

-- one message more at one port
added-grows : (lists : List (List Message)) (k i : ℕ) (m : Message) → i < length lists → length (at lists i) ≤ length (at (added lists k m) i)
added-grows lists k i m low = elim (eqb_tells k i) [
  | inl h ↦
      let same : at (added lists k m) i ≡ at lists i ++ m ∷ [] = subst (λ j. at (added lists j m) i ≡ at lists i ++ m ∷ []) (sym h.1) (at-added lists i m low) in
      omega (arith, ap length same, length-append (at lists i) (m ∷ []))
  | inr h ↦ let same = at-added_other lists k i m (λ e. h.1 (sym e)) in omega (arith, ap length same)
]

took-grows : (act : Act) (gots : List (List Message)) (i : ℕ) → i < length gots → length (at gots i) ≤ length (at (took act gots) i)
took-grows (Took k m) gots i low = added-grows gots k i m low
took-grows (Gave k m) gots i low = omega arith
took-grows Refused gots i low = omega arith
took-grows Idle gots i low = omega arith
took-grows Told gots i low = omega arith
took-grows (Handed x) gots i low = omega arith

gave-grows : (act : Act) (puts : List (List Message)) (i : ℕ) → i < length puts → length (at puts i) ≤ length (at (gave act puts) i)
gave-grows (Took k m) puts i low = omega arith
gave-grows (Gave k m) puts i low = added-grows puts k i m low
gave-grows Refused puts i low = omega arith
gave-grows Idle puts i low = omega arith
gave-grows Told puts i low = omega arith
gave-grows (Handed x) puts i low = omega arith

module _ {U : Type 0} (b : Doing U) (p : ℕ) (c c' : CoreState U) (step : CoreStep b p c c') where
  row : Row
  row = row_at c.rows p

  gots_after : gots_at c'.edges (row_at c.rows p).ins ≡ took step.act (gots_of c p)
  gots_after = subst (λ rows. gots_at c'.edges (row_at rows p).ins ≡ took step.act (gots_of c p)) step.made.2 step.takes

  puts_after : puts_at c'.edges (row_at c.rows p).outs ≡ gave step.act (puts_of c p)
  puts_after = subst (λ rows. puts_at c'.edges (row_at rows p).outs ≡ gave step.act (puts_of c p)) step.made.2 step.gives

  pub got_grows : (e : ℕ) → length (edge c e).got ≤ length (edge c' e).got
  got_grows e = elim (index_or (row_at c.rows p).ins e) [
    | inr none ↦ let same = step.edges.got e none in omega (arith, ap length same)
    | inl found ↦
        let es = (row_at c.rows p).ins in
        let before = at-gots c.edges es found.0 found.1 ∙ ap (λ x. (edge c x).got) found.2 in
        let after = at-gots c'.edges es found.0 found.1 ∙ ap (λ x. (edge c' x).got) found.2 in
        let grows = took-grows step.act (gots_of c p) found.0 (omega (arith, found.1, length-gots c.edges es)) in
        omega (arith, ap length before, ap length after, grows, ap (λ l. length (at l found.0)) gots_after)
  ]

  pub put_grows : (e : ℕ) → length (put_of (edge c e)) ≤ length (put_of (edge c' e))
  put_grows e = elim (index_or (row_at c.rows p).outs e) [
    | inr none ↦ let same = step.edges.put e none in omega (arith, ap length same)
    | inl found ↦
        let es = (row_at c.rows p).outs in
        let before = at-puts c.edges es found.0 found.1 ∙ ap (λ x. put_of (edge c x)) found.2 in
        let after = at-puts c'.edges es found.0 found.1 ∙ ap (λ x. put_of (edge c' x)) found.2 in
        let grows = gave-grows step.act (puts_of c p) found.0 (omega (arith, found.1, length-puts c.edges es)) in
        omega (arith, ap length before, ap length after, grows, ap (λ l. length (at l found.0)) puts_after)
  ]

  -- nothing was taken, or nothing was given
  pub got_same : took step.act (gots_of c p) ≡ gots_of c p → (e : ℕ) → (edge c' e).got ≡ (edge c e).got
  got_same nothing e = elim (index_or (row_at c.rows p).ins e) [
    | inr none ↦ step.edges.got e none
    | inl found ↦
        let es = (row_at c.rows p).ins in
        let before = at-gots c.edges es found.0 found.1 ∙ ap (λ x. (edge c x).got) found.2 in
        let after = at-gots c'.edges es found.0 found.1 ∙ ap (λ x. (edge c' x).got) found.2 in
        sym after ∙ ap (λ l. at l found.0) (gots_after ∙ nothing) ∙ before
  ]

  pub put_same : gave step.act (puts_of c p) ≡ puts_of c p → (e : ℕ) → put_of (edge c' e) ≡ put_of (edge c e)
  put_same nothing e = elim (index_or (row_at c.rows p).outs e) [
    | inr none ↦ step.edges.put e none
    | inl found ↦
        let es = (row_at c.rows p).outs in
        let before = at-puts c.edges es found.0 found.1 ∙ ap (λ x. put_of (edge c x)) found.2 in
        let after = at-puts c'.edges es found.0 found.1 ∙ ap (λ x. put_of (edge c' x)) found.2 in
        sym after ∙ ap (λ l. at l found.0) (puts_after ∙ nothing) ∙ before
  ]

  -- one message was taken, or given
  pub got_more : (k : ℕ) (m : Message) → step.act ≡ Took k m → k < length (row_at c.rows p).ins
      → length (edge c (slice_index (row_at c.rows p).ins k)).got + 1 ≤ length (edge c' (slice_index (row_at c.rows p).ins k)).got
  got_more k m is low =
      let es = (row_at c.rows p).ins in
      let before = at-gots c.edges es k low in
      let after = at-gots c'.edges es k low in
      let one : at (took step.act (gots_of c p)) k ≡ at (gots_of c p) k ++ m ∷ [] =
      ap (λ a. at (took a (gots_of c p)) k) is ∙ at-added (gots_of c p) k m (omega (arith, low, length-gots c.edges es)) in
      omega (arith, ap length before, ap length after, ap length one, ap (λ l. length (at l k)) gots_after, length-append (at (gots_of c p) k) (m ∷ []))

  pub put_more : (k : ℕ) (m : Message) → step.act ≡ Gave k m → k < length (row_at c.rows p).outs
      → length (put_of (edge c (slice_index (row_at c.rows p).outs k))) + 1 ≤ length (put_of (edge c' (slice_index (row_at c.rows p).outs k)))
  put_more k m is low =
      let es = (row_at c.rows p).outs in
      let before = at-puts c.edges es k low in
      let after = at-puts c'.edges es k low in
      let one : at (gave step.act (puts_of c p)) k ≡ at (puts_of c p) k ++ m ∷ [] =
      ap (λ a. at (gave a (puts_of c p)) k) is ∙ at-added (puts_of c p) k m (omega (arith, low, length-puts c.edges es)) in
      omega (arith, ap length before, ap length after, ap length one, ap (λ l. length (at l k)) puts_after, length-append (at (puts_of c p) k) (m ∷ []))
