-- The loop over the records that are given to a part: they stand before what the part sends for them.
use Rattle.std.proofs.Common.{◌≡◌, ℕ, ◌+◌, ◌<◌, Bool, true, false, if◌then◌else◌, List, [], ◌∷◌, ◌++◌, length, refl, sym, ap, subst, ◌∙◌, append_assoc, append-nil, length-append, arith}
use Rattle.ff_rec.specs.Lines.{Rec}
use Rattle.ff_node.specs.Behaviour.{Behaviour}
use Rattle.ff_node.specs.Comb.{Part, part, given_from, given_rejected, part_from, part_sends, part_rejects, part_after}
use Rattle.ff_node.specs.Passing.{fed}
use Rattle.ff_node.specs.Sends.{Sent, add}
use Rattle.ff_node.proofs.PartsSteps.{part_after-feed, add-feed}
use Rattle.ff_node.proofs.SendsLaws.{add-nothing}

-- these in the place of what was sent
abbrev with_sends : Sent → List Rec → Sent
with_sends out us = record out { sends = us }

-- so many of the records that part `p₀` was given are left: they stand before what it sent meanwhile, and complete it
pub record HandsOn {N : Type 0} (b : Behaviour N) (p₀ : Part N) (out₀ : Sent) (left : ℕ) (p : Part N) (out : Sent) : Type 0 where
  pub rest : List Rec
  pub made : List Rec
  pub as_many : length rest ≡ left
  pub stand : out.sends ≡ rest ++ made
  pub state : part_after b p rest ≡ part_after b p₀ out₀.sends
  pub sends : add (record out { sends = made }) (part_sends b p rest) (part_rejects b p rest) ≡ fed b p₀ out₀

-- the first of the records that are left is the one that was taken
first_left : (rest made more : List Rec) (x : Rec) → rest ++ made ≡ x ∷ more → 0 < length rest
    → (ys : List Rec) × (rest ≡ x ∷ ys) × (more ≡ ys ++ made)
first_left [] made more x is some = absurd (omega arith)
first_left (y ∷ ys) made more x is some = (ys, cc, cc)

none_left : (rest : List Rec) → length rest ≡ 0 → rest ≡ []
none_left [] is = refl
none_left (y ∷ ys) is = absurd (omega arith)

module _ {N : Type 0} (b : Behaviour N) where
  -- a part that is given nothing
  part_after-nil : (p : Part N) → part_after b p [] ≡ p
  part_after-nil p = by p.ended refl
    where
      by : (e : Bool) → p.ended ≡ e → (if e then p else part p.node false) ≡ p
      by true is = refl
      by false is = sym (ap (part p.node) is)

  part_sends-nil : (p : Part N) → part_sends b p [] ≡ []
  part_sends-nil p = by p.ended
    where
      by : (e : Bool) → (if e then [] else given_from b p.node []) ≡ []
      by true = refl
      by false = refl

  part_rejects-nil : (p : Part N) → part_rejects b p [] ≡ []
  part_rejects-nil p = by p.ended
    where
      by : (e : Bool) → (if e then [] else given_rejected b p.node []) ≡ []
      by true = refl
      by false = refl

  -- all are left
  pub HandsOn-begin : (p : Part N) (out : Sent) (left : ℕ) → left ≡ length out.sends → HandsOn b p out left p out
  HandsOn-begin p out left all =
      record { rest = out.sends; made = []; as_many = sym all; stand = sym (append-nil out.sends); state = refl; sends = refl }

  -- some are left, so that one can be taken
  pub HandsOn-some : (p₀ : Part N) (out₀ : Sent) (left : ℕ) (p : Part N) (out : Sent) → HandsOn b p₀ out₀ left p out → 0 < left → out.sends ≡ [] → ⊥
  HandsOn-some p₀ out₀ left p out on some none =
      omega (arith, on.as_many, length-append on.rest on.made, ap length (sym on.stand ∙ none))

  module _ (p₀ : Part N) (out₀ : Sent) (left less : ℕ) (s : N) (e : Bool) (out t : Sent) (x : Rec)
      (on : HandsOn b p₀ out₀ left (part s e) out) (one : left ≡ less + 1) (taken : out ≡ record t { sends = x ∷ t.sends }) where
    first : (ys : List Rec) × (on.rest ≡ x ∷ ys) × (t.sends ≡ ys ++ on.made)
    first = first_left on.rest on.made t.sends x (sym on.stand ∙ ap (λ (o : Sent). o.sends) taken) (omega (arith, on.as_many))

    dropped : e ≡ true → HandsOn b p₀ out₀ less (part s e) t
    dropped ended = record {
      rest = first.0;
      made = on.made;
      as_many = omega (arith, on.as_many, ap length first.1);
      stand = first.2;
      state = ap (λ f. part_after b (part s f) first.0) ended ∙ sym (ap (λ f. part_after b (part s f) on.rest) ended) ∙ on.state;
      sends = ap (λ f. add (with_sends t on.made) (part_sends b (part s f) first.0) (part_rejects b (part s f) first.0)) ended
          ∙ ap (λ (o : Sent). add (with_sends o on.made) [] []) (sym taken)
          ∙ sym (ap (λ f. add (with_sends out on.made) (part_sends b (part s f) on.rest) (part_rejects b (part s f) on.rest)) ended)
          ∙ on.sends;
    }

    fed_on : (q : Part N) (new : Sent) → e ≡ false → q ≡ part_from b s (x ∷ []) → new ≡ add t (given_from b s (x ∷ [])) (given_rejected b s (x ∷ []))
        → HandsOn b p₀ out₀ less q new
    fed_on q new runs after gathered =
        let sends = given_from b s (x ∷ []) in
        let rejects = given_rejected b s (x ∷ []) in
        record {
          rest = first.0;
          made = on.made ++ sends;
          as_many = omega (arith, on.as_many, ap length first.1);
          stand = ap (λ (o : Sent). o.sends) gathered ∙ ap (λ us. us ++ sends) first.2 ∙ append_assoc first.0 on.made sends;
          state = part_after-feed b s e x first.0 on.rest q runs first.1 after ∙ on.state;
          sends = add-feed b s e x first.0 on.rest q (with_sends out on.made) (with_sends new (on.made ++ sends)) runs first.1 after
              (ap (λ (o : Sent). with_sends o (on.made ++ sends)) gathered ∙ ap (λ (o : Sent). add (with_sends o on.made) sends rejects) (sym taken))
              ∙ on.sends;
        }

    -- the part took the next one
    pub HandsOn-given : (q : Part N) (new : Sent) → q ≡ part_after b (part s e) (x ∷ [])
        → new ≡ add t (part_sends b (part s e) (x ∷ [])) (part_rejects b (part s e) (x ∷ [])) → HandsOn b p₀ out₀ less q new
    HandsOn-given q new after gathered = by e refl
      where
        here : (f : Bool) → e ≡ f → part_after b (part s e) (x ∷ []) ≡ part_after b (part s f) (x ∷ [])
        here f is = ap (λ g. part_after b (part s g) (x ∷ [])) is

        sent : (f : Bool) → e ≡ f → new ≡ add t (part_sends b (part s f) (x ∷ [])) (part_rejects b (part s f) (x ∷ []))
        sent f is = gathered ∙ ap (λ g. add t (part_sends b (part s g) (x ∷ [])) (part_rejects b (part s g) (x ∷ []))) is

        by : (f : Bool) → e ≡ f → HandsOn b p₀ out₀ less q new
        by true is =
            subst (λ o. HandsOn b p₀ out₀ less q o) (sym (sent true is ∙ add-nothing t))
            (subst (λ p. HandsOn b p₀ out₀ less p t) (sym (after ∙ here true is ∙ ap (part s) (sym is))) (dropped is))
        by false is = fed_on q new is (after ∙ here false is) (sent false is)

  -- none is left
  module _ (p₀ : Part N) (out₀ : Sent) (left : ℕ) (p : Part N) (out : Sent) (on : HandsOn b p₀ out₀ left p out) (none : left ≡ 0) where
    over : on.rest ≡ []
    over = none_left on.rest (on.as_many ∙ none)

    pub HandsOn-state : p ≡ part_after b p₀ out₀.sends
    HandsOn-state = sym (part_after-nil p) ∙ sym (ap (part_after b p) over) ∙ on.state

    pub HandsOn-sends : out ≡ fed b p₀ out₀
    HandsOn-sends =
        ap (with_sends out) (on.stand ∙ ap (λ us. us ++ on.made) over)
        ∙ sym (add-nothing (with_sends out on.made))
        ∙ sym (ap (λ us. add (with_sends out on.made) us []) (part_sends-nil p))
        ∙ sym (ap (add (with_sends out on.made) (part_sends b p [])) (part_rejects-nil p))
        ∙ sym (ap (λ us. add (with_sends out on.made) (part_sends b p us) (part_rejects b p us)) over)
        ∙ on.sends
