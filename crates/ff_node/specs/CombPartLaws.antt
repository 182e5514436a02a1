-- A part's records in two steps: what it does for the first of them, and then what the part that it is does.
use Rattle.std.specs.Prelude.{◌≡◌, Bool, true, false, if◌then◌else◌, List, [], ◌∷◌, ◌++◌, refl}
use Rattle.std.proofs.Common.{◌∙◌, ap, append_assoc, append-nil}
use Rattle.ff_rec.specs.Lines.{Rec}
use Rattle.ff_node.specs.Behaviour.{Behaviour, sent_from, rejected_from}
use Rattle.ff_node.specs.Comb.{Part, part, given_from, given_rejected, part_from, part_sends, part_rejects, part_after, part_total, part_total_rejects}

module _ {N : Type 0} (b : Behaviour N) where
  -- a node's records in two steps: what it sends for the first of them, and then what the part that it is sends
  pub given_from-total : (s : N) (us vs : List Rec) → given_from b s us ++ part_total b (part_from b s us) vs ≡ sent_from b s (us ++ vs)
  given_from-total s [] vs = refl
  given_from-total s (x ∷ xs) vs = by (b.ends s x) (given_from-total (b.next s x) xs vs)
    where
      by : (e : Bool) → given_from b (b.next s x) xs ++ part_total b (part_from b (b.next s x) xs) vs ≡ sent_from b (b.next s x) (xs ++ vs)
          → (b.sends s x ++ (if e then b.last (b.next s x) else given_from b (b.next s x) xs))
          ++ part_total b (if e then part (b.opening (b.next s x)) true else part_from b (b.next s x) xs) vs
          ≡ b.sends s x ++ (if e then b.last (b.next s x) else sent_from b (b.next s x) (xs ++ vs))
      by true rest = append-nil (b.sends s x ++ b.last (b.next s x))
      by false rest = append_assoc (b.sends s x) (given_from b (b.next s x) xs) (part_total b (part_from b (b.next s x) xs) vs)
          ∙ ap (λ ys. b.sends s x ++ ys) rest

  -- the same of what it rejects
  pub given_rejected-total : (s : N) (us vs : List Rec) → given_rejected b s us ++ part_total_rejects b (part_from b s us) vs ≡ rejected_from b s (us ++ vs)
  given_rejected-total s [] vs = refl
  given_rejected-total s (x ∷ xs) vs = by (b.ends s x) (given_rejected-total (b.next s x) xs vs)
    where
      by : (e : Bool) → given_rejected b (b.next s x) xs ++ part_total_rejects b (part_from b (b.next s x) xs) vs ≡ rejected_from b (b.next s x) (xs ++ vs)
          → (b.rejects s x ++ (if e then b.last_rejects (b.next s x) else given_rejected b (b.next s x) xs))
          ++ part_total_rejects b (if e then part (b.opening (b.next s x)) true else part_from b (b.next s x) xs) vs
          ≡ b.rejects s x ++ (if e then b.last_rejects (b.next s x) else rejected_from b (b.next s x) (xs ++ vs))
      by true rest = append-nil (b.rejects s x ++ b.last_rejects (b.next s x))
      by false rest = append_assoc (b.rejects s x) (given_rejected b (b.next s x) xs) (part_total_rejects b (part_from b (b.next s x) xs) vs)
          ∙ ap (λ ys. b.rejects s x ++ ys) rest

  -- records in two steps, before the end
  pub given_from-append : (s : N) (us vs : List Rec) → given_from b s us ++ part_sends b (part_from b s us) vs ≡ given_from b s (us ++ vs)
  given_from-append s [] vs = refl
  given_from-append s (x ∷ xs) vs = by (b.ends s x) (given_from-append (b.next s x) xs vs)
    where
      by : (e : Bool) → given_from b (b.next s x) xs ++ part_sends b (part_from b (b.next s x) xs) vs ≡ given_from b (b.next s x) (xs ++ vs)
          → (b.sends s x ++ (if e then b.last (b.next s x) else given_from b (b.next s x) xs))
          ++ part_sends b (if e then part (b.opening (b.next s x)) true else part_from b (b.next s x) xs) vs
          ≡ b.sends s x ++ (if e then b.last (b.next s x) else given_from b (b.next s x) (xs ++ vs))
      by true rest = append-nil (b.sends s x ++ b.last (b.next s x))
      by false rest = append_assoc (b.sends s x) (given_from b (b.next s x) xs) (part_sends b (part_from b (b.next s x) xs) vs)
          ∙ ap (λ ys. b.sends s x ++ ys) rest

  pub given_rejected-append : (s : N) (us vs : List Rec) → given_rejected b s us ++ part_rejects b (part_from b s us) vs ≡ given_rejected b s (us ++ vs)
  given_rejected-append s [] vs = refl
  given_rejected-append s (x ∷ xs) vs = by (b.ends s x) (given_rejected-append (b.next s x) xs vs)
    where
      by : (e : Bool) → given_rejected b (b.next s x) xs ++ part_rejects b (part_from b (b.next s x) xs) vs ≡ given_rejected b (b.next s x) (xs ++ vs)
          → (b.rejects s x ++ (if e then b.last_rejects (b.next s x) else given_rejected b (b.next s x) xs))
          ++ part_rejects b (if e then part (b.opening (b.next s x)) true else part_from b (b.next s x) xs) vs
          ≡ b.rejects s x ++ (if e then b.last_rejects (b.next s x) else given_rejected b (b.next s x) (xs ++ vs))
      by true rest = append-nil (b.rejects s x ++ b.last_rejects (b.next s x))
      by false rest = append_assoc (b.rejects s x) (given_rejected b (b.next s x) xs) (part_rejects b (part_from b (b.next s x) xs) vs)
          ∙ ap (λ ys. b.rejects s x ++ ys) rest

  pub part_from-append : (s : N) (us vs : List Rec) → part_after b (part_from b s us) vs ≡ part_from b s (us ++ vs)
  part_from-append s [] vs = refl
  part_from-append s (x ∷ xs) vs = by (b.ends s x) (part_from-append (b.next s x) xs vs)
    where
      by : (e : Bool) → part_after b (part_from b (b.next s x) xs) vs ≡ part_from b (b.next s x) (xs ++ vs)
          → part_after b (if e then part (b.opening (b.next s x)) true else part_from b (b.next s x) xs) vs
          ≡ (if e then part (b.opening (b.next s x)) true else part_from b (b.next s x) (xs ++ vs))
      by true rest = refl
      by false rest = rest

  -- the same four of a part, which may have ended
  pub part_sends-total : (p : Part N) (us vs : List Rec) → part_sends b p us ++ part_total b (part_after b p us) vs ≡ part_total b p (us ++ vs)
  part_sends-total p us vs = by p.ended refl
    where
      by : (e : Bool) → p.ended ≡ e → (if e then [] else given_from b p.node us) ++ part_total b (if e then p else part_from b p.node us) vs ≡ (if e then [] else sent_from b p.node (us ++ vs))
      by true is = ap (λ (e : Bool). if e then [] else sent_from b p.node vs) is
      by false is = given_from-total p.node us vs

  pub part_rejects-total : (p : Part N) (us vs : List Rec) → part_rejects b p us ++ part_total_rejects b (part_after b p us) vs ≡ part_total_rejects b p (us ++ vs)
  part_rejects-total p us vs = by p.ended refl
    where
      by : (e : Bool) → p.ended ≡ e → (if e then [] else given_rejected b p.node us) ++ part_total_rejects b (if e then p else part_from b p.node us) vs ≡ (if e then [] else rejected_from b p.node (us ++ vs))
      by true is = ap (λ (e : Bool). if e then [] else rejected_from b p.node vs) is
      by false is = given_rejected-total p.node us vs

  pub part_sends-append : (p : Part N) (us vs : List Rec) → part_sends b p us ++ part_sends b (part_after b p us) vs ≡ part_sends b p (us ++ vs)
  part_sends-append p us vs = by p.ended refl
    where
      by : (e : Bool) → p.ended ≡ e → (if e then [] else given_from b p.node us) ++ part_sends b (if e then p else part_from b p.node us) vs ≡ (if e then [] else given_from b p.node (us ++ vs))
      by true is = ap (λ (e : Bool). if e then [] else given_from b p.node vs) is
      by false is = given_from-append p.node us vs

  pub part_after-append : (p : Part N) (us vs : List Rec) → part_after b (part_after b p us) vs ≡ part_after b p (us ++ vs)
  part_after-append p us vs = by p.ended refl
    where
      by : (e : Bool) → p.ended ≡ e → part_after b (if e then p else part_from b p.node us) vs ≡ (if e then p else part_from b p.node (us ++ vs))
      by true is = ap (λ (e : Bool). if e then p else part_from b p.node vs) is
      by false is = part_from-append p.node us vs
