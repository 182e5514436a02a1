-- What is left of whole ins after the in of the picks gave a message.
use Rattle.std.proofs.Common.{◌≡◌, ℕ, ◌<◌, ◌≤◌, cond, List, [], ◌∷◌, ◌++◌, length, map, refl, sym, ap, ◌∙◌, subst, append_assoc, append-nil, arith, lt-ltb, le-ltb}
use Rattle.std.specs.List.{AllByRecursion}
use Rattle.ff_rec.specs.Lines.{Rec}
use Rattle.ff_rec.specs.Streams.{IsOpen, at, added, unaborted, closed}
use Rattle.ff_rec.specs.declared.msg.Msg.TheVariants.{Item, Mark, Pick, Eos as EosMsg}
use Rattle.ff_node.specs.Fits.{grouped, gather}
use Rattle.ff_node.specs.Runs.{Message, AllGoOn}
use Rattle.ff_order.specs.OMerges.{omerge_ins}
use Rattle.ff_order.specs.OMergeTiedLaws.{IsLeft}
use Rattle.ff_order.specs.PickLaws.{IsNextPick, picks-pick, picks-eos, picks-item}
use Rattle.ff_order.specs.declared.order.Order.{Order}
use Rattle.ff_order.specs.declared.order.Order.TheVariants.{InTurn, ByPick}
use Rattle.ff_unit.specs.TakenLaws.{at-added}
use Rattle.ff_order.specs.OMergeLeftLaws.{next-of, share-other}

-- the in of the picks is due
module _ (n : ℕ) (gots ins : List (List Message)) (all ys : List Rec)
    (some : 1 ≤ n) (due_in : n < length gots) (got : IsOpen (at gots n)) (l : IsLeft ByPick n n gots ins all ys) where
  pub picks-are : l.picks ≡ l.picks_left.rest
  picks-are = l.picks_left.are ∙ ap (λ b. cond b (n ∷ l.picks_left.rest) l.picks_left.rest) (le-ltb n n (omega arith))

  next-pick : (m : Message) → (unaborted (m ∷ []) ≡ m ∷ []) → AllGoOn (added gots n m) ins
      → (more : List Message) × (closed (map (λ w. Pick w) l.picks_left.rest) ≡ m ∷ more)
  next-pick m whole fits = next-of ByPick n n gots ins all ys some due_in got l m (map (λ w. Pick w) l.picks_left.rest) whole l.picks_left.told fits

  -- it gives the next pick
  pub IsLeft-pick : (w : ℕ) → AllGoOn (added gots n (Pick w)) ins → (w < n) × IsLeft ByPick n w (added gots n (Pick w)) ins all ys
  IsLeft-pick w fits =
      let next = next-pick (Pick w) refl fits in
      of (picks-pick l.picks_left.rest w next.0 next.1)
    where
      of : IsNextPick w l.picks_left.rest → (w < n) × IsLeft ByPick n w (added gots n (Pick w)) ins all ys
      of p =
          let below = subst (λ r. AllByRecursion (λ w. w < n) r) p.are l.picks_left.within in (
            below.0,
            record {
              picks = l.picks;
              groups = l.groups;
              joins = l.joins;
              shares = λ j h. share-other ByPick n n gots ins all ys some due_in got l j (Pick w) (grouped (l.groups j)) (λ e. omega arith) (l.shares j h);
              lengths = l.lengths;
              picks_left = record {
                rest = p.later;
                are = picks-are ∙ p.are ∙ ap (λ b. cond b (w ∷ p.later) p.later) (sym (lt-ltb w n below.0));
                told = l.picks_left.told ∙ ap (λ r. at gots n ++ map (λ w. Pick w) r) p.are
                    ∙ sym (append_assoc (at gots n) (Pick w ∷ []) (map (λ w. Pick w) p.later))
                    ∙ ap (λ g. g ++ map (λ w. Pick w) p.later) (sym (at-added gots n (Pick w) due_in));
                within = below.1;
              };
            },
          )

  -- or its end
  pub IsLeft-last : AllGoOn (added gots n EosMsg) ins → all ≡ ys
  IsLeft-last fits =
      let next = next-pick EosMsg refl fits in
      l.joins ∙ ap (λ p. ys ++ gather p l.groups) (picks-are ∙ picks-eos l.picks_left.rest next.0 next.1) ∙ append-nil ys

  -- and nothing else
  pub IsLeft-no_item : (x : Rec) → AllGoOn (added gots n (Item x)) ins → ⊥
  IsLeft-no_item x fits =
      let next = next-pick (Item x) refl fits in
      picks-item l.picks_left.rest (Item x) next.0 (λ e. cc) (λ w e. cc) next.1

  pub IsLeft-no_mark : AllGoOn (added gots n Mark) ins → ⊥
  IsLeft-no_mark fits =
      let next = next-pick Mark refl fits in
      picks-item l.picks_left.rest Mark next.0 (λ e. cc) (λ w e. cc) next.1

-- what the messages of the in of the picks do
pub record PicksGo (order : Order) (n due : ℕ) (gots ins : List (List Message)) (all ys : List Rec) : Type 0 where
  pub pick : (w : ℕ) → AllGoOn (added gots due (Pick w)) ins → (w < n) × IsLeft order n w (added gots due (Pick w)) ins all ys
  pub last : AllGoOn (added gots due EosMsg) ins → all ≡ ys
  pub no_item : (x : Rec) → AllGoOn (added gots due (Item x)) ins → ⊥
  pub no_mark : AllGoOn (added gots due Mark) ins → ⊥

-- an in that is due and no place is that of the picks
pub IsLeft-picks : (order : Order) (n due : ℕ) (gots ins : List (List Message)) (all ys : List Rec) → 1 ≤ n → n ≤ due → due < omerge_ins order n → due < length gots
    → IsOpen (at gots due) → IsLeft order n due gots ins all ys → PicksGo order n due gots ins all ys
IsLeft-picks InTurn n due gots ins all ys some above within due_in got l = absurd (omega arith)
IsLeft-picks ByPick n due gots ins all ys some above within due_in got l =
    let e : n ≡ due = omega arith in
    subst (λ d. d < length gots → IsOpen (at gots d) → IsLeft ByPick n d gots ins all ys → PicksGo ByPick n d gots ins all ys) e at_picks due_in got l
  where
    at_picks : n < length gots → IsOpen (at gots n) → IsLeft ByPick n n gots ins all ys → PicksGo ByPick n n gots ins all ys
    at_picks due_in got l = record {
      pick = IsLeft-pick n gots ins all ys some due_in got l;
      last = IsLeft-last n gots ins all ys some due_in got l;
      no_item = IsLeft-no_item n gots ins all ys some due_in got l;
      no_mark = IsLeft-no_mark n gots ins all ys some due_in got l;
    }
