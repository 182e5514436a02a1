-- What is left of whole ins after the in whose group is due gave a message.
use Rattle.std.proofs.Common.{◌≡◌, ◌⊎◌, ℕ, suc, ◌<◌, ◌≤◌, List, [], ◌∷◌, ◌++◌, length, refl, sym, ap, ◌∙◌, subst, append_assoc, append-nil, arith, inl, inr}
use Rattle.std.proofs.lemmas.Bool.{cases_eq}
use Rattle.ff_rec.specs.Lines.{Rec}
use Rattle.ff_rec.specs.Streams.{IsOpen, at, added, unaborted, closed, GoesOn}
use Rattle.ff_rec.specs.declared.msg.Msg.TheVariants.{Item, Mark, Pick, Eos as EosMsg}
use Rattle.ff_node.specs.Fits.{grouped, gather, picked, without_first, first_group}
use Rattle.ff_node.specs.Runs.{Message, AllGoOn}
use Rattle.ff_order.specs.GroupLaws.{GoesOnBy, grouped-item, grouped-mark, grouped-eos, grouped-pick, replaced_at, replaced_at-here, replaced_at-other, without_first-here, without_first-other, gather-item, picked-here, picked-other}
use Rattle.ff_order.specs.OMerges.{next_due}
use Rattle.ff_order.specs.OMergeTiedLaws.{IsLeft}
use Rattle.ff_order.specs.PickLaws.{IsFirstPick, PicksLeft-first, PicksLeft-none}
use Rattle.ff_order.specs.PortLaws.{AllGoOn-at, GoesOn-next}
use Rattle.ff_order.specs.declared.order.Order.{Order}
use Rattle.ff_unit.specs.TakenLaws.{at-added, at-added_other, length-added}

module _ (order : Order) (n due : ℕ) (gots ins : List (List Message)) (all ys : List Rec)
    (some : 1 ≤ n) (due_in : due < length gots) (got : IsOpen (at gots due)) (l : IsLeft order n due gots ins all ys) where
  -- a message of the in that is due is the first of what is left of it
  pub next-of : (m : Message) (inner : List Message) → (unaborted (m ∷ []) ≡ m ∷ []) → at ins due ≡ at gots due ++ inner → AllGoOn (added gots due m) ins
      → (more : List Message) × (closed inner ≡ m ∷ more)
  next-of m inner whole are fits =
      let below : due < length (added gots due m) = omega (arith, length-added gots due m) in
      GoesOn-next (at gots due) inner (at ins due) m got whole are
      (subst (λ g. GoesOn (unaborted g) (at ins due)) (at-added gots due m due_in) (AllGoOn-at (added gots due m) ins due below fits))

  -- what is left of an in that gave its first message, and of another one
  share-here : (j : ℕ) (m : Message) (before after : List (List Rec)) → due ≡ j → grouped before ≡ m ∷ grouped after
      → at ins j ≡ at gots j ++ grouped before → at ins j ≡ at (added gots due m) j ++ grouped after
  share-here j m before after e step share =
      let there : at (added gots due m) j ≡ at gots j ++ m ∷ [] =
      subst (λ j. at (added gots due m) j ≡ at gots j ++ m ∷ []) e (at-added gots due m due_in) in
      share ∙ ap (λ r. at gots j ++ r) step ∙ sym (append_assoc (at gots j) (m ∷ []) (grouped after)) ∙ ap (λ g. g ++ grouped after) (sym there)

  pub share-other : (j : ℕ) (m : Message) (before : List Message) → (due ≡ j → ⊥) → at ins j ≡ at gots j ++ before → at ins j ≡ at (added gots due m) j ++ before
  share-other j m before ne share = share ∙ ap (λ g. g ++ before) (sym (at-added_other gots due j m (λ e. ne (sym e))))

  module _ (within : due < n) where
    -- a record of its group
    pub IsLeft-item : (x : Rec) → AllGoOn (added gots due (Item x)) ins → IsLeft order n due (added gots due (Item x)) ins all (ys ++ x ∷ [])
    IsLeft-item x fits =
        let next = next-of (Item x) (grouped (l.groups due)) refl (l.shares due within) fits in
        of (grouped-item (l.groups due) x next.0 next.1)
      where
        of : GoesOnBy x (l.groups due) → IsLeft order n due (added gots due (Item x)) ins all (ys ++ x ∷ [])
        of g = with (PicksLeft-first n due gots ins within order some l.picks l.picks_left (omega (arith, l.lengths due within, ap length g.is)))
          where
            rest : List (List Rec)
            rest = g.group ∷ g.rest

            after : ℕ → List (List Rec)
            after = replaced_at l.groups due rest

            share : (j : ℕ) → j < n → (due ≡ j) ⊎ (due ≡ j → ⊥) → at ins j ≡ at (added gots due (Item x)) j ++ grouped (after j)
            share j h (inl e) =
                share-here j (Item x) (l.groups j) rest e (ap grouped (ap l.groups (sym e) ∙ g.is)) (l.shares j h)
                ∙ ap (λ gs. at (added gots due (Item x)) j ++ grouped gs) (sym (replaced_at-here l.groups due j rest e))
            share j h (inr ne) =
                share-other j (Item x) (grouped (l.groups j)) ne (l.shares j h)
                ∙ ap (λ gs. at (added gots due (Item x)) j ++ grouped gs) (sym (replaced_at-other l.groups due j rest ne))

            number : (j : ℕ) → j < n → (due ≡ j) ⊎ (due ≡ j → ⊥) → length (after j) ≡ picked l.picks j
            number j h (inl e) = ap length (replaced_at-here l.groups due j rest e) ∙ sym (ap length (ap l.groups (sym e) ∙ g.is)) ∙ l.lengths j h
            number j h (inr ne) = ap length (replaced_at-other l.groups due j rest ne) ∙ l.lengths j h

            with : IsFirstPick order n due gots ins l.picks → IsLeft order n due (added gots due (Item x)) ins all (ys ++ x ∷ [])
            with f = record {
              picks = l.picks;
              groups = after;
              joins = l.joins ∙ ap (λ p. ys ++ gather p l.groups) f.are ∙ ap (λ r. ys ++ r) (gather-item l.groups due f.later x g.group g.rest g.is)
                  ∙ sym (append_assoc ys (x ∷ []) (gather (due ∷ f.later) after)) ∙ ap (λ p. (ys ++ x ∷ []) ++ gather p after) (sym f.are);
              shares = λ j h. share j h (cases_eq due j);
              lengths = λ j h. number j h (cases_eq due j);
              picks_left = f.on (Item x);
            }

    -- the end of its group
    pub IsLeft-mark : AllGoOn (added gots due Mark) ins → IsLeft order n (next_due order n due) (added gots due Mark) ins all ys
    IsLeft-mark fits =
        let next = next-of Mark (grouped (l.groups due)) refl (l.shares due within) fits in
        let g = grouped-mark (l.groups due) next.0 next.1 in
        of g.0 g.1
      where
        of : (rest : List (List Rec)) → l.groups due ≡ [] ∷ rest → IsLeft order n (next_due order n due) (added gots due Mark) ins all ys
        of rest is = with (PicksLeft-first n due gots ins within order some l.picks l.picks_left (omega (arith, l.lengths due within, ap length is)))
          where
            after : ℕ → List (List Rec)
            after = without_first l.groups due

            share : (j : ℕ) → j < n → (due ≡ j) ⊎ (due ≡ j → ⊥) → at ins j ≡ at (added gots due Mark) j ++ grouped (after j)
            share j h (inl e) =
                share-here j Mark (l.groups j) rest e (ap grouped (ap l.groups (sym e) ∙ is)) (l.shares j h)
                ∙ ap (λ gs. at (added gots due Mark) j ++ grouped gs) (sym (without_first-here l.groups due j [] rest is e))
            share j h (inr ne) =
                share-other j Mark (grouped (l.groups j)) ne (l.shares j h)
                ∙ ap (λ gs. at (added gots due Mark) j ++ grouped gs) (sym (without_first-other l.groups due j ne))

            number : (later : List ℕ) → l.picks ≡ due ∷ later → (j : ℕ) → j < n → (due ≡ j) ⊎ (due ≡ j → ⊥) → length (after j) ≡ picked later j
            number later are j h (inl e) =
                let here : length (l.groups j) ≡ suc (length rest) = ap length (ap l.groups (sym e) ∙ is) in
                let there : picked l.picks j ≡ suc (picked later j) = ap (λ p. picked p j) are ∙ subst (λ j. picked (due ∷ later) j ≡ suc (picked later j)) e (picked-here due later) in
                ap length (without_first-here l.groups due j [] rest is e) ∙ omega (arith, l.lengths j h, here, there)
            number later are j h (inr ne) =
                ap length (without_first-other l.groups due j ne) ∙ l.lengths j h ∙ ap (λ p. picked p j) are ∙ picked-other due j later ne

            with : IsFirstPick order n due gots ins l.picks → IsLeft order n (next_due order n due) (added gots due Mark) ins all ys
            with f = record {
              picks = f.later;
              groups = after;
              joins = l.joins ∙ ap (λ p. ys ++ gather p l.groups) f.are ∙ ap (λ gs. ys ++ (first_group gs ++ gather f.later after)) is;
              shares = λ j h. share j h (cases_eq due j);
              lengths = λ j h. number f.later f.are j h (cases_eq due j);
              picks_left = f.next Mark;
            }

    -- a Pick stands in no group, and its end is the end of all
    pub IsLeft-no_pick : (w : ℕ) → AllGoOn (added gots due (Pick w)) ins → ⊥
    IsLeft-no_pick w fits =
        let next = next-of (Pick w) (grouped (l.groups due)) refl (l.shares due within) fits in
        grouped-pick (l.groups due) w next.0 next.1

    pub IsLeft-eos : AllGoOn (added gots due EosMsg) ins → all ≡ ys
    IsLeft-eos fits =
        let next = next-of EosMsg (grouped (l.groups due)) refl (l.shares due within) fits in
        let none : length (l.groups due) ≡ 0 = ap length (grouped-eos (l.groups due) next.0 next.1) in
        let last = PicksLeft-none n due gots ins within order l.picks l.picks_left (omega (arith, none, l.lengths due within)) in
        l.joins ∙ ap (λ p. ys ++ gather p l.groups) last ∙ append-nil ys
