-- Lists of messages: what they carry, and what goes on to a whole list.
use Rattle.std.proofs.Common.{◌≡◌, List, [], ◌∷◌, ◌++◌, refl, sym, ap, ◌∙◌, append_assoc, append-nil}
use Rattle.ff_rec.specs.Streams.{items, carried, unaborted, GoesOn}
use Rattle.ff_rec.specs.declared.msg.Msg.{Msg}
use Rattle.ff_rec.specs.declared.msg.Msg.TheVariants.{Item, Mark, Pick, Eos, Abort}

pub items-carried : {T : Type 0} (xs : List T) → items (carried xs) ≡ xs
items-carried [] = refl
items-carried (x ∷ xs) = ap (λ rest. x ∷ rest) (items-carried xs)

items-append : {T : Type 0} (ms ns : List (Msg T)) → items (ms ++ ns) ≡ items ms ++ items ns
items-append [] ns = refl
items-append (Item x ∷ ms) ns = ap (λ rest. x ∷ rest) (items-append ms ns)
items-append (Mark ∷ ms) ns = items-append ms ns
items-append (Pick w ∷ ms) ns = items-append ms ns
items-append (Eos ∷ ms) ns = items-append ms ns
items-append (Abort ∷ ms) ns = items-append ms ns

items-unaborted : {T : Type 0} (ms : List (Msg T)) → items (unaborted ms) ≡ items ms
items-unaborted [] = refl
items-unaborted (Item x ∷ ms) = ap (λ rest. x ∷ rest) (items-unaborted ms)
items-unaborted (Mark ∷ ms) = items-unaborted ms
items-unaborted (Pick w ∷ ms) = items-unaborted ms
items-unaborted (Eos ∷ ms) = items-unaborted ms
items-unaborted (Abort ∷ ms) = items-unaborted ms

pub unaborted-append : {T : Type 0} (ms ns : List (Msg T)) → unaborted (ms ++ ns) ≡ unaborted ms ++ unaborted ns
unaborted-append [] ns = refl
unaborted-append (Item x ∷ ms) ns = ap (λ rest. Item x ∷ rest) (unaborted-append ms ns)
unaborted-append (Mark ∷ ms) ns = ap (λ rest. Mark ∷ rest) (unaborted-append ms ns)
unaborted-append (Pick w ∷ ms) ns = ap (λ rest. Pick w ∷ rest) (unaborted-append ms ns)
unaborted-append (Eos ∷ ms) ns = ap (λ rest. Eos ∷ rest) (unaborted-append ms ns)
unaborted-append (Abort ∷ ms) ns = unaborted-append ms ns

-- the first of what goes on to a whole list goes on to it too
pub GoesOn-front : {T : Type 0} (all front back ms : List (Msg T)) → all ≡ front ++ back → GoesOn (unaborted all) ms → GoesOn (unaborted front) ms
GoesOn-front all front back ms is goes = record {
  inner = goes.inner;
  more = unaborted back ++ goes.more;
  is = goes.is
      ∙ ap (λ l. l ++ goes.more) (ap unaborted is ∙ unaborted-append front back)
      ∙ append_assoc (unaborted front) (unaborted back) goes.more;
}

-- what goes on to a list of records carries the first of them
pub GoesOn-items : {T : Type 0} (ms : List (Msg T)) (xs : List T) (goes : GoesOn (unaborted ms) (carried xs)) → xs ≡ items ms ++ items goes.more
GoesOn-items ms xs goes =
    sym (items-append (carried xs) (Eos ∷ []) ∙ append-nil (items (carried xs)) ∙ items-carried xs)
    ∙ ap items goes.is
    ∙ items-append (unaborted ms) goes.more
    ∙ ap (λ l. l ++ items goes.more) (items-unaborted ms)
