-- Ends and Marks of lists of messages.
use Rattle.std.proofs.Common.{◌≡◌, ◌⊎◌, List, [], ◌∷◌, ◌++◌, refl, inl, inr}
use Rattle.ff_rec.specs.Lines.{Rec}
use Rattle.ff_rec.specs.Streams.{IsOpen, carried}
use Rattle.ff_rec.specs.declared.msg.Msg.TheVariants.{Item, Mark, Pick, Eos, Abort}
use Rattle.ff_node.specs.Fits.{marks}
use Rattle.ff_node.specs.Runs.{Message}
use Rattle.ff_unit.specs.Units.{HasAbort}
use Rattle.ff_unit.proofs.Rests.{HasEnd}

pub HasEnd-left : (xs ys : List Message) → HasEnd xs → HasEnd (xs ++ ys)
HasEnd-left [] ys h = absurd h
HasEnd-left (Item x ∷ xs) ys h = HasEnd-left xs ys h
HasEnd-left (Mark ∷ xs) ys h = HasEnd-left xs ys h
HasEnd-left (Pick w ∷ xs) ys h = HasEnd-left xs ys h
HasEnd-left (Eos ∷ xs) ys h = tt
HasEnd-left (Abort ∷ xs) ys h = tt

pub HasEnd-right : (xs ys : List Message) → HasEnd ys → HasEnd (xs ++ ys)
HasEnd-right [] ys h = h
HasEnd-right (Item x ∷ xs) ys h = HasEnd-right xs ys h
HasEnd-right (Mark ∷ xs) ys h = HasEnd-right xs ys h
HasEnd-right (Pick w ∷ xs) ys h = HasEnd-right xs ys h
HasEnd-right (Eos ∷ xs) ys h = tt
HasEnd-right (Abort ∷ xs) ys h = tt

pub HasEnd-either : (xs ys : List Message) → HasEnd (xs ++ ys) → HasEnd xs ⊎ HasEnd ys
HasEnd-either [] ys h = inr h
HasEnd-either (Item x ∷ xs) ys h = HasEnd-either xs ys h
HasEnd-either (Mark ∷ xs) ys h = HasEnd-either xs ys h
HasEnd-either (Pick w ∷ xs) ys h = HasEnd-either xs ys h
HasEnd-either (Eos ∷ xs) ys h = inl tt
HasEnd-either (Abort ∷ xs) ys h = inl tt

pub open-no_end : (xs : List Message) → IsOpen xs → HasEnd xs → ⊥
open-no_end [] inner h = h
open-no_end (Item x ∷ xs) inner h = open-no_end xs inner.1 h
open-no_end (Mark ∷ xs) inner h = open-no_end xs inner.1 h
open-no_end (Pick w ∷ xs) inner h = open-no_end xs inner.1 h
open-no_end (Eos ∷ xs) inner h = inner.0
open-no_end (Abort ∷ xs) inner h = inner.0

pub no_end-open : (xs : List Message) → (HasEnd xs → ⊥) → IsOpen xs
no_end-open [] none = tt
no_end-open (Item x ∷ xs) none = (tt, no_end-open xs none)
no_end-open (Mark ∷ xs) none = (tt, no_end-open xs none)
no_end-open (Pick w ∷ xs) none = (tt, no_end-open xs none)
no_end-open (Eos ∷ xs) none = absurd (none tt)
no_end-open (Abort ∷ xs) none = absurd (none tt)

pub abort-end : (xs : List Message) → HasAbort xs → HasEnd xs
abort-end [] h = h
abort-end (Item x ∷ xs) h = abort-end xs h
abort-end (Mark ∷ xs) h = abort-end xs h
abort-end (Pick w ∷ xs) h = abort-end xs h
abort-end (Eos ∷ xs) h = tt
abort-end (Abort ∷ xs) h = tt

pub marks-carried : (xs : List Rec) → marks (carried xs) ≡ 0
marks-carried [] = refl
marks-carried (x ∷ xs) = marks-carried xs
