-- How the whole ins of a merge go on from what was taken at them.
use Rattle.std.proofs.Common.{◌≡◌, ℕ, zero, suc, ◌<◌, List, [], ◌∷◌, ◌++◌, length, map, get_or, sym, ap, ◌∙◌, refl, arith}
use Rattle.ff_rec.specs.Lines.{Rec}
use Rattle.ff_rec.specs.Streams.{at, items, closed, unaborted, GoesOn}
use Rattle.ff_node.specs.Runs.{Message, AllGoOn, AreOpen}
use Rattle.ff_unit.specs.CarriedLaws.{items-unaborted, items-closed, closed-behind}
use Rattle.ff_unit.specs.MessageLaws.{items-append, unaborted-closed}
use Rattle.ff_unit.specs.ShareLaws.{joined}
use Rattle.ff_unit.specs.StageTiedLaws.{IsClosed}

-- the records with which each in goes on
abbrev pub rests : (gots ins : List (List Message)) → AllGoOn gots ins → List (List Rec)
rests [] [] on = []
rests [] (ms ∷ ins) on = absurd on
rests (g ∷ gots) [] on = absurd on
rests (g ∷ gots) (ms ∷ ins) on = items on.0.more ∷ rests gots ins on.1

pub length-rests : (gots ins : List (List Message)) (on : AllGoOn gots ins) → length (rests gots ins on) ≡ length gots
length-rests [] [] on = refl
length-rests [] (ms ∷ ins) on = absurd on
length-rests (g ∷ gots) [] on = absurd on
length-rests (g ∷ gots) (ms ∷ ins) on = ap suc (length-rests gots ins on.1)

pub length-goes_on : (gots ins : List (List Message)) → AllGoOn gots ins → length ins ≡ length gots
length-goes_on [] [] on = refl
length-goes_on [] (ms ∷ ins) on = absurd on
length-goes_on (g ∷ gots) [] on = absurd on
length-goes_on (g ∷ gots) (ms ∷ ins) on = ap suc (length-goes_on gots ins on.1)

-- an in that goes on carries what was taken and the rest
items-goes_on : (g ms : List Message) (on : GoesOn (unaborted g) ms) → items ms ≡ items g ++ items on.more
items-goes_on g ms on =
    sym (items-closed ms) ∙ ap items on.is ∙ items-append (unaborted g) on.more ∙ ap (λ l. l ++ items on.more) (items-unaborted g)

pub items-rests : (gots ins : List (List Message)) (on : AllGoOn gots ins) (j : ℕ) → items (at ins j) ≡ items (at gots j) ++ get_or (rests gots ins on) j []
items-rests [] [] on j = refl
items-rests [] (ms ∷ ins) on j = absurd on
items-rests (g ∷ gots) [] on j = absurd on
items-rests (g ∷ gots) (ms ∷ ins) on zero = items-goes_on g ms on.0
items-rests (g ∷ gots) (ms ∷ ins) on (suc j) = items-rests gots ins on.1 j

-- an in that has ended goes on with nothing
rest-closed : (g ms : List Message) → IsClosed g → (on : GoesOn (unaborted g) ms) → on.more ≡ []
rest-closed g ms c on =
    closed-behind ms c.inner on.more on.inner (on.is ∙ ap (λ l. unaborted l ++ on.more) c.is ∙ ap (λ l. l ++ on.more) (unaborted-closed c.inner c.open_inner))

pub rests-closed : (gots ins : List (List Message)) (on : AllGoOn gots ins) → ((j : ℕ) → j < length gots → IsClosed (at gots j)) → joined (rests gots ins on) ≡ []
rests-closed [] [] on c = refl
rests-closed [] (ms ∷ ins) on c = absurd on
rests-closed (g ∷ gots) [] on c = absurd on
rests-closed (g ∷ gots) (ms ∷ ins) on c =
    ap (λ l. items l ++ joined (rests gots ins on.1)) (rest-closed g ms (c 0 (omega arith)) on.0)
    ∙ rests-closed gots ins on.1 (λ j below. c (suc j) (omega (arith, below)))

-- lists each of which was closed by its one Eos
pub record AreClosed (gots : List (List Message)) : Type 0 where
  pub inner : List (List Message)
  pub opens : AreOpen inner
  pub are : gots ≡ map closed inner

pub AreClosed-each : (gots : List (List Message)) → ((j : ℕ) → j < length gots → IsClosed (at gots j)) → AreClosed gots
AreClosed-each [] c = record { inner = []; opens = tt; are = refl }
AreClosed-each (g ∷ gots) c =
    let first = c 0 (omega arith) in
    let rest = AreClosed-each gots (λ j below. c (suc j) (omega (arith, below))) in record {
      inner = first.inner ∷ rest.inner;
      opens = (first.open_inner, rest.opens);
      are = ap (λ l. l ∷ gots) first.is ∙ ap (λ ls. closed first.inner ∷ ls) rest.are;
    }
