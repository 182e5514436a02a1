-- What whole ins are merged to: one list, which groups and picks they hold being read off them.
use Rattle.std.proofs.Common.{◌≡◌, ℕ, zero, suc, ◌<◌, ◌≤◌, List, [], ◌∷◌, ◌++◌, length, map, refl, sym, ap, ◌∙◌, subst, arith}
use Rattle.std.specs.List.{AllByRecursion}
use Rattle.ff_rec.specs.Lines.{Rec}
use Rattle.ff_rec.specs.Streams.{at, carried}
use Rattle.ff_rec.specs.declared.msg.Msg.TheVariants.{Item, Mark, Pick, Eos as EosMsg, Abort as AbortMsg}
use Rattle.ff_node.specs.Fits.{grouped, gather, HoldGroups, all_marks}
use Rattle.ff_node.specs.Picks.{turns, turns_from}
use Rattle.ff_node.specs.Runs.{Message}
use Rattle.ff_order.specs.GroupLaws.{gather-same}
use Rattle.ff_order.specs.OMerges.{omerge_ins, FitsOMerge}
use Rattle.ff_order.specs.OMergeTiedLaws.{ArePicksOf, Meets}
use Rattle.ff_order.specs.declared.order.Order.{Order}
use Rattle.ff_order.specs.declared.order.Order.TheVariants.{InTurn, ByPick}

-- a record in front of the first group
abbrev pub with_first : Rec → List (List Rec) → List (List Rec)
with_first x [] = (x ∷ []) ∷ []
with_first x (group ∷ rest) = (x ∷ group) ∷ rest

-- the groups and the picks that a list holds
abbrev pub groups_of : List Message → List (List Rec)
groups_of [] = []
groups_of (Item x ∷ ms) = with_first x (groups_of ms)
groups_of (Mark ∷ ms) = [] ∷ groups_of ms
groups_of (Pick w ∷ ms) = groups_of ms
groups_of (EosMsg ∷ ms) = groups_of ms
groups_of (AbortMsg ∷ ms) = groups_of ms

abbrev pub picks_of : List Message → List ℕ
picks_of [] = []
picks_of (Item x ∷ ms) = picks_of ms
picks_of (Mark ∷ ms) = picks_of ms
picks_of (Pick w ∷ ms) = w ∷ picks_of ms
picks_of (EosMsg ∷ ms) = picks_of ms
picks_of (AbortMsg ∷ ms) = picks_of ms

groups_of-group : (group : List Rec) (ms : List Message) → groups_of ((carried group ++ Mark ∷ []) ++ ms) ≡ group ∷ groups_of ms
groups_of-group [] ms = refl
groups_of-group (x ∷ group) ms = ap (with_first x) (groups_of-group group ms)

groups_of-grouped : (groups : List (List Rec)) → groups_of (grouped groups) ≡ groups
groups_of-grouped [] = refl
groups_of-grouped (group ∷ rest) = groups_of-group group (grouped rest) ∙ ap (λ gs. group ∷ gs) (groups_of-grouped rest)

picks_of-picks : (picks : List ℕ) → picks_of (map (λ w. Pick w) picks) ≡ picks
picks_of-picks [] = refl
picks_of-picks (w ∷ picks) = ap (λ l. w ∷ l) (picks_of-picks picks)

turns_from-within : (n k m : ℕ) → 1 ≤ n → AllByRecursion (λ w. w < n) (turns_from n k m)
turns_from-within n k zero some = tt
turns_from-within n k (suc m) some = (omega arith, turns_from-within n (suc k) m some)

-- all that whole ins are merged to
abbrev pub merged : Order → ℕ → List (List Message) → List Rec
merged InTurn n ins = gather (turns n (all_marks ins)) (λ j. groups_of (at ins j))
merged ByPick n ins = gather (picks_of (at ins n)) (λ j. groups_of (at ins j))

module _ (n : ℕ) (ins : List (List Message)) (picks : List ℕ) (groups : ℕ → List (List Rec)) (hold : HoldGroups n picks ins groups) where
  same_groups : (j : ℕ) → j < n → groups j ≡ groups_of (at ins j)
  same_groups j h = sym (ap groups_of (hold j h).0 ∙ groups_of-grouped (groups j))

  merged-by : (order : Order) → 1 ≤ n → ArePicksOf order n ins picks → gather picks groups ≡ merged order n ins
  merged-by InTurn some are =
      gather-same n picks groups (λ j. groups_of (at ins j)) (subst (AllByRecursion (λ w. w < n)) (sym are) (turns_from-within n 0 (all_marks ins) some)) same_groups
      ∙ ap (λ p. gather p (λ j. groups_of (at ins j))) are
  merged-by ByPick some are =
      gather-same n picks groups (λ j. groups_of (at ins j)) are.1 same_groups
      ∙ ap (λ p. gather p (λ j. groups_of (at ins j))) (sym (ap picks_of are.0 ∙ picks_of-picks picks))

pub gather-merged : (order : Order) (n : ℕ) (gots ins : List (List Message)) (picks : List ℕ) (groups : ℕ → List (List Rec)) → 1 ≤ n
    → Meets order n gots ins picks groups → gather picks groups ≡ merged order n ins
gather-merged order n gots ins picks groups some h = merged-by n ins picks groups h.hold order some h.picks_are

-- what is fitted, of both orders
pub FitsOMerge-from : (order : Order) (n : ℕ) (ins : List (List Message)) (out : List Rec) → length ins ≡ omerge_ins order n
    → ((picks : List ℕ) (groups : ℕ → List (List Rec)) → ArePicksOf order n ins picks → HoldGroups n picks ins groups → out ≡ gather picks groups)
    → FitsOMerge order n ins (carried out ∷ [])
FitsOMerge-from InTurn n ins out number h = (number, refl, λ groups hold. ap carried (h (turns n (all_marks ins)) groups refl hold))
FitsOMerge-from ByPick n ins out number h = (number, refl, λ picks groups told within hold. ap carried (h picks groups (told, within) hold))
