-- What deals and merges put on their edges: a deal the shares of what it takes, and a merge a list of which it took the shares.
use Rattle.std.proofs.Common.{◌≡◌, ℕ, ◌+◌, ◌<◌, List, [], ◌∷◌, length, refl, ◌∙◌, sym, ap, subst}
use Rattle.ff_rec.specs.Lines.{Rec}
use Rattle.ff_rec.specs.Streams.{carried, items}
use Rattle.ff_node.specs.Behaviour.{Behaviour}
use Rattle.ff_node.specs.Fits.{IsDealt, FitsMerge}
use Rattle.ff_node.specs.Picks.{ArePicks, share, turns, by_key}
use Rattle.ff_node.specs.Runs.{Message}
use Rattle.ff_net.specs.Logs.{Event}
use Rattle.ff_net.specs.Tree.{Tree}
use Rattle.ff_plan.specs.declared.kind.UnitKind.TheVariants.{DealRr, DealOd, DealBy, Merge}
use Rattle.ff_plan.specs.Histories.{FitsKind}
use Rattle.ff_plan.specs.Rows.{range, laid}
use Rattle.ff_plan.proofs.EdgeLists.{AllOn-range}
use Rattle.ff_plan.proofs.Opens.{View, AllOn, KnownOf}
use Rattle.ff_plan.proofs.Single.{items-carried}
use Rattle.ff_plan.proofs.UnitLists.{AllOn-one, listed, map-listed, at-listed, length-range}

-- each of `n` edges from `e` on may carry its share of `xs`
pub record Deals {N : Type 0} (v : View N) (e n : ℕ) (picks : List ℕ) (xs : List Rec) : Type 0 where
  pub are : ArePicks n picks xs
  pub out : (j : ℕ) → j < n → v.Out (e + j) (carried (share picks xs j))

-- edge `o` may carry a list of which list `j` is share j
pub record Merges {N : Type 0} (v : View N) (o n : ℕ) (lists : ℕ → List Rec) : Type 0 where
  pub ys : List Rec
  pub picks : List ℕ
  pub are : ArePicks n picks ys
  pub parts : (j : ℕ) → j < n → share picks ys j ≡ lists j
  pub out : v.Out o (carried ys)

pub carried-one : (xs ys : List Rec) → carried xs ≡ carried ys → xs ≡ ys
carried-one xs ys e = sym (items-carried xs) ∙ ap items e ∙ items-carried ys

module _ {N : Type 0} (b : Behaviour N) (m : ℕ) (v : View N) (place : List ℕ) (t : Tree N) (log : List Event) where
  Deals-dealt : (e n : ℕ) (picks : List ℕ) (xs : List Rec) (outs : List (List Message)) → AllOn v.Out (range e n) outs → IsDealt n picks xs outs → Deals v e n picks xs
  Deals-dealt e n picks xs outs all dealt = record {
    are = dealt.picks_are;
    out = λ j below. subst (v.Out (e + j)) (dealt.shares j below) (AllOn-range v.Out e n outs all j below);
  }

  -- a deal in turn
  pub deals_in_turn : (i e n : ℕ) (xs : List Rec) → KnownOf b m v DealRr (laid DealRr (i ∷ []) (range e n) place t) log → v.In i (carried xs) → Deals v e n (turns n (length xs)) xs
  deals_in_turn i e n xs known from =
      let given = known.by (carried xs ∷ []) (from, tt) in
      let fits = subst (λ k. FitsKind b m DealRr t 1 k log (carried xs ∷ []) given.0) (length-range e n) given.2 in
      Deals-dealt e n (turns n (length xs)) xs given.0 given.1 (fits.1 xs refl)

  -- a deal on demand
  pub deals_on_demand : (i e n : ℕ) (xs : List Rec) → KnownOf b m v DealOd (laid DealOd (i ∷ []) (range e n) place t) log → v.In i (carried xs) → (picks : List ℕ) × Deals v e n picks xs
  deals_on_demand i e n xs known from =
      let given = known.by (carried xs ∷ []) (from, tt) in
      let fits = subst (λ k. FitsKind b m DealOd t 1 k log (carried xs ∷ []) given.0) (length-range e n) given.2 in
      let dealt = fits.1 xs refl in
      (dealt.0, Deals-dealt e n dealt.0 xs given.0 given.1 dealt.1)

  -- a deal by key
  pub deals_by_key : (f i e n : ℕ) (xs : List Rec) → KnownOf b m v (DealBy f) (laid (DealBy f) (i ∷ []) (range e n) place t) log → v.In i (carried xs) → Deals v e n (by_key f n xs) xs
  deals_by_key f i e n xs known from =
      let given = known.by (carried xs ∷ []) (from, tt) in
      let fits = subst (λ k. FitsKind b m (DealBy f) t 1 k log (carried xs ∷ []) given.0) (length-range e n) given.2 in
      Deals-dealt e n (by_key f n xs) xs given.0 given.1 (fits.1 xs refl)

  -- a merge
  pub merges : (es : List ℕ) (o n : ℕ) (lists : ℕ → List Rec) → KnownOf b m v Merge (laid Merge es (o ∷ []) place t) log → length es ≡ n
      → AllOn v.In es (listed n (λ j. carried (lists j))) → Merges v o n lists
  merges es o n lists known long from =
      let ins : List (List Message) = listed n (λ j. carried (lists j)) in
      let given = known.by ins from in
      let fits : FitsMerge n ins given.0 = subst (λ k. FitsKind b m Merge t k 1 log ins given.0) long given.2 in
      let merged = fits.2 (listed n lists) (sym (map-listed carried n lists)) in
      record {
        ys = merged.0;
        picks = merged.1;
        are = merged.3.picks_are;
        parts = λ j below. carried-one (share merged.1 merged.0 j) (lists j) (sym (merged.3.shares j below) ∙ at-listed n (λ k. carried (lists k)) j below);
        out = subst (v.Out o) merged.2 (AllOn-one v.Out o given.0 given.1);
      }
