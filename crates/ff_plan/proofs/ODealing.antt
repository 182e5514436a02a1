-- What ordered deals put on their edges, and ordered merges on theirs.
use Rattle.std.proofs.Common.{◌≡◌, ℕ, zero, suc, ◌+◌, ◌-◌, ◌<◌, List, [], ◌∷◌, ◌++◌, map, length, length-append, refl, sym, ap, ◌∙◌, subst, append-nil, arith}
use Rattle.std.proofs.lemmas.List.{length-map}
use Rattle.std.specs.List.{flat_map}
use Rattle.ff_rec.specs.Lines.{Rec}
use Rattle.ff_rec.specs.Streams.{at, carried}
use Rattle.ff_rec.specs.declared.msg.Msg.TheVariants.{Pick}
use Rattle.ff_rec.proofs.WeightLaws.{weigh-one}
use Rattle.ff_rec.specs.Weights.{weigh}
use Rattle.ff_node.specs.Behaviour.{Behaviour}
use Rattle.ff_node.specs.Fits.{IsMarkedDeal, FitsStrictODeal, FitsFreeODeal, FitsTurnMerge, FitsPickMerge, HoldGroups, marked, grouped, gather, marks, all_marks}
use Rattle.ff_node.specs.Picks.{ArePicks, share, turns}
use Rattle.ff_node.specs.Runs.{Message}
use Rattle.ff_net.specs.declared.net.Sched.{Sched}
use Rattle.ff_net.specs.declared.net.Sched.TheVariants.{Rr as InTurn, Od as OnDemand}
use Rattle.ff_net.specs.Counts.{pick_edges}
use Rattle.ff_net.specs.Logs.{Event}
use Rattle.ff_net.specs.Tree.{Tree}
use Rattle.ff_plan.specs.declared.kind.UnitKind.TheVariants.{ODealRr, OMergeTurn}
use Rattle.ff_plan.specs.Histories.{FitsKind}
use Rattle.ff_plan.specs.Laying.{odeal_kind, omerge_kind}
use Rattle.ff_plan.specs.Rows.{range, laid}
use Rattle.ff_plan.proofs.EdgeLists.{AllOn-front, AllOn-behind, AllOn-append, OnRange-each}
use Rattle.ff_plan.proofs.Grouped.{marks-grouped}
use Rattle.ff_plan.proofs.Opens.{View, AllOn, KnownOf}
use Rattle.ff_plan.proofs.Shares.{total-weigh-share, gather-share, picked-share}
use Rattle.ff_plan.proofs.Totals.{total, total-same}
use Rattle.ff_plan.proofs.Copies.{total-first}
use Rattle.ff_plan.proofs.UnitLists.{OnRange, AllOn-one, AllOn-listed, listed, at-listed, length-range}

-- how the merge learns the picks: they are in turn, or stand on edge `p`
abbrev pub TellsPicks : (ℕ → List Message → Type 0) → Sched → ℕ → ℕ → List Rec → List ℕ → Type 0
TellsPicks On InTurn n p xs picks = picks ≡ turns n (length xs)
TellsPicks On OnDemand n p xs picks = On p (map (λ w. Pick w) picks)

pub told_on : {N : Type 0} (v : View N) (s : Sched) (n p : ℕ) (xs : List Rec) (picks : List ℕ) → TellsPicks v.Out s n p xs picks → TellsPicks v.In s n p xs picks
told_on v InTurn n p xs picks told = told
told_on v OnDemand n p xs picks told = v.link p (map (λ w. Pick w) picks) told

-- each of `n` edges from `e` on may carry its share of `xs`, each record in a group of its own
pub record ODeals {N : Type 0} (v : View N) (s : Sched) (e n p : ℕ) (xs : List Rec) : Type 0 where
  pub picks : List ℕ
  pub are : ArePicks n picks xs
  pub out : OnRange v.Out e n (λ j. marked (share picks xs j))
  pub told : TellsPicks v.Out s n p xs picks

-- one edge stands behind the others
length-behind : (e n p : ℕ) → length (range e n ++ p ∷ []) - 1 ≡ n
length-behind e n p = omega (arith, length-append (range e n) (p ∷ []), length-range e n)

-- the lists of the others, and that of the one
at-front : (n : ℕ) (f : ℕ → List Message) (last : List Message) (j : ℕ) → j < n → at (listed n f ++ last ∷ []) j ≡ f j
at-front zero f last j below = absurd (omega (arith, below))
at-front (suc n) f last zero below = refl
at-front (suc n) f last (suc j) below = at-front n (λ k. f (suc k)) last j (omega (arith, below))

at-behind : (n : ℕ) (f : ℕ → List Message) (last : List Message) → at (listed n f ++ last ∷ []) n ≡ last
at-behind zero f last = refl
at-behind (suc n) f last = at-behind n (λ k. f (suc k)) last

all_marks-listed : (n : ℕ) (f : ℕ → List Message) → all_marks (listed n f) ≡ total n (λ j. marks (f j))
all_marks-listed zero f = refl
all_marks-listed (suc n) f = ap (λ k. marks (f 0) + k) (all_marks-listed n (λ j. f (suc j))) ∙ sym (total-first n (λ j. marks (f j)))

module _ (send : Rec → List Rec) (n : ℕ) (xs : List Rec) (picks : List ℕ) (are : ArePicks n picks xs) where
  -- what each worker gives: for each record of its share what it sends
  abbrev pub groups_at : ℕ → List (List Rec)
  groups_at j = map send (share picks xs j)

  -- as many Marks as records
  all_marks-groups : all_marks (listed n (λ j. grouped (groups_at j))) ≡ length xs
  all_marks-groups =
      all_marks-listed n (λ j. grouped (groups_at j))
      ∙ total-same n (λ j. marks (grouped (groups_at j))) (λ j. weigh (λ x. 1) (share picks xs j))
      (λ j below. marks-grouped (groups_at j) ∙ length-map (share picks xs j) send ∙ sym (weigh-one (share picks xs j)))
      ∙ total-weigh-share are (λ x. 1)
      ∙ weigh-one xs

  hold_groups : (ins : List (List Message)) → ((j : ℕ) → j < n → at ins j ≡ grouped (groups_at j)) → HoldGroups n picks ins groups_at
  hold_groups ins each j below = (each j below, length-map (share picks xs j) send ∙ picked-share are j below)

module _ {N : Type 0} (b : Behaviour N) (m : ℕ) (v : View N) (place : List ℕ) (t : Tree N) (log : List Event) where
  ordered_shares : (e n : ℕ) (fs : List ℕ) (picks : List ℕ) (xs : List Rec) (outs : List (List Message)) → AllOn v.Out (range e n ++ fs) outs → IsMarkedDeal n picks xs outs
      → OnRange v.Out e n (λ j. marked (share picks xs j))
  ordered_shares e n fs picks xs outs all dealt =
      OnRange-each v.Out e n (λ j. marked (share picks xs j)) (λ j below. subst (v.Out (e + j)) (dealt.shares j below) (AllOn-front v.Out e n fs outs all j below))

  -- an ordered deal
  pub deals_in_order : (s : Sched) (i e n p : ℕ) (xs : List Rec)
      → KnownOf b m v (odeal_kind s) (laid (odeal_kind s) (i ∷ []) (range e n ++ range p (pick_edges s)) place t) log → v.In i (carried xs) → ODeals v s e n p xs
  deals_in_order InTurn i e n p xs known from =
      let given = known.by (carried xs ∷ []) (from, tt) in
      let long : length (range e n ++ []) ≡ n = ap length (append-nil (range e n)) ∙ length-range e n in
      let fits : FitsStrictODeal n (carried xs ∷ []) given.0 = subst (λ k. FitsKind b m ODealRr t 1 k log (carried xs ∷ []) given.0) long given.2 in
      let dealt = fits.2 xs refl in
      record {
        picks = turns n (length xs);
        are = dealt.picks_are;
        out = ordered_shares e n [] (turns n (length xs)) xs given.0 given.1 dealt;
        told = refl;
      }
  deals_in_order OnDemand i e n p xs known from =
      let given = known.by (carried xs ∷ []) (from, tt) in
      let fits : FitsFreeODeal n (carried xs ∷ []) given.0 = subst (λ k. FitsFreeODeal k (carried xs ∷ []) given.0) (length-behind e n p) given.2 in
      let dealt = fits.2 xs refl in
      record {
        picks = dealt.0;
        are = dealt.1.picks_are;
        out = ordered_shares e n (p ∷ []) dealt.0 xs given.0 given.1 dealt.1;
        told = subst (v.Out p) dealt.2 (AllOn-behind v.Out e n p given.0 given.1);
      }

  -- an ordered merge
  pub merges_in_order : (s : Sched) (send : Rec → List Rec) (e n p o : ℕ) (xs : List Rec) (picks : List ℕ) → ArePicks n picks xs
      → KnownOf b m v (omerge_kind s) (laid (omerge_kind s) (range e n ++ range p (pick_edges s)) (o ∷ []) place t) log
      → OnRange v.In e n (λ j. grouped (map send (share picks xs j))) → TellsPicks v.In s n p xs picks → v.Out o (carried (flat_map send xs))
  merges_in_order InTurn send e n p o xs picks are known from told =
      let groups : ℕ → List (List Rec) = groups_at send n xs picks are in
      let ins : List (List Message) = listed n (λ j. grouped (groups j)) in
      let given = known.by ins (subst (λ es. AllOn v.In es ins) (sym (append-nil (range e n))) (AllOn-listed v.In e n (λ j. grouped (groups j)) from)) in
      let long : length (range e n ++ []) ≡ n = ap length (append-nil (range e n)) ∙ length-range e n in
      let fits : FitsTurnMerge n ins given.0 = subst (λ k. FitsKind b m OMergeTurn t k 1 log ins given.0) long given.2 in
      let turned : turns n (all_marks ins) ≡ picks = ap (turns n) (all_marks-groups send n xs picks are) ∙ sym told in
      let merged = subst (λ ps. HoldGroups n ps ins groups → at given.0 0 ≡ carried (gather ps groups)) turned (fits.2 groups) in
      let sent : at given.0 0 ≡ carried (flat_map send xs) =
      merged (hold_groups send n xs picks are ins (at-listed n (λ j. grouped (groups j)))) ∙ ap carried (gather-share send are) in
      subst (v.Out o) sent (AllOn-one v.Out o given.0 given.1)
  merges_in_order OnDemand send e n p o xs picks are known from told =
      let groups : ℕ → List (List Rec) = groups_at send n xs picks are in
      let last : List Message = map (λ w. Pick w) picks in
      let ins : List (List Message) = listed n (λ j. grouped (groups j)) ++ last ∷ [] in
      let given = known.by ins (AllOn-append v.In (range e n) (p ∷ []) (listed n (λ j. grouped (groups j))) (last ∷ []) (AllOn-listed v.In e n (λ j. grouped (groups j)) from) (told, tt)) in
      let fits : FitsPickMerge n ins given.0 = subst (λ k. FitsPickMerge k ins given.0) (length-behind e n p) given.2 in
      let held = hold_groups send n xs picks are ins (at-front n (λ j. grouped (groups j)) last) in
      let sent : at given.0 0 ≡ carried (flat_map send xs) =
      fits.2 picks groups (at-behind n (λ j. grouped (groups j)) last) are.within held ∙ ap carried (gather-share send are) in
      subst (v.Out o) sent (AllOn-one v.Out o given.0 given.1)
