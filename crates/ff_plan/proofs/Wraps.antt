-- The units of a wrap: what its workers give for the tasks that they are given, and that the log of its master is so sound.
use Rattle.std.proofs.Common.{◌≡◌, ℕ, zero, suc, ◌+◌, ◌<◌, List, [], ◌∷◌, ◌++◌, map, refl, sym, ap, ◌∙◌, subst, append-nil, arith}
use Rattle.std.specs.List.{flat_map}
use Rattle.std.proofs.lemmas.List.{length-map}
use Rattle.ff_rec.specs.Lines.{Rec}
use Rattle.ff_rec.specs.Streams.{at, carried, items}
use Rattle.ff_rec.specs.Weights.{weigh}
use Rattle.ff_rec.proofs.WeightLaws.{weigh-append, weigh-flat_map}
use Rattle.ff_node.specs.Behaviour.{Behaviour, node_rejected}
use Rattle.ff_node.specs.Comb.{comb_node}
use Rattle.ff_node.specs.Fits.{FitsWorker, grouped}
use Rattle.ff_node.specs.Runs.{Message}
use Rattle.ff_net.specs.declared.net.Test.{Test}
use Rattle.ff_net.specs.Logs.{Event, given_to, got_from, IsLegal}
use Rattle.ff_net.specs.Tree.{Tree}
use Rattle.ff_plan.specs.declared.kind.UnitKind.TheVariants.{Worker}
use Rattle.ff_plan.specs.Histories.{group_of, all_rejected}
use Rattle.ff_plan.specs.Laying.{copies}
use Rattle.ff_plan.specs.LogLaws.{IsSound}
use Rattle.ff_plan.specs.Rows.{laid, range}
use Rattle.ff_plan.proofs.Copies.{total-first}
use Rattle.ff_plan.proofs.EdgeLists.{AllOn-front, AllOn-behind}
use Rattle.ff_plan.proofs.Fronts.{grouped-map, grouped-front}
use Rattle.ff_plan.proofs.LogCounts.{got_from-length}
use Rattle.ff_plan.proofs.Masters.{NoMaster}
use Rattle.ff_plan.proofs.Messages.{items-carried}
use Rattle.ff_plan.proofs.Opens.{View, IsOpen, Known}
use Rattle.ff_plan.proofs.PlainWorkers.{worker_sends, worker_rejects}
use Rattle.ff_plan.proofs.Runs.{AllOn-map}
use Rattle.ff_plan.proofs.Totals.{total}
use Rattle.ff_plan.proofs.UnitLists.{AllOn-one}

-- the list of the edge with number j of a row of edges, and of the one behind them
pub at-front : (edge : ℕ → List Message) (e n : ℕ) (es : List ℕ) (j : ℕ) → j < n → at (map edge (range e n ++ es)) j ≡ edge (e + j)
at-front edge e n es j below = AllOn-front (λ k ms. ms ≡ edge k) e n es (map edge (range e n ++ es)) (AllOn-map edge (range e n ++ es)) j below

pub at-range : (edge : ℕ → List Message) (e n j : ℕ) → j < n → at (map edge (range e n)) j ≡ edge (e + j)
at-range edge e n j below = ap (λ (es : List ℕ). at (map edge es) j) (sym (append-nil (range e n))) ∙ at-front edge e n [] j below

pub at-behind : (edge : ℕ → List Message) (e n o : ℕ) → at (map edge (range e n ++ o ∷ [])) n ≡ edge o
at-behind edge e n o = AllOn-behind (λ k ms. ms ≡ edge k) e n o (map edge (range e n ++ o ∷ [])) (AllOn-map edge (range e n ++ o ∷ []))

-- no worker is a master
pub NoMaster-workers : {N : Type 0} (place : List ℕ) (w : Tree N) (i o n : ℕ) → NoMaster (copies Worker place w i o n)
NoMaster-workers place w i o zero = tt
NoMaster-workers place w i o (suc n) = ((λ is. absurd (cc is)), NoMaster-workers place w (suc i) (suc o) n)

module _ {N : Type 0} (b : Behaviour N) (m : ℕ) (v : View N) (place : List ℕ) (w : Tree N) where
  -- a worker gives a group for each of its tasks
  worker_gives : (i o : ℕ) (log : List Event) (ts : List Rec) → IsOpen b m v (laid Worker (i ∷ []) (o ∷ []) place w) log
      → v.In i (carried ts) → v.Out o (grouped (map (worker_sends b w) ts))
  worker_gives i o log ts opens in_i =
      let lists = opens.by (carried ts ∷ []) (in_i, tt) in
      let fits : FitsWorker (comb_node b) (group_of b w) (carried ts ∷ []) lists.0 = lists.2 in
      subst (v.Out o) (fits.tasks ts refl ∙ sym (grouped-map (worker_sends b w) ts)) (AllOn-one v.Out o lists.0 lists.1)

  -- and so does each of several
  pub workers_give : (i o n : ℕ) (logs : List (List Event)) → Known b m v (copies Worker place w i o n) logs → (j : ℕ) → j < n → (ts : List Rec)
      → v.In (i + j) (carried ts) → v.Out (o + j) (grouped (map (worker_sends b w) ts))
  workers_give i o zero logs known j below ts in_j = absurd (omega (arith, below))
  workers_give i o (suc n) [] known j below ts in_j = absurd known
  workers_give i o (suc n) (log ∷ logs) known zero below ts in_j =
      let from : i + 0 ≡ i = omega arith in
      let to : o ≡ o + 0 = omega arith in
      subst (λ k. v.Out k (grouped (map (worker_sends b w) ts))) to (worker_gives i o log ts known.0 (subst (λ k. v.In k (carried ts)) from in_j))
  workers_give i o (suc n) (log ∷ logs) known (suc j) below ts in_j =
      let from : i + suc j ≡ suc i + j = omega arith in
      let to : suc o + j ≡ o + suc j = omega arith in
      subst (λ k. v.Out k (grouped (map (worker_sends b w) ts))) to
      (workers_give (suc i) (suc o) n logs known.1 j (omega (arith, below)) ts (subst (λ k. v.In k (carried ts)) from in_j))

  -- what they reject together is what they reject for each of their tasks
  pub workers_reject : ((xs : List Rec) → node_rejected (comb_node b) (group_of b w) xs ≡ flat_map (worker_rejects b w) xs)
      → (edge : ℕ → List Message) (h : Rec → ℕ) (i o n : ℕ) (ts : ℕ → List Rec) → ((j : ℕ) → j < n → edge (i + j) ≡ carried (ts j))
      → weigh h (all_rejected b (copies Worker place w i o n) edge) ≡ total n (λ j. weigh (λ t. weigh h (worker_rejects b w t)) (ts j))
  workers_reject each edge h i o zero ts carry = refl
  workers_reject each edge h i o (suc n) ts carry =
      let from : i ≡ i + 0 = omega arith in
      let reject : List Rec → List Rec = node_rejected (comb_node b) (group_of b w) in
      let first : reject (items (edge i)) ≡ flat_map (worker_rejects b w) (ts 0) =
      ap reject (ap items (ap edge from ∙ carry 0 (omega arith)) ∙ items-carried (ts 0)) ∙ each (ts 0) in
      let next : (j : ℕ) → suc i + j ≡ i + suc j = λ j. omega arith in
      let rest = workers_reject each edge h (suc i) (suc o) n (λ j. ts (suc j)) (λ j below. ap edge (next j) ∙ carry (suc j) (omega (arith, below))) in
      omega (
        arith,
        weigh-append h (reject (items (edge i))) (all_rejected b (copies Worker place w (suc i) (suc o) n) edge),
        ap (weigh h) first,
        weigh-flat_map h (worker_rejects b w) (ts 0),
        rest,
        total-first n (λ j. weigh (λ t. weigh h (worker_rejects b w t)) (ts j)),
      )

-- where the answers that a worker owes begin with those that were got from it, the log is sound
pub IsSound-groups : (n m : ℕ) (p : Test) (send : Rec → List Rec) (log : List Event) → IsLegal n m p log
    → ((j : ℕ) → j < n → (us : List Message) × (vs : List Message) × (grouped (map send (given_to j log)) ++ us ≡ grouped (got_from j log) ++ vs))
    → IsSound n send log
IsSound-groups n m p send log legal begin = record {
  by = λ j below.
      let all = begin j below in
      grouped-front (map send (given_to j log)) (got_from j log) all.0 all.1 all.2
      (omega (arith, got_from-length n m p log legal j, length-map (given_to j log) send));
}
