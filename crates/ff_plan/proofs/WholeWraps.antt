-- The law of a wrap in a whole run: its master's log is done, or is past the limit.
use Rattle.std.proofs.Common.{◌≡◌, ◌⊎◌, ℕ, suc, ◌+◌, ◌<◌, ◌≤◌, List, [], ◌∷◌, ◌++◌, map, length, sym, ap, ap₂, ◌∙◌, subst, append-nil, inl, inr, arith}
use Rattle.std.specs.List.{AllByRecursion, flat_map}
use Rattle.std.proofs.lemmas.Bool.{cases_lt}
use Rattle.ff_rec.specs.Lines.{Rec}
use Rattle.ff_rec.specs.Streams.{at, carried}
use Rattle.ff_rec.specs.Weights.{Same, weigh}
use Rattle.ff_rec.proofs.WeightLaws.{weigh-append, weigh-flat_map}
use Rattle.ff_node.specs.Behaviour.{Behaviour, KeepsKind}
use Rattle.ff_node.specs.Classes.{ClassLaw}
use Rattle.ff_node.specs.Comb.{CombIsPipeline}
use Rattle.ff_node.specs.Fits.{grouped, IsItemOrMark}
use Rattle.ff_node.specs.Runs.{Message}
use Rattle.ff_net.specs.declared.net.Test.{Test}
use Rattle.ff_net.specs.Good.{Good, PlainNode}
use Rattle.ff_net.specs.Levels.{IsOver, over_levels, results}
use Rattle.ff_net.specs.Logs.{Event, fed, given_to, came, came_out, Within, IsLegal, FitsMaster, AreMasterIns, CarryTasks, HasDone, HasOverrun}
use Rattle.ff_net.specs.Meaning.{mean, mean_rejected}
use Rattle.ff_net.specs.Places.{child}
use Rattle.ff_net.specs.Tree.{Tree, Wrap}
use Rattle.ff_plan.specs.declared.kind.UnitKind.TheVariants.{Worker}
use Rattle.ff_plan.specs.Histories.{all_rejected}
use Rattle.ff_plan.specs.Laying.{lay, copies}
use Rattle.ff_plan.specs.LogLaws.{IsSound}
use Rattle.ff_plan.specs.Rows.{range}
use Rattle.ff_plan.proofs.Dealing.{carried-one}
use Rattle.ff_plan.proofs.Fronts.{items_or_marks}
use Rattle.ff_plan.proofs.LevelWeights.{over_levels-weigh}
use Rattle.ff_plan.proofs.LogCounts.{given_to-total}
use Rattle.ff_plan.proofs.LogLevels.{IsOver-came, IsAll, IsAll-done}
use Rattle.ff_plan.proofs.Masters.{calm_of}
use Rattle.ff_plan.proofs.Opens.{View, Known, KnownOf, HasAnswer, Outcome, LawOf}
use Rattle.ff_plan.proofs.PlainWorkers.{worker_sends, worker_rejects, mean-worker, rejected-worker, mean_rejected-worker}
use Rattle.ff_plan.proofs.Views.{whole_view}
use Rattle.ff_plan.proofs.Wraps.{at-front, at-range, at-behind, NoMaster-workers, workers_give, workers_reject, IsSound-groups}

module _ {N : Type 0} (b : Behaviour N) (keeps : KeepsKind b) (law : (o : N) → ClassLaw b o (b.class o)) (combed : CombIsPipeline b)
    (m n : ℕ) (w : Tree N) (p : Test) (plain : PlainNode b w) (good : Good b w) (edge : ℕ → List Message) where
  means : mean b m w ≡ flat_map (worker_sends b w)
  means = mean-worker b keeps law combed m w plain good

  abbrev view : View N
  view = whole_view b m edge

  module _ (place : List ℕ) (i o e : ℕ) (log : List Event) (logs : List (List Event)) (xs : List Rec) (in_i : carried xs ≡ edge i)
      (workers : Known b m view (copies Worker (child place 1) w e (e + n) n) logs) where
    -- the lists at the ports of its master
    abbrev ins : List (List Message)
    ins = map edge (i ∷ range (e + n) n)

    abbrev outs : List (List Message)
    outs = map edge (range e n ++ o ∷ [])

    -- each worker answers all its tasks
    answered : (j : ℕ) → j < n → (ts : List Rec) → at outs j ≡ carried ts
        → at (map edge (range (e + n) n)) j ≡ grouped (map (worker_sends b w) ts)
    answered j below ts carries =
        at-range edge (e + n) n j below
        ∙ sym (workers_give b m view (child place 1) w e (e + n) n logs workers j below ts (sym carries ∙ at-front edge e n (o ∷ []) j below))

    pub are_ins : FitsMaster n m p log ins outs → AreMasterIns n ins
    are_ins fits = record {
      records = xs;
      fed_in = sym in_i;
      answers = λ j below.
          let given = fits.tasks j below in
          subst (AllByRecursion IsItemOrMark) (sym (answered j below given.0 given.1)) (items_or_marks (map (worker_sends b w) given.0));
    }

    pub sound_of : IsLegal n m p log → CarryTasks n log ins outs → IsSound n (worker_sends b w) log
    sound_of legal carry = IsSound-groups n m p (worker_sends b w) log legal (λ j below.
        let owed = grouped (map (worker_sends b w) (given_to j log)) in
        let got = carry.answers j below in
        ([], got.0, append-nil owed ∙ sym (answered j below (given_to j log) (carry.tasks j below)) ∙ got.1))

    -- past the limit
    pub is_over : IsLegal n m p log → IsSound n (worker_sends b w) log → Within (fed log) xs → m < length (came p log) → IsOver (mean b m w) p m xs
    is_over legal sound feeds more =
        subst (λ (f : List Rec → List Rec). IsOver f p m xs) (sym means) (IsOver-came n m p (worker_sends b w) log legal sound xs feeds more)

    over_outcome : IsLegal n m p log → IsSound n (worker_sends b w) log → Within (fed log) xs → m < length (came p log)
        → Outcome b m view (Wrap n w p) (lay place (Wrap n w p) i o e) (log ∷ logs) o xs
    over_outcome legal sound feeds more = inr ((λ fine. fine (is_over legal sound feeds more)), inl more)

    -- what was fed in is all of it
    pub fed_is : HasDone n m p log ins outs → fed log ≡ xs
    fed_is has = carried-one (fed log) xs (sym has.fed_in ∙ sym in_i)

    module _ (legal : IsLegal n m p log) (has : HasDone n m p log ins outs)
        (few : length (came p log) ≤ m) where
      pub did_all : IsAll n m p (worker_sends b w) log
      did_all = IsAll-done n m p (worker_sends b w) log legal (sound_of legal has.workers) has.done few

      carry : (j : ℕ) → j < n → edge (e + j) ≡ carried (given_to j log)
      carry j below = sym (at-front edge e n (o ∷ []) j below) ∙ has.workers.tasks j below

      rejects : Same (mean_rejected b m (Wrap n w p) xs) (all_rejected b (lay place (Wrap n w p) i o e) edge)
      rejects = record {
        by = λ h.
            let k : Rec → ℕ = λ t. weigh h (worker_rejects b w t) in
            ap₂ (λ (f : List Rec → List Rec) (us : List Rec). weigh h (over_levels (mean_rejected b m w) f p (suc m) us)) means (sym (fed_is has))
            ∙ over_levels-weigh (worker_sends b w) p (mean_rejected b m w) h k
            (λ us. (mean_rejected-worker b keeps law combed m w plain good us).by h ∙ weigh-flat_map h (worker_rejects b w) us) (suc m) (fed log)
            ∙ sym (did_all.tasks.by k)
            ∙ sym (given_to-total n m p log legal k)
            ∙ sym (workers_reject b m view (child place 1) w (rejected-worker b keeps law combed m w plain good)
            edge h e (e + n) n (λ j. given_to j log) carry);
      }

      pub fine : ¬ IsOver (mean b m w) p m xs
      fine = λ over. did_all.fine (subst (λ (us : List Rec). IsOver (flat_map (worker_sends b w)) p m us) (sym (fed_is has))
          (subst (λ (f : List Rec → List Rec). IsOver f p m xs) means over))

      pub all_results : Same (results (mean b m w) p m xs) (came_out p log)
      all_results = subst (λ (us : List Rec). Same (results (mean b m w) p m us) (came_out p log)) (fed_is has)
          (subst (λ (f : List Rec → List Rec). Same (results f p m (fed log)) (came_out p log)) (sym means) did_all.results)

      -- done within it
      done_outcome : HasAnswer b m view (Wrap n w p) (lay place (Wrap n w p) i o e) (log ∷ logs) o xs
      done_outcome = record {
        fine = fine;
        ys = came_out p log;
        out = sym has.results ∙ at-behind edge e n o;
        same = all_results;
        rejects = λ whole. rejects;
        calm = λ over. elim over [
          | inl here ↦ omega (arith, here, few)
          | inr there ↦ calm_of view (λ l log. KnownOf b m view l.row.kind l log) (copies Worker (child place 1) w e (e + n) n) logs
              (NoMaster-workers (child place 1) w e (e + n) n) workers there
        ];
      }

    outcome : FitsMaster n m p log ins outs
        → Outcome b m view (Wrap n w p) (lay place (Wrap n w p) i o e) (log ∷ logs) o xs
    outcome fits = by (fits.by (are_ins fits))
      where
        by : IsLegal n m p log × (HasDone n m p log ins outs ⊎ HasOverrun n m p log ins outs)
            → Outcome b m view (Wrap n w p) (lay place (Wrap n w p) i o e) (log ∷ logs) o xs
        by (legal, inl has) = elim (cases_lt m (length (came p log))) [
          | inl more ↦ over_outcome legal (sound_of legal has.workers) (record { by = λ h. omega (arith, ap (weigh h) (fed_is has)) }) more
          | inr few ↦ inl (done_outcome legal has few)
        ]
        by (legal, inr has) =
            let all : xs ≡ fed log ++ has.rest = carried-one xs (fed log ++ has.rest) (in_i ∙ has.fed_in) in
            over_outcome legal (sound_of legal has.workers) (record { by = λ h. omega (arith, ap (weigh h) all, weigh-append h (fed log) has.rest) }) has.over

  pub law_wrap_whole : LawOf b m (whole_view b m edge) (Wrap n w p)
  law_wrap_whole place i o e [] xs known in_i = absurd known
  law_wrap_whole place i o e (log ∷ logs) xs known in_i = outcome place i o e log logs xs in_i known.1 known.0
