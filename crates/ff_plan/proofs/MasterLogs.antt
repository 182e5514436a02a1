-- What the log of a master says in a whole run: each task was done once, where it isn't over its limit.
use Rattle.std.proofs.Common.{◌≡◌, ◌⊎◌, ℕ, suc, ◌+◌, ◌≤◌, List, [], ◌∷◌, ◌++◌, map, length, sym, ap, ◌∙◌, subst, append-nil, inl, inr, arith}
use Rattle.std.specs.List.{flat_map}
use Rattle.std.proofs.Math.Path.{fun_ext}
use Rattle.std.proofs.lemmas.Bool.{cases_lt}
use Rattle.ff_rec.specs.Lines.{Rec}
use Rattle.ff_rec.specs.Streams.{at, carried, items}
use Rattle.ff_rec.specs.Weights.{Same, weigh}
use Rattle.ff_rec.proofs.WeightLaws.{Same-sym, weigh-append}
use Rattle.ff_node.specs.Behaviour.{Behaviour, KeepsKind}
use Rattle.ff_node.specs.Classes.{ClassLaw}
use Rattle.ff_node.specs.Comb.{CombIsPipeline}
use Rattle.ff_node.specs.Runs.{Message}
use Rattle.ff_net.specs.declared.net.Test.{Test}
use Rattle.ff_net.specs.Good.{Good, PlainNode}
use Rattle.ff_net.specs.Levels.{levels, results}
use Rattle.ff_net.specs.Logs.{Event, fed, given, given_to, got_from, came, came_out, IsLegal, FitsMaster, HasDone, HasOverrun}
use Rattle.ff_net.specs.Meaning.{mean}
use Rattle.ff_net.specs.Places.{child}
use Rattle.ff_net.specs.Tree.{Tree}
use Rattle.ff_plan.specs.declared.kind.UnitKind.TheVariants.{Worker}
use Rattle.ff_plan.specs.Laying.{copies}
use Rattle.ff_plan.specs.LogLaws.{answer_for, IsSound, EachTaskOnce, LogLaw}
use Rattle.ff_plan.specs.Rows.{range}
use Rattle.ff_plan.proofs.Dealing.{carried-one}
use Rattle.ff_plan.proofs.LogAnswers.{got_from-all}
use Rattle.ff_plan.proofs.LogLevels.{IsAll}
use Rattle.ff_plan.proofs.Messages.{items-carried}
use Rattle.ff_plan.proofs.Opens.{Known}
use Rattle.ff_plan.proofs.PlainWorkers.{worker_sends, mean-worker}
use Rattle.ff_plan.proofs.Views.{whole_view}
use Rattle.ff_plan.proofs.WholeWraps.{is_over, are_ins, sound_of, fed_is, did_all, fine, all_results}

module _ {N : Type 0} (b : Behaviour N) (keeps : KeepsKind b) (law : (o : N) → ClassLaw b o (b.class o)) (combed : CombIsPipeline b) (m : ℕ) where
  module _ (n : ℕ) (w : Tree N) (p : Test) (plain : PlainNode b w) (good : Good b w) (edge : ℕ → List Message) where
    means : mean b m w ≡ flat_map (worker_sends b w)
    means = mean-worker b keeps law combed m w plain good

    alone : worker_sends b w ≡ answer_for b m w
    alone = fun_ext (λ t. sym (ap (λ (f : List Rec → List Rec). f (t ∷ [])) means ∙ append-nil (worker_sends b w t)))

    module _ (place : List ℕ) (i o e : ℕ) (log : List Event) (logs : List (List Event)) (xs : List Rec) (in_i : carried xs ≡ edge i)
        (workers : Known b m (whole_view b m edge) (copies Worker (child place 1) w e (e + n) n) logs) where
      abbrev ins : List (List Message)
      ins = map edge (i ∷ range (e + n) n)

      abbrev outs : List (List Message)
      outs = map edge (range e n ++ o ∷ [])

      task_once : (legal : IsLegal n m p log) → HasDone n m p log ins outs → length (came p log) ≤ m → EachTaskOnce b m n w p log xs (at outs n)
      task_once legal has few =
          let sound : IsSound n (worker_sends b w) log = sound_of b keeps law combed m n w p plain good edge place i o e log logs xs in_i workers legal has.workers in
          let did : IsAll n m p (worker_sends b w) log = did_all b keeps law combed m n w p plain good edge place i o e log logs xs in_i workers legal has few in
          let is : fed log ≡ xs = fed_is b keeps law combed m n w p plain good edge place i o e log logs xs in_i workers has in record {
            done = has.done;
            fed_in = is;
            given_once = did.given_once;
            tasks = subst (λ (us : List Rec). Same (levels (mean b m w) p (suc m) us) (given log)) is
                (subst (λ (f : List Rec → List Rec). Same (levels f p (suc m) (fed log)) (given log)) (sym means) (Same-sym did.tasks));
            answered = λ j below. subst (λ (send : Rec → List Rec). got_from j log ≡ map send (given_to j log)) alone
                (got_from-all n m p (worker_sends b w) log sound j below (has.done.all_got j below));
            carries = has.results;
            results = subst (λ (ys : List Rec). Same (results (mean b m w) p m xs) ys) (sym (ap items has.results ∙ items-carried (came_out p log)))
                (all_results b keeps law combed m n w p plain good edge place i o e log logs xs in_i workers legal has few);
          }

      log_law : IsLegal n m p log × (HasDone n m p log ins outs ⊎ HasOverrun n m p log ins outs) → LogLaw b m n w p log xs (at outs n)
      log_law (legal, inl has) =
          let sound : IsSound n (worker_sends b w) log = sound_of b keeps law combed m n w p plain good edge place i o e log logs xs in_i workers legal has.workers in
          let is : fed log ≡ xs = fed_is b keeps law combed m n w p plain good edge place i o e log logs xs in_i workers has in record {
            legal = legal;
            sound = subst (λ (send : Rec → List Rec). IsSound n send log) alone sound;
            over = λ over. is_over b keeps law combed m n w p plain good edge place i o e log logs xs in_i workers legal sound
                (record { by = λ h. omega (arith, ap (weigh h) is) }) over;
            past = λ over. elim (cases_lt m (length (came p log))) [
              | inl past ↦ past
              | inr few ↦ absurd (fine b keeps law combed m n w p plain good edge place i o e log logs xs in_i workers legal has few over)
            ];
            once = λ within. elim (cases_lt m (length (came p log))) [
              | inl past ↦ absurd (within past)
              | inr few ↦ task_once legal has few
            ];
          }
      log_law (legal, inr has) =
          let sound : IsSound n (worker_sends b w) log = sound_of b keeps law combed m n w p plain good edge place i o e log logs xs in_i workers legal has.workers in
          let all_fed : xs ≡ fed log ++ has.rest = carried-one xs (fed log ++ has.rest) (in_i ∙ has.fed_in) in record {
            legal = legal;
            sound = subst (λ (send : Rec → List Rec). IsSound n send log) alone sound;
            over = λ over. is_over b keeps law combed m n w p plain good edge place i o e log logs xs in_i workers legal sound
                (record { by = λ h. omega (arith, ap (weigh h) all_fed, weigh-append h (fed log) has.rest) }) over;
            past = λ over. has.over;
            once = λ within. absurd (within has.over);
          }

      pub master_law : FitsMaster n m p log ins outs → LogLaw b m n w p log xs (at outs n)
      master_law fits = log_law (fits.by (are_ins b keeps law combed m n w p plain good edge place i o e log logs xs in_i workers fits))
