-- The law of a wrap in a run that was cut short: what its master put begins an answer, as far as no more tasks can come than the limit allows.
use Rattle.std.proofs.Common.{◌≡◌, ℕ, suc, ◌+◌, ◌<◌, ◌≤◌, List, [], ◌∷◌, ◌++◌, map, length, refl, sym, ap, ◌∙◌, subst, append_assoc, inl, inr, arith}
use Rattle.std.specs.List.{AllByRecursion, flat_map}
use Rattle.std.proofs.lemmas.Bool.{cases_lt}
use Rattle.ff_rec.specs.Lines.{Rec}
use Rattle.ff_rec.specs.Streams.{at, carried, unaborted, GoesOn}
use Rattle.ff_rec.specs.Weights.{Same, weigh}
use Rattle.ff_rec.specs.declared.msg.Msg.TheVariants.{Eos}
use Rattle.ff_rec.proofs.WeightLaws.{Same-sym, weigh-append}
use Rattle.ff_node.specs.Behaviour.{Behaviour, KeepsKind}
use Rattle.ff_node.specs.Classes.{ClassLaw}
use Rattle.ff_node.specs.Comb.{CombIsPipeline}
use Rattle.ff_node.specs.Fits.{grouped, IsItemOrMark}
use Rattle.ff_node.specs.Runs.{Message}
use Rattle.ff_net.specs.declared.net.Test.{Test}
use Rattle.ff_net.specs.Good.{Good, PlainNode}
use Rattle.ff_net.specs.Levels.{IsOver, levels, results}
use Rattle.ff_net.specs.Logs.{Event, fed, given_to, got_from, came, came_out, Within, HasEos, BeginsLogged, BeginsMaster}
use Rattle.ff_net.specs.Meaning.{mean}
use Rattle.ff_net.specs.Places.{child}
use Rattle.ff_net.specs.Tree.{Tree, Wrap}
use Rattle.ff_plan.specs.declared.kind.UnitKind.TheVariants.{Worker}
use Rattle.ff_plan.specs.Laying.{lay, copies}
use Rattle.ff_plan.specs.LogLaws.{IsSound}
use Rattle.ff_plan.specs.Rows.{range}
use Rattle.ff_plan.proofs.EdgeLists.{AllOn-each}
use Rattle.ff_plan.proofs.Fronts.{items_or_marks, IsOpen-carried, GoesOn-closed, GoesOn-open, HasEos-unaborted, before-eos, carried-front, closed-front}
use Rattle.ff_plan.proofs.LogLevels.{IsOver-came, Within-results, IsAll-done}
use Rattle.ff_plan.proofs.Opens.{View, Known, HasAnswer, Outcome, LawOf}
use Rattle.ff_plan.proofs.PlainWorkers.{worker_sends, mean-worker}
use Rattle.ff_plan.proofs.Runs.{AllOn-AllGoOn}
use Rattle.ff_plan.proofs.UnitLists.{listed, at-listed}
use Rattle.ff_plan.proofs.Views.{cut_view}
use Rattle.ff_plan.proofs.Withins.{Within-rest}
use Rattle.ff_plan.proofs.Wraps.{at-front, at-range, at-behind, workers_give, IsSound-groups}

module _ {N : Type 0} (b : Behaviour N) (keeps : KeepsKind b) (law : (o : N) → ClassLaw b o (b.class o)) (combed : CombIsPipeline b)
    (m n : ℕ) (w : Tree N) (p : Test) (plain : PlainNode b w) (good : Good b w)
    (got put : ℕ → List Message) (first : (e : ℕ) → (rest : List Message) × (put e ≡ got e ++ rest)) where
  means : mean b m w ≡ flat_map (worker_sends b w)
  means = mean-worker b keeps law combed m w plain good

  abbrev view : View N
  view = cut_view b m got put first

  module _ (place : List ℕ) (i o e : ℕ) (log : List Event) (logs : List (List Event)) (xs : List Rec) (in_i : GoesOn (unaborted (got i)) (carried xs))
      (workers : Known b m view (copies Worker (child place 1) w e (e + n) n) logs)
      (begins : BeginsMaster n m p log (map got (i ∷ range (e + n) n)) (map put (range e n ++ o ∷ []))) where
    -- what a worker may be given in the end, if it gets no more tasks
    given_whole : (j : ℕ) → j < n → GoesOn (unaborted (put (e + j))) (carried (given_to j log))
    given_whole j below =
        let whole = begins.tasks j below in
        record {
          inner = IsOpen-carried (given_to j log);
          more = whole.more;
          is = whole.is ∙ ap (λ ms. unaborted ms ++ whole.more) (at-front put e n (o ∷ []) j below);
        }

    answered : (j : ℕ) → j < n → GoesOn (unaborted (got (e + n + j))) (grouped (map (worker_sends b w) (given_to j log)))
    answered j below =
        let owed = grouped (map (worker_sends b w) (given_to j log)) in
        view.link (e + n + j) owed
        (workers_give b m view (child place 1) w e (e + n) n logs workers j below (given_to j log) (view.link (e + j) (carried (given_to j log)) (given_whole j below)))

    -- so what it took begins what its ins may carry
    logged : BeginsLogged n m p log (map got (i ∷ range (e + n) n)) (map put (range e n ++ o ∷ []))
    logged =
        let owed : ℕ → List Message = λ j. grouped (map (worker_sends b w) (given_to j log)) in
        let goes = AllOn-each (λ k ms. GoesOn (unaborted (got k)) ms) (e + n) n owed answered in
        begins.by (carried xs ∷ listed n owed) (in_i, AllOn-AllGoOn got (range (e + n) n) (listed n owed) goes) (record {
          records = xs;
          fed_in = refl;
          answers = λ j below. subst (AllByRecursion IsItemOrMark) (sym (at-listed n owed j below)) (items_or_marks (map (worker_sends b w) (given_to j log)));
        })

    sound : IsSound n (worker_sends b w) log
    sound = IsSound-groups n m p (worker_sends b w) log begins.legal (λ j below.
        let goes = answered j below in
        let so_far = logged.answers j below in (
          Eos ∷ [],
          so_far.0 ++ goes.more,
          goes.is
              ∙ ap (λ ms. unaborted ms ++ goes.more) (sym (at-range got (e + n) n j below))
              ∙ ap (λ ms. ms ++ goes.more) so_far.1
              ∙ append_assoc (grouped (got_from j log)) so_far.0 goes.more,
        ))

    feeds : Within (fed log) xs
    feeds =
        let so_far = logged.fed_in in
        let all = carried-front xs (fed log) (so_far.0 ++ in_i.more)
        (in_i.is ∙ ap (λ ms. ms ++ in_i.more) so_far.1 ∙ append_assoc (carried (fed log)) so_far.0 in_i.more) in
        record { by = λ h. omega (arith, ap (weigh h) all.1, weigh-append h (fed log) all.0) }

    answer : ¬ IsOver (flat_map (worker_sends b w)) p m xs → (ys : List Rec) → GoesOn (unaborted (put o)) (carried ys)
        → Same (results (flat_map (worker_sends b w)) p m xs) ys → HasAnswer b m view (Wrap n w p) (lay place (Wrap n w p) i o e) (log ∷ logs) o xs
    answer fine ys out same = record {
      fine = λ over. fine (subst (λ (f : List Rec → List Rec). IsOver f p m xs) means over);
      ys = ys;
      out = out;
      same = subst (λ (f : List Rec → List Rec). Same (results f p m xs) ys) (sym means) same;
      rejects = λ whole. absurd whole;
      calm = tt;
    }

    few_came : ¬ IsOver (flat_map (worker_sends b w)) p m xs → length (came p log) ≤ m
    few_came fine = elim (cases_lt m (length (came p log))) [
      | inl more ↦ absurd (fine (IsOver-came n m p (worker_sends b w) log begins.legal sound xs feeds more))
      | inr few ↦ few
    ]

    -- it put all
    all_put : ¬ IsOver (flat_map (worker_sends b w)) p m xs → HasEos (put o)
        → HasAnswer b m view (Wrap n w p) (lay place (Wrap n w p) i o e) (log ∷ logs) o xs
    all_put fine eos =
        let has : HasEos (at (map put (range e n ++ o ∷ [])) n) = subst HasEos (sym (at-behind put e n o)) eos in
        let whole = logged.whole has (few_came fine) in
        let all = IsAll-done n m p (worker_sends b w) log begins.legal sound (logged.ends n (omega arith) has).1 (few_came fine) in
        let fed_is : xs ≡ fed log = closed-front xs (fed log) in_i.more (in_i.is ∙ ap (λ ms. ms ++ in_i.more) whole.0) in
        answer fine (came_out p log) (GoesOn-closed (unaborted (put o)) (came_out p log) (ap unaborted (sym (at-behind put e n o)) ∙ whole.2))
        (subst (λ (us : List Rec). Same (results (flat_map (worker_sends b w)) p m us) (came_out p log)) (sym fed_is) all.results)

    -- it may put more
    some_put : ¬ IsOver (flat_map (worker_sends b w)) p m xs → (rest : List Message) → carried (came_out p log) ≡ unaborted (put o) ++ rest
        → HasAnswer b m view (Wrap n w p) (lay place (Wrap n w p) i o e) (log ∷ logs) o xs
    some_put fine rest is =
        let more = Within-rest (came_out p log) (results (flat_map (worker_sends b w)) p m xs)
        (Within-results n m p (worker_sends b w) log begins.legal sound xs feeds fine) in
        answer fine (came_out p log ++ more.0) (GoesOn-open (unaborted (put o)) rest (came_out p log) more.0 is) (Same-sym more.1)

    outcome : Outcome b m view (Wrap n w p) (lay place (Wrap n w p) i o e) (log ∷ logs) o xs
    outcome = elim (cases_lt m (length (levels (flat_map (worker_sends b w)) p (suc m) xs))) [
      | inl over ↦
          let is_over : IsOver (mean b m w) p m xs = subst (λ (f : List Rec → List Rec). IsOver f p m xs) (sym means) over in
          inr ((λ fine. fine is_over), tt)
      | inr few ↦
          let fine : ¬ IsOver (flat_map (worker_sends b w)) p m xs = λ over. omega (arith, over, few) in
          let so_far = logged.results (few_came fine) in
          let put_is = so_far.is ∙ ap (λ ms. unaborted ms ++ so_far.more) (at-behind put e n o) in
          elim (before-eos (carried (came_out p log)) (unaborted (put o)) so_far.more put_is) [
            | inl eos ↦ inl (all_put fine (HasEos-unaborted (put o) eos))
            | inr rest ↦ inl (some_put fine rest.0 rest.1)
          ]
    ]

  pub law_wrap_cut : LawOf b m (cut_view b m got put first) (Wrap n w p)
  law_wrap_cut place i o e [] xs known in_i = absurd known
  law_wrap_cut place i o e (log ∷ logs) xs known in_i = outcome place i o e log logs xs in_i known.1 known.0
