-- A wrap's master puts what it holds first, and stays tied to its ports.
use Rattle.std.specs.Prelude.{◌≡◌, ◌+◌, ◌<◌, ◌≤◌, ◌==◌, ℕ, zero, suc, Bool, true, false, List, [], ◌∷◌, ◌++◌, None}
use Rattle.std.proofs.Common.{sym, ap, ◌∙◌, subst, arith, cond, append-nil, append_assoc}
use Rattle.ff_rec.specs.Streams.{IsOpen, IsOpenMsg, added, unaborted}
use Rattle.ff_rec.specs.declared.msg.Msg.TheVariants.{Eos as EosMsg, Abort as AbortMsg}
use Rattle.ff_net.specs.Logs.{HasEos, BeginsWhole, came_out, given_to}
use Rattle.ff_node.specs.Runs.{Message}
use Rattle.ff_unit.specs.DealPairLaws.{Pair, IsInner, AreInner, on, on-append, on-other, AllByRecursion-back}
use Rattle.ff_unit.specs.DealRowLaws.{ArePut-added}
use Rattle.ff_unit.specs.Deals.{on_outs, MayBeRefused}
use Rattle.ff_unit.specs.declared.mode.Mode.{Mode}
use Rattle.ff_unit.specs.declared.mode.Mode.TheVariants.{Live, Shut, Cut}
use Rattle.ff_loop.specs.Rounds.{test_of, workers_of, log_of}
use Rattle.ff_loop.specs.WrapMasters.{WrapState}
use Rattle.ff_loop.specs.WrapTiedLaws.{IsTold, TiedWorks, TiedShut, TiedCut, TiedAt, BareAt, IsBare, IsTied}

-- one out more is told
pub IsTold-next : (m : Message) (n : ℕ) (held ps : List Pair) (k : ℕ) (first : Message) (held' : List Pair) → held ≡ (k, first) ∷ held' → IsTold m n held ps
    → (k < n) × IsTold m n held' (ps ++ (k, first) ∷ [])
IsTold-next m n held ps k first held' is t = by t.left t.within (sym is ∙ t.are) t.inner
  where
    by : (left : ℕ) → t.next + left ≤ n → (k, first) ∷ held' ≡ on_outs t.next left m → ((j : ℕ) → t.next ≤ j → j < t.next + left → IsOpen (on j ps))
        → (k < n) × IsTold m n held' (ps ++ (k, first) ∷ [])
    by zero within are inner = let h : (k, first) ∷ held' ≡ [] = are in cc
    by (suc left) within are inner =
        let h : (k, first) ∷ held' ≡ (t.next, m) ∷ on_outs (suc t.next) left m = are in
        let pair : ◌≡◌ {A = Pair} (k, first) (t.next, m) = cc in
        let rest : held' ≡ on_outs (suc t.next) left m = cc in
        let out : k ≡ t.next = ap (λ (p : Pair). p.0) pair in (
          omega (arith, within, out),
          record {
            next = suc t.next;
            left = left;
            within = omega (arith, within);
            are = rest;
            inner = λ j from below. subst IsOpen
                (sym (on-append j ps ((k, first) ∷ []) ∙ ap (λ l. on j ps ++ l) (on-other k j first [] (λ e. omega (arith, e, out, from))) ∙ append-nil (on j ps)))
                (inner j (omega (arith, from)) (omega (arith, below)));
          },
        )

-- what is told isn't refused
pub IsTold-refuses : (m : Message) (n : ℕ) (held ps : List Pair) → (IsOpenMsg m → ⊥) → IsTold m n held ps → MayBeRefused None held → ⊥
IsTold-refuses m n held ps last t refused = by t.left (subst (MayBeRefused None) t.are refused)
  where
    by : (left : ℕ) → MayBeRefused None (on_outs t.next left m) → ⊥
    by zero h = h
    by (suc left) h = last h

-- where nothing is held for an out, nothing is once less is held
on-less : (j : ℕ) (pair : Pair) (held : List Pair) → on j (pair ∷ held) ≡ [] → on j held ≡ []
on-less j pair held = by (pair.0 == j)
  where
    by : (e : Bool) → cond e (pair.1 ∷ on j held) (on j held) ≡ [] → on j held ≡ []
    by true h = cc
    by false h = h

module _ (u : WrapState) (g : List (List Message)) (ps : List Pair) (k : ℕ) (m : Message) (held : List Pair) (first : u.held ≡ (k, m) ∷ held) where
  -- what was put and is held stays
  all_same : (ps ++ (k, m) ∷ []) ++ held ≡ ps ++ u.held
  all_same = append_assoc ps ((k, m) ∷ []) held ∙ ap (λ l. ps ++ l) (sym first)

  gave-works : TiedWorks u g ps → (k < suc (workers_of u.round)) × TiedWorks (record u { held = held }) g (ps ++ (k, m) ∷ [])
  gave-works t = (
    (subst (AreInner (suc (workers_of u.round))) first (AllByRecursion-back (IsInner (suc (workers_of u.round))) ps u.held t.inner)).0.0,
    record {
      end = t.end;
      goes_on = t.goes_on;
      inner = subst (AreInner (suc (workers_of u.round))) (sym all_same) t.inner;
      tasks = λ j below. ap (on j) all_same ∙ t.tasks j below;
      results = ap (on (workers_of u.round)) all_same ∙ t.results;
      fed_in = t.fed_in;
      answers = t.answers;
      owes = t.owes;
    },
  )

  gave-shut : TiedShut u g ps → (k < suc (workers_of u.round)) × TiedShut (record u { held = held }) g (ps ++ (k, m) ∷ [])
  gave-shut t =
      let next = IsTold-next EosMsg (suc (workers_of u.round)) u.held ps k m held first t.telling in (
        next.0,
        record {
          end = t.end;
          none_left = t.none_left;
          no_result = t.no_result;
          all_got = t.all_got;
          tasks = λ j below. ap (on j) all_same ∙ t.tasks j below;
          results = ap (on (workers_of u.round)) all_same ∙ t.results;
          fed_in = t.fed_in;
          ended_0 = t.ended_0;
          answers = t.answers;
          telling = next.1;
          last_alone = λ off j below. on-less j (k, m) held (ap (on j) (sym first) ∙ t.last_alone off j below);
        },
      )

  gave-cut : TiedCut u g ps → (k < suc (workers_of u.round)) × TiedCut (record u { held = held }) g (ps ++ (k, m) ∷ [])
  gave-cut t =
      let next = IsTold-next AbortMsg (suc (workers_of u.round)) u.held ps k m held first t.telling in (
        next.0,
        record {
          end = t.end;
          tasks = λ j below. subst (λ l. BeginsWhole (unaborted (on j l)) (given_to j (log_of u.round))) (sym all_same) (t.tasks j below);
          results = λ few. subst (λ l. BeginsWhole (unaborted (on (workers_of u.round) l)) (came_out (test_of u.round) (log_of u.round))) (sym all_same) (t.results few);
          ends = λ j below has. t.ends j below (subst (λ l. HasEos (on j l)) all_same has);
          last_open = λ has. t.last_open (subst (λ l. HasEos (on (workers_of u.round) l)) all_same has);
          fed_in = t.fed_in;
          answers = t.answers;
          telling = next.1;
        },
      )

  gave-at : (mode : Mode) → TiedAt mode u g ps → (k < suc (workers_of u.round)) × BareAt mode (record u { held = held }) g (ps ++ (k, m) ∷ [])
  gave-at Live t = gave-works t.0
  gave-at Shut t = gave-shut t
  gave-at Cut t = gave-cut t

-- what is held first is put
pub gave-bare : (u w : WrapState) (gots puts : List (List Message)) → IsTied u gots puts → (k : ℕ) (m : Message) → u.held ≡ (k, m) ∷ w.held
    → w ≡ record u { held = w.held } → IsBare w gots (added puts k m)
gave-bare u w gots puts t k m first same =
    let next = gave-at u gots t.given k m w.held first u.mode t.tied in
    let bare : IsBare (record u { held = w.held }) gots (added puts k m) = record {
      some = t.some;
      ins = t.ins;
      flags = t.flags;
      parts_are = t.parts_are;
      round = t.round;
      logged = t.logged;
      over = t.over;
      cause = t.cause;
      ended = λ done. let h : (k, m) ∷ w.held ≡ [] = sym first ∙ (t.ended done).0 in cc;
      given = t.given ++ (k, m) ∷ [];
      puts_are = ArePut-added (suc (workers_of u.round)) puts t.given k m next.0 t.puts_are;
      tied = next.1;
    } in
    subst (λ x. IsBare x gots (added puts k m)) (sym same) bare
