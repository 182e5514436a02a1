-- On the way to the next part that isn't divided.
use Rattle.std.proofs.Common.{◌≡◌, ℕ, ◌+◌, ◌*◌, ◌^◌, ◌<◌, ◌≤◌, true, false, List, ◌∷◌, length, refl, ap, ◌∙◌, sym, subst}
use Rattle.ff_rec.specs.Weights.{weigh}
use Rattle.ff_dc.specs.declared.rule.DcRule.{DcRule}
use Rattle.ff_dc.specs.Spans.{Span, is_small}
use Rattle.ff_dc.specs.Rules.{divided}
use Rattle.ff_dc.specs.Divisions.{Division, division, part_count}
use Rattle.ff_dc_tasks.specs.declared.task.DcTask.{DcTask}
use Rattle.ff_dc_tasks.specs.declared.task.DcTask.TheVariants.{Seq}
use Rattle.ff_dc_tasks.specs.declared.todo.Later.{Later}
use Rattle.ff_dc_tasks.specs.declared.walk.Walk.{Walk}
use Rattle.ff_dc_tasks.specs.Paths.{IsLow, IsProper}
use Rattle.ff_dc_tasks.specs.Walks.{StandsAt, IsWalk, ComesTo, division_of, to_come, seqs_after}
use Rattle.ff_dc_tasks.proofs.WalkSteps.{number-small, number-below, path-small, at-small, StandsAt-small, weigh-small, length-large, weigh-large, StandsAt-large}

-- on the way to the next part that isn't divided: it is held out, and no task was passed over
pub record IsOnWay (rule : DcRule) (w : Walk) (here : Later) (now : Walk) : Type 0 where
  pub cut : now.cut ≡ w.cut
  pub whole : now.whole ≡ w.whole
  pub room : ℕ
  pub stands : StandsAt (division_of rule w) room now.number (here ∷ now.todo)
  pub first : (h : DcTask → ℕ) → weigh h (to_come rule w) ≡ weigh h (seqs_after now.number 0 (division_of rule w))

pub IsOnWay-begun : (rule : DcRule) (w : Walk) (here : Later) (todo : List Later) → IsWalk rule w → w.todo ≡ here ∷ todo
    → IsOnWay rule w here (record w { todo = todo })
IsOnWay-begun rule w here todo walk first = record {
  cut = refl;
  whole = refl;
  room = walk.room;
  stands = subst (StandsAt (division_of rule w) walk.room w.number) first walk.stands;
  first = λ h. refl;
}

module _ (rule : DcRule) (w : Walk) (walk : IsWalk rule w) (here : Later) (now : Walk) (on : IsOnWay rule w here now) where
  abbrev d : Division
  d = division_of rule w

  pub number-on_way : now.number + 1 ≤ 2 ^ 25
  number-on_way = number-small rule w.cut d walk.proper walk.low on.room now.number here now.todo on.stands

  pub number-left : now.number < part_count d
  number-left = number-below rule w.cut d walk.proper walk.low on.room now.number here now.todo on.stands

  pub path-on_way : here.path + 1 ≤ 2 ^ 25
  path-on_way = path-small rule w.cut d walk.proper walk.low on.room now.number here now.todo on.stands

  module _ (large : is_small here.part now.cut ≡ false) where
    large_here : is_small here.part w.cut ≡ false
    large_here = ap (λ (k : ℕ). is_small here.part k) (sym on.cut) ∙ large

    pub length-on_way : length now.todo < 24
    length-on_way = length-large rule w.cut d walk.proper walk.low on.room now.number here now.todo on.stands large_here

    pub IsOnWay-divided : (parts : Span × Span) (todo : List Later) → parts ≡ divided rule here.part
        → todo ≡ record { path = 2 * here.path + 1; part = parts.1 } ∷ now.todo
        → IsOnWay rule w (record { path = 2 * here.path; part = parts.0 }) (record now { todo = todo; number = now.number + 1 })
    IsOnWay-divided parts todo are more =
        let both = StandsAt-large rule w.cut d walk.proper walk.low on.room now.number here now.todo on.stands large_here in
        let held : (ps : Span × Span) → List Later = λ ps. record { path = 2 * here.path; part = ps.0 } ∷ record { path = 2 * here.path + 1; part = ps.1 } ∷ now.todo in
        record {
          cut = on.cut;
          whole = on.whole;
          room = both.0;
          stands = subst (λ (l : List Later). StandsAt d both.0 (now.number + 1) (record { path = 2 * here.path; part = parts.0 } ∷ l)) (sym more)
              (subst (λ (ps : Span × Span). StandsAt d both.0 (now.number + 1) (held ps)) (sym are) both.1);
          first = λ h. on.first h ∙ weigh-large rule w.cut d walk.proper walk.low on.room now.number here now.todo on.stands large_here h;
        }

  module _ (small : is_small here.part now.cut ≡ true) where
    small_here : is_small here.part w.cut ≡ true
    small_here = ap (λ (k : ℕ). is_small here.part k) (sym on.cut) ∙ small

    same_division : (n : ℕ) → division_of rule (record now { number = n }) ≡ d
    same_division n = ap (λ (k : ℕ). division rule k now.whole) on.cut ∙ ap (λ (s : Span). division rule w.cut s) on.whole

    pub ComesTo-small : ComesTo rule w (record { path = here.path; number = now.number }) here.part (record now { number = now.number + 1 })
    ComesTo-small = record {
      walk = record {
        proper = subst (λ (k : ℕ). IsProper rule k (division_of rule (record now { number = now.number + 1 }))) (sym on.cut)
            (subst (IsProper rule w.cut) (sym (same_division (now.number + 1))) walk.proper);
        low = subst (IsLow 24) (sym (same_division (now.number + 1))) walk.low;
        room = on.room + 1;
        stands = subst (λ (e : Division). StandsAt e (on.room + 1) (now.number + 1) now.todo) (sym (same_division (now.number + 1)))
            (StandsAt-small rule w.cut d walk.proper walk.low on.room now.number here now.todo on.stands small_here);
      };
      cut = on.cut;
      whole = on.whole;
      at = at-small rule w.cut d walk.proper walk.low on.room now.number here now.todo on.stands small_here;
      path = on.stands.0.path;
      first = λ h. on.first h ∙ weigh-small rule w.cut d walk.proper walk.low on.room now.number here now.todo on.stands small_here h
          ∙ ap (λ (e : Division). h (Seq now.number here.part) + weigh h (seqs_after (now.number + 1) 0 e)) (sym (same_division (now.number + 1)));
    }
