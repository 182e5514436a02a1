-- What a loop over the tasks of a division comes to.
use Rattle.std.proofs.Common.{◌≡◌, ℕ, ◌≤◌, List, [], length, Option, Some, IsSome, ℤ, refl, ap, ◌∙◌, sym, subst, arith}
use Rattle.ff_spawn.specs.Counts.{RoseBy}
use Rattle.ff_dc.specs.declared.rule.DcRule.{DcRule}
use Rattle.ff_dc.specs.Spans.{Span}
use Rattle.ff_dc.specs.Rules.{value}
use Rattle.ff_dc.specs.Dividing.{IsAsked}
use Rattle.ff_dc.specs.Divisions.{division, part_count}
use Rattle.ff_loop.specs.Events.{backs, AreAnswered}
use Rattle.ff_loop.specs.Moves.{events_on}
use Rattle.ff_tasks.specs.Loops.{AllAnswer, KeepsAnswers, LoopRan}
use Rattle.ff_dc_tasks.specs.declared.task.DcTask.{DcTask}
use Rattle.ff_dc_tasks.specs.Tasks.{answer_of}
use Rattle.ff_dc_tasks.specs.Told.{DcEvent}
use Rattle.ff_dc_tasks.specs.Dividers.{DividerState, IsOpened, divider_does}
use Rattle.ff_dc_tasks.proofs.Ends.{values-idle, backs-idle, values-answered}

module _ {H : Type 0} {answers : H → DcTask → List ℤ} {handlers : List H} {s s' : DividerState} {w w' : ℕ} (rule : DcRule) (cut : ℕ) (whole : Span)
    (opened : IsOpened rule cut whole s) (ran : LoopRan divider_does answers handlers s s' w w') where
  -- what it was made with
  abbrev Asked : Type 0
  Asked = DcRule × ℕ × Span

  made_with : ◌≡◌ {A = Asked} (s'.rule, s'.walk.cut, s'.walk.whole) (rule, cut, whole)
  made_with =
      let begun : ◌≡◌ {A = Asked} (s.rule, s.walk.cut, s.walk.whole) (rule, cut, whole) =
      ap (λ (r : DcRule). (r, s.walk.cut, s.walk.whole)) opened.rule ∙ ap (λ (k : ℕ). (rule, k, s.walk.whole)) opened.cut
      ∙ ap (λ (p : Span). (rule, cut, p)) opened.whole in
      ran.kind ∙ begun

  pub values-ran : IsSome s'.values
  values-ran =
      let whole_values : (v : List ℤ) × (s'.values ≡ Some v) = values-idle s' ran.right ran.idle in
      subst (λ (o : Option (List ℤ)). IsSome o) (sym whole_values.1) refl

  pub value-ran : (ns : List ℤ) (v : List ℤ) → KeepsAnswers divider_does answers handlers s s' → AllAnswer answers (answer_of rule ns) handlers
      → IsAsked rule cut ns whole → s'.values ≡ Some v → v ≡ value rule ns whole
  value-ran ns v keeps alike asked is =
      let answered : AreAnswered (answer_of rule ns) s'.events =
      keeps (answer_of rule ns) alike (subst (λ (log : List DcEvent). AreAnswered (answer_of rule ns) log) (sym opened.events) tt) in
      subst (λ (k : Asked). IsAsked k.0 k.1 ns k.2 → AreAnswered (answer_of k.0 ns) s'.events → v ≡ value k.0 ns k.2) made_with
      (λ it all. values-answered ns s' ran.right it all v is) asked answered

  pub work-ran : RoseBy (part_count (division rule cut whole)) w w'
  work-ran =
      let enough : part_count (division rule cut whole) ≤ length (backs s'.events) =
      subst (λ (k : Asked). part_count (division k.0 k.1 k.2) ≤ length (backs s'.events)) made_with (backs-idle s' ran.right ran.idle) in
      let same : s'.events ≡ events_on [] ran.log = ran.events ∙ ap (λ (log : List DcEvent). events_on log ran.log) opened.events in
      omega (arith, enough, ran.work, ap (λ (log : List DcEvent). length (backs log)) same)
