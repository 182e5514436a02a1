-- The two views of a run: whole, where one list stands on each edge, and cut short, where what was taken and put goes on to whole
-- lists.
use Rattle.std.proofs.Common.{◌≡◌, ◌⊎◌, ℕ, List, [], ◌∷◌, ◌++◌, map, refl, inl, inr}
use Rattle.ff_rec.specs.Streams.{unaborted, GoesOn}
use Rattle.ff_node.specs.Behaviour.{Behaviour}
use Rattle.ff_node.specs.Runs.{Message}
use Rattle.ff_net.specs.Logs.{Event}
use Rattle.ff_net.specs.Tree.{Tree}
use Rattle.ff_plan.specs.declared.kind.UnitKind.{UnitKind}
use Rattle.ff_plan.specs.declared.kind.UnitKind.TheVariants.{Stage, DealRr, DealOd, DealBy, Merge, ODealRr, ODealOd, OMergeTurn, OMergePick, Master, Worker}
use Rattle.ff_plan.specs.Histories.{FitsUnit, BeginsUnit, EachUnit, IsOverAt, SomeOver}
use Rattle.ff_plan.specs.Rows.{Laid}
use Rattle.ff_plan.proofs.Messages.{GoesOn-front}
use Rattle.ff_plan.proofs.Opens.{View}

-- no unit but a master is over its limit
pub IsOverAt-other : {N : Type 0} (m : ℕ) (kind : UnitKind) (t : Tree N) (log : List Event) → (kind ≡ Master → ⊥) → IsOverAt m kind t log → ⊥
IsOverAt-other m Stage t log other over = over
IsOverAt-other m DealRr t log other over = over
IsOverAt-other m DealOd t log other over = over
IsOverAt-other m (DealBy f) t log other over = over
IsOverAt-other m Merge t log other over = over
IsOverAt-other m ODealRr t log other over = over
IsOverAt-other m ODealOd t log other over = over
IsOverAt-other m OMergeTurn t log other over = over
IsOverAt-other m OMergePick t log other over = over
IsOverAt-other m Master t log other over = absurd (other refl)
IsOverAt-other m Worker t log other over = over

-- a master of two lists of units
pub SomeOver-append : {N : Type 0} (m : ℕ) (ls : List (Laid N)) (logs : List (List Event)) (ks : List (Laid N)) (kogs : List (List Event))
    → EachUnit (λ l log. Unit {0}) ls logs → SomeOver m (ls ++ ks) (logs ++ kogs) → SomeOver m ls logs ⊎ SomeOver m ks kogs
SomeOver-append m [] [] ks kogs logged over = inr over
SomeOver-append m [] (log ∷ logs) ks kogs logged over = absurd logged
SomeOver-append m (l ∷ ls) [] ks kogs logged over = absurd logged
SomeOver-append m (l ∷ ls) (log ∷ logs) ks kogs logged (inl here) = inl (inl here)
SomeOver-append m (l ∷ ls) (log ∷ logs) ks kogs logged (inr there) = elim (SomeOver-append m ls logs ks kogs logged.1 there) [ inl left ↦ inl (inr left) | inr right ↦ inr right ]

pub SomeOver-left : {N : Type 0} (m : ℕ) (ls : List (Laid N)) (logs : List (List Event)) (ks : List (Laid N)) (kogs : List (List Event)) → SomeOver m ls logs → SomeOver m (ls ++ ks) (logs ++ kogs)
SomeOver-left m [] logs ks kogs over = absurd over
SomeOver-left m (l ∷ ls) [] ks kogs over = absurd over
SomeOver-left m (l ∷ ls) (log ∷ logs) ks kogs (inl here) = inl here
SomeOver-left m (l ∷ ls) (log ∷ logs) ks kogs (inr there) = inr (SomeOver-left m ls logs ks kogs there)

pub SomeOver-right : {N : Type 0} (m : ℕ) (ls : List (Laid N)) (logs : List (List Event)) (ks : List (Laid N)) (kogs : List (List Event))
    → EachUnit (λ l log. Unit {0}) ls logs → SomeOver m ks kogs → SomeOver m (ls ++ ks) (logs ++ kogs)
SomeOver-right m [] [] ks kogs logged over = over
SomeOver-right m [] (log ∷ logs) ks kogs logged over = absurd logged
SomeOver-right m (l ∷ ls) [] ks kogs logged over = absurd logged
SomeOver-right m (l ∷ ls) (log ∷ logs) ks kogs logged over = inr (SomeOver-right m ls logs ks kogs logged.1 over)

-- a whole run, by the list on each edge
abbrev pub whole_view : {N : Type 0} → Behaviour N → ℕ → (ℕ → List Message) → View N
whole_view b m edge = record {
  In = λ e ms. ms ≡ edge e;
  Out = λ e ms. ms ≡ edge e;
  link = λ e ms is. is;
  Whole = Unit {0};
  edge = edge;
  is_edge = λ whole e ms is. is;
  AtMaster = λ l log. FitsUnit b m l log (map edge l.row.ins) (map edge l.row.outs);
  Calm = λ ls logs. SomeOver m ls logs → ⊥;
  Burst = λ ls logs. SomeOver m ls logs;
  calm_none = λ over. over;
  calm_unit = λ l log ls logs other calm over. elim over [ inl here ↦ IsOverAt-other m l.row.kind l.net log other here | inr there ↦ calm there ];
  calm_both = λ ls logs ks kogs logged left right over. elim (SomeOver-append m ls logs ks kogs logged over) [ inl here ↦ left here | inr there ↦ right there ];
  burst_left = λ ls logs ks kogs logged over. SomeOver-left m ls logs ks kogs over;
  burst_right = λ ls logs ks kogs logged over. SomeOver-right m ls logs ks kogs logged over;
}

-- a run that was cut short, by what was taken from each edge and what was put on it. Of masters nothing is said but that they began
abbrev pub cut_view : {N : Type 0} → Behaviour N → ℕ → (got put : ℕ → List Message) → ((e : ℕ) → (rest : List Message) × (put e ≡ got e ++ rest)) → View N
cut_view b m got put first = record {
  In = λ e ms. GoesOn (unaborted (got e)) ms;
  Out = λ e ms. GoesOn (unaborted (put e)) ms;
  link = λ e ms goes. GoesOn-front (put e) (got e) (first e).0 ms (first e).1 goes;
  Whole = ⊥;
  edge = put;
  is_edge = λ whole e ms goes. absurd whole;
  AtMaster = λ l log. BeginsUnit b m l log (map got l.row.ins) (map put l.row.outs);
  Calm = λ ls logs. Unit {0};
  Burst = λ ls logs. Unit {0};
  calm_none = tt;
  calm_unit = λ l log ls logs other calm. tt;
  calm_both = λ ls logs ks kogs logged left right. tt;
  burst_left = λ ls logs ks kogs logged burst. tt;
  burst_right = λ ls logs ks kogs logged burst. tt;
}
