-- By its links a statement is the task that it is by its names.
use Rattle.std.proofs.Common.{◌≡◌, ℕ, suc, Bool, true, false, not, List, ◌∷◌, ◌++◌, Option, None, Some, refl, sym, ap, ◌∙◌, ◌⊎◌, inl, inr}
use Rattle.std.specs.Prelude.{◌==◌, ◌&&◌, if◌then◌else◌, is_some, option_map, slice_get}
use Rattle.std.specs.List.{list_all}
use Rattle.std.proofs.Math.Bool.{and-true}
use Rattle.std.proofs.lemmas.Bool.{and_cases, and_parts, both_ways, cases_Bool, cond-false, eqb-true}
use Rattle.std.proofs.lemmas.List.Folds.{list_all-append}
use Rattle.ff_prog.specs.Links.{link, link_to, operand_link, link_if, links_by, links_at}
use Rattle.ff_prog.specs.Rules.{is_task}
use Rattle.ff_prog.specs.Writers.{is_first, latest, name_in, name_if, reads}
use Rattle.ff_prog.specs.declared.link.Link.{Link}
use Rattle.ff_prog.specs.declared.statement.Operand.{Operand}
use Rattle.ff_prog.specs.declared.statement.Operand.TheVariants as operand
use Rattle.ff_prog.specs.declared.statement.Statement.{Statement}
use Rattle.ff_prog.specs.declared.statement.Statement.TheVariants.{Task, Out}
use Rattle.ff_mdf.specs.Linked.{named}
use Rattle.ff_mdf.specs.Orders.{Back, back_of, came, by_backs}
use Rattle.ff_mdf.specs.Stores.{value_of, value_if}
use Rattle.ff_mdf.specs.Values.{or_bad}
use Rattle.ff_mdf.specs.declared.value.MdfAnswer.{MdfAnswer}
use Rattle.ff_mdf.proofs.LinkedValues.{named-given}
use Rattle.ff_mdf_tasks.specs.declared.task.MdfTask.{MdfTask}
use Rattle.ff_mdf_tasks.specs.ByLinks.{Answers, value_linked, operand_value, operand_if, task_linked, has_come, ready_linked}
use Rattle.ff_mdf_tasks.specs.Queues.{ready_by}
use Rattle.ff_mdf_tasks.specs.Sources.{target}
use Rattle.ff_mdf_tasks.specs.Tasks.{writer_back, is_back, is_ready, task_by, task_at}

-- what a link leads to, where it may not be back
named-came : (first : Bool) (r : Option MdfAnswer) → named (not first) r ≡ or_bad (option_map (λ (x : MdfAnswer). if first then x.first else or_bad x.second) r)
named-came first None = refl
named-came first (Some x) = named-given first x

-- the answers that are known are those that came back
module _ (known : Answers) (backs : List Back) (same : (k : ℕ) → known k ≡ back_of backs k) where
  value_linked-came : (ss : List Statement) (n : List ℕ) (o : Option ℕ) → value_linked known (option_map (link_to ss n) o) ≡ came ss backs n o
  value_linked-came ss n None = refl
  value_linked-came ss n (Some j) =
      ap (λ r. named (not (is_first (slice_get ss j) n)) r) (same j) ∙ named-came (is_first (slice_get ss j) n) (back_of backs j)

  has_come-back : (ss : List Statement) (n : List ℕ) (o : Option ℕ) → has_come known (option_map (link_to ss n) o) ≡ writer_back backs o
  has_come-back ss n None = refl
  has_come-back ss n (Some j) = ap (λ r. is_some r) (same j)

  -- the value of a name by its link
  pub value_linked-link : (ss : List Statement) (k : ℕ) (n : List ℕ) → value_linked known (link ss k n) ≡ by_backs ss backs k n
  value_linked-link ss k n = value_linked-came ss n (latest ss n k)

  module _ (ss : List Statement) (k : ℕ) where
    value_same : (o : Operand) → operand_value known o (operand_link (link ss k) o) ≡ value_of (by_backs ss backs k) o
    value_same (operand.Name n) = value_linked-link ss k n
    value_same (operand.Num x) = refl

    value_if_same : (o : Option Operand) → operand_if known o (link_if (link ss k) o) ≡ value_if (by_backs ss backs k) o
    value_if_same None = refl
    value_if_same (Some o) = ap (λ v. Some v) (value_same o)

    come_in : (o : Operand) → has_come known (operand_link (link ss k) o) ≡ list_all (is_back ss backs k) (name_in o)
    come_in (operand.Name n) = has_come-back ss n (latest ss n k) ∙ sym (and-true (is_back ss backs k n))
    come_in (operand.Num x) = refl

    come_if : (o : Option Operand) → has_come known (link_if (link ss k) o) ≡ list_all (is_back ss backs k) (name_if o)
    come_if None = refl
    come_if (Some o) = come_in o

    task_same : (s : Option Statement) → task_linked (suc k) known s (links_by (link ss k) s) ≡ task_by k s (by_backs ss backs k)
    task_same (Some (Task first second op a b c)) =
        let task : _ → _ → _ → MdfTask = λ x y z. record { number = suc k; op = op; a = x; b = y; c = z } in
        ap (λ v. task v (operand_if known b (link_if (link ss k) b)) (operand_if known c (link_if (link ss k) c))) (value_same a)
        ∙ ap (λ v. task (value_of (by_backs ss backs k) a) v (operand_if known c (link_if (link ss k) c))) (value_if_same b)
        ∙ ap (λ v. task (value_of (by_backs ss backs k) a) (value_if (by_backs ss backs k) b) v) (value_if_same c)
    task_same (Some (Out names)) = refl
    task_same None = refl

    ready_same : (s : Option Statement) → ready_linked known s (links_by (link ss k) s) ≡ (is_task s && list_all (is_back ss backs k) (reads s))
    ready_same (Some (Task first second op a b c)) =
        let p = is_back ss backs k in
        ap (λ v. v && (has_come known (link_if (link ss k) b) && has_come known (link_if (link ss k) c))) (come_in a)
        ∙ ap (λ v. list_all p (name_in a) && (v && has_come known (link_if (link ss k) c))) (come_if b)
        ∙ ap (λ v. list_all p (name_in a) && (list_all p (name_if b) && v)) (come_if c)
        ∙ ap (λ v. list_all p (name_in a) && v) (sym (list_all-append p (name_if b) (name_if c)))
        ∙ sym (list_all-append p (name_in a) (name_if b ++ name_if c))
    ready_same (Some (Out names)) = refl
    ready_same None = refl

    -- the task of a statement by its links
    pub task_linked-task_at : task_linked (suc k) known (slice_get ss k) (links_at ss k) ≡ task_at ss backs k
    task_linked-task_at = task_same (slice_get ss k)

    -- whether it is ready by its links
    pub ready_by-is_ready : ready_by ss known k ≡ is_ready ss backs k
    ready_by-is_ready = ready_same (slice_get ss k)

-- a link that leads to what just came back
has_come-new : (backs : List Back) (b : Back) (l : Option Link) → has_come (back_of (b ∷ backs)) l ≡ true → has_come (back_of backs) l ≡ false → target l ≡ Some b.id
has_come-new backs b None now before = absurd (both_ways true before refl)
has_come-new backs b (Some l) now before = elim (cases_Bool (b.id == l.task)) [
  | inl e ↦ ap (λ k. Some k) (sym (eqb-true b.id l.task e))
  | inr e ↦ absurd (both_ways (is_some (back_of backs l.task)) before (ap (λ r. is_some r) (sym (cond-false (b.id == l.task) (Some b.answer) (back_of backs l.task) e)) ∙ now))
]

-- one of the links of a statement leads to this one
abbrev pub LeadsTo : ℕ → Option Link → Option Link → Option Link → Type 0
LeadsTo id a b c = (target a ≡ Some id) ⊎ ((target b ≡ Some id) ⊎ (target c ≡ Some id))

-- a statement that becomes ready reads from what just came back
pub is_ready-new : (ss : List Statement) (backs : List Back) (b : Back) (k : ℕ) → is_ready ss (b ∷ backs) k ≡ true → is_ready ss backs k ≡ false
    → let ls = links_at ss k in LeadsTo b.id ls.a ls.b ls.c
is_ready-new ss backs b k now before =
    let ls = links_at ss k in
    let new = back_of (b ∷ backs) in
    let old = back_of backs in
    let task = is_task (slice_get ss k) in
    let whole = and_parts task (has_come new ls.a && (has_come new ls.b && has_come new ls.c)) (ready_by-is_ready new (b ∷ backs) (λ j. refl) ss k ∙ now) in
    let behind = and_parts (has_come new ls.a) (has_come new ls.b && has_come new ls.c) whole.1 in
    let last = and_parts (has_come new ls.b) (has_come new ls.c) behind.1 in
    elim (and_cases task (has_come old ls.a && (has_come old ls.b && has_come old ls.c)) (ready_by-is_ready old backs (λ j. refl) ss k ∙ before)) [
      | inl none ↦ absurd (both_ways task none whole.0)
      | inr some ↦ elim (and_cases (has_come old ls.a) (has_come old ls.b && has_come old ls.c) some) [
        | inl a ↦ inl (has_come-new backs b ls.a behind.0 a)
        | inr more ↦ elim (and_cases (has_come old ls.b) (has_come old ls.c) more) [
          | inl h ↦ inr (inl (has_come-new backs b ls.b last.0 h))
          | inr h ↦ inr (inr (has_come-new backs b ls.c last.1 h))
        ]
      ]
    ]
