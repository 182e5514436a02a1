-- The scheduler of a division before its first task.
use Rattle.std.proofs.Common.{◌≡◌, ℕ, [], ◌∷◌, None, refl, ap, ◌∙◌, sym, subst, append-nil, arith}
use Rattle.ff_rec.specs.Weights.{weigh}
use Rattle.ff_dc.specs.declared.rule.DcRule.{DcRule}
use Rattle.ff_dc.specs.Spans.{Span}
use Rattle.ff_dc.specs.Divisions.{division}
use Rattle.ff_dc.proofs.PartsAt.{part_at-first}
use Rattle.ff_dc_tasks.specs.Paths.{IsLow, IsProper}
use Rattle.ff_dc_tasks.specs.Walks.{seqs_after}
use Rattle.ff_dc_tasks.specs.Dividers.{DividerState, IsRight}
use Rattle.ff_dc_tasks.proofs.PathSteps.{path_from-first}
use Rattle.ff_dc_tasks.proofs.Proper.{root-division}
use Rattle.ff_dc_tasks.proofs.MadeSteps.{tasks_from-begun}

-- nothing was done yet
pub IsRight-opened : (rule : DcRule) (cut : ℕ) (whole : Span) (s : DividerState) → IsProper rule cut (division rule cut whole) → IsLow 24 (division rule cut whole)
    → s ≡ record {
      rule = rule;
      walk = record { cut = cut; whole = whole; todo = record { path = 1; part = whole } ∷ []; number = 0 };
      ready = [];
      halves = [];
      out = 0;
      values = None;
      events = [];
    }
    → IsRight s
IsRight-opened rule cut whole s proper low is = subst IsRight (sym is) (record {
  walk = record {
    proper = proper;
    low = low;
    room = 24;
    stands = (
      record {
        here = division rule cut whole;
        at = part_at-first (division rule cut whole);
        path = sym (path_from-first 1 (division rule cut whole));
        part = root-division rule cut whole;
        low = low;
      },
      (omega arith, omega arith),
    );
  };
  told = tt;
  balance = record { by = λ h. omega arith };
  out_is = omega arith;
  tasks = record { by = λ h. ap (weigh h) (tasks_from-begun 0 (division rule cut whole) ∙ sym (append-nil (seqs_after 0 0 (division rule cut whole)))) };
  pairs = tt;
  halves = λ n p l r at. refl;
  values = refl;
})
