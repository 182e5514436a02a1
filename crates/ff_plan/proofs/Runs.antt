-- From the law of a network to its whole runs, and to its runs that were cut short.
use Rattle.std.proofs.Common.{◌≡◌, ℕ, List, [], ◌∷◌, ◌++◌, map, refl, sym, ap₂, subst, inl, inr}
use Rattle.ff_rec.specs.Streams.{carried, items, unaborted, GoesOn}
use Rattle.ff_node.specs.Behaviour.{Behaviour}
use Rattle.ff_node.specs.Runs.{Message, AllGoOn, BeginsToFit}
use Rattle.ff_net.specs.Logs.{Event}
use Rattle.ff_net.specs.Meaning.{Fine}
use Rattle.ff_net.specs.Tree.{Tree}
use Rattle.ff_plan.specs.declared.kind.UnitKind.{UnitKind}
use Rattle.ff_plan.specs.declared.kind.UnitKind.TheVariants.{Stage, DealRr, DealOd, DealBy, Merge, ODealRr, ODealOd, OMergeTurn, OMergePick, Master, Worker}
use Rattle.ff_plan.specs.Histories.{FitsUnit, BeginsUnit, EachUnit, IsHistory, SomeOver}
use Rattle.ff_plan.specs.Laying.{units_of}
use Rattle.ff_plan.specs.PlanLaws.{Answered, WholeRuns, BeginsAnswer, CutRuns}
use Rattle.ff_plan.specs.Rows.{Laid, laid}
use Rattle.ff_plan.proofs.Messages.{GoesOn-items}
use Rattle.ff_plan.proofs.Opens.{View, AllOn, IsOpen, KnownOf, Known, Outcome, LawOf}
use Rattle.ff_plan.proofs.UnitLists.{EachUnit-map}
use Rattle.ff_plan.proofs.Views.{whole_view, cut_view}

-- lists that are those of their edges
AllOn-edges : (edge : ℕ → List Message) (es : List ℕ) (lists : List (List Message)) → AllOn (λ e ms. ms ≡ edge e) es lists → map edge es ≡ lists
AllOn-edges edge [] [] all = refl
AllOn-edges edge [] (ms ∷ lists) all = absurd all
AllOn-edges edge (e ∷ es) [] all = absurd all
AllOn-edges edge (e ∷ es) (ms ∷ lists) all = ap₂ (λ first rest. first ∷ rest) (sym all.0) (AllOn-edges edge es lists all.1)

pub AllOn-map : (edge : ℕ → List Message) (es : List ℕ) → AllOn (λ e ms. ms ≡ edge e) es (map edge es)
AllOn-map edge [] = tt
AllOn-map edge (e ∷ es) = (refl, AllOn-map edge es)

-- lists that what stands on their edges goes on to
pub AllOn-AllGoOn : (got : ℕ → List Message) (es : List ℕ) (lists : List (List Message)) → AllOn (λ e ms. GoesOn (unaborted (got e)) ms) es lists → AllGoOn (map got es) lists
AllOn-AllGoOn got [] [] all = tt
AllOn-AllGoOn got [] (ms ∷ lists) all = absurd all
AllOn-AllGoOn got (e ∷ es) [] all = absurd all
AllOn-AllGoOn got (e ∷ es) (ms ∷ lists) all = (all.0, AllOn-AllGoOn got es lists all.1)

AllGoOn-AllOn : (put : ℕ → List Message) (es : List ℕ) (lists : List (List Message)) → AllGoOn (map put es) lists → AllOn (λ e ms. GoesOn (unaborted (put e)) ms) es lists
AllGoOn-AllOn put [] [] all = tt
AllGoOn-AllOn put [] (ms ∷ lists) all = absurd all
AllGoOn-AllOn put (e ∷ es) [] all = absurd all
AllGoOn-AllOn put (e ∷ es) (ms ∷ lists) all = (all.0, AllGoOn-AllOn put es lists all.1)

module _ {N : Type 0} (b : Behaviour N) (m : ℕ) (v : View N) where
  -- what is known of a unit of either sort
  known_of : (kind : UnitKind) (l : Laid N) (log : List Event) → IsOpen b m v l log → v.AtMaster l log → KnownOf b m v kind l log
  known_of Stage l log opens master = opens
  known_of DealRr l log opens master = opens
  known_of DealOd l log opens master = opens
  known_of (DealBy f) l log opens master = opens
  known_of Merge l log opens master = opens
  known_of ODealRr l log opens master = opens
  known_of ODealOd l log opens master = opens
  known_of OMergeTurn l log opens master = opens
  known_of OMergePick l log opens master = opens
  known_of Master l log opens master = master
  known_of Worker l log opens master = opens

-- a whole run
module _ {N : Type 0} (b : Behaviour N) (m : ℕ) (edge : ℕ → List Message) where
  whole_unit : (l : Laid N) (log : List Event) → FitsUnit b m l log (map edge l.row.ins) (map edge l.row.outs) → IsOpen b m (whole_view b m edge) l log
  whole_unit l log fits = record {
    by = λ ins all. (
      map edge l.row.outs,
      AllOn-map edge l.row.outs,
      subst (λ (lists : List (List Message)). FitsUnit b m l log lists (map edge l.row.outs)) (AllOn-edges edge l.row.ins ins all) fits,
    );
  }

  pub known_whole : (ls : List (Laid N)) (logs : List (List Event)) → IsHistory b m ls edge logs → Known b m (whole_view b m edge) ls logs
  known_whole ls logs history =
      EachUnit-map _ _ ls logs (λ l log fits. known_of b m (whole_view b m edge) l.row.kind l log (whole_unit l log fits) fits) history

-- a run that was cut short
module _ {N : Type 0} (b : Behaviour N) (m : ℕ) (got put : ℕ → List Message) (first : (e : ℕ) → (rest : List Message) × (put e ≡ got e ++ rest)) where
  opens : (l : Laid N) (log : List Event) → BeginsToFit (FitsUnit b m l log) (map got l.row.ins) (map put l.row.outs) → IsOpen b m (cut_view b m got put first) l log
  opens l log begins = record {
    by = λ ins all.
        let given = begins ins (AllOn-AllGoOn got l.row.ins ins all) in
        (given.outs, AllGoOn-AllOn put l.row.outs given.outs given.goes_on, given.fits);
  }

  cut_unit : (kind : UnitKind) (ins outs place : List ℕ) (t : Tree N) (log : List Event) → BeginsUnit b m (laid kind ins outs place t) log (map got ins) (map put outs)
      → KnownOf b m (cut_view b m got put first) kind (laid kind ins outs place t) log
  cut_unit Stage ins outs place t log begins = opens (laid Stage ins outs place t) log begins
  cut_unit DealRr ins outs place t log begins = opens (laid DealRr ins outs place t) log begins
  cut_unit DealOd ins outs place t log begins = opens (laid DealOd ins outs place t) log begins
  cut_unit (DealBy f) ins outs place t log begins = opens (laid (DealBy f) ins outs place t) log begins
  cut_unit Merge ins outs place t log begins = opens (laid Merge ins outs place t) log begins
  cut_unit ODealRr ins outs place t log begins = opens (laid ODealRr ins outs place t) log begins
  cut_unit ODealOd ins outs place t log begins = opens (laid ODealOd ins outs place t) log begins
  cut_unit OMergeTurn ins outs place t log begins = opens (laid OMergeTurn ins outs place t) log begins
  cut_unit OMergePick ins outs place t log begins = opens (laid OMergePick ins outs place t) log begins
  cut_unit Master ins outs place t log begins = begins
  cut_unit Worker ins outs place t log begins = opens (laid Worker ins outs place t) log begins

  pub known_cut : (ls : List (Laid N)) (logs : List (List Event)) → EachUnit (λ l log. BeginsUnit b m l log (map got l.row.ins) (map put l.row.outs)) ls logs
      → Known b m (cut_view b m got put first) ls logs
  known_cut ls logs begun = EachUnit-map _ _ ls logs (λ l log begins. cut_unit l.row.kind l.row.ins l.row.outs l.row.place l.net log begins) begun

module _ {N : Type 0} (b : Behaviour N) (m : ℕ) (t : Tree N) where
  -- the law in the view of whole runs tells of each of them
  pub whole_runs : ((edge : ℕ → List Message) → LawOf b m (whole_view b m edge) t) → WholeRuns b m t
  whole_runs law edge logs xs history fed = by (law edge [] 0 1 2 logs xs (known_whole b m edge (units_of t) logs history) (sym fed))
    where
      by : Outcome b m (whole_view b m edge) t (units_of t) logs 1 xs
          → (SomeOver m (units_of t) logs → ¬ Fine b m t xs) × ((SomeOver m (units_of t) logs → ⊥) → Answered b m t xs edge)
      by (inl answer) = (
        (λ over. absurd (answer.calm over)),
        (λ calm. record {
          ys = answer.ys;
          carries = sym answer.out;
          answers = record { fine = answer.fine; same = answer.same };
          rejects = answer.rejects tt;
        }),
      )
      by (inr burst) = ((λ over. burst.0), (λ calm. absurd (calm burst.1)))

  -- and in the view of runs that were cut short of each moment
  pub cut_runs : ((got put : ℕ → List Message) (first : (e : ℕ) → (rest : List Message) × (put e ≡ got e ++ rest)) → LawOf b m (cut_view b m got put first) t) → CutRuns b m t
  cut_runs law got put logs xs partial goes fine =
      let view = cut_view b m got put partial.first in
      by (law got put partial.first [] 0 1 2 logs xs (known_cut b m got put partial.first (units_of t) logs partial.begins) (view.link 0 (carried xs) goes))
    where
      by : Outcome b m (cut_view b m got put partial.first) t (units_of t) logs 1 xs → BeginsAnswer b m t xs (items (put 1))
      by (inl answer) = record {
        all = answer.ys;
        answers = record { fine = answer.fine; same = answer.same };
        rest = items answer.out.more;
        splits = GoesOn-items (put 1) answer.ys answer.out;
      }
      by (inr burst) = absurd (burst.0 fine)
