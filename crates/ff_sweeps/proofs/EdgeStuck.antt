-- What is known of a unit of a plan that can't move, by its edges.
use Rattle.std.proofs.Common.{◌≡◌, ◌⊎◌, ℕ, zero, suc, ◌<◌, ◌≤◌, Bool, true, List, [], ◌∷◌, length, map, refl, sym, ap, ◌∙◌, subst, inl, inr, arith}
use Rattle.std.specs.Prelude.{slice_index}
use Rattle.std.specs.List.{AllByRecursion}
use Rattle.ff_rec.specs.Streams.{at}
use Rattle.ff_node.specs.Fits.{marks}
use Rattle.ff_node.specs.Runs.{Message}
use Rattle.ff_plan.specs.declared.kind.UnitKind.{UnitKind}
use Rattle.ff_plan.specs.declared.kind.UnitKind.TheVariants.{Stage, DealRr, DealOd, DealBy, Merge, ODealRr, ODealOd, OMergeTurn, OMergePick, Master, Worker}
use Rattle.ff_plan.specs.Rows.{Row}
use Rattle.ff_unit.specs.Units.{Known}
use Rattle.ff_sweeps.proofs.Moments.{Moment, Dry, Closed, Passed, IsBlocked, Awaits, StuckKind}
use Rattle.ff_unit.proofs.Rests.{HasEnd, turn, MarkLast}
use Rattle.ff_unit.proofs.Rests.{IsFree, Rested, FullOut, AwaitsIn}
use Rattle.ff_unit.proofs.TurnMarks.{turn-below}
use Rattle.ff_sweeps.proofs.UnitRests.{KindRests}

pub all_of : (P : ℕ → Type 0) (es : List ℕ) → ((k : ℕ) → k < length es → P (slice_index es k)) → AllByRecursion P es
all_of P [] each = tt
all_of P (e ∷ es) each = (each 0 (omega arith), all_of P es (λ k below. each (suc k) (omega (arith, below))))

pub of_all : (P : ℕ → Type 0) (es : List ℕ) → AllByRecursion P es → (k : ℕ) → k < length es → P (slice_index es k)
of_all P [] all k below = absurd (omega (arith, below))
of_all P (e ∷ es) all zero below = all.0
of_all P (e ∷ es) all (suc k) below = of_all P es all.1 k (omega (arith, below))

at-map : (f : ℕ → List Message) (es : List ℕ) (k : ℕ) → k < length es → at (map f es) k ≡ f (slice_index es k)
at-map f [] k below = absurd (omega (arith, below))
at-map f (e ∷ es) zero below = refl
at-map f (e ∷ es) (suc k) below = at-map f es k (omega (arith, below))

number-map : (f : ℕ → ℕ) (es : List ℕ) (k : ℕ) → k < length es → slice_index (map f es) k ≡ f (slice_index es k)
number-map f [] k below = absurd (omega (arith, below))
number-map f (e ∷ es) zero below = refl
number-map f (e ∷ es) (suc k) below = number-map f es k (omega (arith, below))

-- what is known of edges: how many messages are inside, and how much room is left
pub record Knows (v : Moment) (inside room : ℕ → ℕ) : Type 0 where
  pub none : (e : ℕ) → inside e ≡ 0 → Dry v e
  pub ended : (e : ℕ) → HasEnd (v.got e) → Dry v e
  pub full : (e : ℕ) → room e ≡ 0 → Dry v e → ⊥

abbrev pub known_by : (ℕ → ℕ) → (ℕ → ℕ) → List ℕ → List ℕ → Known
known_by inside room ins outs = record { knowns = map inside ins; rooms = map room outs; waiting = 0 }

module _ (v : Moment) (inside room : ℕ → ℕ) (knows : Knows v inside room) (row : Row) (done : Bool) (ends : done ≡ true → v.Ended row) where
  abbrev after : Known
  after = known_by inside room row.ins row.outs

  abbrev gots : List (List Message)
  gots = map v.got row.ins

  abbrev puts : List (List Message)
  puts = map v.put row.outs

  free_of : AllByRecursion (Dry v) row.outs → IsFree (length row.outs) after
  free_of dry = record {
    idle = refl;
    rooms = λ k below none. knows.full (slice_index row.outs k) (sym (number-map room row.outs k below) ∙ none) (of_all (Dry v) row.outs dry k below);
  }

  dry_in : (k : ℕ) → k < length row.ins → HasEnd (at gots k) ⊎ (slice_index after.knowns k ≡ 0) → Dry v (slice_index row.ins k)
  dry_in k below (inl end) = knows.ended (slice_index row.ins k) (subst HasEnd (at-map v.got row.ins k below) end)
  dry_in k below (inr none) = knows.none (slice_index row.ins k) (sym (number-map inside row.ins k below) ∙ none)

  passed_of : Rested (length row.ins) (length row.outs) gots puts after done → Passed v row.ins row.outs (v.Ended row)
  passed_of rested =
      let dry : (k : ℕ) → k < length row.ins → Dry v (slice_index row.ins k) = λ k below. dry_in k below (rested.dry k below) in
      record {
        dry = all_of (Dry v) row.ins dry;
        ends = λ closed.
            let all = rested.ends (λ k below.
            let here : HasEnd (v.put (slice_index row.ins k)) = of_all (Closed v) row.ins closed k below in
            subst HasEnd (dry k below ∙ sym (at-map v.got row.ins k below)) here) in
            (all_of (Closed v) row.outs (λ k below. subst HasEnd (at-map v.put row.outs k below) (all.1 k below)), ends all.0);
      }

  -- a stage
  stage_stuck : length row.ins ≡ 1 → length row.outs ≡ 1 → KindRests Stage (length row.ins) (length row.outs) gots puts after done → StuckKind v Stage row
  stage_stuck one_in one_out rests =
      let i : 0 < length row.ins = omega (arith, one_in) in
      let o : 0 < length row.outs = omega (arith, one_out) in (
        (λ dry. passed_of (rests.1 (free_of dry)).0),
        record {
          fewer = omega (arith, rests.0, ap marks (at-map v.got row.ins 0 i), ap marks (at-map v.put row.outs 0 o));
          same = λ dry unclosed.
              let only : AllByRecursion (Dry v) row.outs =
              all_of (Dry v) row.outs (λ k below. let none : k ≡ 0 = omega (arith, below, one_out) in subst (λ j. Dry v (slice_index row.outs j)) (sym none) dry) in
              let same = (rests.1 (free_of only)).1 (λ end. unclosed (subst HasEnd (at-map v.put row.outs 0 o) end)) in
              omega (arith, same, ap marks (at-map v.got row.ins 0 i), ap marks (at-map v.put row.outs 0 o));
        },
      )

  -- an ordered deal
  odeal_stuck : KindRests ODealRr (length row.ins) (length row.outs) gots puts after done → length row.ins ≡ 1 → StuckKind v ODealRr row
  odeal_stuck rests one_in = record {
    number = rests.number;
    dealt = λ j below. ap marks (sym (at-map v.put row.outs j below)) ∙ rests.dealt j below;
    state = by rests.state;
  }
    where
      by : FullOut (length row.outs) rests.number puts after ⊎ Rested 1 (length row.outs) gots puts after done → IsBlocked v row.outs rests.number ⊎ Passed v row.ins row.outs (v.Ended row)
      by (inr rested) = inr (passed_of (subst (λ i. Rested i (length row.outs) gots puts after done) (sym one_in) rested))
      by (inl full) = inl (record {
        k = full.k;
        below = full.below;
        wet = knows.full (slice_index row.outs full.k) (sym (number-map room row.outs full.k full.below) ∙ full.full);
        where_it_is = subst (λ ms. (full.k ≡ turn (length row.outs) rests.number) ⊎ MarkLast ms) (at-map v.put row.outs full.k full.below) full.where_it_is;
      })

  -- an ordered merge
  omerge_stuck : 1 ≤ length row.ins → KindRests OMergeTurn (length row.ins) (length row.outs) gots puts after done → StuckKind v OMergeTurn row
  omerge_stuck some rests dry = by (rests (free_of dry))
    where
      by : AwaitsIn (length row.ins) gots after ⊎ Rested (length row.ins) (length row.outs) gots puts after done → Awaits v row.ins ⊎ Passed v row.ins row.outs (v.Ended row)
      by (inr rested) = inr (passed_of rested)
      by (inl waits) =
          let w = turn (length row.ins) waits.number in
          let below = turn-below (length row.ins) waits.number some in
          let dry = dry_in w below (inr waits.dry) in
          inl (record {
            number = waits.number;
            dry = dry;
            unclosed = λ closed. waits.unclosed (subst HasEnd (dry ∙ sym (at-map v.got row.ins w below)) closed);
            merged = λ j low. ap marks (sym (at-map v.got row.ins j low)) ∙ waits.merged j low;
          })

  -- so many ins and outs
  abbrev pub Asks : UnitKind → Type 0
  Asks Stage = (length row.ins ≡ 1) × (length row.outs ≡ 1)
  Asks DealRr = Unit {0}
  Asks DealOd = Unit {0}
  Asks (DealBy f) = Unit {0}
  Asks Merge = Unit {0}
  Asks ODealRr = length row.ins ≡ 1
  Asks ODealOd = Unit {0}
  Asks OMergeTurn = 1 ≤ length row.ins
  Asks OMergePick = Unit {0}
  Asks Master = Unit {0}
  Asks Worker = Unit {0}

  pub kind_stuck : (kind : UnitKind) → Asks kind → KindRests kind (length row.ins) (length row.outs) gots puts after done → StuckKind v kind row
  kind_stuck Stage asks rests = stage_stuck asks.0 asks.1 rests
  kind_stuck DealRr asks rests = λ dry. passed_of (rests (free_of dry))
  kind_stuck DealOd asks rests = tt
  kind_stuck (DealBy f) asks rests = λ dry. passed_of (rests (free_of dry))
  kind_stuck Merge asks rests = λ dry. passed_of (rests (free_of dry))
  kind_stuck ODealRr asks rests = odeal_stuck rests asks
  kind_stuck ODealOd asks rests = tt
  kind_stuck OMergeTurn asks rests = omerge_stuck asks rests
  kind_stuck OMergePick asks rests = tt
  kind_stuck Master asks rests = tt
  kind_stuck Worker asks rests = tt
