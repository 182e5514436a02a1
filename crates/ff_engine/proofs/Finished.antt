-- Jobs that ran until their units had ended.
use Rattle.std.proofs.Common.{◌≡◌, ℕ, suc, length, List, [], ◌∷◌, map, refl, sym, ◌∙◌, ap, ap₂, subst}
use Rattle.std.specs.List.{All, AllZip}
use Rattle.std.proofs.lemmas.List.Elements.{All-nil, All-cons, All-head, All-tail}
use Rattle.ff_node.specs.Runs.{Message}
use Rattle.ff_plan.specs.Rows.{Row}
use Rattle.ff_ring.specs.Names.{RingName}
use Rattle.ff_steps.specs.OverEdges.{RanAlong}
use Rattle.ff_unit.specs.Units.{Doing, Ran}
use Rattle.ff_engine.specs.Jobs.{JobState, HasPorts, HasWorked}
use Rattle.ff_engine.specs.Lines.{HasEnds, HasMoved, Linked}

module _ {U : Type 0} (d : Doing U) where
  -- they read and write the same rings
  HasEnds-finished : (name : ℕ → RingName) (started finished : List (JobState U)) → AllZip (HasWorked d) started finished
      → All (λ job. HasEnds name job) started → All (λ job. HasEnds name job) finished
  HasEnds-finished name [] [] each ends = ends
  HasEnds-finished name [] (f ∷ fs) each ends = absurd each
  HasEnds-finished name (s ∷ ss) [] each ends = absurd each
  HasEnds-finished name (s ∷ ss) (f ∷ fs) each ends =
      let here = All-head (λ job. HasEnds name job) s ss ends in
      All-cons (λ job. HasEnds name job) f fs
      (record {
        reads = each.0.reads ∙ here.reads ∙ ap (λ (row : Row). map name row.ins) (sym each.0.row);
        writes = each.0.writes ∙ here.writes ∙ ap (λ (row : Row). map name row.outs) (sym each.0.row);
      })
      (HasEnds-finished name ss fs each.1 (All-tail (λ job. HasEnds name job) s ss ends))

  pub Linked-finished : (first : RingName) (started finished : List (JobState U)) (last : RingName)
      → AllZip (HasWorked d) started finished → Linked first started last → Linked first finished last
  Linked-finished first started finished last each l = record {
    name = l.name;
    first_is = l.first_is;
    last_is = l.last_is;
    each = HasEnds-finished l.name started finished each l.each;
  }

  -- each of their ends has a ring
  pub HasPorts-finished : (started finished : List (JobState U)) → AllZip (HasWorked d) started finished → All HasPorts finished
  HasPorts-finished [] [] each = All-nil HasPorts
  HasPorts-finished [] (f ∷ fs) each = absurd each
  HasPorts-finished (s ∷ ss) [] each = absurd each
  HasPorts-finished (s ∷ ss) (f ∷ fs) each = All-cons HasPorts f fs each.0.ports (HasPorts-finished ss fs each.1)

  -- what no step of a job changes is as it was
  told_of : {A : Type 0} (f : JobState U → A) → ((before after : JobState U) → HasWorked d before after → f after ≡ f before)
      → (started finished : List (JobState U)) → AllZip (HasWorked d) started finished → map f finished ≡ map f started
  told_of f keeps [] [] each = refl
  told_of f keeps [] (t ∷ ts) each = absurd each
  told_of f keeps (s ∷ ss) [] each = absurd each
  told_of f keeps (s ∷ ss) (t ∷ ts) each = ap₂ (λ x xs. x ∷ xs) (keeps s t each.0) (told_of f keeps ss ts each.1)

  map-map : {A B : Type 0} (f : B → A) (g : JobState U → B) (jobs : List (JobState U)) → map f (map g jobs) ≡ map (λ job. f (g job)) jobs
  map-map f g [] = refl
  map-map f g (job ∷ jobs) = ap (λ l. f (g job) ∷ l) (map-map f g jobs)

  module _ (started finished : List (JobState U)) (each : AllZip (HasWorked d) started finished) where
    pub openings-finished : map d.opening (map (λ j. j.unit) finished) ≡ map d.opening (map (λ j. j.unit) started)
    openings-finished =
        map-map d.opening (λ j. j.unit) finished ∙ told_of (λ j. d.opening j.unit) (λ before after worked. worked.start) started finished each
        ∙ sym (map-map d.opening (λ j. j.unit) started)

    pub taken-finished : map d.taken (map (λ j. j.unit) finished) ≡ map d.taken (map (λ j. j.unit) started)
    taken-finished =
        map-map d.taken (λ j. j.unit) finished ∙ told_of (λ j. d.taken j.unit) (λ before after worked. worked.taken) started finished each
        ∙ sym (map-map d.taken (λ j. j.unit) started)

    pub rows-finished : map (λ j. j.row) finished ≡ map (λ j. j.row) started
    rows-finished = told_of (λ j. j.row) (λ before after worked. worked.row) started finished each

  -- each was reached by its unit's steps, between the edges of its row
  pub RanAlong-finished : (got put : ℕ → List Message) (started finished : List (JobState U)) → AllZip (HasWorked d) started finished
      → All (λ job. HasMoved got put job) finished → RanAlong d got put (map (λ j. j.row) finished) (map (λ j. j.unit) finished)
  RanAlong-finished got put [] [] each moved = tt
  RanAlong-finished got put [] (t ∷ ts) each moved = absurd each
  RanAlong-finished got put (s ∷ ss) [] each moved = absurd each
  RanAlong-finished got put (s ∷ ss) (t ∷ ts) each moved =
      let here = All-head (λ job. HasMoved got put job) t ts moved in (
        subst (λ gots. Ran d t.unit gots (map put t.row.outs)) here.gots (subst (λ puts. Ran d t.unit t.gots puts) here.puts each.0.ran),
        RanAlong-finished got put ss ts each.1 (All-tail (λ job. HasMoved got put job) t ts moved),
      )

  -- they are as many
  pub length-finished : (started finished : List (JobState U)) → AllZip (HasWorked d) started finished → length finished ≡ length started
  length-finished [] [] each = refl
  length-finished [] (t ∷ ts) each = absurd each
  length-finished (s ∷ ss) [] each = absurd each
  length-finished (s ∷ ss) (t ∷ ts) each = ap (λ n. suc n) (length-finished ss ts each.1)
