-- A step of one party keeps all runs.
use Rattle.std.proofs.Common.{◌≡◌, ◌≢◌, ◌⊎◌, ℕ, suc, ◌+◌, ◌<◌, List, [], ◌∷◌, length, map, get_or, slice_index, refl, sym, ap, ap₂, ◌∙◌, subst, inl, inr, arith}
use Rattle.std.proofs.lemmas.Bool.{cases_eq}
use Rattle.ff_rec.specs.Lines.{Rec}
use Rattle.ff_port.specs.Queues.{Queue, put_of}
use Rattle.ff_unit.specs.Units.{Doing, IsUnit}
use Rattle.ff_steps.specs.Core.{CoreState, parties, party, gots_of, puts_of, IsSound}
use Rattle.ff_steps.specs.Events.{CoreStep, EdgesKeep}
use Rattle.ff_steps.specs.Links.{edge_at, ends_at}
use Rattle.ff_steps.specs.Parties.{PartyRan}
use Rattle.ff_steps.specs.Wiring.{row_at, IsWired}
use Rattle.ff_steps.proofs.PartyAt.{length-parties, party-unit}
use Rattle.ff_steps.proofs.PartyRuns.{unit_or, AsUnit-same, unit_or-step, PartyRan-step, PartyRan-same}

-- what `f` tells of these edges, in two lists of edges
map-ends_same : {A : Type 0} (f : Queue Rec → A) (edges edges' : List (Queue Rec)) (ks : List ℕ)
    → ((i : ℕ) → i < length ks → f (edge_at edges' (slice_index ks i)) ≡ f (edge_at edges (slice_index ks i)))
    → map f (ends_at edges' ks) ≡ map f (ends_at edges ks)
map-ends_same f edges edges' [] same = refl
map-ends_same f edges edges' (k ∷ ks) same =
    ap₂ (λ x xs. x ∷ xs) (same 0 (omega arith)) (map-ends_same f edges edges' ks (λ i low. same (suc i) (omega (arith, low))))

-- lists of units of which `f` tells the same at each place
map-units_same : {U A : Type 0} (f : U → A) (us vs : List U) → length us ≡ length vs
    → ((i : ℕ) (d : U) → i < length us → f (get_or us i d) ≡ f (get_or vs i d)) → map f us ≡ map f vs
map-units_same f [] [] e same = refl
map-units_same f [] (v ∷ vs) e same = absurd (omega (arith, e))
map-units_same f (u ∷ us) [] e same = absurd (omega (arith, e))
map-units_same f (u ∷ us) (v ∷ vs) e same =
    ap₂ (λ x xs. x ∷ xs) (same 0 u (omega arith)) (map-units_same f us vs (omega (arith, e)) (λ i d low. same (suc i) d (omega (arith, low))))

module _ {U : Type 0} (b : Doing U) where
  -- what another party took and put stays, since each edge has one reader and one writer
  gots_of-other : (p q : ℕ) (c c' : CoreState U) → IsWired c.rows (length c.edges) → EdgesKeep p c c' → c'.rows ≡ c.rows → p < length c.rows → q < length c.rows → q ≢ p
      → gots_of c' q ≡ gots_of c q
  gots_of-other p q c c' wired edges rows p_low q_low other =
      ap (λ rs. map (λ x. x.got) (ends_at c'.edges (row_at rs q).ins)) rows
      ∙ map-ends_same (λ x. x.got) c.edges c'.edges (row_at c.rows q).ins
      (λ i low. edges.got (slice_index (row_at c.rows q).ins i) (λ j j_low same. other (wired.one_reader q p i j q_low p_low low j_low (sym same)).0))

  puts_of-other : (p q : ℕ) (c c' : CoreState U) → IsWired c.rows (length c.edges) → EdgesKeep p c c' → c'.rows ≡ c.rows → p < length c.rows → q < length c.rows → q ≢ p
      → puts_of c' q ≡ puts_of c q
  puts_of-other p q c c' wired edges rows p_low q_low other =
      ap (λ rs. map (λ x. put_of x) (ends_at c'.edges (row_at rs q).outs)) rows
      ∙ map-ends_same (λ x. put_of x) c.edges c'.edges (row_at c.rows q).outs
      (λ i low. edges.put (slice_index (row_at c.rows q).outs i) (λ j j_low same. other (wired.one_writer q p i j q_low p_low low j_low (sym same)).0))

  -- what each unit shows that its steps keep
  pub map-units_step : {A : Type 0} (f : U → A) (p : ℕ) (c c' : CoreState U) (step : CoreStep b p c c') → ((u v : U) → b.Steps u step.act v → f v ≡ f u)
      → map f c'.units ≡ map f c.units
  map-units_step f p c c' step keeps = map-units_same f c'.units c.units step.number at_place
    where
      at_place : (i : ℕ) (d : U) → i < length c'.units → f (get_or c'.units i d) ≡ f (get_or c.units i d)
      at_place i d low = either (cases_eq i p)
        where
          low' : i < length c.units
          low' = subst (λ n. i < n) step.number low

          either : (i ≡ p) ⊎ (i ≡ p → ⊥) → f (get_or c'.units i d) ≡ f (get_or c.units i d)
          either (inl e) =
              ap (λ x. f (unit_or d x)) (sym (party-unit c' i d low) ∙ ap (λ n. party c' n) e)
              ∙ unit_or-step b f step.act keeps d (party c p) (party c' p) step.steps
              ∙ ap (λ x. f (unit_or d x)) (ap (λ n. party c n) (sym e) ∙ party-unit c i d low')
          either (inr e) =
              ap f (AsUnit-same (sym (party-unit c' i d low) ∙ step.others i (omega (arith, low', length-parties c)) e ∙ party-unit c i d low'))

  module _ (laws : IsUnit b) (p : ℕ) (c c' : CoreState U) (step : CoreStep b p c c') where
    -- each party still runs
    ran-step : p < length (parties c) → IsSound b c → (q : ℕ) → q < length (parties c') → PartyRan b c'.input (party c' q) (gots_of c' q) (puts_of c' q)
    ran-step low sound q q_low' = either (cases_eq q p)
      where
        q_low : q < length (parties c)
        q_low = subst (λ n. q < n) (length-parties c' ∙ ap (λ n. n + 2) step.number ∙ sym (length-parties c)) q_low'

        row_low : (x : ℕ) → x < length (parties c) → x < length c.rows
        row_low x h = subst (λ n. x < n) (sym sound.rows_are) h

        either : (q ≡ p) ⊎ (q ≡ p → ⊥) → PartyRan b c'.input (party c' q) (gots_of c' q) (puts_of c' q)
        either (inl e) = subst (λ x. PartyRan b c'.input (party c' x) (gots_of c' x) (puts_of c' x)) (sym e)
            (PartyRan-same b c.input c'.input (party c' p) (party c' p) (gots_of c' p) (gots_of c' p) (puts_of c' p) (puts_of c' p) step.made.1 refl refl refl
            (PartyRan-step b laws c.input (party c p) (gots_of c p) (puts_of c p) step.act (party c' p) (gots_of c' p) (puts_of c' p) (sound.ran p low) step.steps step.takes step.gives))
        either (inr e) =
            PartyRan-same b c.input c'.input (party c q) (party c' q) (gots_of c q) (gots_of c' q) (puts_of c q) (puts_of c' q) step.made.1 (step.others q q_low e)
            (gots_of-other p q c c' sound.wired step.edges step.made.2 (row_low p low) (row_low q q_low) e)
            (puts_of-other p q c c' sound.wired step.edges step.made.2 (row_low p low) (row_low q q_low) e)
            (sound.ran q q_low)

  pub IsSound-step : IsUnit b → (p : ℕ) (c c' : CoreState U) → p < length (parties c) → IsSound b c → CoreStep b p c c' → IsSound b c'
  IsSound-step laws p c c' low sound step = record {
    wired = subst (λ n. IsWired c'.rows n) (sym step.edges.number) (subst (λ rs. IsWired rs (length c.edges)) (sym step.made.2) sound.wired);
    made_of = map-units_step b.opening p c c' step (λ u v s. laws.opening_kept u step.act v s) ∙ sound.made_of ∙ sym step.made.0;
    rows_are = ap length step.made.2 ∙ sound.rows_are ∙ length-parties c ∙ ap (λ n. n + 2) (sym step.number) ∙ sym (length-parties c');
    ran = ran-step laws p c c' step low sound;
  }
