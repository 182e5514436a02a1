-- What units gave and rejected that ran over the edges of a network's plan, once all have ended with their ins.
use Rattle.std.proofs.Common.{◌≡◌, ℕ, ◌+◌, ◌-◌, ◌^◌, min, Bool, true, false, ◌||◌, List, [], ◌∷◌, ◌++◌, length, map, sum_by, flat_map, refl, sym, ap, ap₂, ◌∙◌, inl, inr, arith}
use Rattle.std.proofs.lemmas.Bool.{false≢true, or_parts}
use Rattle.std.proofs.lemmas.List.{length-append}
use Rattle.std.proofs.lemmas.List.Recursion.{is_sum_by}
use Rattle.std.specs.List.{AllByRecursion}
use Rattle.ff_rec.specs.Lines.{Rec}
use Rattle.ff_rec.specs.Streams.{closed}
use Rattle.ff_rec.specs.Weights.{weigh, Same}
use Rattle.ff_rec.proofs.WeightLaws.{weigh-append, Same-refl}
use Rattle.ff_node.specs.Behaviour.{Behaviour, KeepsKind}
use Rattle.ff_node.specs.Runs.{Message}
use Rattle.ff_node.specs.Sends.{counted}
use Rattle.ff_plan.specs.Histories.{IsHistory, SomeOver, all_rejected, rejected_by}
use Rattle.ff_plan.specs.Rows.{Laid}
use Rattle.ff_unit.specs.Units.{Doing, IsUnit}
use Rattle.ff_steps.specs.NetUnits.{NetState, net_does, opening_net, over_net, any_over, log_of_net}
use Rattle.ff_steps.specs.OverEdges.{RanAlong, IsOver}
use Rattle.ff_steps.specs.PlanUnits.{opened_unit}
use Rattle.ff_steps.proofs.Heads.{head-same, tail-same}
use Rattle.ff_steps.proofs.OverEnds.{before_eos, HasEndedWell, IsEndedAt, IsEndedAt-unit}
use Rattle.ff_steps.proofs.PutsOpen.{EndsOnce}
use Rattle.ff_steps.proofs.Shapes.{HasShape}

-- a capped count and a number, capped
min-sum : (a c d m : ℕ) → min c m ≡ min d m → min (min a m + c) m ≡ min (a + d) m
min-sum a c d m e = grind arith

-- how many records they rejected
abbrev rejects_of : {U : Type 0} → Doing U → List U → ℕ
rejects_of d [] = 0
rejects_of d (u ∷ units) = d.rejects u + rejects_of d units

module _ {N : Type 0} (b : Behaviour N) (kind : KeepsKind b) (laws : IsUnit (net_does b)) (m : ℕ) (keep : Bool) (got put : ℕ → List Message)
    (first : (e : ℕ) → (rest : List Message) × (put e ≡ got e ++ rest)) where
  abbrev edge : ℕ → List Message
  edge e = before_eos (put e)

  -- all of them
  abbrev pub AreEnded : List (Laid N) → List (NetState N) → Type 0
  AreEnded [] [] = Unit {0}
  AreEnded [] (u ∷ units) = ⊥
  AreEnded (l ∷ ls) [] = ⊥
  AreEnded (l ∷ ls) (u ∷ units) = IsEndedAt b kind laws m keep got put first l u × AreEnded ls units

  pub AreEnded-units : (units : List (NetState N)) (ls : List (Laid N)) → AllByRecursion (HasShape b) ls → AllByRecursion (λ l. AllByRecursion (λ e. EndsOnce (put e)) l.row.ins) ls
      → AllByRecursion (λ l. AllByRecursion (λ e. EndsOnce (put e)) l.row.outs) ls → map (opening_net b) units ≡ map (opened_unit b m keep) ls
      → RanAlong (net_does b) got put (map (λ l. l.row) ls) units → AllByRecursion (HasEndedWell (net_does b)) units → AreEnded ls units
  AreEnded-units [] [] shapes once_in once_out made ran ended = tt
  AreEnded-units (u ∷ units) [] shapes once_in once_out made ran ended = absurd ran
  AreEnded-units [] (l ∷ ls) shapes once_in once_out made ran ended = absurd ran
  AreEnded-units (u ∷ units) (l ∷ ls) shapes once_in once_out made ran ended =
      (IsEndedAt-unit b kind laws m keep got put first u l (head-same made) shapes.0 once_in.0 once_out.0 ran.0 ended.0, AreEnded-units units ls shapes.1 once_in.1 once_out.1 (tail-same made) ran.1 ended.1)

  -- they have a history by their logs
  pub IsHistory-ended : (ls : List (Laid N)) (units : List (NetState N)) → AreEnded ls units → IsHistory b m ls edge (map log_of_net units)
  IsHistory-ended [] [] ended = tt
  IsHistory-ended [] (u ∷ units) ended = absurd ended
  IsHistory-ended (l ∷ ls) [] ended = absurd ended
  IsHistory-ended (l ∷ ls) (u ∷ units) ended = (ended.0.fits, IsHistory-ended ls units ended.1)

  -- in which a master is over its limit exactly where a unit tells so
  pub past-ended : (ls : List (Laid N)) (units : List (NetState N)) → AreEnded ls units → IsOver units → SomeOver m ls (map log_of_net units)
  past-ended [] [] ended over = absurd (false≢true over)
  past-ended [] (u ∷ units) ended over = absurd ended
  past-ended (l ∷ ls) [] ended over = absurd ended
  past-ended (l ∷ ls) (u ∷ units) ended over = by (over_net u) refl (past-ended ls units ended.1)
    where
      by : (here : Bool) → over_net u ≡ here → (IsOver units → SomeOver m ls (map log_of_net units)) → SomeOver m (l ∷ ls) (map log_of_net (u ∷ units))
      by true is rest = inl (ended.0.past is)
      by false is rest = inr (rest (ap (λ x. x || any_over units) (sym is) ∙ over))

  pub calm-ended : (ls : List (Laid N)) (units : List (NetState N)) → AreEnded ls units → any_over units ≡ false → SomeOver m ls (map log_of_net units) → ⊥
  calm-ended [] [] ended none over = over
  calm-ended [] (u ∷ units) ended none over = absurd ended
  calm-ended (l ∷ ls) [] ended none over = absurd ended
  calm-ended (l ∷ ls) (u ∷ units) ended none over =
      let p = or_parts (over_net u) (any_over units) none in
      elim over [ inl here ↦ false≢true (sym p.0 ∙ ended.0.over here) | inr there ↦ calm-ended ls units ended.1 p.1 there ]

  -- each edge that one of them writes is whole
  pub OnOuts-ended : (ls : List (Laid N)) (units : List (NetState N)) → AreEnded ls units → AllByRecursion (λ l. AllByRecursion (λ e. put e ≡ closed (edge e)) l.row.outs) ls
  OnOuts-ended [] [] ended = tt
  OnOuts-ended [] (u ∷ units) ended = absurd ended
  OnOuts-ended (l ∷ ls) [] ended = absurd ended
  OnOuts-ended (l ∷ ls) (u ∷ units) ended = (ended.0.puts, OnOuts-ended ls units ended.1)

  -- how many records they rejected
  rejects_of-ended : (ls : List (Laid N)) (units : List (NetState N)) → AreEnded ls units → counted (rejects_of (net_does b) units) ≡ counted (length (all_rejected b ls edge))
  rejects_of-ended [] [] ended = refl
  rejects_of-ended [] (u ∷ units) ended = absurd ended
  rejects_of-ended (l ∷ ls) [] ended = absurd ended
  rejects_of-ended (l ∷ ls) (u ∷ units) ended =
      let here : List Rec = rejected_by b l.row.kind l.net (map edge l.row.ins) in
      ap (λ n. counted (n + rejects_of (net_does b) units)) ended.0.number
      ∙ min-sum (length here) (rejects_of (net_does b) units) (length (all_rejected b ls edge)) (2 ^ 64 - 1) (rejects_of-ended ls units ended.1)
      ∙ ap counted (sym (length-append here (all_rejected b ls edge)))

  pub number-ended : (ls : List (Laid N)) (units : List (NetState N)) → AreEnded ls units → counted (sum_by (net_does b).rejects units) ≡ counted (length (all_rejected b ls edge))
  number-ended ls units ended = ap counted (sym (is_sum_by (rejects_of (net_does b)) (net_does b).rejects refl (λ u us. refl) units)) ∙ rejects_of-ended ls units ended

  -- which they hold, behind what was taken out
  pub kept-ended : keep ≡ true → (ls : List (Laid N)) (units : List (NetState N)) → AreEnded ls units
      → Same (flat_map (net_does b).taken units ++ flat_map (net_does b).kept units) (all_rejected b ls edge)
  kept-ended k [] [] ended = Same-refl []
  kept-ended k [] (u ∷ units) ended = absurd ended
  kept-ended k (l ∷ ls) [] ended = absurd ended
  kept-ended k (l ∷ ls) (u ∷ units) ended = join (ended.0.kept k) (kept-ended k ls units ended.1)
    where
      join : (net_does b).taken u ++ (net_does b).kept u ≡ rejected_by b l.row.kind l.net (map edge l.row.ins)
          → Same (flat_map (net_does b).taken units ++ flat_map (net_does b).kept units) (all_rejected b ls edge)
          → Same (((net_does b).taken u ++ flat_map (net_does b).taken units) ++ ((net_does b).kept u ++ flat_map (net_does b).kept units)) (rejected_by b l.row.kind l.net (map edge l.row.ins) ++ all_rejected b ls edge)
      join here rest = record {
        by = λ h. omega (
          arith,
          weigh-append h ((net_does b).taken u ++ flat_map (net_does b).taken units) ((net_does b).kept u ++ flat_map (net_does b).kept units),
          weigh-append h ((net_does b).taken u) (flat_map (net_does b).taken units),
          weigh-append h ((net_does b).kept u) (flat_map (net_does b).kept units),
          weigh-append h (rejected_by b l.row.kind l.net (map edge l.row.ins)) (all_rejected b ls edge),
          weigh-append h (flat_map (net_does b).taken units) (flat_map (net_does b).kept units),
          rest.by h,
          weigh-append h ((net_does b).taken u) ((net_does b).kept u),
          ap (weigh h) here,
        );
      }

  -- where none are kept, none are held
  pub none-ended : keep ≡ false → (ls : List (Laid N)) (units : List (NetState N)) → AreEnded ls units → flat_map (net_does b).kept units ≡ []
  none-ended k [] [] ended = refl
  none-ended k [] (u ∷ units) ended = absurd ended
  none-ended k (l ∷ ls) [] ended = absurd ended
  none-ended k (l ∷ ls) (u ∷ units) ended = ap₂ (λ here rest. here ++ rest) (ended.0.none k) (none-ended k ls units ended.1)
