-- A stage that takes a message and puts at once what it then holds first.
use Rattle.std.specs.Prelude.{◌≡◌, ◌⊎◌, [], ◌∷◌, List, Option, None, Some}
use Rattle.std.proofs.Common.{inl, inr, refl, ◌∙◌, ap, sym, subst, length, arith}
use Rattle.ff_rec.specs.Lines.{Rec}
use Rattle.ff_rec.specs.Streams.{IsOpen, added, at}
use Rattle.ff_node.specs.Behaviour.{Behaviour}
use Rattle.ff_node.specs.Runs.{Message, Took}
use Rattle.ff_port.specs.declared.answers.Step.{Step}
use Rattle.ff_port.specs.declared.answers.Step.TheVariants.{Moved, Waits}
use Rattle.ff_port.specs.declared.ports.Ports.{Ghosts}
use Rattle.ff_unit.specs.Stage.{StageState}
use Rattle.ff_unit.specs.StageParts.{led_by, TakesHeld}
use Rattle.ff_unit.specs.StagePorts.{StageReady}
use Rattle.ff_unit.specs.StageSteps.{StageStep}
use Rattle.ff_unit.specs.StageUnit.{stage_does}
use Rattle.ff_unit.specs.StepLaws.{StepsOnce-took}
use Rattle.ff_unit.specs.Units.{IsUnit, Ran, OneOver, StepsOnce, StepsThrough, StaysAt}
use Rattle.ff_unit.proofs.UnitRuns.{Ran-one, One-over}

module _ {N : Type 0} where
  -- where nothing is held nothing was refused
  pub led_by-none : (front : Option Message) (w : StageState N) → (led_by front w).held ≡ [] → (front ≡ None) × (w.held ≡ [])
  led_by-none None w e = (refl, e)
  led_by-none (Some m) w e = absurd (omega (arith, ap length e))

  -- where nothing is taken out nothing changes
  pub TakesHeld-none : (front : Option Message) (w w' : StageState N) → TakesHeld (led_by front w).held None w'.held
      → w' ≡ record w { held = w'.held } → led_by front w ≡ w'
  TakesHeld-none front w w' taken rest =
      let n = led_by-none front w taken.0 in
      ap (λ f. led_by f w) n.0 ∙ ap (λ h. record w { held = h }) (n.1 ∙ sym taken.1) ∙ sym rest

  -- what is taken out stood in front
  pub TakesHeld-some : (m : Message) (w w' : StageState N) → w.held ≡ m ∷ w'.held → w' ≡ record w { held = w'.held } → led_by (Some m) w' ≡ w
  TakesHeld-some m w w' taken rest = ap (led_by (Some m)) rest ∙ ap (λ h. record w { held = h }) (sym taken)

  -- while something is held, the out is open
  pub IsOpen-held : (m : Message) (ms : List Message) (w : StageState N) (gots puts : List (List Message)) → StageReady w gots puts → w.held ≡ m ∷ ms → IsOpen (at puts 0)
  IsOpen-held m ms w gots puts ready holds = here m ms w puts ready.open_out holds
    where
      here : (m : Message) (ms : List Message) (w : StageState N) (puts : List (List Message)) → (w.held ≡ []) ⊎ IsOpen (at puts 0) → w.held ≡ m ∷ ms → IsOpen (at puts 0)
      here m ms w puts (inl none) holds = absurd (omega (arith, ap length (sym none ∙ holds)))
      here m ms w puts (inr inside) holds = inside

-- it took `m`, which brought it from `u` to `w`
module _ {N S : Type 0} (b : Behaviour N) (ports : Ghosts S Rec) (u w : StageState N) (before between : S) (m : Message)
    (steps : StageStep b [] u (Took 0 m) w) (linked : ports.link between ≡ ports.link before)
    (takes : ports.gots between ≡ added (ports.gots before) 0 m) (same : ports.puts between ≡ ports.puts before) where
  One-took : OneOver (stage_does b) ports.grows u (ports.gots before) (ports.puts before) Moved w (ports.gots between) (ports.puts between)
  One-took = record { act = Took 0 m; steps = steps; takes = takes; gives = same; answers = refl }

  pub Ready-took : IsUnit (stage_does b) → Ran (stage_does b) u (ports.gots before) (ports.puts before) → StageReady w (ports.gots between) (ports.puts between)
  Ready-took laws ran =
      laws.ready w (ports.gots between) (ports.puts between)
      (Ran-one (stage_does b) laws u (ports.gots before) (ports.puts before) Moved w (ports.gots between) (ports.puts between)
      (One-over (stage_does b) ports.grows u (ports.gots before) (ports.puts before) Moved w (ports.gots between) (ports.puts between) One-took) ran)

  -- it holds nothing then
  pub through-took : (v : StageState N) → w ≡ v → StepsThrough (stage_does b) ports u before Moved v between
  through-took v e = inl (subst (λ x. StepsOnce (stage_does b) ports u before Moved x between) e (StepsOnce-took 0 m linked takes same steps))

  -- what it holds first is put, or refused
  pub through-put : (answer : Step) (v : StageState N) (after : S) → StepsOnce (stage_does b) ports w between answer v after
      → (answer ≡ Moved) ⊎ (answer ≡ Waits) → (answer ≡ Waits → StaysAt ports w between v after) → StepsThrough (stage_does b) ports u before Moved v after
  through-put answer v after once (inl e) stays = inr (record {
    between = w;
    gots_between = ports.gots between;
    puts_between = ports.puts between;
    first = One-took;
    second = subst (λ a. OneOver (stage_does b) ports.grows w (ports.gots between) (ports.puts between) a v (ports.gots after) (ports.puts after)) e once.one;
    answers = refl;
    linked = once.linked ∙ linked;
  })
  through-put answer v after once (inr e) stays =
      let s = stays e in
      inl (StepsOnce-took 0 m (once.linked ∙ linked) (s.gots_same ∙ takes) (s.puts_same ∙ same) (subst (StageStep b [] u (Took 0 m)) (sym s.unit) steps))
