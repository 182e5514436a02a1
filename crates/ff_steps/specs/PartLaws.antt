-- A unit that is one of several kinds runs as that kind does.
use Rattle.std.proofs.Common.{◌≡◌, ℕ, List, [], ◌∷◌, refl, sym, ap, subst}
use Rattle.ff_node.specs.Runs.{Message, Act, Leads, HasRun}

-- `as` is how a unit of the one kind is seen among others
module _ {U V : Type 0} (Steps : U → Act → U → Type 0) (Others : V → Act → V → Type 0) (as_one : U → V) where
  -- its acts are those of its kind
  module _ (of : (u : U) (act : Act) (v : V) → Others (as_one u) act v → (w : U) × (v ≡ as_one w) × Steps u act w) where
    pub Leads-part : (o : U) (acts : List Act) (v : V) → Leads Others (as_one o) acts v → (w : U) × (v ≡ as_one w) × Leads Steps o acts w
    Leads-part o [] v leads = (o, leads, refl)
    Leads-part o (act ∷ acts) v leads =
        let before = Leads-part o acts leads.0 leads.1 in
        let after = of before.0 act v (subst (λ x. Others x act v) before.1 leads.2) in
        (after.0, after.1, (before.0, before.2, after.2))

    pub HasRun-part : ((u w : U) → as_one u ≡ as_one w → u ≡ w) → (o u : U) (ins outs : ℕ) (gots puts : List (List Message))
        → HasRun Others (as_one o) ins outs (as_one u) gots puts → HasRun Steps o ins outs u gots puts
    HasRun-part once o u ins outs gots puts run =
        let part = Leads-part o run.acts (as_one u) run.leads in record {
          acts = run.acts;
          leads = subst (λ x. Leads Steps o run.acts x) (sym (once u part.0 part.1)) part.2;
          takes = run.takes;
          gives = run.gives;
        }

  -- and the other way round
  pub Leads-whole : ((u : U) (act : Act) (w : U) → Steps u act w → Others (as_one u) act (as_one w))
      → (o : U) (acts : List Act) (w : U) → Leads Steps o acts w → Leads Others (as_one o) acts (as_one w)
  Leads-whole to o [] w leads = ap as_one leads
  Leads-whole to o (act ∷ acts) w leads = (as_one leads.0, Leads-whole to o acts leads.0 leads.1, to leads.0 act w leads.2)
