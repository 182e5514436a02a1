-- What every run of a unit keeps.
use Rattle.std.specs.Prelude.{ℕ, List, [], ◌∷◌, replicate}
use Rattle.std.proofs.Common.{sym, subst}
use Rattle.ff_node.specs.Runs.{Message, Act, took, gave, took_on, gave_on, Leads, HasRun}

-- a fact on a unit and its ports that holds at the start and that each act keeps
pub HasRun-keeps : {U : Type 0} (Steps : U → Act → U → Type 0) (Inv : U → List (List Message) → List (List Message) → Type 0) (o : U) (ins outs : ℕ)
    → Inv o (replicate ins []) (replicate outs [])
    → ((u : U) (gots puts : List (List Message)) (act : Act) (v : U) → Inv u gots puts → Steps u act v → Inv v (took act gots) (gave act puts))
    → (v : U) (gots puts : List (List Message)) → HasRun Steps o ins outs v gots puts → Inv v gots puts
HasRun-keeps {U} Steps Inv o ins outs start keeps v gots puts run =
    subst (λ l. Inv v l puts) (sym run.takes) (subst (λ l. Inv v (took_on (replicate ins []) run.acts) l) (sym run.gives) (on run.acts v run.leads))
  where
    on : (acts : List Act) (w : U) → Leads Steps o acts w → Inv w (took_on (replicate ins []) acts) (gave_on (replicate outs []) acts)
    on [] w e = subst (λ u. Inv u (replicate ins []) (replicate outs [])) (sym e) start
    on (act ∷ acts) w l = keeps l.0 (took_on (replicate ins []) acts) (gave_on (replicate outs []) acts) act w (on acts l.0 l.1) l.2
