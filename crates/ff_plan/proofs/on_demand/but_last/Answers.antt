-- All but the last are as many less one.
use Rattle.std.proofs.Common.{◌≡◌, ℕ, ◌-◌, List, [], ◌∷◌, length, take, suc, refl, ap, sym, ◌∙◌, arith}
use Rattle.std.proofs.lemmas.Grind.{common_steps}
use Rattle.ff_plan.specs.Plans.{but_last}
use Rattle.ff_plan.proofs.on_demand.but_last.Goals as goal

but_last-take : (es : List ℕ) → but_last es ≡ take (length es - 1) es
but_last-take [] = refl
but_last-take (e ∷ []) = refl
but_last-take (e ∷ f ∷ es) =
    let one : length (e ∷ f ∷ es) - 1 ≡ suc (length (f ∷ es) - 1) = omega arith in
    ap (λ ks. e ∷ ks) (but_last-take (f ∷ es)) ∙ ap (λ n. take n (e ∷ f ∷ es)) (sym one)

pub returns : goal.returns
returns c = grind (arith, common_steps, but_last-take c.args.edges.now)
