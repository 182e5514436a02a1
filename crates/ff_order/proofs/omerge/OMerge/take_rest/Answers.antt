use Rattle.std.proofs.Common.{◌≡◌, ℕ, refl, ap, subst}
use Rattle.ff_unit.specs.Closing.{IsLive}
use Rattle.ff_unit.specs.StepLaws.{StepsOnce-took}
use Rattle.ff_unit.specs.declared.mode.Mode.{Mode}
use Rattle.ff_unit.specs.declared.mode.Mode.TheVariants.{Live, Shut, Cut}
use Rattle.ff_order.specs.OMerges.{IsDue}
use Rattle.ff_order.proofs.omerge.OMerge.take_rest.Goals as goal

-- once it merges no more, any in may give
IsDue-rest : (mode : Mode) (due k : ℕ) → (mode ≡ Live → ⊥) → IsDue mode due k
IsDue-rest Live due k rest = absurd (rest refl)
IsDue-rest Shut due k rest = tt
IsDue-rest Cut due k rest = tt

pub returns-in-Some : goal.returns-in-Some
returns-in-Some g c =
    StepsOnce-took c.in-Some.k c.in-Some.m c.in-Some.ensures.link c.in-Some.ensures.takes.1 c.in-Some.ensures.puts (
      c.requires.held,
      subst (λ live. IsLive live c.in-Some.k) (ap (λ u. u.live) c.self.view_is) c.in-Some.ensures.takes.0,
      IsDue-rest c.args.self.now.mode c.args.self.now.due c.in-Some.k c.requires.rest,
      c.receive.ensures,
    )
