-- What is so of each edge of a list of ports, and of the edge of one port.
use Rattle.std.proofs.Common.{ℕ, zero, suc, ◌<◌, List, [], ◌∷◌, ◌++◌, length, get_or, refl, subst, arith}
use Rattle.std.specs.List.{AllByRecursion}
use Rattle.ff_plan.specs.WiringLaws.{IsPort}

module _ (P : ℕ → Type 0) where
  -- by their places
  each-one : (es : List ℕ) (i : ℕ) → AllByRecursion P es → i < length es → P (get_or es i 0)
  each-one [] i each low = absurd (omega (arith, low))
  each-one (e ∷ es) zero each low = each.0
  each-one (e ∷ es) (suc i) each low = each-one es i each.1 (omega (arith, low))

  one-each : (es : List ℕ) → ((i : ℕ) → i < length es → P (get_or es i 0)) → AllByRecursion P es
  one-each [] at = tt
  one-each (e ∷ es) at = (at 0 (omega arith), one-each es (λ i low. at (suc i) (omega (arith, low))))

  -- where it is so of all ports, it is of one
  pub each-port : (ports : List (List ℕ)) (e p i : ℕ) → AllByRecursion (AllByRecursion P) ports → IsPort ports e p i → P e
  each-port [] e p i each port = absurd (omega (arith, port.party))
  each-port (es ∷ ports) e zero i each port = subst P port.edge (each-one es i each.0 port.port)
  each-port (es ∷ ports) e (suc p) i each port = each-port ports e p i each.1 (record { party = omega (arith, port.party); port = port.port; edge = port.edge })

  -- and where it is so of each one, it is of all
  pub port-each : (ports : List (List ℕ)) → ((e p i : ℕ) → IsPort ports e p i → P e) → AllByRecursion (AllByRecursion P) ports
  port-each [] at = tt
  port-each (es ∷ ports) at = (
    one-each es (λ i low. at (get_or es i 0) 0 i (record { party = omega arith; port = low; edge = refl })),
    port-each ports (λ e p i port. at e (suc p) i (record { party = omega (arith, port.party); port = port.port; edge = port.edge })),
  )

  pub each-front : (ports more : List (List ℕ)) → AllByRecursion (AllByRecursion P) (ports ++ more) → AllByRecursion (AllByRecursion P) ports
  each-front [] more each = tt
  each-front (es ∷ ports) more each = (each.0, each-front ports more each.1)
