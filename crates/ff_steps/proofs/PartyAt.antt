-- Which party has which number.
use Rattle.std.proofs.Common.{◌≡◌, ℕ, zero, suc, ◌+◌, ◌<◌, List, [], ◌∷◌, ◌++◌, length, map, get_or, refl, ap, ◌∙◌, arith}
use Rattle.std.proofs.lemmas.List.{length-map, length-append, get_or_at}
use Rattle.ff_steps.specs.Core.{CoreState, parties, party}
use Rattle.ff_steps.specs.Parties.{Party, Feeder, Drainer, AsUnit, AsFeeder, AsDrainer}

-- how many parties there are
pub length-parties : {U : Type 0} (c : CoreState U) → length (parties c) ≡ length c.units + 2
length-parties c =
    length-append (map (λ u. AsUnit u) c.units) (AsFeeder c.feeder ∷ AsDrainer c.drainer ∷ []) ∙ ap (λ n. n + 2) (length-map c.units (λ u. AsUnit u))

-- a list of units by its elements
get_or-units : {U : Type 0} (us : List U) (rest : List (Party U)) (i : ℕ) (d : Party U) (e : U) → i < length us
    → get_or (map (λ u. AsUnit u) us ++ rest) i d ≡ AsUnit (get_or us i e)
get_or-units [] rest i d e low = absurd (omega (arith, low))
get_or-units (u ∷ us) rest zero d e low = refl
get_or-units (u ∷ us) rest (suc i) d e low = get_or-units us rest i d e (omega (arith, low))

-- the units come first
pub party-unit : {U : Type 0} (c : CoreState U) (i : ℕ) (e : U) → i < length c.units → party c i ≡ AsUnit (get_or c.units i e)
party-unit c i e low = get_or-units c.units (AsFeeder c.feeder ∷ AsDrainer c.drainer ∷ []) i (AsDrainer c.drainer) e low

-- then the feeder
pub party-feeder : {U : Type 0} (c : CoreState U) (k : ℕ) → length c.units ≡ k → party c k ≡ AsFeeder c.feeder
party-feeder c k e = get_or_at (map (λ u. AsUnit u) c.units) (AsFeeder c.feeder) (AsDrainer c.drainer ∷ []) (AsDrainer c.drainer) k (length-map c.units (λ u. AsUnit u) ∙ e)

-- then the drainer
pub party-drainer : {U : Type 0} (c : CoreState U) (k : ℕ) → length c.units ≡ k → party c (suc k) ≡ AsDrainer c.drainer
party-drainer c k e = behind c.feeder c.drainer c.units k e
  where
    behind : {U : Type 0} (f : Feeder) (d : Drainer) (us : List U) (k : ℕ) → length us ≡ k
        → get_or (map (λ u. AsUnit u) us ++ AsFeeder f ∷ AsDrainer d ∷ []) (suc k) (AsDrainer d) ≡ AsDrainer d
    behind f d [] zero e = refl
    behind f d [] (suc k) e = refl
    behind f d (u ∷ us) zero e = absurd (omega (arith, e))
    behind f d (u ∷ us) (suc k) e = behind f d us k (omega (arith, e))
