-- Ports by their numbers, where it is known how often each edge is joined to one.
use Rattle.std.proofs.Common.{◌≡◌, ℕ, zero, suc, ◌<◌, ◌≤◌, List, [], ◌∷◌, length, get_or, refl, ap, inl, inr, arith}
use Rattle.std.proofs.lemmas.Bool.Decides.{eqb_tells}
use Rattle.ff_rec.specs.Weights.{weigh}
use Rattle.ff_plan.specs.Rows.{range}
use Rattle.ff_plan.specs.WiringLaws.{ports_at, Joined, EachOnce}
use Rattle.ff_plan.proofs.OneAt.{one_at, once_in, range-once, range-reached, count-one, count-two, find-one}

-- how often an edge is joined to a port
abbrev pub joints : ℕ → List (List ℕ) → ℕ
joints x ports = weigh (λ xs. weigh (one_at x) xs) ports

joints-one : (x : ℕ) (ports : List (List ℕ)) (p i : ℕ) → p < length ports → i < length (ports_at ports p) → get_or (ports_at ports p) i 0 ≡ x → 1 ≤ joints x ports
joints-one x [] p i party port is = absurd (omega arith)
joints-one x (xs ∷ ports) zero i party port is = omega (arith, count-one x xs i port is)
joints-one x (xs ∷ ports) (suc p) i party port is =
    let left : p < length ports = omega arith in
    omega (arith, joints-one x ports p i left port is)

joints-two : (x : ℕ) (ports : List (List ℕ)) (p q i j : ℕ) → p < length ports → q < length ports
    → i < length (ports_at ports p) → j < length (ports_at ports q) → get_or (ports_at ports p) i 0 ≡ x → get_or (ports_at ports q) j 0 ≡ x
    → (p ≡ q → i ≡ j → ⊥) → 2 ≤ joints x ports
joints-two x [] p q i j one two first second is also differ = absurd (omega arith)
joints-two x (xs ∷ ports) zero zero i j one two first second is also differ = omega (arith, count-two x xs i j first second is also (differ refl))
joints-two x (xs ∷ ports) zero (suc q) i j one two first second is also differ =
    let left : q < length ports = omega arith in
    omega (arith, count-one x xs i first is, joints-one x ports q j left second also)
joints-two x (xs ∷ ports) (suc p) zero i j one two first second is also differ =
    let left : p < length ports = omega arith in
    omega (arith, count-one x xs j second also, joints-one x ports p i left first is)
joints-two x (xs ∷ ports) (suc p) (suc q) i j one two first second is also differ =
    let left : p < length ports = omega arith in
    let right : q < length ports = omega arith in
    omega (arith, joints-two x ports p q i j left right first second is also (λ (same : p ≡ q). differ (ap suc same)))

pub joined : (x : ℕ) (ports : List (List ℕ)) → 1 ≤ joints x ports → Joined ports x
joined x [] some = absurd (omega arith)
joined x (xs ∷ ports) some = elim (weigh (one_at x) xs) as (λ n. weigh (one_at x) xs ≡ n → Joined (xs ∷ ports) x) [
  | zero ↦ λ (none : weigh (one_at x) xs ≡ zero).
      let later : 1 ≤ joints x ports = omega (arith, none, some) in
      let found = joined x ports later in
      record { party = suc found.party; port = found.port; at = record { party = omega (arith, found.at.party); port = found.at.port; edge = found.at.edge } }
  | suc n ↦ λ (here : weigh (one_at x) xs ≡ suc n).
      let one : 1 ≤ weigh (one_at x) xs = omega (arith, here) in
      let found = find-one x xs one in
      record { party = zero; port = found.0; at = record { party = omega arith; port = found.1; edge = found.2 } }
] refl

-- ports to which each of so many edges is joined once
pub each_once : (ports : List (List ℕ)) (edges : ℕ) → ((h : ℕ → ℕ) → weigh (λ xs. weigh h xs) ports ≡ weigh h (range 0 edges)) → EachOnce ports edges
each_once ports edges weighed = record {
  within = λ e p i port.
      let some : 1 ≤ weigh (one_at e) (range 0 edges) = omega (arith, weighed (one_at e), joints-one e ports p i port.party port.port port.edge) in
      let reached = range-reached e 0 edges some in
      omega (arith, reached);
  once = λ e p q i j one two.
      let most : joints e ports ≤ 1 = omega (arith, weighed (one_at e), range-once e 0 edges) in
      let apart : (p ≡ q → i ≡ j → ⊥) → ⊥ =
      λ (differ : p ≡ q → i ≡ j → ⊥). omega (arith, most, joints-two e ports p q i j one.party two.party one.port two.port one.edge two.edge differ) in
      elim (eqb_tells p q) [
        | inl same ↦ elim (eqb_tells i j) [
          | inl also ↦ (same.1, also.1)
          | inr differ ↦ absurd (apart (λ (s : p ≡ q) (t : i ≡ j). differ.1 t))
        ]
        | inr differ ↦ absurd (apart (λ (s : p ≡ q) (t : i ≡ j). differ.1 s))
      ];
  each = λ e within.
      let one : 1 ≤ joints e ports = omega (arith, weighed (one_at e), once_in e edges within) in
      joined e ports one;
}
