-- A unit of a plan.
use Rattle.std.specs.Prelude.{ℕ, zero, suc, ◌+◌, List, [], ◌∷◌}
use Rattle.ff_net.specs.Tree.{Tree}
use Rattle.ff_plan.specs.declared.kind.UnitKind.{UnitKind}

-- its kind, the edges that it reads and those that it writes in the order of its ins and outs, and its place
pub record Row : Type 0 where
  pub kind : UnitKind
  pub ins : List ℕ
  pub outs : List ℕ
  pub place : List ℕ

-- a unit with the network at its place: the leaf or comb of a stage or a worker, and the form for every other unit
pub record Laid (N : Type 0) : Type 0 where
  pub row : Row
  pub net : Tree N

abbrev pub laid : {N : Type 0} → UnitKind → List ℕ → List ℕ → List ℕ → Tree N → Laid N
laid kind ins outs at t = record { row = record { kind = kind; ins = ins; outs = outs; place = at }; net = t }

-- `n` edges from number `e` on
abbrev pub range : ℕ → ℕ → List ℕ
range e zero = []
range e (suc n) = e ∷ range (suc e) n

-- `n` edges from number `e` on, each `step` behind the one before it
abbrev pub stride : ℕ → ℕ → ℕ → List ℕ
stride step e zero = []
stride step e (suc n) = e ∷ stride step (e + step) n
