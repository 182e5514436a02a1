-- The law of every network that keeps the rules.
use Rattle.std.proofs.Common.{ℕ}
use Rattle.ff_node.specs.Behaviour.{Behaviour, KeepsKind}
use Rattle.ff_node.specs.Classes.{ClassLaw}
use Rattle.ff_node.specs.Comb.{CombIsPipeline}
use Rattle.ff_node.specs.OnLists.{PlainGoesByRecords, UnorderedGoesByCounts, KeyedGoesByKeys}
use Rattle.ff_net.specs.declared.net.Test.{Test}
use Rattle.ff_net.specs.Good.{Good, GoodParts}
use Rattle.ff_net.specs.Tree.{Tree, Trees, Leaf, Pipe, Comb, Farm, OFarm, A2a, Wrap, none, more}
use Rattle.ff_plan.proofs.A2a.{law_a2a}
use Rattle.ff_plan.proofs.Farm.{law_farm}
use Rattle.ff_plan.proofs.OFarm.{law_ofarm}
use Rattle.ff_plan.proofs.Opens.{View, LawOf}
use Rattle.ff_plan.proofs.Pipe.{EachLaw, law_pipe}
use Rattle.ff_plan.proofs.Single.{law_leaf, law_comb}

-- the law of every wrap
abbrev pub WrapLaw : {N : Type 0} → Behaviour N → ℕ → View N → Type 0
WrapLaw {N} b m v = (n : ℕ) (w : Tree N) (p : Test) → Good b (Wrap n w p) → LawOf b m v (Wrap n w p)

-- what the contracts of all nodes give
pub record AreNodes {N : Type 0} (b : Behaviour N) : Type 0 where
  pub keeps : KeepsKind b
  pub combed : CombIsPipeline b
  pub by_records : PlainGoesByRecords b
  pub by_counts : UnorderedGoesByCounts b
  pub by_keys : KeyedGoesByKeys b
  pub law : (o : N) → ClassLaw b o (b.class o)

module _ {N : Type 0} (b : Behaviour N) (nodes : AreNodes b) (m : ℕ) (v : View N) (law_wrap : WrapLaw b m v) where
  mutual
    pub law_net : (t : Tree N) → Good b t → LawOf b m v t
    law_net (Leaf o) good = law_leaf b nodes.keeps nodes.combed m v o
    law_net (Pipe ts) good = law_pipe b nodes.by_counts m v ts good.0 good.1 (law_each ts good.1)
    law_net (Comb ts) good = law_comb b nodes.keeps nodes.combed m v ts good.1
    law_net (Farm n s w) good = law_farm b m v nodes.by_records n w good.1 good.2 s (law_net w good.3)
    law_net (OFarm n s w) good = law_ofarm b nodes.keeps nodes.combed nodes.law m v w good.2 good.3 good.1 n s
    law_net (A2a n l r k t) good = law_a2a b nodes.by_records nodes.by_counts nodes.by_keys m v n l r k t (law_net l good.5) (law_net t good.6) good
    law_net (Wrap n w p) good = law_wrap n w p good

    law_each : (ts : Trees N) → GoodParts b ts → EachLaw b m v ts
    law_each none good = tt
    law_each (more t ts) good = (law_net t good.0, law_each ts good.1)
