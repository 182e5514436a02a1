-- What a Plain network means for a list is what it means for each record alone, and its nodes as one send for a record just that.
use Rattle.std.proofs.Common.{◌≡◌, ℕ, false, List, [], ◌∷◌, sym, ◌∙◌, append-nil, ap}
use Rattle.std.specs.List.{flat_map}
use Rattle.ff_rec.specs.Lines.{Rec}
use Rattle.ff_node.specs.Behaviour.{Behaviour, KeepsKind}
use Rattle.ff_node.specs.Classes.{ClassLaw}
use Rattle.ff_node.specs.Comb.{CombIsPipeline}
use Rattle.ff_node.specs.OnLists.{PlainGoesByRecords}
use Rattle.ff_net.specs.Forms.{has_wrap}
use Rattle.ff_net.specs.Good.{ArePlain, Good, PlainNode}
use Rattle.ff_net.specs.Meaning.{mean}
use Rattle.ff_net.specs.Tree.{Tree}
use Rattle.ff_plan.proofs.Grouped.{each-alone}
use Rattle.ff_plan.proofs.MeanPlain.{plain_each}
use Rattle.ff_plan.proofs.PlainWorkers.{worker_sends, mean-worker}

module _ {N : Type 0} (b : Behaviour N) (m : ℕ) where
  -- a Plain network without a wrap
  pub mean-alone : PlainGoesByRecords b → (t : Tree N) → ArePlain b t → has_wrap t ≡ false → (xs : List Rec) → mean b m t xs ≡ flat_map (λ x. mean b m t (x ∷ [])) xs
  mean-alone by_records t plain free = let goes = plain_each b by_records m t plain free in each-alone (mean b m t) goes.0 goes.1

  -- one node, or several as one
  pub worker_sends-alone : KeepsKind b → ((o : N) → ClassLaw b o (b.class o)) → CombIsPipeline b → (t : Tree N) → PlainNode b t → Good b t → (x : Rec) → worker_sends b t x ≡ mean b m t (x ∷ [])
  worker_sends-alone keeps law combed t plain good x =
      sym (append-nil (worker_sends b t x)) ∙ sym (ap (λ (send : List Rec → List Rec). send (x ∷ [])) (mean-worker b keeps law combed m t plain good))
