-- Where no wrap stands in a network, none of its units is ever over.
use Rattle.std.proofs.Common.{◌≡◌, ◌≢◌, ℕ, Bool, false, List, [], ◌∷◌, map, length, refl, ◌∙◌}
use Rattle.std.proofs.lemmas.Bool.{or_from}
use Rattle.ff_node.specs.Behaviour.{Behaviour}
use Rattle.ff_net.specs.Forms.{has_wrap}
use Rattle.ff_net.specs.Tree.{Tree}
use Rattle.ff_plan.specs.declared.kind.UnitKind.{UnitKind}
use Rattle.ff_plan.specs.declared.kind.UnitKind.TheVariants.{Stage, DealRr, DealOd, DealBy, Merge, ODealRr, ODealOd, OMergeTurn, OMergePick, Master, Worker}
use Rattle.ff_plan.specs.Laying.{units_of}
use Rattle.ff_plan.specs.Rows.{Laid}
use Rattle.ff_plan.proofs.Masters.{NoMaster, NoMaster-lay}
use Rattle.ff_steps.specs.Core.{CoreState, IsSound}
use Rattle.ff_steps.specs.NetCores.{IsNetCore}
use Rattle.ff_steps.specs.NetUnits.{NetState, AsStage, AsDeal, AsMerge, AsOMerge, AsMaster, AsWorker, net_does, opening_net, over_net, any_over}
use Rattle.ff_steps.specs.PlanUnits.{opened_kind, opened_unit}
use Rattle.ff_loop.specs.WrapMasters.{WrapState}
use Rattle.ff_steps.proofs.Heads.{head-same, tail-same, cons≢nil}

module _ {N : Type 0} (b : Behaviour N) (m : ℕ) (keep : Bool) where
  -- a master was laid as one
  no_master : (u : WrapState) (kind : UnitKind) (t : Tree N) (n k : ℕ) → kind ≢ Master → opening_net b (AsMaster u) ≡ opened_kind b m keep kind t n k → ⊥
  no_master u Stage t n k other made = absurd (cc made)
  no_master u DealRr t n k other made = absurd (cc made)
  no_master u DealOd t n k other made = absurd (cc made)
  no_master u (DealBy f) t n k other made = absurd (cc made)
  no_master u Merge t n k other made = absurd (cc made)
  no_master u ODealRr t n k other made = absurd (cc made)
  no_master u ODealOd t n k other made = absurd (cc made)
  no_master u OMergeTurn t n k other made = absurd (cc made)
  no_master u OMergePick t n k other made = absurd (cc made)
  no_master u Master t n k other made = other refl
  no_master u Worker t n k other made = absurd (cc made)

  not_over : (u : NetState N) (l : Laid N) → l.row.kind ≢ Master → opening_net b u ≡ opened_unit b m keep l → over_net u ≡ false
  not_over (AsStage u) l other made = refl
  not_over (AsDeal u) l other made = refl
  not_over (AsMerge u) l other made = refl
  not_over (AsOMerge u) l other made = refl
  not_over (AsMaster u) l other made = absurd (no_master u l.row.kind l.net (length l.row.ins) (length l.row.outs) other made)
  not_over (AsWorker u) l other made = refl

  none_over : (units : List (NetState N)) (ls : List (Laid N)) → NoMaster ls → map (opening_net b) units ≡ map (opened_unit b m keep) ls → any_over units ≡ false
  none_over [] ls free made = refl
  none_over (u ∷ units) [] free made = absurd (cons≢nil made)
  none_over (u ∷ units) (l ∷ ls) free made =
      or_from (over_net u) (any_over units) (not_over u l free.0 (head-same made)) (none_over units ls free.1 (tail-same made))

  pub never_over : (t : Tree N) (c : CoreState (NetState N)) → IsNetCore b m keep t c → IsSound (net_does b) c → has_wrap t ≡ false → any_over c.units ≡ false
  never_over t c is sound free = none_over c.units (units_of t) (NoMaster-lay t [] 0 1 2 free) (sound.made_of ∙ is.made)
