-- How the master of a wrap ends that is told to abort before its first step.
use Rattle.std.specs.Prelude.{◌≡◌, ◌+◌, ℕ, zero, suc, true, List, [], ◌∷◌, ◌++◌}
use Rattle.std.proofs.Common.{refl, ap, inr, arith}
use Rattle.ff_rec.specs.declared.msg.Msg.TheVariants.{Abort as AbortMsg}
use Rattle.ff_node.specs.Runs.{Told, Leads}
use Rattle.ff_port.specs.declared.answers.End.TheVariants.{Abort}
use Rattle.ff_unit.specs.Closing.{none_live}
use Rattle.ff_unit.specs.DealPairLaws.{Pair}
use Rattle.ff_unit.specs.Deals.{on_outs}
use Rattle.ff_unit.specs.FlagLaws.{any_live-none}
use Rattle.ff_unit.specs.Units.{aborts, told_acts}
use Rattle.ff_unit.specs.declared.mode.Mode.TheVariants.{Cut}
use Rattle.ff_loop.specs.Rounds.{workers_of}
use Rattle.ff_loop.specs.WrapMasters.{WrapState, WrapStep, opening_wrap, aborted_wrap}

-- one that was told to abort, and holds this
abbrev told_wrap : WrapState → List Pair → WrapState
told_wrap u held = record u { live = none_live (suc (workers_of u.round)); held = held; mode = Cut; end = Abort; told = true }

-- it puts Abort on one out after the other
Leads-told : (u : WrapState) → u ≡ opening_wrap u → (k l : ℕ) → k + l ≡ suc (workers_of u.round)
    → Leads WrapStep u (aborts k ++ Told ∷ []) (told_wrap u (on_outs k l AbortMsg))
Leads-told u fresh zero l all =
    let same : l ≡ suc (workers_of u.round) = omega (arith, all) in
    (u, refl, (fresh, ap (λ n. told_wrap u (on_outs 0 n AbortMsg)) same))
Leads-told u fresh (suc k) l all =
    let w = told_wrap u (on_outs k (suc l) AbortMsg) in
    let v = told_wrap u (on_outs (suc k) l AbortMsg) in
    (w, Leads-told u fresh k (suc l) (omega (arith, all)), (v, refl, refl, refl))

-- and ends
pub Leads-aborted_wrap : (u : WrapState) → u ≡ opening_wrap u → Leads WrapStep u (told_acts (suc (workers_of u.round))) (aborted_wrap u)
Leads-aborted_wrap u fresh =
    let outs = suc (workers_of u.round) in (
      told_wrap u [],
      Leads-told u fresh outs 0 (omega arith),
      inr (
        refl,
        any_live-none outs,
        ap (λ (h : List Pair). record u { live = none_live outs; held = h; mode = Cut; end = Abort; done = true; told = true }) (ap (λ s. s.held) fresh),
      ),
    )
