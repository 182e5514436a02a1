-- Why a deal ends by Abort, and how one ends that is told to abort before its first step.
use Rattle.std.specs.Prelude.{◌≡◌, ◌⊎◌, ◌+◌, ℕ, zero, suc, Bool, true, false, List, [], ◌∷◌, ◌++◌, None, Some}
use Rattle.std.proofs.Common.{refl, sym, ap, subst, inl, inr, arith}
use Rattle.std.proofs.lemmas.Option.{none-some}
use Rattle.ff_rec.specs.declared.msg.Msg.TheVariants.{Abort as AbortMsg}
use Rattle.ff_node.specs.Runs.{Message, Told, Leads}
use Rattle.ff_port.specs.declared.answers.End.TheVariants.{Abort}
use Rattle.ff_unit.specs.Closing.{decided}
use Rattle.ff_unit.specs.Deals.{DealState, DealStep, DealGives, aborted_deal, deal_outs, on_outs, opening_deal}
use Rattle.ff_unit.specs.Units.{HasAbort, TookAbort, aborts, told_acts}
use Rattle.ff_unit.specs.DealPairLaws.{Pair}
use Rattle.ff_unit.specs.DealTiedLaws.{TiedAt, IsTied}

-- it was told to, or took one
pub TookAbort-deal : (u : DealState) (gots puts : List (List Message)) → IsTied u gots puts → decided u.live u.end ≡ Some Abort → (u.told ≡ true) ⊎ TookAbort gots
TookAbort-deal u gots puts t fin = by u.live fin t.tied
  where
    among : (u.told ≡ true) ⊎ HasAbort t.got → (u.told ≡ true) ⊎ TookAbort gots
    among (inl told) = inl told
    among (inr has) = inr (subst TookAbort (sym t.gots_are) (inl has))

    by : (live : Bool) → decided live u.end ≡ Some Abort → TiedAt live u.end u t.got t.given → (u.told ≡ true) ⊎ TookAbort gots
    by true e tied = absurd (none-some Abort e)
    by false e tied =
        let is : Some u.end ≡ Some Abort = e in
        let abort : u.end ≡ Abort = cc in
        among ((subst (λ end. TiedAt false end u t.got t.given) abort tied).1)

-- it puts Abort on one out after the other
Leads-told : (u : DealState) → u ≡ opening_deal u → (k l : ℕ) → k + l ≡ deal_outs u.way u.places
    → Leads DealStep u (aborts k ++ Told ∷ []) (record u { held = on_outs k l AbortMsg; live = false; end = Abort; told = true })
Leads-told u fresh zero l all =
    let same : l ≡ deal_outs u.way u.places = omega (arith, all) in
    (u, refl, (fresh, ap (λ n. record u { held = on_outs 0 n AbortMsg; live = false; end = Abort; told = true }) same))
Leads-told u fresh (suc k) l all =
    let w = record u { held = on_outs k (suc l) AbortMsg; live = false; end = Abort; told = true } in
    let v = record u { held = on_outs (suc k) l AbortMsg; live = false; end = Abort; told = true } in
    let none : None ≡ u.free = sym (ap (λ s. s.free) fresh) in
    (w, Leads-told u fresh k (suc l) (omega (arith, all)), subst (λ o. DealGives o w k AbortMsg v) none (refl, refl))

-- and ends
pub Leads-aborted_deal : (u : DealState) → u ≡ opening_deal u → Leads DealStep u (told_acts (deal_outs u.way u.places)) (aborted_deal u)
Leads-aborted_deal u fresh =
    let outs = deal_outs u.way u.places in
    let w = record u { held = []; live = false; end = Abort; told = true } in (
      w,
      Leads-told u fresh outs 0 (omega arith),
      inr (ap (λ s. s.free) fresh, refl, refl, ap (λ (h : List Pair). record u { held = h; live = false; end = Abort; done = true; told = true }) (ap (λ s. s.held) fresh)),
    )
