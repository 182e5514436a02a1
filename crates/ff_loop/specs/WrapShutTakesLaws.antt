-- Whatever the master of a wrap takes once it has done all leaves it tied to its ports.
use Rattle.std.specs.Prelude.{◌≡◌, ◌≢◌, ◌<◌, if◌then◌else◌, ℕ, zero, suc, Bool, true, false, List, [], ◌∷◌, length, slice_set}
use Rattle.std.proofs.Common.{refl, sym, ◌∙◌, subst, arith, length-set, inr}
use Rattle.std.proofs.lemmas.Bool.{false≢true}
use Rattle.ff_rec.specs.Streams.{IsOpenMsg, added}
use Rattle.ff_rec.specs.declared.msg.Msg.TheVariants.{Item, Mark, Pick, Eos as EosMsg, Abort as AbortMsg}
use Rattle.ff_node.specs.Runs.{Message}
use Rattle.ff_port.specs.declared.answers.End.TheVariants.{Eos, Abort}
use Rattle.ff_unit.specs.Closing.{IsLive, any_live}
use Rattle.ff_unit.specs.DealPairLaws.{Pair}
use Rattle.ff_unit.specs.FlagLaws.{IsLive-within, any_live-at}
use Rattle.ff_unit.specs.TakenLaws.{TookAbort-abort}
use Rattle.ff_unit.specs.declared.mode.Mode.TheVariants.{Shut}
use Rattle.ff_loop.specs.Rounds.{workers_of}
use Rattle.ff_loop.specs.WrapMasters.{WrapState, shut_takes, closes_last}
use Rattle.ff_loop.specs.WrapShutLaws.{TiedCut-shut, shut-drops, shut-ends}
use Rattle.ff_loop.specs.WrapTakenLaws.{TiedCut-added, taken-within, cause-added, IsBare-taken}
use Rattle.ff_loop.specs.WrapTiedLaws.{TiedShut, BareAt, TiedAt, IsTied, IsBare}

module _ (u : WrapState) (gots puts : List (List Message)) (t : IsTied u gots puts) (mode : u.mode ≡ Shut) (none : u.held ≡ []) where
  shut : TiedShut u gots t.given
  shut = subst (λ a. TiedAt a u gots t.given) mode t.tied

  module _ (j : ℕ) (on : IsLive u.live (suc j)) where
    any : any_live u.live ≡ true
    any = any_live-at u.live (suc j) on

    within : suc j < length gots
    within = taken-within u gots puts t (suc j) on

    below : j < workers_of u.round
    below = omega (arith, IsLive-within u.live (suc j) on, t.flags)

    -- it has done all still
    still_shut : (m : Message) (live : List Bool) (held : List Pair) → length live ≡ length u.live
        → TiedShut (record u { live = live; held = held }) (added gots (suc j) m) t.given → IsBare (record u { live = live; held = held }) (added gots (suc j) m) puts
    still_shut m live held flags w =
        let v : WrapState = record u { live = live; held = held } in
        IsBare-taken u gots puts t (suc j) on m v refl t.round t.logged t.over flags refl refl (cause-added u gots puts t (suc j) on m)
        (subst (λ a. BareAt a v (added gots (suc j) m) t.given) (sym mode) w)

    drops : (m : Message) → IsOpenMsg m → IsBare u (added gots (suc j) m) puts
    drops m is = still_shut m u.live u.held refl (shut-drops u gots t.given shut none any j within on below m is)

    ends : IsBare (closes_last (record u { live = slice_set u.live (suc j) false })) (added gots (suc j) EosMsg) puts
    ends = by (any_live live) (shut-ends u gots t.given shut none any j within on below)
      where
        live : List Bool
        live = slice_set u.live (suc j) false

        closes : Bool → WrapState
        closes b = if b then record u { live = live } else record u { live = live; held = (workers_of u.round, EosMsg) ∷ [] }

        by : (b : Bool) → TiedShut (closes b) (added gots (suc j) EosMsg) t.given → IsBare (closes b) (added gots (suc j) EosMsg) puts
        by true w = still_shut EosMsg live u.held (length-set u.live (suc j) false) w
        by false w = still_shut EosMsg live ((workers_of u.round, EosMsg) ∷ []) (length-set u.live (suc j) false) w

    -- an Abort is taken
    is_cut : IsBare (shut_takes u (suc j) AbortMsg) (added gots (suc j) AbortMsg) puts
    is_cut =
        let v : WrapState = shut_takes u (suc j) AbortMsg in
        let short : Abort ≢ Eos = λ e. absurd cc in
        IsBare-taken u gots puts t (suc j) on AbortMsg v refl t.round t.logged t.over (length-set u.live (suc j) false) refl refl
        (λ e. inr (TookAbort-abort gots (suc j) within))
        (TiedCut-added v gots t.given (TiedCut-shut u gots t.given shut none any t.logged v short) (suc j) AbortMsg within)

    takes : (m : Message) → IsBare (shut_takes u (suc j) m) (added gots (suc j) m) puts
    takes (Item x) = drops (Item x) tt
    takes Mark = drops Mark tt
    takes (Pick i) = drops (Pick i) tt
    takes EosMsg = ends
    takes AbortMsg = is_cut

  -- in 0 has ended
  all_takes : (k : ℕ) (m : Message) → IsLive u.live k → IsBare (shut_takes u k m) (added gots k m) puts
  all_takes zero m on = absurd (false≢true (sym shut.ended_0 ∙ on))
  all_takes (suc j) m on = takes j on m

-- one that has done all stays tied
pub shut-tied : (u : WrapState) (gots puts : List (List Message)) → IsTied u gots puts → u.mode ≡ Shut → u.held ≡ [] → (k : ℕ) (m : Message) → IsLive u.live k
    → IsBare (shut_takes u k m) (added gots k m) puts
shut-tied u gots puts t mode none k m on = all_takes u gots puts t mode none k m on
