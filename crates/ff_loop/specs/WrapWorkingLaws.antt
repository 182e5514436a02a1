-- Whatever the master of a wrap takes while it works leaves it tied to its ports.
use Rattle.std.specs.Prelude.{◌≡◌, ◌≢◌, ◌<◌, ℕ, zero, suc, Bool, false, List, [], ◌∷◌, length, slice_set}
use Rattle.std.proofs.Common.{refl, sym, ap, ◌∙◌, subst, arith, length-set, inl, inr}
use Rattle.ff_rec.specs.Streams.{added}
use Rattle.ff_rec.specs.declared.msg.Msg.TheVariants.{Item, Mark, Pick, Eos as EosMsg, Abort as AbortMsg}
use Rattle.ff_node.specs.Runs.{Message}
use Rattle.ff_node.specs.Sends.{Sent, add, nothing_sent}
use Rattle.ff_port.specs.declared.answers.End.{End}
use Rattle.ff_port.specs.declared.answers.End.TheVariants.{Eos, Abort, Memory}
use Rattle.ff_unit.specs.Closing.{IsLive}
use Rattle.ff_unit.specs.FlagLaws.{IsLive-within, length-all_live}
use Rattle.ff_unit.specs.TakenLaws.{TookAbort-abort}
use Rattle.ff_unit.specs.Units.{TookAbort}
use Rattle.ff_unit.specs.declared.mode.Mode.TheVariants.{Live}
use Rattle.ff_loop.specs.Rounds.{workers_of, IsRound, IsLogged}
use Rattle.ff_loop.specs.WrapCutLaws.{TiedCut-works}
use Rattle.ff_loop.specs.WrapMasters.{WrapState, WorkingTakes, is_past, part_at, cut_off, to_ends}
use Rattle.ff_loop.specs.WrapTakenLaws.{TiedCut-added, taken-within, IsBare-taken}
use Rattle.ff_loop.specs.WrapTiedLaws.{TiedWorks, BareAt, TiedAt, IsTied, IsBare}
use Rattle.ff_loop.specs.WrapWorkerLaws.{works-pick, works-part, works-answered}
use Rattle.ff_loop.specs.WrapWorksLaws.{works-fed, works-drops, works-ends}

pub length-to_ends : (live : List Bool) → length (to_ends live) ≡ length live
length-to_ends [] = refl
length-to_ends (l ∷ live) = ap (λ n. suc n) (length-all_live (length live))

module _ (u : WrapState) (gots puts : List (List Message)) (t : IsTied u gots puts) (mode : u.mode ≡ Live) where
  working : TiedWorks u gots t.given
  working = (subst (λ a. TiedAt a u gots t.given) mode t.tied).0

  module _ (k : ℕ) (on : IsLive u.live k) where
    within : k < length gots
    within = taken-within u gots puts t k on

    -- it works on
    goes_on : (m : Message) (v : WrapState) → workers_of v.round ≡ workers_of u.round → IsRound v.round → IsLogged v.round → v.over ≡ is_past v.round
        → length v.live ≡ length u.live → length v.parts ≡ length u.parts → v.done ≡ u.done → v.mode ≡ u.mode
        → TiedWorks v (added gots k m) t.given → IsBare v (added gots k m) puts
    goes_on m v same round logged over flags parts done is w =
        IsBare-taken u gots puts t k on m v same round logged over flags parts done (λ e. let never : Eos ≡ Abort = sym w.end ∙ e in absurd cc)
        (subst (λ a. BareAt a v (added gots k m) t.given) (sym (is ∙ mode)) w)

    -- it is the same but for its parts and flags
    goes_on_with : (m : Message) (parts : List Sent) (live : List Bool) → length parts ≡ length u.parts → length live ≡ length u.live
        → TiedWorks (record u { parts = parts; live = live }) (added gots k m) t.given → IsBare (record u { parts = parts; live = live }) (added gots k m) puts
    goes_on_with m parts live parts_are flags w =
        goes_on m (record u { parts = parts; live = live }) refl t.round t.logged t.over flags parts_are refl refl w

    -- it is cut off
    is_cut : (m : Message) (parts : List Sent) (live : List Bool) (e : End) → length parts ≡ length u.parts → length live ≡ length u.live → e ≢ Eos
        → (e ≡ Abort → TookAbort (added gots k m)) → IsBare (record (cut_off (record u { parts = parts }) e) { live = live }) (added gots k m) puts
    is_cut m parts live e parts_are flags short cause =
        let v : WrapState = record (cut_off (record u { parts = parts }) e) { live = live } in
        IsBare-taken u gots puts t k on m v refl t.round t.logged t.over flags parts_are refl (λ is. inr (cause is))
        (TiedCut-added v gots t.given (TiedCut-works u gots t.given live parts e t.logged working short) k m within)

    -- for want of memory, and by an Abort
    is_short : (m : Message) (parts : List Sent) (live : List Bool) → length parts ≡ length u.parts → length live ≡ length u.live
        → IsBare (record (cut_off (record u { parts = parts }) Memory) { live = live }) (added gots k m) puts
    is_short m parts live parts_are flags = is_cut m parts live Memory parts_are flags (λ e. absurd cc) (λ e. absurd cc)

    is_aborted : IsBare (record (cut_off u Abort) { live = slice_set (to_ends u.live) k false }) (added gots k AbortMsg) puts
    is_aborted =
        is_cut AbortMsg u.parts (slice_set (to_ends u.live) k false) Abort refl (length-set (to_ends u.live) k false ∙ length-to_ends u.live) (λ e. absurd cc)
        (λ e. TookAbort-abort gots k within)

  -- the worker is one of them
  worker_below : (j : ℕ) → IsLive u.live (suc j) → j < workers_of u.round
  worker_below j on = omega (arith, IsLive-within u.live (suc j) on, t.flags)

  takes-bare : (k : ℕ) (m : Message) (w : WrapState) → IsLive u.live k → WorkingTakes u k m w → IsBare w (added gots k m) puts
  takes-bare zero (Item x) w on (inl f) =
      goes_on 0 on (Item x) w f.round.workers f.round.round f.round.logged f.over (ap (λ v. length v.live) f.same) (ap (λ v. length v.parts) f.same)
      (ap (λ v. v.done) f.same) (ap (λ v. v.mode) f.same) (works-fed u gots t.given working on (within 0 on) x w f)
  takes-bare zero (Item x) w on (inr e) =
      subst (λ v. IsBare v (added gots 0 (Item x)) puts) (sym e) (is_short 0 on (Item x) u.parts (to_ends u.live) refl (length-to_ends u.live))
  takes-bare zero Mark w on e =
      subst (λ v. IsBare v (added gots 0 Mark) puts) (sym e) (goes_on_with 0 on Mark u.parts u.live refl refl (works-drops u gots t.given working on (within 0 on) Mark tt refl))
  takes-bare zero (Pick i) w on e =
      subst (λ v. IsBare v (added gots 0 (Pick i)) puts) (sym e)
      (goes_on_with 0 on (Pick i) u.parts u.live refl refl (works-drops u gots t.given working on (within 0 on) (Pick i) tt refl))
  takes-bare zero EosMsg w on e =
      subst (λ v. IsBare v (added gots 0 EosMsg) puts) (sym e)
      (goes_on_with 0 on EosMsg u.parts (slice_set u.live 0 false) refl (length-set u.live 0 false) (works-ends u gots t.given working on (within 0 on)))
  takes-bare zero AbortMsg w on e = subst (λ v. IsBare v (added gots 0 AbortMsg) puts) (sym e) (is_aborted 0 on)
  takes-bare (suc j) (Item x) w on (inl e) =
      let part : Sent = add (part_at u j) (x ∷ []) [] in
      subst (λ v. IsBare v (added gots (suc j) (Item x)) puts) (sym e)
      (goes_on_with (suc j) on (Item x) (slice_set u.parts j part) u.live (length-set u.parts j part) refl
      (works-part u gots t.given working j (worker_below j on) (within (suc j) on) t.parts_are x))
  takes-bare (suc j) (Item x) w on (inr e) =
      subst (λ v. IsBare v (added gots (suc j) (Item x)) puts) (sym e) (is_short (suc j) on (Item x) u.parts (to_ends u.live) refl (length-to_ends u.live))
  takes-bare (suc j) Mark w on (inl a) =
      goes_on (suc j) on Mark w a.round.workers a.round.round a.round.logged a.over
      (ap (λ v. length v.live) a.same ∙ length-set u.live (suc j) false) (ap (λ v. length v.parts) a.same ∙ length-set u.parts j (nothing_sent false))
      (ap (λ v. v.done) a.same) (ap (λ v. v.mode) a.same)
      (works-answered u gots t.given working j (worker_below j on) (within (suc j) on) t.parts_are on w a)
  takes-bare (suc j) Mark w on (inr e) =
      subst (λ v. IsBare v (added gots (suc j) Mark) puts) (sym e)
      (is_short (suc j) on Mark (slice_set u.parts j (nothing_sent false)) (to_ends u.live) (length-set u.parts j (nothing_sent false)) (length-to_ends u.live))
  takes-bare (suc j) (Pick i) w on e =
      subst (λ v. IsBare v (added gots (suc j) (Pick i)) puts) (sym e)
      (goes_on_with (suc j) on (Pick i) u.parts u.live refl refl (works-pick u gots t.given working j (worker_below j on) (within (suc j) on) i))
  takes-bare (suc j) EosMsg w on e =
      subst (λ v. IsBare v (added gots (suc j) EosMsg) puts) (sym e)
      (is_short (suc j) on EosMsg u.parts (slice_set (to_ends u.live) (suc j) false) refl (length-set (to_ends u.live) (suc j) false ∙ length-to_ends u.live))
  takes-bare (suc j) AbortMsg w on e = subst (λ v. IsBare v (added gots (suc j) AbortMsg) puts) (sym e) (is_aborted (suc j) on)

-- a message that a master that works takes
pub working-bare : (u : WrapState) (gots puts : List (List Message)) → IsTied u gots puts → u.mode ≡ Live → u.held ≡ [] → (k : ℕ) (m : Message) (w : WrapState)
    → IsLive u.live k → WorkingTakes u k m w → IsBare w (added gots k m) puts
working-bare u gots puts t mode held k m w on takes = takes-bare u gots puts t mode k m w on takes
