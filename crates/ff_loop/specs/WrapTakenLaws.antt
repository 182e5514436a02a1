-- A wrap's master and what it took, with one message more.
use Rattle.std.specs.Prelude.{◌≡◌, ◌⊎◌, ◌<◌, ◌≤◌, ℕ, suc, Bool, true, false, List, [], ◌∷◌, ◌++◌, length, slice_set}
use Rattle.std.proofs.Common.{refl, sym, ap, ◌∙◌, subst, ⊎_elim, arith, append-nil, append_assoc, length-set, inl, inr}
use Rattle.std.proofs.lemmas.Bool.{cases_eq, false≢true}
use Rattle.ff_rec.specs.Streams.{GoesOn, at, added, carried, unaborted}
use Rattle.ff_rec.specs.declared.msg.Msg.TheVariants.{Item, Mark, Pick, Eos as EosMsg, Abort as AbortMsg}
use Rattle.ff_net.specs.Logs.{HasEos, fed, got_from}
use Rattle.ff_node.specs.Fits.{grouped}
use Rattle.ff_node.specs.Runs.{Message}
use Rattle.ff_port.specs.declared.answers.End.TheVariants.{Abort}
use Rattle.ff_unit.specs.Closing.{IsLive}
use Rattle.ff_unit.specs.DealPairLaws.{Pair}
use Rattle.ff_unit.specs.DealRowLaws.{ArePut}
use Rattle.ff_unit.specs.FlagLaws.{IsLive-within, any_live-at}
use Rattle.ff_unit.specs.MessageLaws.{unaborted-append}
use Rattle.ff_unit.specs.TakenLaws.{at-added, at-added_other, length-added, TookAbort-added}
use Rattle.ff_unit.specs.Units.{TookAbort}
use Rattle.ff_unit.specs.declared.mode.Mode.TheVariants.{Cut}
use Rattle.ff_loop.specs.Rounds.{workers_of, log_of, IsRound, IsLogged}
use Rattle.ff_loop.specs.WrapMasters.{WrapState, is_past, cut_takes}
use Rattle.ff_loop.specs.WrapPortLaws.{HasEos-front}
use Rattle.ff_loop.specs.WrapTiedLaws.{TiedCut, BareAt, TiedAt, IsTied, IsBare}

-- with one message more at some in, each in goes on from what it was
pub at-added_more : (g : List (List Message)) (k : ℕ) (m : Message) (j : ℕ) → k < length g → (more : List Message) × (at (added g k m) j ≡ at g j ++ more)
at-added_more g k m j within =
    ⊎_elim (λ (e : j ≡ k). (m ∷ [], subst (λ i. at (added g k m) i ≡ at g i ++ m ∷ []) (sym e) (at-added g k m within)))
    (λ (e : j ≡ k → ⊥). ([], at-added_other g k j m e ∙ sym (append-nil (at g j)))) (cases_eq j k)

-- what goes on when it is longer goes on
GoesOn-front : (ms more whole : List Message) → GoesOn (unaborted (ms ++ more)) whole → GoesOn (unaborted ms) whole
GoesOn-front ms more whole goes = record {
  inner = goes.inner;
  more = unaborted more ++ goes.more;
  is = goes.is ∙ ap (λ l. l ++ goes.more) (unaborted-append ms more) ∙ append_assoc (unaborted ms) (unaborted more) goes.more;
}

module _ (u : WrapState) (g : List (List Message)) (ps : List Pair) (t : TiedCut u g ps) (k : ℕ) (m : Message) (within : k < length g) where
  -- what begins with something begins with it when it is longer
  begins-added : (j : ℕ) (front whole : List Message) → (GoesOn (unaborted (at g j)) whole → (more : List Message) × (unaborted (at g j) ≡ front ++ more))
      → GoesOn (unaborted (at (added g k m) j)) whole → (more : List Message) × (unaborted (at (added g k m) j) ≡ front ++ more)
  begins-added j front whole begins goes =
      let longer = at-added_more g k m j within in
      let rest = begins (GoesOn-front (at g j) longer.0 whole (subst (λ l. GoesOn (unaborted l) whole) longer.1 goes)) in (
        rest.0 ++ unaborted longer.0,
        ap (λ l. unaborted l) longer.1 ∙ unaborted-append (at g j) longer.0 ∙ ap (λ l. l ++ unaborted longer.0) rest.1
            ∙ append_assoc front rest.0 (unaborted longer.0),
      )

  -- one that was cut off takes more; nothing is said of the rest of its state
  pub TiedCut-taken : (w : WrapState) → TiedCut (record w { round = u.round; held = u.held; end = u.end }) (added g k m) ps
  TiedCut-taken w = record {
    end = t.end;
    tasks = t.tasks;
    results = t.results;
    ends = λ i below h.
        let e = t.ends i below h in
        let longer = at-added_more g k m 0 within in
        (subst HasEos (sym longer.1) (HasEos-front (at g 0) longer.0 e.0), e.1);
    last_open = t.last_open;
    fed_in = λ xs goes. begins-added 0 (carried (fed (log_of u.round))) (carried xs) (t.fed_in xs) goes;
    answers = λ j below ms goes all.
        begins-added (suc j) (grouped (got_from j (log_of u.round))) ms (λ front. t.answers j below ms front all) goes;
    telling = t.telling;
  }

-- all facts on what was taken stay when more is taken
pub TiedCut-added : (u : WrapState) (g : List (List Message)) (ps : List Pair) → TiedCut u g ps → (k : ℕ) (m : Message) → k < length g
    → TiedCut u (added g k m) ps
TiedCut-added u g ps t k m within = TiedCut-taken u g ps t k m within u

module _ (u : WrapState) (gots puts : List (List Message)) (t : IsTied u gots puts) (k : ℕ) (on : IsLive u.live k) where
  pub taken-within : k < length gots
  taken-within = omega (arith, IsLive-within u.live k on, t.flags, t.ins)

  -- one that has ended takes nothing more
  pub taken-goes_on : u.done ≡ true → ⊥
  taken-goes_on done = false≢true (sym (t.ended done).1 ∙ any_live-at u.live k on)

  -- the cause of an Abort stays
  pub cause-added : (m : Message) → u.end ≡ Abort → (u.told ≡ true) ⊎ TookAbort (added gots k m)
  cause-added m e = ⊎_elim (λ (h : u.told ≡ true). inl h) (λ (h : TookAbort gots). inr (TookAbort-added gots k m h)) (t.cause e)

  -- a state of as many workers that has not ended, behind what was taken
  pub IsBare-taken : (m : Message) (v : WrapState) → workers_of v.round ≡ workers_of u.round → IsRound v.round → IsLogged v.round → v.over ≡ is_past v.round
      → length v.live ≡ length u.live → length v.parts ≡ length u.parts → v.done ≡ u.done
      → (v.end ≡ Abort → (v.told ≡ true) ⊎ TookAbort (added gots k m)) → BareAt v.mode v (added gots k m) t.given → IsBare v (added gots k m) puts
  IsBare-taken m v same round logged over flags parts done cause tied = record {
    some = subst (λ n. 1 ≤ n) (sym same) t.some;
    ins = length-added gots k m ∙ t.ins ∙ ap (λ n. suc n) (sym same);
    flags = flags ∙ t.flags ∙ ap (λ n. suc n) (sym same);
    parts_are = parts ∙ t.parts_are ∙ sym same;
    round = round;
    logged = logged;
    over = over;
    cause = cause;
    ended = λ ended. absurd (taken-goes_on (sym done ∙ ended));
    given = t.given;
    puts_are = subst (λ n. ArePut (suc n) puts t.given) (sym same) t.puts_are;
    tied = tied;
  }

  -- one that was cut off takes a message, which it drops
  cut_drops : u.mode ≡ Cut → (m : Message) (live : List Bool) → length live ≡ length u.live → IsBare (record u { live = live }) (added gots k m) puts
  cut_drops mode m live flags =
      let cut : TiedCut u gots t.given = subst (λ a. TiedAt a u gots t.given) mode t.tied in
      IsBare-taken m (record u { live = live }) refl t.round t.logged t.over flags refl refl (cause-added m)
      (subst (λ a. BareAt a (record u { live = live }) (added gots k m) t.given) (sym mode)
      (TiedCut-taken u gots t.given cut k m taken-within (record u { live = live })))

  cut_takes-tied : u.mode ≡ Cut → (m : Message) → IsBare (cut_takes u k m) (added gots k m) puts
  cut_takes-tied mode (Item x) = cut_drops mode (Item x) u.live refl
  cut_takes-tied mode Mark = cut_drops mode Mark u.live refl
  cut_takes-tied mode (Pick i) = cut_drops mode (Pick i) u.live refl
  cut_takes-tied mode EosMsg = cut_drops mode EosMsg (slice_set u.live k false) (length-set u.live k false)
  cut_takes-tied mode AbortMsg = cut_drops mode AbortMsg (slice_set u.live k false) (length-set u.live k false)

-- one that was cut off stays tied
pub cut-tied : (u : WrapState) (gots puts : List (List Message)) → IsTied u gots puts → u.mode ≡ Cut → (k : ℕ) (m : Message) → IsLive u.live k
    → IsBare (cut_takes u k m) (added gots k m) puts
cut-tied u gots puts t mode k m on = cut_takes-tied u gots puts t k on mode m
