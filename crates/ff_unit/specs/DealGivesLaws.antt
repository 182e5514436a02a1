-- A deal that puts a message stays tied to its ports.
use Rattle.std.specs.Prelude.{◌≡◌, ◌<◌, ℕ, Bool, true, false, List, [], ◌∷◌, ◌++◌, length, None, Some, IsSome}
use Rattle.std.specs.Option.{option_to_list}
use Rattle.std.proofs.Common.{refl, sym, ap, ◌∙◌, subst, append-nil, append_assoc}
use Rattle.std.proofs.lemmas.Bool.{false≢true}
use Rattle.std.proofs.lemmas.Option.{none-some}
use Rattle.ff_rec.specs.Lines.{Rec}
use Rattle.ff_rec.specs.Streams.{items}
use Rattle.ff_rec.specs.declared.msg.Msg.TheVariants.{Item, Eos as EosMsg, Abort as AbortMsg}
use Rattle.ff_node.specs.Runs.{Message}
use Rattle.ff_port.specs.declared.answers.End.{End}
use Rattle.ff_port.specs.declared.answers.End.TheVariants.{Eos, Abort, Memory}
use Rattle.ff_unit.specs.Deals.{DealState, behind, deal_outs}
use Rattle.ff_unit.specs.declared.dealing.Dealing.{Dealing}
use Rattle.ff_unit.specs.declared.dealing.Dealing.TheVariants.{InTurn, OnDemand, ByKey, GroupsInTurn, GroupsOnDemand}
use Rattle.ff_unit.specs.DealPairLaws.{Pair, IsInner, AreInner, AllByRecursion-back}
use Rattle.ff_unit.specs.DealPickLaws.{IsOnDemand, IsPlace, IsPicked-push}
use Rattle.ff_unit.specs.DealSentLaws.{sent, sent-push, place-out, AreInner-sent}
use Rattle.ff_unit.specs.DealTellingLaws.{IsTelling-next}
use Rattle.ff_unit.specs.DealTiedLaws.{TiedLive, TiedShut, TiedCut, TiedAt}
use Rattle.ff_unit.specs.DealTurnLaws.{IsTurn}

-- on demand a record may go to any place
IsPlace-demand : (way : Dealing) (n k w : ℕ) (x : Rec) → IsOnDemand way → IsPlace way n k w x
IsPlace-demand InTurn n k w x h = absurd h
IsPlace-demand OnDemand n k w x h = tt
IsPlace-demand (ByKey f) n k w x h = absurd h
IsPlace-demand GroupsInTurn n k w x h = absurd h
IsPlace-demand GroupsOnDemand n k w x h = tt

IsTurn-demand : (way : Dealing) (n k w : ℕ) → IsOnDemand way → IsTurn way n k w
IsTurn-demand InTurn n k w h = absurd h
IsTurn-demand OnDemand n k w h = tt
IsTurn-demand (ByKey f) n k w h = absurd h
IsTurn-demand GroupsInTurn n k w h = absurd h
IsTurn-demand GroupsOnDemand n k w h = tt

-- what is held while the in gives is open, and its outs are there
pub AreInner-held : (u : DealState) (g : List Message) (ps : List Pair) → TiedLive u g ps → AreInner (deal_outs u.way u.places) (ps ++ u.held)
AreInner-held u g ps t = subst (AreInner (deal_outs u.way u.places)) (sym t.sends) (AreInner-sent u.way u.places t.picks t.xs t.picked.within)

module _ (u : DealState) (g : List Message) (ps : List Pair) where
  -- the first held message goes to its out
  module _ (k : ℕ) (m : Message) (held : List Pair) (first : u.held ≡ (k, m) ∷ held) (none : u.free ≡ None) where
    held-live : TiedLive u g ps → (k < deal_outs u.way u.places) × TiedLive (record u { held = held }) g (ps ++ (k, m) ∷ [])
    held-live t = (
      (subst (AreInner (deal_outs u.way u.places)) first (AllByRecursion-back (IsInner (deal_outs u.way u.places)) ps u.held (AreInner-held u g ps t))).0.0,
      record {
        inner = t.inner;
        picks = t.picks;
        xs = t.xs;
        picked = t.picked;
        turn = t.turn;
        items_are = t.items_are;
        sends = append_assoc ps ((k, m) ∷ []) held ∙ ap (λ l. ps ++ l) (sym first) ∙ t.sends;
        alone = λ some. absurd (false≢true (subst IsSome none some));
      },
    )

    held-shut : TiedShut u g ps → (k < deal_outs u.way u.places) × TiedShut (record u { held = held }) g (ps ++ (k, m) ∷ [])
    held-shut t =
        let next = IsTelling-next (deal_outs u.way u.places) EosMsg (sent u.way u.places t.picks (items t.ms)) ps u.held k m held first t.telling in
        (next.0, record { ms = t.ms; inner = t.inner; is = t.is; picks = t.picks; picked = t.picked; none = t.none; telling = next.1 })

    held-cut : TiedCut u g ps → (k < deal_outs u.way u.places) × TiedCut (record u { held = held }) g (ps ++ (k, m) ∷ [])
    held-cut t =
        let next = IsTelling-next (deal_outs u.way u.places) AbortMsg t.front ps u.held k m held first t.telling in (
          next.0,
          record {
            picks = t.picks;
            xs = t.xs;
            more = t.more;
            picked = t.picked;
            items_are = t.items_are;
            none = t.none;
            front = t.front;
            rest = t.rest;
            splits = t.splits;
            telling = next.1;
          },
        )

    pub TiedAt-held : (live : Bool) (end : End) → TiedAt live end u g ps → (k < deal_outs u.way u.places) × TiedAt live end (record u { held = held }) g (ps ++ (k, m) ∷ [])
    TiedAt-held true Eos t = held-live t
    TiedAt-held true Abort t = absurd t
    TiedAt-held true Memory t = held-cut t
    TiedAt-held false Eos t = held-shut t
    TiedAt-held false Abort t = let cut = held-cut t.0 in (cut.0, (cut.1, t.1))
    TiedAt-held false Memory t = held-cut t

  -- a free record goes to some place
  module _ (k : ℕ) (x : Rec) (is : u.free ≡ Some x) (below : k < u.places) where
    free-live : TiedLive u g ps → TiedLive (record u { free = None; held = behind u.way u.places k }) g (ps ++ (k, Item x) ∷ [])
    free-live t =
        let alone = t.alone (subst IsSome (sym is) refl) in
        let all : ps ≡ sent u.way u.places t.picks t.xs = sym (append-nil ps) ∙ ap (λ l. ps ++ l) (sym alone.0) ∙ t.sends in
        record {
          inner = t.inner;
          picks = t.picks ++ k ∷ [];
          xs = t.xs ++ x ∷ [];
          picked = IsPicked-push u.way u.places t.picks t.xs k x t.picked below (IsPlace-demand u.way u.places (length t.xs) k x alone.1);
          turn = IsTurn-demand u.way u.places (length (t.xs ++ x ∷ [])) u.turn alone.1;
          items_are = t.items_are ∙ ap (λ o. t.xs ++ option_to_list o) is ∙ sym (append-nil (t.xs ++ x ∷ []));
          sends = append_assoc ps ((k, Item x) ∷ []) (behind u.way u.places k)
              ∙ ap (λ l. l ++ (k, Item x) ∷ behind u.way u.places k) all
              ∙ sym (sent-push u.way u.places t.picks t.xs k x t.picked.each);
          alone = λ some. absurd (false≢true some);
        }

    pub TiedAt-free : (live : Bool) (end : End) → TiedAt live end u g ps
        → (k < deal_outs u.way u.places) × TiedAt live end (record u { free = None; held = behind u.way u.places k }) g (ps ++ (k, Item x) ∷ [])
    TiedAt-free true Eos t = (place-out u.way u.places k below, free-live t)
    TiedAt-free true Abort t = absurd t
    TiedAt-free true Memory t = absurd (none-some x (sym t.none ∙ is))
    TiedAt-free false Eos t = absurd (none-some x (sym t.none ∙ is))
    TiedAt-free false Abort t = absurd (none-some x (sym t.0.none ∙ is))
    TiedAt-free false Memory t = absurd (none-some x (sym t.none ∙ is))
