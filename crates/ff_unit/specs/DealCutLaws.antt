-- A deal that is cut off stays tied to its ports.
use Rattle.std.specs.Prelude.{◌≡◌, Bool, true, false, List, [], ◌∷◌, ◌++◌, Option, None}
use Rattle.std.specs.Option.{option_to_list}
use Rattle.std.proofs.Common.{refl, sym, ap, ◌∙◌, subst, append_assoc}
use Rattle.ff_rec.specs.Lines.{Rec}
use Rattle.ff_rec.specs.Streams.{items}
use Rattle.ff_rec.specs.declared.msg.Msg.TheVariants.{Eos as EosMsg, Abort as AbortMsg}
use Rattle.ff_node.specs.Runs.{Message}
use Rattle.ff_port.specs.declared.answers.End.{End}
use Rattle.ff_port.specs.declared.answers.End.TheVariants.{Eos, Abort, Memory}
use Rattle.ff_unit.specs.Deals.{DealState, MayBeRefused, deal_outs, deal_ends, on_outs}
use Rattle.ff_unit.specs.MessageLaws.{items-append}
use Rattle.ff_unit.specs.DealPairLaws.{Pair}
use Rattle.ff_unit.specs.DealSentLaws.{sent}
use Rattle.ff_unit.specs.DealTellingLaws.{IsTelling-start, IsTelling-refuses}
use Rattle.ff_unit.specs.DealTiedLaws.{IsTelling, TiedLive, TiedCut, TiedAt}

module _ (u : DealState) (g : List Message) (ps : List Pair) where
  -- it is cut off while its in gives: what was put is a front
  pub TiedCut-live : (free : Option Rec) (live : Bool) (end : End) (told : Bool) → free ≡ None → TiedLive u g ps
      → TiedCut (record u { free = free; held = on_outs 0 (deal_outs u.way u.places) AbortMsg; live = live; end = end; told = told }) g ps
  TiedCut-live free live end told none t = record {
    picks = t.picks;
    xs = t.xs;
    more = option_to_list u.free;
    picked = t.picked;
    items_are = t.items_are;
    none = none;
    front = ps;
    rest = u.held;
    splits = sym t.sends;
    telling = IsTelling-start (deal_outs u.way u.places) AbortMsg ps;
  }

  -- a put is refused memory
  pub TiedAt-refused : (live : Bool) (end : End) → MayBeRefused u.free u.held → TiedAt live end u g ps
      → TiedAt live Memory (record u { free = None; held = on_outs 0 (deal_outs u.way u.places) AbortMsg; end = Memory }) g ps
  TiedAt-refused true Eos may t = TiedCut-live None u.live Memory u.told refl t
  TiedAt-refused true Abort may t = absurd t
  TiedAt-refused true Memory may t =
      absurd (IsTelling-refuses (deal_outs u.way u.places) AbortMsg t.front ps u.held (λ h. h) t.telling (subst (λ o. MayBeRefused o u.held) t.none may))
  TiedAt-refused false Eos may t =
      absurd (IsTelling-refuses (deal_outs u.way u.places) EosMsg (sent u.way u.places t.picks (items t.ms)) ps u.held (λ h. h) t.telling (subst (λ o. MayBeRefused o u.held) t.none may))
  TiedAt-refused false Abort may t =
      absurd (IsTelling-refuses (deal_outs u.way u.places) AbortMsg t.0.front ps u.held (λ h. h) t.0.telling (subst (λ o. MayBeRefused o u.held) t.0.none may))
  TiedAt-refused false Memory may t =
      absurd (IsTelling-refuses (deal_outs u.way u.places) AbortMsg t.front ps u.held (λ h. h) t.telling (subst (λ o. MayBeRefused o u.held) t.none may))

  -- it drops what it takes
  pub TiedCut-more : (m : Message) → TiedCut u g ps → TiedCut u (g ++ m ∷ []) ps
  TiedCut-more m t = record {
    picks = t.picks;
    xs = t.xs;
    more = t.more ++ items (m ∷ []);
    picked = t.picked;
    items_are = items-append g (m ∷ []) ∙ ap (λ l. l ++ items (m ∷ [])) t.items_are ∙ append_assoc t.xs t.more (items (m ∷ []));
    none = t.none;
    front = t.front;
    rest = t.rest;
    splits = t.splits;
    telling = t.telling;
  }

  -- its in ends
  pub TiedCut-ends : u.held ≡ [] → (m : Message) → TiedCut u g ps → TiedCut (deal_ends u Memory) (g ++ m ∷ []) ps
  TiedCut-ends held m t =
      let c = TiedCut-more m t in record {
        picks = c.picks;
        xs = c.xs;
        more = c.more;
        picked = c.picked;
        items_are = c.items_are;
        none = c.none;
        front = c.front;
        rest = c.rest;
        splits = c.splits;
        telling = subst (IsTelling (deal_outs u.way u.places) AbortMsg c.front ps) held c.telling;
      }
