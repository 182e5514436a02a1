-- A deal that takes a message stays tied to its ports.
use Rattle.std.specs.Prelude.{◌≡◌, ◌<◌, ◌≤◌, suc, true, false, List, [], ◌∷◌, ◌++◌, length, None}
use Rattle.std.proofs.Common.{refl, sym, ap, ◌∙◌, subst, append-nil, inr}
use Rattle.ff_rec.specs.Fields.{field_at}
use Rattle.ff_rec.specs.Lines.{Rec}
use Rattle.ff_rec.specs.Streams.{IsOpenMsg, items}
use Rattle.ff_rec.specs.declared.msg.Msg.TheVariants.{Item, Mark, Pick, Eos as EosMsg, Abort as AbortMsg}
use Rattle.ff_node.specs.Picks.{place_of}
use Rattle.ff_node.specs.Runs.{Message}
use Rattle.ff_port.specs.declared.answers.End.{End}
use Rattle.ff_port.specs.declared.answers.End.TheVariants.{Eos, Abort, Memory}
use Rattle.ff_unit.specs.Closing.{spoiled}
use Rattle.ff_unit.specs.Deals.{DealState, behind, deal_takes, deal_ends, deals, deals_one, next_place}
use Rattle.ff_unit.specs.MessageLaws.{IsOpen-append, items-append}
use Rattle.ff_unit.specs.Units.{HasAbort}
use Rattle.ff_unit.specs.declared.dealing.Dealing.{Dealing}
use Rattle.ff_unit.specs.declared.dealing.Dealing.TheVariants.{InTurn, OnDemand, ByKey, GroupsInTurn, GroupsOnDemand}
use Rattle.ff_unit.specs.DealCutLaws.{TiedCut-live, TiedCut-more, TiedCut-ends}
use Rattle.ff_unit.specs.DealPairLaws.{Pair}
use Rattle.ff_unit.specs.DealPickLaws.{IsOnDemand, IsPlace, place_of-lt}
use Rattle.ff_unit.specs.DealTiedLaws.{TiedLive, TiedCut, TiedAt, Tied}
use Rattle.ff_unit.specs.DealTurnLaws.{IsTurn, next_place-mod}
use Rattle.ff_unit.specs.DealDealtLaws.{TiedLive-dealt, TiedLive-freed, TiedShut-ended}

-- an Abort is taken last
HasAbort-push : (g : List Message) → HasAbort (g ++ AbortMsg ∷ [])
HasAbort-push [] = tt
HasAbort-push (Item x ∷ g) = HasAbort-push g
HasAbort-push (Mark ∷ g) = HasAbort-push g
HasAbort-push (Pick w ∷ g) = HasAbort-push g
HasAbort-push (EosMsg ∷ g) = HasAbort-push g
HasAbort-push (AbortMsg ∷ g) = tt

-- a deal whose in gives, by how it will end
live_eos : (v : DealState) (g : List Message) (ps : List Pair) → v.live ≡ true → v.end ≡ Eos → TiedLive v g ps → Tied v g ps
live_eos v g ps live eos t = subst (λ l. TiedAt l v.end v g ps) (sym live) (subst (λ e. TiedAt true e v g ps) (sym eos) t)

live_memory : (v : DealState) (g : List Message) (ps : List Pair) → v.live ≡ true → v.end ≡ Memory → TiedCut v g ps → Tied v g ps
live_memory v g ps live memory t = subst (λ l. TiedAt l v.end v g ps) (sym live) (subst (λ e. TiedAt true e v g ps) (sym memory) t)

module _ (u : DealState) (g : List Message) (ps : List Pair) where
  TiedLive-more : (m : Message) → IsOpenMsg m → items (m ∷ []) ≡ [] → TiedLive u g ps → TiedLive u (g ++ m ∷ []) ps
  TiedLive-more m open_m none t = record {
    inner = IsOpen-append g (m ∷ []) t.inner (open_m, tt);
    picks = t.picks;
    xs = t.xs;
    picked = t.picked;
    turn = t.turn;
    items_are = items-append g (m ∷ []) ∙ ap (λ l. items g ++ l) none ∙ append-nil (items g) ∙ t.items_are;
    sends = t.sends;
    alone = t.alone;
  }

  -- nothing is held while it takes
  module _ (free : u.free ≡ None) (held : u.held ≡ []) where
    -- a record is taken, by the way
    deals_one-tied : (way : Dealing) (x : Rec) → u.way ≡ way → 1 ≤ u.places → u.turn < u.places → u.live ≡ true → u.end ≡ Eos → (t : TiedLive u g ps)
        → Tied (deals_one way u x) (g ++ Item x ∷ []) ps
    deals_one-tied InTurn x is some below live eos t =
        let turn : IsTurn InTurn u.places (length t.xs) u.turn = subst (λ y. IsTurn y u.places (length t.xs) u.turn) is t.turn in
        live_eos (deals_one InTurn u x) (g ++ Item x ∷ []) ps live eos
        (TiedLive-dealt u g ps free held t x u.turn (next_place u.places u.turn) [] (ap (λ y. behind y u.places u.turn) is) below
        (subst (λ y. IsPlace y u.places (length t.xs) u.turn x) (sym is) turn)
        (subst (λ y. IsTurn y u.places (suc (length t.xs)) (next_place u.places u.turn)) (sym is) (next_place-mod u.places (length t.xs) u.turn some turn)))
    deals_one-tied OnDemand x is some below live eos t =
        live_eos (deals_one OnDemand u x) (g ++ Item x ∷ []) ps live eos (TiedLive-freed u g ps free held t x (subst IsOnDemand (sym is) tt))
    deals_one-tied (ByKey f) x is some below live eos t =
        let w = place_of (field_at f x) u.places in
        live_eos (deals_one (ByKey f) u x) (g ++ Item x ∷ []) ps live eos
        (TiedLive-dealt u g ps free held t x w u.turn [] (ap (λ y. behind y u.places w) is) (place_of-lt (field_at f x) u.places some)
        (subst (λ y. IsPlace y u.places (length t.xs) w x) (sym is) refl)
        (subst (λ y. IsTurn y u.places (suc (length t.xs)) u.turn) (sym is) tt))
    deals_one-tied GroupsInTurn x is some below live eos t =
        let turn : IsTurn GroupsInTurn u.places (length t.xs) u.turn = subst (λ y. IsTurn y u.places (length t.xs) u.turn) is t.turn in
        live_eos (deals_one GroupsInTurn u x) (g ++ Item x ∷ []) ps live eos
        (TiedLive-dealt u g ps free held t x u.turn (next_place u.places u.turn) ((u.turn, Mark) ∷ []) (ap (λ y. behind y u.places u.turn) is) below
        (subst (λ y. IsPlace y u.places (length t.xs) u.turn x) (sym is) turn)
        (subst (λ y. IsTurn y u.places (suc (length t.xs)) (next_place u.places u.turn)) (sym is) (next_place-mod u.places (length t.xs) u.turn some turn)))
    deals_one-tied GroupsOnDemand x is some below live eos t =
        live_eos (deals_one GroupsOnDemand u x) (g ++ Item x ∷ []) ps live eos (TiedLive-freed u g ps free held t x (subst IsOnDemand (sym is) tt))

    -- a deal that goes on takes a message
    live_takes : (m : Message) → 1 ≤ u.places → u.turn < u.places → u.live ≡ true → u.end ≡ Eos → TiedLive u g ps → Tied (deal_takes u m) (g ++ m ∷ []) ps
    live_takes (Item x) some below live eos t =
        subst (λ w. Tied w (g ++ Item x ∷ []) ps) (sym (ap (λ e. deals e u x) eos)) (deals_one-tied u.way x refl some below live eos t)
    live_takes Mark some below live eos t = live_eos u (g ++ Mark ∷ []) ps live eos (TiedLive-more Mark tt refl t)
    live_takes (Pick w) some below live eos t = live_eos u (g ++ Pick w ∷ []) ps live eos (TiedLive-more (Pick w) tt refl t)
    live_takes EosMsg some below live eos t = subst (λ e. TiedAt false e (deal_ends u e) (g ++ EosMsg ∷ []) ps) (sym eos) (TiedShut-ended u g ps free held t)
    live_takes AbortMsg some below live eos t =
        subst (λ e. TiedAt false (spoiled e) (deal_ends u (spoiled e)) (g ++ AbortMsg ∷ []) ps) (sym eos)
        (TiedCut-more (deal_ends u Abort) g ps AbortMsg (TiedCut-live u g ps u.free false Abort u.told free t), inr (HasAbort-push g))

    -- one that was refused memory takes a message
    cut_takes : (m : Message) → u.live ≡ true → u.end ≡ Memory → TiedCut u g ps → Tied (deal_takes u m) (g ++ m ∷ []) ps
    cut_takes (Item x) live memory t =
        subst (λ w. Tied w (g ++ Item x ∷ []) ps) (sym (ap (λ e. deals e u x) memory)) (live_memory u (g ++ Item x ∷ []) ps live memory (TiedCut-more u g ps (Item x) t))
    cut_takes Mark live memory t = live_memory u (g ++ Mark ∷ []) ps live memory (TiedCut-more u g ps Mark t)
    cut_takes (Pick w) live memory t = live_memory u (g ++ Pick w ∷ []) ps live memory (TiedCut-more u g ps (Pick w) t)
    cut_takes EosMsg live memory t = subst (λ e. TiedAt false e (deal_ends u e) (g ++ EosMsg ∷ []) ps) (sym memory) (TiedCut-ends u g ps held EosMsg t)
    cut_takes AbortMsg live memory t =
        subst (λ e. TiedAt false (spoiled e) (deal_ends u (spoiled e)) (g ++ AbortMsg ∷ []) ps) (sym memory) (TiedCut-ends u g ps held AbortMsg t)

    -- a message is taken, however the deal will end
    pub deal_takes-tied : (end : End) (m : Message) → 1 ≤ u.places → u.turn < u.places → u.live ≡ true → u.end ≡ end → TiedAt true end u g ps
        → Tied (deal_takes u m) (g ++ m ∷ []) ps
    deal_takes-tied Eos m some below live is t = live_takes m some below live is t
    deal_takes-tied Abort m some below live is t = absurd t
    deal_takes-tied Memory m some below live is t = cut_takes m live is t
