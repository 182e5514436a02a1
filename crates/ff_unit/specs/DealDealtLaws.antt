-- A deal whose in gives deals a record, or ends with its in.
use Rattle.std.specs.Prelude.{◌≡◌, ◌<◌, ℕ, suc, List, [], ◌∷◌, ◌++◌, length, None, Some, IsSome}
use Rattle.std.specs.Option.{option_to_list}
use Rattle.std.proofs.Common.{refl, sym, ap, ◌∙◌, subst, arith, append-nil, length-append}
use Rattle.std.proofs.lemmas.Bool.{false≢true}
use Rattle.ff_rec.specs.Lines.{Rec}
use Rattle.ff_rec.specs.Streams.{items}
use Rattle.ff_rec.specs.declared.msg.Msg.TheVariants.{Item, Eos as EosMsg}
use Rattle.ff_node.specs.Runs.{Message}
use Rattle.ff_port.specs.declared.answers.End.TheVariants.{Eos}
use Rattle.ff_unit.specs.Deals.{DealState, behind, deal_outs, deal_ends, on_outs}
use Rattle.ff_unit.specs.MessageLaws.{IsOpen-append, items-append}
use Rattle.ff_unit.specs.DealPairLaws.{Pair}
use Rattle.ff_unit.specs.DealPickLaws.{IsOnDemand, IsPicked, IsPicked-push, IsPlace}
use Rattle.ff_unit.specs.DealSentLaws.{sent, sent-push}
use Rattle.ff_unit.specs.DealTellingLaws.{IsTelling-start}
use Rattle.ff_unit.specs.DealTiedLaws.{IsTelling, TiedLive, TiedShut}
use Rattle.ff_unit.specs.DealTurnLaws.{IsTurn}

module _ (u : DealState) (g : List Message) (ps : List Pair) (free : u.free ≡ None) (held : u.held ≡ []) (t : TiedLive u g ps) where
  all_dealt : items g ≡ t.xs
  all_dealt = t.items_are ∙ ap (λ o. t.xs ++ option_to_list o) free ∙ append-nil t.xs

  all_sent : ps ≡ sent u.way u.places t.picks t.xs
  all_sent = sym (append-nil ps) ∙ ap (λ l. ps ++ l) (sym held) ∙ t.sends

  more_items : (x : Rec) → items (g ++ Item x ∷ []) ≡ t.xs ++ x ∷ []
  more_items x = items-append g (Item x ∷ []) ∙ ap (λ l. l ++ x ∷ []) all_dealt

  -- a record goes to a place
  pub TiedLive-dealt : (x : Rec) (w turn : ℕ) (next : List Pair) → behind u.way u.places w ≡ next → w < u.places → IsPlace u.way u.places (length t.xs) w x
      → IsTurn u.way u.places (suc (length t.xs)) turn
      → TiedLive (record u { held = (w, Item x) ∷ next; turn = turn }) (g ++ Item x ∷ []) ps
  TiedLive-dealt x w turn next are below place is_turn =
      let one : suc (length t.xs) ≡ length (t.xs ++ x ∷ []) = omega (arith, length-append t.xs (x ∷ [])) in
      record {
        inner = IsOpen-append g (Item x ∷ []) t.inner (tt, tt);
        picks = t.picks ++ w ∷ [];
        xs = t.xs ++ x ∷ [];
        picked = IsPicked-push u.way u.places t.picks t.xs w x t.picked below place;
        turn = subst (λ k. IsTurn u.way u.places k turn) one is_turn;
        items_are = more_items x ∙ sym (append-nil (t.xs ++ x ∷ [])) ∙ ap (λ o. (t.xs ++ x ∷ []) ++ option_to_list o) (sym free);
        sends = ap (λ l. l ++ (w, Item x) ∷ next) all_sent
            ∙ ap (λ b. sent u.way u.places t.picks t.xs ++ (w, Item x) ∷ b) (sym are)
            ∙ sym (sent-push u.way u.places t.picks t.xs w x t.picked.each);
        alone = λ some. absurd (false≢true (subst IsSome free some));
      }

  -- a record waits for a place with room
  pub TiedLive-freed : (x : Rec) → IsOnDemand u.way → TiedLive (record u { free = Some x }) (g ++ Item x ∷ []) ps
  TiedLive-freed x demand = record {
    inner = IsOpen-append g (Item x ∷ []) t.inner (tt, tt);
    picks = t.picks;
    xs = t.xs;
    picked = t.picked;
    turn = t.turn;
    items_are = more_items x;
    sends = t.sends;
    alone = λ some. (held, demand);
  }

  -- it ends with its in
  pub TiedShut-ended : TiedShut (deal_ends u Eos) (g ++ EosMsg ∷ []) ps
  TiedShut-ended = record {
    ms = g;
    inner = t.inner;
    is = refl;
    picks = t.picks;
    picked = subst (IsPicked u.way u.places 0 t.picks) (sym all_dealt) t.picked;
    none = free;
    telling = subst (λ xs. IsTelling (deal_outs u.way u.places) EosMsg (sent u.way u.places t.picks xs) ps (on_outs 0 (deal_outs u.way u.places) EosMsg)) (sym all_dealt)
        (subst (λ l. IsTelling (deal_outs u.way u.places) EosMsg l ps (on_outs 0 (deal_outs u.way u.places) EosMsg)) all_sent (IsTelling-start (deal_outs u.way u.places) EosMsg ps));
  }
