-- What a run of a deal has put begins what it sends for all of the in.
use Rattle.std.specs.Prelude.{◌≡◌, ◌+◌, ◌<◌, ◌≤◌, ℕ, Bool, true, false, List, [], ◌∷◌, ◌++◌, length}
use Rattle.std.specs.Option.{option_to_list}
use Rattle.std.proofs.Common.{sym, ap, ◌∙◌, subst, arith, append-nil, append_assoc}
use Rattle.ff_rec.specs.Lines.{Rec}
use Rattle.ff_rec.specs.Streams.{IsOpen, at, items, unaborted, closed, GoesOn}
use Rattle.ff_rec.specs.declared.msg.Msg.TheVariants.{Eos as EosMsg, Abort as AbortMsg}
use Rattle.ff_node.specs.Runs.{Message, AllGoOn, HasOuts, BeginsToFit}
use Rattle.ff_port.specs.declared.answers.End.{End}
use Rattle.ff_port.specs.declared.answers.End.TheVariants.{Eos, Abort, Memory}
use Rattle.ff_unit.specs.Deals.{DealState, FitsDeal, deal_outs}
use Rattle.ff_unit.specs.MessageLaws.{items-append, unaborted-append, unaborted-open, unaborted-closed, unaborted-cut}
use Rattle.ff_unit.specs.CarriedLaws.{items-closed, items-unaborted, closed-behind}
use Rattle.std.proofs.lemmas.List.{append_cancel_right}
use Rattle.ff_unit.specs.DealFitsLaws.{outs_of, FitsDeal-sent}
use Rattle.ff_unit.specs.DealPairLaws.{Pair, IsInner, AreInner, AllByRecursion-front, on, on-append, IsOpen-on}
use Rattle.ff_unit.specs.DealPickLaws.{IsPicked, IsPicked-some, IsPicked-append, some_picks}
use Rattle.ff_unit.specs.DealRowLaws.{AllGoOn-rows}
use Rattle.ff_unit.specs.DealSentLaws.{sent, sent-append, AreInner-sent}
use Rattle.ff_unit.specs.DealTellingLaws.{on-telling}
use Rattle.ff_unit.specs.DealTiedLaws.{TiedLive, TiedShut, TiedCut, TiedAt, IsTied}

-- the records of a whole in
items-goes_on : (g ms : List Message) (goes : GoesOn (unaborted g) ms) → items ms ≡ items g ++ items goes.more
items-goes_on g ms goes =
    sym (items-closed ms)
    ∙ ap items goes.is
    ∙ items-append (unaborted g) goes.more
    ∙ ap (λ l. l ++ items goes.more) (items-unaborted g)

-- a whole in that has ended is all of it
closed-front : (ms ns more : List Message) → IsOpen ms → closed ms ≡ closed ns ++ more → ms ≡ ns
closed-front ms ns more h e =
    append_cancel_right ms ns (EosMsg ∷ [])
    (e ∙ ap (λ l. closed ns ++ l) (closed-behind ms ns more h e) ∙ append-nil (closed ns))

-- where what was put and is held is a front of all, what was put goes on to it
GoesOn-front : (n j : ℕ) (all front rest : List Pair) (t h : List Message) → AreInner n all → all ≡ front ++ rest → unaborted (t ++ h) ≡ on j front → GoesOn (unaborted t) (on j all)
GoesOn-front n j all front rest t h inner splits is = record {
  inner = IsOpen-on n j all inner;
  more = unaborted h ++ closed (on j rest);
  is = ap closed (ap (on j) splits ∙ on-append j front rest)
      ∙ append_assoc (on j front) (on j rest) (EosMsg ∷ [])
      ∙ ap (λ l. l ++ closed (on j rest)) (sym is ∙ unaborted-append t h)
      ∙ append_assoc (unaborted t) (unaborted h) (closed (on j rest));
}

-- and where it is all with an Eos
GoesOn-closed : (n j : ℕ) (all : List Pair) (t h : List Message) → AreInner n all → t ++ h ≡ closed (on j all) → GoesOn (unaborted t) (on j all)
GoesOn-closed n j all t h inner is =
    let whole = IsOpen-on n j all inner in record {
      inner = whole;
      more = unaborted h;
      is = sym (unaborted-closed (on j all) whole) ∙ ap unaborted (sym is) ∙ unaborted-append t h;
    }

-- picks for all records of a whole in, and each out goes on by them
record GoesOnBy (u : DealState) (ps : List Pair) (ms : List Message) : Type 0 where
  picks : List ℕ
  picked : IsPicked u.way u.places 0 picks (items ms)
  each : (j : ℕ) → j < deal_outs u.way u.places → GoesOn (unaborted (on j ps)) (on j (sent u.way u.places picks (items ms)))

module _ (u : DealState) (g : List Message) (ps : List Pair) (some : 1 ≤ u.places) (ms : List Message) (goes : GoesOn (unaborted g) ms) where
  -- records behind those that were dealt
  module _ (picks : List ℕ) (xs more : List Rec) (picked : IsPicked u.way u.places 0 picks xs) (items_are : items g ≡ xs ++ more) where
    all_items : items ms ≡ xs ++ (more ++ items goes.more)
    all_items = items-goes_on g ms goes ∙ ap (λ l. l ++ items goes.more) items_are ∙ append_assoc xs more (items goes.more)

    goes_on_by : ((q : List ℕ) (ys : List Rec) → IsPicked u.way u.places 0 (picks ++ q) (xs ++ ys) → (j : ℕ) → j < deal_outs u.way u.places
        → GoesOn (unaborted (on j ps)) (on j (sent u.way u.places (picks ++ q) (xs ++ ys)))) → GoesOnBy u ps ms
    goes_on_by each =
        let ys = more ++ items goes.more in
        let q = some_picks u.way u.places (length xs) ys in
        let all = IsPicked-append u.way u.places picks q xs ys picked (IsPicked-some u.way u.places (length xs) ys some) in
        record {
          picks = picks ++ q;
          picked = subst (IsPicked u.way u.places 0 (picks ++ q)) (sym all_items) all;
          each = λ j below. subst (λ zs. GoesOn (unaborted (on j ps)) (on j (sent u.way u.places (picks ++ q) zs))) (sym all_items) (each q ys all j below);
        }

  begins-live : TiedLive u g ps → GoesOnBy u ps ms
  begins-live t = goes_on_by t.picks t.xs (option_to_list u.free) t.picked t.items_are (λ q ys all j below.
      let inner = AreInner-sent u.way u.places t.picks t.xs t.picked.within in
      GoesOn-front (deal_outs u.way u.places) j (sent u.way u.places (t.picks ++ q) (t.xs ++ ys)) (sent u.way u.places t.picks t.xs) (sent u.way u.places q ys) (on j ps) (on j u.held)
      (AreInner-sent u.way u.places (t.picks ++ q) (t.xs ++ ys) all.within) (sent-append u.way u.places t.picks q t.xs ys t.picked.each)
      (ap unaborted (sym (on-append j ps u.held) ∙ ap (on j) t.sends)
      ∙ unaborted-open (on j (sent u.way u.places t.picks t.xs)) (IsOpen-on (deal_outs u.way u.places) j (sent u.way u.places t.picks t.xs) inner)))

  begins-cut : TiedCut u g ps → GoesOnBy u ps ms
  begins-cut t = goes_on_by t.picks t.xs t.more t.picked t.items_are (λ q ys all j below.
      let outs = deal_outs u.way u.places in
      let inner = AllByRecursion-front (IsInner outs) t.front t.rest (subst (AreInner outs) t.splits (AreInner-sent u.way u.places t.picks t.xs t.picked.within)) in
      GoesOn-front outs j (sent u.way u.places (t.picks ++ q) (t.xs ++ ys)) t.front (t.rest ++ sent u.way u.places q ys) (on j ps) (on j u.held)
      (AreInner-sent u.way u.places (t.picks ++ q) (t.xs ++ ys) all.within)
      (sent-append u.way u.places t.picks q t.xs ys t.picked.each ∙ ap (λ l. l ++ sent u.way u.places q ys) t.splits ∙ append_assoc t.front t.rest (sent u.way u.places q ys))
      (ap unaborted (on-telling outs AbortMsg t.front ps u.held j below t.telling) ∙ unaborted-cut (on j t.front) (IsOpen-on outs j t.front inner)))

  begins-shut : TiedShut u g ps → GoesOnBy u ps ms
  begins-shut t =
      let whole : ms ≡ t.ms = closed-front ms t.ms goes.more goes.inner
      (goes.is ∙ ap (λ l. l ++ goes.more) (ap unaborted t.is ∙ unaborted-closed t.ms t.inner)) in
      let outs = deal_outs u.way u.places in
      record {
        picks = t.picks;
        picked = subst (λ l. IsPicked u.way u.places 0 t.picks (items l)) (sym whole) t.picked;
        each = λ j below. subst (λ l. GoesOn (unaborted (on j ps)) (on j (sent u.way u.places t.picks (items l)))) (sym whole)
            (GoesOn-closed outs j (sent u.way u.places t.picks (items t.ms)) (on j ps) (on j u.held) (AreInner-sent u.way u.places t.picks (items t.ms) t.picked.within)
            (on-telling outs EosMsg (sent u.way u.places t.picks (items t.ms)) ps u.held j below t.telling));
      }

  begins-at : (live : Bool) (end : End) → TiedAt live end u g ps → GoesOnBy u ps ms
  begins-at true Eos t = begins-live t
  begins-at true Abort t = absurd t
  begins-at true Memory t = begins-cut t
  begins-at false Eos t = begins-shut t
  begins-at false Abort t = begins-cut t.0
  begins-at false Memory t = begins-cut t

-- however its in goes on, its outs can go on so that it fits
pub BeginsToFit-deal : (u : DealState) (gots puts : List (List Message)) → IsTied u gots puts → BeginsToFit (FitsDeal u.way u.places) gots puts
BeginsToFit-deal u gots puts t = λ ins goes. outs ins (subst (λ l. AllGoOn l ins) t.gots_are goes)
  where
    outs : (ins : List (List Message)) → AllGoOn (t.got ∷ []) ins → HasOuts (FitsDeal u.way u.places) ins puts
    outs [] goes = absurd goes
    outs (ms ∷ []) goes =
        let by = begins-at u t.got t.given t.some ms goes.0 u.live u.end t.tied in
        let number = deal_outs u.way u.places in
        record {
          outs = outs_of u.way u.places by.picks (items ms);
          goes_on = AllGoOn-rows (λ j. on j (sent u.way u.places by.picks (items ms))) 0 number puts t.puts_are.outs (λ j below.
              let same : j ≡ 0 + j = omega arith in
              subst (λ i. GoesOn (unaborted (at puts j)) (on i (sent u.way u.places by.picks (items ms)))) same
              (subst (λ l. GoesOn (unaborted l) (on j (sent u.way u.places by.picks (items ms)))) (sym (t.puts_are.each j below)) (by.each j below)));
          fits = FitsDeal-sent u.way u.places by.picks ms by.picked;
        }
    outs (ms ∷ next ∷ mss) goes = absurd goes.1
