-- An ordered deal that waits, or has ended.
use Rattle.std.specs.Prelude.{◌≤◌, slice_index, IsSome}
use Rattle.std.proofs.Common.{◌≡◌, ◌⊎◌, ℕ, zero, suc, ◌+◌, ◌<◌, Bool, true, false, List, [], ◌∷◌, ◌++◌, length, Option, None, Some, refl, sym, ap, ◌∙◌, subst, inl, inr, arith, append-nil}
use Rattle.ff_rec.specs.Lines.{Rec}
use Rattle.ff_rec.specs.Streams.{at, items}
use Rattle.ff_rec.specs.declared.msg.Msg.TheVariants.{Item, Mark, Pick, Eos as EosMsg, Abort as AbortMsg}
use Rattle.ff_node.specs.Fits.{marks}
use Rattle.ff_node.specs.Picks.{turns_from}
use Rattle.ff_node.specs.Runs.{Message}
use Rattle.ff_port.specs.declared.answers.End.{End}
use Rattle.ff_port.specs.declared.answers.End.TheVariants.{Eos, Abort, Memory}
use Rattle.ff_unit.specs.DealPairLaws.{Pair, on, on-append}
use Rattle.ff_unit.specs.DealPickLaws.{IsOnDemand, IsPicked, ByWay}
use Rattle.ff_unit.specs.DealSentLaws.{sent}
use Rattle.ff_unit.specs.DealTellingLaws.{on-untold}
use Rattle.ff_unit.specs.DealTiedLaws.{IsTelling, TiedAt, IsTied}
use Rattle.ff_unit.specs.Deals.{DealState, deal_does, deal_outs, on_outs}
use Rattle.ff_unit.specs.Units.{Ran, Known}
use Rattle.ff_unit.specs.declared.dealing.Dealing.{Dealing}
use Rattle.ff_unit.specs.declared.dealing.Dealing.TheVariants.{InTurn, OnDemand, ByKey, GroupsInTurn, GroupsOnDemand}
use Rattle.ff_unit.proofs.Rests.{HasEnd, turn, turns_of, MarkLast}
use Rattle.ff_unit.proofs.Rests.{AtRest, Rested, FullOut, RestedDeal}
use Rattle.ff_unit.proofs.DealRests.{Blocked, tied, deal_blocked}
use Rattle.ff_order.proofs.OrderFronts.{FrontInTurn, front_in_turn, marks-on_outs}
use Rattle.ff_unit.proofs.TurnMarks.{marks-append}

-- a deal that doesn't go on demand holds no record that is free
free_at : (live : Bool) (end : End) (u : DealState) (g : List Message) (ps : List Pair) → (IsOnDemand u.way → ⊥) → TiedAt live end u g ps → u.free ≡ None
free_at true Eos u g ps other t = by u.free refl
  where
    by : (free : Option Rec) → u.free ≡ free → u.free ≡ None
    by None is = is
    by (Some x) is = absurd (other (t.alone (subst IsSome (sym is) refl)).1)
free_at true Abort u g ps other t = absurd t
free_at true Memory u g ps other t = t.none
free_at false Eos u g ps other t = t.none
free_at false Abort u g ps other t = t.0.none
free_at false Memory u g ps other t = t.none

pub free_none : (u : DealState) (gots puts : List (List Message)) → IsTied u gots puts → (IsOnDemand u.way → ⊥) → u.free ≡ None
free_none u gots puts t other = free_at u.live u.end u t.got t.given other t.tied

-- what was put, round and round: by what is held first
record Dealt (n : ℕ) (held ps : List Pair) : Type 0 where
  pub number : ℕ
  pub marked : (j : ℕ) → marks (on j ps) ≡ turns_of n number j
  pub next : (pair : Pair) (more : List Pair) → held ≡ pair ∷ more → (pair.0 ≡ turn n number) ⊎ MarkLast (on pair.0 ps)

-- a front of what is sent, and then the end on some outs
telling_dealt : (n : ℕ) (m : Message) (front ps held : List Pair) → marks (m ∷ []) ≡ 0 → IsTelling n m front ps held → (rest : List Pair) → FrontInTurn n front rest → Dealt n held ps
telling_dealt n m front ps held none t rest f = record {
  number = f.number;
  marked = λ j.
      omega (
        arith,
        f.marked j,
        ap (λ l. marks (on j l)) t.were,
        ap marks (on-append j front (on_outs 0 t.told m)),
        marks-append (on j front) (on j (on_outs 0 t.told m)),
        marks-on_outs j 0 t.told m none,
      );
  next = by t.left t.are;
}
  where
    by : (left : ℕ) → held ≡ on_outs t.told left m → (pair : Pair) (more : List Pair) → held ≡ pair ∷ more → (pair.0 ≡ turn n f.number) ⊎ MarkLast (on pair.0 ps)
    by zero are pair more is = absurd (let h : pair ∷ more ≡ [] = sym is ∙ are in cc)
    by (suc left) are pair more is =
        let h : pair ∷ more ≡ (t.told, m) ∷ on_outs (suc t.told) left m = sym is ∙ are in
        let same : ◌≡◌ {A = Pair} pair (t.told, m) = cc in
        let place : pair.0 ≡ t.told = ap (λ (q : Pair). q.0) same in
        let from : t.told ≤ pair.0 = omega (arith, place) in
        elim (f.last pair.0) [
          | inl here ↦ inl here
          | inr last ↦ inr (subst MarkLast (sym (on-untold n m front ps held pair.0 t from)) last)
        ]

module _ (u : DealState) (way : u.way ≡ GroupsInTurn) (some : 1 ≤ u.places) where
  -- the picks are in turn
  front : (picks : List ℕ) (xs : List Rec) (ps rest : List Pair) → IsPicked u.way u.places 0 picks xs → ps ++ rest ≡ sent u.way u.places picks xs → FrontInTurn u.places ps rest
  front picks xs ps rest picked is =
      front_in_turn u.places picks xs ps rest some picked.each
      (subst (λ w. ByWay w u.places 0 picks xs) way picked.by_way)
      (subst (λ w. ps ++ rest ≡ sent w u.places picks xs) way is)

  outs_are : deal_outs u.way u.places ≡ u.places
  outs_are = ap (λ w. deal_outs w u.places) way

  telling : (m : Message) (front_pairs ps rest : List Pair) → marks (m ∷ []) ≡ 0 → IsTelling (deal_outs u.way u.places) m front_pairs ps u.held → FrontInTurn u.places front_pairs rest → Dealt u.places u.held ps
  telling m front_pairs ps rest none t f = telling_dealt u.places m front_pairs ps u.held none (subst (λ n. IsTelling n m front_pairs ps u.held) outs_are t) rest f

  dealt_at : (live : Bool) (end : End) (g : List Message) (ps : List Pair) → TiedAt live end u g ps → Dealt u.places u.held ps
  dealt_at true Eos g ps t =
      let f = front t.picks t.xs ps u.held t.picked t.sends in
      record { number = f.number; marked = f.marked; next = λ pair more is. inl (f.next pair more is) }
  dealt_at true Abort g ps t = absurd t
  dealt_at true Memory g ps t = telling AbortMsg t.front ps t.rest refl t.telling (front t.picks t.xs t.front t.rest t.picked (sym t.splits))
  dealt_at false Eos g ps t =
      let all = sent u.way u.places t.picks (items t.ms) in
      telling EosMsg all ps [] refl t.telling (front t.picks (items t.ms) all [] t.picked (append-nil all))
  dealt_at false Abort g ps t = telling AbortMsg t.0.front ps t.0.rest refl t.0.telling (front t.0.picks t.0.xs t.0.front t.0.rest t.0.picked (sym t.0.splits))
  dealt_at false Memory g ps t = telling AbortMsg t.front ps t.rest refl t.telling (front t.picks t.xs t.front t.rest t.picked (sym t.splits))

  pub odeal_rests : (gots puts : List (List Message)) (before after : Known) → Ran deal_does u gots puts → u.told ≡ false → AtRest deal_does u before after → after.waiting ≡ 0
      → RestedDeal u.places gots puts after u.done
  odeal_rests gots puts before after ran told rest idle =
      let t = tied u gots puts ran told in
      let d = dealt_at u.live u.end t.got t.given t.tied in
      let none = free_none u gots puts t (subst (λ w. IsOnDemand w → ⊥) (sym way) (λ h. h)) in
      let within : (j : ℕ) → j < u.places → j < deal_outs u.way u.places = λ j below. subst (λ n. j < n) (sym outs_are) below in
      record {
        number = d.number;
        dealt = λ j below. ap marks (t.puts_are.each j (within j below)) ∙ d.marked j;
        state = by t.given d t.puts_are.each (deal_blocked u gots puts ran told before after idle none rest);
      }
    where
      by : (given : List Pair) (d : Dealt u.places u.held given) → ((j : ℕ) → j < deal_outs u.way u.places → at puts j ≡ on j given)
          → Blocked u gots puts ran told before after idle ⊎ Rested 1 (deal_outs u.way u.places) gots puts after u.done
          → FullOut u.places d.number puts after ⊎ Rested 1 u.places gots puts after u.done
      by given d each (inr rested) = inr (subst (λ n. Rested 1 n gots puts after u.done) outs_are rested)
      by given d each (inl blocked) = inl (record {
        k = blocked.pair.0;
        below = subst (λ n. blocked.pair.0 < n) outs_are blocked.below;
        full = blocked.full;
        where_it_is = elim (d.next blocked.pair blocked.rest blocked.is) [
          | inl here ↦ inl here
          | inr last ↦ inr (subst MarkLast (sym (each blocked.pair.0 blocked.below)) last)
        ];
      })
