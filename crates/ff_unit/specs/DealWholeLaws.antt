-- A deal that has ended by Eos fits what it took and put.
use Rattle.std.specs.Prelude.{◌≡◌, ◌+◌, true, false, List, [], ◌∷◌, ◌++◌, Some}
use Rattle.std.proofs.Common.{sym, ap, ◌∙◌, subst, arith, append-nil}
use Rattle.ff_rec.specs.Streams.{items, closed}
use Rattle.ff_rec.specs.declared.msg.Msg.TheVariants.{Eos as EosMsg}
use Rattle.ff_node.specs.Runs.{Message, FitsWhole}
use Rattle.ff_port.specs.declared.answers.End.TheVariants.{Eos}
use Rattle.ff_unit.specs.Closing.{decided}
use Rattle.ff_unit.specs.Deals.{DealState, FitsDeal, deal_outs}
use Rattle.ff_unit.specs.DealFitsLaws.{outs_of, FitsDeal-sent}
use Rattle.ff_unit.specs.DealPairLaws.{on, IsOpen-on}
use Rattle.ff_unit.specs.DealRowLaws.{rows-closed, AreOpen-rows}
use Rattle.ff_unit.specs.DealSentLaws.{sent, AreInner-sent}
use Rattle.ff_unit.specs.DealTellingLaws.{on-telling}
use Rattle.ff_unit.specs.DealTiedLaws.{TiedShut, TiedAt, IsTied}

whole-shut : (u : DealState) (gots puts : List (List Message)) (t : IsTied u gots puts) → u.held ≡ [] → TiedShut u t.got t.given → FitsWhole (FitsDeal u.way u.places) gots puts
whole-shut u gots puts t none s =
    let number = deal_outs u.way u.places in
    let all = sent u.way u.places s.picks (items s.ms) in
    record {
      ins = s.ms ∷ [];
      outs = outs_of u.way u.places s.picks (items s.ms);
      ins_open = (s.inner, tt);
      outs_open = AreOpen-rows (λ j. on j all) 0 number (λ j. IsOpen-on number j all (AreInner-sent u.way u.places s.picks (items s.ms) s.picked.within));
      gots_are = t.gots_are ∙ ap (λ l. l ∷ []) s.is;
      puts_are = rows-closed (λ j. on j all) 0 number puts t.puts_are.outs (λ j below.
          let same : j ≡ 0 + j = omega arith in
          t.puts_are.each j below
          ∙ sym (append-nil (on j t.given))
          ∙ ap (λ h. on j t.given ++ on j h) (sym none)
          ∙ on-telling number EosMsg all t.given u.held j below s.telling
          ∙ ap (λ i. closed (on i all)) same);
      fits = FitsDeal-sent u.way u.places s.picks s.ms s.picked;
    }

pub FitsWhole-deal : (u : DealState) (gots puts : List (List Message)) → IsTied u gots puts → u.done ≡ true → decided u.live u.end ≡ Some Eos
    → FitsWhole (FitsDeal u.way u.places) gots puts
FitsWhole-deal u gots puts t done fin =
    let rests = t.done done in
    let is : Some u.end ≡ Some Eos = sym (ap (λ l. decided l u.end) rests.2) ∙ fin in
    let eos : u.end ≡ Eos = cc in
    whole-shut u gots puts t rests.1 (subst (λ e. TiedAt false e u t.got t.given) eos (subst (λ l. TiedAt l u.end u t.got t.given) rests.2 t.tied))
