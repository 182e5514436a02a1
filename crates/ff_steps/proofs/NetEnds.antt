-- What the core of a network gave whose parties have all ended.
use Rattle.std.proofs.Common.{◌≡◌, ℕ, Bool, true, false, ◌&&◌, ◌||◌, Option, None, Some, IsSome, List, [], ◌∷◌, ◌++◌, length, map, sum_by, refl, sym, ap, ◌∙◌, subst, append-nil}
use Rattle.std.proofs.lemmas.List.{length-map}
use Rattle.std.specs.List.{AllByRecursion, list_all, list_any}
use Rattle.std.proofs.lemmas.Bool.{and_parts, or_parts, both_ways}
use Rattle.ff_rec.specs.Lines.{Rec}
use Rattle.ff_rec.specs.Streams.{IsOpenMsg, items, carried, closed}
use Rattle.ff_rec.specs.declared.msg.Msg.TheVariants.{Item, Mark, Pick, Eos as EosMsg, Abort as AbortMsg}
use Rattle.ff_rec.specs.Weights.{Same}
use Rattle.ff_node.specs.Behaviour.{Behaviour, KeepsKind, node_rejected}
use Rattle.ff_node.specs.Comb.{comb_node, running}
use Rattle.ff_node.specs.Runs.{Message}
use Rattle.ff_node.specs.Sends.{counted}
use Rattle.ff_net.specs.Counts.{units as units_of_all}
use Rattle.ff_net.specs.Forms.{has_copies}
use Rattle.ff_net.specs.Good.{Good}
use Rattle.ff_net.specs.Meaning.{mean_rejected, mean_rejected_count, Answers}
use Rattle.ff_net.specs.Nodes.{nodes_in}
use Rattle.ff_net.specs.Tree.{Tree}
use Rattle.ff_net.proofs.NodeGroups.{length-node_groups}
use Rattle.ff_plan.specs.Laying.{units_of}
use Rattle.ff_plan.specs.LogLaws.{LogLaws}
use Rattle.ff_plan.specs.PlanLaws.{WholeRuns}
use Rattle.ff_plan.specs.Plans.{rows_of}
use Rattle.ff_plan.specs.Rows.{Row, Laid}
use Rattle.ff_plan.proofs.FormLaws.{no_copies_no_wrap}
use Rattle.ff_plan.proofs.MeanPlain.{no_wrap_fine}
use Rattle.ff_plan.proofs.LaidUnits.{length-rows_of}
use Rattle.ff_port.specs.Queues.{put_of}
use Rattle.ff_port.specs.declared.answers.End.{End}
use Rattle.ff_port.specs.declared.answers.End.TheVariants.{Eos, Abort, Memory}
use Rattle.ff_unit.specs.MessageLaws.{items-append}
use Rattle.ff_unit.specs.Units.{Doing, IsUnit}
use Rattle.ff_steps.specs.Core.{CoreState, edge, IsSound, all_ended, is_cut_off, is_short, held_rejects, taken_rejects}
use Rattle.ff_steps.specs.NetCores.{IsNetCore, TellsOver}
use Rattle.ff_steps.specs.NetUnits.{NetState, net_does, any_over}
use Rattle.ff_steps.specs.OverEdges.{RanAlong, HasAnswered, LogsAreRight}
use Rattle.ff_steps.specs.PlanUnits.{opened_unit}
use Rattle.ff_steps.specs.Parties.{Feeder, Drainer, AsUnit, AsFeeder, AsDrainer, has_ended}
use Rattle.ff_steps.proofs.DrainerRuns.{IsEnded, items-drainer, IsEnded-drainer}
use Rattle.ff_steps.proofs.FeederRuns.{at-feeder_done}
use Rattle.ff_steps.proofs.MessageLists.{items-carried, ended-front}
use Rattle.ff_steps.proofs.NetRuns.{RanOver-core, run-feeder, run-drainer}
use Rattle.ff_steps.proofs.OneNode.{one_group, node_rejected-one}
use Rattle.ff_steps.proofs.OneUnit.{no_copies-one_unit}
use Rattle.ff_steps.proofs.OverEnds.{HasEndedWell}
use Rattle.ff_steps.proofs.OverWhole.{HasAnswered-over, Over-over, LogsAreRight-over}

-- an end that is decided and isn't cut off is Eos
fin-eos : (fin : Option End) → IsSome fin → is_cut_off fin ≡ false → fin ≡ Some Eos
fin-eos None some whole = absurd (both_ways false refl some)
fin-eos (Some Eos) some whole = refl
fin-eos (Some Abort) some whole = absurd (both_ways true whole refl)
fin-eos (Some Memory) some whole = absurd (both_ways true whole refl)

-- where all parties have ended, each has
ended-parts : {U : Type 0} (b : Doing U) (us : List U) (f : Feeder) (d : Drainer) → list_all (has_ended b) (map (λ u. AsUnit u) us ++ AsFeeder f ∷ AsDrainer d ∷ []) ≡ true
    → AllByRecursion (λ u. b.done u ≡ true) us × ((f.done ≡ true) × (d.done ≡ true))
ended-parts b [] f d e = let p : (f.done ≡ true) × ((d.done && true) ≡ true) = and_parts f.done (d.done && true) e in (tt, (p.0, (and_parts d.done true p.1).0))
ended-parts b (u ∷ us) f d e =
    let p : (b.done u ≡ true) × (list_all (has_ended b) (map (λ v. AsUnit v) us ++ AsFeeder f ∷ AsDrainer d ∷ []) ≡ true) =
    and_parts (b.done u) (list_all (has_ended b) (map (λ v. AsUnit v) us ++ AsFeeder f ∷ AsDrainer d ∷ [])) e in
    let rest : AllByRecursion (λ v. b.done v ≡ true) us × ((f.done ≡ true) × (d.done ≡ true)) = ended-parts b us f d p.1 in
    ((p.0, rest.0), rest.1)

-- what carries nothing
items-end : (m : Message) → (IsOpenMsg m → ⊥) → items (m ∷ []) ≡ []
items-end (Item x) end = absurd (end tt)
items-end Mark end = absurd (end tt)
items-end (Pick w) end = absurd (end tt)
items-end EosMsg end = refl
items-end AbortMsg end = refl

-- units that have ended, none of them cut off, have ended with their ins
pub ended-along : {U : Type 0} (d : Doing U) → IsUnit d → (got put : ℕ → List Message) (rows : List Row) (units : List U) → RanAlong d got put rows units
    → AllByRecursion (λ u. d.done u ≡ true) units → list_any (λ u. d.done u && is_cut_off (d.fin u)) units ≡ false → AllByRecursion (HasEndedWell d) units
ended-along d laws got put rows [] ran done whole = tt
ended-along d laws got put [] (u ∷ us) ran done whole = absurd ran
ended-along d laws got put (row ∷ rows) (u ∷ us) ran done whole =
    let p : ((d.done u && is_cut_off (d.fin u)) ≡ false) × (list_any (λ v. d.done v && is_cut_off (d.fin v)) us ≡ false) =
    or_parts (d.done u && is_cut_off (d.fin u)) (list_any (λ v. d.done v && is_cut_off (d.fin v)) us) whole in (
      (done.0, fin-eos (d.fin u) (laws.ends u (map got row.ins) (map put row.outs) ran.0 done.0) (ap (λ x. x && is_cut_off (d.fin u)) (sym done.0) ∙ p.0)),
      ended-along d laws got put rows us ran.1 done.1 p.1,
    )

module _ {N : Type 0} (b : Behaviour N) (kind : KeepsKind b) (laws : IsUnit (net_does b)) (m : ℕ) (keep : Bool) (t : Tree N) (good : Good b t)
    (runs : (m : ℕ) → WholeRuns b m t) (c : CoreState (NetState N)) (is : IsNetCore b m keep t c) (sound : IsSound (net_does b) c)
    (ended : all_ended (net_does b) c ≡ true) (whole : is_short (net_does b) c ≡ false) where
  parts : AllByRecursion (λ u. (net_does b).done u ≡ true) c.units × ((c.feeder.done ≡ true) × (c.drainer.done ≡ true))
  parts = ended-parts (net_does b) c.units c.feeder c.drainer ended

  -- no party was refused memory
  whole-parts : (list_any (λ u. (net_does b).done u && is_cut_off ((net_does b).fin u)) c.units ≡ false) × ((c.feeder.refused ≡ false) × (c.drainer.refused ≡ false))
  whole-parts =
      let p : (list_any (λ u. (net_does b).done u && is_cut_off ((net_does b).fin u)) c.units ≡ false) × ((c.feeder.refused || c.drainer.refused) ≡ false) =
      or_parts (list_any (λ u. (net_does b).done u && is_cut_off ((net_does b).fin u)) c.units) (c.feeder.refused || c.drainer.refused) whole in
      (p.0, or_parts c.feeder.refused c.drainer.refused p.1)

  -- the network was given the whole input
  ended_well : AllByRecursion (HasEndedWell (net_does b)) c.units
  ended_well =
      ended-along (net_does b) laws (λ e. (edge c e).got) (λ e. put_of (edge c e)) (rows_of t) c.units (RanOver-core b m keep t c is sound).ran parts.0 whole-parts.0

  fed_whole : put_of (edge c 0) ≡ closed (carried c.input)
  fed_whole = at-feeder_done c.input c.feeder [] (put_of (edge c 0) ∷ []) (run-feeder b m keep t c is sound) parts.1.0 whole-parts.1.0

  -- and gave an answer, where no unit is over
  pub HasAnswered-core : any_over c.units ≡ false → HasAnswered b m keep t c.input c.units (λ e. put_of (edge c e))
  HasAnswered-core none =
      HasAnswered-over b kind laws m keep t good c.units (λ e. (edge c e).got) (λ e. put_of (edge c e)) (RanOver-core b m keep t c is sound) ended_well c.input fed_whole
      (runs m) none

  -- some is exactly where the network's meaning is
  pub TellsOver-core : TellsOver b m t c.input c.units
  TellsOver-core = record {
    over = Over-over b kind laws m keep t good c.units (λ e. (edge c e).got) (λ e. put_of (edge c e)) (RanOver-core b m keep t c is sound) ended_well c.input fed_whole (runs m);
    fine = λ none. (HasAnswered-core none).answers.fine;
  }

  -- the logs of the masters
  pub LogsAreRight-core : LogLaws b m t → LogsAreRight b m t c.units (λ e. put_of (edge c e))
  LogsAreRight-core logs =
      LogsAreRight-over b kind laws m keep t good c.units (λ e. (edge c e).got) (λ e. put_of (edge c e)) (RanOver-core b m keep t c is sound) ended_well c.input fed_whole logs

  -- the drainer took all of it
  items-last : (ys : List Rec) → put_of (edge c 1) ≡ closed (carried ys) → items (edge c 1).got ≡ ys
  items-last ys is_all = from (IsEnded-drainer c.drainer ((edge c 1).got ∷ []) [] (run-drainer b m keep t c is sound) parts.1.1)
    where
      from : IsEnded (edge c 1).got → items (edge c 1).got ≡ ys
      from h =
          let all : h.front ≡ carried ys = ended-front h.front h.last (edge c 1).inside ys h.ends (ap (λ l. l ++ (edge c 1).inside) (sym h.is) ∙ is_all) in
          ap items h.is ∙ items-append h.front (h.last ∷ []) ∙ ap (λ l. items h.front ++ l) (items-end h.last h.ends) ∙ append-nil (items h.front)
          ∙ ap items all ∙ items-carried ys

  -- and kept it
  pub output-ended : (ys : List Rec) → put_of (edge c 1) ≡ closed (carried ys) → c.drainer.output ≡ ys
  output-ended ys is_all = from (items-drainer c.drainer ((edge c 1).got ∷ []) [] (run-drainer b m keep t c is sound))
    where
      from : ((lost : List Rec) × (items (edge c 1).got ≡ c.drainer.output ++ lost) × (c.drainer.refused ≡ false → lost ≡ [])) → c.drainer.output ≡ ys
      from d = sym (append-nil c.drainer.output) ∙ ap (λ l. c.drainer.output ++ l) (sym (d.2 whole-parts.1.1)) ∙ sym d.1 ∙ items-last ys is_all

  -- the answer, the number of the rejects, and those that are held behind those that were taken out
  pub Answers-core : any_over c.units ≡ false → Answers b m t c.input c.drainer.output
  Answers-core none =
      let a = HasAnswered-core none in
      subst (λ ys. Answers b m t c.input ys) (sym (output-ended a.ys a.carries)) a.answers

  pub number-core : any_over c.units ≡ false → counted (sum_by (net_does b).rejects c.units) ≡ mean_rejected_count b m t c.input
  number-core none = (HasAnswered-core none).number

  pub held-core : any_over c.units ≡ false → keep ≡ true
      → Same (taken_rejects (net_does b) c ++ held_rejects (net_does b) c) (mean_rejected b m t c.input)
  held-core none kept = (HasAnswered-core none).kept kept

  length-made : length c.units ≡ units_of_all t
  length-made =
      sym (length-map c.units (net_does b).opening) ∙ ap length (sound.made_of ∙ is.made) ∙ length-map (units_of t) (opened_unit b m keep)
      ∙ sym (length-map (units_of t) (λ (l : Laid N). l.row)) ∙ length-rows_of t

  -- a unit alone is never over
  none_of_one : has_copies t ≡ false → any_over c.units ≡ false
  none_of_one copied = by (any_over c.units) refl
    where
      by : (some : Bool) → any_over c.units ≡ some → any_over c.units ≡ false
      by false is_over = is_over
      by true is_over = absurd (TellsOver-core.over is_over (no_wrap_fine b m t (no_copies_no_wrap t copied) c.input))

  -- in their order where there is one unit
  pub held_of_one-core : keep ≡ true → length c.units ≡ 1
      → taken_rejects (net_does b) c ++ held_rejects (net_does b) c ≡ node_rejected (comb_node b) (running (map b.opening (nodes_in t))) c.input
  held_of_one-core kept one = (HasAnswered-core (none_of_one (no_copies-one_unit b t good (sym length-made ∙ one)))).kept_of_one kept one

  -- and in the network's where there is one node, and no copy of it
  pub held_of_node-core : keep ≡ true → has_copies t ≡ false → length (nodes_in t) ≡ 1
      → taken_rejects (net_does b) c ++ held_rejects (net_does b) c ≡ mean_rejected b m t c.input
  held_of_node-core kept whole_net one =
      held_of_one-core kept (length-made ∙ sym (length-node_groups t whole_net) ∙ one_group b kind t whole_net good one) ∙ node_rejected-one b kind t whole_net (nodes_in t) refl one m c.input
