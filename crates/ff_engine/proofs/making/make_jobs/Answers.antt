-- One job more.
use Rattle.std.proofs.Common.{◌≡◌, ◌++◌, ◌∷◌, [], ◌+◌, List, length, map, flat_map, sym, ap, ◌∙◌, subst, append_assoc, append-nil, arith}
use Rattle.std.proofs.lemmas.Iterator.Adapters.{YieldsList-from_vec}
use Rattle.std.proofs.lemmas.Iterator.Consumers.{YieldsList-end}
use Rattle.std.proofs.lemmas.List.{length-append, length-map, map-append, map-id, nil_from_length}
use Rattle.std.proofs.lemmas.List.Elements.{All-push}
use Rattle.std.proofs.lemmas.Slice.Zip.{AllZip-long}
use Rattle.std.specs.List.{AllZip}
use Rattle.std.specs.Vec.Iter.{into_iter_items}
use Rattle.ff_plan.specs.Rows.{Row}
use Rattle.ff_engine.specs.Boards.{AreFresh, AreNamed}
use Rattle.ff_engine.specs.Jobs.{IsFresh, IsOpened}
use Rattle.ff_engine.specs.Lines.{HasEnds}
use Rattle.ff_engine.specs.RingSizes.{size_of}
use Rattle.ff_engine.specs.Slots.{EachKept, Holds, emptied}
use Rattle.ff_engine.proofs.BoardLaws.{AreFresh-emptied, AreNamed-emptied}
use Rattle.ff_engine.proofs.SlotLaws.{EachKept-emptied, Holds-append, length-emptied}
use Rattle.ff_engine.proofs.making.make_jobs.Goals as goal

-- there is a row for each unit
pub unreachable-requires : goal.unreachable-requires
unreachable-requires g c =
    omega (
      arith,
      c.loop-unit.rows.rest.ok.0,
      c.in_default.ensures.cases.0,
      AllZip-long (λ r u. IsOpened g.U.Unit.does r u) (into_iter_items c.loop-unit.rows) (into_iter_items c.loop-unit.unit-iterator) c.loop-unit.invariant.opened,
      ap length c.in-Some.ensures.steps.0,
    )

-- the next unit goes with the next row
pub make_job-requires-clause-opened : goal.make_job-requires-clause-opened
make_job-requires-clause-opened g c =
    let row = c.in-Some-next.row in
    let rows = into_iter_items c.next-in-loop-unit.new.self in
    let both = subst (λ us. AllZip (λ r u. IsOpened g.U.Unit.does r u) (row ∷ rows) us) c.in-Some.ensures.steps.0
    (subst (λ rs. AllZip (λ r u. IsOpened g.U.Unit.does r u) rs (into_iter_items c.loop-unit.unit-iterator)) c.in-Some-next.ensures.items c.loop-unit.invariant.opened) in
    both.0

pub make_job-requires-clause-ins : goal.make_job-requires-clause-ins
make_job-requires-clause-ins g c =
    let row = c.in-Some-next.row in
    let rows = into_iter_items c.next-in-loop-unit.new.self in
    (Holds-append row.ins (flat_map (λ (r : Row). r.ins) rows) c.loop-unit.board.ins.items
    (subst (λ (rs : List Row). Holds (flat_map (λ r. r.ins) rs) c.loop-unit.board.ins.items) c.in-Some-next.ensures.items c.loop-unit.invariant.ins)).0

pub make_job-requires-clause-outs : goal.make_job-requires-clause-outs
make_job-requires-clause-outs g c =
    let row = c.in-Some-next.row in
    let rows = into_iter_items c.next-in-loop-unit.new.self in
    (Holds-append row.outs (flat_map (λ (r : Row). r.outs) rows) c.loop-unit.board.outs.items
    (subst (λ (rs : List Row). Holds (flat_map (λ r. r.outs) rs) c.loop-unit.board.outs.items) c.in-Some-next.ensures.items c.loop-unit.invariant.outs)).0

pub loop-unit-preserved : goal.loop-unit-preserved
loop-unit-preserved g c =
    let before = c.loop-unit.invariant in
    let row = c.in-Some-next.row in
    let rows = into_iter_items c.next-in-loop-unit.new.self in
    let next = c.in-Some-next.ensures.items in
    let made = c.in_ok-make_job.ensures in
    let job = c.in_ok-make_job.field-0 in
    let jobs = c.loop-unit.jobs.items in
    let ins = c.loop-unit.board.ins.items in
    let outs = c.loop-unit.board.outs.items in
    let pushed = c.in_ok-push.ensures.items in
    let both = subst (λ us. AllZip (λ r u. IsOpened g.U.Unit.does r u) (row ∷ rows) us) c.in-Some.ensures.steps.0
    (subst (λ rs. AllZip (λ r u. IsOpened g.U.Unit.does r u) rs (into_iter_items c.loop-unit.unit-iterator)) next before.opened) in record {
      opened = both.1;
      ins = subst (λ s. Holds (flat_map (λ (r : Row). r.ins) rows) s) (sym made.ins)
          (Holds-append row.ins (flat_map (λ (r : Row). r.ins) rows) ins (subst (λ (rs : List Row). Holds (flat_map (λ r. r.ins) rs) ins) next before.ins)).1;
      outs = subst (λ s. Holds (flat_map (λ (r : Row). r.outs) rows) s) (sym made.outs)
          (Holds-append row.outs (flat_map (λ (r : Row). r.outs) rows) outs (subst (λ (rs : List Row). Holds (flat_map (λ r. r.outs) rs) outs) next before.outs)).1;
      fresh = subst (λ s. AreFresh s c.make_job.new.board.outs.items) (sym made.ins)
          (subst (λ s. AreFresh (emptied row.ins ins) s) (sym made.outs) (AreFresh-emptied ins outs row.ins row.outs before.fresh));
      named = λ name named. subst (λ s. AreNamed name s c.make_job.new.board.outs.items) (sym made.ins)
          (subst (λ s. AreNamed name (emptied row.ins ins) s) (sym made.outs) (AreNamed-emptied ins outs name row.ins row.outs (before.named name named)));
      sized = λ size each. subst (λ s. EachKept (λ e out. size_of out ≡ size e) s) (sym made.outs) (EachKept-emptied (λ e out. size_of out ≡ size e) row.outs outs (before.sized size each));
      units = ap (map (λ j. j.unit)) pushed ∙ map-append (λ j. j.unit) jobs (job ∷ [])
          ∙ ap (λ us. us ++ job.unit ∷ []) before.units ∙ ap (λ u. c.loop-unit.yielded ++ u ∷ []) made.unit;
      rows = ap (λ js. map (λ j. j.row) js ++ rows) pushed ∙ ap (λ l. l ++ rows) (map-append (λ j. j.row) jobs (job ∷ []))
          ∙ append_assoc (map (λ j. j.row) jobs) (job.row ∷ []) rows ∙ ap (λ (r : Row). map (λ j. j.row) jobs ++ r ∷ rows) made.row
          ∙ ap (λ (l : List Row). map (λ j. j.row) jobs ++ l) (sym next) ∙ before.rows;
      jobs = rw pushed (All-push (λ j. IsFresh g.U.Unit.does j) jobs job before.jobs made.fresh);
      ends = λ name named. rw pushed (All-push (λ j. HasEnds name j) jobs job (before.ends name named) (made.ends name (before.named name named)));
      sizes = λ size each. rw pushed (All-push (λ j. j.sizes ≡ map size j.row.outs) jobs job (before.sizes size each) (made.sizes size (before.sized size each)));
      places = ap length made.ins ∙ length-emptied row.ins ins ∙ before.places;
      out_places = ap length made.outs ∙ length-emptied row.outs outs ∙ before.out_places;
    }

pub returns-clause-units : goal.returns-clause-units
returns-clause-units g c =
    let units = c.args.units in
    let begins = c.into_iter-unit-iterator.ensures.into_iter_gives in
    let end = YieldsList-end (YieldsList-from_vec {s = c.into_iter-unit-iterator.result} units.items begins.0 (begins.1 ∙ units.ok.0)) c.loop-unit.yielded c.loop-unit.unit-iterator c.loop-unit.yielded_by c.next.result c.next.new.self c.in-None.is c.next.ensures.steps in
    c.loop-unit.invariant.units ∙ sym (map-id c.loop-unit.yielded) ∙ end.0

-- there are as many rows as units, so none is left
pub returns-clause-rows : goal.returns-clause-rows
returns-clause-rows g c =
    let units = c.args.units in
    let begins = c.into_iter-unit-iterator.ensures.into_iter_gives in
    let end = YieldsList-end (YieldsList-from_vec {s = c.into_iter-unit-iterator.result} units.items begins.0 (begins.1 ∙ units.ok.0)) c.loop-unit.yielded c.loop-unit.unit-iterator c.loop-unit.yielded_by c.next.result c.next.new.self c.in-None.is c.next.ensures.steps in
    let jobs = c.loop-unit.jobs.items in
    let rows = into_iter_items c.loop-unit.rows in
    let all : length jobs ≡ length units.items =
    sym (length-map jobs (λ j. j.unit)) ∙ ap length (c.loop-unit.invariant.units ∙ sym (map-id c.loop-unit.yielded) ∙ end.0) in
    let many : length (map (λ j. j.row) jobs) + length rows ≡ length c.args.rows.items =
    sym (length-append (map (λ j. j.row) jobs) rows) ∙ ap length c.loop-unit.invariant.rows in
    let none : rows ≡ [] =
    nil_from_length rows (omega (arith, all, many, length-map jobs (λ j. j.row), AllZip-long (λ r u. IsOpened g.U.Unit.does r u) c.args.rows.items units.items c.requires.opened)) in
    sym (append-nil (map (λ j. j.row) jobs)) ∙ ap (λ (l : List Row). map (λ j. j.row) jobs ++ l) (sym none) ∙ c.loop-unit.invariant.rows
