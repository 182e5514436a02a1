-- A record came and its line was printed, or a message that carries nothing.
use Rattle.std.proofs.Common.{refl, ap, ◌∙◌, ◌++◌, ◌∷◌, [], Err}
use Rattle.std.proofs.lemmas.Result.{err_from_is_err_and}
use Rattle.ff_rec.specs.Lines.{line_of}
use Rattle.ff_engine.specs.Seen.{caller_of}
use Rattle.ff_engine.proofs.Callings.{Breaks-starved, GoesOn-broken, Moves-held, Moves-other, Moves-trans, SameRings-trans}
use Rattle.ff_engine.proofs.caller.Caller.receive.Goals as goal

pub returns-in_err-print-clause-goes : goal.returns-in_err-print-clause-goes
returns-in_err-print-clause-goes g c =
    let p = err_from_is_err_and c.from_residual.result c.from_residual.ensures.1 in
    let took = c.in-Some.ensures.0 ∙ ap (λ m. (caller_of c.args.self.now).got ++ m ∷ []) c.in-Item.is in
    rw (p.1 ∙ ap (λ halt. Err halt) p.2) (record {
      moves = tt;
      breaks = Breaks-starved (caller_of c.args.self.now) _ c.in-Item.r _ took;
      rings = record { writes = c.in-Some.ensures.3.writes; reads = c.in-Some.ensures.3.reads; holds = c.in-Some.ensures.3.holds };
      counts = refl;
      starves = λ holds. refl;
    })

pub returns-in_err-write_much-clause-goes : goal.returns-in_err-write_much-clause-goes
returns-in_err-write_much-clause-goes g c =
    let p = err_from_is_err_and c.from_residual-in_err-write_much.result c.from_residual-in_err-write_much.ensures.1 in
    let took = c.in-Some.ensures.0 ∙ ap (λ m. (caller_of c.args.self.now).got ++ m ∷ []) c.in-Item.is in
    rw (p.1 ∙ ap (λ halt. Err halt) p.2)
    (GoesOn-broken _ (caller_of c.args.self.now) _ (caller_of c.write_much.new.self) _ _ _ _ _ _
    (Moves-held (caller_of c.args.self.now) _ c.in-Item.r _ took (c.in_ok-print.ensures.ok ∙ ap (λ l. l ++ line_of c.in-Item.r) c.in-Some.ensures.2))
    (record { writes = c.in-Some.ensures.3.writes; reads = c.in-Some.ensures.3.reads; holds = c.in-Some.ensures.3.holds }) refl c.in_err-write_much.ensures.goes)

pub returns-in_ok-write_much-clause-goes : goal.returns-in_ok-write_much-clause-goes
returns-in_ok-write_much-clause-goes g c =
    let took = c.in-Some.ensures.0 ∙ ap (λ m. (caller_of c.args.self.now).got ++ m ∷ []) c.in-Item.is in
    record {
      moves = Moves-trans (caller_of c.args.self.now) _ (caller_of c.write_much.new.self) _ _ _ c.in-Some.ensures.3.holds
          (Moves-held (caller_of c.args.self.now) _ c.in-Item.r _ took (c.in_ok-print.ensures.ok ∙ ap (λ l. l ++ line_of c.in-Item.r) c.in-Some.ensures.2))
          c.in_ok-write_much.ensures.goes.moves;
      breaks = tt;
      rings = SameRings-trans (caller_of c.args.self.now) (caller_of c.take.new.self) (caller_of c.write_much.new.self) c.in-Some.ensures.3
          (let rings = c.in_ok-write_much.ensures.goes.rings in record { writes = rings.writes; reads = rings.reads; holds = rings.holds });
      counts = c.in_ok-write_much.ensures.goes.counts;
      starves = tt;
    }

pub returns-in_default-m : goal.returns-in_default-m
returns-in_default-m g c = record {
  put = c.in-Some.ensures.1;
  goes = record {
    moves = Moves-other (caller_of c.args.self.now) (caller_of c.take.new.self) c.in-Some.m _ c.in_default-m.not-Item c.in-Some.ensures;
    breaks = tt;
    rings = c.in-Some.ensures.3;
    counts = refl;
    starves = tt;
  };
}
