-- The readers of a statement, one after another.
use Rattle.std.proofs.Common.{ℕ, ◌<◌, ◌*◌, Option, None, length, refl, sym, subst, ◌∙◌, arith}
use Rattle.std.proofs.lemmas.List.{get_or_read}
use Rattle.ff_mdf_tasks.specs.ByLinks.{answer_in}
use Rattle.ff_mdf_tasks.proofs.QueueLaws.{WakesFrom, WakesFrom-next, WakesFrom-within, Wakes-end, readers_left, readers_left-next}
use Rattle.ff_mdf_tasks.proofs.waking.wake.Goals as goal

pub queue_ready-requires-clause-within : goal.queue_ready-requires-clause-within
queue_ready-requires-clause-within c =
    let ss = c.args.program.now in
    let known = answer_in c.args.answers.now in
    let r = c.requires.readers in
    let q = c.loop-reader.queue.order in
    let old = c.args.queue.now.order in
    let w = subst (λ (o : Option ℕ). WakesFrom ss known c.args.id old o q) c.in-Some.is c.loop-reader.invariant.wakes in
    let below : c.in-Some.t < 3 * length ss =
    WakesFrom-within ss known c.args.readers.now.latest.items c.args.readers.now.earlier.items r c.args.id c.requires.within old c.in-Some.t q w in
    omega arith

pub index-reader-requires-in-Some : goal.index-reader-requires-in-Some
index-reader-requires-in-Some c =
    let ss = c.args.program.now in
    let known = answer_in c.args.answers.now in
    let r = c.requires.readers in
    let q = c.loop-reader.queue.order in
    let old = c.args.queue.now.order in
    let w = subst (λ (o : Option ℕ). WakesFrom ss known c.args.id old o q) c.in-Some.is c.loop-reader.invariant.wakes in
    let below : c.in-Some.t < 3 * length ss =
    WakesFrom-within ss known c.args.readers.now.latest.items c.args.readers.now.earlier.items r c.args.id c.requires.within old c.in-Some.t q w in
    omega (arith, r.operands, c.args.readers.now.earlier.ok.0)

pub loop-reader-smaller : goal.loop-reader-smaller
loop-reader-smaller c =
    let ss = c.args.program.now in
    let known = answer_in c.args.answers.now in
    let r = c.requires.readers in
    let q = c.loop-reader.queue.order in
    let old = c.args.queue.now.order in
    let earlier = c.args.readers.now.earlier.items in
    let t = c.in-Some.t in
    let reader = c.index-reader-in-Some.result.now in
    let w = subst (λ (o : Option ℕ). WakesFrom ss known c.args.id old o q) c.in-Some.is c.loop-reader.invariant.wakes in
    let below : t < 3 * length ss = WakesFrom-within ss known c.args.readers.now.latest.items earlier r c.args.id c.requires.within old t q w in
    let is = get_or_read earlier t reader (omega (arith, r.operands)) c.index-reader-in-Some.ensures None in
    subst (λ (o : Option ℕ). readers_left reader < readers_left o) (sym c.in-Some.is)
    (readers_left-next ss known c.args.readers.now.latest.items earlier r c.args.id c.requires.within old t reader q w is)

pub loop-reader-preserved : goal.loop-reader-preserved
loop-reader-preserved c =
    let ss = c.args.program.now in
    let known = answer_in c.args.answers.now in
    let r = c.requires.readers in
    let q = c.loop-reader.queue.order in
    let old = c.args.queue.now.order in
    let earlier = c.args.readers.now.earlier.items in
    let t = c.in-Some.t in
    let reader = c.index-reader-in-Some.result.now in
    let w = subst (λ (o : Option ℕ). WakesFrom ss known c.args.id old o q) c.in-Some.is c.loop-reader.invariant.wakes in
    let below : t < 3 * length ss = WakesFrom-within ss known c.args.readers.now.latest.items earlier r c.args.id c.requires.within old t q w in
    let is = get_or_read earlier t reader (omega (arith, r.operands)) c.index-reader-in-Some.ensures None in
    record {
      size = c.in_ok-queue_ready.ensures.size ∙ c.loop-reader.invariant.size;
      wakes = WakesFrom-next ss known c.args.readers.now.latest.items earlier r c.args.id c.requires.within old t reader c.loop-reader.queue c.queue_ready.new.queue w is
          c.in_ok-queue_ready.ensures;
    }

pub returns : goal.returns
returns c =
    let ss = c.args.program.now in
    let known = answer_in c.args.answers.now in
    let q = c.loop-reader.queue.order in
    let old = c.args.queue.now.order in
    Wakes-end ss known c.args.readers.now.latest.items c.args.readers.now.earlier.items c.requires.readers c.args.id c.requires.within old c.args.queue.now c.loop-reader.queue refl c.loop-reader.invariant.size
    (subst (λ (o : Option ℕ). WakesFrom ss known c.args.id old o q) c.in_default.is c.loop-reader.invariant.wakes)
