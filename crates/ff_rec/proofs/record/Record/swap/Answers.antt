-- The fields are the same in another order.
use Rattle.std.proofs.Common.{◌-◌, ◌<◌, length, sym, subst, ap, arith}
use Rattle.ff_rec.specs.Lines.{cut}
use Rattle.ff_rec.specs.Block.{IsBlock}
use Rattle.ff_rec.proofs.Swaps.{IsBlock-swapped}
use Rattle.ff_rec.proofs.record.Record.swap.Goals as goal

pub invariant_of-self : goal.invariant_of-self
invariant_of-self c =
    let b = c.self.inside.block.items in
    let first : c.args.k - 1 < length (cut 9 b) = omega (arith, c.requires.first_low, c.requires.first_high, ap length c.self.view_is) in
    let second : c.args.l - 1 < length (cut 9 b) = omega (arith, c.requires.second_low, c.requires.second_high, ap length c.self.view_is) in
    subst (IsBlock c.exchange.new.block.items) (sym c.exchange.ensures.count)
    (IsBlock-swapped b c.exchange.new.block.items c.self.inside.block.count (c.args.k - 1) (c.args.l - 1) c.self.invariant first second c.exchange.ensures.fields)
