-- All is turned, and then what came from the front.
use Rattle.std.proofs.Common.{refl}
use Rattle.ff_rec.proofs.Turns.{turned}
use Rattle.ff_rec.proofs.bytes.parts.turn.Goals as goal

pub returns : goal.returns
returns c =
    turned c.args.bytes.now c.rotate_left.new.self c.rotate_left-2.new.self c.args.left c.args.right _ _ c.requires.order c.requires.within
    c.rotate_left.ensures.after refl refl c.rotate_left-2.ensures.after
