-- The part that begins with the one and ends with the other is turned.
use Rattle.ff_rec.proofs.Turns.{put_mid-parts_swapped}
use Rattle.ff_rec.proofs.bytes.parts.swap_parts.Goals as goal

pub returns : goal.returns
returns c =
    put_mid-parts_swapped c.args.bytes.now c.turn.new.bytes c.args.first c.args.first_end c.args.second c.args.second_end
    c.requires.first c.requires.apart c.requires.second c.requires.within c.turn.ensures
