-- Eos carries nothing.
use Rattle.std.proofs.Common.{ap, ◌∙◌, [], ◌∷◌, append-nil}
use Rattle.ff_port.specs.declared.answers.Put.TheVariants.{Done}
use Rattle.ff_rec.specs.declared.msg.Msg.TheVariants.{Eos}
use Rattle.ff_rec.specs.Streams.{items}
use Rattle.ff_ring.specs.Ends.{put_of}
use Rattle.ff_unit.specs.MessageLaws.{items-append}
use Rattle.ff_tasks.proofs.seat.put_end.Goals as goal

pub returns-in-Done-clause-items : goal.returns-in-Done-clause-items
returns-in-Done-clause-items g c =
    ap items c.in-Done.ensures.puts.0 ∙ items-append (put_of c.args.out.now) (Eos ∷ []) ∙ append-nil (items (put_of c.args.out.now))
