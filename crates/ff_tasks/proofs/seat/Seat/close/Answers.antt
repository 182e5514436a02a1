-- No task was put.
use Rattle.std.proofs.Common.{ap, ◌∙◌}
use Rattle.ff_rec.specs.Streams.{items}
use Rattle.ff_ring.specs.Ends.{got_of, read_ring}
use Rattle.ff_ring.specs.Names.{RingName}
use Rattle.ff_tasks.specs.Jobs.{Link}
use Rattle.ff_tasks.specs.Seats.{SeatState}
use Rattle.ff_tasks.proofs.Firsts.{Begins-same}
use Rattle.ff_tasks.proofs.seat.Seat.close.Goals as goal

pub returns : goal.returns
returns g c =
    let link : RingName → Link = λ ring. record { tasks = ring; answers = read_ring c.self.inside.answers } in record {
      put = ap items c.flush-handed.ensures.puts ∙ c.put_end-self-inside.ensures.items ∙ ap (λ (s : SeatState g.row.T.Denot g.row.A.Denot). items s.put) c.self.view_is;
      got = Begins-same c.args.self.now.got (got_of c.self.inside.answers) (ap (λ (s : SeatState g.row.T.Denot g.row.A.Denot). s.got) c.self.view_is);
      link = ap link (c.flush-handed.ensures.link ∙ c.put_end-self-inside.ensures.link) ∙ ap (λ (s : SeatState g.row.T.Denot g.row.A.Denot). s.link) c.self.view_is;
    }
