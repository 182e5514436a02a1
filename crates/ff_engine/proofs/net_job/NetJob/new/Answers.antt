-- Nothing was taken or put at its ends.
use Rattle.std.proofs.Common.{List, length, map, ap, ap₂, ◌∙◌}
use Rattle.ff_rec.specs.Lines.{Rec}
use Rattle.ff_node.specs.Runs.{Message}
use Rattle.ff_ring.specs.Ends.{got_of, put_of, room_of, read_ring, written_ring}
use Rattle.ff_ring.specs.declared.ring_in.RingIn.{RingIn}
use Rattle.ff_ring.specs.declared.ring_out.RingOut.{RingOut}
use Rattle.ff_engine.specs.Jobs.{JobState}
use Rattle.ff_engine.specs.RingSizes.{size_of}
use Rattle.ff_engine.proofs.BoardLaws.{AllEmpty-got}
use Rattle.ff_engine.proofs.net_job.NetJob.new.Goals as goal

pub new-requires : goal.new-requires
new-requires g c = AllEmpty-got (λ i. got_of i) c.args.ins.items (length c.args.row.ins) c.requires.gots

pub returns : goal.returns
returns g c =
    let here : (List (RingIn Rec)) → (List (RingOut Rec)) → JobState g.row.U.Denot = λ is os. record {
      unit = c.args.unit;
      row = c.args.row;
      gots = map (λ i. got_of i) is;
      puts = map (λ o. put_of o) os;
      rooms = map (λ o. room_of o) os;
      sizes = map (λ o. size_of o) os;
      reads = map (λ i. read_ring i) is;
      writes = map (λ o. written_ring o) os;
    } in
    let made : List (List Message) → List (List Message) → JobState g.row.U.Denot = λ gots puts. record {
      unit = c.args.unit;
      row = c.args.row;
      gots = gots;
      puts = puts;
      rooms = map (λ o. room_of o) c.args.outs.items;
      sizes = map (λ o. size_of o) c.args.outs.items;
      reads = map (λ i. read_ring i) c.args.ins.items;
      writes = map (λ o. written_ring o) c.args.outs.items;
    } in
    ap₂ here (ap (λ v. v.items) c.new.ensures.ins) (ap (λ v. v.items) c.new.ensures.outs) ∙ ap₂ made c.requires.gots c.requires.puts
