-- One ring more is settled.
use Rattle.std.proofs.Common.{◌≡◌, ◌<◌, length, sym, ap, ◌∙◌, subst, inl, inr, arith}
use Rattle.std.proofs.lemmas.Bool.{cases_lt}
use Rattle.std.proofs.lemmas.List.{length-map}
use Rattle.std.specs.Option.{option_map}
use Rattle.ff_port.proofs.Rows.{map-set_told}
use Rattle.ff_ring.specs.Ends.{got_of, put_of, read_ring, written_ring}
use Rattle.ff_engine.specs.Boards.{IsFirst, gots_on, puts_on, reads_on, writes_on}
use Rattle.ff_engine.specs.Slots.{slot}
use Rattle.ff_engine.proofs.Settlings.{AllZip-firsts}
use Rattle.ff_engine.proofs.SlotLaws.{map-at}
use Rattle.ff_engine.proofs.board.settle_rings.Goals as goal

pub settle_ring-requires : goal.settle_ring-requires
settle_ring-requires c =
    let ins = c.loop-k.ins.items in
    let outs = c.loop-k.outs.items in
    let k = c.loop-k.k in
    let many_ins : length ins ≡ length c.args.ins.now.items =
    sym (length-map ins (λ i. option_map (λ r. read_ring r) i)) ∙ ap length c.loop-k.invariant.reads ∙ length-map c.args.ins.now.items (λ i. option_map (λ r. read_ring r) i) in
    let many_outs : length outs ≡ length ins =
    sym (length-map outs (λ o. option_map (λ r. written_ring r) o)) ∙ ap length (c.loop-k.invariant.writes ∙ sym c.requires ∙ sym c.loop-k.invariant.reads)
    ∙ length-map ins (λ i. option_map (λ r. read_ring r) i) in
    let within : k < length ins = omega (arith, c.loop-k-test.true, c.len-k-end.ensures, c.args.ins.now.ok.0, many_ins) in
    sym (map-at (λ i. option_map (λ r. read_ring r) i) ins k c.index_mut.result.now within c.index_mut.ensures.value)
    ∙ ap (λ s. slot s k) (c.loop-k.invariant.reads ∙ c.requires ∙ sym c.loop-k.invariant.writes)
    ∙ map-at (λ o. option_map (λ r. written_ring r) o) outs k c.index_mut-in-loop-k.result.now (omega (arith, within, many_outs)) c.index_mut-in-loop-k.ensures.value

pub loop-k-preserved : goal.loop-k-preserved
loop-k-preserved c =
    let ins = c.loop-k.ins.items in
    let outs = c.loop-k.outs.items in
    let k = c.loop-k.k in
    let inn = c.index_mut.result.now in
    let out = c.index_mut-in-loop-k.result.now in
    let settled = c.settle_ring.ensures in
    let many_ins : length ins ≡ length c.args.ins.now.items =
    sym (length-map ins (λ i. option_map (λ r. read_ring r) i)) ∙ ap length c.loop-k.invariant.reads ∙ length-map c.args.ins.now.items (λ i. option_map (λ r. read_ring r) i) in
    let many_outs : length outs ≡ length ins =
    sym (length-map outs (λ o. option_map (λ r. written_ring r) o)) ∙ ap length (c.loop-k.invariant.writes ∙ sym c.requires ∙ sym c.loop-k.invariant.reads)
    ∙ length-map ins (λ i. option_map (λ r. read_ring r) i) in
    let within : k < length ins = omega (arith, c.loop-k-test.true, c.len-k-end.ensures, c.args.ins.now.ok.0, many_ins) in
    let got : slot (gots_on c.args.ins.now.items) k ≡ option_map (λ r. got_of r) inn =
    ap (λ s. slot s k) (sym c.loop-k.invariant.gots) ∙ map-at (λ i. option_map (λ r. got_of r) i) ins k inn within c.index_mut.ensures.value in
    let put : slot (puts_on c.args.outs.now.items) k ≡ option_map (λ r. put_of r) out =
    ap (λ s. slot s k) (sym c.loop-k.invariant.puts) ∙ map-at (λ o. option_map (λ r. put_of r) o) outs k out (omega (arith, within, many_outs)) c.index_mut-in-loop-k.ensures.value in
    let here : IsFirst (slot (gots_on c.args.ins.now.items) k) (slot (puts_on c.args.outs.now.items) k) =
    subst (λ g. IsFirst g (slot (puts_on c.args.outs.now.items) k)) (sym got) (subst (λ p. IsFirst (option_map (λ r. got_of r) inn) p) (sym put) settled.first) in record {
      reads = map-set_told (λ i. option_map (λ r. read_ring r) i) ins k inn c.settle_ring.new.inn c.index_mut.ensures.value settled.reads ∙ c.loop-k.invariant.reads;
      writes = map-set_told (λ o. option_map (λ r. written_ring r) o) outs k out c.settle_ring.new.out c.index_mut-in-loop-k.ensures.value settled.writes ∙ c.loop-k.invariant.writes;
      gots = map-set_told (λ i. option_map (λ r. got_of r) i) ins k inn c.settle_ring.new.inn c.index_mut.ensures.value settled.gots ∙ c.loop-k.invariant.gots;
      puts = map-set_told (λ o. option_map (λ r. put_of r) o) outs k out c.settle_ring.new.out c.index_mut-in-loop-k.ensures.value settled.puts ∙ c.loop-k.invariant.puts;
      first = λ e low. elim (cases_lt e k) [
        | inl below ↦ c.loop-k.invariant.first e below
        | inr high ↦ (let same : k ≡ e = omega (arith, low, high) in
            subst (λ n. IsFirst (slot (gots_on c.args.ins.now.items) n) (slot (puts_on c.args.outs.now.items) n)) same here)
      ];
    }

pub returns-clause-first : goal.returns-clause-first
returns-clause-first c =
    let ins = c.args.ins.now.items in
    let outs = c.args.outs.now.items in
    let many_ins : length (gots_on ins) ≡ length ins = length-map ins (λ i. option_map (λ r. got_of r) i) in
    let many_reads : length (reads_on ins) ≡ length ins = length-map ins (λ i. option_map (λ r. read_ring r) i) in
    let many_writes : length (writes_on outs) ≡ length outs = length-map outs (λ o. option_map (λ r. written_ring r) o) in
    let many_outs : length (puts_on outs) ≡ length outs = length-map outs (λ o. option_map (λ r. put_of r) o) in
    AllZip-firsts (gots_on ins) (puts_on outs) (omega (arith, many_ins, many_reads, many_writes, many_outs, ap length c.requires))
    (λ e within. c.loop-k.invariant.first e (omega (arith, within, many_ins, c.loop-k-test.false, c.len-k-end.ensures, c.args.ins.now.ok.0)))
