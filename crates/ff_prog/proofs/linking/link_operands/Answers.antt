-- A statement that lacks a link, and one whose links and names are put to those so far.
use Rattle.std.proofs.Common.{◌≡◌, ◌∙◌, Some, length, sym, arith}
use Rattle.ff_prog.specs.Rules.{reads_unwritten}
use Rattle.ff_prog.proofs.Firsts.{first-here, first-next}
use Rattle.ff_prog.proofs.LinkLaws.{AreLinks-push, KnowsLinks-next, links_by-links_at, slice_get-index, unlinked-reads_unwritten}
use Rattle.ff_prog.proofs.linking.link_operands.Goals as goal

pub returns-then-has_unlinked-clause-first : goal.returns-then-has_unlinked-clause-first
returns-then-has_unlinked-clause-first c =
    let ss = c.args.statements.now in
    let k = c.loop-k.k in
    let s = c.index-statements-k.result in
    let at = slice_get-index ss k s c.loop-k-test.true c.index-statements-k.is in
    let reads = unlinked-reads_unwritten c.loop-k.writers.entries ss k (Some s) c.links_by-linked.result c.has_unlinked.result c.loop-k.invariant.writers at c.links_by-linked.ensures c.has_unlinked.ensures in
    sym (c.loop-k.invariant.same ∙ first-here (reads_unwritten ss) k (length ss) c.loop-k-test.true (reads ∙ c.if-has_unlinked.true))

pub loop-k-preserved : goal.loop-k-preserved
loop-k-preserved c =
    let ss = c.args.statements.now in
    let k = c.loop-k.k in
    let s = c.index-statements-k.result in
    let rows = c.loop-k.writers.entries in
    let at = slice_get-index ss k s c.loop-k-test.true c.index-statements-k.is in
    let reads = unlinked-reads_unwritten rows ss k (Some s) c.links_by-linked.result c.has_unlinked.result c.loop-k.invariant.writers at c.links_by-linked.ensures c.has_unlinked.ensures in
    let many : length c.loop-k.links.items ≡ k = omega (arith, c.loop-k.links.ok.0) in
    record {
      many = omega (arith, c.in_ok-push.ensures.len);
      links = AreLinks-push ss c.loop-k.links.items c.push.new.self.items k c.links_by-linked.result many c.loop-k.invariant.links c.in_ok-push.ensures.items (c.links_by-linked.ensures ∙ links_by-links_at rows ss k (Some s) c.loop-k.invariant.writers at);
      writers = KnowsLinks-next rows c.note_writer.new.writers.entries ss k (Some s) c.loop-k.invariant.writers at c.in_ok-note_writer.ensures;
      same = c.loop-k.invariant.same ∙ first-next (reads_unwritten ss) k (length ss) c.loop-k-test.true (reads ∙ c.if-has_unlinked.false);
    }
