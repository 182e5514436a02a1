-- A network that has room is copied as it is.
use Rattle.std.proofs.Common.{suc, ◌≤◌, Some, sym, ap, subst, ◌∙◌, arith}
use Rattle.ff_net.specs.Counts.{depth}
use Rattle.ff_net.specs.Tree.{tree_of}
use Rattle.ff_text.specs.Grammar.{IsNet}
use Rattle.ff_text.specs.Names.{net_named}
use Rattle.ff_text.specs.Seen.{context_of}
use Rattle.ff_text.proofs.Opened.{opened-net}
use Rattle.ff_text.proofs.Uses.{begin_use-room, depth-net, IsNet-room}
use Rattle.ff_text.proofs.network.used.Goals as goal

pub returns-clause-begun : goal.returns-clause-begun
returns-clause-begun c =
    let tree = tree_of c.in-Some.net.now in
    let shallow = depth-net tree c.in-Some.ensures.fits in
    let fits : depth tree ≤ suc c.args.room = omega (arith, c.depth.ensures, c.saturating_add.ensures, shallow) in
    begin_use-room tree c.args.room (net_named (context_of c.args.context.now).names c.args.word.now) c.in-Some.ensures.found fits

pub returns-clause-net : goal.returns-clause-net
returns-clause-net c =
    let tree = tree_of c.in-Some.net.now in
    let shallow = depth-net tree c.in-Some.ensures.fits in
    let fits : depth tree ≤ suc c.args.room = omega (arith, c.depth.ensures, c.saturating_add.ensures, shallow) in
    subst (λ net. IsNet net c.args.room) (sym (c.in_ok-copy.ensures ∙ opened-net tree 15 c.in-Some.ensures.fits)) (IsNet-room tree c.args.room c.in-Some.ensures.fits fits)

pub returns-clause-named : goal.returns-clause-named
returns-clause-named c =
    let tree = tree_of c.in-Some.net.now in
    c.in-Some.ensures.found ∙ ap (λ net. Some net) (sym (c.in_ok-copy.ensures ∙ opened-net tree 15 c.in-Some.ensures.fits))
