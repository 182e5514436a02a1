-- A network that a text can spell is in its opening states.
use Rattle.std.proofs.Common.{◌≡◌, ℕ, zero, suc, refl, sym, ap, ◌∙◌}
use Rattle.ff_ops.specs.Operation.{OpState, op_node}
use Rattle.ff_net.specs.Tree.{Tree, Trees, Leaf, Pipe, Comb, Farm, OFarm, A2a, Wrap, none, more}
use Rattle.ff_net.specs.Nodes.{opened, all_opened}
use Rattle.ff_ops.proofs.Openings.{opening-operation}
use Rattle.ff_text.specs.Grammar.{IsNet, AreParts, AreBehind}
use Rattle.ff_text.specs.OperationTokens.{IsNew}

-- an operation that fits
opening-new : (o : OpState) → IsNew o → op_node.opening o ≡ o
opening-new o h =
    ap op_node.opening h.0 ∙ opening-operation o.row o.args ∙ sym h.0

mutual
  pub opened-net : (t : Tree OpState) (room : ℕ) → IsNet t room → opened op_node t ≡ t
  opened-net (Leaf o) room h = ap Leaf (opening-new o h)
  opened-net (Pipe ts) zero h = absurd h
  opened-net (Pipe ts) (suc room) h = ap Pipe (all_opened-parts ts room h)
  opened-net (Comb ts) zero h = absurd h
  opened-net (Comb ts) (suc room) h = ap Comb (all_opened-parts ts room h)
  opened-net (Farm n s w) zero h = absurd h
  opened-net (Farm n s w) (suc room) h = ap (λ t. Farm n s t) (opened-net w room h.1)
  opened-net (OFarm n s w) zero h = absurd h
  opened-net (OFarm n s w) (suc room) h = ap (λ t. OFarm n s t) (opened-net w room h.1)
  opened-net (A2a n l r m t) zero h = absurd h
  opened-net (A2a n l r m t) (suc room) h = ap (λ u. A2a n u r m (opened op_node t)) (opened-net l room h.1) ∙ ap (λ u. A2a n l r m u) (opened-net t room h.4)
  opened-net (Wrap n w test) zero h = absurd h
  opened-net (Wrap n w test) (suc room) h = ap (λ t. Wrap n t test) (opened-net w room h.1)

  all_opened-parts : (ts : Trees OpState) (room : ℕ) → AreParts ts room → all_opened op_node ts ≡ ts
  all_opened-parts none room h = absurd h
  all_opened-parts (more t ts) room h = ap (λ u. more u (all_opened op_node ts)) (opened-net t room h.0) ∙ ap (λ us. more t us) (all_opened-behind ts room h.1)

  all_opened-behind : (ts : Trees OpState) (room : ℕ) → AreBehind ts room → all_opened op_node ts ≡ ts
  all_opened-behind none room h = refl
  all_opened-behind (more t ts) room h = ap (λ u. more u (all_opened op_node ts)) (opened-net t room h.0) ∙ ap (λ us. more t us) (all_opened-behind ts room h.1)
