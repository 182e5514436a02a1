-- The forms round one another, and the depth.
use Rattle.std.proofs.Common.{ℕ, zero, suc, ◌≤◌, arith}
use Rattle.ff_ops.specs.Operation.{OpState}
use Rattle.ff_net.specs.Tree.{Tree, Trees, Leaf, Pipe, Comb, Farm, OFarm, A2a, Wrap, none, more}
use Rattle.ff_net.specs.Counts.{depth, deepest}
use Rattle.ff_text.specs.Grammar.{IsNet, AreParts, AreBehind}
use Rattle.ff_text.specs.DepthLaw.{RoomIsDepth}

-- each network has a depth of at least 1
depth-some : {N : Type 0} → (t : Tree N) → 1 ≤ depth t
depth-some (Leaf o) = omega arith
depth-some (Pipe ts) = omega arith
depth-some (Comb ts) = omega arith
depth-some (Farm n s w) = omega arith
depth-some (OFarm n s w) = omega arith
depth-some (A2a n l r m t) = omega arith
depth-some (Wrap n w t) = omega arith

mutual
  shallow : (t : Tree OpState) (room : ℕ) → IsNet t room → depth t ≤ suc room
  shallow (Leaf o) room h = omega arith
  shallow (Pipe ts) zero h = absurd h
  shallow (Pipe ts) (suc room) h = let d = shallow-parts ts room h in omega arith
  shallow (Comb ts) zero h = absurd h
  shallow (Comb ts) (suc room) h = let d = shallow-parts ts room h in omega arith
  shallow (Farm n s w) zero h = absurd h
  shallow (Farm n s w) (suc room) h = let d = shallow w room h.1 in omega arith
  shallow (OFarm n s w) zero h = absurd h
  shallow (OFarm n s w) (suc room) h = let d = shallow w room h.1 in omega arith
  shallow (A2a n l r m t) zero h = absurd h
  shallow (A2a n l r m t) (suc room) h = let d = shallow l room h.1 in let e = shallow t room h.4 in omega arith
  shallow (Wrap n w test) zero h = absurd h
  shallow (Wrap n w test) (suc room) h = let d = shallow w room h.1 in omega arith

  shallow-parts : (ts : Trees OpState) (room : ℕ) → AreParts ts room → deepest ts ≤ suc room
  shallow-parts none room h = absurd h
  shallow-parts (more t ts) room h = let d = shallow t room h.0 in let e = shallow-behind ts room h.1 in omega arith

  shallow-behind : (ts : Trees OpState) (room : ℕ) → AreBehind ts room → deepest ts ≤ suc room
  shallow-behind none room h = omega arith
  shallow-behind (more t ts) room h = let d = shallow t room h.0 in let e = shallow-behind ts room h.1 in omega arith

mutual
  roomy : (t : Tree OpState) (enough room : ℕ) → IsNet t enough → depth t ≤ suc room → IsNet t room
  roomy (Leaf o) enough room h d = h
  roomy (Pipe ts) zero room h d = absurd h
  roomy (Pipe none) (suc enough) zero h d = absurd h
  roomy (Pipe (more t ts)) (suc enough) zero h d = let some = depth-some t in absurd (omega arith)
  roomy (Pipe ts) (suc enough) (suc room) h d = roomy-parts ts enough room h (omega arith)
  roomy (Comb ts) zero room h d = absurd h
  roomy (Comb none) (suc enough) zero h d = absurd h
  roomy (Comb (more t ts)) (suc enough) zero h d = let some = depth-some t in absurd (omega arith)
  roomy (Comb ts) (suc enough) (suc room) h d = roomy-parts ts enough room h (omega arith)
  roomy (Farm n s w) zero room h d = absurd h
  roomy (Farm n s w) (suc enough) zero h d = let some = depth-some w in absurd (omega arith)
  roomy (Farm n s w) (suc enough) (suc room) h d = (h.0, roomy w enough room h.1 (omega arith))
  roomy (OFarm n s w) zero room h d = absurd h
  roomy (OFarm n s w) (suc enough) zero h d = let some = depth-some w in absurd (omega arith)
  roomy (OFarm n s w) (suc enough) (suc room) h d = (h.0, roomy w enough room h.1 (omega arith))
  roomy (A2a n l r m t) zero room h d = absurd h
  roomy (A2a n l r m t) (suc enough) zero h d = let some = depth-some l in absurd (omega arith)
  roomy (A2a n l r m t) (suc enough) (suc room) h d = (h.0, roomy l enough room h.1 (omega arith), h.2, h.3, roomy t enough room h.4 (omega arith))
  roomy (Wrap n w test) zero room h d = absurd h
  roomy (Wrap n w test) (suc enough) zero h d = let some = depth-some w in absurd (omega arith)
  roomy (Wrap n w test) (suc enough) (suc room) h d = (h.0, roomy w enough room h.1 (omega arith), h.2)

  roomy-parts : (ts : Trees OpState) (enough room : ℕ) → AreParts ts enough → deepest ts ≤ suc room → AreParts ts room
  roomy-parts none enough room h d = absurd h
  roomy-parts (more t ts) enough room h d = (roomy t enough room h.0 (omega arith), roomy-behind ts enough room h.1 (omega arith))

  roomy-behind : (ts : Trees OpState) (enough room : ℕ) → AreBehind ts enough → deepest ts ≤ suc room → AreBehind ts room
  roomy-behind none enough room h d = tt
  roomy-behind (more t ts) enough room h d = (roomy t enough room h.0 (omega arith), roomy-behind ts enough room h.1 (omega arith))

pub room_is_depth : RoomIsDepth
room_is_depth t enough room h = (shallow t room, roomy t enough room h)
