-- Words that stand for networks.
use Rattle.std.proofs.Common.{◌≡◌, ℕ, suc, ◌≤◌, Bool, true, false, cond, List, [], ◌∷◌, ◌++◌, Option, None, Some, Ok, Err, refl, ap, subst, ◌∙◌, arith, inl}
use Rattle.std.proofs.lemmas.Bool.{leb-true}
use Rattle.std.specs.Prelude.{nat_le}
use Rattle.ff_rec.specs.Fields.{same_bytes}
use Rattle.ff_ops.specs.Operation.{OpState}
use Rattle.ff_net.specs.Counts.{depth}
use Rattle.ff_net.specs.Tree.{Tree, Leaf, Pipe, Comb, Farm, OFarm, A2a, Wrap}
use Rattle.ff_text.specs.declared.fault.TextKind.TheVariants.{Deep}
use Rattle.ff_text.specs.Grammar.{form_named, IsNet}
use Rattle.ff_text.specs.Names.{Name, Context, net_named, AreNets}
use Rattle.ff_text.specs.Wants.{Want, Network, begin_word, begin_use, expand}
use Rattle.ff_ops.specs.Table.{row_named}
use Rattle.ff_text.specs.Tokens.{Token, Word}
use Rattle.ff_text.specs.Spelling.{IsUse, Spells}
use Rattle.ff_text.proofs.Depths.{room_is_depth}

-- one name more
pub AreNets-push : (ns : List Name) (n : Name) → AreNets ns → IsNet n.net 15 → AreNets (ns ++ n ∷ [])
AreNets-push [] n h net = (net, tt)
AreNets-push (m ∷ ns) n h net = (h.0, AreNets-push ns n h.1 net)

-- a word that is no form's and no operation's
pub expand-use : (c : Context) (name : List ℕ) (room : ℕ) → form_named name ≡ None → row_named name ≡ None → expand c (Network room) (Word name) ≡ begin_use (net_named c.names name) room
expand-use c name room form row =
    ap (λ f. begin_word f (row_named name) (net_named c.names name) room) form ∙ ap (λ r. begin_word None r (net_named c.names name) room) row

-- a use, by the room of its network
begin_use-if : (t : Tree OpState) (room : ℕ) (b : Bool) → nat_le (depth t) (suc room) ≡ b → begin_use (Some t) room ≡ cond b (Ok []) (Err Deep)
begin_use-if t room b is = ap (λ c. cond c (Ok []) (Err Deep)) is

pub begin_use-room : (t : Tree OpState) (room : ℕ) (found : Option (Tree OpState)) → found ≡ Some t → depth t ≤ suc room → begin_use found room ≡ Ok []
begin_use-room t room found is fits = ap (λ o. begin_use o room) is ∙ begin_use-if t room true (grind arith)

-- what can be spelled at all is shallow
pub depth-net : (t : Tree OpState) → IsNet t 15 → depth t ≤ 16
depth-net t h = (room_is_depth t 15 15 h).0 h

pub IsNet-room : (t : Tree OpState) (room : ℕ) → IsNet t 15 → depth t ≤ suc room → IsNet t room
IsNet-room t room h fits = (room_is_depth t 15 room h).1 fits

-- and so are the networks of names
IsNet-first : (n : Name) (b : Bool) (rest : Option (Tree OpState)) (t : Tree OpState) → IsNet n.net 15 → (rest ≡ Some t → IsNet t 15) → cond b (Some n.net) rest ≡ Some t → IsNet t 15
IsNet-first n true rest t net others e = let same : n.net ≡ t = cc in subst (λ u. IsNet u 15) same net
IsNet-first n false rest t net others e = others e

pub IsNet-named : (ns : List Name) (word : List ℕ) (t : Tree OpState) → AreNets ns → net_named ns word ≡ Some t → IsNet t 15
IsNet-named [] word t h e = absurd (cc)
IsNet-named (n ∷ ns) word t h e = IsNet-first n (same_bytes n.word word) (net_named ns word) t h.0 (IsNet-named ns word t h.1) e

-- a use that is taken has room
pub begin_use-taken : (t : Tree OpState) (room : ℕ) (new : List Want) → begin_use (Some t) room ≡ Ok new → (depth t ≤ suc room) × (new ≡ [])
begin_use-taken t room new e = by (nat_le (depth t) (suc room)) refl e
  where
    by : (b : Bool) → nat_le (depth t) (suc room) ≡ b → cond b (Ok []) (Err Deep) ≡ Ok new → (depth t ≤ suc room) × (new ≡ [])
    by true is e = (leb-true (depth t) (suc room) is, cc)
    by false is e = absurd (cc)

-- a use spells its network, whatever it is
pub Spells-use : (names : List Name) (t : Tree OpState) (ts rest : List Token) → IsUse names t ts rest → Spells names t ts rest
Spells-use names (Leaf o) ts rest h = inl h
Spells-use names (Pipe us) ts rest h = inl h
Spells-use names (Comb us) ts rest h = inl h
Spells-use names (Farm n s w) ts rest h = inl h
Spells-use names (OFarm n s w) ts rest h = inl h
Spells-use names (A2a n l r m t) ts rest h = inl h
Spells-use names (Wrap n w test) ts rest h = inl h
