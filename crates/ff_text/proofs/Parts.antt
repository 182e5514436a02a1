-- The parts of a pipe or comb, one more at their end.
use Rattle.std.proofs.Common.{◌≡◌, ℕ, Bool, true, false, List, [], ◌∷◌, ◌++◌, refl, sym, subst, if◌then◌else◌}
use Rattle.ff_ops.specs.Operation.{OpState}
use Rattle.ff_net.specs.Tree.{Trees, none, more, tree_of, trees_of}
use Rattle.ff_net.specs.declared.net.Net.{Net}
use Rattle.ff_text.specs.declared.text_mark.TextMark.TheVariants.{Close, Comma}
use Rattle.ff_text.specs.Tokens.{Token, Sign}
use Rattle.ff_text.specs.Grammar.{IsNet, AreParts, AreBehind}
use Rattle.ff_text.specs.Names.{Name}
use Rattle.ff_text.specs.Spelling.{Front, Spells, SpellsParts, SpellsBehind}
use Rattle.ff_text.specs.Wants.{Want, Network, Parts}

-- what is still wanted
abbrev pub left : Bool → ℕ → List Want
left true room = Network room ∷ Parts room ∷ []
left false room = []

-- any number of parts while another follows, and then one or more
abbrev pub ArePartsSoFar : Bool → Trees OpState → ℕ → Type 0
ArePartsSoFar true ts room = AreBehind ts room
ArePartsSoFar false ts room = AreParts ts room

-- parts with a `,` behind each
abbrev pub SpellsBefore : List Name → Trees OpState → Front
SpellsBefore names none ts rest = ts ≡ rest
SpellsBefore names (more t us) ts rest = (behind : List Token) × Spells names t ts (Sign Comma ∷ behind) × SpellsBefore names us behind rest

abbrev pub SpellsSoFar : List Name → Bool → Trees OpState → Front
SpellsSoFar names true us ts rest = SpellsBefore names us ts rest
SpellsSoFar names false us ts rest = SpellsParts names us ts (Sign Close ∷ rest)

-- one more
AreBehind-push : (ns : List (Net OpState)) (n : Net OpState) (room : ℕ) → AreBehind (trees_of ns) room → IsNet (tree_of n) room → AreBehind (trees_of (ns ++ n ∷ [])) room
AreBehind-push [] n room h net = (net, tt)
AreBehind-push (m ∷ ns) n room h net = (h.0, AreBehind-push ns n room h.1 net)

AreParts-push : (ns : List (Net OpState)) (n : Net OpState) (room : ℕ) → AreBehind (trees_of ns) room → IsNet (tree_of n) room → AreParts (trees_of (ns ++ n ∷ [])) room
AreParts-push [] n room h net = (net, tt)
AreParts-push (m ∷ ns) n room h net = (h.0, AreBehind-push ns n room h.1 net)

pub ArePartsSoFar-push : (another : Bool) (ns : List (Net OpState)) (n : Net OpState) (room : ℕ) → AreBehind (trees_of ns) room → IsNet (tree_of n) room → ArePartsSoFar another (trees_of (ns ++ n ∷ [])) room
ArePartsSoFar-push true ns n room h net = AreBehind-push ns n room h net
ArePartsSoFar-push false ns n room h net = AreParts-push ns n room h net

-- and what is behind it
module _ (names : List Name) (n : Net OpState) (mid : List Token) where
  SpellsBefore-push : (ns : List (Net OpState)) (ts rest : List Token) → SpellsBefore names (trees_of ns) ts mid → Spells names (tree_of n) mid (Sign Comma ∷ rest)
      → SpellsBefore names (trees_of (ns ++ n ∷ [])) ts rest
  SpellsBefore-push [] ts rest h k = (rest, subst (λ us. Spells names (tree_of n) us (Sign Comma ∷ rest)) (sym h) k, refl)
  SpellsBefore-push (m ∷ ns) ts rest h k = (h.0, h.1, SpellsBefore-push ns h.0 rest h.2 k)

  SpellsBehind-push : (ns : List (Net OpState)) (ts rest : List Token) → SpellsBefore names (trees_of ns) ts mid → Spells names (tree_of n) mid rest
      → SpellsBehind names (trees_of (ns ++ n ∷ [])) (Sign Comma ∷ ts) rest
  SpellsBehind-push [] ts rest h k = (ts, rest, refl, subst (λ us. Spells names (tree_of n) us rest) (sym h) k, refl)
  SpellsBehind-push (m ∷ ns) ts rest h k = (ts, Sign Comma ∷ h.0, refl, h.1, SpellsBehind-push ns h.0 rest h.2 k)

  SpellsParts-push : (ns : List (Net OpState)) (ts rest : List Token) → SpellsBefore names (trees_of ns) ts mid → Spells names (tree_of n) mid rest
      → SpellsParts names (trees_of (ns ++ n ∷ [])) ts rest
  SpellsParts-push [] ts rest h k = (rest, subst (λ us. Spells names (tree_of n) us rest) (sym h) k, refl)
  SpellsParts-push (m ∷ ns) ts rest h k = (Sign Comma ∷ h.0, h.1, SpellsBehind-push ns h.0 rest h.2 k)

  pub SpellsSoFar-push : (another : Bool) (ns : List (Net OpState)) (ts rest : List Token) → SpellsBefore names (trees_of ns) ts mid
      → Spells names (tree_of n) mid (Sign (if another then Comma else Close) ∷ rest) → SpellsSoFar names another (trees_of (ns ++ n ∷ [])) ts rest
  SpellsSoFar-push true ns ts rest h k = SpellsBefore-push ns ts rest h k
  SpellsSoFar-push false ns ts rest h k = SpellsParts-push ns ts (Sign Close ∷ rest) h k
