-- The nodes of networks and their copies, part by part.
use Rattle.std.proofs.Common.{◌≡◌, List, [], ◌∷◌, ◌++◌, ap, ◌∙◌, append_assoc}
use Rattle.std.proofs.lemmas.List.{map-append}
use Rattle.ff_node.specs.Behaviour.{Behaviour}
use Rattle.ff_net.specs.Nodes.{opened, all_opened}
use Rattle.ff_net.specs.Tree.{Tree, none, more, tree_of, trees_of, tree_of-Pipe, tree_of-Comb}
use Rattle.ff_net.specs.declared.net.Net.{Net}

-- lists of nodes
pub ruleset node_lists = (tree_of-Pipe, tree_of-Comb, map-append, append_assoc)

-- one copy more
pub all_opened-push : {N : Type 0} (b : Behaviour N) (ns cs : List (Net N)) (n c : Net N) → trees_of cs ≡ all_opened b (trees_of ns) → tree_of c ≡ opened b (tree_of n)
    → trees_of (cs ++ c ∷ []) ≡ all_opened b (trees_of (ns ++ n ∷ []))
all_opened-push b [] [] n c h k = ap (λ t. more t none) k
all_opened-push b [] (d ∷ cs) n c h k = absurd (cc)
all_opened-push b (m ∷ ns) [] n c h k = absurd (cc)
all_opened-push b (m ∷ ns) (d ∷ cs) n c h k =
    let first : tree_of d ≡ opened b (tree_of m) = cc in
    let others : trees_of cs ≡ all_opened b (trees_of ns) = cc in
    ap (λ t. more t (trees_of (cs ++ c ∷ []))) first ∙ ap (λ ts. more (opened b (tree_of m)) ts) (all_opened-push b ns cs n c others k)
