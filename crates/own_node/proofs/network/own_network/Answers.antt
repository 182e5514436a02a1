use Rattle.std.proofs.Common.{◌≡◌, None, refl, ap, ◌∙◌}
use Rattle.ff_net.specs.Rules.{first_fault}
use Rattle.ff_net.specs.declared.net.Version.TheVariants.{Two}
use Rattle.own_node.specs.Network.{own_net}
use Rattle.own_node.specs.Own.{own_node}
use Rattle.own_node.proofs.network.own_network.Goals as goal

-- no rule is broken, as working them out shows
keeps_rules : first_fault own_node Two own_net ≡ None
keeps_rules = refl

pub unreachable-requires : goal.unreachable-requires
unreachable-requires c =
    let none = c.in-Err.ensures.fault ∙ ap (first_fault own_node Two) c.in_ok-unchecked.ensures ∙ keeps_rules in
    absurd (cc)
