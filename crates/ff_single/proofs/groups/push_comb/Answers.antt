-- The nodes of one comb more.

use Rattle.ff_mean.proofs.Groups.{all_nodes-push}
use Rattle.ff_single.proofs.groups.push_comb.Goals as goal

pub returns : goal.returns
returns g c = all_nodes-push c.args.groups.now.items c.push.new.self.items c.new.result c.args.parts.items c.new.ensures c.in_ok-push.ensures.items
