use Rattle.std.proofs.Common.{◌∷◌, ap, ◌∙◌}
use Rattle.ff_loop.specs.Noted.{event_of}
use Rattle.ff_loop.specs.Events.{Offered}
use Rattle.ff_loop.proofs.Backward.{backward-noted}
use Rattle.ff_loop.proofs.events.Events.offered.Goals as goal

pub returns : goal.returns
returns g c = backward-noted event_of _ _ _ _ c.note.ensures c.self.view_is ∙ ap (λ x. Offered x ∷ c.args.self.now) c.of.ensures
