use Rattle.std.proofs.Common.{◌∷◌, ap, ◌∙◌}
use Rattle.ff_loop.specs.Noted.{event_of}
use Rattle.ff_loop.specs.Events.{Given}
use Rattle.ff_loop.proofs.Backward.{backward-noted}
use Rattle.ff_loop.proofs.events.Events.given.Goals as goal

pub returns : goal.returns
returns g c = backward-noted event_of _ _ _ _ c.note.ensures c.self.view_is ∙ ap (λ x. Given c.args.id x ∷ c.args.self.now) c.of.ensures
