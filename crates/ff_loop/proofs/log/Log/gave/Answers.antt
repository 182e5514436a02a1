use Rattle.std.proofs.Common.{◌∷◌, ap, ◌∙◌}
use Rattle.ff_loop.specs.Noted.{move_of}
use Rattle.ff_loop.specs.Moves.{Gave}
use Rattle.ff_loop.proofs.Backward.{backward-noted}
use Rattle.ff_loop.proofs.log.Log.gave.Goals as goal

pub returns : goal.returns
returns g c = backward-noted move_of _ _ _ _ c.note.ensures c.self.view_is ∙ ap (λ x. Gave c.args.worker c.args.id x ∷ c.args.self.now) c.of.ensures
