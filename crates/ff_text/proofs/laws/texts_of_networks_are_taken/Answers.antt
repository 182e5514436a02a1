-- By recursion along the network, and along the tokens.
use Rattle.std.proofs.Common.{◌∷◌, []}
use Rattle.ff_text.specs.Tokens.{Stop}
use Rattle.ff_text.specs.Wants.{Finish}
use Rattle.ff_text.proofs.Completes.{complete}
use Rattle.ff_text.proofs.Sound.{sound-text}
use Rattle.ff_text.proofs.laws.texts_of_networks_are_taken.Goals as goal

pub returns : goal.returns
returns c = λ context nets ts. (λ (t, net, spells). complete context t 15 (Finish ∷ []) ts (Stop ∷ []) net spells, sound-text context ts nets)
