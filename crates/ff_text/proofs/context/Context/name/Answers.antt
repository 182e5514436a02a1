-- One name more.
use Rattle.std.proofs.Common.{[], ◌∷◌, map, sym, ap, subst, ◌∙◌}
use Rattle.std.proofs.lemmas.List.{map-append}
use Rattle.ff_text.specs.Names.{AreNets}
use Rattle.ff_text.specs.Seen.{name_of}
use Rattle.ff_text.proofs.Uses.{AreNets-push}
use Rattle.ff_text.proofs.context.Context.name.Goals as goal

pub returns-clause-nets : goal.returns-clause-nets
returns-clause-nets c = λ nets net.
    let old = c.args.self.now.names.items in
    let named = c.args.named in
    subst AreNets (sym (ap (map name_of) c.in_ok-push.ensures.items ∙ map-append name_of old (named ∷ []))) (AreNets-push (map name_of old) (name_of named) nets net)
