use Rattle.std.proofs.Common.{◌≡◌, ◌∙◌, Err}
use Rattle.std.specs.Result.{IsErrOf}
use Rattle.clap.specs.declared.parser.matches.ArgMatches.{ArgMatches}
use Rattle.ff_words.specs.declared.command.CommandFault.{CommandFault}
use Rattle.ff_words.proofs.Parses.{parsed-taken, parsed-refused}
use Rattle.ff_words.proofs.parse.parse.Goals as goal

pub returns-in-Ok-clause-ok : goal.returns-in-Ok-clause-ok
returns-in-Ok-clause-ok c =
    parsed-taken _ _ _ c.requires (c.in-Ok.ensures.kinds c.requires) c.in-Ok.ensures.matches

same_fault : (a b : CommandFault) → IsErrOf {T = ArgMatches} (Err a) b → a ≡ b
same_fault a b e = cc

pub returns-in-Err-clause-usage : goal.returns-in-Err-clause-usage
returns-in-Err-clause-usage c =
    λ e. parsed-refused _ _ c.in-Err.error (c.in-Err.ensures.kinds c.requires) (λ full. c.fault_of.ensures (same_fault _ _ e) (c.kind.ensures ∙ full))
