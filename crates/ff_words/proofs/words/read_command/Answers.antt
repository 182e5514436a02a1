use Rattle.std.specs.Prelude.{string_bytes}
use Rattle.ff_words.proofs.Names.{IsNoName, command-none}
use Rattle.ff_words.proofs.words.read_command.Goals as goal

pub returns-in_default-as_str-clause-usage : goal.returns-in_default-as_str-clause-usage
returns-in_default-as_str-clause-usage c =
    let other : IsNoName (string_bytes c.name-item.result) = rw (← c.as_str.ensures.value) (
      c.in_default-as_str.not-run,
      c.in_default-as_str.not-check,
      c.in_default-as_str.not-plan,
      c.in_default-as_str.not-mdf,
      c.in_default-as_str.not-dc,
      c.in_default-as_str.not-soak,
    ) in
    λ _. command-none c.args.words.now c.name-item.result c.in-len1-up.len_at_least c.name-item.is other
