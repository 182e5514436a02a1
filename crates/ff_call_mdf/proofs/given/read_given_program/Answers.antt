-- A file of too many bytes has no program.
use Rattle.std.proofs.Common.{List, ℕ, sym, ap, subst}
use Rattle.std.specs.Prelude.{Err}
use Rattle.ff_io.specs.Files.{HoldsMore}
use Rattle.ff_io.specs.declared.files.FileFault.{FileFault}
use Rattle.ff_call.specs.LongFiles.{IsLong-file}
use Rattle.ff_call.specs.Texts.{IsLong}
use Rattle.ff_words.specs.declared.command.Given.{Given}
use Rattle.ff_call_mdf.proofs.given.read_given_program.Goals as goal

pub returns-in-Err-TooLong-clause-fault : goal.returns-in-Err-TooLong-clause-fault
returns-in-Err-TooLong-clause-fault g c =
    let told = g.F.Files.told c.args.files.now in
    let more : HoldsMore told c.in-File.name 65536 =
    subst (λ (name : List ℕ). HoldsMore told name 65536) c.as_str-in-File.ensures
    (c.in-Err-TooLong.ensures.too_long (ap (λ (f : FileFault). Err f) c.in-Err-TooLong.field-0-is)) in
    subst (λ (given : Given). IsLong told given) (sym c.in-File.is) (IsLong-file told c.in-File.name more)
