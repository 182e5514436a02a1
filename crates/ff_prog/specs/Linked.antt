-- What a checked program keeps beside its statements.
use Rattle.std.specs.Prelude.{◌≡◌, List, length}
use Rattle.ff_prog.specs.declared.check.Linked.{Linked}
use Rattle.ff_prog.specs.declared.statement.Statement.{Statement}
use Rattle.ff_prog.specs.Links.{AreLinks, out_links}

-- these are the links of each statement, and those of the names that are put out
pub record IsLinked (ss : List Statement) (linked : Linked) : Type 0 where
  pub links : AreLinks ss linked.links.items (length ss)
  pub all : length linked.links.items ≡ length ss
  pub outs : linked.outs.items ≡ out_links ss
