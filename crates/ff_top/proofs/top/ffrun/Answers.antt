-- What is answered, by how the command ended.
use Rattle.std.proofs.Common.{subst}
use Rattle.ff_call.specs.Messages.{said, Tells}
use Rattle.ff_top.proofs.Calls.{complete}
use Rattle.ff_top.proofs.Statuses.{usage, no_command, done, Contains-status, IsEarly-low}
use Rattle.ff_words.specs.Parsed.{texts}
use Rattle.ff_top.proofs.top.ffrun.Goals as goal

pub returns-clause-status : goal.returns-clause-status
returns-clause-status g c = Contains-status c.status_of.result c.execute-ending.result c.status_of.ensures

pub returns-clause-ends : goal.returns-clause-ends
returns-clause-ends g c = record {
  answer = c.execute-ending.result;
  has_status = c.status_of.ensures;
  comes = c.execute-ending.ensures.comes;
  counts = c.execute-ending.ensures.counts;
  says = subst (λ err. Tells (g.M.Err.Sink.taken err) (g.M.Err.Sink.taken c.tell.new.err) (g.M.Err.Sink.faults err) (g.M.Err.Sink.faults c.tell.new.err) (said c.execute-ending.result))
      c.execute-ending.ensures.err c.tell.ensures;
}

pub returns-clause-done : goal.returns-clause-done
returns-clause-done g c =
    let e = c.execute-ending in
    done (texts c.args.words.now) _ _ c.status_of.result e.result c.status_of.ensures e.ensures.comes

pub returns-clause-usage : goal.returns-clause-usage
returns-clause-usage g c =
    let e = c.execute-ending in
    usage (texts c.args.words.now) _ _ c.status_of.result e.result c.status_of.ensures e.ensures.comes

pub returns-clause-no_command : goal.returns-clause-no_command
returns-clause-no_command g c =
    let e = c.execute-ending in
    no_command (texts c.args.words.now) _ _ c.status_of.result e.result c.status_of.ensures e.ensures.comes

pub returns-clause-complete : goal.returns-clause-complete
returns-clause-complete g c =
    let e = c.execute-ending in
    complete c.reading_is_cutting.ensures c.networks_spelled_alike_are_the_same.ensures (texts c.args.words.now) _ _
    c.status_of.result e.result c.status_of.ensures e.ensures.comes e.ensures.counts

pub returns-clause-unread : goal.returns-clause-unread
returns-clause-unread g c low =
    let e = c.execute-ending in
    e.ensures.early (IsEarly-low c.status_of.result e.result c.status_of.ensures low)

pub returns-clause-unread_by : goal.returns-clause-unread_by
returns-clause-unread_by g c other = c.execute-ending.ensures.unread other
