-- What is seen of the calling thread's ends.
use Rattle.ff_ring.specs.Ends.{put_of, got_of, read_ring, written_ring}
use Rattle.ff_engine.specs.Callers.{CallerState}
use Rattle.ff_engine.specs.declared.caller.Caller.{Caller}

-- by their fields
abbrev pub caller_of : Caller → CallerState
caller_of c = record {
  put = put_of c.first;
  got = got_of c.last;
  text = c.text;
  holds = c.holds;
  end = c.end;
  writes = written_ring c.first;
  reads = read_ring c.last;
}
