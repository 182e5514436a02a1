-- What contracts see of the two ends of a chain.
use Rattle.std.specs.Prelude.{◌≡◌, ℕ, ◌+◌, ◌≤◌, List, [], ◌++◌, length}
use Rattle.ff_rec.specs.declared.msg.Msg.{Msg}
use Rattle.rtrb.specs.Ring.{sent, received, known_free, known_items}
use Rattle.ff_ring.specs.Ends.{waiting_of, known_of}
use Rattle.ff_ring.specs.Names.{RingName, name_of}
use Rattle.ff_chain.specs.declared.link.Link.{Link}
use Rattle.ff_chain.specs.declared.reader.Reader.{Reader}
use Rattle.ff_chain.specs.declared.writer.Writer.{Writer}
use Rattle.ff_chain.specs.Uses.{put_in, got_in, lives_of}

module _ {T : Type 0} where
  -- the messages that the writer put: those of the segments that it closed, and those on the
  -- segment that it writes
  abbrev pub put_chain : Writer T → List (Msg T)
  put_chain out = lives_of (sent out.spine) ++ (lives_of out.waiting.items ++ put_in out.cur)

  -- what waits at the writer: links, each with a segment, and messages
  abbrev pub waiting_chain : Writer T → ℕ
  waiting_chain out = length out.waiting.items + waiting_of out.cur.out

  -- no link went over the spine, which has no less room than it had
  abbrev pub KeepsLinks : Writer T → Writer T → Type 0
  KeepsLinks out out' = (sent out'.spine ≡ sent out.spine) × (known_free out.spine ≤ known_free out'.spine)

  -- the chain that the writer writes
  abbrev pub written_chain : Writer T → RingName
  written_chain out = name_of out.spine.end

  -- the messages that the reader took: those of the segments that it passed, and those of the one
  -- that it reads
  abbrev pub got_chain : Reader T → List (Msg T)
  got_chain inn = lives_of (received inn.seen.value) ++ got_in inn.reading

  -- the links that came over the spine: those that were taken off it, and those known to be there
  abbrev pub came_links : Reader T → List (Link T)
  came_links inn = received inn.spine ++ known_items inn.spine

  -- how many messages are known to be there, on the segment that is read
  abbrev pub known_chain : Reader T → ℕ
  known_chain inn = known_of inn.reading.inn

  -- the chain that the reader reads
  abbrev pub read_chain : Reader T → RingName
  read_chain inn = name_of inn.spine.end
