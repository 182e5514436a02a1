-- The ends of a chain may go to another thread where its messages may. Their parts are shown one by
-- one, since a search through all of them at once runs out of steps.
use denote.RattleType.{RattleType}
use denote.Param.Send.{IsSend, sendable, view_send}
use denote.Param.SendFields.{declared_send}
use Rattle.std.proofs.Crossing.{crosses}
use Rattle.rtrb.proofs.end.End.TheSendSync.{the_send as end_send}
use Rattle.ff_ring.specs.contracts.ring_in.RingIn as RingIn
use Rattle.ff_ring.specs.contracts.ring_out.RingOut as RingOut
use Rattle.ff_chain.specs.contracts.writing.Writing as Writing
use Rattle.ff_chain.specs.contracts.reading.Reading as Reading
use Rattle.ff_chain.specs.contracts.link.Link as Link
use Rattle.ff_chain.specs.contracts.blank.Blank as Blank
use Rattle.ff_chain.specs.contracts.writer.Writer as Writer
use Rattle.ff_chain.specs.contracts.reader.Reader as Reader
use Rattle.ff_chain.specs.contracts.chain_out.ChainOut as ChainOut
use Rattle.ff_chain.specs.contracts.chain_out.ChainOut.TheInside as OutInside
use Rattle.ff_chain.specs.contracts.chain_in.ChainIn as ChainIn
use Rattle.ff_chain.specs.contracts.chain_in.ChainIn.TheInside as InInside

module _ (T : RattleType) (sent : IsSend T) where
  IsSend-ring_out : IsSend (RingOut.the_row T)
  IsSend-ring_out = search (sendable, crosses, end_send) depth 40

  IsSend-ring_in : IsSend (RingIn.the_row T)
  IsSend-ring_in = search (sendable, crosses, end_send) depth 40

  IsSend-writing : IsSend (Writing.the_row T)
  IsSend-writing = let o = IsSend-ring_out in search (sendable, crosses, end_send) depth 40

  IsSend-reading : IsSend (Reading.the_row T)
  IsSend-reading = let i = IsSend-ring_in in search (sendable, crosses, end_send) depth 40

  IsSend-link : IsSend (Link.the_row T)
  IsSend-link = let w = IsSend-writing in let i = IsSend-ring_in in search (sendable, crosses, end_send) depth 40 fits 20000

  IsSend-blank : IsSend (Blank.the_row T)
  IsSend-blank = let o = IsSend-ring_out in let i = IsSend-ring_in in search (sendable, crosses, end_send) depth 40 fits 20000

  IsSend-writer : IsSend (Writer.the_row T)
  IsSend-writer = let l = IsSend-link in let b = IsSend-blank in let w = IsSend-writing in search (sendable, crosses, end_send) depth 40 fits 20000

  IsSend-reader : IsSend (Reader.the_row T)
  IsSend-reader = let l = IsSend-link in let b = IsSend-blank in let r = IsSend-reading in search (sendable, crosses, end_send) depth 40 fits 20000

  pub IsSend-chain_out : IsSend (ChainOut.the_row T)
  IsSend-chain_out = view_send (OutInside.the_row T) _ _ _ _ (declared_send (OutInside.the_type T) (IsSend-writer, tt))

  pub IsSend-chain_in : IsSend (ChainIn.the_row T)
  IsSend-chain_in = view_send (InInside.the_row T) _ _ _ _ (declared_send (InInside.the_type T) (IsSend-reader, tt))
