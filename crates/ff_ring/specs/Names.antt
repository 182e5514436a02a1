-- What tells a ring from all others.
use denote.RawPtr.{Ptr}
use Rattle.std.specs.declared.alloc.Global.{Global}
use Rattle.rtrb.specs.Shared.{Names}
use Rattle.rtrb.specs.declared.end.End.{End}

-- where its memory lies, and what proofs call it
pub record RingName : Type 0 where
  pub words : Ptr
  pub slots : Ptr
  pub names : Names
  pub heap : Global

-- the ring of this end
abbrev pub name_of : {T P : Type 0} → End T Global P → RingName
name_of e = record { words = e.words; slots = e.slots; names = e.names; heap = e.heap }
