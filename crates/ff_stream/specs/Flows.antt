-- A node that works as the records come: what it will have sent and rejected in all, and what of it is still to be written.
use Rattle.std.specs.Prelude.{◌≡◌, ℕ, Bool, false, List, [], ◌++◌}
use Rattle.ff_rec.specs.Counts.{count_more}
use Rattle.ff_rec.specs.Lines.{Rec, text}
use Rattle.ff_node.specs.Behaviour.{Behaviour, node, node_rejected}
use Rattle.ff_node.specs.Feeds.{in_all}
use Rattle.ff_node.specs.Sends.{Sent, kept_of, nothing_sent}
use Rattle.ff_stream.specs.Jobs.{Job}
use Rattle.ff_stream.specs.Nodes.{IsNodeOf}
use Rattle.ff_stream.specs.declared.flow.Flow.{Flow}

-- the text that is to be written then: what is held of it, and that of all sends
abbrev pub due : {S : Type 0} → Behaviour S → Flow S → List Rec → List ℕ
due b w zs = w.text ++ text (in_all b w.ended w.node w.sends zs).sends

-- what is rejected in all
abbrev pub told : {S : Type 0} → Behaviour S → Flow S → List Rec → Sent
told b w zs = record (in_all b w.ended w.node w.sends zs) { sends = [] }

-- what node `o` rejects for a whole list
abbrev pub told_of : {S : Type 0} → Behaviour S → S → Bool → List Rec → Sent
told_of b o keep xs = record { sends = []; rejects = count_more 0 (node_rejected b o xs); keeps = keep; kept = kept_of keep (node_rejected b o xs) }

-- a node that was opened and did nothing yet
pub record IsOpened {S : Type 0} (b : Behaviour S) (o : S) (keep : Bool) (w : Flow S) : Type 0 where
  pub node : w.node ≡ b.opening o
  pub runs : w.ended ≡ false
  pub sends : w.sends ≡ nothing_sent keep
  pub text : w.text ≡ []

-- A node that stands for the network took these records: whatever follows, what was written and what is due then make up
-- the text of what it sends for all, and what is rejected in all is the same.
pub record Flows {N S : Type 0} (b : Behaviour S) (j : Job N) (w : Flow S) (xs : List Rec) (front : List ℕ) : Type 0 where
  pub worker : S
  pub stands : IsNodeOf j.does j.net b worker
  pub sends : (zs : List Rec) → text (node b worker (xs ++ zs)) ≡ front ++ due b w zs
  pub rejects : (zs : List Rec) → told_of b worker j.keep (xs ++ zs) ≡ told b w zs
