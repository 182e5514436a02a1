-- A record to a node that runs, and what is gathered in all when more are to come.
use Rattle.std.specs.Prelude.{◌≡◌, Bool, true, false, List, [], ◌++◌}
use Rattle.ff_rec.specs.Lines.{Rec}
use Rattle.ff_node.specs.Behaviour.{Behaviour, sent_from, rejected_from}
use Rattle.ff_node.specs.Sends.{Sent, add}
use Rattle.ff_node.specs.declared.class.Next.{Next}
use Rattle.ff_node.specs.declared.class.Next.TheVariants.{GoOn, Eos}

-- a node took a record, and where it ended it has sent what it sends at the end
abbrev pub Feeds : {S : Type 0} → Behaviour S → S → Sent → Rec → Next → S → Sent → Type 0
Feeds b s out x GoOn t new = (b.ends s x ≡ false) × (t ≡ b.next s x) × (new ≡ add out (b.sends s x) (b.rejects s x))
Feeds b s out x Eos t new =
    (b.ends s x ≡ true) × (t ≡ b.opening (b.next s x))
    × (new ≡ add out (b.sends s x ++ b.last (b.next s x)) (b.rejects s x ++ b.last_rejects (b.next s x)))

-- what is still sent where these records are to come, and then the end: a node that ended takes none of them
abbrev pub sent_after : {S : Type 0} → Behaviour S → Bool → S → List Rec → List Rec
sent_after b true s xs = []
sent_after b false s xs = sent_from b s xs

-- what is still rejected
abbrev pub rejected_after : {S : Type 0} → Behaviour S → Bool → S → List Rec → List Rec
rejected_after b true s xs = []
rejected_after b false s xs = rejected_from b s xs

-- what is gathered in all with what is still sent and rejected
abbrev pub in_all : {S : Type 0} → Behaviour S → Bool → S → Sent → List Rec → Sent
in_all b ended s out xs = add out (sent_after b ended s xs) (rejected_after b ended s xs)
