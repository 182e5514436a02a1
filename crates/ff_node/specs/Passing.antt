-- What is gathered when all records that were sent are given to a part of a comb, or pass through all parts.
use Rattle.std.specs.Prelude.{List, [], ◌∷◌}
use Rattle.ff_node.specs.Behaviour.{Behaviour}
use Rattle.ff_node.specs.Comb.{Part, part_sends, part_rejects, part_total, part_total_rejects, through, through_rejects, total, total_rejects}
use Rattle.ff_rec.specs.Lines.{Rec}
use Rattle.ff_node.specs.Sends.{Sent, add, rejects_alone}

-- this record stands alone among what was sent
abbrev pub sent_alone : Rec → Sent → Sent
sent_alone r out = record out { sends = r ∷ [] }

-- a part took them: what it sent stands in their place
abbrev pub fed : {N : Type 0} → Behaviour N → Part N → Sent → Sent
fed b p out = add (rejects_alone out) (part_sends b p out.sends) (part_rejects b p out.sends)

-- they were its last
abbrev pub fed_last : {N : Type 0} → Behaviour N → Part N → Sent → Sent
fed_last b p out = add (rejects_alone out) (part_total b p out.sends) (part_total_rejects b p out.sends)

-- they passed through all parts
abbrev pub passed : {N : Type 0} → Behaviour N → List (Part N) → Sent → Sent
passed b ps out = add (rejects_alone out) (through b ps out.sends) (through_rejects b ps out.sends)

-- they were the last
abbrev pub passed_last : {N : Type 0} → Behaviour N → List (Part N) → Sent → Sent
passed_last b ps out = add (rejects_alone out) (total b ps out.sends) (total_rejects b ps out.sends)
