-- Steps of a caller that feeds a node one record after another.
use Rattle.std.specs.Prelude.{◌≡◌, true, false, List, ◌∷◌}
use Rattle.ff_rec.specs.Lines.{Rec}
use Rattle.ff_node.specs.Behaviour.{Behaviour, sent_from, rejected_from}
use Rattle.ff_node.specs.Sends.{Sent, add}
use Rattle.ff_node.proofs.SendsLaws.{add-add}

-- after a record that doesn't end the node, what is still to come completes the sends and rejects
pub add-goes_on : {S : Type 0} (b : Behaviour S) (s : S) (x : Rec) (xs : List Rec) (out : Sent) → b.ends s x ≡ false
    → add (add out (b.sends s x) (b.rejects s x)) (sent_from b (b.next s x) xs) (rejected_from b (b.next s x) xs)
    ≡ add out (sent_from b s (x ∷ xs)) (rejected_from b s (x ∷ xs))
add-goes_on b s x xs out on =
    rw on (add-add out (b.sends s x) (b.rejects s x) (sent_from b (b.next s x) xs) (rejected_from b (b.next s x) xs))

-- after a record that ends the node, what comes at the end completes them
pub add-ended : {S : Type 0} (b : Behaviour S) (s : S) (x : Rec) (xs : List Rec) (out : Sent) → b.ends s x ≡ true
    → add (add out (b.sends s x) (b.rejects s x)) (b.last (b.next s x)) (b.last_rejects (b.next s x))
    ≡ add out (sent_from b s (x ∷ xs)) (rejected_from b s (x ∷ xs))
add-ended b s x xs out ends =
    rw ends (add-add out (b.sends s x) (b.rejects s x) (b.last (b.next s x)) (b.last_rejects (b.next s x)))
