-- What a node does: with one record, with a list of records, and several nodes one behind another.
use Rattle.std.specs.Prelude.{◌≡◌, ℕ, Bool, if◌then◌else◌, List, [], ◌∷◌, ◌++◌, length}
use Rattle.ff_rec.specs.Lines.{Rec}
use Rattle.ff_node.specs.declared.class.Class.{Class}

-- what a node does in each of its states; the value of a node is what it does and its state together
pub record Behaviour (S : Type 0) : Type 0 where
  -- what is promised of it
  pub class : S → Class
  -- the state before the first record
  pub opening : S → S
  -- what it sends for a record
  pub sends : S → Rec → List Rec
  -- what it rejects for a record
  pub rejects : S → Rec → List Rec
  -- the state after a record
  pub next : S → Rec → S
  -- whether it ends after this record
  pub ends : S → Rec → Bool
  -- what it sends at the end
  pub last : S → List Rec
  -- what it rejects at the end
  pub last_rejects : S → List Rec

-- the sends for these records in turn, up to and with the first that ends the node, and then those of the end
abbrev pub sent_from : {S : Type 0} → Behaviour S → S → List Rec → List Rec
sent_from b s [] = b.last s
sent_from b s (x ∷ xs) = b.sends s x ++ (if b.ends s x then b.last (b.next s x) else sent_from b (b.next s x) xs)

-- the rejects for the same records in turn, and then those of the end
abbrev pub rejected_from : {S : Type 0} → Behaviour S → S → List Rec → List Rec
rejected_from b s [] = b.last_rejects s
rejected_from b s (x ∷ xs) = b.rejects s x ++ (if b.ends s x then b.last_rejects (b.next s x) else rejected_from b (b.next s x) xs)

-- the state after these records, whether or not one of them ends the node
abbrev pub state_from : {S : Type 0} → Behaviour S → S → List Rec → S
state_from b s [] = s
state_from b s (x ∷ xs) = state_from b (b.next s x) xs

-- what node `o` sends for a list of records
abbrev pub node : {S : Type 0} → Behaviour S → S → List Rec → List Rec
node b o xs = sent_from b (b.opening o) xs

-- what node `o` rejects for a list of records
abbrev pub node_rejected : {S : Type 0} → Behaviour S → S → List Rec → List Rec
node_rejected b o xs = rejected_from b (b.opening o) xs

-- how many records node `o` rejects for a list of records
abbrev pub node_rejected_count : {S : Type 0} → Behaviour S → S → List Rec → ℕ
node_rejected_count b o xs = length (node_rejected b o xs)

-- what nodes send one behind another, each fed with what the one before it sends
abbrev pub pipeline : {S : Type 0} → Behaviour S → List S → List Rec → List Rec
pipeline b [] xs = xs
pipeline b (o ∷ os) xs = pipeline b os (node b o xs)

-- what these nodes reject along the way
abbrev pub pipeline_rejected : {S : Type 0} → Behaviour S → List S → List Rec → List Rec
pipeline_rejected b [] xs = []
pipeline_rejected b (o ∷ os) xs = node_rejected b o xs ++ pipeline_rejected b os (node b o xs)

-- what a node does is fixed when it is made: no state changes its opening state or its class
pub record KeepsKind {S : Type 0} (b : Behaviour S) : Type 0 where
  pub opening_of_opening : (s : S) → b.opening (b.opening s) ≡ b.opening s
  pub opening_of_next : (s : S) (x : Rec) → b.opening (b.next s x) ≡ b.opening s
  pub class_of_opening : (s : S) → b.class (b.opening s) ≡ b.class s
