-- Several nodes run as one: the first takes the records, and each of the others what the one before it sends.
use Rattle.std.specs.Prelude.{◌≡◌, Bool, true, false, if◌then◌else◌, List, [], ◌∷◌, ◌++◌, map}
use Rattle.ff_rec.specs.Lines.{Rec}
use Rattle.ff_rec.specs.Weights.{Same}
use Rattle.ff_node.specs.declared.class.Class.{Class}
use Rattle.ff_node.specs.declared.class.Class.TheVariants.{Plain, Ordered, Fold}
use Rattle.ff_node.specs.Behaviour.{Behaviour, node, node_rejected, pipeline, pipeline_rejected, sent_from, rejected_from}

-- a node of a comb, and whether it has ended by itself
pub record Part (N : Type 0) : Type 0 where
  pub node : N
  pub ended : Bool

abbrev pub part : {N : Type 0} → N → Bool → Part N
part n e = record { node = n; ended = e }

-- the nodes, and for each whether it has ended; where nothing is said it hasn't
abbrev pub parts : {N : Type 0} → List N → List Bool → List (Part N)
parts [] es = []
parts (n ∷ ns) [] = part n false ∷ parts ns []
parts (n ∷ ns) (e ∷ es) = part n e ∷ parts ns es

-- the nodes, none of which has ended
abbrev pub running : {N : Type 0} → List N → List (Part N)
running ns = map (λ n. part n false) ns

-- what a node sends for these records while it runs: where one of them ends it, what it sends at its end too
abbrev pub given_from : {N : Type 0} → Behaviour N → N → List Rec → List Rec
given_from b s [] = []
given_from b s (x ∷ xs) = b.sends s x ++ (if b.ends s x then b.last (b.next s x) else given_from b (b.next s x) xs)

-- what it rejects for them
abbrev pub given_rejected : {N : Type 0} → Behaviour N → N → List Rec → List Rec
given_rejected b s [] = []
given_rejected b s (x ∷ xs) = b.rejects s x ++ (if b.ends s x then b.last_rejects (b.next s x) else given_rejected b (b.next s x) xs)

-- the part that it is after them; a node that has ended is in its opening state
abbrev pub part_from : {N : Type 0} → Behaviour N → N → List Rec → Part N
part_from b s [] = part s false
part_from b s (x ∷ xs) = if b.ends s x then part (b.opening (b.next s x)) true else part_from b (b.next s x) xs

-- what a part sends for these records; one that has ended drops what comes
abbrev pub part_sends : {N : Type 0} → Behaviour N → Part N → List Rec → List Rec
part_sends b p us = if p.ended then [] else given_from b p.node us

-- what it rejects for them
abbrev pub part_rejects : {N : Type 0} → Behaviour N → Part N → List Rec → List Rec
part_rejects b p us = if p.ended then [] else given_rejected b p.node us

-- what it is after them
abbrev pub part_after : {N : Type 0} → Behaviour N → Part N → List Rec → Part N
part_after b p us = if p.ended then p else part_from b p.node us

-- what a part sends for the last of its records and at its end; one that has ended has sent its last already
abbrev pub part_total : {N : Type 0} → Behaviour N → Part N → List Rec → List Rec
part_total b p us = if p.ended then [] else sent_from b p.node us

-- what it rejects for them and at its end
abbrev pub part_total_rejects : {N : Type 0} → Behaviour N → Part N → List Rec → List Rec
part_total_rejects b p us = if p.ended then [] else rejected_from b p.node us

-- what comes out behind the last part for these records
abbrev pub through : {N : Type 0} → Behaviour N → List (Part N) → List Rec → List Rec
through b [] us = us
through b (p ∷ ps) us = through b ps (part_sends b p us)

-- what the parts reject along the way, the first part's before the second's
abbrev pub through_rejects : {N : Type 0} → Behaviour N → List (Part N) → List Rec → List Rec
through_rejects b [] us = []
through_rejects b (p ∷ ps) us = part_rejects b p us ++ through_rejects b ps (part_sends b p us)

-- the parts after these records
abbrev pub through_after : {N : Type 0} → Behaviour N → List (Part N) → List Rec → List (Part N)
through_after b [] us = []
through_after b (p ∷ ps) us = part_after b p us ∷ through_after b ps (part_sends b p us)

-- what comes out behind the last part for the last records and at the end: each part's last records pass through those behind it
abbrev pub total : {N : Type 0} → Behaviour N → List (Part N) → List Rec → List Rec
total b [] us = us
total b (p ∷ ps) us = total b ps (part_total b p us)

-- what the parts reject meanwhile
abbrev pub total_rejects : {N : Type 0} → Behaviour N → List (Part N) → List Rec → List Rec
total_rejects b [] us = []
total_rejects b (p ∷ ps) us = part_total_rejects b p us ++ total_rejects b ps (part_total b p us)

-- a part before its first record
abbrev pub opened : {N : Type 0} → Behaviour N → Part N → Part N
opened b p = part (b.opening p.node) false

-- whether the first part has ended
abbrev pub first_ended : {N : Type 0} → List (Part N) → Bool
first_ended [] = false
first_ended (p ∷ ps) = p.ended

-- the class of two nodes, one behind the other
abbrev pub both : Class → Class → Class
both Ordered d = Ordered
both c Ordered = Ordered
both Plain Plain = Plain
both c d = Fold

-- the class of a node of this class with these behind it
abbrev pub joined_class : Class → List Class → Class
joined_class c [] = c
joined_class c (d ∷ ds) = joined_class (both c d) ds

-- the class of several: that of the only one; Plain where all are; Ordered where one is; else Fold
abbrev pub joint_class : List Class → Class
joint_class [] = Plain
joint_class (c ∷ cs) = joined_class c cs

-- the classes of the parts
abbrev pub part_classes : {N : Type 0} → Behaviour N → List (Part N) → List Class
part_classes b ps = map (λ p. b.class p.node) ps

-- what several nodes do as one
abbrev pub comb_node : {N : Type 0} → Behaviour N → Behaviour (List (Part N))
comb_node b = record {
  class = λ ps. joint_class (part_classes b ps);
  opening = map (opened b);
  sends = λ ps x. through b ps (x ∷ []);
  rejects = λ ps x. through_rejects b ps (x ∷ []);
  next = λ ps x. through_after b ps (x ∷ []);
  ends = λ ps x. first_ended (through_after b ps (x ∷ []));
  last = λ ps. total b ps [];
  last_rejects = λ ps. total_rejects b ps [];
}

-- the nodes of these parts
abbrev pub nodes_of : {N : Type 0} → List (Part N) → List N
nodes_of ps = map (λ p. p.node) ps

-- a comb sends what its nodes send one behind another, and rejects each record as often as they do along the way
abbrev pub CombIsPipeline : {N : Type 0} → Behaviour N → Type 0
CombIsPipeline {N} b = (ps : List (Part N)) (xs : List Rec)
    → (node (comb_node b) ps xs ≡ pipeline b (nodes_of ps) xs) × Same (node_rejected (comb_node b) ps xs) (pipeline_rejected b (nodes_of ps) xs)

-- a comb whose first node runs ends after the records that end this node
abbrev pub CombEndsWithFirst : {N : Type 0} → Behaviour N → Type 0
CombEndsWithFirst {N} b = (o : N) (ps : List (Part N)) (x : Rec) → (comb_node b).ends (part o false ∷ ps) x ≡ b.ends o x
