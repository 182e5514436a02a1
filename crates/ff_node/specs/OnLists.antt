-- What a node's class says of whole lists: the forms that networks use.
use Rattle.std.specs.Prelude.{◌≡◌, ◌≢◌, ℕ, Bool, not, List, [], ◌++◌, Option}
use Rattle.std.specs.List.{filter, flat_map}
use Rattle.ff_rec.specs.Fields.{field_at}
use Rattle.ff_rec.specs.Lines.{Rec}
use Rattle.ff_rec.specs.Weights.{Same}
use Rattle.ff_node.specs.declared.class.Class.TheVariants.{Plain, Ordered, Keyed}
use Rattle.ff_node.specs.Behaviour.{Behaviour, node, node_rejected}

-- the records that a test of field `f` keeps; it is asked of a record without that field too
abbrev pub kept_by : ℕ → (Option (List ℕ) → Bool) → List Rec → List Rec
kept_by f test xs = filter (λ x. test (field_at f x)) xs

-- the others
abbrev pub left_by : ℕ → (Option (List ℕ) → Bool) → List Rec → List Rec
left_by f test xs = filter (λ x. not (test (field_at f x))) xs

-- for a list it sends and rejects what it does for each record in its opening state, in order
abbrev pub GoesByRecords : {S : Type 0} → Behaviour S → S → Type 0
GoesByRecords b o = (xs : List Rec) → (node b o xs ≡ flat_map (b.sends (b.opening o)) xs) × (node_rejected b o xs ≡ flat_map (b.rejects (b.opening o)) xs)

-- for records in another order it sends and rejects each record as often
abbrev pub GoesByCounts : {S : Type 0} → Behaviour S → S → Type 0
GoesByCounts b o = (xs ys : List Rec) → Same xs ys → Same (node b o xs) (node b o ys) × Same (node_rejected b o xs) (node_rejected b o ys)

-- two nodes may share the records by any test of field `f`, and a node without records does nothing
pub record GoesByKeys {S : Type 0} (b : Behaviour S) (f : ℕ) (o : S) : Type 0 where
  pub sends : (test : Option (List ℕ) → Bool) (xs : List Rec) → Same (node b o xs) (node b o (kept_by f test xs) ++ node b o (left_by f test xs))
  pub rejects : (test : Option (List ℕ) → Bool) (xs : List Rec) → Same (node_rejected b o xs) (node_rejected b o (kept_by f test xs) ++ node_rejected b o (left_by f test xs))
  pub sends_nothing : node b o [] ≡ []
  pub rejects_nothing : node_rejected b o [] ≡ []

-- every Plain node goes by records
abbrev pub PlainGoesByRecords : {S : Type 0} → Behaviour S → Type 0
PlainGoesByRecords {S} b = (o : S) → b.class o ≡ Plain → GoesByRecords b o

-- every node that isn't Ordered goes by counts
abbrev pub UnorderedGoesByCounts : {S : Type 0} → Behaviour S → Type 0
UnorderedGoesByCounts {S} b = (o : S) → b.class o ≢ Ordered → GoesByCounts b o

-- every Keyed node goes by the contents of its field
abbrev pub KeyedGoesByKeys : {S : Type 0} → Behaviour S → Type 0
KeyedGoesByKeys {S} b = (o : S) (f : ℕ) → b.class o ≡ Keyed f → GoesByKeys b f o
