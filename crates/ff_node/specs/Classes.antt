-- What a node promises by its class. Each law speaks of the states that records lead to from the opening state.
use Rattle.std.specs.Prelude.{◌≡◌, ℕ, false, List, [], ◌++◌}
use Rattle.std.specs.List.{flat_map}
use Rattle.ff_rec.specs.Weights.{Same}
use Rattle.ff_rec.specs.Lines.{Rec}
use Rattle.ff_rec.specs.Fields.{contents, having, lacking}
use Rattle.ff_node.specs.declared.class.Class.{Class}
use Rattle.ff_node.specs.declared.class.Class.TheVariants.{Plain, Ordered, Fold, Keyed}
use Rattle.ff_node.specs.Behaviour.{Behaviour, state_from, node, node_rejected}

-- the state that these records lead to
abbrev pub reached : {S : Type 0} → Behaviour S → S → List Rec → S
reached b o ys = state_from b (b.opening o) ys

-- Plain: sends and rejects are the same in every state, it never ends by itself, and nothing comes at the end
pub record IsPlainNode {S : Type 0} (b : Behaviour S) (o : S) : Type 0 where
  pub sends : (ys : List Rec) (x : Rec) → b.sends (reached b o ys) x ≡ b.sends (b.opening o) x
  pub rejects : (ys : List Rec) (x : Rec) → b.rejects (reached b o ys) x ≡ b.rejects (b.opening o) x
  pub ends : (ys : List Rec) (x : Rec) → b.ends (reached b o ys) x ≡ false
  pub last : (ys : List Rec) → b.last (reached b o ys) ≡ []
  pub last_rejects : (ys : List Rec) → b.last_rejects (reached b o ys) ≡ []

-- Fold: nothing is sent before the end, it never ends by itself, and the order of the records doesn't matter
pub record IsFoldNode {S : Type 0} (b : Behaviour S) (o : S) : Type 0 where
  pub sends : (ys : List Rec) (x : Rec) → b.sends (reached b o ys) x ≡ []
  pub ends : (ys : List Rec) (x : Rec) → b.ends (reached b o ys) x ≡ false
  pub any_order : (xs ys : List Rec) → Same xs ys → node b o xs ≡ node b o ys
  pub rejected_any_order : (xs ys : List Rec) → Same xs ys → Same (node_rejected b o xs) (node_rejected b o ys)

-- Keyed(f): a Fold whose answer is that of the records of each content of field f alone, in byte order of the contents
pub record IsKeyedNode {S : Type 0} (b : Behaviour S) (f : ℕ) (o : S) : Type 0 where
  pub fold : IsFoldNode b o
  pub parts : (xs : List Rec) → node b o xs ≡ flat_map (λ k. node b o (having f k xs)) (contents f xs)
  pub rejected_parts : (xs : List Rec)
      → Same (node_rejected b o xs) (flat_map (λ k. node_rejected b o (having f k xs)) (contents f xs) ++ node_rejected b o (lacking f xs))
  pub rejected_nothing : node_rejected b o [] ≡ []

-- the law of a class; Ordered has none
abbrev pub ClassLaw : {S : Type 0} → Behaviour S → S → Class → Type 0
ClassLaw b o Plain = IsPlainNode b o
ClassLaw b o Ordered = Unit {0}
ClassLaw b o Fold = IsFoldNode b o
ClassLaw b o (Keyed f) = IsKeyedNode b f o
