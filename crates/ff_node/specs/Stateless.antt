-- Nodes without a state: what such a node does depends on the record alone.
use Rattle.std.specs.Prelude.{◌≡◌, false, List, [], ◌∷◌, refl}
use Rattle.std.proofs.Common.{◌∙◌, ap}
use Rattle.ff_rec.specs.Lines.{Rec}
use Rattle.ff_node.specs.Behaviour.{Behaviour, KeepsKind, state_from}
use Rattle.ff_node.specs.Classes.{IsPlainNode, reached}

-- no record changes it, it opens as it is, never ends by itself, and nothing comes at the end
pub record IsStateless {S : Type 0} (b : Behaviour S) : Type 0 where
  pub opening : (s : S) → b.opening s ≡ s
  pub next : (s : S) (x : Rec) → b.next s x ≡ s
  pub ends : (s : S) (x : Rec) → b.ends s x ≡ false
  pub last : (s : S) → b.last s ≡ []
  pub last_rejects : (s : S) → b.last_rejects s ≡ []

-- what it does is fixed when it is made
pub KeepsKind-stateless : {S : Type 0} (b : Behaviour S) → IsStateless b → KeepsKind b
KeepsKind-stateless b h = record {
  opening_of_opening = λ s. h.opening (b.opening s);
  opening_of_next = λ s x. ap b.opening (h.next s x);
  class_of_opening = λ s. ap b.class (h.opening s);
}

-- no list of records changes the state
pub state_from-stateless : {S : Type 0} (b : Behaviour S) → IsStateless b → (s : S) (xs : List Rec) → state_from b s xs ≡ s
state_from-stateless b h s [] = refl
state_from-stateless b h s (x ∷ xs) = state_from-stateless b h (b.next s x) xs ∙ h.next s x

-- such a node is Plain
pub IsPlainNode-stateless : {S : Type 0} (b : Behaviour S) → IsStateless b → (o : S) → IsPlainNode b o
IsPlainNode-stateless b h o = record {
  sends = λ ys x. ap (λ s. b.sends s x) (state_from-stateless b h (b.opening o) ys);
  rejects = λ ys x. ap (λ s. b.rejects s x) (state_from-stateless b h (b.opening o) ys);
  ends = λ ys x. h.ends (reached b o ys) x;
  last = λ ys. h.last (reached b o ys);
  last_rejects = λ ys. h.last_rejects (reached b o ys);
}
