-- What a node that works as the records come has written begins an answer.
use Rattle.std.specs.Prelude.{◌≡◌, ℕ, Bool, true, false, List, ◌++◌}
use Rattle.std.proofs.Common.{sym, ◌∙◌, inr}
use Rattle.ff_rec.specs.Lines.{Rec, text}
use Rattle.ff_rec.proofs.WeightLaws.{Same-≡}
use Rattle.ff_node.specs.Behaviour.{Behaviour, node}
use Rattle.ff_net.specs.Forms.{is_ordered}
use Rattle.ff_net.specs.Meaning.{mean, Fine, SameInOrder, Answers}
use Rattle.ff_stream.specs.Endings.{Begun, IsBeginning}
use Rattle.ff_stream.specs.Jobs.{Job}
use Rattle.ff_stream.specs.Nodes.{IsNodeOf}
use Rattle.ff_stream.specs.declared.fault.Halt.{Halt}
use Rattle.ff_stream.specs.declared.fault.Halt.TheVariants.{Write, NoMemory}

-- equal lists are the same in any order
SameInOrder-≡ : (ordered : Bool) (xs ys : List Rec) → ys ≡ xs → SameInOrder ordered xs ys
SameInOrder-≡ true xs ys is = is
SameInOrder-≡ false xs ys is = Same-≡ xs ys (sym is)

-- what a network means is an answer of it
pub Answers-mean : {N : Type 0} (j : Job N) (xs ys : List Rec) → Fine j.does j.tasks j.net xs → ys ≡ mean j.does j.tasks j.net xs
    → Answers j.does j.tasks j.net xs ys
Answers-mean j xs ys fine is = record { fine = fine; same = SameInOrder-≡ (is_ordered j.net) (mean j.does j.tasks j.net xs) ys is }

-- what a node sends that stands for the network is an answer of it
pub Answers-node : {N S : Type 0} (j : Job N) (b : Behaviour S) (o : S) → IsNodeOf j.does j.net b o → (xs : List Rec)
    → Answers j.does j.tasks j.net xs (node b o xs)
Answers-node j b o stands xs = Answers-mean j xs (node b o xs) (stands.fine j.tasks xs) (stands.sends j.tasks xs)

-- the first bytes of what it sends
pub IsBeginning-node : {N S : Type 0} (j : Job N) (b : Behaviour S) (o : S) → IsNodeOf j.does j.net b o → (xs : List Rec) (front back : List ℕ)
    → text (node b o xs) ≡ front ++ back → IsBeginning j xs front
IsBeginning-node j b o stands xs front back is = record { sent = node b o xs; back = back; answers = Answers-node j b o stands xs; splits = is }

-- at any halt
pub Begun-beginning : {N : Type 0} (j : Job N) (halt : Halt) (xs : List Rec) (front : List ℕ) → IsBeginning j xs front → Begun j halt xs front
Begun-beginning j Write xs front begins = begins
Begun-beginning j NoMemory xs front begins = inr begins

-- no wrap stands in the network
pub no-wrap : {A : Type 0} (wraps : Bool) → wraps ≡ false → wraps ≡ true → A
no-wrap wraps without with = absurd (let both : false ≡ true = sym without ∙ with in cc)
