-- A whole network: its outermost pipe, and what a run of it is told as.
use Rattle.std.proofs.Common.{◌≡◌, ℕ, Bool, true, false, List, [], ◌++◌, refl, sym, ap, ◌∙◌, subst}
use Rattle.std.specs.Prelude.{Some}
use Rattle.std.specs.declared.alloc.Global.{Global}
use Rattle.std.specs.declared.vec.Vec.{Vec}
use Rattle.ff_rec.specs.Lines.{Rec}
use Rattle.ff_rec.specs.Weights.{Same}
use Rattle.ff_rec.proofs.WeightLaws.{Same-length}
use Rattle.ff_node.specs.Behaviour.{Behaviour}
use Rattle.ff_node.specs.Sends.{Sent, add, nothing_sent, count_more, kept_of, counted}
use Rattle.ff_node.proofs.SendsLaws.{count_more-zero}
use Rattle.ff_net.specs.declared.net.Net.{Net, Pipe as NetPipe}
use Rattle.ff_net.specs.Meaning.{mean_rejected}
use Rattle.ff_net.specs.Tree.{Tree, Pipe, tree_of, trees_of, tree_of-Pipe}
use Rattle.ff_mean.specs.Gathering.{HasRunNet}
use Rattle.ff_net.specs.Kept.{AreKept}
use Rattle.ff_mean.specs.Runs.{IsMeant}

-- a pipe is the pipe of its parts
pub tree_of-parts : {N : Type 0} (net : Net N) (v : Vec (Net N) Global) (parts : List (Net N)) → net ≡ NetPipe v → parts ≡ v.items → tree_of net ≡ Pipe (trees_of parts)
tree_of-parts net v parts is same = ap tree_of is ∙ tree_of-Pipe v ∙ ap (λ l. Pipe (trees_of l)) (sym same)

-- rejects are kept where that is asked for
AreKept-added : (keep : Bool) (due losses kept : List Rec) (before after : Sent) → before ≡ nothing_sent keep → after ≡ add before [] losses → kept ≡ after.kept → Same due losses
    → AreKept keep due kept
AreKept-added keep due losses kept before after start added are same =
    subst (AreKept keep due) (sym (are ∙ ap (λ (s : Sent). s.kept) added ∙ ap (λ (s : Sent). s.kept ++ kept_of s.keeps losses) start)) (by keep)
  where
    by : (k : Bool) → AreKept k due (kept_of k losses)
    by true = record { all = λ is. same; none = λ is. absurd (cc) }
    by false = record { all = λ is. absurd (cc); none = λ is. refl }

-- what was gathered from nothing on is what the network means
pub IsMeant-gathered : {N : Type 0} (b : Behaviour N) (m : ℕ) (keep : Bool) (t : Tree N) (xs ys : List Rec) (number : ℕ) (kept : List Rec) (before after : Sent)
    → before ≡ nothing_sent keep → HasRunNet b m t xs before after (Some ys) → number ≡ after.rejects → kept ≡ after.kept → IsMeant b m keep t xs ys number kept
IsMeant-gathered b m keep t xs ys number kept before after start ran counts are = record {
  fine = ran.fine;
  sent = ran.sent;
  rejected = counts
      ∙ ap (λ (s : Sent). s.rejects) ran.added
      ∙ ap (λ (s : Sent). count_more s.rejects ran.losses) start
      ∙ count_more-zero ran.losses
      ∙ ap counted (sym (Same-length ran.same));
  kept = AreKept-added keep (mean_rejected b m t xs) ran.losses kept before after start ran.added are ran.same;
}
