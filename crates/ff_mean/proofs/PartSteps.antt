-- Parts of a pipe, one after another, and a part without feedback.
use Rattle.std.proofs.Common.{◌≡◌, ℕ, suc, ◌+◌, ◌<◌, ◌⊎◌, inl, inr, true, false, List, [], ◌++◌, map, length, get_or, drop, refl, sym, ap, ◌∙◌, subst, add-one}
use Rattle.std.proofs.Math.Seq.{drop-cons}
use Rattle.std.specs.declared.alloc.Global.{Global}
use Rattle.std.proofs.Common.{Box}
use Rattle.std.specs.Prelude.{Option, None, Some, Result, Ok, Err, IfOk}
use Rattle.ff_rec.specs.Lines.{Rec}
use Rattle.ff_rec.proofs.WeightLaws.{Same-refl, Same-append}
use Rattle.ff_node.specs.Behaviour.{Behaviour, KeepsKind, pipeline, pipeline_rejected}
use Rattle.ff_node.specs.Sends.{Sent, add}
use Rattle.ff_node.proofs.SendsLaws.{add-add, add-nothing}
use Rattle.ff_net.specs.declared.net.Net.{Net, Leaf as NetLeaf, Pipe' as NetPipe', Comb' as NetComb', Farm' as NetFarm', OFarm' as NetOFarm', A2a' as NetA2a', Wrap as NetWrap, Wrap' as NetWrap'}
use Rattle.ff_net.specs.declared.net.Test.{Test}
use Rattle.ff_net.specs.Forms.{has_wrap}
use Rattle.ff_net.specs.RuleTests.{is_wrap}
use Rattle.ff_net.specs.Good.{GoodParts, EachTopOrNone}
use Rattle.ff_net.specs.Meaning.{mean, mean_through, mean_rejected, mean_rejected_through, Fine, FineThrough}
use Rattle.ff_net.specs.Tree.{Tree, Trees, none, more, tree_of, trees_of}
use Rattle.ff_mean.specs.Gathering.{Gathers, HasRun, HasRunNet, HasRunParts, HasRunRounds}
use Rattle.ff_net.specs.Nodes.{nodes_in}
use Rattle.ff_mean.proofs.Pipelines.{is_pipeline, pipeline-opened, pipeline_rejected-opened}
use Rattle.ff_mean.proofs.NodeSteps.{empty-added}

-- what holds of an answer, where memory was not out
pub IfOk-map : {A E : Type 0} (P Q : A → Type 0) → ((a : A) → P a → Q a) → (answer : Result A E) → IfOk answer P → IfOk answer Q
IfOk-map P Q f (Ok a) h = f a h
IfOk-map P Q f (Err e) h = tt

-- a run behind another one
HasRun-behind : (W : Type 0) (V : List Rec → Type 0) (means loses : List Rec → List Rec) (meant due : List Rec) (before mid after : Sent) (zs : List Rec) (answer : Option (List Rec))
    → Gathers W meant due before mid zs → HasRun (V zs) (means zs) (loses zs) mid after answer
    → HasRun (W × V meant) (means meant) (due ++ loses meant) before after answer
HasRun-behind W V means loses meant due before mid after zs answer first second =
    both answer (subst (λ (l : List Rec). HasRun (V l) (means l) (loses l) mid after answer) first.sent second)
  where
    both : (o : Option (List Rec)) → HasRun (V meant) (means meant) (loses meant) mid after o → HasRun (W × V meant) (means meant) (due ++ loses meant) before after o
    both None h = λ fine. h fine.1
    both (Some us) h = record {
      fine = (first.fine, h.fine);
      sent = h.sent;
      losses = first.losses ++ h.losses;
      same = Same-append first.same h.same;
      added = h.added ∙ ap (λ (s : Sent). add s [] h.losses) first.added ∙ add-add before [] first.losses [] h.losses;
    }

-- what comes of the parts that are left, from these records, is what comes of all
pub record PartsLeft {N : Type 0} (b : Behaviour N) (m : ℕ) (all : Trees N) (xs : List Rec) (before : Sent) (left : Trees N) (ys : List Rec) (now : Sent) : Type 0 where
  pub empty : now.sends ≡ []
  pub good : GoodParts b left
  pub wraps : EachTopOrNone left
  pub leads : (after : Sent) (answer : Option (List Rec)) → HasRunParts b m left ys now after answer → HasRunParts b m all xs before after answer

module _ {N : Type 0} (b : Behaviour N) (m : ℕ) where
  pub PartsLeft-start : (all : Trees N) (xs : List Rec) (before : Sent) → before.sends ≡ [] → GoodParts b all → EachTopOrNone all → PartsLeft b m all xs before all xs before
  PartsLeft-start all xs before empty good wraps = record { empty = empty; good = good; wraps = wraps; leads = λ after answer h. h }

  -- a part was run
  pub PartsLeft-next : (all : Trees N) (xs : List Rec) (before : Sent) (left : Trees N) (t : Tree N) (ts : Trees N) (ys zs : List Rec) (now mid : Sent)
      → PartsLeft b m all xs before left ys now → left ≡ more t ts → HasRunNet b m t ys now mid (Some zs) → PartsLeft b m all xs before ts zs mid
  PartsLeft-next all xs before left t ts ys zs now mid so_far first ran =
      let good = subst (GoodParts b) first so_far.good in
      let wraps = subst EachTopOrNone first so_far.wraps in
      record {
        empty = empty-added now mid ran.losses so_far.empty ran.added;
        good = good.1;
        wraps = wraps.1;
        leads = λ after answer h. so_far.leads after answer (subst (λ (l : Trees N). HasRunParts b m l ys now after answer) (sym first)
            (HasRun-behind (Fine b m t ys) (FineThrough b m ts) (mean_through b m ts) (mean_rejected_through b m ts) (mean b m t ys) (mean_rejected b m t ys) now mid after zs answer ran h));
      }

  -- one is over its limit
  pub HasRunParts-over : (all : Trees N) (xs : List Rec) (before : Sent) (left : Trees N) (t : Tree N) (ts : Trees N) (ys : List Rec) (now mid : Sent)
      → PartsLeft b m all xs before left ys now → left ≡ more t ts → HasRunNet b m t ys now mid None → HasRunParts b m all xs before mid None
  HasRunParts-over all xs before left t ts ys now mid so_far first over =
      so_far.leads mid None (subst (λ (l : Trees N). HasRunParts b m l ys now mid None) (sym first) (λ fine. over fine.0))

  -- none is left
  pub HasRunParts-end : (all : Trees N) (xs : List Rec) (before : Sent) (left : Trees N) (ys : List Rec) (now : Sent)
      → PartsLeft b m all xs before left ys now → left ≡ none → HasRunParts b m all xs before now (Some ys)
  HasRunParts-end all xs before left ys now so_far is =
      so_far.leads now (Some ys) (subst (λ (l : Trees N). HasRunParts b m l ys now now (Some ys)) (sym is)
      (record { fine = tt; sent = refl; losses = []; same = Same-refl []; added = sym (add-nothing now) }))

  -- a part without feedback was run node by node
  pub HasRunNet-pipeline : KeepsKind b → (t : Tree N) (os : List N) (xs ys : List Rec) (before after : Sent) → has_wrap t ≡ false → os ≡ map b.opening (nodes_in t)
      → ys ≡ pipeline b os xs → after ≡ add before [] (pipeline_rejected b os xs) → HasRunNet b m t xs before after (Some ys)
  HasRunNet-pipeline keeps t os xs ys before after none_there are sent added =
      let as_line = is_pipeline b t none_there in
      record {
        fine = as_line.fine m xs;
        sent = sent ∙ ap (λ l. pipeline b l xs) are ∙ pipeline-opened b keeps (nodes_in t) xs ∙ sym (as_line.mean m xs);
        losses = mean_rejected b m t xs;
        same = Same-refl (mean_rejected b m t xs);
        added = added ∙ ap (λ l. add before [] (pipeline_rejected b l xs)) are ∙ ap (add before []) (pipeline_rejected-opened b keeps (nodes_in t) xs ∙ sym (as_line.rejected m xs));
      }

-- the parts from one on are it and those behind it
pub trees_of-drop : {N : Type 0} (ts : List (Net N)) (i : ℕ) (t : Net N) → i < length ts → t ≡ get_or ts i t
    → trees_of (drop i ts) ≡ more (tree_of t) (trees_of (drop (i + 1) ts))
trees_of-drop ts i t within is =
    ap trees_of (drop-cons ts i t within)
    ∙ ap (λ u. more (tree_of u) (trees_of (drop (suc i) ts))) (sym is)
    ∙ ap (λ j. more (tree_of t) (trees_of (drop j ts))) (sym (add-one i))

-- where a wrap isn't what stands there, none does
pub no_wrap_there : {N : Type 0} (net : Net N) → ((n : ℕ) (w : Box (Net N) Global) (p : Test) → net ≡ NetWrap n w p → ⊥)
    → (is_wrap (tree_of net) ≡ true) ⊎ (has_wrap (tree_of net) ≡ false) → has_wrap (tree_of net) ≡ false
no_wrap_there (NetLeaf o) other there = refl
no_wrap_there (NetPipe' s row) other there = elim there [ inl h ↦ absurd (cc) | inr h ↦ h ]
no_wrap_there (NetComb' s row) other there = elim there [ inl h ↦ absurd (cc) | inr h ↦ h ]
no_wrap_there (NetFarm' n s p w) other there = elim there [ inl h ↦ absurd (cc) | inr h ↦ h ]
no_wrap_there (NetOFarm' n s p w) other there = elim there [ inl h ↦ absurd (cc) | inr h ↦ h ]
no_wrap_there (NetA2a' n p l r m q t) other there = elim there [ inl h ↦ absurd (cc) | inr h ↦ h ]
no_wrap_there (NetWrap' n p w t) other there = absurd (other n (record { ptr = p.ptr; alloc = p.alloc; value = w }) t refl)

-- what was run of a wrap was run of the network that it is
pub HasRunNet-wrap : {N : Type 0} (b : Behaviour N) (m : ℕ) (net v : Net N) (n : ℕ) (w : Box (Net N) Global) (p : Test) (xs : List Rec) (before after : Sent) → net ≡ NetWrap n w p
    → v ≡ w.value → (answer : Option (List Rec)) → HasRunRounds (mean b m (tree_of v)) (mean_rejected b m (tree_of v)) p m xs before after answer
    → HasRunNet b m (tree_of net) xs before after answer
HasRunNet-wrap b m net v n w p xs before after is inner answer ran =
    subst (λ (u : Net _). HasRunNet b m (tree_of u) xs before after answer) (sym is)
    (subst (λ (u : Net _). HasRunRounds (mean b m (tree_of u)) (mean_rejected b m (tree_of u)) p m xs before after answer) inner ran)
