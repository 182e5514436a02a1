-- A network without feedback is its nodes one behind another.
use Rattle.std.proofs.Common.{◌≡◌, ℕ, false, List, [], ◌∷◌, ◌++◌, map, refl, sym, ap, ◌∙◌, append_assoc, append-nil}
use Rattle.ff_rec.specs.Lines.{Rec}
use Rattle.ff_node.specs.Behaviour.{Behaviour, KeepsKind, node, node_rejected, sent_from, rejected_from, pipeline, pipeline_rejected}
use Rattle.ff_net.specs.Forms.{has_wrap, any_wrap}
use Rattle.ff_net.specs.Meaning.{mean, mean_through, mean_rejected, mean_rejected_through, FineThrough}
use Rattle.ff_net.specs.Tree.{Tree, Trees, Leaf, Pipe, Comb, Farm, OFarm, A2a, Wrap, none, more}
use Rattle.ff_net.proofs.Kept.{or-false}
use Rattle.ff_net.specs.Nodes.{nodes_in, nodes_through}
use Rattle.ff_mean.specs.Runs.{IsPipeline}

module _ {N : Type 0} (b : Behaviour N) where
  -- nodes behind other nodes
  pub pipeline-append : (os ps : List N) (xs : List Rec) → pipeline b (os ++ ps) xs ≡ pipeline b ps (pipeline b os xs)
  pipeline-append [] ps xs = refl
  pipeline-append (o ∷ os) ps xs = pipeline-append os ps (node b o xs)

  pub pipeline_rejected-append : (os ps : List N) (xs : List Rec) → pipeline_rejected b (os ++ ps) xs ≡ pipeline_rejected b os xs ++ pipeline_rejected b ps (pipeline b os xs)
  pipeline_rejected-append [] ps xs = refl
  pipeline_rejected-append (o ∷ os) ps xs =
      ap (λ ys. node_rejected b o xs ++ ys) (pipeline_rejected-append os ps (node b o xs))
      ∙ sym (append_assoc (node_rejected b o xs) (pipeline_rejected b os (node b o xs)) (pipeline_rejected b ps (pipeline b os (node b o xs))))

  -- a part that is a line, and behind it what is a line
  mean-behind : (mean_first mean_second : List Rec → List Rec) (os ps : List N)
      → ((xs : List Rec) → mean_first xs ≡ pipeline b os xs) → ((xs : List Rec) → mean_second xs ≡ pipeline b ps xs)
      → (xs : List Rec) → mean_second (mean_first xs) ≡ pipeline b (os ++ ps) xs
  mean-behind mean_first mean_second os ps first second xs =
      second (mean_first xs) ∙ ap (pipeline b ps) (first xs) ∙ sym (pipeline-append os ps xs)

  mean_rejected-behind : (mean_first rejected_first rejected_second : List Rec → List Rec) (os ps : List N)
      → ((xs : List Rec) → mean_first xs ≡ pipeline b os xs) → ((xs : List Rec) → rejected_first xs ≡ pipeline_rejected b os xs)
      → ((xs : List Rec) → rejected_second xs ≡ pipeline_rejected b ps xs)
      → (xs : List Rec) → rejected_first xs ++ rejected_second (mean_first xs) ≡ pipeline_rejected b (os ++ ps) xs
  mean_rejected-behind mean_first rejected_first rejected_second os ps first losses second xs =
      ap (λ ys. ys ++ rejected_second (mean_first xs)) (losses xs)
      ∙ ap (λ ys. pipeline_rejected b os xs ++ ys) (second (mean_first xs) ∙ ap (pipeline_rejected b ps) (first xs))
      ∙ sym (pipeline_rejected-append os ps xs)

  mutual
    pub is_pipeline : (t : Tree N) → has_wrap t ≡ false → IsPipeline b t
    is_pipeline (Leaf o) none_there = record { mean = λ m xs. refl; rejected = λ m xs. sym (append-nil (node_rejected b o xs)); fine = λ m xs. tt }
    is_pipeline (Pipe ts) none_there = record { mean = λ m xs. mean_parts ts none_there m xs; rejected = λ m xs. mean_rejected_parts ts none_there m xs; fine = λ m xs. fine_parts ts none_there m xs }
    is_pipeline (Comb ts) none_there = record { mean = λ m xs. mean_parts ts none_there m xs; rejected = λ m xs. mean_rejected_parts ts none_there m xs; fine = λ m xs. fine_parts ts none_there m xs }
    is_pipeline (Farm n s w) none_there =
        let worker = is_pipeline w none_there in
        record { mean = worker.mean; rejected = worker.rejected; fine = worker.fine }
    is_pipeline (OFarm n s w) none_there =
        let worker = is_pipeline w none_there in
        record { mean = worker.mean; rejected = worker.rejected; fine = worker.fine }
    is_pipeline (A2a n l r k t) none_there =
        let both = or-false (has_wrap l) (has_wrap t) none_there in
        let left = is_pipeline l both.0 in
        let right = is_pipeline t both.1 in
        record {
          mean = λ m. mean-behind (mean b m l) (mean b m t) (nodes_in l) (nodes_in t) (left.mean m) (right.mean m);
          rejected = λ m. mean_rejected-behind (mean b m l) (mean_rejected b m l) (mean_rejected b m t) (nodes_in l) (nodes_in t) (left.mean m) (left.rejected m) (right.rejected m);
          fine = λ m xs. (left.fine m xs, right.fine m (mean b m l xs));
        }
    is_pipeline (Wrap n w p) none_there = absurd (cc)

    mean_parts : (ts : Trees N) → any_wrap ts ≡ false → (m : ℕ) (xs : List Rec) → mean_through b m ts xs ≡ pipeline b (nodes_through ts) xs
    mean_parts none none_there m xs = refl
    mean_parts (more t ts) none_there m xs =
        let both = or-false (has_wrap t) (any_wrap ts) none_there in
        mean-behind (mean b m t) (mean_through b m ts) (nodes_in t) (nodes_through ts) ((is_pipeline t both.0).mean m) (λ ys. mean_parts ts both.1 m ys) xs

    mean_rejected_parts : (ts : Trees N) → any_wrap ts ≡ false → (m : ℕ) (xs : List Rec) → mean_rejected_through b m ts xs ≡ pipeline_rejected b (nodes_through ts) xs
    mean_rejected_parts none none_there m xs = refl
    mean_rejected_parts (more t ts) none_there m xs =
        let both = or-false (has_wrap t) (any_wrap ts) none_there in
        let first = is_pipeline t both.0 in
        mean_rejected-behind (mean b m t) (mean_rejected b m t) (mean_rejected_through b m ts) (nodes_in t) (nodes_through ts) (first.mean m) (first.rejected m) (λ ys. mean_rejected_parts ts both.1 m ys) xs

    fine_parts : (ts : Trees N) → any_wrap ts ≡ false → (m : ℕ) (xs : List Rec) → FineThrough b m ts xs
    fine_parts none none_there m xs = tt
    fine_parts (more t ts) none_there m xs =
        let both = or-false (has_wrap t) (any_wrap ts) none_there in
        ((is_pipeline t both.0).fine m xs, fine_parts ts both.1 m (mean b m t xs))

  -- nodes in their opening states are the same nodes
  pub pipeline-opened : KeepsKind b → (os : List N) (xs : List Rec) → pipeline b (map b.opening os) xs ≡ pipeline b os xs
  pipeline-opened keeps [] xs = refl
  pipeline-opened keeps (o ∷ os) xs =
      ap (λ s. pipeline b (map b.opening os) (sent_from b s xs)) (keeps.opening_of_opening o) ∙ pipeline-opened keeps os (node b o xs)

  pub pipeline_rejected-opened : KeepsKind b → (os : List N) (xs : List Rec) → pipeline_rejected b (map b.opening os) xs ≡ pipeline_rejected b os xs
  pipeline_rejected-opened keeps [] xs = refl
  pipeline_rejected-opened keeps (o ∷ os) xs =
      ap (λ s. rejected_from b s xs ++ pipeline_rejected b (map b.opening os) (sent_from b s xs)) (keeps.opening_of_opening o)
      ∙ ap (λ ys. node_rejected b o xs ++ ys) (pipeline_rejected-opened keeps os (node b o xs))
