-- A node over a list: a record more, and the end.
use Rattle.std.proofs.Common.{◌≡◌, true, false, List, [], ◌∷◌, sym, ap, ◌∙◌, append-nil}
use Rattle.ff_rec.specs.Lines.{Rec}
use Rattle.ff_node.specs.Behaviour.{Behaviour, sent_from, rejected_from, node, node_rejected, pipeline_rejected}
use Rattle.ff_node.specs.Sends.{Sent, add}
use Rattle.ff_node.proofs.BehaviourLaws.{add-goes_on, add-ended}
use Rattle.ff_node.proofs.SendsLaws.{add-add}

-- where nothing sent is left, what sends are taken out of are the rejects alone
pub add-taken : (out : Sent) (sends rejects : List Rec) → out.sends ≡ [] → ◌≡◌ {A = Sent} (record (add out sends rejects) { sends = [] }) (add out [] rejects)
add-taken out sends rejects empty =
    ap (λ (l : List Rec). record (add out sends rejects) { sends = l }) (sym (append-nil out.sends ∙ empty))

-- and rejects alone leave nothing sent
pub empty-added : (out after : Sent) (rejects : List Rec) → out.sends ≡ [] → after ≡ add out [] rejects → after.sends ≡ []
empty-added out after rejects empty added = ap (λ (s : Sent). s.sends) added ∙ append-nil out.sends ∙ empty

module _ {S : Type 0} (b : Behaviour S) where
  -- a record behind which the node goes on
  pub feed-on : (s t : S) (out after : Sent) (x : Rec) (queue xs : List Rec) → queue ≡ x ∷ xs → false ≡ b.ends s x → t ≡ b.next s x → after ≡ add out (b.sends s x) (b.rejects s x)
      → add after (sent_from b t xs) (rejected_from b t xs) ≡ add out (sent_from b s queue) (rejected_from b s queue)
  feed-on s t out after x queue xs first mark state added =
      ap (λ (o : Sent). add o (sent_from b t xs) (rejected_from b t xs)) added
      ∙ ap (λ u. add (add out (b.sends s x) (b.rejects s x)) (sent_from b u xs) (rejected_from b u xs)) state
      ∙ add-goes_on b s x xs out (sym mark)
      ∙ ap (λ l. add out (sent_from b s l) (rejected_from b s l)) (sym first)

  -- a record that ends it
  pub feed-ended : (s t : S) (out after : Sent) (x : Rec) (queue xs : List Rec) → queue ≡ x ∷ xs → true ≡ b.ends s x → t ≡ b.next s x → after ≡ add out (b.sends s x) (b.rejects s x)
      → add after (b.last t) (b.last_rejects t) ≡ add out (sent_from b s queue) (rejected_from b s queue)
  feed-ended s t out after x queue xs first mark state added =
      ap (λ (o : Sent). add o (b.last t) (b.last_rejects t)) added
      ∙ ap (λ u. add (add out (b.sends s x) (b.rejects s x)) (b.last u) (b.last_rejects u)) state
      ∙ add-ended b s x xs out (sym mark)
      ∙ ap (λ l. add out (sent_from b s l) (rejected_from b s l)) (sym first)

  -- a node of a line was run
  pub pipeline_rejected-next : (o : S) (left rest : List S) (ys zs : List Rec) (out after : Sent) → left ≡ o ∷ rest → zs ≡ node b o ys → after ≡ add out [] (node_rejected b o ys)
      → add after [] (pipeline_rejected b rest zs) ≡ add out [] (pipeline_rejected b left ys)
  pipeline_rejected-next o left rest ys zs out after first sent added =
      ap (λ (s : Sent). add s [] (pipeline_rejected b rest zs)) added
      ∙ ap (λ l. add (add out [] (node_rejected b o ys)) [] (pipeline_rejected b rest l)) sent
      ∙ add-add out [] (node_rejected b o ys) [] (pipeline_rejected b rest (node b o ys))
      ∙ ap (λ l. add out [] (pipeline_rejected b l ys)) (sym first)
