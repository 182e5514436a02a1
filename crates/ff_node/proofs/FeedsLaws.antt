-- What follows from a record that a running node took.
use Rattle.std.specs.Prelude.{◌≡◌, Bool, true, false, if◌then◌else◌, List, [], ◌∷◌, ◌++◌}
use Rattle.std.proofs.Common.{sym, ap, ap₂, subst, ◌∙◌, append-nil}
use Rattle.ff_rec.specs.Lines.{Rec}
use Rattle.ff_node.specs.Behaviour.{Behaviour, sent_from, rejected_from}
use Rattle.ff_node.specs.Comb.{part, part_from, given_from, given_rejected}
use Rattle.ff_node.specs.Feeds.{Feeds, in_all}
use Rattle.ff_node.specs.Next.{is_eos}
use Rattle.ff_node.specs.Sends.{Sent, add}
use Rattle.ff_node.specs.declared.class.Next.{Next}
use Rattle.ff_node.specs.declared.class.Next.TheVariants.{GoOn, Eos}
use Rattle.ff_node.proofs.SendsLaws.{add-add, add-nothing}

module _ {S : Type 0} (b : Behaviour S) where
  -- a node that ended with a record, and then made its last calls
  pub Feeds-ended : (s s₁ s₂ : S) (out out₁ out₂ : Sent) (x : Rec) (next : Next)
      → next ≡ Eos → is_eos next ≡ b.ends s x → s₁ ≡ b.next s x → out₁ ≡ add out (b.sends s x) (b.rejects s x)
      → s₂ ≡ b.opening s₁ → out₂ ≡ add out₁ (b.last s₁) (b.last_rejects s₁) → Feeds b s out x next s₂ out₂
  Feeds-ended s s₁ s₂ out out₁ out₂ x next is mark state sends ended more =
      let ends : b.ends s x ≡ true = sym mark ∙ ap is_eos is in
      let opens : s₂ ≡ b.opening (b.next s x) = ended ∙ ap b.opening state in
      let all : out₂ ≡ add out (b.sends s x ++ b.last (b.next s x)) (b.rejects s x ++ b.last_rejects (b.next s x)) =
      (rw (state, sends) at more) ∙ add-add out (b.sends s x) (b.rejects s x) (b.last (b.next s x)) (b.last_rejects (b.next s x)) in
      subst (λ (k : Next). Feeds b s out x k s₂ out₂) (sym is) (ends, opens, all)

  -- whatever records follow, the same is gathered in all
  pub in_all-feeds : (s t : S) (out new : Sent) (x : Rec) (next : Next) → Feeds b s out x next t new
      → (zs : List Rec) → in_all b false s out (x ∷ zs) ≡ in_all b (is_eos next) t new zs
  in_all-feeds s t out new x GoOn fed zs =
      ap (λ (e : Bool). add out (b.sends s x ++ (if e then b.last (b.next s x) else sent_from b (b.next s x) zs))
      (b.rejects s x ++ (if e then b.last_rejects (b.next s x) else rejected_from b (b.next s x) zs))) fed.0
      ∙ sym (add-add out (b.sends s x) (b.rejects s x) (sent_from b (b.next s x) zs) (rejected_from b (b.next s x) zs))
      ∙ ap (λ (o : Sent). add o (sent_from b (b.next s x) zs) (rejected_from b (b.next s x) zs)) (sym fed.2)
      ∙ ap (λ (n : S). add new (sent_from b n zs) (rejected_from b n zs)) (sym fed.1)
  in_all-feeds s t out new x Eos fed zs =
      ap (λ (e : Bool). add out (b.sends s x ++ (if e then b.last (b.next s x) else sent_from b (b.next s x) zs))
      (b.rejects s x ++ (if e then b.last_rejects (b.next s x) else rejected_from b (b.next s x) zs))) fed.0
      ∙ sym fed.2
      ∙ sym (add-nothing new)

  -- the part of a comb that the node is then
  pub part_from-feeds : (s t : S) (out new : Sent) (x : Rec) (next : Next) → Feeds b s out x next t new
      → part t (is_eos next) ≡ part_from b s (x ∷ [])
  part_from-feeds s t out new x GoOn fed =
      ap (λ (n : S). part n false) fed.1
      ∙ sym (ap (λ (e : Bool). if e then part (b.opening (b.next s x)) true else part (b.next s x) false) fed.0)
  part_from-feeds s t out new x Eos fed =
      ap (λ (n : S). part n true) fed.1
      ∙ sym (ap (λ (e : Bool). if e then part (b.opening (b.next s x)) true else part (b.next s x) false) fed.0)

  -- and what it sent and rejected
  pub add-feeds : (s t : S) (out new : Sent) (x : Rec) (next : Next) → Feeds b s out x next t new
      → new ≡ add out (given_from b s (x ∷ [])) (given_rejected b s (x ∷ []))
  add-feeds s t out new x GoOn fed =
      fed.2
      ∙ ap₂ (add out) (sym (append-nil (b.sends s x))) (sym (append-nil (b.rejects s x)))
      ∙ ap (λ (e : Bool). add out (b.sends s x ++ (if e then b.last (b.next s x) else [])) (b.rejects s x ++ (if e then b.last_rejects (b.next s x) else []))) (sym fed.0)
  add-feeds s t out new x Eos fed =
      fed.2
      ∙ ap (λ (e : Bool). add out (b.sends s x ++ (if e then b.last (b.next s x) else [])) (b.rejects s x ++ (if e then b.last_rejects (b.next s x) else []))) (sym fed.0)
