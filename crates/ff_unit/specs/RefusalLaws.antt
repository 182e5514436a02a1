-- All that a node rejects, for any messages on the in of its stage.
use Rattle.std.proofs.Common.{◌≡◌, ℕ, Bool, false, cond, List, [], ◌∷◌, ◌++◌, length, refl, sym, ap, ◌∙◌, append_assoc, arith, length-append}
use Rattle.std.proofs.lemmas.List.{nil_from_length}
use Rattle.ff_rec.specs.Lines.{Rec}
use Rattle.ff_rec.specs.Streams.{IsOpen, items, closed}
use Rattle.ff_rec.specs.declared.msg.Msg.TheVariants.{Item, Mark, Pick, Eos, Abort}
use Rattle.ff_node.specs.Behaviour.{Behaviour, rejected_from}
use Rattle.ff_node.specs.Runs.{Message}
use Rattle.ff_node.specs.Sends.{count_more, kept_of}
use Rattle.ff_node.proofs.SendsLaws.{count_more-append, kept_of-append}

-- from state `n` of the node: what is rejected for each record until the node or the in ends, and then at the end
abbrev pub refusal : {N : Type 0} → Behaviour N → N → List Message → List Rec
refusal b n [] = b.last_rejects n
refusal b n (Item x ∷ ms) = b.rejects n x ++ cond (b.ends n x) (b.last_rejects (b.next n x)) (refusal b (b.next n x) ms)
refusal b n (Mark ∷ ms) = refusal b n ms
refusal b n (Pick w ∷ ms) = refusal b n ms
refusal b n (Eos ∷ ms) = b.last_rejects n
refusal b n (Abort ∷ ms) = refusal b n ms

-- on a closed list it is what the node rejects for the records that it carries
pub refusal-closed : {N : Type 0} (b : Behaviour N) (n : N) (ms : List Message) → IsOpen ms → refusal b n (closed ms) ≡ rejected_from b n (items (closed ms))
refusal-closed b n [] h = refl
refusal-closed b n (Item x ∷ ms) h = ap (λ l. b.rejects n x ++ cond (b.ends n x) (b.last_rejects (b.next n x)) l) (refusal-closed b (b.next n x) ms h.1)
refusal-closed b n (Mark ∷ ms) h = refusal-closed b n ms h.1
refusal-closed b n (Pick w ∷ ms) h = refusal-closed b n ms h.1
refusal-closed b n (Eos ∷ ms) h = absurd h.0
refusal-closed b n (Abort ∷ ms) h = absurd h.0

-- the count of all rejects, and those held behind those that were taken out
pub record AreRefused (rejects : ℕ) (keeps : Bool) (kept taken all : List Rec) : Type 0 where
  pub number : rejects ≡ count_more 0 all
  pub held : taken ++ kept ≡ kept_of keeps all

-- some more are rejected
pub AreRefused-more : (rejects : ℕ) (keeps : Bool) (kept taken all new : List Rec) → AreRefused rejects keeps kept taken all
    → AreRefused (count_more rejects new) keeps (kept ++ kept_of keeps new) taken (all ++ new)
AreRefused-more rejects keeps kept taken all new a = record {
  number = ap (λ n. count_more n new) a.number ∙ sym (count_more-append 0 all new);
  held = sym (append_assoc taken kept (kept_of keeps new)) ∙ ap (λ l. l ++ kept_of keeps new) a.held ∙ sym (kept_of-append keeps all new);
}

-- the first that is held is taken out
pub AreRefused-handed : (rejects : ℕ) (keeps : Bool) (x : Rec) (kept taken all : List Rec) → AreRefused rejects keeps (x ∷ kept) taken all
    → AreRefused rejects keeps kept (taken ++ x ∷ []) all
AreRefused-handed rejects keeps x kept taken all a = record { number = a.number; held = append_assoc taken (x ∷ []) kept ∙ a.held }

-- none is held where none is kept
pub AreRefused-none : (rejects : ℕ) (kept taken all : List Rec) → AreRefused rejects false kept taken all → kept ≡ []
AreRefused-none rejects kept taken all a = nil_from_length kept (omega (arith, ap length a.held, length-append taken kept))
