-- The whole out of a stage, for any messages on its in.
use Rattle.std.proofs.Common.{◌≡◌, Bool, true, false, cond, List, [], ◌∷◌, ◌++◌, refl, sym, ap, ap₂, ◌∙◌, subst}
use Rattle.std.specs.List.{AllByRecursion, flat_map}
use Rattle.std.proofs.lemmas.List.{map-append}
use Rattle.std.proofs.lemmas.Bool.{cond_both}
use Rattle.ff_rec.specs.Lines.{Rec}
use Rattle.ff_rec.specs.Streams.{IsOpen, carried, unaborted, closed}
use Rattle.ff_rec.specs.declared.msg.Msg.TheVariants.{Item, Mark, Pick, Eos, Abort}
use Rattle.ff_node.specs.Behaviour.{Behaviour, sent_from, state_from}
use Rattle.ff_node.specs.Classes.{ClassLaw, IsPlainNode, reached}
use Rattle.ff_node.specs.Fits.{FitsStage, IsItemOrMark, replaced}
use Rattle.ff_node.specs.Runs.{Message}
use Rattle.ff_unit.specs.MessageLaws.{IsOpen-append, IsOpen-carried}

-- from state `n` of its node: what is sent for each record until the node or the in ends, and then what is sent at the end
abbrev pub answer : {N : Type 0} → Behaviour N → N → List Message → List Message
answer b n [] = carried (b.last n)
answer b n (Item x ∷ ms) = carried (b.sends n x) ++ cond (b.ends n x) (carried (b.last (b.next n x))) (answer b (b.next n x) ms)
answer b n (Mark ∷ ms) = Mark ∷ answer b n ms
answer b n (Pick w ∷ ms) = answer b n ms
answer b n (Eos ∷ ms) = carried (b.last n)
answer b n (Abort ∷ ms) = answer b n ms

module _ {N : Type 0} (b : Behaviour N) where
  -- it is open
  pub IsOpen-answer : (n : N) (ms : List Message) → IsOpen (answer b n ms)
  IsOpen-answer n [] = IsOpen-carried (b.last n)
  IsOpen-answer n (Item x ∷ ms) =
      let ended = carried (b.last (b.next n x)) in
      let rest = answer b (b.next n x) ms in
      IsOpen-append (carried (b.sends n x)) (cond (b.ends n x) ended rest) (IsOpen-carried (b.sends n x))
      (cond_both (b.ends n x) ended rest IsOpen (λ _. IsOpen-carried (b.last (b.next n x))) (λ _. IsOpen-answer (b.next n x) ms))
  IsOpen-answer n (Mark ∷ ms) = (tt, IsOpen-answer n ms)
  IsOpen-answer n (Pick w ∷ ms) = IsOpen-answer n ms
  IsOpen-answer n (Eos ∷ ms) = IsOpen-carried (b.last n)
  IsOpen-answer n (Abort ∷ ms) = IsOpen-answer n ms

  -- an Eos behind the in changes nothing
  pub answer-closed : (n : N) (ms : List Message) → answer b n (closed ms) ≡ answer b n ms
  answer-closed n [] = refl
  answer-closed n (Item x ∷ ms) = ap (λ l. carried (b.sends n x) ++ cond (b.ends n x) (carried (b.last (b.next n x))) l) (answer-closed (b.next n x) ms)
  answer-closed n (Mark ∷ ms) = ap (λ l. Mark ∷ l) (answer-closed n ms)
  answer-closed n (Pick w ∷ ms) = answer-closed n ms
  answer-closed n (Eos ∷ ms) = refl
  answer-closed n (Abort ∷ ms) = answer-closed n ms

  -- nor does an Abort
  pub answer-unaborted : (n : N) (ms rest : List Message) → answer b n (unaborted ms ++ rest) ≡ answer b n (ms ++ rest)
  answer-unaborted n [] rest = refl
  answer-unaborted n (Item x ∷ ms) rest = ap (λ l. carried (b.sends n x) ++ cond (b.ends n x) (carried (b.last (b.next n x))) l) (answer-unaborted (b.next n x) ms rest)
  answer-unaborted n (Mark ∷ ms) rest = ap (λ l. Mark ∷ l) (answer-unaborted n ms rest)
  answer-unaborted n (Pick w ∷ ms) rest = answer-unaborted n ms rest
  answer-unaborted n (Eos ∷ ms) rest = refl
  answer-unaborted n (Abort ∷ ms) rest = answer-unaborted n ms rest

  -- where the in carries records alone, it is what the node sends
  pub answer-carried : (n : N) (xs : List Rec) → answer b n (carried xs) ≡ carried (sent_from b n xs)
  answer-carried n [] = refl
  answer-carried n (x ∷ xs) =
      ap (λ l. carried (b.sends n x) ++ cond (b.ends n x) (carried (b.last (b.next n x))) l) (answer-carried (b.next n x) xs)
      ∙ behind (b.sends n x) (b.ends n x) (b.last (b.next n x)) (sent_from b (b.next n x) xs)
    where
      behind : (sends : List Rec) (c : Bool) (xs ys : List Rec) → carried sends ++ cond c (carried xs) (carried ys) ≡ carried (sends ++ cond c xs ys)
      behind sends true xs ys = sym (map-append (λ x. Item x) sends xs)
      behind sends false xs ys = sym (map-append (λ x. Item x) sends ys)

  -- one record more
  state_from-push : (n : N) (ys : List Rec) (x : Rec) → state_from b n (ys ++ x ∷ []) ≡ b.next (state_from b n ys) x
  state_from-push n [] x = refl
  state_from-push n (y ∷ ys) x = state_from-push (b.next n y) ys x

  -- a Plain node replaces each record by its sends
  pub answer-plain : (o : N) → IsPlainNode b o → (ys : List Rec) (ms : List Message) → AllByRecursion IsItemOrMark ms
      → answer b (reached b o ys) ms ≡ flat_map (replaced b o) ms
  answer-plain o law ys [] h = ap carried (law.last ys)
  answer-plain o law ys (Item x ∷ ms) h =
      ap (λ c. carried (b.sends (reached b o ys) x) ++ cond c (carried (b.last (b.next (reached b o ys) x))) (answer b (b.next (reached b o ys) x) ms)) (law.ends ys x)
      ∙ ap₂ (λ s r. carried s ++ r) (law.sends ys x)
      (ap (λ n. answer b n ms) (sym (state_from-push (b.opening o) ys x)) ∙ answer-plain o law (ys ++ x ∷ []) ms h.1)
  answer-plain o law ys (Mark ∷ ms) h = ap (λ l. Mark ∷ l) (answer-plain o law ys ms h.1)
  answer-plain o law ys (Pick w ∷ ms) h = absurd h.0
  answer-plain o law ys (Eos ∷ ms) h = absurd h.0
  answer-plain o law ys (Abort ∷ ms) h = absurd h.0

  -- a stage fits any in with this out
  pub FitsStage-answer : (o : N) → ClassLaw b o (b.class o) → (ms : List Message) → FitsStage b o (ms ∷ []) (answer b (b.opening o) ms ∷ [])
  FitsStage-answer o law ms = record {
    one_in = refl;
    one_out = refl;
    unmarked = λ xs e. ap (answer b (b.opening o)) e ∙ answer-carried (b.opening o) xs;
    plain = λ is h. answer-plain o (subst (ClassLaw b o) is law) [] ms h;
  }
