-- How sends are sorted into tasks and results, one after another.
use Rattle.std.proofs.Common.{◌≡◌, ◌+◌, ◌<◌, Bool, true, false, not, cond, List, [], ◌∷◌, ◌++◌, length, sym, ap, ◌∙◌, append_assoc, arith}
use Rattle.std.specs.List.{filter}
use Rattle.ff_rec.specs.Lines.{Rec}
use Rattle.ff_node.specs.Sends.{Sent}
use Rattle.ff_net.specs.declared.tasks.Tasks.{Tasks}

-- what is left of the sends with what was sorted is all
pub record SortsOn (round : Rec → Bool) (x y : Tasks) (before after : Sent) : Type 0 where
  pub next : y.next ++ filter round after.sends ≡ x.next ++ filter round before.sends
  pub results : y.results ++ filter (λ r. not (round r)) after.sends ≡ x.results ++ filter (λ r. not (round r)) before.sends
  pub room : y.room + length (filter round before.sends) ≡ x.room + length (filter round after.sends)
  pub rest : ◌≡◌ {A = Sent} (record after { sends = [] }) (record before { sends = [] })

-- a test of the first
filter-first : (test : Rec → Bool) (r : Rec) (all rest : List Rec) (answer : Bool) → all ≡ r ∷ rest → test r ≡ answer
    → filter test all ≡ cond answer (r ∷ filter test rest) (filter test rest)
filter-first test r all rest answer is tells = ap (filter test) is ∙ ap (λ b. cond b (r ∷ filter test rest) (filter test rest)) tells

module _ (round : Rec → Bool) (x y z : Tasks) (before out after : Sent) (r : Rec) (so_far : SortsOn round x y before out) (taken : out ≡ record after { sends = r ∷ after.sends }) where
  first : out.sends ≡ r ∷ after.sends
  first = ap (λ (s : Sent). s.sends) taken

  -- a result
  pub SortsOn-result : round r ≡ false → z.next ≡ y.next → z.results ≡ y.results ++ r ∷ [] → z.room ≡ y.room → SortsOn round x z before after
  SortsOn-result tells next results room =
      let left = filter-first round r out.sends after.sends false first tells in
      record {
        next = ap (λ l. l ++ filter round after.sends) next ∙ ap (λ l. y.next ++ l) (sym left) ∙ so_far.next;
        results = ap (λ l. l ++ filter (λ r. not (round r)) after.sends) results
            ∙ append_assoc y.results (r ∷ []) (filter (λ r. not (round r)) after.sends)
            ∙ ap (λ l. y.results ++ l) (sym (filter-first (λ r. not (round r)) r out.sends after.sends true first (ap not tells)))
            ∙ so_far.results;
        room = ap (λ n. n + length (filter round before.sends)) room ∙ so_far.room ∙ ap (λ l. x.room + length l) left;
        rest = ap (λ (s : Sent). record s { sends = [] }) (sym taken) ∙ so_far.rest;
      }

  -- a task
  pub SortsOn-task : round r ≡ true → z.next ≡ y.next ++ r ∷ [] → z.results ≡ y.results → z.room + 1 ≡ y.room → SortsOn round x z before after
  SortsOn-task tells next results room =
      let left = filter-first round r out.sends after.sends true first tells in
      record {
        next = ap (λ l. l ++ filter round after.sends) next ∙ append_assoc y.next (r ∷ []) (filter round after.sends) ∙ ap (λ l. y.next ++ l) (sym left) ∙ so_far.next;
        results = ap (λ l. l ++ filter (λ r. not (round r)) after.sends) results
            ∙ ap (λ l. y.results ++ l) (sym (filter-first (λ r. not (round r)) r out.sends after.sends false first (ap not tells)))
            ∙ so_far.results;
        room = omega (arith, so_far.room, ap length left);
        rest = ap (λ (s : Sent). record s { sends = [] }) (sym taken) ∙ so_far.rest;
      }

  -- a task for which there is no room
  pub full-task : round r ≡ true → y.room ≡ 0 → x.room < length (filter round before.sends)
  full-task tells room = omega (arith, so_far.room, ap length (filter-first round r out.sends after.sends true first tells))
