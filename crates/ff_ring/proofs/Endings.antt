-- Lists that end with a rest.
use Rattle.std.proofs.Common.{◌≡◌, ℕ, ◌-◌, List, [], ◌++◌, length, take, drop, sym, ◌∙◌, ap, subst, arith, append_assoc, length-append}
use Rattle.std.proofs.lemmas.List.{take-append-drop}
use Rattle.std.proofs.Math.Seq.{take-append_seam}
use Rattle.ff_ring.specs.Bundles.{ahead_of, EndsWith}

module _ {A : Type 0} where
  -- what stands before the rest
  pub ahead_of-append : (front rest : List A) → ahead_of rest (front ++ rest) ≡ front
  ahead_of-append front rest =
      let n : length (front ++ rest) - length rest ≡ length front = omega (arith, length-append front rest) in
      ap (λ k. take k (front ++ rest)) n ∙ take-append_seam front rest

  -- a list ends with whatever follows a front of it
  pub EndsWith-append : (all front rest : List A) → all ≡ front ++ rest → EndsWith rest all
  EndsWith-append all front rest e =
      subst (λ xs. EndsWith rest xs) (sym e) (ap (λ xs. xs ++ rest) (sym (ahead_of-append front rest)))

  -- some of the rest was used up
  pub EndsWith-drop : (k : ℕ) (all rest : List A) → EndsWith rest all → EndsWith (drop k rest) all
  EndsWith-drop k all rest e =
      let front = ahead_of rest all in
      EndsWith-append all (front ++ take k rest) (drop k rest)
      (e ∙ ap (λ xs. front ++ xs) (sym (take-append-drop k rest))
      ∙ sym (append_assoc front (take k rest) (drop k rest)))

  -- what stands before nothing is nothing
  pub length-front : (front rest : List A) → front ++ rest ≡ [] → length front ≡ 0
  length-front front rest e = omega (arith, length-append front rest, ap length e)
