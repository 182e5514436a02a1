-- Where a field ends that stands in an array filled in part.
use Rattle.std.proofs.Common.{◌≡◌, ℕ, ◌+◌, ◌-◌, ◌≤◌, List, length, get_or, take, drop, min, sym, ap, ◌∙◌, subst, arith}
use Rattle.std.proofs.lemmas.Bool.{eqb-true}
use Rattle.std.proofs.lemmas.List.{drop-take, take-take, length-take-le, get_or-take, get_or-drop}
use Rattle.memchr.specs.Find.{Nowhere, NoneBefore, Passes, is_byte}
use Rattle.ff_rec.specs.Pieces.{Lacks}
use Rattle.ff_rec.specs.Block.{IsFieldEnd}
use Rattle.ff_rec.proofs.Cuts.{Lacks-take}

module _ (d room : List ℕ) (len start : ℕ) (filled : len ≤ length d) (inside : start ≤ len) (is_room : room ≡ drop start d) where
  -- the filled part from `start` on
  from-start : (k : ℕ) → start + k ≤ len → take k (drop start (take len d)) ≡ take k (drop start d)
  from-start k low =
      let m = len - start in
      let whole : start + m ≡ len = omega (arith, inside) in
      ap (λ n. take k (drop start (take n d))) (sym whole) ∙ ap (take k) (drop-take start m d) ∙ take-take k m (drop start d) (omega (arith, low))

  -- no tab stands among the first bytes from `start` on
  clean : (k : ℕ) → start + k ≤ len → Nowhere (Passes (is_byte 9) room) 0 k → Lacks 9 (take k (drop start (take len d)))
  clean k low none = subst (Lacks 9) (ap (take k) is_room ∙ sym (from-start k low)) (Lacks-take 9 room k none)

  long : length (take len d) ≡ len
  long = length-take-le len d filled

  -- a tab that is found ends the field, if it isn't behind the filled part
  pub IsFieldEnd-found : (at n end : ℕ) → NoneBefore (Passes (is_byte 9) room) 0 n at → Passes (is_byte 9) room at
      → end ≡ min len (start + at) → IsFieldEnd (take len d) start end
  IsFieldEnd-found at n end first here is = record {
    order = omega (arith, is, inside);
    within = omega (arith, is, long);
    clean = clean (end - start) (omega (arith, is, inside)) (λ k from to. first.before k from (omega (arith, is, inside, to)));
    tab = λ more.
        let place : end ≡ start + at = omega (arith, is, long, more) in
        get_or-take len d end 0 (omega (arith, long, more)) ∙ ap (λ k. get_or d k 0) place ∙ sym (get_or-drop start d at 0) ∙ ap (λ q. get_or q at 0) (sym is_room) ∙ eqb-true _ 9 here;
  }

  -- without a tab it ends with the filled part
  pub IsFieldEnd-all : (n : ℕ) → len ≤ start + n → Nowhere (Passes (is_byte 9) room) 0 n → IsFieldEnd (take len d) start len
  IsFieldEnd-all n low none = record {
    order = inside;
    within = omega (arith, long);
    clean = clean (len - start) (omega (arith, inside)) (λ k from to. none k from (omega (arith, low, to)));
    tab = λ more. absurd (omega (arith, long, more));
  }
