-- Pieces that a sink takes one behind another.
use Rattle.std.proofs.Common.{◌≡◌, ℕ, List, ◌++◌, Option, sym, ap, subst, ◌∙◌, append_assoc}
use Rattle.std.specs.Io.KnownBytes.{Appends}
use Rattle.std.specs.Prelude.{Result, Ok, Err, OnOk}
use Rattle.std.proofs.KnownBytes.{Appends-trans}
use Rattle.ff_io.specs.Bytes.{AppendsPrefix}
use Rattle.ff_io.specs.Faults.{count_after}
use Rattle.ff_call.specs.Messages.{Writes}

-- what is a prefix of bytes is one of more bytes
AppendsPrefix-more : (a b : Option (List ℕ)) (xs ys : List ℕ) → AppendsPrefix a b xs → AppendsPrefix a b (xs ++ ys)
AppendsPrefix-more a b xs ys h = record {
  front = h.front;
  back = h.back ++ ys;
  splits = ap (λ zs. zs ++ ys) h.splits ∙ append_assoc h.front h.back ys;
  appends = h.appends;
}

-- a prefix behind a whole piece
AppendsPrefix-then : (a b c : Option (List ℕ)) (xs ys : List ℕ) → Appends a b xs → AppendsPrefix b c ys → AppendsPrefix a c (xs ++ ys)
AppendsPrefix-then a b c xs ys whole h = record {
  front = xs ++ h.front;
  back = h.back;
  splits = ap (λ zs. xs ++ zs) h.splits ∙ sym (append_assoc xs h.front h.back);
  appends = Appends-trans a b c xs h.front whole h.appends;
}

OnOk-then : {A E : Type 0} (r : Result A E) (a b c : Option (List ℕ)) (xs ys : List ℕ) → Appends a b xs → OnOk r (Appends b c ys) → OnOk r (Appends a c (xs ++ ys))
OnOk-then (Ok x) a b c xs ys whole h = Appends-trans a b c xs ys whole h
OnOk-then (Err e) a b c xs ys whole h = tt

module _ {A E : Type 0} where
  -- a piece failed, so that those behind it weren't written
  pub Writes-stopped : {B : Type 0} (a b : Option (List ℕ)) (fa fb : ℕ) (xs ys : List ℕ) (r : Result A E) (e d : E) → r ≡ Err d
      → Writes {A = B} {E = E} a b fa fb xs (Err e) → Writes a b fa fb (xs ++ ys) r
  Writes-stopped a b fa fb xs ys r e d is w = subst (λ (q : Result A E). Writes a b fa fb (xs ++ ys) q) (sym is) (record {
    all = tt;
    front = AppendsPrefix-more a b xs ys w.front;
    counts = w.counts;
  })

  -- a piece behind another
  pub Writes-then : {B : Type 0} (a b c : Option (List ℕ)) (fa fb fc : ℕ) (xs ys : List ℕ) (x : B) (r : Result A E)
      → Writes {E = E} a b fa fb xs (Ok x) → Writes b c fb fc ys r → Writes a c fa fc (xs ++ ys) r
  Writes-then a b c fa fb fc xs ys x r first second = record {
    all = OnOk-then r a b c xs ys first.all second.all;
    front = AppendsPrefix-then a b c xs ys first.all second.front;
    counts = second.counts ∙ ap (λ n. count_after n r) first.counts;
  }
