-- How work goes on: one stretch behind another, a stretch at which it comes to a halt.
use Rattle.std.proofs.Common.{◌≡◌, ℕ, List, [], ◌++◌, refl, sym, ap, ◌∙◌, inl, inr, append_assoc, append-nil, subst}
use Rattle.std.specs.Prelude.{Option}
use Rattle.std.specs.Io.KnownBytes.{Appends}
use Rattle.std.proofs.KnownBytes.{Appends-nil, Appends-trans}
use Rattle.ff_rec.specs.Lines.{Rec}
use Rattle.ff_stream.specs.Jobs.{Job}
use Rattle.ff_stream.specs.Works.{Goes, IsOpen, Left, Halts, Drops}
use Rattle.ff_stream.specs.declared.fault.Halt.{Halt}
use Rattle.ff_stream.specs.declared.fault.Halt.TheVariants.{NoMemory}

module _ {N W : Type 0} (stands : Job N → W → List Rec → List ℕ → Type 0) where
  stands-at : (j : Job N) (w : W) (xs ys : List Rec) (front more : List ℕ) → xs ≡ ys → front ≡ more → stands j w xs front → stands j w ys more
  stands-at j w xs ys front more same equal at = subst (λ l. stands j w l more) same (subst (λ l. stands j w xs l) equal at)

  -- nothing was done
  pub Goes-refl : (w : W) (t : Option (List ℕ)) → Goes stands w [] w t t
  Goes-refl w t = record {
    put = [];
    taken = Appends-nil t;
    keeps = λ j xs front at. stands-at j w xs (xs ++ []) front (front ++ []) (sym (append-nil xs)) (sym (append-nil front)) at;
  }

  -- one stretch behind another
  pub Goes-trans : (w v u : W) (rs ss : List Rec) (t t' t'' : Option (List ℕ)) → Goes stands w rs v t t' → Goes stands v ss u t' t'' → Goes stands w (rs ++ ss) u t t''
  Goes-trans w v u rs ss t t' t'' first second = record {
    put = first.put ++ second.put;
    taken = Appends-trans t t' t'' first.put second.put first.taken second.taken;
    keeps = λ j xs front at. stands-at j u ((xs ++ rs) ++ ss) (xs ++ (rs ++ ss)) ((front ++ first.put) ++ second.put) (front ++ (first.put ++ second.put))
        (append_assoc xs rs ss) (append_assoc front first.put second.put)
        (second.keeps j (xs ++ rs) (front ++ first.put) (first.keeps j xs front at));
  }

  -- of the same records
  pub Goes-from : (w v : W) (rs ss : List Rec) (t u : Option (List ℕ)) → rs ≡ ss → Goes stands w rs v t u → Goes stands w ss v t u
  Goes-from w v rs ss t u is goes = subst (λ l. Goes stands w l v t u) is goes

  -- records that are dropped
  pub Goes-drops : (w : W) (rs : List Rec) (t : Option (List ℕ)) → Drops stands w → Goes stands w rs w t t
  Goes-drops w rs t drops = record {
    put = [];
    taken = Appends-nil t;
    keeps = λ j xs front at. stands-at j w (xs ++ rs) (xs ++ rs) front (front ++ []) refl (sym (append-nil front)) (drops j xs rs front at);
  }

module _ {N W : Type 0} (stands : Job N → W → List Rec → List ℕ → Type 0) (halted : Job N → W → Halt → List Rec → List ℕ → Type 0) where
  -- of the same records and bytes
  Left-at : (j : Job N) (v : W) (halt : Halt) (xs ys : List Rec) (front more : List ℕ) → xs ≡ ys → front ≡ more
      → Left stands halted j v halt xs front → Left stands halted j v halt ys more
  Left-at j v halt xs ys front more same equal left =
      subst (λ l. Left stands halted j v halt l more) same (subst (λ l. Left stands halted j v halt xs l) equal left)

  -- of the same records
  pub Halts-from : (w v : W) (rs ss : List Rec) (halt : Halt) (t u : Option (List ℕ)) → rs ≡ ss → Halts stands halted w rs halt v t u → Halts stands halted w ss halt v t u
  Halts-from w v rs ss halt t u is halts = subst (λ l. Halts stands halted w l halt v t u) is halts

  -- one stretch, and another at which it came to a halt
  pub Halts-after : (w v u : W) (rs ss : List Rec) (halt : Halt) (t t' t'' : Option (List ℕ)) → Goes stands w rs v t t' → Halts stands halted v ss halt u t' t''
      → Halts stands halted w (rs ++ ss) halt u t t''
  Halts-after w v u rs ss halt t t' t'' goes halts = record {
    put = goes.put ++ halts.put;
    taken = Appends-trans t t' t'' goes.put halts.put goes.taken halts.taken;
    first = rs ++ halts.first;
    rest = halts.rest;
    splits = ap (λ l. rs ++ l) halts.splits ∙ sym (append_assoc rs halts.first halts.rest);
    leaves = λ j xs front at. Left-at j u halt ((xs ++ rs) ++ halts.first) (xs ++ (rs ++ halts.first)) ((front ++ goes.put) ++ halts.put) (front ++ (goes.put ++ halts.put))
        (append_assoc xs rs halts.first) (append_assoc front goes.put halts.put)
        (halts.leaves j (xs ++ rs) (front ++ goes.put) (goes.keeps j xs front at));
  }

  -- more records behind
  pub Halts-more : (w v : W) (rs more : List Rec) (halt : Halt) (t u : Option (List ℕ)) → Halts stands halted w rs halt v t u → Halts stands halted w (rs ++ more) halt v t u
  Halts-more w v rs more halt t u halts = record {
    put = halts.put;
    taken = halts.taken;
    first = halts.first;
    rest = halts.rest ++ more;
    splits = ap (λ l. l ++ more) halts.splits ∙ append_assoc halts.first halts.rest more;
    leaves = halts.leaves;
  }

  -- memory ran out between two records
  pub Halts-memory : (w : W) (rs : List Rec) (t : Option (List ℕ)) → Halts stands halted w rs NoMemory w t t
  Halts-memory w rs t = record {
    put = [];
    taken = Appends-nil t;
    first = [];
    rest = rs;
    splits = refl;
    leaves = λ j xs front at. inl (refl, stands-at stands j w xs (xs ++ []) front (front ++ []) (sym (append-nil xs)) (sym (append-nil front)) at);
  }

  -- it broke off behind all of these records
  pub Halts-broken : (w v : W) (rs : List Rec) (halt : Halt) (put : List ℕ) (t u : Option (List ℕ)) → Appends t u put
      → ((j : Job N) (xs : List Rec) (front : List ℕ) → stands j w xs front → halted j v halt (xs ++ rs) (front ++ put)) → Halts stands halted w rs halt v t u
  Halts-broken w v rs halt put t u written broken = record {
    put = put;
    taken = written;
    first = rs;
    rest = [];
    splits = sym (append-nil rs);
    leaves = λ j xs front at. inr (broken j xs front at);
  }

  -- work that was given up
  module _ (v : W) (stood : (j : Job N) (xs : List Rec) (front : List ℕ) → stands j v xs front → IsOpen j NoMemory xs front)
      (broke : (j : Job N) (halt : Halt) (xs : List Rec) (front : List ℕ) → halted j v halt xs front → IsOpen j halt xs front) where
    pub IsOpen-left : (j : Job N) (halt : Halt) (xs : List Rec) (front : List ℕ) → Left stands halted j v halt xs front → IsOpen j halt xs front
    IsOpen-left j halt xs front (inl left) = subst (λ h. IsOpen j h xs front) (sym left.0) (stood j xs front left.1)
    IsOpen-left j halt xs front (inr left) = broke j halt xs front left
