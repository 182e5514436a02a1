-- How far a source was read, and what came of it.
use Rattle.std.proofs.Common.{◌≡◌, ℕ, ◌+◌, ◌≤◌, List, [], ◌∷◌, ◌++◌, length, append_assoc, refl, sym, ap, ◌∙◌, append-nil, subst, take, drop, take-append-drop, None, Some}
use Rattle.std.specs.Prelude.{Option}
use Rattle.std.specs.Io.KnownBytes.{Consumes, Keeps}
use Rattle.std.proofs.KnownBytes.{Consumes-nil, Consumes-trans, Consumes-kept}
use Rattle.ff_rec.specs.declared.fault.FeedFault.{FeedFault}
use Rattle.ff_rec.specs.declared.fault.FeedFault.TheVariants.{Line as Passed}
use Rattle.ff_rec.specs.declared.fault.LineFault.{LineFault}
use Rattle.ff_rec.specs.Lines.{Rec}
use Rattle.ff_rec.specs.Reading.{Reading, next, gives, after, given}
use Rattle.ff_rec.specs.ReadingLaws.{after-append, given-append}
use Rattle.ff_stream.specs.Jobs.{Job}
use Rattle.ff_stream.specs.Reads.{HasTaken, Reads, ReadsSome, Hands}
use Rattle.ff_stream.specs.Works.{Goes, Halts}
use Rattle.ff_stream.specs.declared.fault.Halt.{Halt}
use Rattle.ff_stream.proofs.Goings.{Goes-refl, Goes-trans, Goes-from, Halts-after, Halts-from, Halts-more}

-- the records of two stretches of bytes
given-two : (r s : Reading) (got piece : List ℕ) → s ≡ after r got → given r got ++ given s piece ≡ given r (got ++ piece)
given-two r s got piece is = ap (λ (t : Reading). given r got ++ given t piece) is ∙ sym (given-append r got piece)

-- a part of a piece and what stands behind it
pub Consumes-part : (rest part behind : List ℕ) (n : ℕ) → part ≡ take n rest → behind ≡ drop n rest → Consumes (Some rest) (Some behind) part
Consumes-part rest part behind n front back = sym (take-append-drop n rest) ∙ ap (λ l. l ++ drop n rest) (sym front) ∙ ap (λ l. part ++ l) (sym back)

pub Consumes-all : (rest : List ℕ) → Consumes (Some rest) (Some []) rest
Consumes-all rest = sym (append-nil rest)

-- behind a refusal nothing is read
after-stays : (s : Reading) (f : FeedFault) (bs : List ℕ) → s.fault ≡ Some f → after s bs ≡ s
after-stays s f [] is = refl
after-stays s f (b ∷ bs) is = ap (λ (o : Option FeedFault). after (next o s b) bs) is ∙ after-stays s f bs is

given-stays : (s : Reading) (f : FeedFault) (bs : List ℕ) → s.fault ≡ Some f → given s bs ≡ []
given-stays s f [] is = refl
given-stays s f (b ∷ bs) is = ap (λ (o : Option FeedFault). gives o s b ++ given (next o s b) bs) is ∙ given-stays s f bs is

none-some : {A B : Type 0} (x : A) (fault : Option A) → fault ≡ Some x → fault ≡ None → B
none-some x fault is none = absurd (let both : Some x ≡ None = sym is ∙ none in cc)

-- all of a piece was read, or of the rest of one
pub HasTaken-after : (r s next : Reading) (got piece rest : List ℕ) (fault : Option LineFault) → piece ≡ got ++ rest → s ≡ after r got
    → s.taken + length rest ≡ r.taken + length piece → s.input_limit ≡ r.input_limit → HasTaken s next rest fault → HasTaken r next piece fault
HasTaken-after r s next got piece rest fault splits reader count limit took = record {
  state = took.state ∙ ap (λ (q : Reading). after q rest) reader ∙ sym (after-append r got rest) ∙ sym (ap (after r) splits);
  refusal = took.refusal;
  taken = λ none. took.taken none ∙ count;
  room = λ none. subst (λ n. next.taken ≤ n) limit (took.room none);
}

-- a limit was passed in a part of it
pub HasTaken-stopped : (r s next : Reading) (got piece part behind : List ℕ) (fault : LineFault) → piece ≡ got ++ (part ++ behind) → s ≡ after r got
    → HasTaken s next part (Some fault) → HasTaken r next piece (Some fault)
HasTaken-stopped r s next got piece part behind fault splits reader took = record {
  state = sym (
      ap (after r) splits ∙ after-append r got (part ++ behind) ∙ ap (λ (q : Reading). after q (part ++ behind)) (sym reader)
      ∙ after-append s part behind ∙ ap (λ (q : Reading). after q behind) (sym took.state) ∙ after-stays next (Passed fault) behind took.refusal);
  refusal = took.refusal;
  taken = λ none. none-some fault (Some fault) refl none;
  room = λ none. none-some fault (Some fault) refl none;
}

module _ {N W : Type 0} (stands : Job N → W → List Rec → List ℕ → Type 0) where
  -- nothing was read yet
  pub Reads-none : (w : W) (r : Reading) (l t : Option (List ℕ)) → Reads stands w r w r l l t t
  Reads-none w r l t = record { got = []; reads = Consumes-nil l; reader = refl; goes = Goes-refl stands w t }

  -- a read that failed
  pub Reads-kept : (w v : W) (r s : Reading) (l m n t u : Option (List ℕ)) → Reads stands w r v s l m t u → Keeps m n → Reads stands w r v s l n t u
  Reads-kept w v r s l m n t u so_far kept =
      record { got = so_far.got; reads = Consumes-kept l m n so_far.got so_far.reads kept; reader = so_far.reader; goes = so_far.goes }

  -- a read that gave nothing
  pub Reads-nothing : (w v : W) (r s : Reading) (l m n t u : Option (List ℕ)) (piece : List ℕ) → Reads stands w r v s l m t u → Consumes m n piece → piece ≡ []
      → Reads stands w r v s l n t u
  Reads-nothing w v r s l m n t u piece so_far read empty = record {
    got = so_far.got;
    reads = subst (Consumes l n) (ap (λ p. so_far.got ++ p) empty ∙ append-nil so_far.got) (Consumes-trans l m n so_far.got piece so_far.reads read);
    reader = so_far.reader;
    goes = so_far.goes;
  }

  -- a piece more
  pub Reads-piece : (w v u : W) (r s next : Reading) (l m n t t' t'' : Option (List ℕ)) (piece : List ℕ) → Reads stands w r v s l m t t' → Consumes m n piece
      → next ≡ after s piece → Goes stands v (given s piece) u t' t'' → Reads stands w r u next l n t t''
  Reads-piece w v u r s next l m n t t' t'' piece so_far read state goes = record {
    got = so_far.got ++ piece;
    reads = Consumes-trans l m n so_far.got piece so_far.reads read;
    reader = state ∙ ap (λ (q : Reading). after q piece) so_far.reader ∙ sym (after-append r so_far.got piece);
    goes = Goes-from stands w u (given r so_far.got ++ given s piece) (given r (so_far.got ++ piece)) t t'' (given-two r s so_far.got piece so_far.reader)
        (Goes-trans stands w v u (given r so_far.got) (given s piece) t t' t'' so_far.goes goes);
  }

  -- a pause behind it
  pub Reads-paused : (w v u : W) (r s : Reading) (l m t t' t'' : Option (List ℕ)) → Reads stands w r v s l m t t' → Goes stands v [] u t' t'' → Reads stands w r u s l m t t''
  Reads-paused w v u r s l m t t' t'' so_far goes = record {
    got = so_far.got;
    reads = so_far.reads;
    reader = so_far.reader;
    goes = Goes-from stands w u (given r so_far.got ++ []) (given r so_far.got) t t'' (append-nil (given r so_far.got))
        (Goes-trans stands w v u (given r so_far.got) [] t t' t'' so_far.goes goes);
  }

  -- all of a piece was read, and of what stands behind it no byte counts
  pub Goes-whole : (w v : W) (r s : Reading) (piece rest : List ℕ) (t u : Option (List ℕ)) → Reads stands w r v s (Some piece) (Some rest) t u → rest ≡ []
      → Goes stands w (given r piece) v t u
  Goes-whole w v r s piece rest t u so_far empty =
      Goes-from stands w v (given r so_far.got) (given r piece) t u
      (ap (given r) (sym (so_far.reads ∙ ap (λ l. so_far.got ++ l) empty ∙ append-nil so_far.got))) so_far.goes

  -- a refusal within a piece is one of the piece
  pub Goes-stopped : (w v : W) (r s : Reading) (piece rest : List ℕ) (t u : Option (List ℕ)) (f : FeedFault) → Reads stands w r v s (Some piece) (Some rest) t u
      → s.fault ≡ Some f → Goes stands w (given r piece) v t u
  Goes-stopped w v r s piece rest t u f so_far stopped =
      let whole : given r piece ≡ given r so_far.got =
      ap (given r) so_far.reads ∙ given-append r so_far.got rest ∙ ap (λ (q : Reading). given r so_far.got ++ given q rest) (sym so_far.reader)
      ∙ ap (λ (l : List Rec). given r so_far.got ++ l) (given-stays s f rest stopped) ∙ append-nil (given r so_far.got) in
      Goes-from stands w v (given r so_far.got) (given r piece) t u (sym whole) so_far.goes

  -- none of these records was taken yet
  pub Hands-none : (w : W) (rs : List Rec) (t : Option (List ℕ)) → Hands stands w rs w rs t t
  Hands-none w rs t = record { first = []; splits = refl; goes = Goes-refl stands w t }

  -- one more was
  pub Hands-more : (w v u : W) (rs rest others : List Rec) (x : Rec) (t t' t'' : Option (List ℕ)) → Hands stands w rs v rest t t' → rest ≡ x ∷ others
      → Goes stands v (x ∷ []) u t' t'' → Hands stands w rs u others t t''
  Hands-more w v u rs rest others x t t' t'' so_far is goes = record {
    first = so_far.first ++ x ∷ [];
    splits = so_far.splits ∙ ap (λ l. so_far.first ++ l) is ∙ sym (append_assoc so_far.first (x ∷ []) others);
    goes = Goes-trans stands w v u so_far.first (x ∷ []) t t' t'' so_far.goes goes;
  }

  -- all were
  pub Goes-hands : (w v : W) (rs rest : List Rec) (t u : Option (List ℕ)) → Hands stands w rs v rest t u → rest ≡ [] → Goes stands w rs v t u
  Goes-hands w v rs rest t u so_far empty =
      Goes-from stands w v so_far.first rs t u (sym (so_far.splits ∙ ap (λ l. so_far.first ++ l) empty ∙ append-nil so_far.first)) so_far.goes

module _ {N W : Type 0} (stands : Job N → W → List Rec → List ℕ → Type 0) (halted : Job N → W → Halt → List Rec → List ℕ → Type 0) where
  -- a piece at which it came to a halt
  pub ReadsSome-piece : (w v u : W) (r s : Reading) (halt : Halt) (l m n t t' t'' : Option (List ℕ)) (piece : List ℕ) → Reads stands w r v s l m t t' → Consumes m n piece
      → Halts stands halted v (given s piece) halt u t' t'' → ReadsSome stands halted w r halt u l n t t''
  ReadsSome-piece w v u r s halt l m n t t' t'' piece so_far read halts = record {
    got = so_far.got ++ piece;
    reads = Consumes-trans l m n so_far.got piece so_far.reads read;
    halts = Halts-from stands halted w u (given r so_far.got ++ given s piece) (given r (so_far.got ++ piece)) halt t t'' (given-two r s so_far.got piece so_far.reader)
        (Halts-after stands halted w v u (given r so_far.got) (given s piece) halt t t' t'' so_far.goes halts);
  }

  -- a pause at which it did
  pub ReadsSome-paused : (w v u : W) (r s : Reading) (halt : Halt) (l m t t' t'' : Option (List ℕ)) → Reads stands w r v s l m t t' → Halts stands halted v [] halt u t' t''
      → ReadsSome stands halted w r halt u l m t t''
  ReadsSome-paused w v u r s halt l m t t' t'' so_far halts = record {
    got = so_far.got;
    reads = so_far.reads;
    halts = Halts-from stands halted w u (given r so_far.got ++ []) (given r so_far.got) halt t t'' (append-nil (given r so_far.got))
        (Halts-after stands halted w v u (given r so_far.got) [] halt t t' t'' so_far.goes halts);
  }

  -- what came to a halt within a piece
  pub Halts-part : (w v : W) (r : Reading) (halt : Halt) (piece rest : List ℕ) (t u : Option (List ℕ)) → ReadsSome stands halted w r halt v (Some piece) (Some rest) t u
      → Halts stands halted w (given r piece) halt v t u
  Halts-part w v r halt piece rest t u so_far =
      Halts-from stands halted w v (given r so_far.got ++ given (after r so_far.got) rest) (given r piece) halt t u
      (sym (ap (given r) so_far.reads ∙ given-append r so_far.got rest))
      (Halts-more stands halted w v (given r so_far.got) (given (after r so_far.got) rest) halt t u so_far.halts)

  -- it came to a halt at the next of these records
  pub Halts-hands : (w v u : W) (rs rest others : List Rec) (x : Rec) (halt : Halt) (t t' t'' : Option (List ℕ)) → Hands stands w rs v rest t t' → rest ≡ x ∷ others
      → Halts stands halted v (x ∷ []) halt u t' t'' → Halts stands halted w rs halt u t t''
  Halts-hands w v u rs rest others x halt t t' t'' so_far is halts =
      Halts-from stands halted w u ((so_far.first ++ x ∷ []) ++ others) rs halt t t''
      (append_assoc so_far.first (x ∷ []) others ∙ ap (λ l. so_far.first ++ l) (sym is) ∙ sym so_far.splits)
      (Halts-more stands halted w u (so_far.first ++ x ∷ []) others halt t t'' (Halts-after stands halted w v u so_far.first (x ∷ []) halt t t' t'' so_far.goes halts))
