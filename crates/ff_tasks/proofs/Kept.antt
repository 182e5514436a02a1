-- What a worker took and put, message by message.
use Rattle.std.proofs.Common.{◌≡◌, ℕ, ◌+◌, List, [], ◌∷◌, ◌++◌, length, map, refl, sym, ap, ap₂, subst, ◌∙◌, arith, length-append, append-nil, inl, inr, ◌⊎◌}
use Rattle.std.proofs.lemmas.List.{map-append}
use Rattle.ff_rec.specs.declared.msg.Msg.{Msg}
use Rattle.ff_rec.specs.declared.msg.Msg.TheVariants.{Item, Mark, Pick, Eos, Abort}
use Rattle.ff_rec.specs.Counts.{counted, more}
use Rattle.ff_rec.specs.Streams.{IsOpen, items, closed}
use Rattle.ff_unit.specs.MessageLaws.{IsOpen-append, items-append}
use Rattle.ff_port.specs.declared.answers.End.{End}
use Rattle.ff_port.specs.declared.answers.End.TheVariants.{Eos as EndEos, Abort as EndAbort, Memory as EndMemory}
use Rattle.ff_tasks.specs.Jobs.{Begins, HasKept, HasStopped, HasClosed, HasCutOff, HasEnded}
use Rattle.ff_tasks.proofs.Firsts.{Begins-same, Begins-trans, Begins-items, Begins-map}

-- what one message more carries
pub items-more : {T : Type 0} (ms ms' : List (Msg T)) (m : Msg T) (xs : List T) → ms' ≡ ms ++ m ∷ [] → items (m ∷ []) ≡ xs → items ms' ≡ items ms ++ xs
items-more ms ms' m xs more is = ap items more ∙ items-append ms (m ∷ []) ∙ ap (λ l. items ms ++ l) is

pub items-same : {T : Type 0} (ms ms' : List (Msg T)) (m : Msg T) → ms' ≡ ms ++ m ∷ [] → items (m ∷ []) ≡ [] → items ms' ≡ items ms
items-same ms ms' m more none = items-more ms ms' m [] more none ∙ append-nil (items ms)

module _ {T A : Type 0} (f : T → A) where
  -- nothing was taken
  pub HasKept-none : (got : List (Msg T)) (put : List (Msg A)) → got ≡ [] → put ≡ [] → HasKept f got put
  HasKept-none got put none none' = record {
    inner = open-none put none';
    all = ap items none' ∙ sym (ap (λ l. map f (items l)) none);
  }
    where
      open-none : (put : List (Msg A)) → put ≡ [] → IsOpen put
      open-none [] is = tt
      open-none (m ∷ ms) is = absurd (omega (arith, ap length is))

  -- a task was taken and answered
  pub HasKept-answered : (got got' : List (Msg T)) (put put' : List (Msg A)) (t : T) (a : A) → HasKept f got put → got' ≡ got ++ Item t ∷ [] → put' ≡ put ++ Item a ∷ [] → a ≡ f t
      → HasKept f got' put'
  HasKept-answered got got' put put' t a kept took said is = record {
    inner = subst (λ l. IsOpen l) (sym said) (IsOpen-append put (Item a ∷ []) kept.inner (tt, tt));
    all = items-more put put' (Item a) (a ∷ []) said refl ∙ ap₂ (λ l x. l ++ x ∷ []) kept.all is ∙ sym (map-append f (items got) (t ∷ []))
        ∙ ap (map f) (sym (items-more got got' (Item t) (t ∷ []) took refl));
  }

  -- a message was taken that carries nothing
  pub HasKept-other : (got got' : List (Msg T)) (put put' : List (Msg A)) → HasKept f got put → items got' ≡ items got → put' ≡ put → HasKept f got' put'
  HasKept-other got got' put put' kept same same' = record {
    inner = subst (λ l. IsOpen l) (sym same') kept.inner;
    all = ap items same' ∙ kept.all ∙ ap (map f) (sym same);
  }

  -- all are answered, so the first are
  pub first-kept : (got : List (Msg T)) (put : List (Msg A)) → items put ≡ map f (items got) → Begins (items put) (map f (items got))
  first-kept got put all = Begins-same (items put) (map f (items got)) (sym all)

  -- where it stopped, the first are answered
  pub first-stopped : (end : End) (got : List (Msg T)) (put : List (Msg A)) → HasStopped f end got put → Begins (items put) (map f (items got))
  first-stopped EndEos got put stopped = first-kept got put stopped.1
  first-stopped EndAbort got put stopped = stopped
  first-stopped EndMemory got put stopped = stopped

  -- and so they are where more was taken
  pub first-more : (got got' : List (Msg T)) (put : List (Msg A)) → Begins (items put) (map f (items got)) → Begins got got' → Begins (items put) (map f (items got'))
  first-more got got' put first begins =
      Begins-trans (items put) (map f (items got)) (map f (items got')) first (Begins-map f (items got) (items got') (Begins-items got got' begins))

  -- it ended at Eos
  pub HasEnded-closed : (got got' before : List (Msg T)) (put put' : List (Msg A)) → got ≡ closed before → items put ≡ map f (items got) → put' ≡ put ++ Eos ∷ [] → got' ≡ got
      → HasEnded f got' put'
  HasEnded-closed got got' before put put' taken all told same = inl (record {
    before = before;
    taken = same ∙ taken;
    said = put;
    told = told;
    all = items-same put put' Eos told refl ∙ all ∙ ap (λ l. map f (items l)) (sym same);
  })

  -- or was cut off
  pub HasEnded-cut : (got got' : List (Msg T)) (put put' : List (Msg A)) → Begins (items put) (map f (items got)) → put' ≡ put ++ Abort ∷ [] → Begins got got' → HasEnded f got' put'
  HasEnded-cut got got' put put' first told begins = inr (record {
    said = put;
    told = told;
    first = subst (λ l. Begins l (map f (items got'))) (sym (items-same put put' Abort told refl)) (first-more got got' put first begins);
  })

-- the count stays where no answer was put
pub counted-same : {A : Type 0} (put put' : List (Msg A)) (m : Msg A) (n : ℕ) → put' ≡ put ++ m ∷ [] → items (m ∷ []) ≡ [] → n ≡ counted (length (items put))
    → n ≡ counted (length (items put'))
counted-same put put' m n said none was = was ∙ ap (λ l. counted (length l)) (sym (items-same put put' m said none))

-- the count of answers, one more
pub counted-more : {A : Type 0} (put put' : List (Msg A)) (a : A) (n n' : ℕ) → put' ≡ put ++ Item a ∷ [] → n ≡ counted (length (items put)) → n' ≡ more n
    → n' ≡ counted (length (items put'))
counted-more put put' a n n' said was is =
    omega (arith, was, is, ap length (items-more put put' (Item a) (a ∷ []) said refl), length-append (items put) (a ∷ []))
