-- The tasks that are to come, from part to part.
use Rattle.std.proofs.Common.{◌≡◌, ℕ, ◌+◌, ◌≤◌, inl, inr, List, [], ◌∷◌, ◌++◌, Some, refl, ap, ◌∙◌, sym, append_assoc, append-nil, arith}
use Rattle.std.proofs.lemmas.Bool.{cond-true, cond-false, le-leb, lt-leb}
use Rattle.ff_rec.specs.Weights.{weigh}
use Rattle.ff_rec.proofs.WeightLaws.{weigh-append}
use Rattle.ff_dc.specs.Divisions.{Division, Whole, Cut, part_count, part_at}
use Rattle.ff_dc.proofs.PartsAt.{where_part, only_part}
use Rattle.ff_dc_tasks.specs.declared.task.DcTask.{DcTask}
use Rattle.ff_dc_tasks.specs.declared.task.DcTask.TheVariants.{Seq}
use Rattle.ff_dc_tasks.specs.Walks.{seqs_after}

-- two lists in a row, where both are others
pub append-both : {A : Type 0} {xs ys us vs : List A} → xs ≡ us → ys ≡ vs → xs ++ ys ≡ us ++ vs
append-both {A} {xs} {ys} {us} {vs} a b = ap (λ l. l ++ ys) a ∙ ap (λ l. us ++ l) b

-- before all parts it makes no difference where
pub seqs_after-early : (n m k : ℕ) (d : Division) → n ≤ k → m ≤ k → seqs_after n k d ≡ seqs_after m k d
seqs_after-early n m k (Whole p) a b = cond-true _ _ _ (le-leb n k a) ∙ sym (cond-true _ _ _ (le-leb m k b))
seqs_after-early n m k (Cut p l r) a b =
    append-both (seqs_after-early n m (k + 1) l (omega arith) (omega arith)) (seqs_after-early n m (k + 1 + part_count l) r (omega arith) (omega arith))

-- behind all parts nothing is to come
pub seqs_after-late : (n k : ℕ) (d : Division) → k + part_count d ≤ n → seqs_after n k d ≡ []
seqs_after-late n k (Whole p) h = cond-false _ _ _ (lt-leb n k (omega arith))
seqs_after-late n k (Cut p l r) h =
    append-both (seqs_after-late n (k + 1) l (omega arith)) (seqs_after-late n (k + 1 + part_count l) r (omega arith))

-- the task of a part that isn't divided
abbrev pub seq_of : ℕ → Division → List DcTask
seq_of n (Whole p) = Seq n p ∷ []
seq_of n (Cut p l r) = []

-- the task of the first part comes first
pub seqs_after-next : (n k m : ℕ) (d e : Division) → n ≡ k + m → part_at d m ≡ Some e → seqs_after n k d ≡ seq_of n e ++ seqs_after (n + 1) k d
seqs_after-next n k m (Whole p) e is at =
    let o = only_part p m e at in
    cond-true _ _ _ (le-leb n k (omega (arith, is, o.0)))
    ∙ ap (λ (i : ℕ). Seq i p ∷ []) (let s : k ≡ n = omega (arith, is, o.0) in s)
    ∙ ap (λ (f : Division). seq_of n f) o.1
    ∙ sym (append-nil (seq_of n e))
    ∙ ap (λ l. seq_of n e ++ l) (sym (cond-false _ _ _ (lt-leb (n + 1) k (omega (arith, is, o.0)))))
seqs_after-next n k m (Cut p l r) e is at =
    elim (where_part p l r m e at) [
      | inl h ↦
          append-both
          (seqs_after-early n (n + 1) (k + 1) l (omega (arith, is, h.0)) (omega (arith, is, h.0)))
          (seqs_after-early n (n + 1) (k + 1 + part_count l) r (omega (arith, is, h.0)) (omega (arith, is, h.0)))
          ∙ ap (λ (f : Division). seq_of n f ++ seqs_after (n + 1) k (Cut p l r)) h.1
      | inr o ↦ elim o [
        | inl h ↦
            append-both
            (seqs_after-next n (k + 1) h.0 l e (omega (arith, is, h.1)) h.3)
            (seqs_after-early n (n + 1) (k + 1 + part_count l) r (omega (arith, is, h.1, h.2)) (omega (arith, is, h.1, h.2)))
            ∙ append_assoc (seq_of n e) (seqs_after (n + 1) (k + 1) l) (seqs_after (n + 1) (k + 1 + part_count l) r)
        | inr h ↦
            append-both
            (seqs_after-late n (k + 1) l (omega (arith, is, h.1)))
            (seqs_after-next n (k + 1 + part_count l) h.0 r e (omega (arith, is, h.1)) h.2)
            ∙ ap (λ l'. seq_of n e ++ l') (sym (append-both (seqs_after-late (n + 1) (k + 1) l (omega (arith, is, h.1))) refl))
      ]
    ]

-- from the beginning there is something to come
pub seqs_after-some : (n k : ℕ) (d : Division) → n ≤ k → 1 ≤ weigh (λ _. 1) (seqs_after n k d)
seqs_after-some n k (Whole p) h = omega (arith, ap (weigh (λ _. 1)) (cond-true _ (Seq k p ∷ []) [] (le-leb n k h)))
seqs_after-some n k (Cut p l r) h =
    omega (arith, weigh-append (λ _. 1) (seqs_after n (k + 1) l) (seqs_after n (k + 1 + part_count l) r), seqs_after-some n (k + 1) l (omega arith))

-- before a part there is something to come
pub seqs_after-more : (n k m : ℕ) (d e : Division) → n ≡ k + m → part_at d m ≡ Some e → 1 ≤ weigh (λ _. 1) (seqs_after n k d)
seqs_after-more n k m (Whole p) e is at = seqs_after-some n k (Whole p) (omega (arith, is, (only_part p m e at).0))
seqs_after-more n k m (Cut p l r) e is at =
    let both = weigh-append (λ _. 1) (seqs_after n (k + 1) l) (seqs_after n (k + 1 + part_count l) r) in
    elim (where_part p l r m e at) [
      | inl h ↦ seqs_after-some n k (Cut p l r) (omega (arith, is, h.0))
      | inr o ↦ elim o [
        | inl h ↦ omega (arith, both, seqs_after-more n (k + 1) h.0 l e (omega (arith, is, h.1)) h.3)
        | inr h ↦ omega (arith, both, seqs_after-more n (k + 1 + part_count l) h.0 r e (omega (arith, is, h.1)) h.2)
      ]
    ]
