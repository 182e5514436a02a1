-- How the tasks of a division change as answers come back.
use Rattle.std.proofs.Common.{◌≡◌, ℕ, ◌+◌, ◌<◌, ◌≤◌, ◌⊎◌, inl, inr, List, [], ◌++◌, Option, Some, None, ℤ, refl, ap, ◌∙◌, sym, append-nil, arith}
use Rattle.std.proofs.lemmas.Bool.{cond-true, le-leb}
use Rattle.ff_rec.specs.Weights.{weigh}
use Rattle.ff_dc.specs.Spans.{Span}
use Rattle.ff_dc.specs.Divisions.{Division, Whole, Cut, part_count, part_at, Answers}
use Rattle.ff_dc.proofs.PartsAt.{part_count-positive, where_part, only_part, part_at-room}
use Rattle.ff_dc_tasks.specs.declared.task.DcTask.{DcTask}
use Rattle.ff_dc_tasks.specs.Tasks.{value_in, combines, tasks_from}
use Rattle.ff_dc_tasks.specs.Walks.{seqs_after}
use Rattle.ff_dc_tasks.proofs.Marks.{weigh-cut}
use Rattle.ff_dc_tasks.proofs.WalkTasks.{append-both}

-- before any answer only the parts that aren't divided have tasks
pub tasks_from-begun : (k : ℕ) (d : Division) → tasks_from k d [] ≡ seqs_after 0 k d
tasks_from-begun k (Whole p) = sym (cond-true _ _ _ (le-leb 0 k (omega arith)))
tasks_from-begun k (Cut p l r) =
    append-nil (tasks_from (k + 1) l [] ++ tasks_from (k + 1 + part_count l) r [])
    ∙ append-both (tasks_from-begun (k + 1) l) (tasks_from-begun (k + 1 + part_count l) r)

combines-same : (k : ℕ) (v w v' w' : Option (List ℤ)) → v' ≡ v → w' ≡ w → combines k v' w' ≡ combines k v w
combines-same k v w v' w' a b = ap (λ (x : Option (List ℤ)). combines k x w') a ∙ ap (λ (y : Option (List ℤ)). combines k v y) b

-- the tasks depend on the values of parts inside alone
pub tasks_from-same : (k : ℕ) (d : Division) (done done' : Answers)
    → ((j : ℕ) → k < j → j < k + part_count d → value_in done' j ≡ value_in done j) → tasks_from k d done' ≡ tasks_from k d done
tasks_from-same k (Whole p) done done' same = refl
tasks_from-same k (Cut p l r) done done' same =
    append-both
    (append-both
    (tasks_from-same (k + 1) l done done' (λ j a b. same j (omega (arith, a, b)) (omega (arith, a, b))))
    (tasks_from-same (k + 1 + part_count l) r done done' (λ j a b. same j (omega (arith, a, b)) (omega (arith, a, b)))))
    (combines-same
    k
    _
    _
    _
    _
    (same (k + 1) (omega arith) (omega (arith, part_count-positive l, part_count-positive r)))
    (same (k + 1 + part_count l) (omega arith) (omega (arith, part_count-positive l, part_count-positive r))))

pub combines-nothing : (k : ℕ) (v w : Option (List ℤ)) → ((v ≡ None) ⊎ (w ≡ None)) → combines k v w ≡ []
combines-nothing k None w none = refl
combines-nothing k (Some v) None none = refl
combines-nothing k (Some v) (Some w) none = elim none [
  | inl e ↦ absurd (cc)
  | inr e ↦ absurd (cc)
]

-- the values of a part that had none add what they and those of its other half combine to
pub tasks_from-more : (h : DcTask → ℕ) (k : ℕ) (d : Division) (i m n : ℕ) (p : Span) (l r : Division) (done done' : Answers)
    → i ≡ k + m → part_at d m ≡ Some (Cut p l r) → ((n ≡ i + 1) ⊎ (n ≡ i + 1 + part_count l))
    → ((j : ℕ) → (n ≡ j → ⊥) → value_in done' j ≡ value_in done j) → value_in done n ≡ None
    → weigh h (tasks_from k d done')
    ≡ weigh h (tasks_from k d done) + weigh h (combines i (value_in done' (i + 1)) (value_in done' (i + 1 + part_count l)))
tasks_from-more h k (Whole q) i m n p l r done done' is at side same none = absurd (let e : Whole q ≡ Cut p l r = (only_part q m (Cut p l r) at).1 in cc)
tasks_from-more h k (Cut q a b) i m n p l r done done' is at side same none =
    let least : i + 1 ≤ n = elim side [ inl s ↦ omega (arith, s) | inr s ↦ omega (arith, s) ] in
    let most : n ≤ i + 1 + part_count l = elim side [ inl s ↦ omega (arith, s) | inr s ↦ omega (arith, s) ] in
    let old = weigh-cut h k a b done in
    let new = weigh-cut h k a b done' in
    elim (where_part q a b m (Cut p l r) at) [
      | inl e ↦
          let first : i ≡ k = omega (arith, is, e.0) in
          let cut : Cut q a b ≡ Cut p l r = e.1 in
          let left : a ≡ l = cc in
          let edges : (n ≡ k + 1) ⊎ (n ≡ k + 1 + part_count a) = elim side [
            | inl s ↦ inl (omega (arith, s, first))
            | inr s ↦ inr (omega (arith, s, first, ap part_count left))
          ] in
          let in_left : tasks_from (k + 1) a done' ≡ tasks_from (k + 1) a done =
          tasks_from-same (k + 1) a done done' (λ j x y. same j (λ s. elim edges [ inl t ↦ omega (arith, s, t, x, y) | inr t ↦ omega (arith, s, t, x, y) ])) in
          let in_right : tasks_from (k + 1 + part_count a) b done' ≡ tasks_from (k + 1 + part_count a) b done =
          tasks_from-same (k + 1 + part_count a) b done done' (λ j x y. same j (λ s. elim edges [ inl t ↦ omega (arith, s, t, x, y) | inr t ↦ omega (arith, s, t, x, y) ])) in
          let nothing : combines k (value_in done (k + 1)) (value_in done (k + 1 + part_count a)) ≡ [] =
          combines-nothing k _ _ (elim edges [
            | inl t ↦ inl (ap (λ (j : ℕ). value_in done j) (sym t) ∙ none)
            | inr t ↦ inr (ap (λ (j : ℕ). value_in done j) (sym t) ∙ none)
          ]) in
          let here : combines k (value_in done' (k + 1)) (value_in done' (k + 1 + part_count a))
          ≡ combines i (value_in done' (i + 1)) (value_in done' (i + 1 + part_count l)) =
          ap (λ (j : ℕ). combines j (value_in done' (j + 1)) (value_in done' (j + 1 + part_count a))) (sym first)
          ∙ ap (λ (f : Division). combines i (value_in done' (i + 1)) (value_in done' (i + 1 + part_count f))) left in
          omega (arith, old, new, ap (weigh h) in_left, ap (weigh h) in_right, ap (weigh h) nothing, ap (weigh h) here)
      | inr o ↦ elim o [
        | inl e ↦
            let room = part_at-room a e.0 (Cut p l r) e.3 in
            let more = part_count-positive r in
            let in_left = tasks_from-more h (k + 1) a i e.0 n p l r done done' (omega (arith, is, e.1)) e.3 side same none in
            let in_right : tasks_from (k + 1 + part_count a) b done' ≡ tasks_from (k + 1 + part_count a) b done =
            tasks_from-same (k + 1 + part_count a) b done done' (λ j x y. same j (λ s. omega (arith, s, x, most, room, more, is, e.1))) in
            let here : combines k (value_in done' (k + 1)) (value_in done' (k + 1 + part_count a)) ≡ combines k (value_in done (k + 1)) (value_in done (k + 1 + part_count a)) =
            combines-same
            k
            _
            _
            _
            _
            (same (k + 1) (λ s. omega (arith, s, least, is, e.1)))
            (same (k + 1 + part_count a) (λ s. omega (arith, s, most, room, more, is, e.1))) in
            omega (arith, old, new, in_left, ap (weigh h) in_right, ap (weigh h) here)
        | inr e ↦
            let in_right = tasks_from-more h (k + 1 + part_count a) b i e.0 n p l r done done' (omega (arith, is, e.1)) e.2 side same none in
            let in_left : tasks_from (k + 1) a done' ≡ tasks_from (k + 1) a done =
            tasks_from-same (k + 1) a done done' (λ j x y. same j (λ s. omega (arith, s, y, least, is, e.1))) in
            let here : combines k (value_in done' (k + 1)) (value_in done' (k + 1 + part_count a)) ≡ combines k (value_in done (k + 1)) (value_in done (k + 1 + part_count a)) =
            combines-same
            k
            _
            _
            _
            _
            (same (k + 1) (λ s. omega (arith, s, least, is, e.1)))
            (same (k + 1 + part_count a) (λ s. omega (arith, s, least, is, e.1))) in
            omega (arith, old, new, in_right, ap (weigh h) in_left, ap (weigh h) here)
      ]
    ]
