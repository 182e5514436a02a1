-- Halves that meet: which tasks come of it, and which halves wait then.
use Rattle.std.proofs.Common.{◌≡◌, ℕ, ◌+◌, ◌-◌, ◌/◌, ◌%◌, ◌<◌, ◌≤◌, ◌==◌, ◌⊎◌, inl, inr, cond, List, [], ◌∷◌, Option, Some, None, ℤ, refl, ap, ◌∙◌, sym, subst, arith}
use Rattle.std.proofs.lemmas.Bool.{cases_eq, cond-true, cond-false, eq-eqb, ne_eqb}
use Rattle.ff_rec.specs.Weights.{weigh}
use Rattle.ff_dc.specs.Spans.{Span}
use Rattle.ff_dc.specs.Divisions.{Division, Cut, part_count, part_at, Answers}
use Rattle.ff_dc.proofs.PartsAt.{part_count-positive}
use Rattle.ff_dc_tasks.specs.declared.task.DcTask.{DcTask}
use Rattle.ff_dc_tasks.specs.declared.task.DcTask.TheVariants.{Combine}
use Rattle.ff_dc_tasks.specs.declared.place.Place.{Place}
use Rattle.ff_dc_tasks.specs.declared.place.Pair.{Pair}
use Rattle.ff_dc_tasks.specs.declared.halves.Half.{Half}
use Rattle.ff_dc_tasks.specs.Tasks.{value_in, combines, tasks_from, IsTask}
use Rattle.ff_dc_tasks.specs.Paths.{path_at}
use Rattle.ff_dc_tasks.specs.Pairs.{task_of, half_at, pair_from, Meets, IsPaired, waiting, AreWaiting}
use Rattle.ff_dc_tasks.proofs.HalvesWaiting.{left-alone, left-met, right-alone, right-met, waiting-later}
use Rattle.ff_dc_tasks.proofs.PathSteps.{path_from-left, path_from-right, IsParent, parent_of}
use Rattle.ff_dc_tasks.proofs.PathsApart.{path_from-one}
use Rattle.ff_dc_tasks.proofs.Marks.{value_in-other, value_in-last, Has-value_in}
use Rattle.ff_dc_tasks.proofs.MadeSteps.{combines-nothing, tasks_from-same, tasks_from-more}

-- what comes of a half that comes: a task more where the other one is done
pub record IsMet (d : Division) (done done' : Answers) (halves' : List (ℕ × Half)) (ts : List DcTask) : Type 0 where
  pub more : (h : DcTask → ℕ) → weigh h (tasks_from 0 d done') ≡ weigh h (tasks_from 0 d done) + weigh h ts
  pub halves : AreWaiting d done' halves'

abbrev pub Met : Division → Answers → Answers → Option Pair → List (ℕ × Half) → Type 0
Met d done done' None halves' = IsMet d done done' halves' []
Met d done done' (Some x) halves' = IsMet d done done' halves' (task_of x ∷ []) × IsPaired d done' x

module _ (d : Division) (done : Answers) (n : ℕ) (a : List ℤ) (e : Division) (at : part_at d n ≡ Some e) where
  abbrev done' : Answers
  done' = (n, a) ∷ done

  -- the values of the whole make no task, and are no half
  pub whole-met : (halves : List (ℕ × Half)) → n ≡ 0 → AreWaiting d done halves → IsMet d done done' halves []
  whole-met halves zero waits = record {
    more = λ h. omega (arith, ap (weigh h) (tasks_from-same 0 d done done' (λ j x y. value_in-other done n j a (λ s. omega (arith, s, x, zero)))));
    halves = λ m p l r at_m. waits m p l r at_m
        ∙ ap (λ (v : Option (List ℤ)). waiting (m + 1) v (m + 1 + part_count l) (value_in done (m + 1 + part_count l)))
        (sym (value_in-other done n (m + 1) a (λ s. omega (arith, s, zero))))
        ∙ ap (λ (w : Option (List ℤ)). waiting (m + 1) (value_in done' (m + 1)) (m + 1 + part_count l) w)
        (sym (value_in-other done n (m + 1 + part_count l) a (λ s. omega (arith, s, zero))));
  }

  module _ (m : ℕ) (up : IsParent d n m) where
    abbrev left : ℕ
    left = m + 1

    abbrev right : ℕ
    right = m + 1 + part_count up.left

    -- what waits of a part, by the values of its halves
    abbrev waits_at : ℕ → ℕ → Option Half
    waits_at i c = waiting (i + 1) (value_in done' (i + 1)) (i + 1 + c) (value_in done' (i + 1 + c))

    path_up : path_at d m ≡ path_at d n / 2
    path_up = elim up.side [
      | inl s ↦ omega (arith, path_from-left 1 d m up.span up.left up.right up.at, ap (path_at d) s)
      | inr s ↦ omega (arith, path_from-right 1 d m up.span up.left up.right up.at, ap (path_at d) s)
    ]

    -- other parts have other halves
    halves-other : (halves : List (ℕ × Half)) → AreWaiting d done halves → (i : ℕ) (p : Span) (l r : Division) → part_at d i ≡ Some (Cut p l r)
        → (path_at d n / 2 ≡ path_at d i → ⊥) → half_at (path_at d i) halves ≡ waits_at i (part_count l)
    halves-other halves waits i p l r at_i apart =
        let not_left : n ≡ i + 1 → ⊥ = λ s. apart (omega (arith, path_from-left 1 d i p l r at_i, ap (path_at d) s)) in
        let not_right : n ≡ i + 1 + part_count l → ⊥ = λ s. apart (omega (arith, path_from-right 1 d i p l r at_i, ap (path_at d) s)) in
        waits i p l r at_i
        ∙ ap (λ (v : Option (List ℤ)). waiting (i + 1) v (i + 1 + part_count l) (value_in done (i + 1 + part_count l))) (sym (value_in-other done n (i + 1) a not_left))
        ∙ ap (λ (w : Option (List ℤ)). waiting (i + 1) (value_in done' (i + 1)) (i + 1 + part_count l) w)
        (sym (value_in-other done n (i + 1 + part_count l) a not_right))

    AreWaiting-met : (halves halves' : List (ℕ × Half)) (y : Option Half) → AreWaiting d done halves
        → ((q : ℕ) → half_at q halves' ≡ cond (path_at d n / 2 == q) y (half_at q halves)) → y ≡ waits_at m (part_count up.left) → AreWaiting d done' halves'
    AreWaiting-met halves halves' y waits new is i p l r at_i =
        elim (cases_eq (path_at d n / 2) (path_at d i)) [
          | inl same ↦
              let one : i ≡ m = path_from-one 1 d i m (Cut p l r) (Cut up.span up.left up.right) (omega arith) at_i up.at (sym same ∙ sym path_up) in
              let both : Some (Cut p l r) ≡ Some (Cut up.span up.left up.right) = sym at_i ∙ ap (part_at d) one ∙ up.at in
              let lefts : l ≡ up.left = cc in
              new (path_at d i) ∙ cond-true _ _ _ (eq-eqb _ _ same) ∙ is
              ∙ ap (λ (f : Division). waits_at m (part_count f)) (sym lefts)
              ∙ ap (λ (k : ℕ). waits_at k (part_count l)) (sym one)
          | inr apart ↦ new (path_at d i) ∙ cond-false _ _ _ (ne_eqb _ _ apart) ∙ halves-other halves waits i p l r at_i apart
        ]

    module _ (unknown : value_in done n ≡ None) where
      pub more : (h : DcTask → ℕ) → weigh h (tasks_from 0 d done') ≡ weigh h (tasks_from 0 d done) + weigh h (combines m (value_in done' left) (value_in done' right))
      more h = tasks_from-more h 0 d m m n up.span up.left up.right done done' (omega arith) up.at up.side (λ j apart. value_in-other done n j a apart) unknown

      -- no half is done but this one
      alone : (halves halves' : List (ℕ × Half)) (v w : Option (List ℤ)) → AreWaiting d done halves → value_in done' left ≡ v → value_in done' right ≡ w
          → ((v ≡ None) ⊎ (w ≡ None)) → ((q : ℕ) → half_at q halves' ≡ cond (path_at d n / 2 == q) (waiting left v right w) (half_at q halves))
          → IsMet d done done' halves' []
      alone halves halves' v w waits on_left on_right none new =
          let same : waiting left v right w ≡ waits_at m (part_count up.left) =
          ap (λ (x : Option (List ℤ)). waiting left x right w) (sym on_left) ∙ ap (λ (y : Option (List ℤ)). waiting left (value_in done' left) right y) (sym on_right) in
          let nothing : combines m (value_in done' left) (value_in done' right) ≡ [] =
          ap (λ (x : Option (List ℤ)). combines m x (value_in done' right)) on_left ∙ ap (λ (y : Option (List ℤ)). combines m v y) on_right ∙ combines-nothing m v w none in
          record {
            more = λ h. more h ∙ ap (λ (k : ℕ). weigh h (tasks_from 0 d done) + k) (ap (weigh h) nothing);
            halves = AreWaiting-met halves halves' (waiting left v right w) waits new same;
          }

      -- both halves are done
      both : (halves halves' : List (ℕ × Half)) (v w : List ℤ) (x : Pair) → AreWaiting d done halves → value_in done' left ≡ Some v → value_in done' right ≡ Some w
          → x ≡ record { place = record { path = path_at d n / 2; number = m }; left = v; right = w }
          → ((q : ℕ) → half_at q halves' ≡ cond (path_at d n / 2 == q) None (half_at q halves))
          → IsMet d done done' halves' (task_of x ∷ []) × IsPaired d done' x
      both halves halves' v w x waits on_left on_right is new =
          let same : None ≡ waits_at m (part_count up.left) =
          ap (λ (y : Option (List ℤ)). waiting left (Some v) right y) (sym on_right) ∙ ap (λ (z : Option (List ℤ)). waiting left z right (value_in done' right)) (sym on_left) in
          let one : combines m (value_in done' left) (value_in done' right) ≡ Combine m v w ∷ [] =
          ap (λ (z : Option (List ℤ)). combines m z (value_in done' right)) on_left ∙ ap (λ (y : Option (List ℤ)). combines m (Some v) y) on_right in
          let it : task_of x ≡ Combine m v w = ap task_of is in
          let number : x.place.number ≡ m = ap (λ (y : Pair). y.place.number) is in (
            record {
              more = λ h. more h ∙ ap (λ (k : ℕ). weigh h (tasks_from 0 d done) + k) (ap (weigh h) one ∙ ap (λ (t : DcTask). weigh h (t ∷ [])) (sym it));
              halves = AreWaiting-met halves halves' None waits new same;
            },
            record {
              path = ap (λ (y : Pair). y.place.path) is ∙ sym path_up ∙ ap (path_at d) (sym number);
              task = subst (IsTask d done') (sym it) (up.span, up.left, up.right, up.at, Has-value_in done' left v on_left, Has-value_in done' right w on_right);
            },
          )

      -- what is kept of the halves of the part above
      pub waiting-up : (halves : List (ℕ × Half)) → AreWaiting d done halves
          → half_at (path_at d n / 2) halves ≡ waiting left (value_in done left) right (value_in done right)
      waiting-up halves waits = ap (λ (q : ℕ). half_at q halves) (sym path_up) ∙ waits m up.span up.left up.right up.at

      module _ (halves halves' : List (ℕ × Half)) (waits : AreWaiting d done halves) (place : Place) (number : place.number ≡ n) (path : place.path ≡ path_at d n) where
        kept : place.path / 2 ≡ path_at d n / 2
        kept = ap (λ (q : ℕ). q / 2) path

        half : Half
        half = record { number = place.number; values = a }

        lookups : (y z : Option Half) → y ≡ z → ((q : ℕ) → half_at q halves' ≡ cond (place.path / 2 == q) y (half_at q halves))
            → (q : ℕ) → half_at q halves' ≡ cond (path_at d n / 2 == q) z (half_at q halves)
        lookups y z same new q = new q ∙ ap (λ (k : ℕ). cond (k == q) y (half_at q halves)) kept
            ∙ ap (λ (o : Option Half). cond (path_at d n / 2 == q) o (half_at q halves)) same

        found : (o : Option Half) → half_at (place.path / 2) halves ≡ o → o ≡ waiting left (value_in done left) right (value_in done right)
        found o is = sym is ∙ ap (λ (q : ℕ). half_at q halves) kept ∙ waiting-up halves waits

        left-Met : (x : Option Pair) → n ≡ left → Meets halves place a x halves' → Met d done done' x halves'
        left-Met None side meets =
            let on_left : value_in done' left ≡ Some a = value_in-last done n left a side in
            let before : value_in done left ≡ None = ap (value_in done) (sym side) ∙ unknown in
            let on_right : value_in done' right ≡ value_in done right =
            value_in-other done n right a (λ s. omega (arith, s, side, part_count-positive up.left)) in
            let none : value_in done right ≡ None =
            left-alone left right (value_in done right) (found None meets.0 ∙ ap (λ (v : Option (List ℤ)). waiting left v right (value_in done right)) before) in
            alone halves halves' (Some a) None waits on_left (on_right ∙ none) (inr refl)
            (lookups _ _ (ap (λ (k : ℕ). Some (record { number = k; values = a })) (number ∙ side)) meets.1)
        left-Met (Some x) side meets =
            let other : Half = meets.0 in
            let on_left : value_in done' left ≡ Some a = value_in-last done n left a side in
            let before : value_in done left ≡ None = ap (value_in done) (sym side) ∙ unknown in
            let on_right : value_in done' right ≡ value_in done right =
            value_in-other done n right a (λ s. omega (arith, s, side, part_count-positive up.left)) in
            let met : (value_in done right ≡ Some other.values) × (other.number ≡ right) =
            left-met left right (value_in done right) other
            (found (Some other) meets.1 ∙ ap (λ (v : Option (List ℤ)). waiting left v right (value_in done right)) before) in
            let even : place.path % 2 ≡ 0 = omega (arith, path, path_from-left 1 d m up.span up.left up.right up.at, ap (path_at d) side) in
            let is : x ≡ record { place = record { path = path_at d n / 2; number = m }; left = a; right = other.values } =
            meets.2 ∙ cond-true _ _ _ (eq-eqb _ _ even)
            ∙ ap (λ (k : ℕ). pair_from k (record { number = place.number; values = a }) other) kept
            ∙ ap (λ (k : ℕ). record { place = record { path = path_at d n / 2; number = k }; left = a; right = other.values })
            (let e : place.number - 1 ≡ m = omega (arith, number, side) in e) in
            both halves halves' a other.values x waits on_left (on_right ∙ met.0) is (lookups _ _ refl meets.3)

        right-Met : (x : Option Pair) → n ≡ right → Meets halves place a x halves' → Met d done done' x halves'
        right-Met None side meets =
            let on_right : value_in done' right ≡ Some a = value_in-last done n right a side in
            let before : value_in done right ≡ None = ap (value_in done) (sym side) ∙ unknown in
            let on_left : value_in done' left ≡ value_in done left =
            value_in-other done n left a (λ s. omega (arith, s, side, part_count-positive up.left)) in
            let none : value_in done left ≡ None =
            right-alone left right (value_in done left) (found None meets.0 ∙ ap (λ (v : Option (List ℤ)). waiting left (value_in done left) right v) before) in
            alone halves halves' None (Some a) waits (on_left ∙ none) on_right (inl refl)
            (lookups _ _ (ap (λ (k : ℕ). Some (record { number = k; values = a })) (number ∙ side)) meets.1)
        right-Met (Some x) side meets =
            let other : Half = meets.0 in
            let on_right : value_in done' right ≡ Some a = value_in-last done n right a side in
            let before : value_in done right ≡ None = ap (value_in done) (sym side) ∙ unknown in
            let on_left : value_in done' left ≡ value_in done left =
            value_in-other done n left a (λ s. omega (arith, s, side, part_count-positive up.left)) in
            let met : (value_in done left ≡ Some other.values) × (other.number ≡ left) =
            right-met left right (value_in done left) other
            (found (Some other) meets.1 ∙ ap (λ (v : Option (List ℤ)). waiting left (value_in done left) right v) before) in
            let odd : place.path % 2 ≡ 1 = omega (arith, path, path_from-right 1 d m up.span up.left up.right up.at, ap (path_at d) side) in
            let is : x ≡ record { place = record { path = path_at d n / 2; number = m }; left = other.values; right = a } =
            meets.2 ∙ cond-false _ _ _ (ne_eqb (place.path % 2) 0 (λ e. omega (arith, e, odd)))
            ∙ ap (λ (k : ℕ). pair_from k other (record { number = place.number; values = a })) kept
            ∙ ap (λ (k : ℕ). record { place = record { path = path_at d n / 2; number = k }; left = other.values; right = a })
            (let e : other.number - 1 ≡ m = omega (arith, met.1) in e) in
            both halves halves' other.values a x waits (on_left ∙ met.0) on_right is (lookups _ _ refl meets.3)

        pub Met-meets : (x : Option Pair) → Meets halves place a x halves' → Met d done done' x halves'
        Met-meets x meets = elim up.side [
          | inl s ↦ left-Met x s meets
          | inr s ↦ right-Met x s meets
        ]

-- a half that comes, wherever it belongs
module _ (d : Division) (done : Answers) (halves : List (ℕ × Half)) (waits : AreWaiting d done halves) (place : Place) (a : List ℤ) (e : Division) (at : part_at d place.number ≡ Some e) (path : place.path ≡ path_at d place.number) (unknown : value_in done place.number ≡ None) (later : 0 < place.number) where
  above : (m : ℕ) × IsParent d place.number m
  above = parent_of d place.number e at later

  pub Met-later : (halves' : List (ℕ × Half)) (x : Option Pair) → Meets halves place a x halves' → Met d done ((place.number, a) ∷ done) x halves'
  Met-later halves' x meets = Met-meets d done place.number a e at above.0 above.1 unknown halves halves' waits place refl path x meets

  pub half_at-later : (x : Half) → half_at (place.path / 2) halves ≡ Some x → 1 ≤ x.number
  half_at-later x is =
      let up : IsParent d place.number above.0 = above.1 in
      waiting-later (above.0 + 1) (above.0 + 1 + part_count up.left) (value_in done (above.0 + 1)) (value_in done (above.0 + 1 + part_count up.left)) x
      (omega arith) (omega arith)
      (sym is ∙ ap (λ (q : ℕ). half_at (q / 2) halves) path ∙ waiting-up d done place.number a e at above.0 up unknown halves waits)
