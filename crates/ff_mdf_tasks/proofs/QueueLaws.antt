-- What is added to a queue, and what wakes.
use Rattle.std.proofs.Common.{◌≡◌, ℕ, suc, ◌+◌, ◌*◌, ◌/◌, ◌<◌, ◌≤◌, Bool, true, false, List, [], ◌∷◌, ◌++◌, Option, None, Some, length, get_or, set, refl, sym, ap, ◌∙◌, subst, arith, inl, inr, append_assoc, get_or-set_same, get_or-set_other, eq-eqb}
use Rattle.std.specs.Prelude.{◌==◌}
use Rattle.std.specs.List.{AllByRecursion}
use Rattle.std.proofs.lemmas.Bool.{cases_eq, cases_lt, cond-false, cond-true, ne_eqb}
use Rattle.std.proofs.lemmas.List.{append-nil}
use Rattle.ff_prog.specs.declared.statement.Statement.{Statement}
use Rattle.ff_mdf_tasks.specs.ByLinks.{Answers}
use Rattle.ff_mdf_tasks.specs.Occurrences.{flag, occurs-append, occurs-push_same, occurs-push_other}
use Rattle.ff_mdf_tasks.specs.Queues.{occurs, QueueState, AreMarked, queue_added, Adds, ready_by, QueuesReady, QueuesUntil, Wakes}
use Rattle.ff_mdf_tasks.specs.Sources.{source, last_reader, ReadersUntil}
use Rattle.ff_mdf_tasks.proofs.ReaderLaws.{last_reader-some, last_reader-none}

-- a number that isn't there is added, and one that is stays alone
pub queue_added-new : (k : ℕ) (q : QueueState) → occurs k q.order ≡ 0 → queue_added k q ≡ record q { order = q.order ++ k ∷ [] }
queue_added-new k q none = cond-true (occurs k q.order == 0) (record q { order = q.order ++ k ∷ [] }) q (eq-eqb _ _ none)

pub queue_added-old : (k : ℕ) (q : QueueState) → 0 < occurs k q.order → queue_added k q ≡ q
queue_added-old k q some = cond-false (occurs k q.order == 0) (record q { order = q.order ++ k ∷ [] }) q (ne_eqb _ _ (λ e. omega (arith, e)))

-- a number is marked when it is added
pub AreMarked-add : (has : List Bool) (order : List ℕ) (k : ℕ) → AreMarked has order → k < length has → get_or has k false ≡ false → AreMarked (set has k true) (order ++ k ∷ [])
AreMarked-add has order k marked below unmarked = record {
  by = λ j. elim (cases_eq j k) [
    | inl e ↦ subst (λ i. occurs i (order ++ k ∷ []) ≡ flag (get_or (set has k true) i false)) (sym e)
        (occurs-push_same k order ∙ ap (λ n. n + 1) (marked.by k ∙ ap flag unmarked) ∙ sym (ap flag (get_or-set_same has k true false below)))
    | inr other ↦ occurs-push_other j k order other ∙ marked.by j ∙ sym (ap flag (get_or-set_other has k j true false other))
  ];
}

-- nothing is added, or more in turn
pub Adds-none : (test : ℕ → Bool) (xs : List ℕ) → Adds test xs xs
Adds-none test xs = record { more = []; is = sym (append-nil xs); pass = tt; once = λ k few. few }

AllByRecursion-both : (P : ℕ → Type 0) (xs ys : List ℕ) → AllByRecursion P xs → AllByRecursion P ys → AllByRecursion P (xs ++ ys)
AllByRecursion-both P [] ys f g = g
AllByRecursion-both P (x ∷ xs) ys f g = (f.0, AllByRecursion-both P xs ys f.1 g)

pub Adds-then : (test : ℕ → Bool) (xs ys zs : List ℕ) → Adds test xs ys → Adds test ys zs → Adds test xs zs
Adds-then test xs ys zs a b = record {
  more = a.more ++ b.more;
  is = b.is ∙ ap (λ l. l ++ b.more) a.is ∙ append_assoc xs a.more b.more;
  pass = AllByRecursion-both (λ k. test k ≡ true) a.more b.more a.pass b.pass;
  once = λ k few. b.once k (a.once k few);
}

-- what was there stays
pub Adds-occurs : (test : ℕ → Bool) (xs ys : List ℕ) (k : ℕ) → Adds test xs ys → occurs k xs ≤ occurs k ys
Adds-occurs test xs ys k a = omega (arith, occurs-append k xs a.more, ap (occurs k) a.is)

-- another test that passes as much
pub Adds-test : (p q : ℕ → Bool) (xs ys : List ℕ) → ((k : ℕ) → p k ≡ q k) → Adds p xs ys → Adds q xs ys
Adds-test p q xs ys same a = record { more = a.more; is = a.is; pass = all a.more a.pass; once = a.once }
  where
    all : (zs : List ℕ) → AllByRecursion (λ k. p k ≡ true) zs → AllByRecursion (λ k. q k ≡ true) zs
    all [] h = tt
    all (z ∷ zs) h = (sym (same z) ∙ h.0, all zs h.1)

push-once : (k j : ℕ) (xs : List ℕ) → occurs k xs ≡ 0 → occurs j xs ≤ 1 → occurs j (xs ++ k ∷ []) ≤ 1
push-once k j xs none few = elim (cases_eq j k) [
  | inl e ↦ subst (λ i. occurs i (xs ++ k ∷ []) ≤ 1) (sym e) (omega (arith, occurs-push_same k xs))
  | inr other ↦ omega (arith, occurs-push_other j k xs other)
]

-- a number that passes is added, if it isn't there
Adds-queue_added : (test : ℕ → Bool) (k : ℕ) (q : QueueState) → test k ≡ true → Adds test q.order (queue_added k q).order
Adds-queue_added test k q pass = elim (cases_eq (occurs k q.order) 0) [
  | inl none ↦ subst (λ (v : QueueState). Adds test q.order v.order) (sym (queue_added-new k q none)) (record {
    more = k ∷ [];
    is = refl;
    pass = (pass, tt);
    once = λ j few. push-once k j q.order none few;
  })
  | inr some ↦ subst (λ (v : QueueState). Adds test q.order v.order) (sym (queue_added-old k q (omega (arith, some)))) (Adds-none test q.order)
]

there-queue_added : (k : ℕ) (q : QueueState) → 0 < occurs k (queue_added k q).order
there-queue_added k q = elim (cases_eq (occurs k q.order) 0) [
  | inl none ↦ subst (λ (v : QueueState). 0 < occurs k v.order) (sym (queue_added-new k q none)) (omega (arith, occurs-push_same k q.order))
  | inr some ↦ let there : 0 < occurs k q.order = omega (arith, some) in subst (λ (v : QueueState). 0 < occurs k v.order) (sym (queue_added-old k q there)) there
]

size-queue_added : (k : ℕ) (q : QueueState) → (queue_added k q).size ≡ q.size
size-queue_added k q = elim (cases_eq (occurs k q.order) 0) [
  | inl none ↦ ap (λ (v : QueueState). v.size) (queue_added-new k q none)
  | inr some ↦ ap (λ (v : QueueState). v.size) (queue_added-old k q (omega (arith, some)))
]

-- how many operands there are up to a reader
abbrev pub readers_left : Option ℕ → ℕ
readers_left None = 0
readers_left (Some t) = suc t

module _ (ss : List Statement) (known : Answers) where
  -- a statement is queued where it is ready, and not where it isn't
  pub QueuesReady-added : (k : ℕ) (old new : QueueState) → ready_by ss known k ≡ true → new ≡ queue_added k old → QueuesReady ss known k old new
  QueuesReady-added k old new ready is = subst (λ q. QueuesReady ss known k old q) (sym is) (record {
    size = size-queue_added k old;
    adds = Adds-queue_added (ready_by ss known) k old ready;
    there = λ _. there-queue_added k old;
  })

  pub QueuesReady-none : (k : ℕ) (old : QueueState) → ready_by ss known k ≡ false → QueuesReady ss known k old old
  QueuesReady-none k old unready = record {
    size = refl;
    adds = Adds-none (ready_by ss known) old.order;
    there = λ ready. let never : true ≡ false = sym ready ∙ unready in cc;
  }

  -- one statement more
  pub QueuesUntil-next : (m : ℕ) (old new : QueueState) → QueuesUntil ss known m old → QueuesReady ss known m old new → QueuesUntil ss known (m + 1) new
  QueuesUntil-next m old new until one = record {
    size = one.size ∙ until.size;
    adds = Adds-then (ready_by ss known) [] old.order new.order until.adds one.adds;
    all = λ k below ready. elim (cases_eq k m) [
      | inl e ↦ subst (λ j. 0 < occurs j new.order) (sym e) (one.there (subst (λ j. ready_by ss known j ≡ true) e ready))
      | inr other ↦ omega (arith, until.all k (omega (arith, other, below)) ready, Adds-occurs (ready_by ss known) old.order new.order k one.adds)
    ];
  }

  -- what was woken so far: the readers of statement `id` from operand `upto` on; `reader` is the next one
  pub record WakesFrom (id : ℕ) (old : List ℕ) (reader : Option ℕ) (new : List ℕ) : Type 0 where
    pub upto : ℕ
    pub within : upto ≤ 3 * length ss
    pub next : reader ≡ last_reader ss id upto
    pub adds : Adds (ready_by ss known) old new
    pub behind : (t : ℕ) → upto ≤ t → t < 3 * length ss → source ss t ≡ Some id → ready_by ss known (t / 3) ≡ true → 0 < occurs (t / 3) new

  module _ (latest earlier : List (Option ℕ)) (r : ReadersUntil ss (3 * length ss) latest earlier) (id : ℕ) (below : id < length ss) (old : List ℕ) where
    pub WakesFrom-start : (reader : Option ℕ) → reader ≡ get_or latest id None → WakesFrom id old reader old
    WakesFrom-start reader is = record {
      upto = 3 * length ss;
      within = omega arith;
      next = is ∙ r.last id below;
      adds = Adds-none (ready_by ss known) old;
      behind = λ t above less _ _. absurd (omega (arith, above, less));
    }

    pub WakesFrom-next : (t : ℕ) (reader : Option ℕ) (q q' : QueueState) → WakesFrom id old (Some t) q.order → reader ≡ get_or earlier t None
        → QueuesReady ss known (t / 3) q q' → WakesFrom id old reader q'.order
    WakesFrom-next t reader q q' w is one =
        let l = last_reader-some ss id w.upto t (sym w.next) in
        record {
          upto = t;
          within = omega (arith, l.below, w.within);
          next = is ∙ r.before t id (omega (arith, l.below, w.within)) below l.reads;
          adds = Adds-then (ready_by ss known) old q.order q'.order w.adds one.adds;
          behind = λ u above less reads ready. elim (cases_eq u t) [
            | inl e ↦ subst (λ v. 0 < occurs (v / 3) q'.order) (sym e) (one.there (subst (λ v. ready_by ss known (v / 3) ≡ true) e ready))
            | inr other ↦ elim (cases_lt u w.upto) [
              | inl early ↦ absurd (l.behind u (omega (arith, other, above)) early reads)
              | inr late ↦ omega (arith, w.behind u late less reads ready, Adds-occurs (ready_by ss known) q.order q'.order (u / 3) one.adds)
            ]
          ];
        }

    -- there are fewer operands up to the one before
    pub readers_left-next : (t : ℕ) (reader : Option ℕ) (new : List ℕ) → WakesFrom id old (Some t) new → reader ≡ get_or earlier t None → readers_left reader < suc t
    readers_left-next t reader new w is =
        let l = last_reader-some ss id w.upto t (sym w.next) in
        let few : readers_left reader ≤ t = left reader (sym (is ∙ r.before t id (omega (arith, l.below, w.within)) below l.reads)) in
        omega arith
      where
        left : (o : Option ℕ) → last_reader ss id t ≡ o → readers_left o ≤ t
        left None e = omega arith
        left (Some u) e = omega (arith, (last_reader-some ss id t u e).below)

    -- the next one is an operand of a statement
    pub WakesFrom-within : (t : ℕ) (new : List ℕ) → WakesFrom id old (Some t) new → t < 3 * length ss
    WakesFrom-within t new w = omega (arith, (last_reader-some ss id w.upto t (sym w.next)).below, w.within)

    pub Wakes-end : (q q' : QueueState) → old ≡ q.order → q'.size ≡ q.size → WakesFrom id old None q'.order → Wakes ss known id q q'
    Wakes-end q q' same size w = record {
      size = size;
      adds = subst (λ xs. Adds (ready_by ss known) xs q'.order) same w.adds;
      all = λ t less reads ready. elim (cases_lt t w.upto) [
        | inl early ↦ absurd (last_reader-none ss id w.upto (sym w.next) t early reads)
        | inr late ↦ w.behind t late less reads ready
      ];
    }
