-- What went over the edges of a plan, once all ends were put back and their rings are settled.
use Rattle.std.proofs.Common.{◌≡◌, ◌<◌, ℕ, zero, suc, Option, None, Some, List, [], ◌∷◌, ◌++◌, length, map, flat_map, set, refl, sym, ap, ap₂, ◌∙◌, subst, arith}
use Rattle.std.specs.List.{All, AllZip}
use Rattle.std.specs.Option.{unwrap_or}
use Rattle.std.proofs.lemmas.List.{length-append, length-map, map-append, ext_get_or}
use Rattle.std.proofs.lemmas.List.Elements.{All-nil, All-cons, All-head, All-tail, All-weaker}
use Rattle.ff_rec.specs.Weights.{Same}
use Rattle.ff_node.specs.Runs.{Message}
use Rattle.ff_plan.specs.Rows.{Row, range}
use Rattle.ff_ring.specs.Names.{RingName}
use Rattle.ff_steps.proofs.Heads.{head-same, tail-same}
use Rattle.ff_engine.specs.Boards.{IsFirst}
use Rattle.ff_engine.specs.Jobs.{JobState, HasPorts}
use Rattle.ff_engine.specs.Lines.{HasEnds, HasMoved, IsSettled, IsWired, Linked}
use Rattle.ff_engine.specs.Slots.{slot, placed, placed_all}
use Rattle.ff_engine.proofs.SlotLaws.{length-placed, map-slot-placed, placed_all-flat, slot-placed-map}
use Rattle.ff_engine.proofs.Wired.{once-wired, some-wired, within-wired}

-- a list of lists of the same lengths as others, as one list
length-flat : {J A B : Type 0} (f : J → List A) (g : J → List B) (js : List J) → All (λ j. length (f j) ≡ length (g j)) js
    → length (flat_map f js) ≡ length (flat_map g js)
length-flat f g [] all = refl
length-flat f g (j ∷ js) all =
    omega (
      arith,
      length-append (f j) (flat_map f js),
      length-append (g j) (flat_map g js),
      All-head (λ i. length (f i) ≡ length (g i)) j js all,
      length-flat f g js (All-tail (λ i. length (f i) ≡ length (g i)) j js all),
    )

-- lists that begin with others of the same length
append-parts : {A : Type 0} (xs ys us vs : List A) → length xs ≡ length us → xs ++ ys ≡ us ++ vs → (xs ≡ us) × (ys ≡ vs)
append-parts [] ys [] vs long is = (refl, is)
append-parts [] ys (u ∷ us) vs long is = absurd (omega (arith, long))
append-parts (x ∷ xs) ys [] vs long is = absurd (omega (arith, long))
append-parts (x ∷ xs) ys (u ∷ us) vs long is =
    let rest = append-parts xs ys us vs (omega (arith, long)) (tail-same is) in
    (ap₂ (λ a l. a ∷ l) (head-same is) rest.0, rest.1)

-- what a function gives at the numbers of all is what it gives at those of each
All-parts : {J A : Type 0} (f : ℕ → Option A) (at : J → List ℕ) (has : J → List A) (js : List J) → All (λ j. length (has j) ≡ length (at j)) js
    → map f (flat_map at js) ≡ map (λ x. Some x) (flat_map has js) → All (λ j. map f (at j) ≡ map (λ x. Some x) (has j)) js
All-parts f at has [] long are = All-nil (λ j. map f (at j) ≡ map (λ x. Some x) (has j))
All-parts f at has (j ∷ js) long are =
    let parts = append-parts (map f (at j)) (map f (flat_map at js)) (map (λ x. Some x) (has j)) (map (λ x. Some x) (flat_map has js))
    (length-map (at j) f ∙ sym (All-head (λ i. length (has i) ≡ length (at i)) j js long) ∙ sym (length-map (has j) (λ x. Some x)))
    (sym (map-append f (at j) (flat_map at js)) ∙ are ∙ map-append (λ x. Some x) (has j) (flat_map has js)) in
    All-cons (λ i. map f (at i) ≡ map (λ x. Some x) (has i)) j js parts.0
    (All-parts f at has js (All-tail (λ i. length (has i) ≡ length (at i)) j js long) parts.1)

-- with values in place of those that may be missing
map-unwrapped : {A : Type 0} (d : A) (f : ℕ → Option A) (ks : List ℕ) (xs : List A) → map f ks ≡ map (λ x. Some x) xs → map (λ e. unwrap_or (f e) d) ks ≡ xs
map-unwrapped d f [] [] are = refl
map-unwrapped d f [] (x ∷ xs) are = absurd (omega (arith, ap length are))
map-unwrapped d f (k ∷ ks) [] are = absurd (omega (arith, ap length are))
map-unwrapped d f (k ∷ ks) (x ∷ xs) are =
    ap₂ (λ y ys. y ∷ ys) (ap (λ o. unwrap_or o d) (head-same are)) (map-unwrapped d f ks xs (tail-same are))

flat_map-map : {A B : Type 0} (f : ℕ → B) (at : A → List ℕ) (has : A → List B) (js : List A) → All (λ j. has j ≡ map f (at j)) js → flat_map has js ≡ map f (flat_map at js)
flat_map-map f at has [] all = refl
flat_map-map f at has (j ∷ js) all =
    ap₂ (λ l m. l ++ m) (All-head (λ i. has i ≡ map f (at i)) j js all) (flat_map-map f at has js (All-tail (λ i. has i ≡ map f (at i)) j js all))
    ∙ sym (map-append f (at j) (flat_map at js))

-- what two facts of each give together
All-both : {A : Type 0} (P Q R : A → Type 0) → ((a : A) → P a → Q a → R a) → (xs : List A) → All P xs → All Q xs → All R xs
All-both P Q R f [] ps qs = All-nil R
All-both P Q R f (x ∷ xs) ps qs =
    All-cons R x xs (f x (All-head P x xs ps) (All-head Q x xs qs)) (All-both P Q R f xs (All-tail P x xs ps) (All-tail Q x xs qs))

-- one side of the rings, the readers' or the writers': each of `n` edges stands once among `k` and those of all jobs, and `a` and what the jobs have is put there
module _ {J A : Type 0} (at : J → List ℕ) (has : J → List A) (js : List J) (long : All (λ j. length (has j) ≡ length (at j)) js) (n k : ℕ) (a : A) (slots : List (Option A))
    (all : Same (k ∷ flat_map at js) (range 0 n)) (many : length slots ≡ n) where
  abbrev pub after : List (Option A)
  after = placed_all at has js (set slots k (Some a))

  after-is : after ≡ placed (k ∷ flat_map at js) (a ∷ flat_map has js) slots
  after-is = placed_all-flat at has js (set slots k (Some a)) long

  pub length-after : length after ≡ n
  length-after = ap length after-is ∙ length-placed (k ∷ flat_map at js) (a ∷ flat_map has js) slots ∙ many

  stands : map (λ e. slot after e) (k ∷ flat_map at js) ≡ map (λ x. Some x) (a ∷ flat_map has js)
  stands = subst (λ s. map (λ e. slot s e) (k ∷ flat_map at js) ≡ map (λ x. Some x) (a ∷ flat_map has js)) (sym after-is)
      (map-slot-placed (k ∷ flat_map at js) (a ∷ flat_map has js) slots (once-wired (k ∷ flat_map at js) n all)
      (subst (λ m. All (λ e. e < m) (k ∷ flat_map at js)) (sym many) (within-wired (k ∷ flat_map at js) n all)) (omega (arith, length-flat has at js long)))

  pub slot-after-first : slot after k ≡ Some a
  slot-after-first = head-same stands

  pub All-after : All (λ j. map (λ e. slot after e) (at j) ≡ map (λ x. Some x) (has j)) js
  All-after = All-parts (λ e. slot after e) at has js long (tail-same stands)

  -- where it is put by a function of the edge, it stands at each edge
  pub slot-after : (f : ℕ → A) → a ≡ f k → All (λ j. has j ≡ map f (at j)) js → (e : ℕ) → e < n → slot after e ≡ Some (f e)
  slot-after f first each e low =
      ap (λ s. slot s e) (after-is ∙ ap₂ (λ x xs. placed (k ∷ flat_map at js) (x ∷ xs) slots) first (flat_map-map f at has js each))
      ∙ slot-placed-map f (k ∷ flat_map at js) slots e (subst (λ m. All (λ e. e < m) (k ∷ flat_map at js)) (sym many) (within-wired (k ∷ flat_map at js) n all))
      (some-wired (k ∷ flat_map at js) n all e low)

-- lists of slots with the same content, which a function gives
same-slots : {A : Type 0} (f : ℕ → A) (n : ℕ) (ss ts : List (Option A)) → length ss ≡ n → length ts ≡ n → ((e : ℕ) → e < n → slot ss e ≡ Some (f e))
    → ((e : ℕ) → e < n → slot ts e ≡ Some (f e)) → ss ≡ ts
same-slots f n ss ts one other here there =
    ext_get_or None ss ts (one ∙ sym other) (λ e low. (let within : e < n = omega (arith, low, one) in here e within ∙ sym (there e within)))

-- rows of jobs, as lists of edges
flat-rows : {U : Type 0} (side : Row → List ℕ) (jobs : List (JobState U)) → flat_map side (map (λ job. job.row) jobs) ≡ flat_map (λ job. side job.row) jobs
flat-rows side [] = refl
flat-rows side (job ∷ jobs) = ap (λ l. side job.row ++ l) (flat-rows side jobs)

-- what was got at an edge is the first of what was put there
first-at : (gots puts : List (Option (List Message))) → AllZip IsFirst gots puts → (e : ℕ) → IsFirst (slot gots e) (slot puts e)
first-at [] puts all e = tt
first-at (g ∷ gots) [] all e = absurd all
first-at (g ∷ gots) (p ∷ puts) all zero = all.0
first-at (g ∷ gots) (p ∷ puts) all (suc e) = first-at gots puts all.1 e

IsFirst-lists : (got put : Option (List Message)) → IsFirst got put → (rest : List Message) × (unwrap_or put [] ≡ unwrap_or got [] ++ rest)
IsFirst-lists None put first = (unwrap_or put [], refl)
IsFirst-lists (Some g) None first = absurd first
IsFirst-lists (Some g) (Some p) first = first

module _ {U : Type 0} (jobs : List (JobState U)) (first last : RingName) (linked : Linked first jobs last) (ports : All HasPorts jobs) (n : ℕ)
    (wired : IsWired (map (λ job. job.row) jobs) n) where
  reads : Same (1 ∷ flat_map (λ (job : JobState U). job.row.ins) jobs) (range 0 n)
  reads = subst (λ es. Same (1 ∷ es) (range 0 n)) (flat-rows (λ row. row.ins) jobs) wired.reads

  writes : Same (0 ∷ flat_map (λ (job : JobState U). job.row.outs) jobs) (range 0 n)
  writes = subst (λ es. Same (0 ∷ es) (range 0 n)) (flat-rows (λ row. row.outs) jobs) wired.writes

  each_in : All (λ (job : JobState U). job.reads ≡ map linked.name job.row.ins) jobs
  each_in = All-weaker (λ job. HasEnds linked.name job) (λ (job : JobState U). job.reads ≡ map linked.name job.row.ins) (λ job ends. ends.reads) jobs linked.each

  each_out : All (λ (job : JobState U). job.writes ≡ map linked.name job.row.outs) jobs
  each_out = All-weaker (λ job. HasEnds linked.name job) (λ (job : JobState U). job.writes ≡ map linked.name job.row.outs) (λ job ends. ends.writes) jobs linked.each

  long_reads : All (λ (job : JobState U). length job.reads ≡ length job.row.ins) jobs
  long_reads = All-weaker (λ job. HasEnds linked.name job) (λ (job : JobState U). length job.reads ≡ length job.row.ins) (λ job ends. ap length ends.reads ∙ length-map job.row.ins linked.name) jobs linked.each

  long_writes : All (λ (job : JobState U). length job.writes ≡ length job.row.outs) jobs
  long_writes = All-weaker (λ job. HasEnds linked.name job) (λ (job : JobState U). length job.writes ≡ length job.row.outs) (λ job ends. ap length ends.writes ∙ length-map job.row.outs linked.name) jobs linked.each

  long_gots : All (λ (job : JobState U). length job.gots ≡ length job.row.ins) jobs
  long_gots = All-both HasPorts (λ job. HasEnds linked.name job) (λ (job : JobState U). length job.gots ≡ length job.row.ins) (λ job own ends. own.gots ∙ ap length ends.reads ∙ length-map job.row.ins linked.name) jobs ports linked.each

  long_puts : All (λ (job : JobState U). length job.puts ≡ length job.row.outs) jobs
  long_puts = All-both HasPorts (λ job. HasEnds linked.name job) (λ (job : JobState U). length job.puts ≡ length job.row.outs) (λ job own ends. own.puts ∙ ap length ends.writes ∙ length-map job.row.outs linked.name) jobs ports linked.each

  -- the edges of all jobs have their places
  pub within_ins : All (λ e. e < n) (1 ∷ flat_map (λ (job : JobState U). job.row.ins) jobs)
  within_ins = within-wired (1 ∷ flat_map (λ (job : JobState U). job.row.ins) jobs) n reads

  pub within_outs : All (λ e. e < n) (0 ∷ flat_map (λ (job : JobState U). job.row.outs) jobs)
  within_outs = within-wired (0 ∷ flat_map (λ (job : JobState U). job.row.outs) jobs) n writes

  -- at each number stand the two ends of one ring
  pub same_rings : (rs ws : List (Option RingName)) → length rs ≡ n → length ws ≡ n
      → placed_all (λ (job : JobState U). job.row.ins) (λ job. job.reads) jobs (set rs 1 (Some last))
      ≡ placed_all (λ (job : JobState U). job.row.outs) (λ job. job.writes) jobs (set ws 0 (Some first))
  same_rings rs ws many_ins many_outs =
      same-slots linked.name n
      (placed_all (λ (job : JobState U). job.row.ins) (λ job. job.reads) jobs (set rs 1 (Some last)))
      (placed_all (λ (job : JobState U). job.row.outs) (λ job. job.writes) jobs (set ws 0 (Some first)))
      (length-after (λ (job : JobState U). job.row.ins) (λ job. job.reads) jobs long_reads n 1 last rs reads many_ins)
      (length-after (λ (job : JobState U). job.row.outs) (λ job. job.writes) jobs long_writes n 0 first ws writes many_outs)
      (slot-after (λ (job : JobState U). job.row.ins) (λ job. job.reads) jobs long_reads n 1 last rs reads many_ins linked.name linked.last_is each_in)
      (slot-after (λ (job : JobState U). job.row.outs) (λ job. job.writes) jobs long_writes n 0 first ws writes many_outs linked.name linked.first_is each_out)

  -- by what stands at each number then
  module _ (before taken : List Message) (gs ps : List (Option (List Message))) (many_ins : length gs ≡ n) (many_outs : length ps ≡ n) where
    abbrev gots : List (Option (List Message))
    gots = placed_all (λ (job : JobState U). job.row.ins) (λ job. job.gots) jobs (set gs 1 (Some taken))

    abbrev puts : List (Option (List Message))
    puts = placed_all (λ (job : JobState U). job.row.outs) (λ job. job.puts) jobs (set ps 0 (Some before))

    pub IsSettled-rings : AllZip IsFirst gots puts → IsSettled before jobs taken
    IsSettled-rings begins = record {
      got = λ e. unwrap_or (slot gots e) [];
      put = λ e. unwrap_or (slot puts e) [];
      first = λ e. IsFirst-lists (slot gots e) (slot puts e) (first-at gots puts begins e);
      fed = ap (λ o. unwrap_or o []) (slot-after-first (λ (job : JobState U). job.row.outs) (λ job. job.puts) jobs long_puts n 0 before ps writes many_outs);
      drained = ap (λ o. unwrap_or o []) (slot-after-first (λ (job : JobState U). job.row.ins) (λ job. job.gots) jobs long_gots n 1 taken gs reads many_ins);
      each = All-both
          (λ (job : JobState U). map (λ e. slot gots e) job.row.ins ≡ map (λ x. Some x) job.gots)
          (λ (job : JobState U). map (λ e. slot puts e) job.row.outs ≡ map (λ x. Some x) job.puts)
          (λ job. HasMoved (λ e. unwrap_or (slot gots e) []) (λ e. unwrap_or (slot puts e) []) job)
          (λ job ins outs. record {
            gots = sym (map-unwrapped [] (λ e. slot gots e) job.row.ins job.gots ins);
            puts = sym (map-unwrapped [] (λ e. slot puts e) job.row.outs job.puts outs);
          })
          jobs
          (All-after (λ (job : JobState U). job.row.ins) (λ job. job.gots) jobs long_gots n 1 taken gs reads many_ins)
          (All-after (λ (job : JobState U). job.row.outs) (λ job. job.puts) jobs long_puts n 0 before ps writes many_outs);
    }

-- slots beside one another, in which what was got is the first of what was put at each number
pub AllZip-firsts : (gots puts : List (Option (List Message))) → length gots ≡ length puts → ((e : ℕ) → e < length gots → IsFirst (slot gots e) (slot puts e))
    → AllZip IsFirst gots puts
AllZip-firsts [] [] long each = tt
AllZip-firsts [] (p ∷ puts) long each = absurd (omega (arith, long))
AllZip-firsts (g ∷ gots) [] long each = absurd (omega (arith, long))
AllZip-firsts (g ∷ gots) (p ∷ puts) long each =
    (each zero (omega arith), AllZip-firsts gots puts (omega (arith, long)) (λ e within. each (suc e) (omega (arith, within))))
