-- How much the jobs of a network handled that have all ended with their ins.
use Rattle.std.proofs.Common.{◌≡◌, ℕ, ◌+◌, ◌-◌, ◌≤◌, List, [], ◌∷◌, ◌++◌, length, map, sum_by, refl, sym, ap, ◌∙◌, arith}
use Rattle.std.proofs.lemmas.List.{length-append, length-map}
use Rattle.std.proofs.lemmas.List.Sums.{sum_by-cons}
use Rattle.std.proofs.lemmas.List.Elements.{All-head, All-tail}
use Rattle.std.specs.List.{All, AllByRecursion}
use Rattle.ff_rec.specs.Counts.{counted}
use Rattle.ff_rec.specs.Lines.{Rec}
use Rattle.ff_rec.specs.Streams.{carried, closed}
use Rattle.ff_rec.specs.Weights.{weigh}
use Rattle.ff_node.specs.Behaviour.{Behaviour}
use Rattle.ff_node.specs.Runs.{Message}
use Rattle.ff_net.specs.Counts.{units}
use Rattle.ff_net.specs.Tree.{Tree, Leaf, Pipe, Comb, Farm, OFarm, A2a, Wrap}
use Rattle.ff_plan.specs.Laying.{units_of}
use Rattle.ff_plan.specs.Plans.{rows_of}
use Rattle.ff_plan.specs.Rows.{Laid, Row}
use Rattle.ff_plan.proofs.LaidUnits.{length-rows_of}
use Rattle.ff_plan.proofs.WeighedIns.{ins-lay}
use Rattle.ff_plan.proofs.WeighedRows.{weigh_ins}
use Rattle.ff_plan.specs.declared.kind.UnitKind.{UnitKind}
use Rattle.ff_plan.specs.declared.kind.UnitKind.TheVariants.{Stage, DealRr, DealOd, DealBy, Merge, ODealRr, ODealOd, OMergeTurn, OMergePick, Master, Worker}
use Rattle.ff_plan.specs.WiringLaws.{unit_ins}
use Rattle.ff_plan.proofs.JoinedUnits.{is_joined}
use Rattle.ff_steps.specs.NetUnits.{net_does}
use Rattle.ff_steps.specs.OverEdges.{RanAlong}
use Rattle.ff_steps.proofs.Heads.{head-same, tail-same, cons≢nil}
use Rattle.ff_steps.proofs.OverEnds.{HasEndedWell}
use Rattle.ff_steps.proofs.Ports.{each-port}
use Rattle.ff_steps.proofs.Shapes.{IsMasterOf, IsShaped, HasShape, shapes-lay}
use Rattle.ff_steps.proofs.MessageLists.{closed-front}
use Rattle.ff_unit.specs.Units.{Doing, IsUnit}
use Rattle.ff_engine.specs.Jobs.{JobState, handled}
use Rattle.ff_engine.specs.Lines.{HasMoved}
use Rattle.ff_engine.specs.Networks.{HasLaws, UnitOf}

-- what was got from some edges
lengths : (got : ℕ → List Message) (ks : List ℕ) → sum_by (λ (ms : List Message). length ms) (map got ks) ≡ weigh (λ e. length (got e)) ks
lengths got [] = refl
lengths got (k ∷ ks) = sum_by-cons (λ ms. length ms) (got k) (map got ks) ∙ ap (λ n. length (got k) + n) (lengths got ks)

-- the jobs handled what was got from all edges of their ins, as far as a count of 64 bits tells
handled-moved : {U : Type 0} (got put : ℕ → List Message) (jobs : List (JobState U)) → All (λ job. HasMoved got put job) jobs
    → counted (weigh (λ (row : Row). weigh (λ e. length (got e)) row.ins) (map (λ job. job.row) jobs)) ≤ sum_by handled jobs
handled-moved got put [] moved = omega arith
handled-moved got put (job ∷ jobs) moved =
    let here : sum_by (λ (ms : List Message). length ms) job.gots ≡ weigh (λ e. length (got e)) job.row.ins =
    ap (λ (mss : List (List Message)). sum_by (λ ms. length ms) mss) (All-head (λ j. HasMoved got put j) job jobs moved).gots ∙ lengths got job.row.ins in
    omega (arith, here, sum_by-cons handled job jobs, handled-moved got put jobs (All-tail (λ j. HasMoved got put j) job jobs moved))

weigh-rows : {N : Type 0} (h : Row → ℕ) (ls : List (Laid N)) → weigh h (map (λ (l : Laid N). l.row) ls) ≡ weigh (λ (l : Laid N). h l.row) ls
weigh-rows h [] = refl
weigh-rows h (l ∷ ls) = ap (λ n. h l.row + n) (weigh-rows h ls)

-- the messages of a list without its Eos
abbrev inner : (ℕ → List Message) → ℕ → ℕ
inner got e = length (got e) - 1

-- a master has an in for the records, at least
master_ins : {N : Type 0} (t : Tree N) (n k : ℕ) → IsMasterOf t n k → 1 ≤ n
master_ins (Leaf o) n k shape = absurd shape
master_ins (Pipe ts) n k shape = absurd shape
master_ins (Comb ts) n k shape = absurd shape
master_ins (Farm c s w) n k shape = absurd shape
master_ins (OFarm c s w) n k shape = absurd shape
master_ins (A2a c l r j t) n k shape = absurd shape
master_ins (Wrap c w p) n k shape = omega (arith, shape.1)

-- a unit has an in at least
some_ins : {N : Type 0} (b : Behaviour N) (is_of : UnitKind) (t : Tree N) (n k : ℕ) → IsShaped b is_of t n k → 1 ≤ n
some_ins b Stage t n k shape = omega (arith, shape.0)
some_ins b DealRr t n k shape = omega (arith, shape.0)
some_ins b DealOd t n k shape = omega (arith, shape.0)
some_ins b (DealBy f) t n k shape = omega (arith, shape.0)
some_ins b Merge t n k shape = shape.0.0
some_ins b ODealRr t n k shape = omega (arith, shape.0)
some_ins b ODealOd t n k shape = omega (arith, shape.0)
some_ins b OMergeTurn t n k shape = shape.0.0
some_ins b OMergePick t n k shape = omega (arith, shape.0.is)
some_ins b Master t n k shape = master_ins t n k shape
some_ins b Worker t n k shape = omega (arith, shape.0)

module _ (got put : ℕ → List Message) where
  -- an edge from which all was got that was put there
  record IsShut (e : ℕ) : Type 0 where
    pub front : List Message
    pub is : got e ≡ closed front

  shut-ins : (es : List ℕ) (mss : List (List Message)) → map got es ≡ map closed mss → AllByRecursion IsShut es
  shut-ins [] mss are = tt
  shut-ins (e ∷ es) [] are = absurd (cons≢nil are)
  shut-ins (e ∷ es) (ms ∷ mss) are = (record { front = ms; is = head-same are }, shut-ins es mss (tail-same are))

  -- units that have ended with their ins got an end from each of them
  shut-along : {U : Type 0} (d : Doing U) → IsUnit d → (rows : List Row) (us : List U) → RanAlong d got put rows us → AllByRecursion (HasEndedWell d) us
      → AllByRecursion (AllByRecursion IsShut) (unit_ins rows)
  shut-along d laws [] us ran ended = tt
  shut-along d laws (row ∷ rows) [] ran ended = absurd ran
  shut-along d laws (row ∷ rows) (u ∷ us) ran ended =
      let whole = laws.whole u (map got row.ins) (map put row.outs) ran.0 ended.0.0 ended.0.1 in
      (shut-ins row.ins whole.ins whole.gots_are, shut-along d laws rows us ran.1 ended.1)

  -- so many ends, and what stands before them
  weigh-shut : (es : List ℕ) → AllByRecursion IsShut es → weigh (λ e. length (got e)) es ≡ length es + weigh (inner got) es
  weigh-shut [] shut = refl
  weigh-shut (e ∷ es) shut =
      let some : length (got e) ≡ length shut.0.front + 1 = ap length shut.0.is ∙ length-append shut.0.front _ in
      omega (arith, some, weigh-shut es shut.1)

  -- each unit got an end at least
  ends-got : {N : Type 0} (b : Behaviour N) (ls : List (Laid N)) → AllByRecursion (HasShape b) ls → AllByRecursion (AllByRecursion IsShut) (unit_ins (map (λ (l : Laid N). l.row) ls))
      → length ls + weigh_ins (inner got) ls ≤ weigh_ins (λ e. length (got e)) ls
  ends-got b [] shapes shut = omega arith
  ends-got b (l ∷ ls) shapes shut =
      omega (
        arith,
        some_ins b l.row.kind l.net (length l.row.ins) (length l.row.outs) shapes.0,
        weigh-shut l.row.ins shut.0,
        ends-got b ls shapes.1 shut.1,
      )

module _ {N : Type 0} (b : Behaviour N) (units_laws : IsUnit (net_does b)) (net : Tree N) (laws : HasLaws b net) (got put : ℕ → List Message) where
  -- an end for each unit, and all records
  pub handled-all : (us : List (UnitOf N)) (jobs : List (JobState (UnitOf N))) → All (λ job. HasMoved got put job) jobs → map (λ job. job.row) jobs ≡ rows_of net
      → RanAlong (net_does b) got put (rows_of net) us → AllByRecursion (HasEndedWell (net_does b)) us
      → (xs : List Rec) (rest : List Message) → put 0 ≡ got 0 ++ rest → put 0 ≡ closed (carried xs)
      → counted (units net + length xs) ≤ sum_by handled jobs
  handled-all us jobs moved rows ran ended xs rest first fed =
      let shut = shut-along got put (net_does b) units_laws (rows_of net) us ran ended in
      let j = (is_joined b net laws.good).read 0 (omega arith) (λ is. omega (arith, is)) in
      let fed_shut : IsShut got put 0 = each-port (IsShut got put) (unit_ins (rows_of net)) 0 j.party j.port shut j.at in
      let front : fed_shut.front ≡ carried xs =
      closed-front fed_shut.front rest xs (ap (λ ms. ms ++ rest) (sym fed_shut.is) ∙ sym first ∙ fed) in
      let records : length (got 0) ≡ length xs + 1 =
      ap length (fed_shut.is ∙ ap closed front) ∙ length-append (carried xs) _ ∙ ap (λ n. n + 1) (length-map xs _) in
      let many : length (units_of net) ≡ units net = sym (length-map (units_of net) (λ l. l.row)) ∙ length-rows_of net in
      let weight : weigh (λ (row : Row). weigh (λ e. length (got e)) row.ins) (map (λ job. job.row) jobs) ≡ weigh_ins (λ e. length (got e)) (units_of net) =
      ap (weigh (λ (row : Row). weigh (λ e. length (got e)) row.ins)) rows ∙ weigh-rows (λ row. weigh (λ e. length (got e)) row.ins) (units_of net) in
      omega (
        arith,
        handled-moved got put jobs moved,
        weight,
        ends-got got put b (units_of net) (shapes-lay b net laws.good [] 0 1 2) shut,
        ins-lay (inner got) b net laws.good [] 0 1 2,
        records,
        many,
      )
