-- A network in its opening state can be swept.
use Rattle.std.proofs.Common.{◌≡◌, ◌≢◌, ℕ, zero, suc, ◌+◌, ◌*◌, ◌-◌, ◌<◌, ◌≤◌, Bool, false, List, [], ◌∷◌, ◌++◌, length, map, get_or, slice_index_or, refl, sym, ap, ◌∙◌, subst, inl, inr, arith}
use Rattle.std.specs.List.{AllByRecursion}
use Rattle.std.proofs.lemmas.Bool.{true≢false, or_parts, cases_lt}
use Rattle.std.proofs.lemmas.Bool.Decides.{eqb_tells}
use Rattle.std.proofs.lemmas.List.{length-map, get_or-map, get_or_default}
use Rattle.ff_rec.specs.Lines.{Rec}
use Rattle.ff_node.specs.Behaviour.{Behaviour, KeepsKind}
use Rattle.ff_node.specs.Classes.{ClassLaw}
use Rattle.ff_net.specs.declared.net.Sched.TheVariants.{Rr as InTurn, Od as OnDemand}
use Rattle.ff_net.specs.declared.net.Route.{Route}
use Rattle.ff_net.specs.declared.net.Route.TheVariants.{Rr, Od, By}
use Rattle.ff_net.specs.Counts.{count, edges, inner_edges, units as units_of_all}
use Rattle.ff_net.specs.Forms.{has_choice, any_choice}
use Rattle.ff_net.specs.Good.{Good}
use Rattle.ff_net.specs.Places.{child}
use Rattle.ff_net.specs.Tree.{Tree, Trees, Leaf, Pipe, Comb, Farm, OFarm, A2a, Wrap, none, more}
use Rattle.ff_plan.specs.declared.kind.Queue.TheVariants.{Ring}
use Rattle.ff_plan.specs.declared.kind.UnitKind.{UnitKind}
use Rattle.ff_plan.specs.declared.kind.UnitKind.TheVariants.{Stage, DealRr, DealOd, DealBy, Merge, ODealRr, ODealOd, OMergeTurn, OMergePick, Master, Worker}
use Rattle.ff_plan.specs.declared.layout.Edge.{Edge}
use Rattle.ff_plan.specs.Laying.{lay, lay_parts, lay_copies, copies, row_deals, column_merges, route_kind, units_of}
use Rattle.ff_plan.specs.Plans.{rows_of, plan_of, edge_of}
use Rattle.ff_plan.specs.Rows.{Laid, laid, range}
use Rattle.ff_plan.specs.WiringLaws.{IsJoined}
use Rattle.ff_plan.proofs.JoinedUnits.{is_joined}
use Rattle.ff_plan.proofs.LaidUnits.{length-rows_of}
use Rattle.ff_unit.specs.Units.{Doing, IsUnit}
use Rattle.ff_steps.specs.Events.{Event, Follows}
use Rattle.ff_steps.specs.Core.{CoreState, party, edge}
use Rattle.ff_steps.specs.Links.{edge_at}
use Rattle.ff_steps.specs.NetCores.{opened_net, edge_queues}
use Rattle.ff_steps.specs.NetUnits.{NetState, net_does, opening_net}
use Rattle.ff_steps.specs.PlanUnits.{opened_unit, opened_kind}
use Rattle.ff_steps.proofs.NetMade.{some-cap, IsSound-net, IsNetCore-net}
use Rattle.ff_steps.proofs.PartyAt.{length-parties, party-unit, party-feeder, party-drainer}
use Rattle.ff_steps.proofs.Shapes.{length-range}
use Rattle.ff_sweeps.proofs.Bands.{all-append}
use Rattle.ff_sweeps.specs.Cuts.{IsPlainUnit}
use Rattle.ff_sweeps.specs.NeverStuck.{NeverStuck, EachSweepMoves}
use Rattle.ff_sweeps.proofs.Progress.{moved-rises, moved-ends}
use Rattle.ff_sweeps.proofs.SweepMoves.{sweep_moves, sweeps_move}
use Rattle.ff_sweeps.proofs.Potentials.{IsPlainParty}
use Rattle.ff_sweeps.proofs.Budgets.{sweeps_end}
use Rattle.ff_sweeps.proofs.SweepSteps.{Keeps}

abbrev IsPlainKind : UnitKind → Type 0
IsPlainKind Master = ⊥
IsPlainKind Worker = ⊥
IsPlainKind _ = Unit {0}

plain_route : (r : Route) → IsPlainKind (route_kind r)
plain_route Rr = tt
plain_route Od = tt
plain_route (By f) = tt

module _ {N : Type 0} where
  abbrev ArePlain : List (Laid N) → Type 0
  ArePlain ls = AllByRecursion (λ (l : Laid N). IsPlainKind l.row.kind) ls

  both : (ls ks : List (Laid N)) → ArePlain ls → ArePlain ks → ArePlain (ls ++ ks)
  both ls ks left right = all-append (λ (l : Laid N). IsPlainKind l.row.kind) ls ks left right

  plain_stages : (at : List ℕ) (t : Tree N) (i o n : ℕ) → ArePlain (copies Stage at t i o n)
  plain_stages at t i o zero = tt
  plain_stages at t i o (suc n) = (tt, plain_stages at t (suc i) (suc o) n)

  plain_deals : (r : Route) (at : List ℕ) (t : Tree N) (m b c n : ℕ) → ArePlain (row_deals (route_kind r) at t m b c n)
  plain_deals r at t m b c zero = tt
  plain_deals r at t m b c (suc n) = (plain_route r, plain_deals r at t m (suc b) (c + m) n)

  plain_merges : (at : List ℕ) (t : Tree N) (n m c d k : ℕ) → ArePlain (column_merges at t n m c d k)
  plain_merges at t n m c d zero = tt
  plain_merges at t n m c d (suc k) = (tt, plain_merges at t n m (suc c) (suc d) k)

  plain_copies : (one : ℕ → ℕ → ℕ → List (Laid N)) → ((i o e : ℕ) → ArePlain (one i o e)) → (width i o e n : ℕ) → ArePlain (lay_copies one width i o e n)
  plain_copies one each width i o e zero = tt
  plain_copies one each width i o e (suc n) = both (one i o e) (lay_copies one width (suc i) (suc o) (e + width) n) (each i o e) (plain_copies one each width (suc i) (suc o) (e + width) n)

  mutual
    plain_lay : (t : Tree N) → has_choice t ≡ false → (at : List ℕ) (i o e : ℕ) → ArePlain (lay at t i o e)
    plain_lay (Leaf x) fixed at i o e = (tt, tt)
    plain_lay (Comb ts) fixed at i o e = (tt, tt)
    plain_lay (Pipe ts) fixed at i o e = plain_parts ts fixed at 1 i o e (e + (count ts - 1))
    plain_lay (Farm n OnDemand w) fixed at i o e = absurd (true≢false fixed)
    plain_lay (Farm n InTurn w) fixed at i o e =
        let workers = lay_copies (lay (child at 1) w) (inner_edges w) e (e + n) (e + 2 * n) n in (
          tt,
          both workers (laid Merge (range (e + n) n) (o ∷ []) at (Farm n InTurn w) ∷ [])
              (plain_copies (lay (child at 1) w) (λ j q f. plain_lay w fixed (child at 1) j q f) (inner_edges w) e (e + n) (e + 2 * n) n) (tt, tt),
        )
    plain_lay (OFarm n OnDemand w) fixed at i o e = absurd (true≢false fixed)
    plain_lay (OFarm n InTurn w) fixed at i o e =
        let workers = lay_copies (lay (child at 1) w) (inner_edges w) e (e + n) (e + 2 * n + 0) n in (
          tt,
          both workers (laid OMergeTurn (range (e + n) n ++ []) (o ∷ []) at (OFarm n InTurn w) ∷ [])
              (plain_copies (lay (child at 1) w) (λ j q f. plain_lay w fixed (child at 1) j q f) (inner_edges w) e (e + n) (e + 2 * n + 0) n) (tt, tt),
        )
    plain_lay (A2a n l r m t) fixed at i o e =
        let form : Tree N = A2a n l r m t in
        let c = e + 2 * n in
        let d = c + n * m in
        let f = d + m in
        let lefts = copies Stage (child at 1) l e (e + n) n in
        let deals = row_deals (route_kind r) at form m (e + n) c n in
        let merges = column_merges at form n m c d m in
        let rights = copies Stage (child at 2) t d f m in
        let last : List (Laid N) = laid Merge (range f m) (o ∷ []) at form ∷ [] in (
          tt,
          both lefts (deals ++ (merges ++ (rights ++ last))) (plain_stages (child at 1) l e (e + n) n)
              (both deals (merges ++ (rights ++ last)) (plain_deals r at form m (e + n) c n)
              (both merges (rights ++ last) (plain_merges at form n m c d m)
              (both rights last (plain_stages (child at 2) t d f m) (tt, tt)))),
        )
    plain_lay (Wrap n w p) fixed at i o e = absurd (true≢false fixed)

    plain_parts : (ts : Trees N) → any_choice ts ≡ false → (at : List ℕ) (k i o j e : ℕ) → ArePlain (lay_parts at k ts i o j e)
    plain_parts none fixed at k i o j e = tt
    plain_parts (more t none) fixed at k i o j e = plain_lay t (or_parts (has_choice t) false fixed).0 (child at k) i o e
    plain_parts (more t (more u us)) fixed at k i o j e =
        let free = or_parts (has_choice t) (any_choice (more u us)) fixed in
        both (lay (child at k) t i j e) (lay_parts at (k + 1) (more u us) j o (suc j) (e + inner_edges t))
        (plain_lay t free.0 (child at k) i j e) (plain_parts (more u us) free.1 at (k + 1) j o (suc j) (e + inner_edges t))

-- the input stays
pub follows_input : {U : Type 0} (d : Doing U) (P : CoreState U → Type 0) (ps : List ℕ) (c c' : CoreState U) → Follows d P ps c c' → c'.input ≡ c.input
follows_input d P [] c c' chain = ap (λ (x : CoreState _). x.input) chain
follows_input {U} d P (p ∷ ps) c c' chain = follows_input d P ps chain.0 c' chain.3 ∙ by chain.1
  where
    by : Event d p c chain.0 → chain.0.input ≡ c.input
    by (inl event) = event.1.made.1
    by (inr same) = ap (λ (x : CoreState U). x.input) same.1

module _ {N : Type 0} (b : Behaviour N) (kind : KeepsKind b) (law : (o : N) → ClassLaw b o (b.class o)) (laws : IsUnit (net_does b)) (m : ℕ) (keep : Bool) (t : Tree N) (good : Good b t)
    (fixed : has_choice t ≡ false) (cap : ℕ) (some : 1 ≤ cap) (input : List Rec) where
  abbrev c : CoreState (NetState N)
  c = opened_net b m keep t cap input

  joined : IsJoined t
  joined = is_joined b t good

  plain_kind : (is_of : UnitKind) (s : Tree N) (n k : ℕ) → IsPlainKind is_of → IsPlainUnit (opened_kind b m keep is_of s n k)
  plain_kind Stage s n k plain = tt
  plain_kind DealRr s n k plain = tt
  plain_kind DealOd s n k plain = tt
  plain_kind (DealBy f) s n k plain = tt
  plain_kind Merge s n k plain = tt
  plain_kind ODealRr s n k plain = tt
  plain_kind ODealOd s n k plain = tt
  plain_kind OMergeTurn s n k plain = tt
  plain_kind OMergePick s n k plain = tt
  plain_kind Master s n k plain = absurd plain
  plain_kind Worker s n k plain = absurd plain

  plain_at : (ls : List (Laid N)) → ArePlain ls → (i : ℕ) (u : NetState N) → i < length ls → IsPlainUnit (slice_index_or (map (opened_unit b m keep) ls) i u)
  plain_at [] plain i u low = absurd (omega (arith, low))
  plain_at (l ∷ ls) plain zero u low = plain_kind l.row.kind l.net (length l.row.ins) (length l.row.outs) plain.0
  plain_at (l ∷ ls) plain (suc i) u low = plain_at ls plain.1 i u (omega (arith, low))

  many : length c.units ≡ units_of_all t
  many = length-map (units_of t) (opened_unit b m keep) ∙ sym (length-map (units_of t) (λ (l : Laid N). l.row)) ∙ length-rows_of t

  some_unit : (us : List (NetState N)) → 0 < length us → NetState N
  some_unit [] low = absurd (omega (arith, low))
  some_unit (u ∷ us) low = u

  plain_party : (p : ℕ) → p < units_of_all t + 2 → IsPlainParty (party c p)
  plain_party p low = elim (cases_lt p (units_of_all t)) [
    | inl below ↦
        let here : p < length c.units = omega (arith, below, many) in
        let u = some_unit c.units (omega (arith, here)) in
        subst IsPlainParty (sym (party-unit c p u here)) (plain_at (units_of t) (plain_lay t fixed [] 0 1 2) p u (omega (arith, here, length-map (units_of t) (opened_unit b m keep))))
    | inr from ↦ elim (eqb_tells p (units_of_all t)) [
      | inl h ↦ subst IsPlainParty (sym (party-feeder c p (many ∙ sym h.1))) tt
      | inr h ↦
          let other : p ≢ units_of_all t = h.1 in
          let last : p ≡ suc (units_of_all t) = omega (arith, other, from, low) in
          subst IsPlainParty (sym (ap (party c) last ∙ party-drainer c (units_of_all t) many)) tt
    ]
  ]

  queue-cap : (es : List Edge) (e : ℕ) (d : Edge) → e < length es → (edge_at (edge_queues es) e).cap ≡ (get_or es e d).cap
  queue-cap [] e d low = absurd (omega (arith, low))
  queue-cap (x ∷ es) zero d low = refl
  queue-cap (x ∷ es) (suc e) d low = queue-cap es e d (omega (arith, low))

  some_edge : (es : List Edge) → 0 < length es → Edge
  some_edge [] low = absurd (omega (arith, low))
  some_edge (x ∷ es) low = x

  length-edges : length (plan_of t cap Ring).edges ≡ edges t
  length-edges = length-map (range 0 (edges t)) (edge_of (rows_of t) cap Ring) ∙ length-range 0 (edges t)

  caps : (e : ℕ) → e < edges t → 1 ≤ (edge c e).cap
  caps e low =
      let es = (plan_of t cap Ring).edges in
      let here : e < length es = omega (arith, low, length-edges) in
      let d = some_edge es (omega (arith, here)) in
      let one = some-cap t cap some es refl e d here in
      omega (arith, one, queue-cap es e d here)

  untold : (i : ℕ) (u : NetState N) → i < length c.units → (net_does b).told (slice_index_or c.units i u) ≡ false
  untold i u low =
      let w = slice_index_or c.units i u in
      let made = (IsNetCore-net b m keep t kind good joined cap input).made in
      let again : slice_index_or c.units i (opening_net b u) ≡ opening_net b w = ap (λ us. slice_index_or us i (opening_net b u)) (sym made) ∙ get_or-map (opening_net b) c.units i u (opening_net b u) low in
      let same : w ≡ opening_net b w = get_or_default c.units i u (opening_net b u) low ∙ again in
      ap (net_does b).told same ∙ (laws.opened w).1

  pub keeps_opened : Keeps b kind laws m keep t (units_of_all t) c
  keeps_opened = record {
    is = IsNetCore-net b m keep t kind good joined cap input;
    sound = IsSound-net b m keep t kind good joined cap input;
    run = record { many = length-map (plan_of t cap Ring).edges _ ∙ length-edges; caps = caps; untold = untold };
    plain = plain_party;
    many = many;
  }

-- no network of the plain kind gets stuck
pub never_stuck : {N : Type 0} (b : Behaviour N) (kind : KeepsKind b) (law : (o : N) → ClassLaw b o (b.class o)) (laws : IsUnit (net_does b)) (m : ℕ) (keep : Bool) (t : Tree N) (good : Good b t)
    (fixed : has_choice t ≡ false) → NeverStuck b m keep t
never_stuck b kind law laws m keep t good fixed cap input c some chain =
    sweeps_end b kind law laws m keep t good fixed (units_of_all t) (opened_net b m keep t cap input) c (keeps_opened b kind law laws m keep t good fixed cap some input) (follows_input (net_does b) _ _ (opened_net b m keep t cap input) c chain) chain

-- each sweep moves something
pub each_sweep_moves : {N : Type 0} (b : Behaviour N) (kind : KeepsKind b) (law : (o : N) → ClassLaw b o (b.class o)) (laws : IsUnit (net_does b)) (m : ℕ) (keep : Bool) (t : Tree N) (good : Good b t)
    (fixed : has_choice t ≡ false) → EachSweepMoves b m keep t
each_sweep_moves b kind law laws m keep t good fixed cap input made c d some before one going long =
    let start = keeps_opened b kind law laws m keep t good fixed cap some input in
    let inv = (sweeps_move b kind laws m keep t good fixed (units_of_all t) made (opened_net b m keep t cap input) c start before).0 in
    let moved = sweep_moves b kind laws m keep t good fixed (units_of_all t) c d inv one long in
    elim moved.1 [
      | inl raised ↦ moved-rises b (edges t) (units_of_all t + 2) c d raised
      | inr ended ↦ moved-ends b c d (omega (arith, length-parties c, length-parties d, inv.many, moved.0.many)) going ended
    ]
