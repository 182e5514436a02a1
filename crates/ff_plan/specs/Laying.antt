-- How a network is laid: its units in order, between the edge that it reads and the edge that it writes. The edges inside it
-- are numbered as they are made: those of a form first, and then those of its parts.
use Rattle.std.specs.Prelude.{ℕ, zero, suc, ◌+◌, ◌*◌, ◌-◌, List, [], ◌∷◌, ◌++◌}
use Rattle.ff_net.specs.declared.net.Sched.{Sched}
use Rattle.ff_net.specs.declared.net.Sched.TheVariants.{Rr as InTurn, Od as OnDemand}
use Rattle.ff_net.specs.declared.net.Route.{Route}
use Rattle.ff_net.specs.declared.net.Route.TheVariants.{Rr, Od, By}
use Rattle.ff_net.specs.Counts.{count, inner_edges, pick_edges}
use Rattle.ff_net.specs.Places.{child}
use Rattle.ff_net.specs.Tree.{Tree, Trees, Leaf, Pipe, Comb, Farm, OFarm, A2a, Wrap, none, more}
use Rattle.ff_plan.specs.declared.kind.UnitKind.{UnitKind}
use Rattle.ff_plan.specs.declared.kind.UnitKind.TheVariants.{Stage, DealRr, DealOd, DealBy, Merge, ODealRr, ODealOd, OMergeTurn, OMergePick, Master, Worker}
use Rattle.ff_plan.specs.Rows.{Laid, laid, range, stride}

-- the deal and the merge of each schedule, and the deal of each route
abbrev pub deal_kind : Sched → UnitKind
deal_kind InTurn = DealRr
deal_kind OnDemand = DealOd

abbrev pub odeal_kind : Sched → UnitKind
odeal_kind InTurn = ODealRr
odeal_kind OnDemand = ODealOd

abbrev pub omerge_kind : Sched → UnitKind
omerge_kind InTurn = OMergeTurn
omerge_kind OnDemand = OMergePick

abbrev pub route_kind : Route → UnitKind
route_kind Rr = DealRr
route_kind Od = DealOd
route_kind (By f) = DealBy f

-- `n` units with one node or comb, unit k from edge i + k to edge o + k
abbrev pub copies : {N : Type 0} → UnitKind → List ℕ → Tree N → ℕ → ℕ → ℕ → List (Laid N)
copies kind at t i o zero = []
copies kind at t i o (suc n) = laid kind (i ∷ []) (o ∷ []) at t ∷ copies kind at t (suc i) (suc o) n

-- `n` networks that are laid alike, network k from edge i + k to edge o + k, with `width` edges inside each, from edge e on
abbrev pub lay_copies : {N : Type 0} → (ℕ → ℕ → ℕ → List (Laid N)) → ℕ → ℕ → ℕ → ℕ → ℕ → List (Laid N)
lay_copies lay_one width i o e zero = []
lay_copies lay_one width i o e (suc n) = lay_one i o e ++ lay_copies lay_one width (suc i) (suc o) (e + width) n

-- `n` deals in the middle of an all-to-all, deal k from edge b + k to row k of the edges from c on, `m` in each row
abbrev pub row_deals : {N : Type 0} → UnitKind → List ℕ → Tree N → ℕ → ℕ → ℕ → ℕ → List (Laid N)
row_deals kind at t m b c zero = []
row_deals kind at t m b c (suc n) = laid kind (b ∷ []) (range c m) at t ∷ row_deals kind at t m (suc b) (c + m) n

-- `k` of its merges, each from one column of these edges to the next edge from d on: `n` rows of `m` edges
abbrev pub column_merges : {N : Type 0} → List ℕ → Tree N → ℕ → ℕ → ℕ → ℕ → ℕ → List (Laid N)
column_merges at t n m c d zero = []
column_merges at t n m c d (suc k) = laid Merge (stride m c n) (d ∷ []) at t ∷ column_merges at t n m (suc c) (suc d) k

-- an all-to-all: its first edges go to the left set, `b` from there to the deals, `c` on to the merges, `d` to the right set,
-- and `f` from there to the last merge
abbrev pub lay_sets : {N : Type 0} → List ℕ → Tree N → ℕ → Tree N → UnitKind → ℕ → Tree N → ℕ → ℕ → ℕ → ℕ → ℕ → ℕ → ℕ → List (Laid N)
lay_sets at form n l kind m t i o e b c d f =
    laid DealRr (i ∷ []) (range e n) at form
    ∷ (copies Stage (child at 1) l e b n
    ++ (row_deals kind at form m b c n
    ++ (column_merges at form n m c d m
    ++ (copies Stage (child at 2) t d f m
    ++ laid Merge (range f m) (o ∷ []) at form ∷ []))))

abbrev mutual
  -- a network at this place, from edge `i` to edge `o`; the edges inside it are numbered from `e` on
  pub lay : {N : Type 0} → List ℕ → Tree N → ℕ → ℕ → ℕ → List (Laid N)
  lay at (Leaf n) i o e = laid Stage (i ∷ []) (o ∷ []) at (Leaf n) ∷ []
  lay at (Pipe ts) i o e = lay_parts at 1 ts i o e (e + (count ts - 1))
  lay at (Comb ts) i o e = laid Stage (i ∷ []) (o ∷ []) at (Comb ts) ∷ []
  lay at (Farm n s w) i o e =
      laid (deal_kind s) (i ∷ []) (range e n) at (Farm n s w)
      ∷ (lay_copies (lay (child at 1) w) (inner_edges w) e (e + n) (e + 2 * n) n
      ++ laid Merge (range (e + n) n) (o ∷ []) at (Farm n s w) ∷ [])
  lay at (OFarm n s w) i o e =
      let picks = range (e + 2 * n) (pick_edges s) in
      laid (odeal_kind s) (i ∷ []) (range e n ++ picks) at (OFarm n s w)
      ∷ (lay_copies (lay (child at 1) w) (inner_edges w) e (e + n) (e + 2 * n + pick_edges s) n
      ++ laid (omerge_kind s) (range (e + n) n ++ picks) (o ∷ []) at (OFarm n s w) ∷ [])
  lay at (A2a n l r m t) i o e =
      let c = e + 2 * n in
      let d = c + n * m in
      lay_sets at (A2a n l r m t) n l (route_kind r) m t i o e (e + n) c d (d + m)
  lay at (Wrap n w p) i o e =
      laid Master (i ∷ range (e + n) n) (range e n ++ o ∷ []) at (Wrap n w p) ∷ copies Worker (child at 1) w e (e + n) n

  -- the parts of a pipe from child `k` on: the first one reads edge `i`, and the last one writes edge `o`. The edges between them
  -- are numbered from `j` on, and those inside them from `e` on
  pub lay_parts : {N : Type 0} → List ℕ → ℕ → Trees N → ℕ → ℕ → ℕ → ℕ → List (Laid N)
  lay_parts at k none i o j e = []
  lay_parts at k (more t none) i o j e = lay (child at k) t i o e
  lay_parts at k (more t (more u us)) i o j e = lay (child at k) t i j e ++ lay_parts at (k + 1) (more u us) j o (suc j) (e + inner_edges t)

-- the units of a whole network: edge 0 is its input, and edge 1 its output
abbrev pub units_of : {N : Type 0} → Tree N → List (Laid N)
units_of t = lay [] t 0 1 2
