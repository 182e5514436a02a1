-- What the logs of all masters of a plan say in a whole run.
use Rattle.std.proofs.Common.{◌≡◌, ℕ, suc, ◌+◌, ◌-◌, false, List, [], ◌∷◌, ◌++◌, map, refl, sym, subst, inl, inr}
use Rattle.std.proofs.lemmas.Bool.{or_from}
use Rattle.ff_rec.specs.Lines.{Rec}
use Rattle.ff_rec.specs.Streams.{at, carried}
use Rattle.ff_node.specs.Behaviour.{Behaviour, KeepsKind}
use Rattle.ff_node.specs.Classes.{ClassLaw}
use Rattle.ff_node.specs.Comb.{CombIsPipeline}
use Rattle.ff_node.specs.Runs.{Message}
use Rattle.ff_net.specs.declared.net.Test.{Test}
use Rattle.ff_net.specs.Counts.{count, inner_edges}
use Rattle.ff_net.specs.Forms.{has_wrap}
use Rattle.ff_net.specs.Good.{Good, GoodParts}
use Rattle.ff_net.specs.Logs.{Event}
use Rattle.ff_net.specs.Places.{child}
use Rattle.ff_net.specs.Tree.{Tree, Trees, Leaf, Pipe, Comb, Farm, OFarm, A2a, Wrap, none, more}
use Rattle.ff_plan.specs.declared.kind.UnitKind.{UnitKind}
use Rattle.ff_plan.specs.declared.kind.UnitKind.TheVariants.{Stage, DealRr, DealOd, DealBy, Merge, ODealRr, ODealOd, OMergeTurn, OMergePick, Master, Worker}
use Rattle.ff_plan.specs.Histories.{EachUnit, IsHistory, SomeOver}
use Rattle.ff_plan.specs.Laying.{lay, lay_parts, copies}
use Rattle.ff_plan.specs.LogLaws.{LogLaw, LogLawAt, OnceAt, LogLaws}
use Rattle.ff_plan.specs.Rows.{Laid, range}
use Rattle.ff_plan.proofs.A2a.{right_is_node}
use Rattle.ff_plan.proofs.FormLaws.{node_no_wrap, pipeline_no_wrap}
use Rattle.ff_plan.proofs.Masters.{NoMaster, NoMaster-lay}
use Rattle.ff_plan.proofs.Opens.{LawOf}
use Rattle.ff_plan.proofs.Runs.{known_whole}
use Rattle.ff_plan.proofs.UnitLists.{EachUnit-append, EachUnit-both, EachUnit-has_log}
use Rattle.ff_plan.proofs.Views.{whole_view, SomeOver-left, SomeOver-right}
use Rattle.ff_plan.proofs.Wraps.{NoMaster-workers}
use Rattle.ff_plan.proofs.MasterLogs.{master_law}

-- of a unit that is no master nothing is said
LogLawAt-other : {N : Type 0} (b : Behaviour N) (m : ℕ) (kind : UnitKind) (t : Tree N) (log : List Event) (ins outs : List (List Message)) → (kind ≡ Master → ⊥) → LogLawAt b m kind t log ins outs
LogLawAt-other b m Stage t log ins outs other = tt
LogLawAt-other b m DealRr t log ins outs other = tt
LogLawAt-other b m DealOd t log ins outs other = tt
LogLawAt-other b m (DealBy f) t log ins outs other = tt
LogLawAt-other b m Merge t log ins outs other = tt
LogLawAt-other b m ODealRr t log ins outs other = tt
LogLawAt-other b m ODealOd t log ins outs other = tt
LogLawAt-other b m OMergeTurn t log ins outs other = tt
LogLawAt-other b m OMergePick t log ins outs other = tt
LogLawAt-other b m Master t log ins outs other = absurd (other refl)
LogLawAt-other b m Worker t log ins outs other = tt

OnceAt-other : {N : Type 0} (b : Behaviour N) (m : ℕ) (kind : UnitKind) (t : Tree N) (log : List Event) (ins outs : List (List Message)) → (kind ≡ Master → ⊥) → OnceAt b m kind t log ins outs
OnceAt-other b m Stage t log ins outs other = tt
OnceAt-other b m DealRr t log ins outs other = tt
OnceAt-other b m DealOd t log ins outs other = tt
OnceAt-other b m (DealBy f) t log ins outs other = tt
OnceAt-other b m Merge t log ins outs other = tt
OnceAt-other b m ODealRr t log ins outs other = tt
OnceAt-other b m ODealOd t log ins outs other = tt
OnceAt-other b m OMergeTurn t log ins outs other = tt
OnceAt-other b m OMergePick t log ins outs other = tt
OnceAt-other b m Master t log ins outs other = absurd (other refl)
OnceAt-other b m Worker t log ins outs other = tt

-- so what is said of masters alone holds of units of which none is one
EachUnit-free : {N : Type 0} (P Q : Laid N → List Event → Type 0) → ((l : Laid N) (log : List Event) → (l.row.kind ≡ Master → ⊥) → Q l log)
    → (ls : List (Laid N)) (logs : List (List Event)) → NoMaster ls → EachUnit P ls logs → EachUnit Q ls logs
EachUnit-free P Q others [] [] free each = tt
EachUnit-free P Q others [] (log ∷ logs) free each = absurd each
EachUnit-free P Q others (l ∷ ls) [] free each = absurd each
EachUnit-free P Q others (l ∷ ls) (log ∷ logs) free each = (others l log free.0, EachUnit-free P Q others ls logs free.1 each.1)

module _ {N : Type 0} (b : Behaviour N) (keeps : KeepsKind b) (law : (o : N) → ClassLaw b o (b.class o)) (combed : CombIsPipeline b) (m : ℕ) where
  -- all of them
  module _ (edge : ℕ → List Message) where
    abbrev Law : Laid N → List Event → Type 0
    Law l log = LogLawAt b m l.row.kind l.net log (map edge l.row.ins) (map edge l.row.outs)

    abbrev Once : Laid N → List Event → Type 0
    Once l log = OnceAt b m l.row.kind l.net log (map edge l.row.ins) (map edge l.row.outs)

    laws_free : (ls : List (Laid N)) (logs : List (List Event)) → NoMaster ls → IsHistory b m ls edge logs → EachUnit Law ls logs
    laws_free ls logs free history =
        EachUnit-free _ Law (λ l log other. LogLawAt-other b m l.row.kind l.net log (map edge l.row.ins) (map edge l.row.outs) other) ls logs free history

    once_free : (ls : List (Laid N)) (logs : List (List Event)) → NoMaster ls → IsHistory b m ls edge logs → EachUnit Once ls logs
    once_free ls logs free history =
        EachUnit-free _ Once (λ l log other. OnceAt-other b m l.row.kind l.net log (map edge l.row.ins) (map edge l.row.outs) other) ls logs free history

    -- the master of a wrap, by what its workers do
    law_first : (n : ℕ) (w : Tree N) (p : Test) → Good b (Wrap n w p) → (place : List ℕ) (i o e : ℕ) (log : List Event) (logs : List (List Event))
        → IsHistory b m (lay place (Wrap n w p) i o e) edge (log ∷ logs)
        → LogLawAt b m Master (Wrap n w p) log (map edge (i ∷ range (e + n) n)) (map edge (range e n ++ o ∷ []))
    law_first n w p good place i o e log logs history = λ xs fed_in.
        master_law b keeps law combed m n w p good.2 good.3 edge place i o e log logs xs (sym fed_in)
        (known_whole b m edge (copies Worker (child place 1) w e (e + n) n) logs history.1) history.0

    -- a farm, an ordered farm and an all-to-all have none
    a2a_free : (n : ℕ) (l : Tree N) (r : _) (k : ℕ) (t : Tree N) → Good b (A2a n l r k t) → has_wrap (A2a n l r k t) ≡ false
    a2a_free n l r k t good = or_from (has_wrap l) (has_wrap t) (node_no_wrap b l good.3.0 good.5) (node_no_wrap b t (right_is_node b r t good.4) good.6)

    mutual
      laws_lay : (t : Tree N) → Good b t → (place : List ℕ) (i o e : ℕ) (logs : List (List Event)) → IsHistory b m (lay place t i o e) edge logs → EachUnit Law (lay place t i o e) logs
      laws_lay (Leaf x) good place i o e logs history = laws_free (lay place (Leaf x) i o e) logs (NoMaster-lay (Leaf x) place i o e refl) history
      laws_lay (Pipe ts) good place i o e logs history = laws_parts ts good.1 place 1 i o e (e + (count ts - 1)) logs history
      laws_lay (Comb ts) good place i o e logs history = laws_free (lay place (Comb ts) i o e) logs (NoMaster-lay (Comb ts) place i o e (node_no_wrap b (Comb ts) refl good)) history
      laws_lay (Farm n s w) good place i o e logs history = laws_free (lay place (Farm n s w) i o e) logs (NoMaster-lay (Farm n s w) place i o e good.2) history
      laws_lay (OFarm n s w) good place i o e logs history =
          laws_free (lay place (OFarm n s w) i o e) logs (NoMaster-lay (OFarm n s w) place i o e (pipeline_no_wrap b w good.2 good.3)) history
      laws_lay (A2a n l r k t) good place i o e logs history =
          laws_free (lay place (A2a n l r k t) i o e) logs (NoMaster-lay (A2a n l r k t) place i o e (a2a_free n l r k t good)) history
      laws_lay (Wrap n w p) good place i o e [] history = absurd history
      laws_lay (Wrap n w p) good place i o e (log ∷ logs) history =
          (law_first n w p good place i o e log logs history, laws_free (copies Worker (child place 1) w e (e + n) n) logs (NoMaster-workers (child place 1) w e (e + n) n) history.1)

      laws_parts : (ts : Trees N) → GoodParts b ts → (place : List ℕ) (k i o j e : ℕ) (logs : List (List Event)) → IsHistory b m (lay_parts place k ts i o j e) edge logs
          → EachUnit Law (lay_parts place k ts i o j e) logs
      laws_parts none good place k i o j e logs history = laws_free [] logs tt history
      laws_parts (more t none) good place k i o j e logs history = laws_lay t good.0 (child place k) i o e logs history
      laws_parts (more t (more u us)) good place k i o j e logs history =
          let ls = lay (child place k) t i j e in
          let ks = lay_parts place (k + 1) (more u us) j o (suc j) (e + inner_edges t) in
          let split = EachUnit-append _ ls ks logs history in
          subst (λ (rows : List (List Event)). EachUnit Law (ls ++ ks) rows) (sym split.is)
          (EachUnit-both Law ls ks split.front split.back (laws_lay t good.0 (child place k) i j e split.front split.left)
          (laws_parts (more u us) good.1 place (k + 1) j o (suc j) (e + inner_edges t) split.back split.right))

    -- where none is over its limit, each part of a pipe gets records alone
    module _ (laws : (t : Tree N) → Good b t → LawOf b m (whole_view b m edge) t) where
      mutual
        once_lay : (t : Tree N) → Good b t → (place : List ℕ) (i o e : ℕ) (logs : List (List Event)) (xs : List Rec) → IsHistory b m (lay place t i o e) edge logs → carried xs ≡ edge i
            → (SomeOver m (lay place t i o e) logs → ⊥) → EachUnit Once (lay place t i o e) logs
        once_lay (Leaf x) good place i o e logs xs history in_i calm = once_free (lay place (Leaf x) i o e) logs (NoMaster-lay (Leaf x) place i o e refl) history
        once_lay (Pipe ts) good place i o e logs xs history in_i calm = once_parts ts good.1 place 1 i o e (e + (count ts - 1)) logs xs history in_i calm
        once_lay (Comb ts) good place i o e logs xs history in_i calm = once_free (lay place (Comb ts) i o e) logs (NoMaster-lay (Comb ts) place i o e (node_no_wrap b (Comb ts) refl good)) history
        once_lay (Farm n s w) good place i o e logs xs history in_i calm = once_free (lay place (Farm n s w) i o e) logs (NoMaster-lay (Farm n s w) place i o e good.2) history
        once_lay (OFarm n s w) good place i o e logs xs history in_i calm =
            once_free (lay place (OFarm n s w) i o e) logs (NoMaster-lay (OFarm n s w) place i o e (pipeline_no_wrap b w good.2 good.3)) history
        once_lay (A2a n l r k t) good place i o e logs xs history in_i calm =
            once_free (lay place (A2a n l r k t) i o e) logs (NoMaster-lay (A2a n l r k t) place i o e (a2a_free n l r k t good)) history
        once_lay (Wrap n w p) good place i o e [] xs history in_i calm = absurd history
        once_lay (Wrap n w p) good place i o e (log ∷ logs) xs history in_i calm =
            let here : LogLaw b m n w p log xs (at (map edge (range e n ++ o ∷ [])) n) = law_first n w p good place i o e log logs history xs (sym in_i) in
            ((xs, sym in_i, here, here.once (λ over. calm (inl over))), once_free (copies Worker (child place 1) w e (e + n) n) logs (NoMaster-workers (child place 1) w e (e + n) n) history.1)

        once_parts : (ts : Trees N) → GoodParts b ts → (place : List ℕ) (k i o j e : ℕ) (logs : List (List Event)) (xs : List Rec) → IsHistory b m (lay_parts place k ts i o j e) edge logs
            → carried xs ≡ edge i → (SomeOver m (lay_parts place k ts i o j e) logs → ⊥) → EachUnit Once (lay_parts place k ts i o j e) logs
        once_parts none good place k i o j e logs xs history in_i calm = once_free [] logs tt history
        once_parts (more t none) good place k i o j e logs xs history in_i calm = once_lay t good.0 (child place k) i o e logs xs history in_i calm
        once_parts (more t (more u us)) good place k i o j e logs xs history in_i calm =
            let ls = lay (child place k) t i j e in
            let ks = lay_parts place (k + 1) (more u us) j o (suc j) (e + inner_edges t) in
            let split = EachUnit-append _ ls ks logs history in
            let first = laws t good.0 (child place k) i j e split.front xs (known_whole b m edge ls split.front split.left) in_i in
            let still : SomeOver m (ls ++ ks) (split.front ++ split.back) → ⊥ = subst (λ (rows : List (List Event)). SomeOver m (ls ++ ks) rows → ⊥) split.is calm in
            let calm_front : SomeOver m ls split.front → ⊥ = λ over. still (SomeOver-left m ls split.front ks split.back over) in
            let calm_back : SomeOver m ks split.back → ⊥ = λ over. still (SomeOver-right m ls split.front ks split.back (EachUnit-has_log _ ls split.front split.left) over) in
            subst (λ (rows : List (List Event)). EachUnit Once (ls ++ ks) rows) (sym split.is)
            (EachUnit-both Once ls ks split.front split.back (once_lay t good.0 (child place k) i j e split.front xs split.left in_i calm_front)
            (elim first [
              | inl answer ↦ once_parts (more u us) good.1 place (k + 1) j o (suc j) (e + inner_edges t) split.back answer.ys split.right answer.out calm_back
              | inr burst ↦ absurd (calm_front burst.1)
            ]))

  -- the logs of a network's plan
  pub log_laws : (t : Tree N) → Good b t → ((edge : ℕ → List Message) (u : Tree N) → Good b u → LawOf b m (whole_view b m edge) u) → LogLaws b m t
  log_laws t good laws edge logs xs history fed_in = (
    laws_lay edge t good [] 0 1 2 logs history,
    (λ calm. once_lay edge (laws edge) t good [] 0 1 2 logs xs history (sym fed_in) calm),
  )
