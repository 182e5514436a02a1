-- The edges that a party leaves as they were, by its row.
use Rattle.std.proofs.Common.{◌≡◌, ℕ, ◌<◌, if◌then◌else◌, Bool, false, [], ◌∷◌, length, slice_index, slice_set, sym, ap, ◌∙◌, subst, arith, get_or-set_other, length-set}
use Rattle.ff_rec.specs.Lines.{Rec}
use Rattle.ff_port.specs.Queues.{Queue, put_of, empty_queue}
use Rattle.ff_steps.specs.Core.{CoreState}
use Rattle.ff_steps.specs.Events.{EdgesKeep}
use Rattle.ff_steps.specs.Links.{edge_at, Rest, rest_of}
use Rattle.ff_steps.specs.Wiring.{Row, row_at}
use Rattle.ff_steps.proofs.Rests.{at-set}
use Rattle.ff_steps.proofs.RowEnds.{is_among-not}

-- what is looked at where a test fails
looks-at : {A : Type 0} (off : Bool) (x y z : A) → off ≡ false → (if off then z else x) ≡ (if off then z else y) → x ≡ y
looks-at off x y z is same = rw is at same

-- the edges of a party, of which its ports left the rest alone
pub EdgesKeep-rest : {U : Type 0} (p : ℕ) (c c' : CoreState U)
    → rest_of c'.edges (row_at c.rows p).ins (row_at c.rows p).outs ≡ rest_of c.edges (row_at c.rows p).ins (row_at c.rows p).outs → EdgesKeep p c c'
EdgesKeep-rest p c c' rest = record {
  number = ap (λ (r : Rest). r.number) rest;
  caps = λ e. ap (λ (r : Rest). r.caps e) rest;
  got = λ e away. looks-at _ _ _ [] (is_among-not e (row_at c.rows p).ins away) (ap (λ (r : Rest). r.got e) rest);
  put = λ e away. looks-at _ _ _ [] (is_among-not e (row_at c.rows p).outs away) (ap (λ (r : Rest). r.put e) rest);
}

-- the edges of a party with no in and one out
pub EdgesKeep-to : {U : Type 0} (p : ℕ) (c c' : CoreState U) (to : ℕ) (q : Queue Rec) → row_at c.rows p ≡ record { ins = []; outs = to ∷ [] } → to < length c.edges
    → c'.edges ≡ slice_set c.edges to q → q.got ≡ (edge_at c.edges to).got → q.cap ≡ (edge_at c.edges to).cap → EdgesKeep p c c'
EdgesKeep-to p c c' to q row within is got cap = record {
  number = ap length is ∙ length-set c.edges to q;
  caps = λ e. ap (λ es. (edge_at es e).cap) is ∙ at-set (λ x. x.cap) c.edges to e q within cap;
  got = λ e away. ap (λ es. (edge_at es e).got) is ∙ at-set (λ x. x.got) c.edges to e q within got;
  put = λ e away. ap (λ es. put_of (edge_at es e)) is ∙ ap (λ x. put_of x) (get_or-set_other c.edges to e q (empty_queue 0)
      (λ same. away 0 (subst (λ (r : Row). 0 < length r.outs) (sym row) (omega arith)) (ap (λ (r : Row). slice_index r.outs 0) row ∙ sym same)));
}

-- the edges of a party with one in and no out
pub EdgesKeep-from : {U : Type 0} (p : ℕ) (c c' : CoreState U) (from : ℕ) (q : Queue Rec) → row_at c.rows p ≡ record { ins = from ∷ []; outs = [] } → from < length c.edges
    → c'.edges ≡ slice_set c.edges from q → put_of q ≡ put_of (edge_at c.edges from) → q.cap ≡ (edge_at c.edges from).cap → EdgesKeep p c c'
EdgesKeep-from p c c' from q row within is put cap = record {
  number = ap length is ∙ length-set c.edges from q;
  caps = λ e. ap (λ es. (edge_at es e).cap) is ∙ at-set (λ x. x.cap) c.edges from e q within cap;
  got = λ e away. ap (λ es. (edge_at es e).got) is ∙ ap (λ x. x.got) (get_or-set_other c.edges from e q (empty_queue 0)
      (λ same. away 0 (subst (λ (r : Row). 0 < length r.ins) (sym row) (omega arith)) (ap (λ (r : Row). slice_index r.ins 0) row ∙ sym same)));
  put = λ e away. ap (λ es. put_of (edge_at es e)) is ∙ at-set (λ x. put_of x) c.edges from e q within put;
}
