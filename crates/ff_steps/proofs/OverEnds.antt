-- What a unit gave and rejected that ran over the edges of a network's plan and has ended with its ins.
use Rattle.std.proofs.Common.{◌≡◌, ℕ, Bool, true, false, List, [], ◌∷◌, ◌++◌, length, map, Some, refl, sym, ap, ap₂, ◌∙◌, subst, append-nil}
use Rattle.std.specs.List.{AllByRecursion}
use Rattle.ff_rec.specs.Streams.{IsOpen, closed}
use Rattle.ff_rec.specs.declared.msg.Msg.TheVariants.{Item, Mark, Pick, Eos, Abort}
use Rattle.ff_node.specs.Behaviour.{Behaviour, KeepsKind}
use Rattle.ff_node.specs.Runs.{Message, FitsWhole}
use Rattle.ff_node.specs.Sends.{counted}
use Rattle.ff_plan.specs.Histories.{FitsUnit, IsOverAt, rejected_by}
use Rattle.ff_plan.specs.Rows.{Laid}
use Rattle.ff_port.specs.declared.answers.End.TheVariants.{Eos as EosEnd}
use Rattle.ff_unit.specs.Units.{Doing, IsUnit, Ran, HasRejects}
use Rattle.ff_steps.specs.NetUnits.{NetState, net_does, opening_net, over_net, log_of_net}
use Rattle.ff_steps.specs.PlanUnits.{opened_unit}
use Rattle.ff_steps.proofs.Heads.{head-same, tail-same, cons≢nil}
use Rattle.ff_steps.proofs.PutsOpen.{EndsOnce, closed-ends_once}
use Rattle.ff_steps.proofs.Shapes.{HasShape}
use Rattle.ff_steps.proofs.UnitFits.{FitsUnit-unit, past-unit, over-unit}
use Rattle.ff_steps.proofs.UnitRejects.{rejected-unit, kept-unit, none-unit}

-- the messages before the first Eos
abbrev pub before_eos : List Message → List Message
before_eos [] = []
before_eos (Item x ∷ ms) = Item x ∷ before_eos ms
before_eos (Mark ∷ ms) = Mark ∷ before_eos ms
before_eos (Pick w ∷ ms) = Pick w ∷ before_eos ms
before_eos (Eos ∷ ms) = []
before_eos (Abort ∷ ms) = Abort ∷ before_eos ms

before_eos-closed : (ms rest : List Message) → IsOpen ms → before_eos (closed ms ++ rest) ≡ ms
before_eos-closed [] rest inner = refl
before_eos-closed (Item x ∷ ms) rest inner = ap (λ l. Item x ∷ l) (before_eos-closed ms rest inner.1)
before_eos-closed (Mark ∷ ms) rest inner = ap (λ l. Mark ∷ l) (before_eos-closed ms rest inner.1)
before_eos-closed (Pick w ∷ ms) rest inner = ap (λ l. Pick w ∷ l) (before_eos-closed ms rest inner.1)
before_eos-closed (Eos ∷ ms) rest inner = absurd inner.0
before_eos-closed (Abort ∷ ms) rest inner = absurd inner.0

pub before_eos-whole : (ms : List Message) (p : List Message) → IsOpen ms → p ≡ closed ms → before_eos p ≡ ms
before_eos-whole ms p inner is = ap before_eos (is ∙ sym (append-nil (closed ms))) ∙ before_eos-closed ms [] inner

before_eos-first : (ms g p rest : List Message) → IsOpen ms → g ≡ closed ms → p ≡ g ++ rest → before_eos p ≡ ms
before_eos-first ms g p rest inner is splits = ap before_eos (splits ∙ ap (λ l. l ++ rest) is) ∙ before_eos-closed ms rest inner

-- a unit has ended with its ins
abbrev pub HasEndedWell : {U : Type 0} → Doing U → U → Type 0
HasEndedWell d u = (d.done u ≡ true) × (d.fin u ≡ Some EosEnd)

module _ {N : Type 0} (b : Behaviour N) (kind : KeepsKind b) (laws : IsUnit (net_does b)) (m : ℕ) (keep : Bool) (got put : ℕ → List Message)
    (first : (e : ℕ) → (rest : List Message) × (put e ≡ got e ++ rest)) where
  -- the whole list on each edge, as its readers and writers see it
  abbrev pub edge : ℕ → List Message
  edge e = before_eos (put e)

  -- the whole lists that were got from these edges, and those that were put on them
  ins-whole : (es : List ℕ) (mss : List (List Message)) → AllByRecursion (λ e. EndsOnce (put e)) es → map got es ≡ map closed mss → map edge es ≡ mss
  ins-whole [] [] once is = refl
  ins-whole [] (ms ∷ mss) once is = absurd (cons≢nil (sym is))
  ins-whole (e ∷ es) [] once is = absurd (cons≢nil is)
  ins-whole (e ∷ es) (ms ∷ mss) once is =
      let here : got e ≡ closed ms = head-same is in
      let all = closed-ends_once (put e) ms (first e).0 once.0 ((first e).1 ∙ ap (λ l. l ++ (first e).0) here) in
      ap₂ (λ x xs. x ∷ xs) (before_eos-first ms (got e) (put e) (first e).0 all.0 here (first e).1) (ins-whole es mss once.1 (tail-same is))

  outs-whole : (es : List ℕ) (mss : List (List Message)) → AllByRecursion (λ e. EndsOnce (put e)) es → map put es ≡ map closed mss
      → (map edge es ≡ mss) × AllByRecursion (λ e. put e ≡ closed (edge e)) es
  outs-whole [] [] once is = (refl, tt)
  outs-whole [] (ms ∷ mss) once is = absurd (cons≢nil (sym is))
  outs-whole (e ∷ es) [] once is = absurd (cons≢nil is)
  outs-whole (e ∷ es) (ms ∷ mss) once is =
      let here : put e ≡ closed ms = head-same is in
      let all = closed-ends_once (put e) ms [] once.0 (here ∙ sym (append-nil (closed ms))) in
      let whole : edge e ≡ ms = before_eos-whole ms (put e) all.0 here in
      let rest = outs-whole es mss once.1 (tail-same is) in
      (ap₂ (λ x xs. x ∷ xs) whole rest.0, (here ∙ ap closed (sym whole), rest.1))

  -- a unit that has ended, by these lists
  pub record IsEndedAt (l : Laid N) (u : NetState N) : Type 0 where
    pub fits : FitsUnit b m l (log_of_net u) (map edge l.row.ins) (map edge l.row.outs)
    pub puts : AllByRecursion (λ e. put e ≡ closed (edge e)) l.row.outs
    pub number : (net_does b).rejects u ≡ counted (length (rejected_by b l.row.kind l.net (map edge l.row.ins)))
    pub kept : keep ≡ true → (net_does b).taken u ++ (net_does b).kept u ≡ rejected_by b l.row.kind l.net (map edge l.row.ins)
    pub none : keep ≡ false → (net_does b).kept u ≡ []
    -- it tells that it is over exactly where its log is over the limit
    pub past : over_net u ≡ true → IsOverAt m l.row.kind l.net (log_of_net u)
    pub over : IsOverAt m l.row.kind l.net (log_of_net u) → over_net u ≡ true

  pub IsEndedAt-unit : (u : NetState N) (l : Laid N) → opening_net b u ≡ opened_unit b m keep l → HasShape b l
      → AllByRecursion (λ e. EndsOnce (put e)) l.row.ins → AllByRecursion (λ e. EndsOnce (put e)) l.row.outs
      → Ran (net_does b) u (map got l.row.ins) (map put l.row.outs) → HasEndedWell (net_does b) u → IsEndedAt l u
  IsEndedAt-unit u l made shape once_in once_out ran ended = record {
    fits = subst (λ ins. FitsUnit b m l (log_of_net u) ins (map edge l.row.outs)) (sym ins_are)
        (subst (λ outs. FitsUnit b m l (log_of_net u) whole.ins outs) (sym outs_are.0) (FitsUnit-unit b kind m keep u l made shape whole.ins whole.outs whole.fits));
    puts = outs_are.1;
    number = rejects.number_is ∙ ap (λ xs. counted (length xs)) rejected;
    kept = λ k. kept-unit b kind m keep u l made shape (map got l.row.ins) rejects k ∙ rejected;
    none = none-unit b kind m keep u l made shape (map got l.row.ins) rejects;
    past = past-unit b kind m keep u l made shape (map got l.row.ins) (map put l.row.outs) ran;
    over = over-unit b kind m keep u l made shape (map got l.row.ins) (map put l.row.outs) ran;
  }
    where
      whole : FitsWhole ((net_does b).Fits u) (map got l.row.ins) (map put l.row.outs)
      whole = laws.whole u (map got l.row.ins) (map put l.row.outs) ran ended.0 ended.1

      ins_are : map edge l.row.ins ≡ whole.ins
      ins_are = ins-whole l.row.ins whole.ins once_in whole.gots_are

      outs_are : (map edge l.row.outs ≡ whole.outs) × AllByRecursion (λ e. put e ≡ closed (edge e)) l.row.outs
      outs_are = outs-whole l.row.outs whole.outs once_out whole.puts_are

      rejects : HasRejects (net_does b) u (map got l.row.ins)
      rejects = laws.rejects_are u (map got l.row.ins) (map put l.row.outs) ran ended.0 ended.1

      rejected : (net_does b).rejected u (map got l.row.ins) ≡ rejected_by b l.row.kind l.net (map edge l.row.ins)
      rejected =
          ap ((net_does b).rejected u) whole.gots_are ∙ rejected-unit b kind m keep u l made shape whole.ins
          ∙ ap (rejected_by b l.row.kind l.net) (sym ins_are)
