-- What an ordered merge put begins what its ins are merged to.
use Rattle.std.proofs.Common.{◌≡◌, ℕ, Bool, true, false, List, [], ◌∷◌, ◌++◌, refl, sym, ap, ◌∙◌, append-nil, append_assoc}
use Rattle.ff_rec.specs.Lines.{Rec}
use Rattle.ff_rec.specs.Streams.{added, carried}
use Rattle.ff_rec.specs.declared.msg.Msg.TheVariants.{Eos as EosMsg, Abort as AbortMsg}
use Rattle.ff_node.specs.Fits.{gather}
use Rattle.ff_node.specs.Runs.{Message}
use Rattle.ff_unit.specs.Closing.{any_live}
use Rattle.ff_unit.specs.declared.mode.Mode.{Mode}
use Rattle.ff_unit.specs.declared.mode.Mode.TheVariants.{Live, Shut, Cut}
use Rattle.ff_order.specs.OMergeTiedLaws.{Meets, ForMerged, BeginsAll, Begun, TiedLive, TiedShut, TiedAt, eos_after}
use Rattle.ff_order.specs.PortLaws.{AllGoOn-before}
use Rattle.ff_order.specs.declared.order.Order.{Order}
use Rattle.ff_port.specs.declared.answers.End.{End}
use Rattle.ff_unit.specs.MessageLaws.{before_last}
use Rattle.ff_unit.specs.CarriedLaws.{BeginsCarried-front}

-- what is said of all ins that go on from what was taken stays where more was
pub Meets-before : (order : Order) (n : ℕ) (gots ins : List (List Message)) (k : ℕ) (m : Message) (picks : List ℕ) (groups : ℕ → List (List Rec))
    → Meets order n (added gots k m) ins picks groups → Meets order n gots ins picks groups
Meets-before order n gots ins k m picks groups h = record { go_on = AllGoOn-before gots ins k m h.go_on; picks_are = h.picks_are; hold = h.hold }

pub ForMerged-before : (order : Order) (n : ℕ) (gots : List (List Message)) (k : ℕ) (m : Message) (P : List (List Message) → List Rec → Type 0)
    → ForMerged order n gots P → ForMerged order n (added gots k m) P
ForMerged-before order n gots k m P f = λ ins picks groups h. f ins picks groups (Meets-before order n gots ins k m picks groups h)

pub Begun-before : (order : Order) (n : ℕ) (gots : List (List Message)) (k : ℕ) (m : Message) (p : List Message)
    → Begun order n gots p → Begun order n (added gots k m) p
Begun-before order n gots k m p b = record { ys = b.ys; is = b.is; begins = ForMerged-before order n gots k m (λ ins all. BeginsAll b.ys all) b.begins }

-- while it merges, and once the last group was merged
pub TiedLive-begun : (order : Order) (n due : ℕ) (live : List Bool) (end : End) (gots : List (List Message)) (t : List Message)
    → TiedLive order n due live end gots t → Begun order n gots t
TiedLive-begun order n due live end gots t l = record {
  ys = l.ys;
  is = l.is;
  begins = λ ins picks groups h. let left = l.left ins picks groups h in record { more = gather left.picks left.groups; is = left.joins };
}

pub TiedShut-begun : (order : Order) (n : ℕ) (live : List Bool) (end : End) (gots : List (List Message)) (t : List Message)
    → (s : TiedShut order n live end gots t) → Begun order n gots (carried s.ys)
TiedShut-begun order n live end gots t s = record {
  ys = s.ys;
  is = refl;
  begins = λ ins picks groups h. record { more = []; is = s.exact ins picks groups h ∙ sym (append-nil s.ys) };
}

-- the front of what begins it
Begun-front : (order : Order) (n : ℕ) (gots : List (List Message)) (p zs whole : List Message) → whole ≡ p ++ zs → Begun order n gots whole → Begun order n gots p
Begun-front order n gots p zs whole e b =
    let f = BeginsCarried-front p zs b.ys (sym b.is ∙ e) in record {
      ys = f.front;
      is = f.is;
      begins = λ ins picks groups h.
          let more = b.begins ins picks groups h in
          record { more = f.more ++ more.more; is = more.is ∙ ap (λ l. l ++ more.more) f.all ∙ append_assoc f.front f.more more.more };
    }

-- what was put begins what is merged, where something is held behind it
pub TiedAt-begun : (mode : Mode) (order : Order) (n due : ℕ) (live : List Bool) (end : End) (gots : List (List Message)) (p : List Message) (m : Message) (held : List Message)
    → TiedAt mode order n due live end gots (p ++ m ∷ held) → Begun order n gots p
TiedAt-begun Live order n due live end gots p m held t =
    Begun-front order n gots p (m ∷ held) (p ++ m ∷ held) refl (TiedLive-begun order n due live end gots (p ++ m ∷ held) t)
TiedAt-begun Shut order n due live end gots p m held t = by (any_live live) t.is
  where
    front : (zs : List Message) → carried t.ys ≡ p ++ zs → Begun order n gots p
    front zs e = Begun-front order n gots p zs (carried t.ys) e (TiedShut-begun order n live end gots (p ++ m ∷ held) t)

    by : (b : Bool) → p ++ m ∷ held ≡ carried t.ys ++ eos_after b → Begun order n gots p
    by true e = front (m ∷ held) (sym (e ∙ append-nil (carried t.ys)))
    by false e = let f = before_last p held m (carried t.ys) EosMsg e in front f.0 f.1
TiedAt-begun Cut order n due live end gots p m held t =
    let f = before_last p held m t.before AbortMsg t.is in Begun-front order n gots p f.0 t.before f.1 t.begun
