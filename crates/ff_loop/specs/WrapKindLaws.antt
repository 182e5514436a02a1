-- No act of the master of a wrap changes which wrap it is of, and only being told to abort tells it so.
use Rattle.std.specs.Prelude.{◌≡◌, ℕ, zero, suc, Bool, true, false, List, [], ◌∷◌, if◌then◌else◌, slice_set}
use Rattle.std.proofs.Common.{refl, sym, ap, ap₂, ◌∙◌, subst, inl, inr}
use Rattle.ff_rec.specs.Lines.{Rec}
use Rattle.ff_rec.specs.declared.msg.Msg.TheVariants.{Item, Mark, Pick, Eos as EosMsg, Abort as AbortMsg}
use Rattle.ff_net.specs.Logs.{Event}
use Rattle.ff_node.specs.Runs.{Message, Act, Took, Gave, Refused, Idle, Told, Handed}
use Rattle.ff_unit.specs.Closing.{any_live}
use Rattle.ff_unit.specs.DealPairLaws.{Pair}
use Rattle.ff_unit.specs.Units.{taken_by, told_by}
use Rattle.ff_unit.specs.declared.mode.Mode.{Mode}
use Rattle.ff_unit.specs.declared.mode.Mode.TheVariants.{Live, Shut, Cut}
use Rattle.ff_loop.specs.Rounds.{test_of, limit_of, workers_of, GoesRound}
use Rattle.ff_loop.specs.WrapMasters.{WrapState, WrapStep, WrapTakes, WorkingTakes, Pulls, GoesNext, shut_takes, cut_takes, opened_wrap, opening_wrap}

-- it is of one wrap as before, and was told to abort or not as before
record KeepsKind (u v : WrapState) : Type 0 where
  test : test_of v.round ≡ test_of u.round
  limit : limit_of v.round ≡ limit_of u.round
  workers : workers_of v.round ≡ workers_of u.round
  told : v.told ≡ u.told

KeepsKind-same : (u v : WrapState) → v.round ≡ u.round → v.told ≡ u.told → KeepsKind u v
KeepsKind-same u v round told = record { test = ap test_of round; limit = ap limit_of round; workers = ap workers_of round; told = told }

KeepsKind-round : (u v : WrapState) {events : List Event} {out : List Rec} → GoesRound u.round v.round events out → v.told ≡ u.told → KeepsKind u v
KeepsKind-round u v goes told = record { test = goes.test; limit = goes.limit; workers = goes.workers; told = told }

KeepsKind-on : (u w v : WrapState) → KeepsKind u w → KeepsKind w v → KeepsKind u v
KeepsKind-on u w v first next = record {
  test = next.test ∙ first.test;
  limit = next.limit ∙ first.limit;
  workers = next.workers ∙ first.workers;
  told = next.told ∙ first.told;
}

-- by an equation of states
KeepsKind-is : (u w : WrapState) {v : WrapState} → w ≡ v → KeepsKind u v → KeepsKind u w
KeepsKind-is u w e kept = subst (KeepsKind u) (sym e) kept

KeepsKind-as : (u w : WrapState) {v : WrapState} → w ≡ v → v.round ≡ u.round → v.told ≡ u.told → KeepsKind u w
KeepsKind-as u w e round told = KeepsKind-is u w e (KeepsKind-same u _ round told)

-- a message is taken by one that works
working-kind : (u : WrapState) (k : ℕ) (m : Message) (w : WrapState) → WorkingTakes u k m w → KeepsKind u w
working-kind u zero (Item x) w (inl f) = KeepsKind-round u w f.round (ap (λ s. s.told) f.same)
working-kind u zero (Item x) w (inr e) = KeepsKind-as u w e refl refl
working-kind u zero Mark w e = KeepsKind-as u w e refl refl
working-kind u zero (Pick i) w e = KeepsKind-as u w e refl refl
working-kind u zero EosMsg w e = KeepsKind-as u w e refl refl
working-kind u zero AbortMsg w e = KeepsKind-as u w e refl refl
working-kind u (suc j) (Item x) w (inl e) = KeepsKind-as u w e refl refl
working-kind u (suc j) (Item x) w (inr e) = KeepsKind-as u w e refl refl
working-kind u (suc j) Mark w (inl a) = KeepsKind-round u w a.round (ap (λ s. s.told) a.same)
working-kind u (suc j) Mark w (inr e) = KeepsKind-as u w e refl refl
working-kind u (suc j) (Pick i) w e = KeepsKind-as u w e refl refl
working-kind u (suc j) EosMsg w e = KeepsKind-as u w e refl refl
working-kind u (suc j) AbortMsg w e = KeepsKind-as u w e refl refl

-- or by one that reads its ins to their ends
shut-kind : (u : WrapState) (k : ℕ) (m : Message) → KeepsKind u (shut_takes u k m)
shut-kind u k (Item x) = KeepsKind-same u u refl refl
shut-kind u k Mark = KeepsKind-same u u refl refl
shut-kind u k (Pick i) = KeepsKind-same u u refl refl
shut-kind u k EosMsg = by (any_live (slice_set u.live k false))
  where
    by : (b : Bool) → KeepsKind u (if b then record u { live = slice_set u.live k false } else record u { live = slice_set u.live k false; held = (workers_of u.round, EosMsg) ∷ [] })
    by true = KeepsKind-same u (record u { live = slice_set u.live k false }) refl refl
    by false = KeepsKind-same u (record u { live = slice_set u.live k false; held = (workers_of u.round, EosMsg) ∷ [] }) refl refl
shut-kind u k AbortMsg = KeepsKind-same u (shut_takes u k AbortMsg) refl refl

cut-kind : (u : WrapState) (k : ℕ) (m : Message) → KeepsKind u (cut_takes u k m)
cut-kind u k (Item x) = KeepsKind-same u u refl refl
cut-kind u k Mark = KeepsKind-same u u refl refl
cut-kind u k (Pick i) = KeepsKind-same u u refl refl
cut-kind u k EosMsg = KeepsKind-same u (cut_takes u k EosMsg) refl refl
cut-kind u k AbortMsg = KeepsKind-same u (cut_takes u k AbortMsg) refl refl

takes-kind : (mode : Mode) (u : WrapState) (k : ℕ) (m : Message) (w : WrapState) → WrapTakes mode u k m w → KeepsKind u w
takes-kind Live u k m w takes = working-kind u k m w takes
takes-kind Shut u k m w e = KeepsKind-is u w e (shut-kind u k m)
takes-kind Cut u k m w e = KeepsKind-is u w e (cut-kind u k m)

-- what is to be put next
next-kind : (w v : WrapState) → GoesNext w v → KeepsKind w v
next-kind w v (inl (inl n)) = KeepsKind-round w v n.gives (ap (λ s. s.told) n.same)
next-kind w v (inl (inr (inl n))) = KeepsKind-round w v n.round (ap (λ s. s.told) n.same)
next-kind w v (inl (inr (inr (inl n)))) = KeepsKind-round w v n.round (ap (λ s. s.told) n.same)
next-kind w v (inl (inr (inr (inr n)))) = KeepsKind-round w v n.round (ap (λ s. s.told) n.same)
next-kind w v (inr n) =
    KeepsKind-on w n.0 v (KeepsKind-round w n.0 n.1.0 (ap (λ s. s.told) n.1.1)) (KeepsKind-as n.0 v n.2 refl refl)

pulls-kind : (mode : Mode) (held : List Pair) (w v : WrapState) → Pulls mode held w v → KeepsKind w v
pulls-kind Live [] w v n = next-kind w v n
pulls-kind Live (pair ∷ held) w v e = KeepsKind-as w v e refl refl
pulls-kind Shut held w v e = KeepsKind-as w v e refl refl
pulls-kind Cut held w v e = KeepsKind-as w v e refl refl

-- but for being told to abort
step-kind : (u : WrapState) (act : Act) (v : WrapState) → WrapStep u act v → KeepsKind (record u { told = told_by act u.told }) v
step-kind u (Took k m) v s = KeepsKind-on u s.2 v (takes-kind u.mode u k m s.2 s.3) (pulls-kind s.2.mode s.2.held s.2 v s.4)
step-kind u (Gave k m) v s =
    KeepsKind-on u s.0 v (KeepsKind-as u s.0 s.2 refl refl) (pulls-kind s.0.mode s.0.held s.0 v s.3)
step-kind u Refused v s = KeepsKind-as u v s.1 refl refl
step-kind u Idle v (inl e) = KeepsKind-as u v e refl refl
step-kind u Idle v (inr s) = KeepsKind-as u v s.2 refl refl
step-kind u Told v s = KeepsKind-as (record u { told = true }) v s.1 refl refl
step-kind u (Handed x) v s = absurd s

pub opening-step : (u : WrapState) (act : Act) (v : WrapState) → WrapStep u act v → opening_wrap v ≡ opening_wrap u
opening-step u act v s =
    let kept = step-kind u act v s in
    ap (λ p. opened_wrap p (limit_of v.round) (workers_of v.round)) kept.test
    ∙ ap₂ (λ m n. opened_wrap (test_of u.round) m n) kept.limit kept.workers

pub told-step : (u : WrapState) (act : Act) (v : WrapState) → WrapStep u act v → v.told ≡ told_by act u.told
told-step u act v s = (step-kind u act v s).told

pub taken-step : (u : WrapState) (act : Act) (v : WrapState) → WrapStep u act v → [] ≡ taken_by act []
taken-step u (Took k m) v s = refl
taken-step u (Gave k m) v s = refl
taken-step u Refused v s = refl
taken-step u Idle v s = refl
taken-step u Told v s = refl
taken-step u (Handed x) v s = absurd s
