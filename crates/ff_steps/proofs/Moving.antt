-- The steps of the feeder and the drainer.
use Rattle.std.proofs.Common.{◌≡◌, ℕ, suc, ◌+◌, ◌<◌, Bool, true, false, List, [], ◌∷◌, length, drop, Some, refl, sym, ap, ◌∙◌, append_assoc, add-one, arith}
use Rattle.std.specs.Prelude.{slice_get}
use Rattle.std.proofs.lemmas.Option.{slice_get_within, get_or_from_slice_get}
use Rattle.std.proofs.Math.Seq.{drop-cons}
use Rattle.ff_rec.specs.Lines.{Rec}
use Rattle.ff_rec.specs.declared.msg.Msg.TheVariants.{Item}
use Rattle.ff_node.specs.Runs.{Message, Took, Gave, Refused}
use Rattle.ff_port.specs.Queues.{Queue, put_of, QueueTakes, QueuePuts}
use Rattle.ff_port.specs.declared.answers.Put.TheVariants.{Done}
use Rattle.ff_steps.specs.Parties.{Feeder, Drainer, FeederGives, DrainerTakes}
use Rattle.ff_steps.specs.Moves.{next_message, passed_on, FeederMoves, DrainerMoves}
use Rattle.ff_steps.proofs.Rests.{taken-cap, taken-put}

-- what is left from a record on
pub drop-at : (xs : List Rec) (k : ℕ) (x : Rec) → slice_get xs k ≡ Some x → drop k xs ≡ x ∷ drop (suc k) xs
drop-at xs k x h = rw (drop-cons xs k x (slice_get_within xs k x h), get_or_from_slice_get xs k x x h) refl

-- the next message where memory was not refused
pub next_message-at : (xs : List Rec) (k : ℕ) (x y : Rec) (refused : Bool) → refused ≡ false → slice_get xs k ≡ Some x → y ≡ x → Item y ≡ next_message refused (drop k xs)
next_message-at xs k x y refused live h same = rw (live, drop-at xs k x h, same) refl

-- the feeder behind a record
pub passed_on-more : (xs : List Rec) (k : ℕ) (refused done : Bool) → refused ≡ false → done ≡ false → k < length xs
    → ◌≡◌ {A = Feeder} (record { left = drop (k + 1) xs; refused = refused; done = done }) (passed_on refused (drop k xs))
passed_on-more [] k refused done live undone within = absurd (omega (arith, within))
passed_on-more (x ∷ xs) k refused done live undone within = rw (live, undone, drop-cons (x ∷ xs) k x within, add-one k) refl

-- the next message takes the feeder behind it
pub FeederGives-next : (refused : Bool) (left : List Rec) (done : Bool) → done ≡ false
    → FeederGives (record { left = left; refused = refused; done = done }) (next_message refused left) (passed_on refused left)
FeederGives-next true left done undone = (refl, refl)
FeederGives-next false [] done undone = (refl, refl, refl)
FeederGives-next false (x ∷ xs) done undone = (refl, refl, rw undone refl)

-- a put of the feeder
pub FeederMoves-put : (f g : Feeder) (q r : Queue Rec) (m : Message) → m ≡ next_message f.refused f.left → f.done ≡ false → QueuePuts q m Done r
    → g ≡ passed_on f.refused f.left → FeederMoves f q g r
FeederMoves-put f g q r m next undone puts passed = record {
  act = Gave 0 m;
  steps = (refl, undone, rw (next, passed) (FeederGives-next f.refused f.left f.done undone));
  gives = ap (λ x. x ∷ []) (ap (λ x. put_of x) puts.1 ∙ sym (append_assoc q.got q.inside (m ∷ [])));
  stalls = tt;
  got = ap (λ x. x.got) puts.1;
  cap = ap (λ x. x.cap) puts.1;
}

-- a take of the drainer
pub DrainerMoves-take : (d e : Drainer) (q r : Queue Rec) (m : Message) → d.done ≡ false → QueueTakes q (Some m) r → DrainerTakes d m e → DrainerMoves d q e r
DrainerMoves-take d e q r m live takes step = record {
  act = Took 0 m;
  steps = (refl, live, step);
  takes = ap (λ x. x ∷ []) takes.1;
  stalls = tt;
  put = taken-put q r (Some m) takes;
  cap = taken-cap q r (Some m) takes;
}

-- the feeder is refused memory
pub FeederMoves-refused : (f : Feeder) (q : Queue Rec) → f.done ≡ false → f.refused ≡ false → FeederMoves f q (record f { refused = true }) q
FeederMoves-refused f q undone unrefused = record { act = Refused; steps = (undone, unrefused, refl); gives = refl; stalls = tt; got = refl; cap = refl }
