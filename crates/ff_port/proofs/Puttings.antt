-- What a put leaves of a queue's fields.
use Rattle.std.proofs.Common.{◌≡◌, ℕ, ◌+◌, ◌-◌, ◌<◌, ◌≤◌, true, List, [], ◌∷◌, ◌++◌, length, refl, sym, ◌∙◌, ap, subst, arith, append_assoc, length-append}
use Rattle.ff_rec.specs.Streams.{IsOpen, IsOpenMsg}
use Rattle.ff_rec.specs.declared.msg.Msg.{Msg}
use Rattle.ff_port.specs.declared.answers.Put.{Put as PutAnswer}
use Rattle.ff_port.specs.declared.answers.Put.TheVariants.{Done, Full, NoMemory}
use Rattle.ff_port.specs.Channels.{Puts}
use Rattle.ff_port.specs.Kept.{IsKept, Grows}
use Rattle.ff_port.specs.Queues.{Queue, put_of, room_of, QueuePuts}

module _ {T : Type 0} where
  -- the last of open messages is open
  IsOpenMsg-last : (ms : List (Msg T)) (m : Msg T) → IsOpen (ms ++ m ∷ []) → IsOpenMsg m
  IsOpenMsg-last [] m h = h.0
  IsOpenMsg-last (x ∷ ms) m h = IsOpenMsg-last ms m h.1

  -- the fields after a put into a queue that isn't full
  pub IsKept-put : (got inside inside' : List (Msg T)) (room room' cap : ℕ) (m : Msg T) (answer : PutAnswer T)
      → IsKept got inside room cap → length inside < cap → Grows inside m answer inside'
      → (IsOpenMsg m → length inside' < room') → IsKept got inside' room' cap
  IsKept-put got inside inside' room room' cap m Done k below grows kept = record {
    few = subst (λ ms. length ms ≤ cap) (sym grows) (omega (arith, below, length-append inside (m ∷ [])));
    some = k.some;
    kept = λ o. kept (IsOpenMsg-last (got ++ inside) m
        (subst (λ ms. IsOpen ms) (ap (λ ms. got ++ ms) grows ∙ sym (append_assoc got inside (m ∷ []))) o));
  }
  IsKept-put got inside inside' room room' cap m (Full back) k below grows kept = absurd grows
  IsKept-put got inside inside' room room' cap m (NoMemory back) k below grows kept = record {
    few = subst (λ ms. length ms ≤ cap) (sym grows.2) k.few;
    some = k.some;
    kept = λ o. kept grows.1;
  }

  -- the queue after a put into one that isn't full
  pub QueuePuts-grows : (got inside inside' : List (Msg T)) (cap : ℕ) (m : Msg T) (answer : PutAnswer T)
      → length inside < cap → Grows inside m answer inside'
      → QueuePuts (record { got = got; inside = inside; cap = cap }) m answer (record { got = got; inside = inside'; cap = cap })
  QueuePuts-grows got inside inside' cap m Done below grows =
      (below, ap (λ ms. record { got = got; inside = ms; cap = cap }) grows)
  QueuePuts-grows got inside inside' cap m (Full back) below grows = absurd grows
  QueuePuts-grows got inside inside' cap m (NoMemory back) below grows =
      (below, grows.0, grows.1, ap (λ ms. record { got = got; inside = ms; cap = cap }) grows.2)

  -- what a put does to a queue, as its writer sees it
  pub Puts-queue : (q q' : Queue T) (m : Msg T) (answer : PutAnswer T) → QueuePuts q m answer q'
      → Puts true (put_of q) (room_of q) m answer (put_of q') (room_of q')
  Puts-queue q q' m Done h =
      (ap (λ x. put_of x) h.1 ∙ sym (append_assoc q.got q.inside (m ∷ [])), subst (λ x. room_of q ≤ room_of x + 1) (sym h.1) (omega (arith, length-append q.inside (m ∷ []))))
  Puts-queue q q' m (Full back) h =
      let none : q.cap - length q.inside ≡ 0 = omega (arith, h.0) in
      (h.1, ap (λ x. put_of x) h.2, none, ap (λ x. room_of x) h.2 ∙ none)
  Puts-queue q q' m (NoMemory back) h = (h.1, ap (λ x. put_of x) h.3, refl, h.2)

  -- a put into a queue that is seen so
  pub QueuePuts-seen : (got inside inside' : List (Msg T)) (cap : ℕ) (m : Msg T) (answer : PutAnswer T) (q : Queue T)
      → record { got = got; inside = inside; cap = cap } ≡ q → length inside < cap → Grows inside m answer inside'
      → QueuePuts q m answer (record { got = got; inside = inside'; cap = cap })
  QueuePuts-seen got inside inside' cap m answer q seen below grows =
      subst (λ x. QueuePuts x m answer (record { got = got; inside = inside'; cap = cap })) seen (QueuePuts-grows got inside inside' cap m answer below grows)

  -- and as its writer sees it
  pub Puts-seen : (got inside inside' : List (Msg T)) (cap : ℕ) (m : Msg T) (answer : PutAnswer T) (q : Queue T)
      → record { got = got; inside = inside; cap = cap } ≡ q → length inside < cap → Grows inside m answer inside'
      → Puts true (put_of q) (room_of q) m answer (got ++ inside') (cap - length inside')
  Puts-seen got inside inside' cap m answer q seen below grows =
      Puts-queue q (record { got = got; inside = inside'; cap = cap }) m answer (QueuePuts-seen got inside inside' cap m answer q seen below grows)
