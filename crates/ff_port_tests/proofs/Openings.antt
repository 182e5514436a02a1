-- A queue stays open as long as open messages are put.
use Rattle.std.proofs.Common.{◌≡◌, List, [], ◌∷◌, ◌++◌, sym, ◌∙◌, ap, subst, append_assoc, Option, None, Some}
use Rattle.ff_rec.specs.Streams.{IsOpen, IsOpenMsg}
use Rattle.ff_rec.specs.declared.msg.Msg.{Msg}
use Rattle.ff_port.specs.declared.answers.Put.{Put as PutAnswer}
use Rattle.ff_port.specs.declared.answers.Put.TheVariants.{Done, Full, NoMemory}
use Rattle.ff_port.specs.Queues.{Queue, put_of, QueueTakes, QueuePuts}

module _ {T : Type 0} where
  -- an open message behind open messages
  pub IsOpen-append_one : (ms : List (Msg T)) (m : Msg T) → IsOpen ms → IsOpenMsg m → IsOpen (ms ++ m ∷ [])
  IsOpen-append_one [] m h here = (here, tt)
  IsOpen-append_one (x ∷ ms) m h here = (h.0, IsOpen-append_one ms m h.1 here)

  -- an open message was put, or none
  pub open_put : (q q' : Queue T) (m : Msg T) (answer : PutAnswer T) → QueuePuts q m answer q' → IsOpen (put_of q) → IsOpenMsg m → IsOpen (put_of q')
  open_put q q' m Done h o here =
      subst (λ x. IsOpen (put_of x)) (sym h.1) (subst (λ ms. IsOpen ms) (append_assoc q.got q.inside (m ∷ [])) (IsOpen-append_one (put_of q) m o here))
  open_put q q' m (Full back) h o here = subst (λ x. IsOpen (put_of x)) (sym h.2) o
  open_put q q' m (NoMemory back) h o here = subst (λ x. IsOpen (put_of x)) (sym h.3) o

  -- a take changes nothing of what was put
  pub put_of-take : (q q' : Queue T) (answer : Option (Msg T)) → QueueTakes q answer q' → put_of q' ≡ put_of q
  put_of-take q q' None h = ap (λ x. put_of x) h.1
  put_of-take q q' (Some m) h =
      ap (λ ms. ms ++ q'.inside) h.1 ∙ append_assoc q.got (m ∷ []) q'.inside ∙ ap (λ ms. q.got ++ ms) (sym h.0)

  pub open_take : (q q' : Queue T) (answer : Option (Msg T)) → QueueTakes q answer q' → IsOpen (put_of q) → IsOpen (put_of q')
  open_take q q' answer h o = subst (λ ms. IsOpen ms) (sym (put_of-take q q' answer h)) o
