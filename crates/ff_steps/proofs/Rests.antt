-- A take or a put at one edge leaves the rest of the edges.
use Rattle.std.proofs.Common.{◌≡◌, inl, inr, ℕ, ◌<◌, true, if◌then◌else◌, List, [], ◌∷◌, length, Option, None, Some, slice_index_or, slice_set, refl, ap, ◌∙◌, append_assoc, get_or-set_same, get_or-set_other, length-set}
use Rattle.std.proofs.Math.Path.{fun_ext}
use Rattle.std.proofs.lemmas.Bool.Decides.{eqb_tells}
use Rattle.ff_rec.specs.Lines.{Rec}
use Rattle.ff_node.specs.Runs.{Message}
use Rattle.ff_port.specs.Queues.{Queue, put_of, QueueTakes, QueuePuts, empty_queue}
use Rattle.ff_port.specs.declared.answers.Put.{Put as PutAnswer}
use Rattle.ff_port.specs.declared.answers.Put.TheVariants.{Done, Full, NoMemory}
use Rattle.std.proofs.lemmas.List.{get_or_default}
use Rattle.std.specs.Borrow.{GName}
use Rattle.ff_steps.specs.Links.{edge_at, is_among, Rest, rest_of, link_of}

-- a function of the edges that is the same at the changed edge is the same at all of them
pub at-set : {A : Type 0} (f : Queue Rec → A) (edges : List (Queue Rec)) (i e : ℕ) (q : Queue Rec) → i < length edges
    → f q ≡ f (edge_at edges i) → f (edge_at (slice_set edges i q) e) ≡ f (edge_at edges e)
at-set f edges i e q within same = elim (eqb_tells e i) [
  | inl h ↦ rw h.1 (rw (get_or-set_same edges i q (empty_queue 0) within) same)
  | inr h ↦ ap f (get_or-set_other edges i e q (empty_queue 0) h.1)
]

-- the same for a function that looks away from some edges, that one among them
pub away-set : (f : Queue Rec → List Message) (edges : List (Queue Rec)) (es : List ℕ) (i e : ℕ) (q : Queue Rec) → is_among i es ≡ true
    → (if is_among e es then [] else f (edge_at (slice_set edges i q) e)) ≡ (if is_among e es then [] else f (edge_at edges e))
away-set f edges es i e q among = elim (eqb_tells e i) [
  | inl h ↦ let on : is_among e es ≡ true = ap (λ x. is_among x es) h.1 ∙ among in rw on refl
  | inr h ↦ ap (λ x. if is_among e es then [] else f x) (get_or-set_other edges i e q (empty_queue 0) h.1)
]

pub rest_is : {n n' : ℕ} {caps caps' : ℕ → ℕ} {got got' put put' : ℕ → List Message} → n ≡ n' → caps ≡ caps' → got ≡ got' → put ≡ put'
    → ◌≡◌ {A = Rest} (record { number = n; caps = caps; got = got; put = put }) (record { number = n'; caps = caps'; got = got'; put = put' })
rest_is n c g p = λ i. record { number = n i; caps = c i; got = g i; put = p i }

-- a change of an edge that is read, which keeps what was put
pub rest_of-taken : (edges : List (Queue Rec)) (ins outs : List ℕ) (i : ℕ) (q : Queue Rec) → i < length edges → is_among i ins ≡ true
    → q.cap ≡ (edge_at edges i).cap → put_of q ≡ put_of (edge_at edges i)
    → rest_of (slice_set edges i q) ins outs ≡ rest_of edges ins outs
rest_of-taken edges ins outs i q within among caps puts = rest_is
    (length-set edges i q)
    (fun_ext (λ e. at-set (λ x. x.cap) edges i e q within caps))
    (fun_ext (λ e. away-set (λ x. x.got) edges ins i e q among))
    (fun_ext (λ e. ap (λ x. if is_among e outs then [] else x) (at-set (λ x. put_of x) edges i e q within puts)))

-- a change of an edge that is written, which keeps what was got
pub rest_of-put : (edges : List (Queue Rec)) (ins outs : List ℕ) (i : ℕ) (q : Queue Rec) → i < length edges → is_among i outs ≡ true
    → q.cap ≡ (edge_at edges i).cap → q.got ≡ (edge_at edges i).got
    → rest_of (slice_set edges i q) ins outs ≡ rest_of edges ins outs
rest_of-put edges ins outs i q within among caps gots = rest_is
    (length-set edges i q)
    (fun_ext (λ e. at-set (λ x. x.cap) edges i e q within caps))
    (fun_ext (λ e. ap (λ x. if is_among e ins then [] else x) (at-set (λ x. x.got) edges i e q within gots)))
    (fun_ext (λ e. away-set (λ x. put_of x) edges outs i e q among))

-- a take
pub taken-cap : (q q' : Queue Rec) (r : Option Message) → QueueTakes q r q' → q'.cap ≡ q.cap
taken-cap q q' None h = ap (λ x. x.cap) h.1
taken-cap q q' (Some m) h = h.2

pub taken-put : (q q' : Queue Rec) (r : Option Message) → QueueTakes q r q' → put_of q' ≡ put_of q
taken-put q q' None h = ap (λ x. put_of x) h.1
taken-put q q' (Some m) h = rw (h.0, h.1) (append_assoc q.got (m ∷ []) q'.inside)

-- a put
pub put-cap : (q q' : Queue Rec) (m : Message) (r : PutAnswer Rec) → QueuePuts q m r q' → q'.cap ≡ q.cap
put-cap q q' m Done h = ap (λ x. x.cap) h.1
put-cap q q' m (Full back) h = ap (λ x. x.cap) h.2
put-cap q q' m (NoMemory back) h = ap (λ x. x.cap) h.3

pub put-got : (q q' : Queue Rec) (m : Message) (r : PutAnswer Rec) → QueuePuts q m r q' → q'.got ≡ q.got
put-got q q' m Done h = ap (λ x. x.got) h.1
put-got q q' m (Full back) h = ap (λ x. x.got) h.2
put-got q q' m (NoMemory back) h = ap (λ x. x.got) h.3

-- an edge that was read out of the list
pub edge_at-read : (edges : List (Queue Rec)) (e : ℕ) (q : Queue Rec) → e < length edges → q ≡ slice_index_or edges e q → q ≡ edge_at edges e
edge_at-read edges e q within is = is ∙ get_or_default edges e q (empty_queue 0) within

-- a take leaves what the ports are paired with, and so does a put
pub link_of-take : (name : GName) (edges : List (Queue Rec)) (ins outs : List ℕ) (i : ℕ) (q q' : Queue Rec) (r : Option Message) → i < length edges → is_among i ins ≡ true
    → q ≡ slice_index_or edges i q → QueueTakes q r q' → link_of name (slice_set edges i q') ins outs ≡ link_of name edges ins outs
link_of-take name edges ins outs i q q' r within among is takes =
    let was : q ≡ edge_at edges i = edge_at-read edges i q within is in
    ap (λ x. record { name = name; ins = ins; outs = outs; rest = x })
    (rest_of-taken edges ins outs i q' within among (taken-cap q q' r takes ∙ ap (λ x. x.cap) was) (taken-put q q' r takes ∙ ap (λ x. put_of x) was))

pub link_of-put : (name : GName) (edges : List (Queue Rec)) (ins outs : List ℕ) (i : ℕ) (q q' : Queue Rec) (m : Message) (r : PutAnswer Rec) → i < length edges → is_among i outs ≡ true
    → q ≡ slice_index_or edges i q → QueuePuts q m r q' → link_of name (slice_set edges i q') ins outs ≡ link_of name edges ins outs
link_of-put name edges ins outs i q q' m r within among is puts =
    let was : q ≡ edge_at edges i = edge_at-read edges i q within is in
    ap (λ x. record { name = name; ins = ins; outs = outs; rest = x })
    (rest_of-put edges ins outs i q' within among (put-cap q q' m r puts ∙ ap (λ x. x.cap) was) (put-got q q' m r puts ∙ ap (λ x. x.got) was))
