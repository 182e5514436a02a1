-- Units with their logs, and the lists on their edges.
use Rattle.std.proofs.Common.{◌≡◌, ℕ, zero, suc, ◌<◌, List, [], ◌∷◌, ◌++◌, map, length, refl, sym, ap, ◌∙◌, subst, append_assoc, arith}
use Rattle.ff_rec.specs.Lines.{Rec}
use Rattle.ff_rec.specs.Streams.{at}
use Rattle.ff_node.specs.Behaviour.{Behaviour}
use Rattle.ff_node.specs.Runs.{Message}
use Rattle.ff_net.specs.Logs.{Event}
use Rattle.ff_plan.specs.Histories.{EachUnit, all_rejected, rejected_by}
use Rattle.ff_plan.specs.Rows.{Laid, range}
use Rattle.ff_plan.proofs.Opens.{AllOn}

-- the logs of two lists of units in a row are those of either in a row
pub record AreSplit {N : Type 0} (P : Laid N → List Event → Type 0) (ls ks : List (Laid N)) (logs : List (List Event)) : Type 0 where
  pub front : List (List Event)
  pub back : List (List Event)
  pub is : logs ≡ front ++ back
  pub left : EachUnit P ls front
  pub right : EachUnit P ks back

pub EachUnit-append : {N : Type 0} (P : Laid N → List Event → Type 0) (ls ks : List (Laid N)) (logs : List (List Event)) → EachUnit P (ls ++ ks) logs → AreSplit P ls ks logs
EachUnit-append P [] ks logs each = record { front = []; back = logs; is = refl; left = tt; right = each }
EachUnit-append P (l ∷ ls) ks [] each = absurd each
EachUnit-append P (l ∷ ls) ks (log ∷ logs) each =
    let rest = EachUnit-append P ls ks logs each.1 in
    record { front = log ∷ rest.front; back = rest.back; is = ap (λ rows. log ∷ rows) rest.is; left = (each.0, rest.left); right = rest.right }

pub EachUnit-both : {N : Type 0} (P : Laid N → List Event → Type 0) (ls ks : List (Laid N)) (logs kogs : List (List Event)) → EachUnit P ls logs → EachUnit P ks kogs
    → EachUnit P (ls ++ ks) (logs ++ kogs)
EachUnit-both P [] ks [] kogs left right = right
EachUnit-both P [] ks (log ∷ logs) kogs left right = absurd left
EachUnit-both P (l ∷ ls) ks [] kogs left right = absurd left
EachUnit-both P (l ∷ ls) ks (log ∷ logs) kogs left right = (left.0, EachUnit-both P ls ks logs kogs left.1 right)

-- the only unit
pub EachUnit-one : {N : Type 0} (P : Laid N → List Event → Type 0) (l : Laid N) (logs : List (List Event)) → EachUnit P (l ∷ []) logs → (log : List Event) × P l log
EachUnit-one P l [] each = absurd each
EachUnit-one P l (log ∷ logs) each = (log, each.0)

-- what is so of each unit
pub EachUnit-map : {N : Type 0} (P Q : Laid N → List Event → Type 0) (ls : List (Laid N)) (logs : List (List Event)) → ((l : Laid N) (log : List Event) → P l log → Q l log)
    → EachUnit P ls logs → EachUnit Q ls logs
EachUnit-map P Q [] [] gives each = tt
EachUnit-map P Q [] (log ∷ logs) gives each = absurd each
EachUnit-map P Q (l ∷ ls) [] gives each = absurd each
EachUnit-map P Q (l ∷ ls) (log ∷ logs) gives each = (gives l log each.0, EachUnit-map P Q ls logs gives each.1)

-- each unit has a log
pub EachUnit-has_log : {N : Type 0} (P : Laid N → List Event → Type 0) (ls : List (Laid N)) (logs : List (List Event)) → EachUnit P ls logs → EachUnit (λ l log. Unit {0}) ls logs
EachUnit-has_log P ls logs each = EachUnit-map P (λ l log. Unit {0}) ls logs (λ l log h. tt) each

-- what two lists of units reject
pub all_rejected-append : {N : Type 0} (b : Behaviour N) (ls ks : List (Laid N)) (edge : ℕ → List Message) → all_rejected b (ls ++ ks) edge ≡ all_rejected b ls edge ++ all_rejected b ks edge
all_rejected-append b [] ks edge = refl
all_rejected-append b (l ∷ ls) ks edge =
    let here : List Rec = rejected_by b l.row.kind l.net (map edge l.row.ins) in
    ap (λ rest. here ++ rest) (all_rejected-append b ls ks edge) ∙ sym (append_assoc here (all_rejected b ls edge) (all_rejected b ks edge))

-- the list on the only edge
pub AllOn-one : (On : ℕ → List Message → Type 0) (e : ℕ) (lists : List (List Message)) → AllOn On (e ∷ []) lists → On e (at lists 0)
AllOn-one On e [] all = absurd all
AllOn-one On e (ms ∷ rest) all = all.0

-- each of `n` edges from number `e` on has such a list: the first one list 0, the next one list 1
abbrev pub OnRange : (ℕ → List Message → Type 0) → ℕ → ℕ → (ℕ → List Message) → Type 0
OnRange On e zero lists = Unit {0}
OnRange On e (suc n) lists = On e (lists 0) × OnRange On (suc e) n (λ j. lists (suc j))

-- the first `n` lists
abbrev pub listed : {A : Type 0} → ℕ → (ℕ → A) → List A
listed zero f = []
listed (suc n) f = f 0 ∷ listed n (λ j. f (suc j))

pub at-listed : (n : ℕ) (f : ℕ → List Message) (j : ℕ) → j < n → at (listed n f) j ≡ f j
at-listed zero f j below = absurd (omega (arith, below))
at-listed (suc n) f zero below = refl
at-listed (suc n) f (suc j) below = at-listed n (λ k. f (suc k)) j (omega (arith, below))

pub length-listed : {A : Type 0} (n : ℕ) (f : ℕ → A) → length (listed n f) ≡ n
length-listed zero f = refl
length-listed (suc n) f = ap suc (length-listed n (λ j. f (suc j)))

pub map-listed : {A B : Type 0} (g : A → B) (n : ℕ) (f : ℕ → A) → map g (listed n f) ≡ listed n (λ j. g (f j))
map-listed g zero f = refl
map-listed g (suc n) f = ap (λ rest. g (f 0) ∷ rest) (map-listed g n (λ j. f (suc j)))

pub length-range : (e n : ℕ) → length (range e n) ≡ n
length-range e zero = refl
length-range e (suc n) = ap suc (length-range (suc e) n)

-- lists on a range of edges, one by one
pub OnRange-AllOn : (On : ℕ → List Message → Type 0) (e n : ℕ) (lists : List (List Message)) (f : ℕ → List Message) → AllOn On (range e n) lists → ((j : ℕ) → j < n → at lists j ≡ f j) → OnRange On e n f
OnRange-AllOn On e zero lists f all are = tt
OnRange-AllOn On e (suc n) [] f all are = absurd all
OnRange-AllOn On e (suc n) (ms ∷ rest) f all are =
    (subst (On e) (are 0 (omega arith)) all.0, OnRange-AllOn On (suc e) n rest (λ j. f (suc j)) all.1 (λ j below. are (suc j) (omega (arith, below))))

pub AllOn-listed : (On : ℕ → List Message → Type 0) (e n : ℕ) (f : ℕ → List Message) → OnRange On e n f → AllOn On (range e n) (listed n f)
AllOn-listed On e zero f on = tt
AllOn-listed On e (suc n) f on = (on.0, AllOn-listed On (suc e) n (λ j. f (suc j)) on.1)

-- a range of edges on which another thing holds
pub OnRange-map : (On There : ℕ → List Message → Type 0) (e n : ℕ) (f : ℕ → List Message) → ((k : ℕ) (ms : List Message) → On k ms → There k ms) → OnRange On e n f → OnRange There e n f
OnRange-map On There e zero f gives on = tt
OnRange-map On There e (suc n) f gives on = (gives e (f 0) on.0, OnRange-map On There (suc e) n (λ j. f (suc j)) gives on.1)
