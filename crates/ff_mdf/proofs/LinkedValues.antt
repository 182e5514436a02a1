-- By its links a statement gives what it gives in program order.
use Rattle.std.proofs.Common.{◌≡◌, ◌<◌, ◌+◌, ℕ, zero, suc, Bool, true, false, not, List, [], ◌∷◌, ◌++◌, Option, None, Some, get_or, map, refl, sym, ap, ◌∙◌, arith, below_more}
use Rattle.std.specs.Prelude.{slice_get, if◌then◌else◌, length, option_map}
use Rattle.std.proofs.lemmas.List.{get_or-map}
use Rattle.std.proofs.lemmas.Option.{get_or_from_slice_get, slice_get-get_or}
use Rattle.ff_prog.specs.Links.{AreLinks, link, link_to, operand_link, link_if, links_by, links_at}
use Rattle.ff_prog.specs.Writers.{is_first, latest, writes}
use Rattle.ff_prog.specs.declared.link.Link.{Link}
use Rattle.ff_prog.specs.declared.link.Links.{Links}
use Rattle.ff_prog.specs.declared.statement.Operand.{Operand}
use Rattle.ff_prog.specs.declared.statement.Operand.TheVariants as operand
use Rattle.ff_prog.specs.declared.statement.Statement.{Statement}
use Rattle.ff_prog.specs.declared.statement.Statement.TheVariants.{Task, Out}
use Rattle.ff_mdf.specs.declared.value.MdfAnswer.{MdfAnswer}
use Rattle.ff_mdf.specs.Answers.{AreAnswers}
use Rattle.ff_mdf.specs.Linked.{linked, linked_value, linked_if, linked_answer, named}
use Rattle.ff_mdf.specs.Stores.{Env, value_of, value_if, answer, answer_at, after}
use Rattle.ff_mdf.specs.Values.{applied, or_bad}
use Rattle.ff_mdf.specs.Versions.{version}
use Rattle.ff_mdf.proofs.Versions.{after-version}

-- the latest writer stands before the statement
pub latest-lt : (ss : List Statement) (n : List ℕ) (k j : ℕ) → latest ss n k ≡ Some j → j < k
latest-lt ss n zero j e = cc
latest-lt ss n (suc k) j e = latest_step ss n k j (writes (slice_get ss k) n) e (latest-lt ss n k j)
  where
    latest_step : (ss : List Statement) (n : List ℕ) (k j : ℕ) (w : Bool) → (if w then Some k else latest ss n k) ≡ Some j → (latest ss n k ≡ Some j → j < k) → j < suc k
    latest_step ss n k j true e below = let same : k ≡ j = cc in omega arith
    latest_step ss n k j false e below = let less : j < k = below e in omega arith

-- what a link leads to, by whether the name is the first
pub named-given : (first : Bool) (x : MdfAnswer) → named (not first) (Some x) ≡ (if first then x.first else or_bad x.second)
named-given true x = refl
named-given false x = refl

-- what the link of a name leads to is its version
linked-version : (ss : List Statement) (xs : List MdfAnswer) (k : ℕ) (n : List ℕ) (o : Option ℕ) → AreAnswers ss xs k → ((j : ℕ) → o ≡ Some j → j < k) → linked xs (option_map (link_to ss n) o) ≡ version ss n o
linked-version ss xs k n None answers below = refl
linked-version ss xs k n (Some j) answers below =
    ap (named (not (is_first (slice_get ss j) n))) (answers j (below j refl)) ∙ named-given (is_first (slice_get ss j) n) (answer_at ss j)

-- what the link of a name leads to is what the name stands for
pub linked-link : (ss : List Statement) (xs : List MdfAnswer) (k : ℕ) → AreAnswers ss xs k → (n : List ℕ) → linked xs (link ss k n) ≡ after ss k n
linked-link ss xs k answers n = linked-version ss xs k n (latest ss n k) answers (latest-lt ss n k) ∙ sym (after-version ss k n)

-- the value of an operand by its link
value_same : (xs : List MdfAnswer) (known : List ℕ → Option Link) (env : Env) → ((n : List ℕ) → linked xs (known n) ≡ env n) → (o : Operand) → linked_value xs o (operand_link known o) ≡ value_of env o
value_same xs known env h (operand.Name n) = h n
value_same xs known env h (operand.Num x) = refl

value_if_same : (xs : List MdfAnswer) (known : List ℕ → Option Link) (env : Env) → ((n : List ℕ) → linked xs (known n) ≡ env n) → (o : Option Operand) → linked_if xs o (link_if known o) ≡ value_if env o
value_if_same xs known env h None = refl
value_if_same xs known env h (Some o) = ap Some (value_same xs known env h o)

-- what a statement gives by its links
linked_answer-answer : (xs : List MdfAnswer) (known : List ℕ → Option Link) (env : Env) → ((n : List ℕ) → linked xs (known n) ≡ env n) → (s : Option Statement) → linked_answer xs s (links_by known s) ≡ answer s env
linked_answer-answer xs known env h (Some (Task first second op a b c)) =
    ap (λ v. applied op v (linked_if xs b (link_if known b)) (linked_if xs c (link_if known c))) (value_same xs known env h a)
    ∙ ap (λ v. applied op (value_of env a) v (linked_if xs c (link_if known c))) (value_if_same xs known env h b)
    ∙ ap (λ v. applied op (value_of env a) (value_if env b) v) (value_if_same xs known env h c)
linked_answer-answer xs known env h (Some (Out names)) = refl
linked_answer-answer xs known env h None = refl

-- what statement `k` gives by its links
pub linked_answer-answer_at : (ss : List Statement) (xs : List MdfAnswer) (k : ℕ) → AreAnswers ss xs k → linked_answer xs (slice_get ss k) (links_at ss k) ≡ answer_at ss k
linked_answer-answer_at ss xs k answers = linked_answer-answer xs (link ss k) (after ss k) (linked-link ss xs k answers) (slice_get ss k)

-- the answer of statement `k`, by the links and the statement at its index
pub linked_answer-index : (ss : List Statement) (xs : List MdfAnswer) (ls : List Links) (k : ℕ) (s : Statement) (d : Links) → k < length ss → AreAnswers ss xs k → AreLinks ss ls (length ss) → s ≡ get_or ss k s → linked_answer xs (Some s) (get_or ls k d) ≡ answer_at ss k
linked_answer-index ss xs ls k s d below answers links at =
    ap (λ t. linked_answer xs t (get_or ls k d)) (ap Some at ∙ sym (slice_get-get_or ss k s below))
    ∙ ap (linked_answer xs (slice_get ss k)) (get_or_from_slice_get ls k (links_at ss k) d (links k below))
    ∙ linked_answer-answer_at ss xs k answers

-- the value of a name that is put out, by the link at its index
pub linked-index : (ss : List Statement) (xs : List MdfAnswer) (names : List (List ℕ)) (k : ℕ) (n : List ℕ) → AreAnswers ss xs (length ss) → k < length names → n ≡ get_or names k n → linked xs (get_or (map (link ss (length ss)) names) k None) ≡ after ss (length ss) n
linked-index ss xs names k n answers below at =
    ap (linked xs) (get_or-map (link ss (length ss)) names k n None below ∙ ap (link ss (length ss)) (sym at)) ∙ linked-link ss xs (length ss) answers n

-- a list up to its last element, and that one
slice_get-left : {X : Type 0} (xs ys : List X) (j : ℕ) → j < length xs → slice_get (xs ++ ys) j ≡ slice_get xs j
slice_get-left [] ys j below = absurd (omega arith)
slice_get-left (x ∷ xs) ys zero below = refl
slice_get-left (x ∷ xs) ys (suc j) below = slice_get-left xs ys j (omega arith)

slice_get-end : {X : Type 0} (xs : List X) (y : X) → slice_get (xs ++ y ∷ []) (length xs) ≡ Some y
slice_get-end [] y = refl
slice_get-end (x ∷ xs) y = slice_get-end xs y

-- the answers so far, with that of one statement more
pub AreAnswers-push : (ss : List Statement) (xs new : List MdfAnswer) (k : ℕ) (x : MdfAnswer) → length xs ≡ k → AreAnswers ss xs k → new ≡ xs ++ x ∷ [] → x ≡ answer_at ss k → AreAnswers ss new (k + 1)
AreAnswers-push ss xs new k x many answers is at =
    below_more (λ j. slice_get new j ≡ Some (answer_at ss j)) k
    (λ j below. ap (λ ys. slice_get ys j) is ∙ slice_get-left xs (x ∷ []) j (omega arith) ∙ answers j below)
    (ap (λ ys. slice_get ys k) is ∙ ap (slice_get (xs ++ x ∷ [])) (sym many) ∙ slice_get-end xs x ∙ ap Some at)
