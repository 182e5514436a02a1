-- Networks that are spelled alike are the same, whatever stands behind them.
use Rattle.std.proofs.Common.{◌≡◌, ℕ, zero, suc, Bool, true, false, List, [], ◌∷◌, ◌++◌, map, codes, Option, None, Some, ℤ, refl, sym, ap, subst, ◌∙◌, append_assoc}
use Rattle.ff_rec.specs.Fields.{same_bytes}
use Rattle.ff_rec.specs.declared.cmp.Cmp.{Cmp}
use Rattle.ff_ops.specs.Operation.{OpState, operation}
use Rattle.ff_ops.specs.Table.{name_of, kinds_of, row_named}
use Rattle.ff_ops.specs.declared.arg.Arg.{Arg}
use Rattle.ff_ops.specs.declared.arg.Arg.TheVariants.{Num, Cmp as Compared}
use Rattle.ff_ops.specs.declared.arg.ArgKind.{ArgKind}
use Rattle.ff_net.specs.Tree.{Tree, Trees, Leaf, Pipe, Comb, Farm, OFarm, A2a, Wrap, none, more}
use Rattle.ff_net.specs.declared.net.Sched.{Sched}
use Rattle.ff_net.specs.declared.net.Sched.TheVariants.{Rr, Od}
use Rattle.ff_net.specs.declared.net.Route.{Route}
use Rattle.ff_net.specs.declared.net.Route.TheVariants.{Rr as RouteRr, Od as RouteOd, By}
use Rattle.ff_net.specs.declared.net.Test.{Test}
use Rattle.ff_text.specs.declared.form.Form.{Form}
use Rattle.ff_text.specs.declared.form.Form.TheVariants.{Pipe as PipeForm, Comb as CombForm, Farm as FarmForm, OFarm as OFarmForm, A2a as A2aForm, Wrap as WrapForm}
use Rattle.ff_text.specs.declared.text_mark.TextMark.TheVariants.{Open, Close}
use Rattle.ff_text.specs.Tokens.{Token, Word, Sign}
use Rattle.ff_ops.specs.Arguments.{AllFit}
use Rattle.ff_text.specs.OperationTokens.{argument_token, argument, IsNew, spelling as operation_spelling}
use Rattle.ff_text.specs.Grammar.{form_named, spelling, parts_spelling, behind_spelling, route_spelling, sched_word, count_token, IsNet, AreParts, AreBehind}
use Rattle.ff_text.specs.SpellingLaw.{SpellingIsOfOneNet}
use Rattle.ff_text.proofs.Named.{form_named-row_named}
use Rattle.ff_ops.proofs.RowLaws.{row_named-name_of}
use Rattle.ff_text.proofs.OperationTokens.{argument-argument_token}

-- arguments of the same kinds
argument_token-same : (a b : Arg) → argument_token a ≡ argument_token b → a ≡ b
argument_token-same a b e =
    let same : Some a ≡ Some b = sym (argument-argument_token a) ∙ ap argument e ∙ argument-argument_token b in cc

arguments-same : (args bs : List Arg) (kinds : List ArgKind) (xs ys : List Token) → AllFit args kinds → AllFit bs kinds
    → map argument_token args ++ xs ≡ map argument_token bs ++ ys → (args ≡ bs) × (xs ≡ ys)
arguments-same [] [] kinds xs ys h k e = (refl, e)
arguments-same [] (b ∷ bs) [] xs ys h k e = absurd k
arguments-same [] (b ∷ bs) (kind ∷ kinds) xs ys h k e = absurd h
arguments-same (a ∷ args) [] [] xs ys h k e = absurd h
arguments-same (a ∷ args) [] (kind ∷ kinds) xs ys h k e = absurd k
arguments-same (a ∷ args) (b ∷ bs) [] xs ys h k e = absurd h
arguments-same (a ∷ args) (b ∷ bs) (kind ∷ kinds) xs ys h k e =
    let front : argument_token a ≡ argument_token b = cc in
    let behind : map argument_token args ++ xs ≡ map argument_token bs ++ ys = cc in
    let first = argument_token-same a b front in
    let others = arguments-same args bs kinds xs ys h.1 k.1 behind in
    (ap (λ c. c ∷ args) first ∙ ap (λ cs. b ∷ cs) others.0, others.1)

-- operations before their first records
operation-same : (o p : OpState) (xs ys : List Token) → IsNew o → IsNew p → operation_spelling o ++ xs ≡ operation_spelling p ++ ys → (o ≡ p) × (xs ≡ ys)
operation-same o p xs ys h k e =
    let front : name_of o.row ≡ name_of p.row = cc in
    let behind : map argument_token o.args ++ xs ≡ map argument_token p.args ++ ys = cc in
    let found : Some o.row ≡ Some p.row = sym (row_named-name_of o.row) ∙ ap row_named front ∙ row_named-name_of p.row in
    let rows : o.row ≡ p.row = cc in
    let others = arguments-same o.args p.args (kinds_of o.row) xs ys h.1 (subst (λ row. AllFit p.args (kinds_of row)) (sym rows) k.1) behind in
    (h.0 ∙ ap (λ row. operation row o.args) rows ∙ ap (operation p.row) others.0 ∙ sym k.0, others.1)

-- the words of schedules and routes
sched_word-same : (s r : Sched) → sched_word s ≡ sched_word r → s ≡ r
sched_word-same Rr Rr e = refl
sched_word-same Od Od e = refl
sched_word-same Rr Od e = let clash : true ≡ false = ap (λ word. same_bytes word (codes "rr")) e in absurd (cc)
sched_word-same Od Rr e = let clash : false ≡ true = ap (λ word. same_bytes word (codes "rr")) e in absurd (cc)

-- whether a word comes first
abbrev begins_with : List ℕ → List Token → Bool
begins_with word (Word name ∷ ts) = same_bytes name word
begins_with word ts = false

route-same : (r s : Route) (xs ys : List Token) → route_spelling r ++ xs ≡ route_spelling s ++ ys → (r ≡ s) × (xs ≡ ys)
route-same RouteRr RouteRr xs ys e = (refl, cc)
route-same RouteOd RouteOd xs ys e = (refl, cc)
route-same (By f) (By g) xs ys e = let same : f ≡ g = cc in (ap By same, cc)
route-same RouteRr RouteOd xs ys e = let clash : true ≡ false = ap (begins_with (codes "rr")) e in absurd (cc)
route-same RouteRr (By g) xs ys e = let clash : true ≡ false = ap (begins_with (codes "rr")) e in absurd (cc)
route-same RouteOd RouteRr xs ys e = let clash : true ≡ false = ap (begins_with (codes "od")) e in absurd (cc)
route-same RouteOd (By g) xs ys e = let clash : true ≡ false = ap (begins_with (codes "od")) e in absurd (cc)
route-same (By f) RouteRr xs ys e = let clash : true ≡ false = ap (begins_with (codes "by")) e in absurd (cc)
route-same (By f) RouteOd xs ys e = let clash : true ≡ false = ap (begins_with (codes "by")) e in absurd (cc)

-- a test by its parts
abbrev tested : ℕ → Cmp → ℤ → Test
tested field cmp value = record { field = field; cmp = cmp; value = value }

test-same : (p q : Test) → p.field ≡ q.field → p.cmp ≡ q.cmp → p.value ≡ q.value → p ≡ q
test-same p q fields cmps values =
    ap (λ n. tested n p.cmp p.value) fields ∙ ap (λ cmp. tested q.field cmp p.value) cmps ∙ ap (λ n. tested q.field q.cmp n) values

-- the form of a network, by its first word
abbrev form_of : Tree OpState → Option Form
form_of (Leaf o) = None
form_of (Pipe ts) = Some PipeForm
form_of (Comb ts) = Some CombForm
form_of (Farm n s w) = Some FarmForm
form_of (OFarm n s w) = Some OFarmForm
form_of (A2a n l r m t) = Some A2aForm
form_of (Wrap n w test) = Some WrapForm

form_of-front : (t : Tree OpState) (room : ℕ) (xs : List Token) → IsNet t room
    → (name : List ℕ) × (rest : List Token) × (spelling t ++ xs ≡ Word name ∷ rest) × (form_named name ≡ form_of t)
form_of-front (Leaf o) room xs h = (name_of o.row, map argument_token o.args ++ xs, refl, form_named-row_named (name_of o.row) o.row (row_named-name_of o.row))
form_of-front (Pipe ts) room xs h = (codes "pipe", Sign Open ∷ parts_spelling ts ++ xs, refl, refl)
form_of-front (Comb ts) room xs h = (codes "comb", Sign Open ∷ parts_spelling ts ++ xs, refl, refl)
form_of-front (Farm n s w) room xs h = (codes "farm", _, refl, refl)
form_of-front (OFarm n s w) room xs h = (codes "ofarm", _, refl, refl)
form_of-front (A2a n l r m t) room xs h = (codes "a2a", _, refl, refl)
form_of-front (Wrap n w test) room xs h = (codes "wrap", _, refl, refl)

form_of-same : (t u : Tree OpState) (room : ℕ) (xs ys : List Token) → IsNet t room → IsNet u room → spelling t ++ xs ≡ spelling u ++ ys → form_of t ≡ form_of u
form_of-same t u room xs ys h k e =
    let p = form_of-front t room xs h in
    let q = form_of-front u room ys k in
    let fronts : Word p.0 ∷ p.1 ≡ Word q.0 ∷ q.1 = sym p.2 ∙ e ∙ q.2 in
    let names : p.0 ≡ q.0 = cc in
    sym p.3 ∙ ap form_named names ∙ q.3

-- a network before a mark
before-mark : (w v : Tree OpState) (us vs xs ys : List Token) → (spelling w ++ us) ++ xs ≡ (spelling v ++ vs) ++ ys → spelling w ++ (us ++ xs) ≡ spelling v ++ (vs ++ ys)
before-mark w v us vs xs ys e = sym (append_assoc (spelling w) us xs) ∙ e ∙ append_assoc (spelling v) vs ys

-- what stands behind the word of a set of workers
set-same : (n m : ℕ) (s r : Sched) (w v : Tree OpState) (xs ys : List Token)
    → (spelling w ++ Sign Close ∷ xs ≡ spelling v ++ Sign Close ∷ ys → (w ≡ v) × (Sign Close ∷ xs ≡ Sign Close ∷ ys))
    → count_token n ∷ Word (sched_word s) ∷ Sign Open ∷ ((spelling w ++ Sign Close ∷ []) ++ xs) ≡ count_token m ∷ Word (sched_word r) ∷ Sign Open ∷ ((spelling v ++ Sign Close ∷ []) ++ ys)
    → (n ≡ m) × (s ≡ r) × (w ≡ v) × (xs ≡ ys)
set-same n m s r w v xs ys workers e =
    let words : sched_word s ≡ sched_word r = cc in
    let inner = workers (before-mark w v (Sign Close ∷ []) (Sign Close ∷ []) xs ys (cc)) in
    let rest = inner.1 in
    (cc, sched_word-same s r words, inner.0, cc)

mutual
  net-same : (t u : Tree OpState) (room : ℕ) (xs ys : List Token) → IsNet t room → IsNet u room → form_of t ≡ form_of u → spelling t ++ xs ≡ spelling u ++ ys
      → (t ≡ u) × (xs ≡ ys)
  net-same (Leaf o) (Leaf p) room xs ys h k f e = let same = operation-same o p xs ys h k e in (ap Leaf same.0, same.1)
  net-same (Pipe ts) (Pipe us) zero xs ys h k f e = absurd h
  net-same (Pipe ts) (Pipe us) (suc room) xs ys h k f e = let same = parts-same ts us room xs ys h k (cc) in (ap Pipe same.0, same.1)
  net-same (Comb ts) (Comb us) zero xs ys h k f e = absurd h
  net-same (Comb ts) (Comb us) (suc room) xs ys h k f e = let same = parts-same ts us room xs ys h k (cc) in (ap Comb same.0, same.1)
  net-same (Farm n s w) (Farm m r v) zero xs ys h k f e = absurd h
  net-same (Farm n s w) (Farm m r v) (suc room) xs ys h k f e =
      let parts = set-same n m s r w v xs ys
      (λ same. net-same w v room (Sign Close ∷ xs) (Sign Close ∷ ys) h.1 k.1 (form_of-same w v room (Sign Close ∷ xs) (Sign Close ∷ ys) h.1 k.1 same) same) (cc) in
      let counts = parts.0 in
      let scheds = parts.1 in
      let nets = parts.2 in
      (cc, parts.3)
  net-same (OFarm n s w) (OFarm m r v) zero xs ys h k f e = absurd h
  net-same (OFarm n s w) (OFarm m r v) (suc room) xs ys h k f e =
      let parts = set-same n m s r w v xs ys
      (λ same. net-same w v room (Sign Close ∷ xs) (Sign Close ∷ ys) h.1 k.1 (form_of-same w v room (Sign Close ∷ xs) (Sign Close ∷ ys) h.1 k.1 same) same) (cc) in
      let counts = parts.0 in
      let scheds = parts.1 in
      let nets = parts.2 in
      (cc, parts.3)
  net-same (A2a n l r m t) (A2a i a b j c) zero xs ys h k f e = absurd h
  net-same (A2a n l r m t) (A2a i a b j c) (suc room) xs ys h k f e =
      let us = count_token m ∷ Sign Open ∷ (spelling t ++ Sign Close ∷ []) in
      let vs = count_token j ∷ Sign Open ∷ (spelling c ++ Sign Close ∷ []) in
      let fronts : n ≡ i = cc in
      let left_behind = before-mark l a (Sign Close ∷ (route_spelling r ++ us)) (Sign Close ∷ (route_spelling b ++ vs)) xs ys (cc) in
      let left_inner = net-same l a room (Sign Close ∷ ((route_spelling r ++ us) ++ xs)) (Sign Close ∷ ((route_spelling b ++ vs) ++ ys)) h.1 k.1
      (form_of-same l a room (Sign Close ∷ ((route_spelling r ++ us) ++ xs)) (Sign Close ∷ ((route_spelling b ++ vs) ++ ys)) h.1 k.1 left_behind) left_behind in
      let middle : (route_spelling r ++ us) ++ xs ≡ (route_spelling b ++ vs) ++ ys = let rest = left_inner.1 in cc in
      let routes = route-same r b (us ++ xs) (vs ++ ys) (sym (append_assoc (route_spelling r) us xs) ∙ middle ∙ append_assoc (route_spelling b) vs ys) in
      let back = routes.1 in
      let counts : m ≡ j = cc in
      let right_behind = before-mark t c (Sign Close ∷ []) (Sign Close ∷ []) xs ys (cc) in
      let right_inner = net-same t c room (Sign Close ∷ xs) (Sign Close ∷ ys) h.4 k.4 (form_of-same t c room (Sign Close ∷ xs) (Sign Close ∷ ys) h.4 k.4 right_behind) right_behind in
      let lefts = left_inner.0 in
      let ways = routes.0 in
      let rights = right_inner.0 in
      let rest = right_inner.1 in
      (cc, cc)
  net-same (Wrap n w p) (Wrap m v q) zero xs ys h k f e = absurd h
  net-same (Wrap n w p) (Wrap m v q) (suc room) xs ys h k f e =
      let us = Sign Close ∷ Word (codes "if") ∷ count_token p.field ∷ argument_token (Compared p.cmp) ∷ argument_token (Num p.value) ∷ [] in
      let vs = Sign Close ∷ Word (codes "if") ∷ count_token q.field ∷ argument_token (Compared q.cmp) ∷ argument_token (Num q.value) ∷ [] in
      let counts : n ≡ m = cc in
      let behind = before-mark w v us vs xs ys (cc) in
      let inner = net-same w v room (us ++ xs) (vs ++ ys) h.1 k.1 (form_of-same w v room (us ++ xs) (vs ++ ys) h.1 k.1 behind) behind in
      let nets = inner.0 in
      let rest = inner.1 in
      let fields : p.field ≡ q.field = cc in
      let marks : argument_token (Compared p.cmp) ≡ argument_token (Compared q.cmp) = cc in
      let compared = argument_token-same (Compared p.cmp) (Compared q.cmp) marks in
      let cmps : p.cmp ≡ q.cmp = cc in
      let values : p.value ≡ q.value = cc in
      let tests = test-same p q fields cmps values in
      (cc, cc)
  net-same t u room xs ys h k f e = absurd (cc)

  parts-same : (ts us : Trees OpState) (room : ℕ) (xs ys : List Token) → AreParts ts room → AreParts us room → parts_spelling ts ++ xs ≡ parts_spelling us ++ ys
      → (ts ≡ us) × (xs ≡ ys)
  parts-same none us room xs ys h k e = absurd h
  parts-same (more t ts) none room xs ys h k e = absurd k
  parts-same (more t ts) (more u us) room xs ys h k e =
      let behind = before-mark t u (behind_spelling ts) (behind_spelling us) xs ys e in
      let first = net-same t u room (behind_spelling ts ++ xs) (behind_spelling us ++ ys) h.0 k.0
      (form_of-same t u room (behind_spelling ts ++ xs) (behind_spelling us ++ ys) h.0 k.0 behind) behind in
      let others = behind-same ts us room xs ys h.1 k.1 first.1 in
      (ap (λ v. more v ts) first.0 ∙ ap (λ vs. more u vs) others.0, others.1)

  behind-same : (ts us : Trees OpState) (room : ℕ) (xs ys : List Token) → AreBehind ts room → AreBehind us room → behind_spelling ts ++ xs ≡ behind_spelling us ++ ys
      → (ts ≡ us) × (xs ≡ ys)
  behind-same none none room xs ys h k e = (refl, cc)
  behind-same none (more u us) room xs ys h k e = absurd (cc)
  behind-same (more t ts) none room xs ys h k e = absurd (cc)
  behind-same (more t ts) (more u us) room xs ys h k e =
      let behind = before-mark t u (behind_spelling ts) (behind_spelling us) xs ys (cc) in
      let first = net-same t u room (behind_spelling ts ++ xs) (behind_spelling us ++ ys) h.0 k.0
      (form_of-same t u room (behind_spelling ts ++ xs) (behind_spelling us ++ ys) h.0 k.0 behind) behind in
      let others = behind-same ts us room xs ys h.1 k.1 first.1 in
      (ap (λ v. more v ts) first.0 ∙ ap (λ vs. more u vs) others.0, others.1)

pub spelling_is_of_one_net : SpellingIsOfOneNet
spelling_is_of_one_net t u room h k e =
    let same = ap (λ ts. ts ++ []) e in (net-same t u room [] [] h k (form_of-same t u room [] [] h k same) same).0
