-- What is taken where networks are wanted spells networks.
use Rattle.std.proofs.Common.{◌≡◌, ℕ, zero, suc, Bool, true, false, ◌&&◌, ◌||◌, cond, IsTrue, List, [], ◌∷◌, ◌++◌, map, codes, Option, None, Some, Result, Ok, Err, ℤ, pos, negsuc, refl, sym, ap, subst, ◌∙◌, inr}
use Rattle.std.specs.Cmp.Lexicographic.{bytes_decides}
use Rattle.ff_rec.specs.Fields.{same_bytes}
use Rattle.ff_rec.specs.declared.cmp.Cmp.{Cmp}
use Rattle.ff_ops.specs.Arguments.{suits, is_within, is_numeric, fits, AllFit}
use Rattle.ff_ops.specs.Operation.{OpState, operation}
use Rattle.ff_ops.specs.Table.{name_of, kinds_of, row_named}
use Rattle.ff_ops.specs.declared.row.Row.{Row}
use Rattle.ff_ops.specs.declared.arg.Arg.{Arg}
use Rattle.ff_ops.specs.declared.arg.Arg.TheVariants.{Num, Cmp as Compared, Text}
use Rattle.ff_ops.specs.declared.arg.ArgKind.{ArgKind}
use Rattle.ff_ops.specs.declared.arg.ArgKind.TheVariants.{Num as AnyNumber, Cmp as AnyComparison}
use Rattle.ff_net.specs.Tree.{Tree, Trees, Leaf, Pipe, Comb, Farm, OFarm, A2a, Wrap, none, more}
use Rattle.ff_net.specs.declared.net.Sched.{Sched}
use Rattle.ff_net.specs.declared.net.Sched.TheVariants.{Rr, Od}
use Rattle.ff_net.specs.declared.net.Route.{Route}
use Rattle.ff_net.specs.declared.net.Route.TheVariants.{Rr as RouteRr, Od as RouteOd, By}
use Rattle.ff_net.specs.declared.net.Test.{Test}
use Rattle.ff_text.specs.declared.fault.TextKind.{TextKind}
use Rattle.ff_text.specs.declared.fault.TextKind.TheVariants.{Range, BadToken}
use Rattle.ff_text.specs.declared.form.Form.{Form}
use Rattle.ff_text.specs.declared.form.Form.TheVariants.{Pipe as PipeForm, Comb as CombForm, Farm as FarmForm, OFarm as OFarmForm, A2a as A2aForm, Wrap as WrapForm}
use Rattle.ff_text.specs.declared.text_mark.TextMark.TheVariants.{Open, Close, Comma}
use Rattle.ff_text.specs.Tokens.{Token, Word, Number, Sign, Stop}
use Rattle.ff_text.specs.OperationTokens.{mark_of, argument_token, argument}
use Rattle.ff_text.specs.Grammar.{form_word, form_named, route_spelling, sched_word, count_token, a_count, IsCount, IsRoute, IsNet, AreParts, AreBehind}
use Rattle.ff_text.specs.Names.{Name, Context, net_named, AreNets}
use Rattle.ff_text.specs.Spelling.{InMarks, MarksBehind, Spells, SpellsParts, SpellsBehind}
use Rattle.ff_text.specs.Wants.{Want, Network, Parts, Argument, Schedule, Routing, Opening, Closing, Condition, Finish, rest_of, misplaced, begin_word, begin_use, take_argument, is_sched, expand, pushed, then_run, run, start}
use Rattle.ff_text.proofs.OperationTokens.{argument_token-argument}
use Rattle.ff_ops.proofs.RowLaws.{name_of-row_named}
use Rattle.ff_text.proofs.Named.{form_word-form_named}
use Rattle.ff_text.proofs.Uses.{IsNet-room, IsNet-named, begin_use-taken, Spells-use}

-- `ts` is what a want takes where these names stand for networks, and `rest` behind it
abbrev pub Takes : List Name → Want → List Token → List Token → Type 0
Takes names (Network room) ts rest = (t : Tree OpState) × IsNet t room × Spells names t ts rest
Takes names (Parts room) ts rest = (us : Trees OpState) × AreBehind us room × SpellsBehind names us ts (Sign Close ∷ rest)
Takes names (Argument kind) ts rest = (a : Arg) × IsTrue (fits a kind) × (ts ≡ argument_token a ∷ rest)
Takes names Schedule ts rest = (s : Sched) × (ts ≡ Word (sched_word s) ∷ rest)
Takes names Routing ts rest = (r : Route) × IsRoute r × (ts ≡ route_spelling r ++ rest)
Takes names Opening ts rest = ts ≡ Sign Open ∷ rest
Takes names Closing ts rest = ts ≡ Sign Close ∷ rest
Takes names Condition ts rest = ts ≡ Word (codes "if") ∷ rest
Takes names Finish ts rest = ts ≡ Stop ∷ rest

-- one want behind another
abbrev pub Taken : List Name → List Want → List Token → List Token → Type 0
Taken names [] ts tail = ts ≡ tail
Taken names (w ∷ ws) ts tail = (rest : List Token) × Takes names w ts rest × Taken names ws rest tail

Taken-split : (names : List Name) (new ws : List Want) (ts tail : List Token) → Taken names (new ++ ws) ts tail → (rest : List Token) × Taken names new ts rest × Taken names ws rest tail
Taken-split names [] ws ts tail h = (ts, refl, h)
Taken-split names (w ∷ new) ws ts tail (rest, first, others) =
    let k = Taken-split names new ws rest tail others in (k.0, (rest, first, k.1), k.2)

-- a number that a count may be
count-of : (a : Arg) → fits a a_count ≡ true → (n : ℕ) × IsCount n × (a ≡ Num (pos n))
count-of (Num (pos n)) h = (n, h, refl)
count-of (Num (negsuc n)) h = absurd (cc)
count-of (Compared cmp) h = absurd (cc)
count-of (Text bytes) h = absurd (cc)

Takes-count : (names : List Name) (ts rest : List Token) → Takes names (Argument a_count) ts rest → (n : ℕ) × IsCount n × (ts ≡ count_token n ∷ rest)
Takes-count names ts rest (a, fit, text) =
    let k = count-of a fit in (k.0, k.1, text ∙ ap (λ b. argument_token b ∷ rest) k.2)

comparison-of : (a : Arg) → fits a AnyComparison ≡ true → (cmp : Cmp) × (a ≡ Compared cmp)
comparison-of (Num n) h = absurd (cc)
comparison-of (Compared cmp) h = (cmp, refl)
comparison-of (Text bytes) h = absurd (cc)

number-of : (a : Arg) → fits a AnyNumber ≡ true → (n : ℤ) × (a ≡ Num n)
number-of (Num n) h = (n, refl)
number-of (Compared cmp) h = absurd (cc)
number-of (Text bytes) h = absurd (cc)

-- the arguments of an operation
Taken-arguments : (names : List Name) (kinds : List ArgKind) (ts tail : List Token) → Taken names (map (λ kind. Argument kind) kinds) ts tail
    → (args : List Arg) × AllFit args kinds × (ts ≡ map argument_token args ++ tail)
Taken-arguments names [] ts tail h = ([], tt, h)
Taken-arguments names (k ∷ ks) ts tail (rest, (a, fit, text), others) =
    let h = Taken-arguments names ks rest tail others in (a ∷ h.0, (fit, h.1), text ∙ ap (λ us. argument_token a ∷ us) h.2)

-- from behind the `(` of a pipe or comb
AreParts-Taken : (names : List Name) (room : ℕ) (ts tail : List Token) → Taken names (Network room ∷ Parts room ∷ []) ts tail
    → (us : Trees OpState) × AreParts us room × SpellsParts names us ts (Sign Close ∷ tail)
AreParts-Taken names room ts tail (r1, (t, net, s1), (r2, (us, behind, s2), e3)) =
    (more t us, (net, behind), (r1, s1, subst (λ x. SpellsBehind names us r1 (Sign Close ∷ x)) e3 s2))

AreBehind-Taken : (names : List Name) (room : ℕ) (ts tail : List Token) → Taken names (Network room ∷ Parts room ∷ []) ts tail
    → (us : Trees OpState) × AreBehind us room × SpellsBehind names us (Sign Comma ∷ ts) (Sign Close ∷ tail)
AreBehind-Taken names room ts tail (r1, (t, net, s1), (r2, (us, behind, s2), e3)) =
    (more t us, (net, behind), (ts, r1, refl, s1, subst (λ x. SpellsBehind names us r1 (Sign Close ∷ x)) e3 s2))

-- a network in its marks
Taken-worker : (names : List Name) (room : ℕ) (ts tail : List Token) → Taken names (Opening ∷ Network room ∷ Closing ∷ []) ts tail
    → (w : Tree OpState) × IsNet w room × InMarks (λ xs ys. Spells names w xs ys) ts tail
Taken-worker names room ts tail (r1, e1, (r2, (w, net, s2), (r3, e3, e4))) =
    (w, net, (r1, e1, subst (λ x. Spells names w r1 x) (e3 ∙ ap (λ us. Sign Close ∷ us) e4) s2))

-- farms, from behind their word
Taken-farm : (names : List Name) (room : ℕ) (ts tail : List Token) → Taken names (rest_of room FarmForm) ts tail
    → (n : ℕ) × (s : Sched) × (w : Tree OpState) × IsCount n × IsNet w room × MarksBehind (count_token n ∷ Word (sched_word s) ∷ []) (λ xs ys. Spells names w xs ys) ts tail
Taken-farm names room ts tail (r1, c, (r2, (s, e2), worker)) =
    let n = Takes-count names ts r1 c in
    let w = Taken-worker names room r2 tail worker in
    (n.0, s, w.0, n.1, w.1, (r2, n.2 ∙ ap (λ us. count_token n.0 ∷ us) e2, w.2))

-- an all-to-all
Takes-a2a : (names : List Name) (room : ℕ) (ts tail : List Token) → Taken names (rest_of room A2aForm) ts tail → Takes names (Network (suc room)) (Word (codes "a2a") ∷ ts) tail
Takes-a2a names room ts tail (r1, c, (r2, e2, (r3, (l, left, s3), (r4, e4, (r5, (r, route, e5), (r6, d, worker)))))) =
    let n = Takes-count names ts r1 c in
    let m = Takes-count names r5 r6 d in
    let w = Taken-worker names room r6 tail worker in
    let inner = subst (λ x. Spells names l r2 x) (e4 ∙ ap (λ us. Sign Close ∷ us) e5) s3 in (
      A2a n.0 l r m.0 w.0,
      (n.1, left, route, m.1, w.1),
      inr (r5, (r1, ap (λ us. Word (codes "a2a") ∷ us) n.2, (r2, e2, inner)), (r6, m.2, w.2)),
    )

-- a wrap
Takes-wrap : (names : List Name) (room : ℕ) (ts tail : List Token) → Taken names (rest_of room WrapForm) ts tail → Takes names (Network (suc room)) (Word (codes "wrap") ∷ ts) tail
Takes-wrap names room ts tail (r1, c, (r2, e2, (r3, (w, net, s3), (r4, e4, (r5, e5, (r6, d, (r7, (a, fit_a, e7), (r8, (b, fit_b, e8), e9)))))))) =
    let n = Takes-count names ts r1 c in
    let f = Takes-count names r5 r6 d in
    let cmp = comparison-of a fit_a in
    let value = number-of b fit_b in
    let test : Test = record { field = f.0; cmp = cmp.0; value = value.0 } in
    let last = e8 ∙ ap (λ x. argument_token x ∷ r8) value.1 ∙ ap (λ us. Number (Some value.0) ∷ us) e9 in
    let back = f.2 ∙ ap (λ us. count_token f.0 ∷ us) (e7 ∙ ap (λ x. argument_token x ∷ r7) cmp.1 ∙ ap (λ us. Sign (mark_of cmp.0) ∷ us) last) in
    let inner = subst (λ x. Spells names w r2 x) (e4 ∙ ap (λ us. Sign Close ∷ us) (e5 ∙ ap (λ us. Word (codes "if") ∷ us) back)) s3 in (
      Wrap n.0 w test,
      (n.1, net, f.1),
      inr (r1, ap (λ us. Word (codes "wrap") ∷ us) n.2, (r2, e2, inner)),
    )

-- the network of a form
Takes-form : (names : List Name) (form : Form) (room : ℕ) (ts tail : List Token) → Taken names (rest_of room form) ts tail → Takes names (Network (suc room)) (Word (form_word form) ∷ ts) tail
Takes-form names PipeForm room ts tail (r1, e1, parts) =
    let p = AreParts-Taken names room r1 tail parts in (Pipe p.0, p.1, inr (ts, refl, (r1, e1, p.2)))
Takes-form names CombForm room ts tail (r1, e1, parts) =
    let p = AreParts-Taken names room r1 tail parts in (Comb p.0, p.1, inr (ts, refl, (r1, e1, p.2)))
Takes-form names FarmForm room ts tail h =
    let f = Taken-farm names room ts tail h in
    (Farm f.0 f.1 f.2, (f.3, f.4), inr (f.5.0, ap (λ us. Word (codes "farm") ∷ us) f.5.1, f.5.2))
Takes-form names OFarmForm room ts tail h =
    let f = Taken-farm names room ts tail h in
    (OFarm f.0 f.1 f.2, (f.3, f.4), inr (f.5.0, ap (λ us. Word (codes "ofarm") ∷ us) f.5.1, f.5.2))
Takes-form names A2aForm room ts tail h = Takes-a2a names room ts tail h
Takes-form names WrapForm room ts tail h = Takes-wrap names room ts tail h

-- the network of an operation
Takes-operation : (names : List Name) (row : Row) (name : List ℕ) (room : ℕ) (ts tail : List Token) → row_named name ≡ Some row
    → Taken names (map (λ kind. Argument kind) (kinds_of row)) ts tail → Takes names (Network room) (Word name ∷ ts) tail
Takes-operation names row name room ts tail named h =
    let is = name_of-row_named name row named in
    let k = Taken-arguments names (kinds_of row) ts tail h in (
      Leaf (operation row k.0),
      (refl, k.1),
      inr (ap (λ n. Word n ∷ ts) (sym is) ∙ ap (λ us. Word (name_of row) ∷ us) k.2),
    )

-- the network that a word stands for
Takes-use : (names : List Name) (t : Tree OpState) (word : List ℕ) (room : ℕ) (new : List Want) (ts tail : List Token) → AreNets names
    → form_named word ≡ None → row_named word ≡ None → net_named names word ≡ Some t → begin_use (Some t) room ≡ Ok new → Taken names new ts tail
    → Takes names (Network room) (Word word ∷ ts) tail
Takes-use names t word room new ts tail nets form row named e h =
    let k = begin_use-taken t room new e in
    let end : ts ≡ tail = subst (λ ws. Taken names ws ts tail) k.1 h in
    (t, IsNet-room t room (IsNet-named names word t nets named) k.0, Spells-use names t (Word word ∷ ts) tail (word, ap (λ us. Word word ∷ us) end, form, row, named))

grow-word : (names : List Name) (form : Option Form) (row : Option Row) (net : Option (Tree OpState)) (room : ℕ) (name : List ℕ) (new : List Want) (ts tail : List Token)
    → AreNets names → form_named name ≡ form → row_named name ≡ row → net_named names name ≡ net → begin_word form row net room ≡ Ok new → Taken names new ts tail
    → Takes names (Network room) (Word name ∷ ts) tail
grow-word names (Some f) row net zero name new ts tail nets is named found e h = absurd (cc)
grow-word names (Some f) row net (suc room) name new ts tail nets is named found e h =
    let same : new ≡ rest_of room f = cc in
    subst (λ n. Takes names (Network (suc room)) (Word n ∷ ts) tail) (form_word-form_named name f is)
    (Takes-form names f room ts tail (subst (λ ws. Taken names ws ts tail) same h))
grow-word names None (Some row) net room name new ts tail nets is named found e h =
    let same : new ≡ map (λ kind. Argument kind) (kinds_of row) = cc in
    Takes-operation names row name room ts tail named (subst (λ ws. Taken names ws ts tail) same h)
grow-word names None None (Some net) room name new ts tail nets is named found e h = Takes-use names net name room new ts tail nets is named found e h
grow-word names None None None room name new ts tail nets is named found e h = absurd (cc)

-- an argument
fits-argument : (c : Context) (kind : ArgKind) (t : Token) (o : Option Arg) (new : List Want) (ts tail : List Token) → argument t ≡ o → take_argument c.version kind o t ≡ Ok new → Taken c.names new ts tail → Takes c.names (Argument kind) (t ∷ ts) tail
fits-argument c kind t (Some a) new ts tail is e h = by (suits a kind) (is_within a kind) refl refl e
  where
    by : (s w : Bool) → suits a kind ≡ s → is_within a kind ≡ w → cond s (cond w (Ok []) (Err Range)) (Err (misplaced c.version t)) ≡ Ok new → Takes c.names (Argument kind) (t ∷ ts) tail
    by true true s w e =
        let same : new ≡ [] = cc in
        let end : ts ≡ tail = subst (λ ws. Taken c.names ws ts tail) same h in
        let fit : (suits a kind && is_within a kind) ≡ true = ap (λ b. b && is_within a kind) s ∙ w in
        (a, fit, ap (λ u. u ∷ ts) (argument_token-argument t a is) ∙ ap (λ us. argument_token a ∷ us) end)
    by true false s w e = absurd (cc)
    by false w s is_w e = absurd (cc)
fits-argument c kind (Number n) None new ts tail is e h = absurd (by (is_numeric kind) e)
  where
    by : (b : Bool) → cond b (Err Range) (Err BadToken) ≡ Ok new → ⊥
    by true e = cc
    by false e = cc
fits-argument c kind t None new ts tail is e h = absurd (cc)

-- words
sched-of : (name : List ℕ) (b c : Bool) → same_bytes name (codes "rr") ≡ b → same_bytes name (codes "od") ≡ c → (b || c) ≡ true → (s : Sched) × (name ≡ sched_word s)
sched-of name true c rr od h = (Rr, (bytes_decides name (codes "rr")).0 rr)
sched-of name false true rr od h = (Od, (bytes_decides name (codes "od")).0 od)
sched-of name false false rr od h = absurd (cc)

Takes-route : (names : List Name) (s : Sched) (name : List ℕ) (ts tail : List Token) → name ≡ sched_word s → ts ≡ tail → Takes names Routing (Word name ∷ ts) tail
Takes-route names Rr name ts tail is end = (RouteRr, tt, ap (λ n. Word n ∷ ts) is ∙ ap (λ us. Word (codes "rr") ∷ us) end)
Takes-route names Od name ts tail is end = (RouteOd, tt, ap (λ n. Word n ∷ ts) is ∙ ap (λ us. Word (codes "od") ∷ us) end)

grow-sched : (names : List Name) (name : List ℕ) (b : Bool) (new : List Want) (ts tail : List Token) → is_sched name ≡ b → cond b (Ok []) (Err BadToken) ≡ Ok new → Taken names new ts tail → Takes names Schedule (Word name ∷ ts) tail
grow-sched names name true new ts tail is e h =
    let same : new ≡ [] = cc in
    let end : ts ≡ tail = subst (λ ws. Taken names ws ts tail) same h in
    let s = sched-of name (same_bytes name (codes "rr")) (same_bytes name (codes "od")) refl refl is in
    (s.0, ap (λ n. Word n ∷ ts) s.1 ∙ ap (λ us. Word (sched_word s.0) ∷ us) end)
grow-sched names name false new ts tail is e h = absurd (cc)

grow-route : (names : List Name) (name : List ℕ) (b c : Bool) (new : List Want) (ts tail : List Token) → is_sched name ≡ b → same_bytes name (codes "by") ≡ c
    → cond b (Ok []) (cond c (Ok (Argument a_count ∷ [])) (Err BadToken)) ≡ Ok new → Taken names new ts tail → Takes names Routing (Word name ∷ ts) tail
grow-route names name true c new ts tail is by_word e h =
    let same : new ≡ [] = cc in
    let s = sched-of name (same_bytes name (codes "rr")) (same_bytes name (codes "od")) refl refl is in
    Takes-route names s.0 name ts tail s.1 (subst (λ ws. Taken names ws ts tail) same h)
grow-route names name false true new ts tail is by_word e h =
    let same : new ≡ Argument a_count ∷ [] = cc in
    let k = subst (λ ws. Taken names ws ts tail) same h in
    let n = Takes-count names ts k.0 k.1 in
    (By n.0, n.1, ap (λ w. Word w ∷ ts) ((bytes_decides name (codes "by")).0 by_word) ∙ ap (λ us. Word (codes "by") ∷ us) (n.2 ∙ ap (λ us. count_token n.0 ∷ us) k.2))
grow-route names name false false new ts tail is by_word e h = absurd (cc)

grow-condition : (names : List Name) (name : List ℕ) (b : Bool) (new : List Want) (ts tail : List Token) → same_bytes name (codes "if") ≡ b → cond b (Ok []) (Err BadToken) ≡ Ok new → Taken names new ts tail → Word name ∷ ts ≡ Word (codes "if") ∷ tail
grow-condition names name true new ts tail is e h =
    let same : new ≡ [] = cc in
    let end : ts ≡ tail = subst (λ ws. Taken names ws ts tail) same h in
    ap (λ n. Word n ∷ ts) ((bytes_decides name (codes "if")).0 is) ∙ ap (λ us. Word (codes "if") ∷ us) end
grow-condition names name false new ts tail is e h = absurd (cc)

-- one token, where nothing more is wanted of it
only : (names : List Name) (t : Token) (new : List Want) (ts tail : List Token) → ◌≡◌ {A = Result (List Want) TextKind} (Ok []) (Ok new) → Taken names new ts tail → t ∷ ts ≡ t ∷ tail
only names t new ts tail e h =
    let same : new ≡ [] = cc in ap (λ us. t ∷ us) (subst (λ ws. Taken names ws ts tail) same h)

-- what a want takes, from its first token on
grow : (c : Context) (w : Want) (t : Token) (new : List Want) (ts tail : List Token) → AreNets c.names → expand c w t ≡ Ok new → Taken c.names new ts tail → Takes c.names w (t ∷ ts) tail
grow c (Network room) (Word name) new ts tail nets e h =
    grow-word c.names (form_named name) (row_named name) (net_named c.names name) room name new ts tail nets refl refl refl e h
grow c (Parts room) (Sign Comma) new ts tail nets e h =
    let same : new ≡ Network room ∷ Parts room ∷ [] = cc in AreBehind-Taken c.names room ts tail (subst (λ ws. Taken c.names ws ts tail) same h)
grow c (Parts room) (Sign Close) new ts tail nets e h = (none, tt, only c.names (Sign Close) new ts tail e h)
grow c (Argument kind) t new ts tail nets e h = fits-argument c kind t (argument t) new ts tail refl e h
grow c Schedule (Word name) new ts tail nets e h = grow-sched c.names name (is_sched name) new ts tail refl e h
grow c Routing (Word name) new ts tail nets e h = grow-route c.names name (is_sched name) (same_bytes name (codes "by")) new ts tail refl refl e h
grow c Opening (Sign Open) new ts tail nets e h = only c.names (Sign Open) new ts tail e h
grow c Closing (Sign Close) new ts tail nets e h = only c.names (Sign Close) new ts tail e h
grow c Condition (Word name) new ts tail nets e h = grow-condition c.names name (same_bytes name (codes "if")) new ts tail refl e h
grow c Finish Stop new ts tail nets e h = only c.names Stop new ts tail e h
grow c w t new ts tail nets e h = absurd (cc)

-- what is taken whole
sound-step : (c : Context) (w : Want) (ws : List Want) (t : Token) (ts : List Token) (r : Result (List Want) TextKind) → AreNets c.names → expand c w t ≡ r
    → ((new : List Want) → run c ts new ≡ Ok [] → Taken c.names new ts []) → then_run (run c ts) (pushed r ws) ≡ Ok [] → Taken c.names (w ∷ ws) (t ∷ ts) []
sound-step c w ws t ts (Ok new) nets is each e =
    let k = Taken-split c.names new ws ts [] (each (new ++ ws) e) in (k.0, grow c w t new ts k.0 nets is k.1, k.2)
sound-step c w ws t ts (Err kind) nets is each e = absurd (cc)

pub sound : (c : Context) (ts : List Token) (ws : List Want) → AreNets c.names → run c ts ws ≡ Ok [] → Taken c.names ws ts []
sound c [] ws nets e = let none : [] ≡ ws = cc in let empty : Taken c.names [] [] [] = refl in subst (λ vs. Taken c.names vs [] []) none empty
sound c (t ∷ ts) [] nets e = absurd (cc)
sound c (t ∷ ts) (w ∷ ws) nets e = sound-step c w ws t ts (expand c w t) nets refl (λ new. sound c ts new nets) e

-- a whole text
pub sound-text : (c : Context) (ts : List Token) → AreNets c.names → run c ts start ≡ Ok [] → (t : Tree OpState) × IsNet t 15 × Spells c.names t ts (Stop ∷ [])
sound-text c ts nets e = by (sound c ts start nets e)
  where
    by : Taken c.names start ts [] → (t : Tree OpState) × IsNet t 15 × Spells c.names t ts (Stop ∷ [])
    by (r1, (t, net, s1), (r2, e2, e3)) = (t, net, subst (λ x. Spells c.names t ts x) (e2 ∙ ap (λ us. Stop ∷ us) e3) s1)
