-- Wherever the machine has come, a text of a network goes on; where it stops, none does.
use Rattle.std.proofs.Common.{◌≡◌, ℕ, zero, suc, Bool, true, false, cond, IsTrue, List, [], ◌∷◌, ◌++◌, map, codes, Option, None, Some, Result, Ok, Err, pos, refl, sym, ap, subst, ◌∙◌, append_assoc}
use Rattle.std.specs.List.{AllByRecursion, list_all}
use Rattle.std.proofs.lemmas.Bool.{and_parts}
use Rattle.ff_rec.specs.Fields.{same_bytes}
use Rattle.ff_rec.specs.declared.cmp.Cmp.TheVariants.{Eq}
use Rattle.ff_ops.specs.Arguments.{suits, is_within, is_numeric, fits}
use Rattle.ff_ops.specs.Table.{kinds_of, row_named}
use Rattle.ff_ops.specs.declared.row.Row.{Row}
use Rattle.ff_ops.specs.declared.row.Row.TheVariants.{Id}
use Rattle.ff_ops.specs.declared.arg.Arg.{Arg}
use Rattle.ff_ops.specs.declared.arg.Arg.TheVariants.{Num, Cmp as Compared, Text}
use Rattle.ff_ops.specs.declared.arg.ArgKind.{ArgKind}
use Rattle.ff_ops.specs.declared.arg.ArgKind.TheVariants.{Field, Num as AnyNumber, NonZero, Count, Cmp as AnyComparison, Text as AnyText}
use Rattle.ff_text.specs.declared.fault.TextKind.{TextKind}
use Rattle.ff_text.specs.declared.fault.TextKind.TheVariants.{Range, BadToken}
use Rattle.ff_text.specs.declared.form.Form.{Form}
use Rattle.ff_text.specs.declared.form.Form.TheVariants.{Pipe as PipeForm, Comb as CombForm, Farm as FarmForm, OFarm as OFarmForm, A2a as A2aForm, Wrap as WrapForm}
use Rattle.ff_text.specs.declared.text_mark.TextMark.TheVariants.{Open, Close, Comma}
use Rattle.ff_text.specs.Tokens.{Token, Word, Number, Sign, Stop}
use Rattle.ff_text.specs.OperationTokens.{argument_token, argument}
use Rattle.ff_text.specs.Grammar.{form_named, a_count}
use Rattle.ff_text.specs.Faults.{text_of, Begins}
use Rattle.ff_net.specs.declared.net.Version.TheVariants.{One}
use Rattle.ff_text.specs.Names.{one}
use Rattle.ff_text.specs.Wants.{Want, Network, Parts, Argument, Schedule, Routing, Opening, Closing, Condition, Finish, rest_of, misplaced, begin_word, take_argument, is_sched, expand, pushed, step, then_run, run, start}
use Rattle.ff_text.proofs.Completes.{complete, takes, expand-argument}
use Rattle.ff_text.proofs.Sound.{sound-text}
use Rattle.ff_text.proofs.Unnamed.{Spells-unnamed, Spells-spelling}

-- one list of tokens behind another
then_run-append : (ts us : List Token) (r : Result (List Want) TextKind) → ((ws : List Want) → run one (ts ++ us) ws ≡ then_run (run one us) (run one ts ws))
    → then_run (run one (ts ++ us)) r ≡ then_run (run one us) (then_run (run one ts) r)
then_run-append ts us (Ok ws) each = each ws
then_run-append ts us (Err kind) each = refl

pub run-append : (ts us : List Token) (ws : List Want) → run one (ts ++ us) ws ≡ then_run (run one us) (run one ts ws)
run-append [] us ws = refl
run-append (t ∷ ts) us ws = then_run-append ts us (step one ws t) (run-append ts us)

pub run-behind : (ts us : List Token) (ws new : List Want) → run one ts ws ≡ Ok new → run one (ts ++ us) ws ≡ run one us new
run-behind ts us ws new e = run-append ts us ws ∙ ap (then_run (run one us)) e

-- an argument of each kind
abbrev pub example : ArgKind → Arg
example Field = Num (pos 1)
example AnyNumber = Num (pos 0)
example NonZero = Num (pos 1)
example (Count low high) = Num (pos low)
example AnyComparison = Compared Eq
example AnyText = Text []

-- there is an argument for the want
abbrev pub IsGood : Want → Type 0
IsGood (Network room) = Unit {0}
IsGood (Parts room) = Unit {0}
IsGood (Argument kind) = IsTrue (fits (example kind) kind)
IsGood Schedule = Unit {0}
IsGood Routing = Unit {0}
IsGood Opening = Unit {0}
IsGood Closing = Unit {0}
IsGood Condition = Unit {0}
IsGood Finish = Unit {0}

-- a token that ends a want
closing : (w : Want) → IsGood w → (t : Token) × (expand one w t ≡ Ok [])
closing (Network room) good = (Word (codes "id"), refl)
closing (Parts room) good = (Sign Close, refl)
closing (Argument kind) good = (argument_token (example kind), expand-argument one (example kind) kind good)
closing Schedule good = (Word (codes "rr"), refl)
closing Routing good = (Word (codes "rr"), refl)
closing Opening good = (Sign Open, refl)
closing Closing good = (Sign Close, refl)
closing Condition good = (Word (codes "if"), refl)
closing Finish good = (Stop, refl)

-- whatever is wanted can be given
ends : (ws : List Want) → AllByRecursion IsGood ws → (ts : List Token) × (run one ts ws ≡ Ok [])
ends [] good = ([], refl)
ends (w ∷ ws) good =
    let c = closing w good.0 in
    let k = ends ws good.1 in
    (c.0 ∷ k.0, takes one w c.0 [] ws k.0 c.1 ∙ k.1)

-- and stays so
good-form : (room : ℕ) (f : Form) → AllByRecursion IsGood (rest_of room f)
good-form room PipeForm = (tt, (tt, (tt, tt)))
good-form room CombForm = (tt, (tt, (tt, tt)))
good-form room FarmForm = (refl, (tt, (tt, (tt, (tt, tt)))))
good-form room OFarmForm = (refl, (tt, (tt, (tt, (tt, tt)))))
good-form room A2aForm = (refl, (tt, (tt, (tt, (tt, (refl, (tt, (tt, (tt, tt)))))))))
good-form room WrapForm = (refl, (tt, (tt, (tt, (tt, (refl, (refl, (refl, tt))))))))

IsGood-kinds : (kinds : List ArgKind) → list_all (λ kind. fits (example kind) kind) kinds ≡ true → AllByRecursion IsGood (map (λ kind. Argument kind) kinds)
IsGood-kinds [] h = tt
IsGood-kinds (kind ∷ kinds) h =
    let both = and_parts (fits (example kind) kind) (list_all (λ k. fits (example k) k) kinds) h in (both.0, IsGood-kinds kinds both.1)

-- each row
examples-kinds_of : (row : Row) → list_all (λ kind. fits (example kind) kind) (kinds_of row) ≡ true
examples-kinds_of Id = refl
examples-kinds_of row = refl

good-kinds : (row : Row) → AllByRecursion IsGood (map (λ kind. Argument kind) (kinds_of row))
good-kinds row = IsGood-kinds (kinds_of row) (examples-kinds_of row)

good-word : (f : Option Form) (row : Option Row) (room : ℕ) (new : List Want) → begin_word f row None room ≡ Ok new → AllByRecursion IsGood new
good-word (Some f) row zero new e = absurd (cc)
good-word (Some f) row (suc room) new e = let same : rest_of room f ≡ new = cc in subst (λ ws. AllByRecursion IsGood ws) same (good-form room f)
good-word None (Some row) room new e =
    let same : map (λ kind. Argument kind) (kinds_of row) ≡ new = cc in subst (λ ws. AllByRecursion IsGood ws) same (good-kinds row)
good-word None None room new e = absurd (cc)

good-none : (new : List Want) → ◌≡◌ {A = Result (List Want) TextKind} (Ok []) (Ok new) → AllByRecursion IsGood new
good-none new e = let same : [] ≡ new = cc in let none : AllByRecursion IsGood [] = tt in subst (λ ws. AllByRecursion IsGood ws) same none

good-if : (b : Bool) (r : Result (List Want) TextKind) (kind : TextKind) (new : List Want) → (r ≡ Ok new → AllByRecursion IsGood new) → cond b r (Err kind) ≡ Ok new → AllByRecursion IsGood new
good-if true r kind new each e = each e
good-if false r kind new each e = absurd (cc)

good-argument : (kind : ArgKind) (o : Option Arg) (t : Token) (new : List Want) → take_argument One kind o t ≡ Ok new → AllByRecursion IsGood new
good-argument kind (Some a) t new e =
    good-if (suits a kind) (cond (is_within a kind) (Ok []) (Err Range)) (misplaced One t) new (good-if (is_within a kind) (Ok []) Range new (good-none new)) e
good-argument kind None (Number n) new e = by (is_numeric kind) e
  where
    by : (b : Bool) → cond b (Err Range) (Err BadToken) ≡ Ok new → AllByRecursion IsGood new
    by true e = absurd (cc)
    by false e = absurd (cc)
good-argument kind None t new e = absurd (cc)

good-route : (b c : Bool) (new : List Want) → cond b (Ok []) (cond c (Ok (Argument a_count ∷ [])) (Err BadToken)) ≡ Ok new → AllByRecursion IsGood new
good-route true c new e = good-none new e
good-route false true new e =
    let same : Argument a_count ∷ [] ≡ new = cc in
    let one : AllByRecursion IsGood (Argument a_count ∷ []) = (refl, tt) in
    subst (λ ws. AllByRecursion IsGood ws) same one
good-route false false new e = absurd (cc)

good-expand : (w : Want) (t : Token) (new : List Want) → expand one w t ≡ Ok new → AllByRecursion IsGood new
good-expand (Network room) (Word name) new e = good-word (form_named name) (row_named name) room new e
good-expand (Parts room) (Sign Comma) new e =
    let same : Network room ∷ Parts room ∷ [] ≡ new = cc in
    let two : AllByRecursion IsGood (Network room ∷ Parts room ∷ []) = (tt, (tt, tt)) in
    subst (λ ws. AllByRecursion IsGood ws) same two
good-expand (Parts room) (Sign Close) new e = good-none new e
good-expand (Argument kind) t new e = good-argument kind (argument t) t new e
good-expand Schedule (Word name) new e = good-if (is_sched name) (Ok []) BadToken new (good-none new) e
good-expand Routing (Word name) new e = good-route (is_sched name) (same_bytes name (codes "by")) new e
good-expand Opening (Sign Open) new e = good-none new e
good-expand Closing (Sign Close) new e = good-none new e
good-expand Condition (Word name) new e = good-if (same_bytes name (codes "if")) (Ok []) BadToken new (good-none new) e
good-expand Finish Stop new e = good-none new e
good-expand w t new e = absurd (cc)

good-append : (new ws : List Want) → AllByRecursion IsGood new → AllByRecursion IsGood ws → AllByRecursion IsGood (new ++ ws)
good-append [] ws h k = k
good-append (w ∷ new) ws h k = (h.0, good-append new ws h.1 k)

good-pushed : (ws : List Want) (r : Result (List Want) TextKind) (next : List Want) → ((new : List Want) → r ≡ Ok new → AllByRecursion IsGood new) → AllByRecursion IsGood ws → pushed r ws ≡ Ok next → AllByRecursion IsGood next
good-pushed ws (Ok new) next each good e = let same : new ++ ws ≡ next = cc in subst (λ vs. AllByRecursion IsGood vs) same (good-append new ws (each new refl) good)
good-pushed ws (Err kind) next each good e = absurd (cc)

pub good-step : (ws : List Want) (t : Token) (next : List Want) → AllByRecursion IsGood ws → step one ws t ≡ Ok next → AllByRecursion IsGood next
good-step [] t next good e = absurd (cc)
good-step (w ∷ ws) t next good e = good-pushed ws (expand one w t) next (good-expand w t) good.1 e

-- the machine has come to `ws` along these tokens
pub record Reaches (ts : List Token) (ws : List Want) : Type 0 where
  pub run : run one ts start ≡ Ok ws
  pub good : AllByRecursion IsGood ws

pub Reaches-start : Reaches [] start
Reaches-start = record { run = refl; good = (tt, (tt, tt)) }

pub Reaches-more : (ts : List Token) (ws : List Want) (t : Token) (next : List Want) → Reaches ts ws → step one ws t ≡ Ok next → Reaches (ts ++ t ∷ []) next
Reaches-more ts ws t next h e =
    record { run = run-behind ts (t ∷ []) start ws h.run ∙ ap (then_run (run one [])) e; good = good-step ws t next h.good e }

-- wherever it has come a text goes on
pub viable : (ts : List Token) (ws : List Want) → Reaches ts ws → Begins ts
viable ts ws h =
    let k = ends ws h.good in
    let s = sound-text one (ts ++ k.0) tt (run-behind ts k.0 start ws h.run ∙ k.1) in
    (s.0, k.0, s.1, sym (Spells-unnamed s.0 (ts ++ k.0) (Stop ∷ []) s.2))

-- where it stops none does
pub stuck : (ts : List Token) (ws : List Want) (t : Token) (kind : TextKind) → Reaches ts ws → step one ws t ≡ Err kind → Begins (ts ++ t ∷ []) → ⊥
stuck ts ws t kind h e (net, rest, is, text) =
    let whole : run one (text_of net) start ≡ Ok [] = complete one net 15 (Finish ∷ []) (text_of net) (Stop ∷ []) is (Spells-spelling net (Stop ∷ [])) in
    let along : run one (text_of net) start ≡ Err kind =
    ap (λ us. run one us start) (text ∙ append_assoc ts (t ∷ []) rest) ∙ run-behind ts (t ∷ rest) start ws h.run ∙ ap (then_run (run one rest)) e in
    let clash : ◌≡◌ {A = Result (List Want) TextKind} (Ok []) (Err kind) = sym whole ∙ along in cc
