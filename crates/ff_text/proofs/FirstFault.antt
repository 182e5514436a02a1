-- What is wrong where the machine stops, and that it is the first fault.
use Rattle.std.proofs.Common.{◌≡◌, ◌≢◌, ℕ, zero, suc, Bool, true, false, cond, List, [], ◌∷◌, ◌++◌, codes, Option, None, Some, Result, Ok, Err, ℤ, pos, refl, sym, ap, subst, ◌∙◌, append_assoc, inl, inr}
use Rattle.std.specs.Prelude.{◌⊎◌}
use Rattle.std.proofs.lemmas.List.{map-append}
use Rattle.std.specs.Option.{option_map}
use Rattle.ff_rec.specs.Fields.{same_bytes}
use Rattle.ff_ops.specs.Arguments.{suits, is_within, is_numeric}
use Rattle.ff_ops.specs.Table.{row_named}
use Rattle.ff_ops.specs.declared.row.Row.{Row}
use Rattle.ff_ops.specs.declared.arg.Arg.TheVariants.{Num, Cmp as Compared, Text}
use Rattle.ff_ops.specs.declared.arg.ArgKind.{ArgKind}
use Rattle.ff_ops.specs.declared.arg.ArgKind.TheVariants.{Field, Num as AnyNumber, NonZero, Count, Cmp as AnyComparison, Text as AnyText}
use Rattle.ff_rec.specs.declared.cmp.Cmp.{Cmp}
use Rattle.ff_text.specs.declared.fault.TextKind.{TextKind}
use Rattle.ff_text.specs.declared.fault.TextKind.TheVariants.{BadByte, BadToken, UnknownName, Range, Deep, End, Large, TakenName}
use Rattle.ff_text.specs.declared.form.Form.{Form}
use Rattle.ff_text.specs.declared.text_mark.TextMark.{TextMark}
use Rattle.ff_text.specs.declared.text_mark.TextMark.TheVariants.{Open, Close, Comma, Semicolon}
use Rattle.ff_text.specs.Tokens.{Token, Word, Number, Sign, Quoted, Bad, Stop, PlacedToken}
use Rattle.ff_text.specs.Printing.{tokens_of}
use Rattle.ff_text.specs.OperationTokens.{argument_token, comparison}
use Rattle.ff_text.specs.Grammar.{form_word, form_named, a_count}
use Rattle.ff_text.specs.Faults.{Begins, AwaitsNet, AwaitsNumber, IsBadByte, IsFormWord, IsUnknownWord, IsNumberToken, Means, Fault, IsFault}
use Rattle.ff_net.specs.declared.net.Version.TheVariants.{One}
use Rattle.ff_text.specs.Names.{one}
use Rattle.ff_text.specs.Wants.{Want, Network, Parts, Argument, Schedule, Routing, Opening, Closing, Condition, Finish, misplaced, begin_word, take_argument, is_sched, expand, pushed, step, then_walk, walk, start}
use Rattle.ff_text.proofs.Named.{form_word-form_named}
use Rattle.ff_text.proofs.Completes.{expand-argument}
use Rattle.ff_text.proofs.Viable.{example, Reaches, Reaches-start, Reaches-more, viable, stuck}

-- a fault, where nothing is taken
abbrev err : TextKind → Result (List Want) TextKind
err k = Err k

-- a network, or a number, is wanted first
abbrev NetFirst : List Want → Type 0
NetFirst (Network room ∷ ws) = Unit {0}
NetFirst _ = ⊥

abbrev NumberFirst : List Want → Type 0
NumberFirst (Argument kind ∷ ws) = is_numeric kind ≡ true
NumberFirst _ = ⊥

-- a kind of fault, said of what is wanted
abbrev Says : TextKind → List Want → Token → Type 0
Says BadByte ws t = IsBadByte t
Says Deep ws t = NetFirst ws × IsFormWord t
Says UnknownName ws t = NetFirst ws × IsUnknownWord t
Says Large ws t = ⊥
Says TakenName ws t = ⊥
Says Range ws t = NumberFirst ws × IsNumberToken t
Says End ws t = t ≡ Stop
Says BadToken ws t =
    (IsBadByte t → ⊥) × (t ≢ Stop) × (NetFirst ws → IsFormWord t → ⊥) × (NetFirst ws → IsUnknownWord t → ⊥) × (NumberFirst ws → IsNumberToken t → ⊥)

-- no word where a network is wanted, and no number where a number is
abbrev IsOutOfPlace : List Want → Token → Type 0
IsOutOfPlace ws t = (NetFirst ws → (name : List ℕ) → t ≢ Word name) × (NumberFirst ws → (n : Option ℤ) → t ≢ Number n)

neither : (t : Token) → t ≢ Bad → t ≢ Sign Semicolon → IsBadByte t → ⊥
neither t p q (inl e) = p e
neither t p q (inr e) = q e

Says-bad_token : (ws : List Want) (t : Token) → t ≢ Bad → t ≢ Sign Semicolon → t ≢ Stop → IsOutOfPlace ws t → Says BadToken ws t
Says-bad_token ws t p q r out =
    (neither t p q, r, λ net (f, is). out.0 net (form_word f) is, λ net (name, is, _, _). out.0 net name is, λ number (n, is). out.1 number n is)

Says-misplaced : (ws : List Want) (t : Token) → IsOutOfPlace ws t → Says (misplaced One t) ws t
Says-misplaced ws (Sign Semicolon) out = inr refl
Says-misplaced ws Bad out = inl refl
Says-misplaced ws Stop out = refl
Says-misplaced ws t out = Says-bad_token ws t (λ e. cc) (λ e. cc) (λ e. cc) out

Says-is : (ws : List Want) (t : Token) (kind : TextKind) → IsOutOfPlace ws t → misplaced One t ≡ kind → Says kind ws t
Says-is ws t kind out is = subst (λ k. Says k ws t) is (Says-misplaced ws t out)

-- where neither is wanted
out-of-place : (ws : List Want) (t : Token) → (NetFirst ws → ⊥) → (NumberFirst ws → ⊥) → IsOutOfPlace ws t
out-of-place ws t p q = (λ net. absurd (p net), λ number. absurd (q number))

-- a word where a network is wanted
Says-word : (ws : List Want) (f : Option Form) (row : Option Row) (room : ℕ) (name : List ℕ) (kind : TextKind) → form_named name ≡ f → row_named name ≡ row
    → begin_word f row None room ≡ Err kind → Says kind (Network room ∷ ws) (Word name)
Says-word ws (Some f) row zero name kind is named e =
    let same : Deep ≡ kind = cc in
    let deep : Says Deep (Network zero ∷ ws) (Word name) = (tt, (f, ap Word (sym (form_word-form_named name f is)))) in
    subst (λ k. Says k (Network zero ∷ ws) (Word name)) same deep
Says-word ws (Some f) row (suc room) name kind is named e = absurd (cc)
Says-word ws None (Some row) room name kind is named e = absurd (cc)
Says-word ws None None room name kind is named e =
    let same : UnknownName ≡ kind = cc in
    let unknown : Says UnknownName (Network room ∷ ws) (Word name) = (tt, (name, refl, is, named)) in
    subst (λ k. Says k (Network room ∷ ws) (Word name)) same unknown

Says-network : (ws : List Want) (room : ℕ) (t : Token) (kind : TextKind) → expand one (Network room) t ≡ Err kind → Says kind (Network room ∷ ws) t
Says-network ws room (Word name) kind e = Says-word ws (form_named name) (row_named name) room name kind refl refl e
Says-network ws room t kind e =
    let is : misplaced One t ≡ kind = cc in Says-is (Network room ∷ ws) t kind (λ net name same. cc, λ number. absurd number) is

-- a number where an argument is wanted
Says-range : (ws : List Want) (kind : ArgKind) (n : Option ℤ) → is_numeric kind ≡ true → Says Range (Argument kind ∷ ws) (Number n)
Says-range ws kind n numeric = (numeric, (n, refl))

Says-no_number : (ws : List Want) (kind : ArgKind) (n : Option ℤ) → is_numeric kind ≡ false → Says BadToken (Argument kind ∷ ws) (Number n)
Says-no_number ws kind n other =
    Says-misplaced (Argument kind ∷ ws) (Number n) (λ net. absurd net, λ numeric. let clash : true ≡ false = sym numeric ∙ other in cc)

Says-number : (ws : List Want) (kind : ArgKind) (n : ℤ) (k : TextKind) (b w : Bool) → is_numeric kind ≡ b → is_within (Num n) kind ≡ w
    → cond b (cond w (Ok []) (Err Range)) (Err BadToken) ≡ err k → Says k (Argument kind ∷ ws) (Number (Some n))
Says-number ws kind n k true true is within e = absurd (cc)
Says-number ws kind n k true false is within e = let same : Range ≡ k = cc in subst (λ j. Says j (Argument kind ∷ ws) (Number (Some n))) same (Says-range ws kind (Some n) is)
Says-number ws kind n k false w is within e = let same : BadToken ≡ k = cc in subst (λ j. Says j (Argument kind ∷ ws) (Number (Some n))) same (Says-no_number ws kind (Some n) is)

Says-large : (ws : List Want) (kind : ArgKind) (k : TextKind) (b : Bool) → is_numeric kind ≡ b → cond b (Err Range) (Err BadToken) ≡ err k → Says k (Argument kind ∷ ws) (Number None)
Says-large ws kind k true is e = let same : Range ≡ k = cc in subst (λ j. Says j (Argument kind ∷ ws) (Number None)) same (Says-range ws kind None is)
Says-large ws kind k false is e = let same : BadToken ≡ k = cc in subst (λ j. Says j (Argument kind ∷ ws) (Number None)) same (Says-no_number ws kind None is)

-- another argument
misplaced-if : (b : Bool) (j k : TextKind) → cond b (Ok []) (Err j) ≡ err k → j ≡ k
misplaced-if true j k e = absurd (cc)
misplaced-if false j k e = cc

misplaced-sign : (kind : ArgKind) (m : TextMark) (o : Option Cmp) (k : TextKind) → take_argument One kind (option_map (λ cmp. Compared cmp) o) (Sign m) ≡ Err k → misplaced One (Sign m) ≡ k
misplaced-sign kind m None k e = cc
misplaced-sign kind m (Some cmp) k e = misplaced-if (suits (Compared cmp) kind) (misplaced One (Sign m)) k e

Says-argument : (ws : List Want) (kind : ArgKind) (t : Token) (k : TextKind) → expand one (Argument kind) t ≡ Err k → Says k (Argument kind ∷ ws) t
Says-argument ws kind (Word name) k e = Says-is (Argument kind ∷ ws) (Word name) k (λ net. absurd net, λ numeric n same. cc) (cc)
Says-argument ws kind (Number None) k e = Says-large ws kind k (is_numeric kind) refl e
Says-argument ws kind (Number (Some n)) k e = Says-number ws kind n k (is_numeric kind) (is_within (Num n) kind) refl refl e
Says-argument ws kind (Sign m) k e = Says-is (Argument kind ∷ ws) (Sign m) k (λ net. absurd net, λ numeric n same. cc) (misplaced-sign kind m (comparison m) k e)
Says-argument ws kind (Quoted bytes) k e = Says-is (Argument kind ∷ ws) (Quoted bytes) k (λ net. absurd net, λ numeric n same. cc) (misplaced-if (suits (Text bytes) kind) BadToken k e)
Says-argument ws kind Bad k e = Says-is (Argument kind ∷ ws) Bad k (λ net. absurd net, λ numeric n same. cc) (cc)
Says-argument ws kind Stop k e = Says-is (Argument kind ∷ ws) Stop k (λ net. absurd net, λ numeric n same. cc) (cc)

-- anything else that is wanted
misplaced-parts : (room : ℕ) (t : Token) (k : TextKind) → expand one (Parts room) t ≡ Err k → misplaced One t ≡ k
misplaced-parts room (Sign Comma) k e = absurd (cc)
misplaced-parts room t k e = cc

misplaced-schedule : (t : Token) (k : TextKind) → expand one Schedule t ≡ Err k → misplaced One t ≡ k
misplaced-schedule (Word name) k e = misplaced-if (is_sched name) BadToken k e
misplaced-schedule t k e = cc

misplaced-route : (b c : Bool) (k : TextKind) → cond b (Ok []) (cond c (Ok (Argument a_count ∷ [])) (Err BadToken)) ≡ err k → BadToken ≡ k
misplaced-route true c k e = absurd (cc)
misplaced-route false true k e = absurd (cc)
misplaced-route false false k e = cc

misplaced-routing : (t : Token) (k : TextKind) → expand one Routing t ≡ Err k → misplaced One t ≡ k
misplaced-routing (Word name) k e = misplaced-route (is_sched name) (same_bytes name (codes "by")) k e
misplaced-routing t k e = cc

misplaced-opening : (t : Token) (k : TextKind) → expand one Opening t ≡ Err k → misplaced One t ≡ k
misplaced-opening (Sign Open) k e = absurd (cc)
misplaced-opening t k e = cc

misplaced-closing : (t : Token) (k : TextKind) → expand one Closing t ≡ Err k → misplaced One t ≡ k
misplaced-closing (Sign Close) k e = absurd (cc)
misplaced-closing t k e = cc

misplaced-condition : (t : Token) (k : TextKind) → expand one Condition t ≡ Err k → misplaced One t ≡ k
misplaced-condition (Word name) k e = misplaced-if (same_bytes name (codes "if")) BadToken k e
misplaced-condition t k e = cc

misplaced-finish : (t : Token) (k : TextKind) → expand one Finish t ≡ Err k → misplaced One t ≡ k
misplaced-finish Stop k e = absurd (cc)
misplaced-finish t k e = cc

Says-expand : (w : Want) (ws : List Want) (t : Token) (k : TextKind) → expand one w t ≡ Err k → Says k (w ∷ ws) t
Says-expand (Network room) ws t k e = Says-network ws room t k e
Says-expand (Parts room) ws t k e = Says-is (Parts room ∷ ws) t k (out-of-place (Parts room ∷ ws) t (λ h. h) (λ h. h)) (misplaced-parts room t k e)
Says-expand (Argument kind) ws t k e = Says-argument ws kind t k e
Says-expand Schedule ws t k e = Says-is (Schedule ∷ ws) t k (out-of-place (Schedule ∷ ws) t (λ h. h) (λ h. h)) (misplaced-schedule t k e)
Says-expand Routing ws t k e = Says-is (Routing ∷ ws) t k (out-of-place (Routing ∷ ws) t (λ h. h) (λ h. h)) (misplaced-routing t k e)
Says-expand Opening ws t k e = Says-is (Opening ∷ ws) t k (out-of-place (Opening ∷ ws) t (λ h. h) (λ h. h)) (misplaced-opening t k e)
Says-expand Closing ws t k e = Says-is (Closing ∷ ws) t k (out-of-place (Closing ∷ ws) t (λ h. h) (λ h. h)) (misplaced-closing t k e)
Says-expand Condition ws t k e = Says-is (Condition ∷ ws) t k (out-of-place (Condition ∷ ws) t (λ h. h) (λ h. h)) (misplaced-condition t k e)
Says-expand Finish ws t k e = Says-is (Finish ∷ ws) t k (out-of-place (Finish ∷ ws) t (λ h. h) (λ h. h)) (misplaced-finish t k e)

pushed-err : (ws : List Want) (r : Result (List Want) TextKind) (k : TextKind) → pushed r ws ≡ Err k → r ≡ Err k
pushed-err ws (Ok new) k e = absurd (cc)
pushed-err ws (Err j) k e = let same : j ≡ k = cc in ap (λ i. Err i) same

Says-step : (ws : List Want) (t : Token) (k : TextKind) → step one ws t ≡ Err k → Says k ws t
Says-step [] t k e = Says-is [] t k (out-of-place [] t (λ h. h) (λ h. h)) (cc)
Says-step (w ∷ ws) t k e = Says-expand w ws t k (pushed-err ws (expand one w t) k e)

-- what is wanted first, by the probes
awaits-net : (ts : List Token) (ws : List Want) → Reaches ts ws → NetFirst ws → AwaitsNet ts
awaits-net ts (Network room ∷ ws) h net = viable (ts ++ Word (codes "id") ∷ []) ws (Reaches-more ts (Network room ∷ ws) (Word (codes "id")) ws h refl)
awaits-net ts ws h net = absurd net

number-example : (kind : ArgKind) → is_numeric kind ≡ true → (n : ℤ) × (example kind ≡ Num n)
number-example Field e = (pos 1, refl)
number-example AnyNumber e = (pos 0, refl)
number-example NonZero e = (pos 1, refl)
number-example (Count low high) e = (pos low, refl)
number-example AnyComparison e = absurd (cc)
number-example AnyText e = absurd (cc)

awaits-number : (ts : List Token) (ws : List Want) → Reaches ts ws → NumberFirst ws → AwaitsNumber ts
awaits-number ts (Argument kind ∷ ws) h numeric =
    let n = number-example kind numeric in
    let t = argument_token (example kind) in
    let taken : step one (Argument kind ∷ ws) t ≡ Ok ws = ap (λ r. pushed r ws) (expand-argument one (example kind) kind h.good.0) in
    (n.0, subst (λ a. Begins (ts ++ argument_token a ∷ [])) n.1 (viable (ts ++ t ∷ []) ws (Reaches-more ts (Argument kind ∷ ws) t ws h taken)))
awaits-number ts ws h numeric = absurd numeric

refuses-id : (ws : List Want) → NetFirst ws ⊎ ((k : TextKind) × (step one ws (Word (codes "id")) ≡ Err k))
refuses-id [] = inr (BadToken, refl)
refuses-id (Network room ∷ ws) = inl tt
refuses-id (Parts room ∷ ws) = inr (BadToken, refl)
refuses-id (Argument kind ∷ ws) = inr (BadToken, refl)
refuses-id (Schedule ∷ ws) = inr (BadToken, refl)
refuses-id (Routing ∷ ws) = inr (BadToken, refl)
refuses-id (Opening ∷ ws) = inr (BadToken, refl)
refuses-id (Closing ∷ ws) = inr (BadToken, refl)
refuses-id (Condition ∷ ws) = inr (BadToken, refl)
refuses-id (Finish ∷ ws) = inr (BadToken, refl)

net-first : (ts : List Token) (ws : List Want) → Reaches ts ws → AwaitsNet ts → NetFirst ws
net-first ts ws h awaits = by (refuses-id ws)
  where
    by : NetFirst ws ⊎ ((k : TextKind) × (step one ws (Word (codes "id")) ≡ Err k)) → NetFirst ws
    by (inl net) = net
    by (inr (k, e)) = absurd (stuck ts ws (Word (codes "id")) k h e awaits)

refuses-argument : (kind : ArgKind) (ws : List Want) (n : ℤ) (b : Bool) → is_numeric kind ≡ b → (is_numeric kind ≡ true) ⊎ ((k : TextKind) × (step one (Argument kind ∷ ws) (Number (Some n)) ≡ Err k))
refuses-argument kind ws n true is = inl is
refuses-argument kind ws n false is = inr (BadToken, ap (λ b. pushed (cond b (cond (is_within (Num n) kind) (Ok []) (Err Range)) (Err BadToken)) ws) is)

refuses-number : (ws : List Want) (n : ℤ) → NumberFirst ws ⊎ ((k : TextKind) × (step one ws (Number (Some n)) ≡ Err k))
refuses-number [] n = inr (BadToken, refl)
refuses-number (Network room ∷ ws) n = inr (BadToken, refl)
refuses-number (Parts room ∷ ws) n = inr (BadToken, refl)
refuses-number (Argument kind ∷ ws) n = refuses-argument kind ws n (is_numeric kind) refl
refuses-number (Schedule ∷ ws) n = inr (BadToken, refl)
refuses-number (Routing ∷ ws) n = inr (BadToken, refl)
refuses-number (Opening ∷ ws) n = inr (BadToken, refl)
refuses-number (Closing ∷ ws) n = inr (BadToken, refl)
refuses-number (Condition ∷ ws) n = inr (BadToken, refl)
refuses-number (Finish ∷ ws) n = inr (BadToken, refl)

number-first : (ts : List Token) (ws : List Want) → Reaches ts ws → AwaitsNumber ts → NumberFirst ws
number-first ts ws h (n, begins) = by (refuses-number ws n)
  where
    by : NumberFirst ws ⊎ ((k : TextKind) × (step one ws (Number (Some n)) ≡ Err k)) → NumberFirst ws
    by (inl numeric) = numeric
    by (inr (k, e)) = absurd (stuck ts ws (Number (Some n)) k h e begins)

Means-Says : (k : TextKind) (ts : List Token) (ws : List Want) (t : Token) → Reaches ts ws → Says k ws t → Means k ts t
Means-Says BadByte ts ws t h s = s
Means-Says Deep ts ws t h s = (awaits-net ts ws h s.0, s.1)
Means-Says UnknownName ts ws t h s = (awaits-net ts ws h s.0, s.1)
Means-Says Large ts ws t h s = s
Means-Says TakenName ts ws t h s = s
Means-Says Range ts ws t h s = (awaits-number ts ws h s.0, s.1)
Means-Says End ts ws t h s = s
Means-Says BadToken ts ws t h s =
    (s.0, s.1, λ a. s.2 (net-first ts ws h a), λ a. s.3 (net-first ts ws h a), λ a. s.4 (number-first ts ws h a))

-- the first fault behind what is taken
fault-step : (before : List PlacedToken) (s : PlacedToken) (ss : List PlacedToken) (ws : List Want) (f : Fault) (r : Result (List Want) TextKind) → step one ws s.token ≡ r → Reaches (tokens_of before) ws
    → ((next : List Want) → Reaches (tokens_of (before ++ s ∷ [])) next → walk one ss next ≡ Err f → IsFault ((before ++ s ∷ []) ++ ss) f)
    → then_walk s.at (walk one ss) r ≡ Err f → IsFault (before ++ s ∷ ss) f
fault-step before s ss ws f (Ok next) is h each e =
    let reached = subst (λ ts. Reaches ts next) (sym (map-append (λ (p : PlacedToken). p.token) before (s ∷ []))) (Reaches-more (tokens_of before) ws s.token next h is) in
    subst (λ spots. IsFault spots f) (append_assoc before (s ∷ []) ss) (each next reached e)
fault-step before s ss ws f (Err k) is h each e =
    let same : record { at = s.at; kind = k } ≡ f = cc in
    record {
      before = before;
      spot = s;
      after = ss;
      whole = refl;
      viable = viable (tokens_of before) ws h;
      stuck = stuck (tokens_of before) ws s.token k h is;
      kind = subst (λ j. Means j (tokens_of before) s.token) (ap (λ (g : Fault). g.kind) same) (Means-Says k (tokens_of before) ws s.token h (Says-step ws s.token k is));
      at = sym (ap (λ (g : Fault). g.at) same);
    }

fault-walk : (before : List PlacedToken) (ss : List PlacedToken) (ws : List Want) (f : Fault) → Reaches (tokens_of before) ws → walk one ss ws ≡ Err f → IsFault (before ++ ss) f
fault-walk before [] ws f h e = absurd (cc)
fault-walk before (s ∷ ss) ws f h e =
    fault-step before s ss ws f (step one ws s.token) refl h (λ next reached walked. fault-walk (before ++ s ∷ []) ss next f reached walked) e

pub first_fault : (spots : List PlacedToken) (f : Fault) → walk one spots start ≡ Err f → IsFault spots f
first_fault spots f e = fault-walk [] spots start f Reaches-start e
