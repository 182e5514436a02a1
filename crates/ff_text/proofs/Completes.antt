-- What spells a network is taken where the network is wanted.
use Rattle.std.proofs.Common.{◌≡◌, ℕ, zero, suc, Bool, true, false, ◌&&◌, cond, List, [], ◌∷◌, ◌++◌, map, codes, None, Some, Ok, Err, pos, refl, ap, ◌∙◌, inl, inr}
use Rattle.ff_ops.specs.Arguments.{suits, is_within, fits, AllFit}
use Rattle.ff_ops.specs.Operation.{OpState}
use Rattle.ff_ops.specs.Table.{name_of, kinds_of, row_named}
use Rattle.ff_ops.specs.declared.arg.Arg.{Arg}
use Rattle.ff_ops.specs.declared.arg.Arg.TheVariants.{Num, Cmp as Compared}
use Rattle.ff_ops.specs.declared.arg.ArgKind.{ArgKind}
use Rattle.ff_ops.specs.declared.arg.ArgKind.TheVariants.{Num as AnyNumber, Cmp as AnyComparison}
use Rattle.ff_net.specs.Tree.{Tree, Trees, Leaf, Pipe, Comb, Farm, OFarm, A2a, Wrap, none, more}
use Rattle.ff_net.specs.declared.net.Sched.{Sched}
use Rattle.ff_net.specs.declared.net.Sched.TheVariants.{Rr, Od}
use Rattle.ff_net.specs.declared.net.Route.{Route}
use Rattle.ff_net.specs.declared.net.Route.TheVariants.{Rr as RouteRr, Od as RouteOd, By}
use Rattle.ff_net.specs.declared.net.Version.{Version}
use Rattle.ff_text.specs.declared.fault.TextKind.TheVariants.{Range}
use Rattle.ff_text.specs.declared.text_mark.TextMark.TheVariants.{Close}
use Rattle.ff_text.specs.Tokens.{Token, Word, Sign}
use Rattle.ff_text.specs.OperationTokens.{argument_token}
use Rattle.ff_text.specs.Grammar.{route_spelling, sched_word, count_token, a_count, IsCount, IsRoute, IsNet, AreParts, AreBehind}
use Rattle.ff_text.specs.Names.{Context, net_named}
use Rattle.ff_text.specs.Spelling.{Front, IsUse, InMarks, Spells, SpellsParts, SpellsBehind}
use Rattle.ff_text.specs.Wants.{Want, Network, Parts, Argument, Schedule, Routing, Opening, Closing, Condition, misplaced, begin_word, take_argument, expand, pushed, then_run, run}
use Rattle.ff_text.proofs.OperationTokens.{argument-argument_token}
use Rattle.ff_ops.proofs.RowLaws.{row_named-name_of}
use Rattle.ff_text.proofs.Named.{form_named-row_named}
use Rattle.ff_text.proofs.Depths.{room_is_depth}
use Rattle.ff_text.proofs.Uses.{expand-use, begin_use-room}

-- one token
pub takes : (c : Context) (w : Want) (t : Token) (new ws : List Want) (ts : List Token) → expand c w t ≡ Ok new → run c (t ∷ ts) (w ∷ ws) ≡ run c ts (new ++ ws)
takes c w t new ws ts e = ap (λ r. then_run (run c ts) (pushed r ws)) e

-- an argument that fits
take-fits : (v : Version) (a : Arg) (kind : ArgKind) (t : Token) (s w : Bool) → suits a kind ≡ s → is_within a kind ≡ w → (s && w) ≡ true → take_argument v kind (Some a) t ≡ Ok []
take-fits v a kind t true true is within h =
    ap (λ b. cond b (cond (is_within a kind) (Ok []) (Err Range)) (Err (misplaced v t))) is ∙ ap (λ b. cond b (Ok []) (Err Range)) within
take-fits v a kind t true false is within h = absurd (cc)
take-fits v a kind t false w is within h = absurd (cc)

pub expand-argument : (c : Context) (a : Arg) (kind : ArgKind) → fits a kind ≡ true → expand c (Argument kind) (argument_token a) ≡ Ok []
expand-argument c a kind h =
    ap (λ o. take_argument c.version kind o (argument_token a)) (argument-argument_token a)
    ∙ take-fits c.version a kind (argument_token a) (suits a kind) (is_within a kind) refl refl h

run-arguments : (c : Context) (args : List Arg) (kinds : List ArgKind) (ws : List Want) (rest : List Token) → AllFit args kinds
    → run c (map argument_token args ++ rest) (map (λ kind. Argument kind) kinds ++ ws) ≡ run c rest ws
run-arguments c [] [] ws rest h = refl
run-arguments c [] (k ∷ ks) ws rest h = absurd h
run-arguments c (a ∷ args) [] ws rest h = absurd h
run-arguments c (a ∷ args) (k ∷ ks) ws rest h =
    takes c (Argument k) (argument_token a) [] (map (λ kind. Argument kind) ks ++ ws) (map argument_token args ++ rest) (expand-argument c a k h.0)
    ∙ run-arguments c args ks ws rest h.1

expand-operation : (c : Context) (o : OpState) (room : ℕ) → expand c (Network room) (Word (name_of o.row)) ≡ Ok (map (λ kind. Argument kind) (kinds_of o.row))
expand-operation c o room =
    let named = row_named-name_of o.row in
    let net = net_named c.names (name_of o.row) in
    ap (λ f. begin_word f (row_named (name_of o.row)) net room) (form_named-row_named (name_of o.row) o.row named) ∙ ap (λ r. begin_word None r net room) named

-- a count
run-count : (c : Context) (n : ℕ) (ws : List Want) (rest : List Token) → IsCount n → run c (count_token n ∷ rest) (Argument a_count ∷ ws) ≡ run c rest ws
run-count c n ws rest h = takes c (Argument a_count) (count_token n) [] ws rest (expand-argument c (Num (pos n)) a_count h)

-- a schedule
run-sched : (c : Context) (s : Sched) (ws : List Want) (rest : List Token) → run c (Word (sched_word s) ∷ rest) (Schedule ∷ ws) ≡ run c rest ws
run-sched c Rr ws rest = refl
run-sched c Od ws rest = refl

-- a route
run-route : (c : Context) (r : Route) (ws : List Want) (rest : List Token) → IsRoute r → run c (route_spelling r ++ rest) (Routing ∷ ws) ≡ run c rest ws
run-route c RouteRr ws rest h = refl
run-route c RouteOd ws rest h = refl
run-route c (By field) ws rest h = run-count c field ws rest h

-- a network in its marks
run-marks : (c : Context) (Inner : Front) (room : ℕ) (ws : List Want) (ts rest : List Token)
    → ((xs ys : List Token) (vs : List Want) → Inner xs ys → run c xs (Network room ∷ vs) ≡ run c ys vs)
    → InMarks Inner ts rest → run c ts (Opening ∷ Network room ∷ Closing ∷ ws) ≡ run c rest ws
run-marks c Inner room ws ts rest each h =
    ap (λ us. run c us (Opening ∷ Network room ∷ Closing ∷ ws)) h.1 ∙ each h.0 (Sign Close ∷ rest) (Closing ∷ ws) h.2

-- a word that stands for a network
run-use : (c : Context) (t : Tree OpState) (room : ℕ) (ws : List Want) (ts rest : List Token) → IsNet t room → IsUse c.names t ts rest
    → run c ts (Network room ∷ ws) ≡ run c rest ws
run-use c t room ws ts rest net h =
    ap (λ us. run c us (Network room ∷ ws)) h.1
    ∙ takes c (Network room) (Word h.0) [] ws rest
    (expand-use c h.0 room h.2 h.3 ∙ begin_use-room t room (net_named c.names h.0) h.4 ((room_is_depth t room room net).0 net))

mutual
  pub complete : (c : Context) (t : Tree OpState) (room : ℕ) (ws : List Want) (ts rest : List Token) → IsNet t room → Spells c.names t ts rest
      → run c ts (Network room ∷ ws) ≡ run c rest ws
  complete c (Leaf o) room ws ts rest h (inl k) = run-use c (Leaf o) room ws ts rest h k
  complete c (Leaf o) room ws ts rest h (inr k) =
      ap (λ us. run c us (Network room ∷ ws)) k
      ∙ takes c (Network room) (Word (name_of o.row)) (map (λ kind. Argument kind) (kinds_of o.row)) ws (map argument_token o.args ++ rest) (expand-operation c o room)
      ∙ run-arguments c o.args (kinds_of o.row) ws rest h.1
  complete c (Pipe us) room ws ts rest h (inl k) = run-use c (Pipe us) room ws ts rest h k
  complete c (Pipe us) zero ws ts rest h (inr k) = absurd h
  complete c (Pipe us) (suc room) ws ts rest h (inr k) =
      ap (λ xs. run c xs (Network (suc room) ∷ ws)) (k.1 ∙ ap (λ xs. Word (codes "pipe") ∷ xs) k.2.1)
      ∙ complete-parts c us room ws k.2.0 rest h k.2.2
  complete c (Comb us) room ws ts rest h (inl k) = run-use c (Comb us) room ws ts rest h k
  complete c (Comb us) zero ws ts rest h (inr k) = absurd h
  complete c (Comb us) (suc room) ws ts rest h (inr k) =
      ap (λ xs. run c xs (Network (suc room) ∷ ws)) (k.1 ∙ ap (λ xs. Word (codes "comb") ∷ xs) k.2.1)
      ∙ complete-parts c us room ws k.2.0 rest h k.2.2
  complete c (Farm n s w) room ws ts rest h (inl k) = run-use c (Farm n s w) room ws ts rest h k
  complete c (Farm n s w) zero ws ts rest h (inr k) = absurd h
  complete c (Farm n s w) (suc room) ws ts rest h (inr k) =
      ap (λ xs. run c xs (Network (suc room) ∷ ws)) k.1
      ∙ run-count c n (Schedule ∷ Opening ∷ Network room ∷ Closing ∷ ws) (Word (sched_word s) ∷ k.0) h.0
      ∙ run-sched c s (Opening ∷ Network room ∷ Closing ∷ ws) k.0
      ∙ run-marks c (λ xs ys. Spells c.names w xs ys) room ws k.0 rest (λ xs ys vs p. complete c w room vs xs ys h.1 p) k.2
  complete c (OFarm n s w) room ws ts rest h (inl k) = run-use c (OFarm n s w) room ws ts rest h k
  complete c (OFarm n s w) zero ws ts rest h (inr k) = absurd h
  complete c (OFarm n s w) (suc room) ws ts rest h (inr k) =
      ap (λ xs. run c xs (Network (suc room) ∷ ws)) k.1
      ∙ run-count c n (Schedule ∷ Opening ∷ Network room ∷ Closing ∷ ws) (Word (sched_word s) ∷ k.0) h.0
      ∙ run-sched c s (Opening ∷ Network room ∷ Closing ∷ ws) k.0
      ∙ run-marks c (λ xs ys. Spells c.names w xs ys) room ws k.0 rest (λ xs ys vs p. complete c w room vs xs ys h.1 p) k.2
  complete c (A2a n l r m t) room ws ts rest h (inl k) = run-use c (A2a n l r m t) room ws ts rest h k
  complete c (A2a n l r m t) zero ws ts rest h (inr k) = absurd h
  complete c (A2a n l r m t) (suc room) ws ts rest h (inr k) =
      let right = Argument a_count ∷ Opening ∷ Network room ∷ Closing ∷ ws in
      ap (λ xs. run c xs (Network (suc room) ∷ ws)) k.1.1
      ∙ run-count c n (Opening ∷ Network room ∷ Closing ∷ Routing ∷ right) k.1.0 h.0
      ∙ run-marks c (λ xs ys. Spells c.names l xs ys) room (Routing ∷ right) k.1.0 (route_spelling r ++ k.0) (λ xs ys vs p. complete c l room vs xs ys h.1 p) k.1.2
      ∙ run-route c r right k.0 h.2
      ∙ ap (λ xs. run c xs right) k.2.1
      ∙ run-count c m (Opening ∷ Network room ∷ Closing ∷ ws) k.2.0 h.3
      ∙ run-marks c (λ xs ys. Spells c.names t xs ys) room ws k.2.0 rest (λ xs ys vs p. complete c t room vs xs ys h.4 p) k.2.2
  complete c (Wrap n w test) room ws ts rest h (inl k) = run-use c (Wrap n w test) room ws ts rest h k
  complete c (Wrap n w test) zero ws ts rest h (inr k) = absurd h
  complete c (Wrap n w test) (suc room) ws ts rest h (inr k) =
      let tested = Argument a_count ∷ Argument AnyComparison ∷ Argument AnyNumber ∷ ws in
      let back = count_token test.field ∷ argument_token (Compared test.cmp) ∷ argument_token (Num test.value) ∷ rest in
      ap (λ xs. run c xs (Network (suc room) ∷ ws)) k.1
      ∙ run-count c n (Opening ∷ Network room ∷ Closing ∷ Condition ∷ tested) k.0 h.0
      ∙ run-marks c (λ xs ys. Spells c.names w xs ys) room (Condition ∷ tested) k.0 (Word (codes "if") ∷ back) (λ xs ys vs p. complete c w room vs xs ys h.1 p) k.2
      ∙ run-count c test.field (Argument AnyComparison ∷ Argument AnyNumber ∷ ws) (argument_token (Compared test.cmp) ∷ argument_token (Num test.value) ∷ rest) h.2
      ∙ takes c (Argument AnyComparison) (argument_token (Compared test.cmp)) [] (Argument AnyNumber ∷ ws) (argument_token (Num test.value) ∷ rest) (expand-argument c (Compared test.cmp) AnyComparison refl)
      ∙ takes c (Argument AnyNumber) (argument_token (Num test.value)) [] ws rest (expand-argument c (Num test.value) AnyNumber refl)

  complete-parts : (c : Context) (us : Trees OpState) (room : ℕ) (ws : List Want) (ts rest : List Token) → AreParts us room → SpellsParts c.names us ts (Sign Close ∷ rest)
      → run c ts (Network room ∷ Parts room ∷ ws) ≡ run c rest ws
  complete-parts c none room ws ts rest h k = absurd h
  complete-parts c (more t us) room ws ts rest h k =
      complete c t room (Parts room ∷ ws) ts k.0 h.0 k.1 ∙ complete-behind c us room ws k.0 rest h.1 k.2

  complete-behind : (c : Context) (us : Trees OpState) (room : ℕ) (ws : List Want) (ts rest : List Token) → AreBehind us room → SpellsBehind c.names us ts (Sign Close ∷ rest)
      → run c ts (Parts room ∷ ws) ≡ run c rest ws
  complete-behind c none room ws ts rest h k = ap (λ xs. run c xs (Parts room ∷ ws)) k
  complete-behind c (more t us) room ws ts rest h k =
      ap (λ xs. run c xs (Parts room ∷ ws)) k.2
      ∙ complete c t room (Parts room ∷ ws) k.0 k.1 h.0 k.3
      ∙ complete-behind c us room ws k.1 rest h.1 k.4
