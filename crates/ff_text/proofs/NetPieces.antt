-- A network as pieces, with a blank before some.
use Rattle.std.proofs.Common.{◌≡◌, ℕ, zero, suc, ◌≤◌, arith, Bool, true, false, not, ◌||◌, IsTrue, if◌then◌else◌, List, [], ◌∷◌, ◌++◌, map, codes, Some, ℤ, pos, refl, sym, ap, subst, ◌∙◌, append_assoc, append-nil}
use Rattle.std.proofs.lemmas.Bool.{and_parts, leb-true}
use Rattle.std.proofs.lemmas.Int.{ints}
use Rattle.std.proofs.lemmas.List.{map-append}
use Rattle.std.proofs.Math.Dec.{leb}
use Rattle.std.specs.List.{AllByRecursion}
use Rattle.ff_rec.specs.Number.{IsNumber, printed}
use Rattle.ff_rec.specs.declared.cmp.Cmp.{Cmp}
use Rattle.ff_rec.specs.declared.cmp.Cmp.TheVariants.{Lt, Le, Eq, Ne, Ge, Gt}
use Rattle.ff_ops.specs.Arguments.{printed_argument}
use Rattle.ff_ops.specs.Operation.{OpState, printed_arguments}
use Rattle.ff_ops.specs.Table.{name_of}
use Rattle.ff_ops.specs.declared.row.Row.{Row}
use Rattle.ff_ops.specs.declared.row.Row.TheVariants.{Id}
use Rattle.ff_ops.specs.declared.arg.Arg.{Arg}
use Rattle.ff_ops.specs.declared.arg.Arg.TheVariants.{Num, Cmp as Compared, Text}
use Rattle.ff_net.specs.Tree.{Tree, Trees, Leaf, Pipe, Comb, Farm, OFarm, A2a, Wrap, none, more}
use Rattle.ff_net.specs.declared.net.Sched.{Sched}
use Rattle.ff_net.specs.declared.net.Sched.TheVariants.{Rr, Od}
use Rattle.ff_net.specs.declared.net.Route.{Route}
use Rattle.ff_net.specs.declared.net.Route.TheVariants.{Rr as RouteRr, Od as RouteOd, By}
use Rattle.ff_text.specs.declared.text_mark.TextMark.TheVariants.{Open, Close, Comma}
use Rattle.ff_text.specs.Tokens.{Token, Word, Number, Sign, Stop}
use Rattle.ff_text.specs.Cutting.{tokens}
use Rattle.ff_text.specs.Printing.{Piece, written, printed_text, IsPrintable, is_word, run_together, AreApart, tokens_of, pieces_of, PrintedIsCut}
use Rattle.ff_text.specs.OperationTokens.{mark_of, argument_token}
use Rattle.ff_text.specs.Grammar.{IsCount, IsRoute, IsNet, AreParts, AreBehind, spelling, parts_spelling, behind_spelling, route_spelling, sched_word, count_token}
use Rattle.ff_text.specs.NetPrinting.{printed_net, printed_parts, printed_behind, printed_route}
use Rattle.ff_text.specs.PrintLaw.{CanPrint, CanPrintAll, PrintedNetsAreSpelled}

-- each number is one of 64 bits, and each text may stand in quotes
abbrev RouteStands : Route → Type 0
RouteStands RouteRr = Unit {0}
RouteStands RouteOd = Unit {0}
RouteStands (By field) = IsNumber (pos field)

abbrev mutual
  Stands : Tree OpState → Type 0
  Stands (Leaf o) = AllByRecursion (λ a. IsPrintable (argument_token a)) o.args
  Stands (Pipe ts) = AllStand ts
  Stands (Comb ts) = AllStand ts
  Stands (Farm n s w) = IsNumber (pos n) × Stands w
  Stands (OFarm n s w) = IsNumber (pos n) × Stands w
  Stands (A2a n l r m t) = IsNumber (pos n) × Stands l × RouteStands r × IsNumber (pos m) × Stands t
  Stands (Wrap n w test) = IsNumber (pos n) × Stands w × IsNumber (pos test.field) × IsNumber test.value

  AllStand : Trees OpState → Type 0
  AllStand none = Unit {0}
  AllStand (more t ts) = Stands t × AllStand ts

-- counts are numbers of 64 bits
IsNumber-count : (n : ℕ) → IsCount n → IsNumber (pos n)
IsNumber-count n h =
    let le : n ≤ 4294967295 = leb-true n 4294967295 (and_parts (leb 0 n) (leb n 4294967295) h).1 in
    (omega (arith, ints), omega (arith, ints))

RouteStands-route : (r : Route) → IsRoute r → RouteStands r
RouteStands-route RouteRr h = tt
RouteStands-route RouteOd h = tt
RouteStands-route (By field) h = IsNumber-count field h

mutual
  Stands-net : (t : Tree OpState) (room : ℕ) → IsNet t room → CanPrint t → Stands t
  Stands-net (Leaf o) room h can = can
  Stands-net (Pipe ts) zero h can = absurd h
  Stands-net (Pipe ts) (suc room) h can = AllStand-parts ts room h can
  Stands-net (Comb ts) zero h can = absurd h
  Stands-net (Comb ts) (suc room) h can = AllStand-parts ts room h can
  Stands-net (Farm n s w) zero h can = absurd h
  Stands-net (Farm n s w) (suc room) h can = (IsNumber-count n h.0, Stands-net w room h.1 can)
  Stands-net (OFarm n s w) zero h can = absurd h
  Stands-net (OFarm n s w) (suc room) h can = (IsNumber-count n h.0, Stands-net w room h.1 can)
  Stands-net (A2a n l r m t) zero h can = absurd h
  Stands-net (A2a n l r m t) (suc room) h can = (IsNumber-count n h.0, Stands-net l room h.1 can.0, RouteStands-route r h.2, IsNumber-count m h.3, Stands-net t room h.4 can.1)
  Stands-net (Wrap n w test) zero h can = absurd h
  Stands-net (Wrap n w test) (suc room) h can = (IsNumber-count n h.0, Stands-net w room h.1 can.0, IsNumber-count test.field h.2, can.1)

  AllStand-parts : (ts : Trees OpState) (room : ℕ) → AreParts ts room → CanPrintAll ts → AllStand ts
  AllStand-parts none room h can = absurd h
  AllStand-parts (more t ts) room h can = (Stands-net t room h.0 can.0, AllStand-behind ts room h.1 can.1)

  AllStand-behind : (ts : Trees OpState) (room : ℕ) → AreBehind ts room → CanPrintAll ts → AllStand ts
  AllStand-behind none room h can = tt
  AllStand-behind (more t ts) room h can = (Stands-net t room h.0 can.0, AllStand-behind ts room h.1 can.1)

-- a piece with a blank before it or without
abbrev on : Token → Piece
on t = record { blank = true; token = t }

abbrev off : Token → Piece
off t = record { blank = false; token = t }

abbrev route_pieces : Route → List Piece
route_pieces RouteRr = on (Word (codes "rr")) ∷ []
route_pieces RouteOd = on (Word (codes "od")) ∷ []
route_pieces (By field) = on (Word (codes "by")) ∷ on (count_token field) ∷ []

abbrev mutual
  pieces : Bool → Tree OpState → List Piece
  pieces b (Leaf o) = record { blank = b; token = Word (name_of o.row) } ∷ map (λ a. on (argument_token a)) o.args
  pieces b (Pipe ts) = record { blank = b; token = Word (codes "pipe") } ∷ off (Sign Open) ∷ parts_pieces ts
  pieces b (Comb ts) = record { blank = b; token = Word (codes "comb") } ∷ off (Sign Open) ∷ parts_pieces ts
  pieces b (Farm n s w) = record { blank = b; token = Word (codes "farm") } ∷ on (count_token n) ∷ on (Word (sched_word s)) ∷ on (Sign Open) ∷ (pieces false w ++ off (Sign Close) ∷ [])
  pieces b (OFarm n s w) = record { blank = b; token = Word (codes "ofarm") } ∷ on (count_token n) ∷ on (Word (sched_word s)) ∷ on (Sign Open) ∷ (pieces false w ++ off (Sign Close) ∷ [])
  pieces b (A2a n l r m t) =
      record { blank = b; token = Word (codes "a2a") } ∷ on (count_token n) ∷ on (Sign Open)
      ∷ (pieces false l ++ off (Sign Close) ∷ (route_pieces r ++ on (count_token m) ∷ on (Sign Open) ∷ (pieces false t ++ off (Sign Close) ∷ [])))
  pieces b (Wrap n w test) =
      record { blank = b; token = Word (codes "wrap") } ∷ on (count_token n) ∷ on (Sign Open)
      ∷ (pieces false w ++ off (Sign Close) ∷ on (Word (codes "if")) ∷ on (count_token test.field) ∷ on (Sign (mark_of test.cmp)) ∷ on (Number (Some test.value)) ∷ [])

  parts_pieces : Trees OpState → List Piece
  parts_pieces none = off (Sign Close) ∷ []
  parts_pieces (more t ts) = pieces false t ++ behind_pieces ts

  behind_pieces : Trees OpState → List Piece
  behind_pieces none = off (Sign Close) ∷ []
  behind_pieces (more t ts) = off (Sign Comma) ∷ (pieces true t ++ behind_pieces ts)

-- their tokens
pieces_of-append : (ps qs : List Piece) → pieces_of (ps ++ qs) ≡ pieces_of ps ++ pieces_of qs
pieces_of-append ps qs = map-append (λ (p : Piece). p.token) ps qs

pieces_of-arguments : (args : List Arg) → pieces_of (map (λ a. on (argument_token a)) args) ≡ map argument_token args
pieces_of-arguments [] = refl
pieces_of-arguments (a ∷ args) = ap (λ ts. argument_token a ∷ ts) (pieces_of-arguments args)

pieces_of-route : (r : Route) → pieces_of (route_pieces r) ≡ route_spelling r
pieces_of-route RouteRr = refl
pieces_of-route RouteOd = refl
pieces_of-route (By field) = refl

mutual
  pieces_of-pieces : (b : Bool) (t : Tree OpState) → pieces_of (pieces b t) ≡ spelling t
  pieces_of-pieces b (Leaf o) = ap (λ ts. Word (name_of o.row) ∷ ts) (pieces_of-arguments o.args)
  pieces_of-pieces b (Pipe ts) = ap (λ us. Word (codes "pipe") ∷ Sign Open ∷ us) (pieces_of-parts ts)
  pieces_of-pieces b (Comb ts) = ap (λ us. Word (codes "comb") ∷ Sign Open ∷ us) (pieces_of-parts ts)
  pieces_of-pieces b (Farm n s w) =
      ap (λ us. Word (codes "farm") ∷ count_token n ∷ Word (sched_word s) ∷ Sign Open ∷ us) (pieces_of-append (pieces false w) (off (Sign Close) ∷ []) ∙ ap (λ us. us ++ Sign Close ∷ []) (pieces_of-pieces false w))
  pieces_of-pieces b (OFarm n s w) =
      ap (λ us. Word (codes "ofarm") ∷ count_token n ∷ Word (sched_word s) ∷ Sign Open ∷ us) (pieces_of-append (pieces false w) (off (Sign Close) ∷ []) ∙ ap (λ us. us ++ Sign Close ∷ []) (pieces_of-pieces false w))
  pieces_of-pieces b (A2a n l r m t) =
      let last = pieces false t ++ off (Sign Close) ∷ [] in
      let back = on (count_token m) ∷ on (Sign Open) ∷ last in
      ap (λ us. Word (codes "a2a") ∷ count_token n ∷ Sign Open ∷ us)
      (pieces_of-append (pieces false l) (off (Sign Close) ∷ (route_pieces r ++ back))
      ∙ ap (λ us. us ++ Sign Close ∷ pieces_of (route_pieces r ++ back)) (pieces_of-pieces false l)
      ∙ ap (λ us. spelling l ++ Sign Close ∷ us)
      (pieces_of-append (route_pieces r) back
      ∙ ap (λ us. us ++ pieces_of back) (pieces_of-route r)
      ∙ ap (λ us. route_spelling r ++ count_token m ∷ Sign Open ∷ us) (pieces_of-append (pieces false t) (off (Sign Close) ∷ []) ∙ ap (λ us. us ++ Sign Close ∷ []) (pieces_of-pieces false t))))
  pieces_of-pieces b (Wrap n w test) =
      let back = off (Sign Close) ∷ on (Word (codes "if")) ∷ on (count_token test.field) ∷ on (Sign (mark_of test.cmp)) ∷ on (Number (Some test.value)) ∷ [] in
      ap (λ us. Word (codes "wrap") ∷ count_token n ∷ Sign Open ∷ us) (pieces_of-append (pieces false w) back ∙ ap (λ us. us ++ pieces_of back) (pieces_of-pieces false w))

  pieces_of-parts : (ts : Trees OpState) → pieces_of (parts_pieces ts) ≡ parts_spelling ts
  pieces_of-parts none = refl
  pieces_of-parts (more t ts) =
      pieces_of-append (pieces false t) (behind_pieces ts) ∙ ap (λ us. us ++ pieces_of (behind_pieces ts)) (pieces_of-pieces false t) ∙ ap (λ us. spelling t ++ us) (pieces_of-behind ts)

  pieces_of-behind : (ts : Trees OpState) → pieces_of (behind_pieces ts) ≡ behind_spelling ts
  pieces_of-behind none = refl
  pieces_of-behind (more t ts) =
      ap (λ us. Sign Comma ∷ us) (pieces_of-append (pieces true t) (behind_pieces ts) ∙ ap (λ us. us ++ pieces_of (behind_pieces ts)) (pieces_of-pieces true t) ∙ ap (λ us. spelling t ++ us) (pieces_of-behind ts))

-- their bytes
written-argument : (a : Arg) → written (argument_token a) ≡ printed_argument a
written-argument (Num n) = refl
written-argument (Compared Lt) = refl
written-argument (Compared Le) = refl
written-argument (Compared Eq) = refl
written-argument (Compared Ne) = refl
written-argument (Compared Ge) = refl
written-argument (Compared Gt) = refl
written-argument (Text bytes) = refl

printed-arguments : (args : List Arg) (rest : List Piece) → printed_text (map (λ a. on (argument_token a)) args ++ rest) ≡ printed_arguments args ++ printed_text rest
printed-arguments [] rest = refl
printed-arguments (a ∷ args) rest =
    ap (λ bs. 32 ∷ (bs ++ printed_text (map (λ c. on (argument_token c)) args ++ rest))) (written-argument a)
    ∙ ap (λ bs. 32 ∷ (printed_argument a ++ bs)) (printed-arguments args rest)
    ∙ ap (λ bs. 32 ∷ bs) (sym (append_assoc (printed_argument a) (printed_arguments args) (printed_text rest)))

printed-route : (r : Route) (rest : List Piece) → printed_text (route_pieces r ++ rest) ≡ 32 ∷ (printed_route r ++ printed_text rest)
printed-route RouteRr rest = refl
printed-route RouteOd rest = refl
printed-route (By field) rest = refl

mutual
  printed-pieces : (b : Bool) (t : Tree OpState) (rest : List Piece) → printed_text (pieces b t ++ rest) ≡ (if b then 32 ∷ [] else []) ++ (printed_net t ++ printed_text rest)
  printed-pieces b (Leaf o) rest =
      ap (λ bs. (if b then 32 ∷ [] else []) ++ (name_of o.row ++ bs)) (printed-arguments o.args rest)
      ∙ ap (λ bs. (if b then 32 ∷ [] else []) ++ bs) (sym (append_assoc (name_of o.row) (printed_arguments o.args) (printed_text rest)))
  printed-pieces b (Pipe ts) rest = ap (λ bs. (if b then 32 ∷ [] else []) ++ (codes "pipe(" ++ bs)) (printed-parts ts rest)
  printed-pieces b (Comb ts) rest = ap (λ bs. (if b then 32 ∷ [] else []) ++ (codes "comb(" ++ bs)) (printed-parts ts rest)
  printed-pieces b (Farm n s w) rest =
      ap (λ ps. (if b then 32 ∷ [] else []) ++ (codes "farm" ++ 32 ∷ (printed (pos n) ++ 32 ∷ (sched_word s ++ 32 ∷ 40 ∷ printed_text ps)))) (append_assoc (pieces false w) (off (Sign Close) ∷ []) rest)
      ∙ ap (λ bs. (if b then 32 ∷ [] else []) ++ (codes "farm" ++ 32 ∷ (printed (pos n) ++ 32 ∷ (sched_word s ++ 32 ∷ 40 ∷ bs)))) (printed-pieces false w (off (Sign Close) ∷ rest))
      ∙ sym (simp append_assoc)
  printed-pieces b (OFarm n s w) rest =
      ap (λ ps. (if b then 32 ∷ [] else []) ++ (codes "ofarm" ++ 32 ∷ (printed (pos n) ++ 32 ∷ (sched_word s ++ 32 ∷ 40 ∷ printed_text ps)))) (append_assoc (pieces false w) (off (Sign Close) ∷ []) rest)
      ∙ ap (λ bs. (if b then 32 ∷ [] else []) ++ (codes "ofarm" ++ 32 ∷ (printed (pos n) ++ 32 ∷ (sched_word s ++ 32 ∷ 40 ∷ bs)))) (printed-pieces false w (off (Sign Close) ∷ rest))
      ∙ sym (simp append_assoc)
  printed-pieces b (A2a n l r m t) rest =
      let last = pieces false t ++ off (Sign Close) ∷ [] in
      let back = on (count_token m) ∷ on (Sign Open) ∷ last in
      let front = λ (bs : List ℕ). (if b then 32 ∷ [] else []) ++ (codes "a2a" ++ 32 ∷ (printed (pos n) ++ 32 ∷ 40 ∷ bs)) in
      ap (λ ps. front (printed_text ps)) (append_assoc (pieces false l) (off (Sign Close) ∷ (route_pieces r ++ back)) rest)
      ∙ ap front (printed-pieces false l (off (Sign Close) ∷ (route_pieces r ++ back) ++ rest))
      ∙ ap (λ ps. front (printed_net l ++ 41 ∷ printed_text ps)) (append_assoc (route_pieces r) back rest)
      ∙ ap (λ bs. front (printed_net l ++ 41 ∷ bs)) (printed-route r (back ++ rest))
      ∙ ap (λ ps. front (printed_net l ++ 41 ∷ 32 ∷ (printed_route r ++ 32 ∷ (printed (pos m) ++ 32 ∷ 40 ∷ printed_text ps)))) (append_assoc (pieces false t) (off (Sign Close) ∷ []) rest)
      ∙ ap (λ bs. front (printed_net l ++ 41 ∷ 32 ∷ (printed_route r ++ 32 ∷ (printed (pos m) ++ 32 ∷ 40 ∷ bs)))) (printed-pieces false t (off (Sign Close) ∷ rest))
      ∙ sym (simp append_assoc)
  printed-pieces b (Wrap n w test) rest =
      let back = off (Sign Close) ∷ on (Word (codes "if")) ∷ on (count_token test.field) ∷ on (Sign (mark_of test.cmp)) ∷ on (Number (Some test.value)) ∷ [] in
      ap (λ ps. (if b then 32 ∷ [] else []) ++ (codes "wrap" ++ 32 ∷ (printed (pos n) ++ 32 ∷ 40 ∷ printed_text ps))) (append_assoc (pieces false w) back rest)
      ∙ ap (λ bs. (if b then 32 ∷ [] else []) ++ (codes "wrap" ++ 32 ∷ (printed (pos n) ++ 32 ∷ 40 ∷ bs))) (printed-pieces false w (back ++ rest))
      ∙ ap (λ cmp. (if b then 32 ∷ [] else []) ++ (codes "wrap" ++ 32 ∷ (printed (pos n) ++ 32 ∷ 40 ∷ (printed_net w ++ (codes ") if " ++ (printed (pos test.field) ++ 32 ∷ (cmp ++ 32 ∷ (printed test.value ++ printed_text rest)))))))) (written-argument (Compared test.cmp))
      ∙ sym (simp append_assoc)

  printed-parts : (ts : Trees OpState) (rest : List Piece) → printed_text (parts_pieces ts ++ rest) ≡ printed_parts ts ++ printed_text rest
  printed-parts none rest = refl
  printed-parts (more t ts) rest =
      ap printed_text (append_assoc (pieces false t) (behind_pieces ts) rest)
      ∙ printed-pieces false t (behind_pieces ts ++ rest)
      ∙ ap (λ bs. printed_net t ++ bs) (printed-behind ts rest)
      ∙ sym (append_assoc (printed_net t) (printed_behind ts) (printed_text rest))

  printed-behind : (ts : Trees OpState) (rest : List Piece) → printed_text (behind_pieces ts ++ rest) ≡ printed_behind ts ++ printed_text rest
  printed-behind none rest = refl
  printed-behind (more t ts) rest =
      ap (λ ps. 44 ∷ printed_text ps) (append_assoc (pieces true t) (behind_pieces ts) rest)
      ∙ ap (λ bs. 44 ∷ bs) (printed-pieces true t (behind_pieces ts ++ rest))
      ∙ ap (λ bs. 44 ∷ 32 ∷ (printed_net t ++ bs)) (printed-behind ts rest)
      ∙ ap (λ bs. 44 ∷ 32 ∷ bs) (sym (append_assoc (printed_net t) (printed_behind ts) (printed_text rest)))

-- `,` or `)`, without a blank
abbrev end : Bool → Piece
end true = off (Sign Comma)
end false = off (Sign Close)

is_word-name_of : (row : Row) → is_word (name_of row) ≡ true
is_word-name_of Id = refl
is_word-name_of row = refl

is_word-sched_word : (s : Sched) → is_word (sched_word s) ≡ true
is_word-sched_word Rr = refl
is_word-sched_word Od = refl

-- what stands before a mark
before-word : (name : List ℕ) (c : Bool) → IsTrue ((end c).blank || not (run_together (Word name) (end c).token))
before-word name true = refl
before-word name false = refl

before-argument : (a : Arg) (c : Bool) → IsTrue ((end c).blank || not (run_together (argument_token a) (end c).token))
before-argument (Num n) true = refl
before-argument (Num n) false = refl
before-argument (Compared Lt) true = refl
before-argument (Compared Le) true = refl
before-argument (Compared Eq) true = refl
before-argument (Compared Ne) true = refl
before-argument (Compared Ge) true = refl
before-argument (Compared Gt) true = refl
before-argument (Compared Lt) false = refl
before-argument (Compared Le) false = refl
before-argument (Compared Eq) false = refl
before-argument (Compared Ne) false = refl
before-argument (Compared Ge) false = refl
before-argument (Compared Gt) false = refl
before-argument (Text bytes) true = refl
before-argument (Text bytes) false = refl

apart-close : (c : Bool) (qs : List Piece) → AreApart (end c ∷ qs) → AreApart (off (Sign Close) ∷ end c ∷ qs)
apart-close true qs h = (tt, refl, h)
apart-close false qs h = (tt, refl, h)

apart-number : (b : Bool) (n : ℤ) (c : Bool) (qs : List Piece) → IsNumber n → AreApart (end c ∷ qs) → AreApart (record { blank = b; token = Number (Some n) } ∷ end c ∷ qs)
apart-number b n true qs is h = (is, refl, h)
apart-number b n false qs is h = (is, refl, h)

-- a network behind a mark
after-open : (b : Bool) (t : Tree OpState) (rest : List Piece) → AreApart (pieces false t ++ rest) → AreApart (record { blank = b; token = Sign Open } ∷ (pieces false t ++ rest))
after-open b (Leaf o) rest h = (tt, refl, h)
after-open b (Pipe ts) rest h = (tt, refl, h)
after-open b (Comb ts) rest h = (tt, refl, h)
after-open b (Farm n s w) rest h = (tt, refl, h)
after-open b (OFarm n s w) rest h = (tt, refl, h)
after-open b (A2a n l r m t) rest h = (tt, refl, h)
after-open b (Wrap n w test) rest h = (tt, refl, h)

after-comma : (t : Tree OpState) (rest : List Piece) → AreApart (pieces true t ++ rest) → AreApart (off (Sign Comma) ∷ (pieces true t ++ rest))
after-comma (Leaf o) rest h = (tt, refl, h)
after-comma (Pipe ts) rest h = (tt, refl, h)
after-comma (Comb ts) rest h = (tt, refl, h)
after-comma (Farm n s w) rest h = (tt, refl, h)
after-comma (OFarm n s w) rest h = (tt, refl, h)
after-comma (A2a n l r m t) rest h = (tt, refl, h)
after-comma (Wrap n w test) rest h = (tt, refl, h)

apart-arguments : (p : Piece) (args : List Arg) (c : Bool) (qs : List Piece) → IsPrintable p.token → IsTrue ((end c).blank || not (run_together p.token (end c).token))
    → AllByRecursion (λ a. IsPrintable (argument_token a)) args → AreApart (end c ∷ qs) → AreApart (p ∷ (map (λ a. on (argument_token a)) args ++ end c ∷ qs))
apart-arguments p [] c qs fits apart all h = (fits, apart, h)
apart-arguments p (a ∷ args) c qs fits apart all h =
    (fits, refl, apart-arguments (on (argument_token a)) args c qs all.0 (before-argument a c) all.1 h)

-- a worker in its marks, before more
apart-worker : (b : Bool) (w : Tree OpState) (rest : List Piece) → AreApart (pieces false w ++ off (Sign Close) ∷ rest) → AreApart (record { blank = b; token = Sign Open } ∷ ((pieces false w ++ off (Sign Close) ∷ []) ++ rest))
apart-worker b w rest h =
    subst (λ ps. AreApart (record { blank = b; token = Sign Open } ∷ ps)) (sym (append_assoc (pieces false w) (off (Sign Close) ∷ []) rest)) (after-open b w (off (Sign Close) ∷ rest) h)

apart-route : (r : Route) (m : ℕ) (rest : List Piece) → RouteStands r → IsNumber (pos m) → AreApart (on (Sign Open) ∷ rest) → AreApart (off (Sign Close) ∷ (route_pieces r ++ on (count_token m) ∷ on (Sign Open) ∷ rest))
apart-route RouteRr m rest is n h = (tt, refl, (refl, refl, (n, refl, h)))
apart-route RouteOd m rest is n h = (tt, refl, (refl, refl, (n, refl, h)))
apart-route (By field) m rest is n h = (tt, refl, (refl, refl, (is, refl, (n, refl, h))))

apart-test : (f : ℕ) (cmp : Cmp) (n : ℤ) (c : Bool) (qs : List Piece) → IsNumber (pos f) → IsNumber n → AreApart (end c ∷ qs)
    → AreApart (off (Sign Close) ∷ on (Word (codes "if")) ∷ on (count_token f) ∷ on (Sign (mark_of cmp)) ∷ on (Number (Some n)) ∷ end c ∷ qs)
apart-test f cmp n c qs is value h = (tt, refl, (refl, refl, (is, refl, (tt, refl, apart-number true n c qs value h))))

mutual
  apart : (b : Bool) (t : Tree OpState) (c : Bool) (qs : List Piece) → Stands t → AreApart (end c ∷ qs) → AreApart (pieces b t ++ end c ∷ qs)
  apart b (Leaf o) c qs can h =
      apart-arguments (record { blank = b; token = Word (name_of o.row) }) o.args c qs (is_word-name_of o.row) (before-word (name_of o.row) c) can h
  apart b (Pipe ts) c qs can h = (refl, refl, apart-parts ts c qs can h)
  apart b (Comb ts) c qs can h = (refl, refl, apart-parts ts c qs can h)
  apart b (Farm n s w) c qs can h =
      (refl, refl, (can.0, refl, (is_word-sched_word s, refl, apart-worker true w (end c ∷ qs) (apart false w false (end c ∷ qs) can.1 (apart-close c qs h)))))
  apart b (OFarm n s w) c qs can h =
      (refl, refl, (can.0, refl, (is_word-sched_word s, refl, apart-worker true w (end c ∷ qs) (apart false w false (end c ∷ qs) can.1 (apart-close c qs h)))))
  apart b (A2a n l r m t) c qs can h =
      let last = (pieces false t ++ off (Sign Close) ∷ []) ++ end c ∷ qs in
      let right : AreApart (on (Sign Open) ∷ last) = apart-worker true t (end c ∷ qs) (apart false t false (end c ∷ qs) can.4 (apart-close c qs h)) in
      let middle = apart-route r m last can.2 can.3 right in
      let tail = route_pieces r ++ on (count_token m) ∷ on (Sign Open) ∷ (pieces false t ++ off (Sign Close) ∷ []) in
      let joined = subst (λ ps. AreApart (off (Sign Close) ∷ ps)) (sym (append_assoc (route_pieces r) (on (count_token m) ∷ on (Sign Open) ∷ (pieces false t ++ off (Sign Close) ∷ [])) (end c ∷ qs))) middle in (
        refl,
        refl,
        (
          can.0,
          refl,
          subst (λ ps. AreApart (on (Sign Open) ∷ ps)) (sym (append_assoc (pieces false l) (off (Sign Close) ∷ tail) (end c ∷ qs)))
              (after-open true l (off (Sign Close) ∷ (tail ++ end c ∷ qs)) (apart false l false (tail ++ end c ∷ qs) can.1 joined)),
        ),
      )
  apart b (Wrap n w test) c qs can h =
      let back = on (Word (codes "if")) ∷ on (count_token test.field) ∷ on (Sign (mark_of test.cmp)) ∷ on (Number (Some test.value)) ∷ [] in (
        refl,
        refl,
        (
          can.0,
          refl,
          subst (λ ps. AreApart (on (Sign Open) ∷ ps)) (sym (append_assoc (pieces false w) (off (Sign Close) ∷ back) (end c ∷ qs)))
              (after-open true w (off (Sign Close) ∷ (back ++ end c ∷ qs)) (apart false w false (back ++ end c ∷ qs) can.1 (apart-test test.field test.cmp test.value c qs can.2 can.3 h))),
        ),
      )

  apart-parts : (ts : Trees OpState) (c : Bool) (qs : List Piece) → AllStand ts → AreApart (end c ∷ qs) → AreApart (off (Sign Open) ∷ (parts_pieces ts ++ end c ∷ qs))
  apart-parts none c qs can h = (tt, refl, apart-close c qs h)
  apart-parts (more t ts) c qs can h =
      let k = apart-behind ts c qs can.1 h in
      subst (λ ps. AreApart (off (Sign Open) ∷ ps)) (sym (append_assoc (pieces false t) (behind_pieces ts) (end c ∷ qs)))
      (after-open false t (behind_pieces ts ++ end c ∷ qs) (subst (λ ps. AreApart (pieces false t ++ ps)) (sym k.2) (apart false t k.0 k.1 can.0 k.3)))

  apart-behind : (ts : Trees OpState) (c : Bool) (qs : List Piece) → AllStand ts → AreApart (end c ∷ qs)
      → (d : Bool) × (rest : List Piece) × (behind_pieces ts ++ end c ∷ qs ≡ end d ∷ rest) × AreApart (end d ∷ rest)
  apart-behind none c qs can h = (false, end c ∷ qs, refl, apart-close c qs h)
  apart-behind (more t ts) c qs can h =
      let k = apart-behind ts c qs can.1 h in (
        true,
        (pieces true t ++ behind_pieces ts) ++ end c ∷ qs,
        refl,
        subst (λ ps. AreApart (off (Sign Comma) ∷ ps)) (sym (append_assoc (pieces true t) (behind_pieces ts) (end c ∷ qs)))
            (after-comma t (behind_pieces ts ++ end c ∷ qs) (subst (λ ps. AreApart (pieces true t ++ ps)) (sym k.2) (apart true t k.0 k.1 can.0 k.3))),
      )

-- what stands before others
apart-front : (ps qs : List Piece) → AreApart (ps ++ qs) → AreApart ps
apart-front [] qs h = tt
apart-front (p ∷ []) [] h = h
apart-front (p ∷ []) (q ∷ qs) h = h.0
apart-front (p ∷ r ∷ ps) qs h = (h.0, h.1, apart-front (r ∷ ps) qs h.2)

pub tokens_of-printed_net : PrintedIsCut → (t : Tree OpState) → Stands t → tokens_of (tokens (printed_net t)) ≡ spelling t ++ Stop ∷ []
tokens_of-printed_net cut t stands =
    ap (λ bs. tokens_of (tokens bs)) (sym (ap printed_text (sym (append-nil (pieces false t))) ∙ printed-pieces false t [] ∙ append-nil (printed_net t)))
    ∙ cut (pieces false t) (apart-front (pieces false t) (off (Sign Close) ∷ []) (apart false t false [] stands tt))
    ∙ ap (λ ts. ts ++ Stop ∷ []) (pieces_of-pieces false t)

pub printed_nets_are_spelled : PrintedIsCut → PrintedNetsAreSpelled
printed_nets_are_spelled cut t room net can = tokens_of-printed_net cut t (Stands-net t room net can)
