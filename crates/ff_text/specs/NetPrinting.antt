-- The printed form of networks: words and numbers of one form stand apart by one space.
use Rattle.std.specs.Prelude.{ℕ, List, ◌∷◌, ◌++◌, codes, pos}
use Rattle.ff_rec.specs.Number.{printed}
use Rattle.ff_ops.specs.Arguments.{mark_of}
use Rattle.ff_ops.specs.Operation.{OpState, printed_op}
use Rattle.ff_net.specs.Tree.{Tree, Trees, Leaf, Pipe, Comb, Farm, OFarm, A2a, Wrap, none, more}
use Rattle.ff_net.specs.declared.net.Sched.{Sched}
use Rattle.ff_net.specs.declared.net.Route.{Route}
use Rattle.ff_net.specs.declared.net.Route.TheVariants.{Rr, Od, By}
use Rattle.ff_net.specs.declared.net.Test.{Test}
use Rattle.ff_net.specs.declared.net.Version.{Version}
use Rattle.ff_net.specs.declared.net.Version.TheVariants.{One, Two}
use Rattle.ff_text.specs.Grammar.{sched_word}

-- `a2a 2 (`
abbrev pub printed_side : List ℕ → ℕ → List ℕ
printed_side word n = word ++ 32 ∷ (printed (pos n) ++ codes " (")

-- `farm 4 rr (`
abbrev pub printed_farm : List ℕ → ℕ → Sched → List ℕ
printed_farm word n s = word ++ 32 ∷ (printed (pos n) ++ 32 ∷ (sched_word s ++ codes " ("))

-- `by 1`
abbrev pub printed_route : Route → List ℕ
printed_route Rr = codes "rr"
printed_route Od = codes "od"
printed_route (By field) = codes "by " ++ printed (pos field)

-- `) by 1 3 (`
abbrev pub printed_middle : Route → ℕ → List ℕ
printed_middle r m = codes ") " ++ (printed_route r ++ 32 ∷ (printed (pos m) ++ codes " ("))

-- `) if 1 > 1`
abbrev pub printed_test : Test → List ℕ
printed_test test = codes ") if " ++ (printed (pos test.field) ++ 32 ∷ (mark_of test.cmp ++ 32 ∷ printed test.value))

abbrev mutual
  -- a network
  pub printed_net : Tree OpState → List ℕ
  printed_net (Leaf o) = printed_op o.row o.args
  printed_net (Pipe ts) = codes "pipe(" ++ printed_parts ts
  printed_net (Comb ts) = codes "comb(" ++ printed_parts ts
  printed_net (Farm n s w) = printed_farm (codes "farm") n s ++ (printed_net w ++ codes ")")
  printed_net (OFarm n s w) = printed_farm (codes "ofarm") n s ++ (printed_net w ++ codes ")")
  printed_net (A2a n l r m t) = printed_side (codes "a2a") n ++ (printed_net l ++ (printed_middle r m ++ (printed_net t ++ codes ")")))
  printed_net (Wrap n w test) = printed_side (codes "wrap") n ++ (printed_net w ++ printed_test test)

  -- the parts of a pipe or comb, with `, ` between each two, and `)`
  pub printed_parts : Trees OpState → List ℕ
  printed_parts none = codes ")"
  printed_parts (more t ts) = printed_net t ++ printed_behind ts

  -- the parts behind the first
  pub printed_behind : Trees OpState → List ℕ
  printed_behind none = codes ")"
  printed_behind (more t ts) = codes ", " ++ (printed_net t ++ printed_behind ts)

-- a network with the version of its description
abbrev pub printed_described : Version → Tree OpState → List ℕ
printed_described One t = printed_net t
printed_described Two t = codes "ffrun2 " ++ printed_net t
