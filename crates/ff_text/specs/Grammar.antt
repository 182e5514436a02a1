-- How networks are spelled by tokens.
use Rattle.std.specs.Prelude.{ℕ, zero, suc, ◌-◌, IsTrue, List, [], ◌∷◌, ◌++◌, codes, find, Option, Some, pos}
use Rattle.ff_rec.specs.Fields.{same_bytes}
use Rattle.ff_ops.specs.Operation.{OpState}
use Rattle.ff_ops.specs.declared.arg.Arg.TheVariants.{Num}
use Rattle.ff_ops.specs.declared.arg.ArgKind.{ArgKind}
use Rattle.ff_ops.specs.declared.arg.ArgKind.TheVariants.{Count}
use Rattle.ff_net.specs.Limits.{most_depth}
use Rattle.ff_net.specs.Tree.{Tree, Trees, Leaf, Pipe, Comb, Farm, OFarm, A2a, Wrap, none, more}
use Rattle.ff_net.specs.declared.net.Sched.{Sched}
use Rattle.ff_net.specs.declared.net.Sched.TheVariants.{Rr, Od}
use Rattle.ff_net.specs.declared.net.Route.{Route}
use Rattle.ff_net.specs.declared.net.Route.TheVariants.{Rr as RouteRr, Od as RouteOd, By}
use Rattle.ff_text.specs.declared.form.Form.{Form}
use Rattle.ff_text.specs.declared.form.Form.TheVariants.{Pipe as PipeForm, Comb as CombForm, Farm as FarmForm, OFarm as OFarmForm, A2a as A2aForm, Wrap as WrapForm}
use Rattle.ff_text.specs.declared.form.TheConstants.{FORMS}
use Rattle.ff_text.specs.declared.text_mark.TextMark.TheVariants.{Open, Close, Comma}
use Rattle.ff_text.specs.Tokens.{Token, Word, Number, Sign}
use Rattle.ff_ops.specs.Arguments.{fits}
use Rattle.ff_text.specs.OperationTokens.{mark_of, IsNew, spelling as operation_spelling}

-- the word of a form
abbrev pub form_word : Form → List ℕ
form_word PipeForm = codes "pipe"
form_word CombForm = codes "comb"
form_word FarmForm = codes "farm"
form_word OFarmForm = codes "ofarm"
form_word A2aForm = codes "a2a"
form_word WrapForm = codes "wrap"

-- the form with a word
abbrev pub form_named : List ℕ → Option Form
form_named name = find (λ form. same_bytes (form_word form) name) FORMS

-- the word of a schedule
abbrev pub sched_word : Sched → List ℕ
sched_word Rr = codes "rr"
sched_word Od = codes "od"

-- a count as a token
abbrev pub count_token : ℕ → Token
count_token n = Number (Some (pos n))

-- a route as tokens
abbrev pub route_spelling : Route → List Token
route_spelling RouteRr = Word (codes "rr") ∷ []
route_spelling RouteOd = Word (codes "od") ∷ []
route_spelling (By field) = Word (codes "by") ∷ count_token field ∷ []

abbrev mutual
  -- a network as tokens
  pub spelling : Tree OpState → List Token
  spelling (Leaf o) = operation_spelling o
  spelling (Pipe ts) = Word (codes "pipe") ∷ Sign Open ∷ parts_spelling ts
  spelling (Comb ts) = Word (codes "comb") ∷ Sign Open ∷ parts_spelling ts
  spelling (Farm n s w) = Word (codes "farm") ∷ count_token n ∷ Word (sched_word s) ∷ Sign Open ∷ (spelling w ++ Sign Close ∷ [])
  spelling (OFarm n s w) = Word (codes "ofarm") ∷ count_token n ∷ Word (sched_word s) ∷ Sign Open ∷ (spelling w ++ Sign Close ∷ [])
  spelling (A2a n l r m t) =
      Word (codes "a2a") ∷ count_token n ∷ Sign Open ∷ (spelling l ++ Sign Close ∷ (route_spelling r ++ count_token m ∷ Sign Open ∷ (spelling t ++ Sign Close ∷ [])))
  spelling (Wrap n w test) =
      Word (codes "wrap") ∷ count_token n ∷ Sign Open ∷ (spelling w ++ Sign Close ∷ Word (codes "if") ∷ count_token test.field ∷ Sign (mark_of test.cmp) ∷ Number (Some test.value) ∷ [])

  -- the parts of a pipe or comb, with a `,` between each two, and `)`
  pub parts_spelling : Trees OpState → List Token
  parts_spelling none = Sign Close ∷ []
  parts_spelling (more t ts) = spelling t ++ behind_spelling ts

  -- the parts behind the first
  pub behind_spelling : Trees OpState → List Token
  behind_spelling none = Sign Close ∷ []
  behind_spelling (more t ts) = Sign Comma ∷ (spelling t ++ behind_spelling ts)

-- a count or field number of a form, of 32 bits
abbrev pub a_count : ArgKind
a_count = Count 0 4294967295

abbrev pub IsCount : ℕ → Type 0
IsCount n = IsTrue (fits (Num (pos n)) a_count)

-- a route by a field number
abbrev pub IsRoute : Route → Type 0
IsRoute RouteRr = Unit {0}
IsRoute RouteOd = Unit {0}
IsRoute (By field) = IsCount field

abbrev mutual
  -- a network that a text can spell, with at most so many forms round one another: each operation is as it is read,
  -- each pipe and comb has a part
  pub IsNet : Tree OpState → ℕ → Type 0
  IsNet (Leaf o) room = IsNew o
  IsNet (Pipe ts) zero = ⊥
  IsNet (Pipe ts) (suc room) = AreParts ts room
  IsNet (Comb ts) zero = ⊥
  IsNet (Comb ts) (suc room) = AreParts ts room
  IsNet (Farm n s w) zero = ⊥
  IsNet (Farm n s w) (suc room) = IsCount n × IsNet w room
  IsNet (OFarm n s w) zero = ⊥
  IsNet (OFarm n s w) (suc room) = IsCount n × IsNet w room
  IsNet (A2a n l r m t) zero = ⊥
  IsNet (A2a n l r m t) (suc room) = IsCount n × IsNet l room × IsRoute r × IsCount m × IsNet t room
  IsNet (Wrap n w test) zero = ⊥
  IsNet (Wrap n w test) (suc room) = IsCount n × IsNet w room × IsCount test.field

  -- one part or more
  pub AreParts : Trees OpState → ℕ → Type 0
  AreParts none room = ⊥
  AreParts (more t ts) room = IsNet t room × AreBehind ts room

  -- any number of parts
  pub AreBehind : Trees OpState → ℕ → Type 0
  AreBehind none room = Unit {0}
  AreBehind (more t ts) room = IsNet t room × AreBehind ts room

-- how many forms may stand round one another: one less than the depth that a network may have
abbrev pub most_forms : ℕ
most_forms = most_depth - 1
