-- A machine that reads tokens one by one and knows what may still stand: each want takes one token. It is told what marks
-- and words may mean: of a text of version One, that no word stands for a network.
use Rattle.std.specs.Prelude.{ℕ, zero, suc, Bool, true, false, ◌||◌, if◌then◌else◌, List, [], ◌∷◌, ◌++◌, map, codes, Option, None, Some, Result, Ok, Err}
use Rattle.std.specs.Prelude.{nat_le}
use Rattle.ff_rec.specs.Fields.{same_bytes}
use Rattle.ff_ops.specs.Arguments.{suits, is_within, is_numeric}
use Rattle.ff_ops.specs.Operation.{OpState}
use Rattle.ff_ops.specs.Table.{kinds_of, row_named}
use Rattle.ff_ops.specs.declared.arg.Arg.{Arg}
use Rattle.ff_ops.specs.declared.arg.ArgKind.{ArgKind}
use Rattle.ff_ops.specs.declared.arg.ArgKind.TheVariants.{Num as AnyNumber, Cmp as AnyComparison}
use Rattle.ff_ops.specs.declared.row.Row.{Row}
use Rattle.ff_net.specs.Counts.{depth}
use Rattle.ff_net.specs.Tree.{Tree}
use Rattle.ff_net.specs.declared.net.Version.{Version}
use Rattle.ff_net.specs.declared.net.Version.TheVariants.{One}
use Rattle.ff_text.specs.declared.fault.TextKind.{TextKind}
use Rattle.ff_text.specs.declared.fault.TextKind.TheVariants.{BadByte, BadToken, UnknownName, Range, Deep, End}
use Rattle.ff_text.specs.declared.form.Form.{Form}
use Rattle.ff_text.specs.declared.form.Form.TheVariants.{Pipe, Comb, Farm, OFarm, A2a, Wrap}
use Rattle.ff_text.specs.declared.text_mark.TextMark.TheVariants.{Open, Close, Comma, Semicolon}
use Rattle.ff_text.specs.Tokens.{Token, Word, Number, Sign, Bad, Stop, PlacedToken}
use Rattle.ff_text.specs.OperationTokens.{argument}
use Rattle.ff_text.specs.Grammar.{form_named, a_count, most_forms}
use Rattle.ff_text.specs.Faults.{Fault}
use Rattle.ff_text.specs.Names.{Context, net_named}

-- a network with at most so many forms round one another, the parts behind one, an argument, `rr` or `od`, a route, a mark,
-- `if`, the end
pub data Want : Type 0 where
  Network : ℕ → Want
  Parts : ℕ → Want
  Argument : ArgKind → Want
  Schedule : Want
  Routing : Want
  Opening : Want
  Closing : Want
  Condition : Want
  Finish : Want

-- what stands behind the word of a form
abbrev pub rest_of : ℕ → Form → List Want
rest_of room Pipe = Opening ∷ Network room ∷ Parts room ∷ []
rest_of room Comb = Opening ∷ Network room ∷ Parts room ∷ []
rest_of room Farm = Argument a_count ∷ Schedule ∷ Opening ∷ Network room ∷ Closing ∷ []
rest_of room OFarm = Argument a_count ∷ Schedule ∷ Opening ∷ Network room ∷ Closing ∷ []
rest_of room A2a = Argument a_count ∷ Opening ∷ Network room ∷ Closing ∷ Routing ∷ Argument a_count ∷ Opening ∷ Network room ∷ Closing ∷ []
rest_of room Wrap = Argument a_count ∷ Opening ∷ Network room ∷ Closing ∷ Condition ∷ Argument a_count ∷ Argument AnyComparison ∷ Argument AnyNumber ∷ []

-- what is wrong with a token that doesn't stand in its place: in version One `;` is no token
abbrev pub misplaced : Version → Token → TextKind
misplaced version Bad = BadByte
misplaced version Stop = End
misplaced One (Sign Semicolon) = BadByte
misplaced version t = BadToken

-- behind a word that stands for a network, or for nothing: a use takes this one token
abbrev pub begin_use : Option (Tree OpState) → ℕ → Result (List Want) TextKind
begin_use (Some net) room = if nat_le (depth net) (suc room) then Ok [] else Err Deep
begin_use None room = Err UnknownName

-- behind the word of a form, of an operation, or of neither
abbrev pub begin_word : Option Form → Option Row → Option (Tree OpState) → ℕ → Result (List Want) TextKind
begin_word (Some f) row net zero = Err Deep
begin_word (Some f) row net (suc room) = Ok (rest_of room f)
begin_word None (Some row) net room = Ok (map (λ kind. Argument kind) (kinds_of row))
begin_word None None net room = begin_use net room

-- behind a word: a form or an operation comes before a name
abbrev pub begin : Context → ℕ → List ℕ → Result (List Want) TextKind
begin context room name = begin_word (form_named name) (row_named name) (net_named context.names name) room

-- a number beyond 64 bits
abbrev pub is_beyond : Token → Bool
is_beyond (Number None) = true
is_beyond _ = false

-- where an argument is awaited: one, a number beyond 64 bits, or another token
abbrev pub take_argument : Version → ArgKind → Option Arg → Token → Result (List Want) TextKind
take_argument version kind (Some a) t = if suits a kind then (if is_within a kind then Ok [] else Err Range) else Err (misplaced version t)
take_argument version kind None (Number n) = if is_numeric kind then Err Range else Err BadToken
take_argument version kind None t = Err (misplaced version t)

-- where one of two words is awaited
abbrev pub is_sched : List ℕ → Bool
is_sched name = same_bytes name (codes "rr") || same_bytes name (codes "od")

abbrev pub take_route : List ℕ → Result (List Want) TextKind
take_route name =
    if is_sched name then Ok [] else (if same_bytes name (codes "by") then Ok (Argument a_count ∷ []) else Err BadToken)

-- what a token leaves of a want, or what is wrong with it
abbrev pub expand : Context → Want → Token → Result (List Want) TextKind
expand context (Network room) (Word name) = begin context room name
expand context (Network room) t = Err (misplaced context.version t)
expand context (Parts room) (Sign Comma) = Ok (Network room ∷ Parts room ∷ [])
expand context (Parts room) (Sign Close) = Ok []
expand context (Parts room) t = Err (misplaced context.version t)
expand context (Argument kind) t = take_argument context.version kind (argument t) t
expand context Schedule (Word name) = if is_sched name then Ok [] else Err BadToken
expand context Schedule t = Err (misplaced context.version t)
expand context Routing (Word name) = take_route name
expand context Routing t = Err (misplaced context.version t)
expand context Opening (Sign Open) = Ok []
expand context Opening t = Err (misplaced context.version t)
expand context Closing (Sign Close) = Ok []
expand context Closing t = Err (misplaced context.version t)
expand context Condition (Word name) = if same_bytes name (codes "if") then Ok [] else Err BadToken
expand context Condition t = Err (misplaced context.version t)
expand context Finish Stop = Ok []
expand context Finish t = Err (misplaced context.version t)

-- what a token leaves of several wants
abbrev pub pushed : Result (List Want) TextKind → List Want → Result (List Want) TextKind
pushed (Ok new) ws = Ok (new ++ ws)
pushed (Err kind) ws = Err kind

abbrev pub step : Context → List Want → Token → Result (List Want) TextKind
step context [] t = Err (misplaced context.version t)
step context (w ∷ ws) t = pushed (expand context w t) ws

-- along tokens
abbrev pub then_run : (List Want → Result (List Want) TextKind) → Result (List Want) TextKind → Result (List Want) TextKind
then_run run (Ok ws) = run ws
then_run run (Err kind) = Err kind

abbrev pub run : Context → List Token → List Want → Result (List Want) TextKind
run context [] ws = Ok ws
run context (t ∷ ts) ws = then_run (run context ts) (step context ws t)

-- along tokens at their places, up to the first fault
abbrev pub then_walk : ℕ → (List Want → Result (List Want) Fault) → Result (List Want) TextKind → Result (List Want) Fault
then_walk at walk (Ok ws) = walk ws
then_walk at walk (Err kind) = Err (record { at = at; kind = kind })

abbrev pub walk : Context → List PlacedToken → List Want → Result (List Want) Fault
walk context [] ws = Ok ws
walk context (s ∷ ss) ws = then_walk s.at (walk context ss) (step context ws s.token)

-- a whole text
abbrev pub start : List Want
start = Network most_forms ∷ Finish ∷ []
