-- The code's tokens and names, as the definitions see them.
use Rattle.std.specs.Prelude.{List, [], map}
use Rattle.std.specs.Option.{option_map}
use Rattle.ff_text.specs.declared.token.Token.{Token as Borrowed}
use Rattle.ff_text.specs.declared.token.Token.TheVariants.{Word as BorrowedWord, Number as BorrowedNumber, Sign as BorrowedSign, Quoted as BorrowedQuoted, Bad as BorrowedBad, Stop as BorrowedStop}
use Rattle.ff_text.specs.declared.token.PlacedToken.{PlacedToken as BorrowedPlacedToken}
use Rattle.ff_text.specs.declared.lexeme.Lexeme.{Lexeme as BorrowedLexeme}
use Rattle.ff_text.specs.Tokens.{Token, Word, Number, Sign, Quoted, Bad, Stop, PlacedToken}
use Rattle.ff_text.specs.Cutting.{Lexeme}
use Rattle.ff_net.specs.Tree.{tree_of}
use Rattle.ff_text.specs.declared.context.Context.{Context as OwnedContext}
use Rattle.ff_text.specs.declared.context.NamedNet.{NamedNet}
use Rattle.ff_text.specs.Names.{Name, Context}

-- what a token is
abbrev pub token_of : Borrowed → Token
token_of (BorrowedWord bytes) = Word bytes.now
token_of (BorrowedNumber value) = Number value
token_of (BorrowedSign mark) = Sign mark
token_of (BorrowedQuoted bytes) = Quoted bytes.now
token_of BorrowedBad = Bad
token_of BorrowedStop = Stop

-- a token at its place
abbrev pub spot_of : BorrowedPlacedToken → PlacedToken
spot_of spot = record { token = token_of spot.token; at = spot.at }

-- a token or a gap, and its length
abbrev pub seen : BorrowedLexeme → Lexeme
seen lexeme = record { token = option_map token_of lexeme.token; more = lexeme.more }

-- what stands ahead behind a spot: where it is the last, nothing
abbrev pub behind : Token → List PlacedToken → List PlacedToken
behind Stop spots = []
behind _ spots = spots

-- a word and its network
abbrev pub name_of : NamedNet → Name
name_of named = record { word = named.word.items; net = tree_of named.net }

-- a version and its names
abbrev pub context_of : OwnedContext → Context
context_of context = record { version = context.version; names = map name_of context.names.items }

-- the names alone
abbrev pub names_of : OwnedContext → List Name
names_of context = map name_of context.names.items
