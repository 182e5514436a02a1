-- A parse against what the words give to the arguments.
use Rattle.std.proofs.Common.{◌≡◌, ◌&&◌, Bool, true, false, List, [], ◌∷◌, ℕ, None, Some, refl, ap, inl, inr, sym}
use Rattle.clap.specs.Words.{App, HasKind, HasMatchesOf, Kinds, Row, fault_of, found_of, is_simple, is_simple_and_free, kind_of, matches_of, rows_of}
use Rattle.clap.specs.Faults.{is_free_app}
use Rattle.clap.specs.Simple.{built}
use Rattle.clap.specs.declared.error.Error.{Error}
use Rattle.clap.specs.declared.error.kind.ErrorKind.TheVariants as kind
use Rattle.clap.specs.declared.parser.matches.ArgMatches.{ArgMatches}
use Rattle.ff_words.specs.Parsed.{parsed, unless}

and_left : (a b : Bool) → (a && b) ≡ true → a ≡ true
and_left true b e = refl
and_left false b e = e

-- a parse that succeeds gives the rows that stand for the words
pub parsed-taken : (app : App) (words : List (List ℕ)) (m : ArgMatches) → is_simple_and_free app ≡ true
    → fault_of app words ≡ [] → HasMatchesOf app words m → parsed app words ≡ Some (rows_of (found_of m))
unfolding parsed
parsed-taken app words m simple none same =
    let rows = (same (and_left (is_simple app) (is_free_app (built app)) simple)).0 in
    rw none (ap Some (sym rows))

unless-fault : (kinds : Kinds) (rows : List Row) (e : Error) → HasKind kinds e → (kind_of e ≡ kind.OutOfMemory → ⊥) → unless kinds rows ≡ None
unless-fault [] rows e (inl h) other = absurd (other h)
unless-fault [] rows e (inr h) other = absurd h
unless-fault (k ∷ ks) rows e h other = refl

-- one that is refused, and not for memory, has a fault of the words
pub parsed-refused : (app : App) (words : List (List ℕ)) (e : Error) → HasKind (fault_of app words) e
    → (kind_of e ≡ kind.OutOfMemory → ⊥) → parsed app words ≡ None
unfolding parsed
parsed-refused app words e has other = unless-fault (fault_of app words) (matches_of app words) e has other
