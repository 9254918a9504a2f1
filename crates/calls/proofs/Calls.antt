-- What clap finds in words, and the faults of words that it refuses.
use Rattle.std.proofs.Common.{◌≡◌, true, List, [], sym, subst, inl, inr, refl}
use Rattle.clap.specs.Words.{App, Text, HasKind, HasMatchesOf, IsAmong, fault_of, is_simple, is_simple_and_free, kind_of, subcommand_of, subcommand_rows_of}
use Rattle.clap.specs.declared.parser.matches.ArgMatches.{ArgMatches}
use Rattle.clap.specs.declared.error.Error.{Error}
use Rattle.calls.specs.Call.{app, IsRefused}
use Rattle.calls.specs.Steps.Call.{ShowsError}
use Rattle.calls.specs.declared.call.CallFault.{CallFault}
use Rattle.calls.specs.declared.call.CallFault.TheVariants.{Memory, Clap}

-- the command line has no rules that clap's meaning leaves out
simple : is_simple_and_free app ≡ true
simple = refl

known : is_simple app ≡ true
known = refl

-- words that are taken have no fault
pub taken : (command : App) (words : List Text) → command ≡ app → (is_simple_and_free command ≡ true → fault_of command words ≡ []) → fault_of app words ≡ []
taken command words is passes = subst (λ (a : App). is_simple_and_free a ≡ true → fault_of a words ≡ []) is passes simple

-- and the subcommand is the one that they name
pub entered : (command : App) (words : List Text) (found : ArgMatches) → command ≡ app → HasMatchesOf command words found → subcommand_rows_of found ≡ subcommand_of app words
entered command words found is has = (subst (λ (a : App). HasMatchesOf a words found) is has known).1

pub has_kind : (command : App) (words : List Text) (error : Error) → command ≡ app
    → (is_simple_and_free command ≡ true → HasKind (fault_of command words) error) → HasKind (fault_of app words) error
has_kind command words error is fails =
    subst (λ (a : App). is_simple_and_free a ≡ true → HasKind (fault_of a words) error) is fails simple

pub refused : (words : List Text) (error : Error) (fault : CallFault) → HasKind (fault_of app words) error → ShowsError error fault
    → IsRefused words fault
refused words error Memory kinds shows = tt
refused words error (Clap shown) kinds shows =
    elim kinds [
      | inl memory ↦ absurd (shows.1 memory)
      | inr among ↦ inl (subst (λ (e : Error). IsAmong (kind_of e) (fault_of app words)) (sym shows.0) among)
    ]
