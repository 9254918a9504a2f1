-- What the words of the command line say, by clap's meaning of them.
use Rattle.std.specs.Prelude.{◌≡◌, ◌≤◌, ◌⊎◌, ◌&&◌, ℕ, ℤ, pos, true, Bool, List, [], length, nat_le, nat_lt, Option, Some, None, codes, bytes_eq, option_map, if◌then◌else◌, ⊤}
use Rattle.std.specs.Char.{is_digit}
use Rattle.std.specs.List.{list_all}
use Rattle.std.specs.Str.Parse.{digits_value, without_leading_plus}
use Rattle.clap.specs.Words.{App, Row, Rule, Text, fault_of, first_of, kind_of, new_app, new_rule, one_of, subcommand_of, with_rule, with_subcommand, IsAmong}
use Rattle.clap.specs.declared.builder.action.ArgAction.TheVariants.{Set}
use Rattle.clap.specs.declared.builder.value_parser.ValueParser.TheVariants.{Signed}
use Rattle.clap.specs.declared.error.kind.ErrorKind.TheVariants.{ValueValidation}
use Rattle.lsif.specs.Profiles.{profile_named, profiles}
use Rattle.lsif.specs.declared.profile.Profile.{Profile}
use Rattle.lsif.specs.declared.profile.Profile.TheVariants.{One}
use Rattle.calls.specs.declared.call.Call.{Call}
use Rattle.calls.specs.declared.call.Call.TheVariants.{CheckLsif, CheckTags, Replay, Serve, Migrate}
use Rattle.calls.specs.declared.call.CallFault.{CallFault}
use Rattle.calls.specs.declared.call.CallFault.TheVariants.{Memory, Clap}

-- a call of the program
pub data CallValue : Type 0 where
  check_lsif : Text → Profile → CallValue
  check_tags : Text → CallValue
  replay : Text → Text → CallValue
  serve : Text → ℕ → ℕ → CallValue
  migrate : Text → CallValue

abbrev pub call_value : Call → CallValue
call_value (CheckLsif file profile) = check_lsif file.now profile
call_value (CheckTags file) = check_tags file.now
call_value (Replay database file) = replay database.now file.now
call_value (Serve database port requests) = serve database.now port requests
call_value (Migrate database) = migrate database.now

-- the greatest port
abbrev pub most_port : ℕ
most_port = 65535

-- how many connections are served at most
abbrev pub most_connections : ℕ
most_connections = 1000000

-- the numbers of a call are from 1 to their greatest
abbrev pub IsWithinBounds : CallValue → Type 0
IsWithinBounds (check_lsif file profile) = ⊤
IsWithinBounds (check_tags file) = ⊤
IsWithinBounds (replay database file) = ⊤
IsWithinBounds (serve database port requests) = (1 ≤ port) × (port ≤ most_port) × (1 ≤ requests) × (requests ≤ most_connections)
IsWithinBounds (migrate database) = ⊤

-- a word that has to be there
abbrev pub word : Text → Rule
word id = record (new_rule id) { required = true; action = Some Set; value_names = 1 }

-- an option whose value is a number in these bounds
abbrev pub number_option : Text → ℤ → ℤ → Rule
number_option id least most = record (new_rule id) { long = Some id; action = Some Set; value_names = 1; parser = Some (Signed least most) }

-- an option that has to be there, whose value is a number in these bounds
abbrev pub required_number : Text → ℤ → ℤ → Rule
required_number id least most = record (number_option id least most) { required = true }

-- check-lsif FILE --profile N
abbrev pub check_lsif_app : App
check_lsif_app = with_rule (with_rule (new_app (codes "check-lsif")) (word (codes "file"))) (number_option (codes "profile") (pos 1) (pos (length profiles)))

-- check-tags FILE
abbrev pub check_tags_app : App
check_tags_app = with_rule (new_app (codes "check-tags")) (word (codes "file"))

-- replay DB FILE
abbrev pub replay_app : App
replay_app = with_rule (with_rule (new_app (codes "replay")) (word (codes "db"))) (word (codes "file"))

-- serve DB --port N --requests N
abbrev pub serve_app : App
serve_app =
    with_rule (with_rule (with_rule (new_app (codes "serve")) (word (codes "db"))) (required_number (codes "port") (pos 1) (pos most_port)))
    (required_number (codes "requests") (pos 1) (pos most_connections))

-- migrate DB
abbrev pub migrate_app : App
migrate_app = with_rule (new_app (codes "migrate")) (word (codes "db"))

-- the program, which has a version and has to have a subcommand
abbrev pub top_app : App
top_app =
    let codenav = new_app (codes "codenav") in record codenav { top = record codenav.top { subcommand_required = true; has_version = true } }

-- the command line
abbrev pub app : App
app =
    let checks = with_subcommand (with_subcommand top_app check_lsif_app.top) check_tags_app.top in
    with_subcommand (with_subcommand (with_subcommand checks replay_app.top) serve_app.top) migrate_app.top

-- the profile that a value of --profile names; profile 1 where there is none
abbrev pub profile_in : Option Text → Option Profile
profile_in None = Some One
profile_in (Some text) = profile_named text

-- the call of check-lsif with these values, where both are there
abbrev pub check_lsif_with : Option Text → Option Profile → Option CallValue
check_lsif_with (Some file) (Some profile) = Some (check_lsif file profile)
check_lsif_with (Some file) None = None
check_lsif_with None profile = None

-- the call of check-lsif with these matches
abbrev pub check_lsif_of : List Row → Option CallValue
check_lsif_of rows = check_lsif_with (first_of (codes "file") rows) (profile_in (first_of (codes "profile") rows))

-- the call of check-tags with these matches
abbrev pub check_tags_of : List Row → Option CallValue
check_tags_of rows = option_map check_tags (first_of (codes "file") rows)

-- the call of replay with these values, where both are there
abbrev pub replay_with : Option Text → Option Text → Option CallValue
replay_with (Some database) (Some file) = Some (replay database file)
replay_with (Some database) None = None
replay_with None file = None

-- the call of replay with these matches
abbrev pub replay_of : List Row → Option CallValue
replay_of rows = replay_with (first_of (codes "db") rows) (first_of (codes "file") rows)

-- decimal digits, one or more, of a number from 1 to the most
abbrev pub is_number_up_to : ℕ → Text → Bool
is_number_up_to most digits =
    nat_lt 0 (length digits) && (list_all (λ c. is_digit c 10) digits && (nat_le 1 (digits_value 10 digits) && nat_le (digits_value 10 digits) most))

-- the number that digits write, where it's from 1 to the most
abbrev pub number_up_to : ℕ → Text → Option ℕ
number_up_to most digits = if is_number_up_to most digits then Some (digits_value 10 digits) else None

-- the number of an option with this value, where there is one; a plus may come before its digits
abbrev pub number_named : ℕ → Option Text → Option ℕ
number_named most None = None
number_named most (Some text) = number_up_to most (without_leading_plus text)

-- the call of serve with these values, where all are there
abbrev pub serve_with : Option Text → Option ℕ → Option ℕ → Option CallValue
serve_with (Some database) (Some port) (Some requests) = Some (serve database port requests)
serve_with (Some database) (Some port) None = None
serve_with (Some database) None requests = None
serve_with None port requests = None

-- the call of serve with these matches
abbrev pub serve_of : List Row → Option CallValue
serve_of rows =
    serve_with (first_of (codes "db") rows) (number_named most_port (one_of (codes "port") rows))
    (number_named most_connections (one_of (codes "requests") rows))

-- the call of migrate with these matches
abbrev pub migrate_of : List Row → Option CallValue
migrate_of rows = option_map migrate (first_of (codes "db") rows)

-- the call of the subcommand with this name and these matches
abbrev pub call_of : Option (Text × List Row) → Option CallValue
call_of None = None
call_of (Some sub) =
    if bytes_eq sub.0 (codes "check-lsif") then check_lsif_of sub.1
    else if bytes_eq sub.0 (codes "check-tags") then check_tags_of sub.1
    else if bytes_eq sub.0 (codes "replay") then replay_of sub.1
    else if bytes_eq sub.0 (codes "serve") then serve_of sub.1
    else if bytes_eq sub.0 (codes "migrate") then migrate_of sub.1
    else None

-- clap takes the words, and they say this call
abbrev pub IsCall : List Text → CallValue → Type 0
IsCall words call = (fault_of app words ≡ []) × (call_of (subcommand_of app words) ≡ Some call)

-- no memory was left, or clap's own error for these words, or they say no call
abbrev pub IsRefused : List Text → CallFault → Type 0
IsRefused words Memory = ⊤
IsRefused words (Clap error) =
    IsAmong (kind_of error) (fault_of app words)
    ⊎ ((call_of (subcommand_of app words) ≡ None) × (kind_of error ≡ ValueValidation))
