-- What requests say.
use Rattle.std.specs.Prelude.{ℕ, Bool, List, map, Option, string_bytes}
use Rattle.positions.specs.Position.{PositionValue}
use Rattle.lsif.specs.declared.request_kind.RequestKind.{RequestKind}
use Rattle.lsif.specs.declared.profile.Profile.{Profile}
use Rattle.machine.specs.declared.request.Command.{Command}
use Rattle.machine.specs.declared.request.Command.TheVariants as commands
use Rattle.machine.specs.declared.request.Query.{Query}
use Rattle.machine.specs.declared.request.Query.TheVariants as queries
use Rattle.machine.specs.declared.request.Request.{Request}
use Rattle.machine.specs.declared.request.Request.TheVariants as requests

-- what a command does to its project: it puts a dump of a profile, puts tags, or removes both
pub data ActionValue : Type 0 where
  put_dump : Profile → List ℕ → ActionValue
  put_tags : List ℕ → ActionValue
  remove : ActionValue

pub record CommandValue : Type 0 where
  pub project : List ℕ
  pub key : List ℕ
  pub action : ActionValue

-- a position in a project's document of this serialized URL
pub record DocumentPositionValue : Type 0 where
  pub project : List ℕ
  pub uri : List ℕ
  pub position : PositionValue

-- a query at a position, by the kind of its request; references, and whether definitions are asked,
-- too; the tags of a name or a prefix, in all projects or in one; the projects; or the profile of a
-- project's dump
pub data QueryValue : Type 0 where
  position_query : RequestKind → DocumentPositionValue → QueryValue
  references : DocumentPositionValue → Bool → QueryValue
  names : List ℕ → Option (List ℕ) → QueryValue
  prefix : List ℕ → Option (List ℕ) → QueryValue
  projects : QueryValue
  profile : List ℕ → QueryValue

pub data RequestValue : Type 0 where
  command : CommandValue → RequestValue
  query : QueryValue → RequestValue

-- ---- the same of the program's values

abbrev pub command_value : Command → CommandValue
command_value (commands.PutDump project key by body) = record { project = project; key = key; action = put_dump by body.now }
command_value (commands.PutTags project key body) = record { project = project; key = key; action = put_tags body.now }
command_value (commands.Remove project key) = record { project = project; key = key; action = remove }

abbrev pub at_value : List ℕ → List ℕ → PositionValue → DocumentPositionValue
at_value project uri position = record { project = project; uri = uri; position = position }

abbrev pub query_value : Query → QueryValue
query_value (queries.At kind project uri position) = position_query kind (at_value project uri position)
query_value (queries.References project uri position declared) = references (at_value project uri position) declared
query_value (queries.Names name project) = names (string_bytes name) project
query_value (queries.Prefix start project) = prefix (string_bytes start) project
query_value queries.Projects = projects
query_value (queries.Profile project) = profile project

abbrev pub request_value : Request → RequestValue
request_value (requests.Command c) = command (command_value c)
request_value (requests.Query q) = query (query_value q)

abbrev pub request_values : List Request → List RequestValue
request_values = map request_value
