-- What a desk in memory keeps of its projects, and the states that it represents.
use Rattle.std.specs.Prelude.{◌≡◌, ℕ, List, Option, String, Result, option_map, option_and_then, string_bytes}
use Rattle.std.specs.BTreeMap as tree
use Rattle.std.specs.BTreeMap.{BTreeMap}
use Rattle.dump.specs.Progress.{DumpValue}
use Rattle.tags.specs.Values.{TagValue}
use Rattle.desk.specs.Indexes.{AreFaultless, kept_text}
use Rattle.machine.specs.Judging.{judged}
use Rattle.machine.specs.State.{State}
use Rattle.machine.specs.Steps.Changes.{said_value}
use Rattle.machine.specs.Reply.{ReplyValue}
use Rattle.machine.specs.Requests.{CommandValue}
use Rattle.machine.specs.declared.change.Change as makes
use Rattle.desk.specs.declared.project.Project.{Project}

-- this is said of a command of this project and key
abbrev pub Concludes : CommandValue → List ℕ → List ℕ → Result makes.Change ReplyValue → Type 0
Concludes command project key said = (command.project ≡ project) × (command.key ≡ key) × (said_value said ≡ judged command.action)

-- the dump of a project
abbrev pub dump_in : {Y : Type 0} → BTreeMap (String Y) Project → List ℕ → Option DumpValue
dump_in projects project = option_and_then (λ p. p.dump) (tree.get_by_text projects project)

-- its tags
abbrev pub tags_in : {Y : Type 0} → BTreeMap (String Y) Project → List ℕ → Option (List TagValue)
tags_in projects project = option_and_then (λ p. p.tags) (tree.get_by_text projects project)

-- the text of the reply that is kept under a key of a project
abbrev pub kept_in : {Y : Type 0} → BTreeMap (String Y) Project → List ℕ → List ℕ → Option (List ℕ)
kept_in projects project key = option_and_then (λ p. option_map string_bytes (tree.get_by_text p.kept key)) (tree.get_by_text projects project)

-- what is kept is that of the state
pub record Stands {Y : Type 0} (projects : BTreeMap (String Y) Project) (m : State) : Type 0 where
  pub dump : (project : List ℕ) → m.dump project ≡ dump_in projects project
  pub tags : (project : List ℕ) → m.tags project ≡ tags_in projects project
  pub kept : (project key : List ℕ) → kept_text m project key ≡ kept_in projects project key

-- and no dump has a fault
abbrev pub StandsFaultless : {Y : Type 0} → BTreeMap (String Y) Project → State → Type 0
StandsFaultless projects m = Stands projects m × AreFaultless m
