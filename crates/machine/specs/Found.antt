-- What queries find, as the program has it.
use Rattle.std.specs.Prelude.{string_bytes}
use Rattle.machine.specs.declared.found.FoundPlace as found_place
use Rattle.machine.specs.declared.found.FoundProject as found_project
use Rattle.machine.specs.declared.found.FoundTag as found_tag
use Rattle.tags.specs.Views.{tag_value}
use Rattle.machine.specs.Reply.{FoundPlace}
use Rattle.machine.specs.FoundTags.{FoundTag}
use Rattle.machine.specs.Projects.{ProjectValue}

abbrev pub place_found : found_place.FoundPlace → FoundPlace
place_found f = record { project = f.project.now; place = record { uri = f.uri.now; span = f.span.now } }

abbrev pub tag_found : found_tag.FoundTag → FoundTag
tag_found f = record { project = string_bytes f.project; tag = tag_value f.tag }

abbrev pub project_found : found_project.FoundProject → ProjectValue
project_found f = record { name = string_bytes f.name; dump = f.dump; tags = f.tags }
