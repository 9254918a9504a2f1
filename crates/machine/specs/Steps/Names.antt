-- The bytes of names, by what they are names of.
use Rattle.std.specs.Prelude.{ℕ, Bool}
use Rattle.machine.specs.Names.{is_project_byte, is_key_byte}
use Rattle.machine.specs.declared.names.Named.{Named}
use Rattle.machine.specs.declared.names.Named.TheVariants.{Project, Command}

abbrev pub is_name_byte : Named → ℕ → Bool
is_name_byte Project = is_project_byte
is_name_byte Command = is_key_byte
