-- The verdict on a command, as the program has it.
use Rattle.std.specs.Prelude.{Result, Ok, Err}
use Rattle.machine.specs.State.{Change, set_dump, set_tags, clear}
use Rattle.machine.specs.Reply.{ReplyValue}
use Rattle.machine.specs.declared.change.Change as makes
use Rattle.machine.specs.declared.change.Change.TheVariants.{SetDump, SetTags, Clear}

abbrev pub change_value : makes.Change → Change
change_value (SetDump dump) = set_dump dump
change_value (SetTags tags) = set_tags tags
change_value Clear = clear

-- the verdict on a command
abbrev pub said_value : Result makes.Change ReplyValue → Result Change ReplyValue
said_value (Ok change) = Ok (change_value change)
said_value (Err fault) = Err fault
