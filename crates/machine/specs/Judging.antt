-- What a command asks for, judged by its body alone: the change that it makes, or the reply that
-- refuses it.
use Rattle.std.specs.Prelude.{ℕ, List, Option, None, Some, Result, Ok, Err}
use Rattle.lsif.specs.declared.profile.Profile.{Profile}
use Rattle.dump.specs.declared.fault.LineFault as dumps
use Rattle.dump.specs.Lines.{dump_of}
use Rattle.dump.specs.Progress.{DumpValue, Progress, running, stopped, progress, end_fault}
use Rattle.tags.specs.Judging as texts
use Rattle.tags.specs.Values.{TagValue}
use Rattle.tags.specs.declared.code.LineFault as tags
use Rattle.machine.specs.State.{Change, set_dump, set_tags, clear}
use Rattle.machine.specs.Reply.{ReplyValue, dump_refused, tags_refused}
use Rattle.machine.specs.Requests.{ActionValue, put_dump, put_tags, remove}

-- ---- dumps

abbrev pub dump_or : DumpValue → Option dumps.LineFault → Result DumpValue dumps.LineFault
dump_or dump None = Ok dump
dump_or dump (Some f) = Err f

abbrev pub dump_at_end : Profile → Progress → Result DumpValue dumps.LineFault
dump_at_end profile (running elements) = dump_or (record { profile = profile; elements = elements }) (end_fault elements)
dump_at_end profile (stopped f) = Err f

-- the dump that a body is by a profile, or its fault
abbrev pub judged_dump : Profile → List ℕ → Result DumpValue dumps.LineFault
judged_dump profile body = dump_at_end profile (progress (dump_of profile body))

-- ---- tags

-- the tags that a body has, or its fault
abbrev pub judged_tags : List ℕ → Result (List TagValue) tags.LineFault
judged_tags body = texts.judged body

-- ---- commands

abbrev pub dump_change : Result DumpValue dumps.LineFault → Result Change ReplyValue
dump_change (Ok dump) = Ok (set_dump dump)
dump_change (Err f) = Err (dump_refused f)

abbrev pub tags_change : Result (List TagValue) tags.LineFault → Result Change ReplyValue
tags_change (Ok tags) = Ok (set_tags tags)
tags_change (Err f) = Err (tags_refused f)

-- the verdict on a command: the change that it makes, or the fault of its body
abbrev pub judged : ActionValue → Result Change ReplyValue
judged (put_dump profile body) = dump_change (judged_dump profile body)
judged (put_tags body) = tags_change (judged_tags body)
judged remove = Ok clear
