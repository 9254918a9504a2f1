-- Replies as the program has them.
use Rattle.std.specs.Prelude.{string_bytes}
use Rattle.machine.specs.Reply.{ReplyValue, refused, made}
use Rattle.machine.specs.declared.reply.Content.{Content}
use Rattle.machine.specs.declared.reply.Content.TheVariants.{Refused, Made, Fixed}

abbrev pub content_value : Content → ReplyValue
content_value (Refused code) = refused code
content_value (Made status body) = made status (string_bytes body)
content_value (Fixed status body) = made status body.now
