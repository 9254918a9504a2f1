use Rattle.std.specs.Prelude.{codes}
use Rattle.std.specs.Fmt.{decimal}
use Rattle.http_edge.specs.Replies.{phrase, allow_text, fixed_fields, head_text}
use Rattle.http_edge.proofs.ReplyLemmas.{nine_texts}
use Rattle.http_edge.proofs.reply.head.Goals as goal

pub returns : goal.returns
unfolding head_text
returns c =
    rw (c.push_str-8.ensures.bytes, c.push_str-7.ensures.bytes, c.push_str-6.ensures.bytes, c.push_allow.ensures.text, c.push_str-5.ensures.bytes, c.push_str-4.ensures.bytes, c.push_str-3.ensures.bytes, c.push_str-2.ensures.bytes, c.push_str.ensures.bytes, c.new-head.ensures, c.format.ensures.text, c.format-2.ensures.text, c.phrase.ensures.text)
    (nine_texts (codes "HTTP/1.1 ") (decimal c.args.status) (codes " ") (phrase c.args.status) fixed_fields (allow_text c.args.allow) (codes "Content-Length: ") (decimal c.args.body_length) (codes "\r\n\r\n"))
