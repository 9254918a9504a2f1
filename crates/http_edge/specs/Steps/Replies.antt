-- Replies as the program has them.
use Rattle.http_edge.specs.declared.reply.Answer.{Answer}
use Rattle.http_edge.specs.declared.reply.Answer.TheVariants.{Reply, Refused}
use Rattle.http_edge.specs.Replies.{AnswerValue, replied, turned_away}

abbrev pub answer_value : Answer → AnswerValue
answer_value (Reply reply) = replied reply
answer_value (Refused refusal) = turned_away refusal
