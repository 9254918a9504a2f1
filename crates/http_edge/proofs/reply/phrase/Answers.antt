use Rattle.std.proofs.Common.{refl}
use Rattle.http_edge.proofs.Phrases.{is_short}
use Rattle.http_edge.proofs.ReplyLemmas.{phrase_of, no_phrase}
use Rattle.http_edge.proofs.reply.phrase.Goals as goal

pub returns-in-Ok-clause-text : goal.returns-in-Ok-clause-text
returns-in-Ok-clause-text c = phrase_of c.args.status _ _ _ c.in-Ok.ensures.0 (rw c.in-Ok.ensures.1 at c.canonical_reason.ensures.value) c.unwrap_or.ensures refl

pub returns-in-Ok-clause-short : goal.returns-in-Ok-clause-short
returns-in-Ok-clause-short c = is_short c.args.status _ _ _ (rw c.in-Ok.ensures.1 at c.canonical_reason.ensures.value) c.unwrap_or.ensures refl

pub returns-in-Err-clause-text : goal.returns-in-Err-clause-text
returns-in-Err-clause-text c = no_phrase c.args.status c.in-Err.ensures
