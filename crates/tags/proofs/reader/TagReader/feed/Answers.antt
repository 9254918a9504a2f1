use Rattle.tags.proofs.ConditionLemmas.{handed_only}
use Rattle.tags.proofs.reader.TagReader.feed.Goals as goal

pub returns : goal.returns
returns c = λ reading h. rw (handed_only _ c.args.ended reading h) c.keep_line.ensures
