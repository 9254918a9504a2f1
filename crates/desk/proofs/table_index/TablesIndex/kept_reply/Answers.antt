use Rattle.desk.proofs.TableStates.{selected}
use Rattle.desk.proofs.table_index.TablesIndex.kept_reply.Goals as goal

pub returns-in_err-kept_reply-clause-reads : goal.returns-in_err-kept_reply-clause-reads
returns-in_err-kept_reply-clause-reads g c = selected g.S.Store c.kept_reply.result _ c.args.self.now c.check.new.self c.kept_reply.new.self c.check.ensures.survives c.in_ok-check.ensures.open c.kept_reply.ensures.selects

pub returns-clause-reads : goal.returns-clause-reads
returns-clause-reads g c = selected g.S.Store c.kept_reply.result _ c.args.self.now c.check.new.self c.kept_reply.new.self c.check.ensures.survives c.in_ok-check.ensures.open c.kept_reply.ensures.selects
