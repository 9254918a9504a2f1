use Rattle.std.proofs.lemmas.Result.{IfOk-weaker}
use Rattle.sqlite.specs.Held.{state}
use Rattle.tables.specs.Stands.{replies_of}
use Rattle.tables.proofs.Select.{reads}
use Rattle.tables.proofs.Commands.{select_reply_is}
use Rattle.tables.proofs.KeptReplies.{reply_found}
use Rattle.tables.proofs.replies.find_reply.Goals as goal

pub select_first-requires : goal.select_first-requires
select_first-requires g c = reads select_reply_is

pub returns-clause-found : goal.returns-clause-found
returns-clause-found g c clean has m s =
    let old = state g.S.Store c.args.conn.now in
    let new = state g.S.Store c.select_first.new.conn in
    IfOk-weaker c.select_first.result _ _ (λ found h.
    reply_found c.args.project.now c.args.key.now old new h.0 found s.parts (replies_of m) s.keeps has (rw (c.params-to_sql.ensures, c.params-to_sql-2.ensures) at h.1) h.2) (c.select_first.ensures.read clean)
