use Rattle.sqlite.specs.Held.{state}
use Rattle.desk.proofs.TableStates.{rests_when_asked, selected}
use Rattle.desk.proofs.table_index.TablesIndex.tags.Goals as goal

pub returns-in_ok-names_exact-in-Name-clause-found : goal.returns-in_ok-names_exact-in-Name-clause-found
returns-in_ok-names_exact-in-Name-clause-found g c clean m stood =
    let mid = state g.S.Store c.check.new.self in
    let rests = rests_when_asked (state g.S.Store c.args.self.now) mid m (c.in_ok-check.ensures.open (c.names_exact.ensures.selects.clean clean)) stood in
    rw c.in-Name.is (c.in_ok-names_exact-in-Name.ensures.found clean m rests)

pub returns-in_ok-names_prefix-in-Prefix-clause-found : goal.returns-in_ok-names_prefix-in-Prefix-clause-found
returns-in_ok-names_prefix-in-Prefix-clause-found g c clean m stood =
    let mid = state g.S.Store c.check.new.self in
    let rests = rests_when_asked (state g.S.Store c.args.self.now) mid m (c.in_ok-check.ensures.open (c.names_prefix.ensures.selects.clean clean)) stood in
    rw c.in-Prefix.is (c.in_ok-names_prefix-in-Prefix.ensures.found clean m rests)

pub returns-in_err-names_exact-in-Name-clause-reads : goal.returns-in_err-names_exact-in-Name-clause-reads
returns-in_err-names_exact-in-Name-clause-reads g c = selected g.S.Store c.names_exact.result _ c.args.self.now c.check.new.self c.names_exact.new.self c.check.ensures.survives c.in_ok-check.ensures.open c.names_exact.ensures.selects

pub returns-in_ok-names_exact-in-Name-clause-reads : goal.returns-in_ok-names_exact-in-Name-clause-reads
returns-in_ok-names_exact-in-Name-clause-reads g c = selected g.S.Store c.names_exact.result _ c.args.self.now c.check.new.self c.names_exact.new.self c.check.ensures.survives c.in_ok-check.ensures.open c.names_exact.ensures.selects

pub returns-in_err-names_prefix-in-Prefix-clause-reads : goal.returns-in_err-names_prefix-in-Prefix-clause-reads
returns-in_err-names_prefix-in-Prefix-clause-reads g c = selected g.S.Store c.names_prefix.result _ c.args.self.now c.check.new.self c.names_prefix.new.self c.check.ensures.survives c.in_ok-check.ensures.open c.names_prefix.ensures.selects

pub returns-in_ok-names_prefix-in-Prefix-clause-reads : goal.returns-in_ok-names_prefix-in-Prefix-clause-reads
returns-in_ok-names_prefix-in-Prefix-clause-reads g c = selected g.S.Store c.names_prefix.result _ c.args.self.now c.check.new.self c.names_prefix.new.self c.check.ensures.survives c.in_ok-check.ensures.open c.names_prefix.ensures.selects
