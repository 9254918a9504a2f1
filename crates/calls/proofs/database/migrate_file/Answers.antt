use Rattle.calls.proofs.Databases.{implied}
use Rattle.calls.proofs.database.migrate_file.Goals as goal

pub returns-clause-migrated : goal.returns-clause-migrated
returns-clause-migrated g c = implied c.migrate_database.result c.migrate_database.ensures.clean c.migrate_database.ensures.migrated (λ r clean made reliable m holds.
    made reliable m (c.in_ok-conn.ensures.finds_one (clean reliable) m holds))

pub returns-clause-known : goal.returns-clause-known
returns-clause-known g c = implied c.migrate_database.result c.migrate_database.ensures.clean c.migrate_database.ensures.known (λ r clean known reliable m holds.
    known reliable m (c.in_ok-conn.ensures.finds (clean reliable) m holds))
