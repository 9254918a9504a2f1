use Rattle.sqlite_wal.specs.Files.{image_at}
use Rattle.sqlite.specs.Files.{file_state}
use Rattle.calls.proofs.Databases.{finds_index, finds_index_one}
use Rattle.calls.proofs.database.connect_file.Goals as goal

pub returns-in-Ok-clause-finds : goal.returns-in-Ok-clause-finds
returns-in-Ok-clause-finds g c clean m holds =
    finds_index (image_at g.S.Start) (file_state c.in-Ok.conn) m (c.in-Ok.ensures.opened clean) (c.in-Ok.ensures.found clean) holds

pub returns-in-Ok-clause-finds_one : goal.returns-in-Ok-clause-finds_one
returns-in-Ok-clause-finds_one g c clean m holds =
    finds_index_one (image_at g.S.Start) (file_state c.in-Ok.conn) m (c.in-Ok.ensures.opened clean) (c.in-Ok.ensures.found clean) holds
