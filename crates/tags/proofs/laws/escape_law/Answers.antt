use Rattle.tags.proofs.WrittenLemmas.{decoded-IsWritten, IsWritten-decoded}
use Rattle.tags.proofs.laws.escape_law.Goals as goal

pub returns-clause-read : goal.returns-clause-read
returns-clause-read c = decoded-IsWritten

pub returns-clause-written : goal.returns-clause-written
returns-clause-written c = IsWritten-decoded
