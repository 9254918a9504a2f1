use Rattle.lsif.proofs.Profiles.{of_profile_one, added_is_other, same_reading}
use Rattle.lsif.proofs.reading.profile_law.Goals as goal

pub returns-clause-base : goal.returns-clause-base
returns-clause-base c = of_profile_one

pub returns-clause-added : goal.returns-clause-added
returns-clause-added c = added_is_other

pub returns-clause-alike : goal.returns-clause-alike
returns-clause-alike c = same_reading
