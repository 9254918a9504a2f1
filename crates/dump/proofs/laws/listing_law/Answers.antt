use Rattle.dump.proofs.OnePicks.{one_place_list}
use Rattle.dump.proofs.laws.listing_law.Goals as goal

pub returns : goal.returns
returns c = one_place_list
