use Rattle.flatten.proofs.KeyLemmas.{key_same}
use Rattle.flatten.proofs.keys.key_law.Goals as goal

pub returns : goal.returns
returns c = key_same
