use Rattle.dump.proofs.Ends.{each_ends}
use Rattle.dump.proofs.Lines.{short_chain}
use Rattle.dump.proofs.Progresses.{sound_of}
use Rattle.dump.proofs.laws.chain_law.Goals as goal

pub returns-clause-chain : goal.returns-clause-chain
returns-clause-chain c = λ elements free x. each_ends elements (sound_of elements free) x

pub returns-clause-short : goal.returns-clause-short
returns-clause-short c = short_chain
