use Rattle.std.proofs.Common.{rules, refl}
use Rattle.dump.proofs.Judgings.{given_reading, long_fault}
use Rattle.dump.proofs.reading.next_reading.Goals as goal

pub returns-in-Ok-clause-read : goal.returns-in-Ok-clause-read
returns-in-Ok-clause-read g c = given_reading c.args.profile _ _ c.line.result.now c.advance.new.self.has_feed _ (search rules) (c.in-Ok.ensures.reading c.line.result.now refl)

pub returns-in-Err-TooLong-clause-read : goal.returns-in-Err-TooLong-clause-read
returns-in-Err-TooLong-clause-read g c = long_fault c.args.profile _ _ (search rules)
