use Rattle.std.proofs.Common.{◌≡◌, rules, None, sym, subst}
use Rattle.lsif.specs.Reading.{longest_line}
use Rattle.dump.specs.Judging.{IsHanded}
use Rattle.dump.proofs.Judgings.{long_reading}
use Rattle.dump.proofs.reading.read_line.Goals as goal

pub returns-in_default-clause-reading : goal.returns-in_default-clause-reading
returns-in_default-clause-reading c = λ bytes handed.
    let none : c.args.line ≡ None = search rules in
    sym (long_reading c.args.profile bytes (subst (λ line. IsHanded longest_line line bytes) none handed))
