use Rattle.std.proofs.Common.{◌≡◌, Ok, Err, rules, subst, sym}
use Rattle.dump.specs.Judging.{ReadsDump, as_dump_fault}
use Rattle.dump.proofs.Judgings.{concluded}
use Rattle.dump.proofs.reading.read_dump.Goals as goal

pub returns-in_err-finish-in-Ok-clause-dump : goal.returns-in_err-finish-in-Ok-clause-dump
returns-in_err-finish-in-Ok-clause-dump g c =
    let fault = concluded c.args.profile _ c.take_lines.new.checker (Err c.in_err-finish-in-Ok.field-0.0) c.fault_law.ensures.holds c.fault_law.ensures.elements (rw c.new-checker.ensures at c.in-Ok.ensures.taken) c.in_err-finish-in-Ok.ensures in
    let is : c.from_residual.result ≡ Err (as_dump_fault c.in_err-finish-in-Ok.field-0.0) = search rules in
    subst (ReadsDump c.args.profile (g.R.Source.left c.args.r.now)) (sym is) fault

pub returns-in_ok-finish-in-Ok-clause-dump : goal.returns-in_ok-finish-in-Ok-clause-dump
returns-in_ok-finish-in-Ok-clause-dump g c =
    concluded c.args.profile _ c.take_lines.new.checker (Ok c.in_ok-finish-in-Ok.field-0) c.fault_law.ensures.holds c.fault_law.ensures.elements (rw c.new-checker.ensures at c.in-Ok.ensures.taken) c.in_ok-finish-in-Ok.ensures
