use Rattle.std.proofs.Common.{◌≡◌, map, subst, rules}
use Rattle.std.specs.Prelude.{Some, None, option_map}
use Rattle.dump.specs.Requests.{IsFirst}
use Rattle.machine.specs.Selections.{FindsCovering, range_found}
use Rattle.desk.specs.Steps.Rows.{RowSpeaks}
use Rattle.desk.proofs.RowWalks.{picked_row}
use Rattle.desk.proofs.rows.ranges.pick.Goals as goal

pub returns-in-Some-clause-found : goal.returns-in-Some-clause-found
returns-in-Some-clause-found g c = λ s m stood.
    let request = c.args.request in
    let own = c.args.project.now in
    let e = c.first_speaking.ensures in
    let mid = (c.in_ok-covering.ensures.reads.only (e.reads.reliable s)).state m stood in
    let f = subst (FindsCovering m request own c.args.uri.now c.args.at) c.in-Ranges.is (c.in_ok-covering.ensures.found (e.reads.reliable s) m stood) in
    let o : option_map range_found c.in_ok-range-in-Ranges.field-0 ≡ Some (range_found c.in-Some.range) = search rules in
    let first = subst (λ l. IsFirst (RowSpeaks m request own) (map range_found l) (Some (range_found c.in-Some.range))) c.deref.ensures.value (subst (IsFirst (RowSpeaks m request own) (map range_found c.deref.result.now)) o (c.in_ok-range-in-Ranges.ensures.first s m mid)) in
    (f.0, f.1, f.2, picked_row m (c.in_ok-covering.ensures.faultless (e.reads.reliable s) m stood) request own f.0 f.1 c.args.uri.now c.args.at (map range_found c.in-Ranges.ranges.items) (Some (range_found c.in-Some.range)) f.3 first)

pub returns-clause-found : goal.returns-clause-found
returns-clause-found g c = λ s m stood.
    let request = c.args.request in
    let own = c.args.project.now in
    let e = c.first_speaking.ensures in
    let mid = (c.in_ok-covering.ensures.reads.only (e.reads.reliable s)).state m stood in
    let f = subst (FindsCovering m request own c.args.uri.now c.args.at) c.in-Ranges.is (c.in_ok-covering.ensures.found (e.reads.reliable s) m stood) in
    let o : option_map range_found c.in_ok-range-in-Ranges.field-0 ≡ None = search rules in
    let first = subst (λ l. IsFirst (RowSpeaks m request own) (map range_found l) None) c.deref.ensures.value (subst (IsFirst (RowSpeaks m request own) (map range_found c.deref.result.now)) o (c.in_ok-range-in-Ranges.ensures.first s m mid)) in
    (f.0, f.1, f.2, picked_row m (c.in_ok-covering.ensures.faultless (e.reads.reliable s) m stood) request own f.0 f.1 c.args.uri.now c.args.at (map range_found c.in-Ranges.ranges.items) None f.3 first)

pub returns-in-Some-clause-faultless : goal.returns-in-Some-clause-faultless
returns-in-Some-clause-faultless g c = λ s m stood. c.in_ok-covering.ensures.faultless (c.first_speaking.ensures.reads.reliable s) m stood

pub returns-clause-faultless : goal.returns-clause-faultless
returns-clause-faultless g c = λ s m stood. c.in_ok-covering.ensures.faultless (c.first_speaking.ensures.reads.reliable s) m stood
