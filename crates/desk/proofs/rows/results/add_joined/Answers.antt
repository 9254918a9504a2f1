use Rattle.std.proofs.Common.{◌≡◌, ◌++◌, [], ◌∷◌, rules, arith}
use Rattle.streams.proofs.Members.{nil_of}
use Rattle.desk.specs.Steps.Rows.{JoinedValue, ProjectResultValue, joined_value, project_result_value, result_of_joined}
use Rattle.desk.specs.declared.rows.results.ProjectResult.{ProjectResult}
use Rattle.desk.proofs.Finding.{iff_refl, iff_sym, iff_trans, or_none}
use Rattle.desk.proofs.Popped.{none_left, pop_adds}
use Rattle.desk.proofs.rows.results.add_joined.Goals as goal

abbrev Makes : JoinedValue → ProjectResultValue → Type 0
Makes j t = result_of_joined j ≡ t

pub loop-row-preserved : goal.loop-row-preserved
loop-row-preserved c = λ t.
    let row = c.in-Some.row in
    let made : ProjectResult = record { project = row.project; number = row.number } in
    let popped : c.loop-row.joined.items ≡ c.pop.new.self.items ++ row ∷ [] = search rules in
    let pushed : c.push.new.self.items ≡ c.loop-row.project_results.items ++ made ∷ [] = search rules in
    pop_adds joined_value project_result_value Makes c.loop-row.joined.items c.pop.new.self.items row popped c.loop-row.project_results.items c.push.new.self.items made t _ pushed iff_refl (c.loop-row.invariant t)

pub returns : goal.returns
returns c = λ t.
    let empty = nil_of c.loop-row.joined.items (omega (arith, c.loop-row.joined.ok.0, c.in_default.ensures.cases.0)) in
    iff_trans (iff_sym (or_none (none_left joined_value Makes c.loop-row.joined.items t empty))) (c.loop-row.invariant t)
