use Rattle.std.proofs.Common.{◌≡◌, ◌++◌, [], ◌∷◌, rules, arith}
use Rattle.streams.proofs.Members.{nil_of}
use Rattle.machine.specs.Selections.{bearer_found}
use Rattle.desk.specs.Steps.Rows.{OfBearer, joined_value}
use Rattle.desk.proofs.Finding.{iff_sym, iff_trans, or_none}
use Rattle.desk.proofs.Popped.{none_left, pop_adds, pop_skips}
use Rattle.desk.proofs.RowLists.{one_of}
use Rattle.desk.proofs.rows.bearers.add_bearers.Goals as goal

pub loop-bearer-preserved-in-Continue-1 : goal.loop-bearer-preserved-in-Continue-1
loop-bearer-preserved-in-Continue-1 c = λ j.
    let request = c.args.request in
    let own = c.args.own.now in
    let bearer = c.in-Some.bearer in
    let row = c.in-Some-joined_of.row in
    let popped : c.loop-bearer.bearers.items ≡ c.pop.new.self.items ++ bearer ∷ [] = search rules in
    let pushed : c.push.new.self.items ≡ c.loop-bearer.found.items ++ row ∷ [] = search rules in
    pop_adds bearer_found joined_value (OfBearer request own) c.loop-bearer.bearers.items c.pop.new.self.items bearer popped c.loop-bearer.found.items c.push.new.self.items row j _ pushed
    (one_of request own (bearer_found bearer) (joined_value row) j c.in-Some-joined_of.ensures.some) (c.loop-bearer.invariant j)

pub loop-bearer-preserved : goal.loop-bearer-preserved
loop-bearer-preserved c = λ j.
    let bearer = c.in-Some.bearer in
    let popped : c.loop-bearer.bearers.items ≡ c.pop.new.self.items ++ bearer ∷ [] = search rules in
    pop_skips bearer_found joined_value (OfBearer c.args.request c.args.own.now) c.loop-bearer.bearers.items c.pop.new.self.items bearer popped c.loop-bearer.found.items j _ (c.in_default-joined_of.ensures.none j) (c.loop-bearer.invariant j)

pub returns : goal.returns
returns c = λ j.
    let empty = nil_of c.loop-bearer.bearers.items (omega (arith, c.loop-bearer.bearers.ok.0, c.in_default.ensures.cases.0)) in
    iff_trans (iff_sym (or_none (none_left bearer_found (OfBearer c.args.request c.args.own.now) c.loop-bearer.bearers.items j empty))) (c.loop-bearer.invariant j)
