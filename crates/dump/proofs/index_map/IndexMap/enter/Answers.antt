use Rattle.std.proofs.Common.{◌≡◌, nat_lt, get_or, None, false, arith}
use Rattle.lsif.specs.Element.{number, text}
use Rattle.dump.specs.Steps.Ids.{value_at}
use Rattle.dump.proofs.EachId.{each_id}
use Rattle.dump.proofs.Slots.{on_ok, on_err, slot_same, number_entered, text_entered}
use Rattle.dump.proofs.index_map.IndexMap.enter.Goals as goal

pub returns-in-Number-2-clause-ok : goal.returns-in-Number-2-clause-ok
returns-in-Number-2-clause-ok c =
    let table = c.args.self.now in
    let past : nat_lt c.in-Number-2.field-0 table.bound ≡ false = grind (arith, c.if-n-self.false, c.in-Number.is, c.in-Number-2.is) in
    rw c.in-Number-2.is (on_ok c.enter.result (λ same. each_id _
    (λ m. number_entered table.bound c.in-Number-2.field-0 m c.args.index table.slots.items (value_at table.others (number m)) (value_at c.enter.new.self (number m)) past (same (number m)))
    (λ s. same (text s))) (rw c.in-Number-2.is at c.enter.ensures.ok))

pub returns-in-Text-clause-ok : goal.returns-in-Text-clause-ok
returns-in-Text-clause-ok c =
    let table = c.args.self.now in
    rw c.in-Text.is (on_ok c.enter-in-Text.result (λ same. each_id _
    (λ m. text_entered table.bound m c.args.index table.slots.items (value_at table.others (number m)) (value_at c.enter-in-Text.new.self (number m)) (same (number m)))
    (λ s. same (text s))) (rw c.in-Text.is at c.enter-in-Text.ensures.ok))

pub returns-in-Number-2-clause-err : goal.returns-in-Number-2-clause-err
returns-in-Number-2-clause-err c =
    let table = c.args.self.now in
    on_err c.enter.result (λ same. each_id _
    (λ m. slot_same (nat_lt m table.bound) (get_or table.slots.items m None) (value_at c.enter.new.self (number m)) (value_at table.others (number m)) (same (number m)))
    (λ s. same (text s))) c.enter.ensures.err

pub returns-in-Text-clause-err : goal.returns-in-Text-clause-err
returns-in-Text-clause-err c =
    let table = c.args.self.now in
    on_err c.enter-in-Text.result (λ same. each_id _
    (λ m. slot_same (nat_lt m table.bound) (get_or table.slots.items m None) (value_at c.enter-in-Text.new.self (number m)) (value_at table.others (number m)) (same (number m)))
    (λ s. same (text s))) c.enter-in-Text.ensures.err
