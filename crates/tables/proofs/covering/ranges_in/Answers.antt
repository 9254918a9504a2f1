use Rattle.std.proofs.Common.{◌≡◌, ◌++◌, ◌∙◌, [], ◌∷◌, map, rules, arith, ap, subst, sym, to_z-of_z}
use Rattle.std.specs.List.{AllZip}
use Rattle.sqlite.specs.Held.{state}
use Rattle.sqlite_rules.specs.Lists.{Has}
use Rattle.tables.specs.declared.slots.Part.TheVariants.{Dump}
use Rattle.tables.specs.Contents.{slot_row}
use Rattle.tables.specs.Stands.{StandsFor}
use Rattle.machine.specs.Selections.{FindsCover, range_found}
use Rattle.tables.specs.Steps.Climbs.{TellsRange, row_found}
use Rattle.tables.specs.TableTrees.{slot_tree}
use Rattle.tables.proofs.CoverLists.{covers_all, taken_all, told_at, told_next, rows_are}
use Rattle.tables.proofs.DumpEntries.{rows_of}
use Rattle.tables.proofs.Looking.{reads_failed, reads_then, still, survives_clean}
use Rattle.tables.proofs.Selecting.{of_all}
use Rattle.tables.proofs.covering.ranges_in.Goals as goal

pub loop-row-init : goal.loop-row-init
loop-row-init g c = rw (to_z-of_z c.ranges.slot) (record {
  reads = c.in_ok-rows.ensures.reads;
  cleans = λ clean. clean;
  found = λ clean has m s project dump slot is rows told are. ap (map range_found) c.new-found.ensures.items;
})

pub returns-in_err-range-clause-reads : goal.returns-in_err-range-clause-reads
returns-in_err-range-clause-reads g c = reads_failed (search rules) (reads_then c.loop-row.invariant.reads c.complete.ensures.reads)

pub returns-then-is_err-clause-reads : goal.returns-then-is_err-clause-reads
returns-then-is_err-clause-reads g c = reads_failed (search rules) (reads_then c.loop-row.invariant.reads c.complete.ensures.reads)

pub loop-row-preserved : goal.loop-row-preserved
loop-row-preserved g c = rw (to_z-of_z c.ranges.slot) (
    let old = state g.S.Store c.args.conn.now in
    let mid = state g.S.Store c.loop-row.conn in
    let new = state g.S.Store c.complete.new.conn in
    let was = c.loop-row.invariant in
    let range = c.in_ok-range.range in
    let pushed : c.push.new.self.items ≡ c.loop-row.found.items ++ range ∷ [] = search rules in
    record {
      reads = reads_then was.reads c.in_ok-range.ensures.reads;
      cleans = λ clean. was.cleans (survives_clean mid new c.complete.ensures.reads.looks clean);
      found = λ clean has m s project dump slot is rows told are.
          let it = told_at c.deref-row-items.result.now rows c.loop-row.row-index c.row-item.result told (omega (arith, c.loop-row-test.true)) in
          let r = it.0 in
          let tells : TellsRange c.row-item.result r = subst (λ x. TellsRange x r) (sym c.row-item.is) it.2 in
          let whole = still old mid new (λ db. StandsFor db m × Has (db slot_tree) (slot_row c.args.slot project Dump)) (λ db. range_found range ≡ row_found c.args.request r) was.reads.kept c.complete.ensures.reads.looks
          (λ cleaner schema known. (rw (to_z-of_z c.ranges.slot) at c.in_ok-range.ensures.whole) cleaner schema m known.0 project dump known.1 is r (of_all _ rows r are it.1) tells) clean has (s, slot) in
          let before = (rw (to_z-of_z c.ranges.slot) at was.found) (survives_clean mid new c.complete.ensures.reads.looks clean) has m s project dump slot is rows told are in
          ap (map range_found) pushed ∙ told_next c.args.request c.loop-row.found.items range rows r c.loop-row.row-index before whole it.3;
    })

pub returns-clause-found : goal.returns-clause-found
returns-clause-found g c clean has m s project dump slot is =
    let d = (rows_of (state g.S.Store c.args.conn.now).now.trees m s project dump is).2 in
    let was = c.loop-row.invariant in
    let uri = c.args.uri.now in
    let items = c.in_ok-rows.rows.items in
    let climbed = (rw (to_z-of_z c.ranges.slot) at c.in_ok-rows.ensures.climbed) (was.cleans clean) has m s project dump slot is in
    let told = subst (λ l. AllZip TellsRange l climbed.rows) (sym c.deref-row-items.ensures.value) climbed.told in
    let found = (rw (to_z-of_z c.ranges.slot) at was.found) clean has m s project dump slot is climbed.rows told (rows_are dump uri c.args.at items climbed) in
    let all = taken_all c.deref-row-items.result.now climbed.rows c.loop-row.row-index told (omega (arith, c.loop-row-test.false)) in
    subst (FindsCover c.args.request dump.elements uri c.args.at) (sym (found ∙ ap (map (row_found c.args.request)) all)) (covers_all dump uri c.args.at d.faultless d.flat d.is_flat c.args.request items climbed)
