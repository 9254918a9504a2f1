use Rattle.std.proofs.Common.{◌≢◌, rules, length, map, to_z-of_z}
use Rattle.std.proofs.lemmas.List.{length-map}
use Rattle.sqlite.specs.Held.{state}
use Rattle.sqlite_rules.specs.Lists.{Has}
use Rattle.tables.specs.declared.slots.Part.TheVariants.{Dump}
use Rattle.tables.specs.Contents.{slot_row}
use Rattle.machine.specs.Selections.{range_found}
use Rattle.tables.specs.Stands.{StandsFor}
use Rattle.tables.specs.TableTrees.{slot_tree}
use Rattle.tables.proofs.CoverLists.{document_covered}
use Rattle.tables.proofs.DumpEntries.{dump_slot}
use Rattle.tables.proofs.Looking.{reads_failed, reads_then, still}
use Rattle.tables.proofs.covering.covering_in.Goals as goal

pub returns-in_err-has_document-clause-reads : goal.returns-in_err-has_document-clause-reads
returns-in_err-has_document-clause-reads g c = reads_failed (search rules) (reads_then c.in_ok-ranges.ensures.reads c.has_document.ensures.reads)

pub returns-then-not-is_empty-clause-found : goal.returns-then-not-is_empty-clause-found
returns-then-not-is_empty-clause-found g c clean has m s project slot =
    let d = dump_slot (state g.S.Store c.args.conn.now).now.trees m s project c.args.slot slot in
    let found = (rw (to_z-of_z c.ranges.slot) at c.in_ok-ranges.ensures.found) clean has m s project d.0 slot d.1 in
    let some : length c.in_ok-ranges.ranges.items ≢ 0 = search rules in
    (d.0, d.1, document_covered c.args.request d.0.elements c.args.uri.now c.args.at (map range_found c.in_ok-ranges.ranges.items) found (rw (length-map c.in_ok-ranges.ranges.items range_found) some), found)

pub returns-else-branch-clause-found : goal.returns-else-branch-clause-found
returns-else-branch-clause-found g c clean has m s project slot =
    let old = state g.S.Store c.args.conn.now in
    let mid = state g.S.Store c.ranges_in.new.conn in
    let new = state g.S.Store c.has_document.new.conn in
    let d = dump_slot old.now.trees m s project c.args.slot slot in (
      d.0,
      d.1,
      λ is. still old mid new (λ db. StandsFor db m × Has (db slot_tree) (slot_row c.args.slot project Dump)) (λ db. ⊥) c.in_ok-ranges.ensures.reads.kept c.has_document.ensures.reads.looks
          (λ cleaner schema known.
          let there = (rw (to_z-of_z c.ranges.slot) at c.in_ok-has_document.ensures.found) cleaner schema m known.0 project d.0 known.1 d.1 in
          search (there, is, rules)) clean has (s, slot),
    )
