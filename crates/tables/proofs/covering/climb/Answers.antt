use Rattle.std.proofs.Common.{◌≡◌, ◌++◌, Some, None, [], ◌∷◌, rules, subst, to_z-of_z}
use Rattle.sqlite.specs.Held.{state}
use Rattle.sqlite_rules.specs.Lists.{Has}
use Rattle.positions.specs.Span.{Covers}
use Rattle.tables.specs.declared.slots.Part.TheVariants.{Dump}
use Rattle.tables.specs.Contents.{slot_row}
use Rattle.tables.specs.Stands.{StandsFor}
use Rattle.tables.specs.Steps.Climbs.{IsNamed}
use Rattle.tables.specs.TableTrees.{slot_tree}
use Rattle.tables.proofs.Climbing.{ClimbsTo, begins, takes, passes, ended}
use Rattle.tables.proofs.DumpEntries.{rows_of}
use Rattle.tables.proofs.Looking.{reads_failed, reads_then, still, survives_clean}
use Rattle.tables.proofs.covering.climb.Goals as goal
use Rattle.tables.proofs.covering.climb.Goals.{else-covers-via-then-covers+else-is_err, else-covers-via-else-covers}

pub loop-next-init : goal.loop-next-init
loop-next-init g c = rw (to_z-of_z c.ranges.slot) (record {
  reads = c.in_ok-next.ensures.reads;
  climbs = λ clean has m s project dump slot is.
      let d = (rows_of (state g.S.Store c.args.conn.now).now.trees m s project dump is).2 in
      rw c.new-found.ensures.items (begins dump c.args.uri.now c.args.at d.faultless d.flat d.is_flat c.in_ok-next.next ((rw (to_z-of_z c.ranges.slot) at c.in_ok-next.ensures.start) clean has m s project dump slot is));
})

pub returns-in_err-next-2-clause-reads : goal.returns-in_err-next-2-clause-reads
returns-in_err-next-2-clause-reads g c = reads_failed (search rules) (reads_then c.loop-next.invariant.reads c.parent_of.ensures.reads)

pub returns-then-is_err-clause-reads : goal.returns-then-is_err-clause-reads
returns-then-is_err-clause-reads g c = reads_failed (search rules) (reads_then c.loop-next.invariant.reads c.parent_of.ensures.reads)

pub loop-next-preserved : goal.loop-next-preserved
loop-next-preserved g c = rw (to_z-of_z c.ranges.slot) (
    let old = state g.S.Store c.args.conn.now in
    let mid = state g.S.Store c.loop-next.conn in
    let new = state g.S.Store c.parent_of.new.conn in
    let was = c.loop-next.invariant in
    let range = c.in-Some.range in
    let next = c.in_ok-next-2.next in
    let found = c.loop-next.found.items in
    let uri = c.args.uri.now in
    let at_range : c.loop-next.next ≡ Some range = search rules in
    record {
      reads = reads_then was.reads c.in_ok-next-2.ensures.reads;
      climbs = λ clean has m s project dump slot is.
          let d = (rows_of old.now.trees m s project dump is).2 in
          let named = still old mid new (λ db. StandsFor db m × Has (db slot_tree) (slot_row c.args.slot project Dump)) (λ db. IsNamed dump uri range next) was.reads.kept c.parent_of.ensures.reads.looks
          (λ cleaner schema known. (rw (to_z-of_z c.ranges.slot) at c.in_ok-next-2.ensures.named) cleaner schema m known.0 project dump known.1 is) clean has (s, slot) in
          let here = subst (ClimbsTo dump uri c.args.at found) at_range ((rw (to_z-of_z c.ranges.slot) at was.climbs) (survives_clean mid new c.parent_of.ensures.reads.looks clean) has m s project dump slot is) in
          elim c.else-covers.branch [
            | else-covers-via-then-covers+else-is_err w ↦
                let pushed : c.else-covers.found.items ≡ found ++ range ∷ [] = search rules in
                let covers : Covers range.span c.args.at = search rules in
                rw pushed (takes dump uri c.args.at d.faultless d.flat d.is_flat found range next here named covers)
            | else-covers-via-else-covers w ↦
                let same : c.else-covers.found.items ≡ found = search rules in
                let short : Covers range.span c.args.at → ⊥ = search rules in
                rw same (passes dump uri c.args.at d.faultless d.flat d.is_flat found range next here named short)
          ];
    })

pub returns-clause-climbed : goal.returns-clause-climbed
returns-clause-climbed g c clean has m s project dump slot is =
    let d = (rows_of (state g.S.Store c.args.conn.now).now.trees m s project dump is).2 in
    let at_end : c.loop-next.next ≡ None = search rules in
    let was = (rw (to_z-of_z c.ranges.slot) at c.loop-next.invariant.climbs) clean has m s project dump slot is in
    ended dump c.args.uri.now c.args.at d.faultless d.flat d.is_flat c.loop-next.found.items (subst (ClimbsTo dump c.args.uri.now c.args.at c.loop-next.found.items) at_end was)
