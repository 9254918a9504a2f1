use Rattle.std.proofs.Common.{◌≡◌, ◌++◌, [], ◌∷◌, map, option_map, rules, arith}
use Rattle.sqlite.specs.Held.{state}
use Rattle.streams.proofs.Members.{nil_of}
use Rattle.tables.specs.Stands.{StandsFor}
use Rattle.machine.specs.Found.{tag_found}
use Rattle.tables.specs.Steps.TagRows.{IsFoundIf, TellsTag}
use Rattle.tables.proofs.Looking.{reads_failed, reads_then, still, survives_clean}
use Rattle.tables.proofs.ToldTags.{finds_one, finds_all}
use Rattle.tables.proofs.found_tags.complete_all.Goals as goal

pub returns-in_err-tag-clause-reads : goal.returns-in_err-tag-clause-reads
returns-in_err-tag-clause-reads g c = reads_failed (search rules) (reads_then c.loop-row.invariant.reads c.complete.ensures.reads)

pub returns-in_err-push_some-clause-reads : goal.returns-in_err-push_some-clause-reads
returns-in_err-push_some-clause-reads g c = reads_failed (search rules) (reads_then c.loop-row.invariant.reads c.complete.ensures.reads)

pub loop-row-preserved : goal.loop-row-preserved
loop-row-preserved g c =
    let old = state g.S.Store c.args.conn.now in
    let mid = state g.S.Store c.loop-row.conn in
    let new = state g.S.Store c.complete.new.conn in
    let was = c.loop-row.invariant in
    let asked = option_map (λ p. p.now) c.args.asked in
    let tag = c.in_ok-tag.tag in
    let row = c.in-Some.row in
    let popped : c.loop-row.left.items ≡ c.pop.new.self.items ++ row ∷ [] = search rules in
    record {
      reads = reads_then was.reads c.in_ok-tag.ensures.reads;
      named = c.in_ok-tag.ensures.named;
      finds = λ clean has m s told.
          finds_one old.now.trees m asked c.args.rows.items c.loop-row.left.items c.pop.new.self.items row popped told tag c.loop-row.found.items c.push_some.new.found.items (search rules)
          (λ v t. still old mid new (λ db. StandsFor db m × TellsTag db m row v) (λ db. IsFoundIf asked v tag) was.reads.kept c.complete.ensures.reads.looks
          (λ cleaner schema known. c.in_ok-tag.ensures.whole cleaner schema m known.0 v known.1) clean has (s, t))
          (was.finds (survives_clean mid new c.complete.ensures.reads.looks clean) has m s told);
    }

pub returns-clause-found : goal.returns-clause-found
returns-clause-found g c clean has m s told =
    let empty = nil_of c.loop-row.left.items (omega (arith, c.loop-row.left.ok.0, c.in_default.ensures.cases.0)) in
    finds_all (state g.S.Store c.args.conn.now).now.trees m (option_map (λ p. p.now) c.args.asked) c.args.rows.items c.loop-row.left.items (map tag_found c.loop-row.found.items) empty (c.loop-row.invariant.finds clean has m s told)
