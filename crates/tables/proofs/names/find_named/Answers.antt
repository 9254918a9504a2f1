use Rattle.std.proofs.Common.{rules, ◌≡◌, List, ℕ, map, option_map, ◌↔◌, Contains}
use Rattle.sqlite.specs.Held.{state}
use Rattle.dump.proofs.Listing.{same_listing}
use Rattle.tables.specs.Stands.{StandsFor}
use Rattle.machine.specs.FoundTags.{FoundTag, IsAsked, line_cmp}
use Rattle.machine.specs.Found.{tag_found}
use Rattle.tables.specs.Steps.TagRows.{AllTell, IsTold}
use Rattle.tables.proofs.Looking.{reads_failed, reads_then, still, survives_clean}
use Rattle.tables.proofs.ToldTags.{all_tell, named_are, one_told}
use Rattle.tables.proofs.names.find_named.Goals as goal

pub returns-in_err-found-clause-reads : goal.returns-in_err-found-clause-reads
returns-in_err-found-clause-reads g c = reads_failed (search rules) (reads_then c.in_ok-rows.ensures.reads c.complete_all.ensures.reads)

pub returns-in_err-list_by_line-clause-reads : goal.returns-in_err-list_by_line-clause-reads
returns-in_err-list_by_line-clause-reads g c = reads_failed (search rules) (reads_then c.in_ok-rows.ensures.reads c.complete_all.ensures.reads)

pub returns-clause-reads : goal.returns-clause-reads
returns-clause-reads g c = reads_then c.in_ok-rows.ensures.reads c.in_ok-found.ensures.reads

pub returns-clause-found : goal.returns-clause-found
returns-clause-found g c clean has m s =
    let old = state g.S.Store c.args.conn.now in
    let mid = state g.S.Store c.select_named.new.conn in
    let new = state g.S.Store c.complete_all.new.conn in
    let asked = option_map (λ p. p.now) c.args.asked in
    let rows = c.in_ok-rows.rows.items in
    let found = map tag_found c.in_ok-found.found.items in
    let IsNamed = λ (text : List ℕ). text ≡ c.args.name.now in
    let told = c.in_ok-rows.ensures.rows (survives_clean mid new c.complete_all.ensures.reads.looks clean) has m s in
    let each = still old mid new (λ db. StandsFor db m × AllTell db m rows) (λ db. (v : FoundTag) → Contains found v ↔ (IsTold db m rows v × IsAsked asked v.project)) c.in_ok-rows.ensures.reads.kept c.complete_all.ensures.reads.looks
    (λ cleaner schema known. c.in_ok-found.ensures.found cleaner schema m known.0 known.1) clean has (s, all_tell old.now.trees m asked IsNamed rows told) in
    same_listing line_cmp _ _ (map tag_found c.list_by_line.new.found.items) (named_are old.now.trees m asked IsNamed rows found told (one_told old.now.trees m s) each) c.in_ok-list_by_line.ensures
