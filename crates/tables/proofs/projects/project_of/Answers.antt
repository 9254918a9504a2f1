use Rattle.std.proofs.Common.{rules, ◌≡◌, ◌∙◌, is_some, string_bytes}
use Rattle.sqlite.specs.Held.{state}
use Rattle.tables.specs.Stands.{StandsFor}
use Rattle.tables.proofs.Looking.{reads_failed, reads_then, still, survives_clean}
use Rattle.tables.proofs.ProjectNames.{told_dump, told_tags}
use Rattle.tables.proofs.projects.project_of.Goals as goal

pub returns-in_err-tags-clause-reads : goal.returns-in_err-tags-clause-reads
returns-in_err-tags-clause-reads g c = reads_failed (search rules) (reads_then c.in_ok-dump.ensures.reads c.has_part-2.ensures.reads)

pub returns-then-not-tags-clause-reads : goal.returns-then-not-tags-clause-reads
returns-then-not-tags-clause-reads g c = reads_failed (search rules) (reads_then c.in_ok-dump.ensures.reads c.has_part-2.ensures.reads)

pub returns-clause-reads : goal.returns-clause-reads
returns-clause-reads g c = reads_then c.in_ok-dump.ensures.reads c.in_ok-tags.ensures.reads

pub returns-clause-told : goal.returns-clause-told
returns-clause-told g c clean has m s =
    let old = state g.S.Store c.args.conn.now in
    let mid = state g.S.Store c.has_part.new.conn in
    let new = state g.S.Store c.has_part-2.new.conn in
    let name = string_bytes c.args.name in
    let second = rw c.as_str-2.ensures.value at c.in_ok-tags.ensures.part in (
      (rw c.as_str.ensures.value at c.in_ok-dump.ensures.part) (survives_clean mid new c.has_part-2.ensures.reads.looks clean) has s.parts _ s.keeps ∙ told_dump old.now.trees m s name,
      still old mid new (λ db. StandsFor db m) (λ db. c.in_ok-tags.tags ≡ is_some (m.tags name)) c.in_ok-dump.ensures.reads.kept c.has_part-2.ensures.reads.looks
          (λ cleaner schema stands. second cleaner schema stands.parts _ stands.keeps ∙ told_tags mid.now.trees m stands name) clean has s,
    )
