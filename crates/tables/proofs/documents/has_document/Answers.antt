use Rattle.std.proofs.Common.{to_z-of_z, sym, subst, IsTrue, ◌↔◌}
use Rattle.sqlite.specs.Held.{state}
use Rattle.dump.specs.Places.{HasDocument}
use Rattle.tables.proofs.Select.{reads}
use Rattle.tables.proofs.FoundDocuments.{select_document_is, document_found}
use Rattle.tables.proofs.documents.has_document.Goals as goal

pub select_first-requires : goal.select_first-requires
select_first-requires g c = reads select_document_is

pub returns-clause-found : goal.returns-clause-found
returns-clause-found g c clean has m s project dump slot there =
    let old = state g.S.Store c.args.conn.now in
    let new = state g.S.Store c.select_first.new.conn in
    let h = c.in_ok-found.ensures.read clean in
    subst (λ b. IsTrue b ↔ HasDocument dump.elements c.args.uri.now) (sym c.is_some.ensures)
    (document_found c.args.uri.now m c.args.slot project dump old new h.0 c.in_ok-found.found s has slot there (rw (c.params-to_sql.ensures, c.params-to_sql-2.ensures, to_z-of_z c.ranges.slot) at h.1) h.2)
