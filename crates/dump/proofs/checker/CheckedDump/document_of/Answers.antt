use Rattle.lsif.specs.Element.{id_value}
use Rattle.dump.proofs.Documents.{finds, finds_only, finds_none}
use Rattle.dump.proofs.checker.CheckedDump.document_of.Goals as goal

pub returns-clause-some : goal.returns-clause-some
returns-clause-some c = rw (← c.self.view_is) (finds (λ i. id_value i.now) c.self.inside.graph c.self.invariant.1 c.args.uri.now c.document_of.result c.document_of.ensures)

pub returns-clause-only : goal.returns-clause-only
returns-clause-only c = rw (← c.self.view_is) (finds_only (λ i. id_value i.now) c.self.inside.graph c.self.invariant.1 c.args.uri.now c.document_of.result c.document_of.ensures)

pub returns-clause-none : goal.returns-clause-none
returns-clause-none c = rw (← c.self.view_is) (finds_none (λ i. id_value i.now) c.self.inside.graph c.self.invariant.1 c.args.uri.now c.document_of.result c.document_of.ensures)
