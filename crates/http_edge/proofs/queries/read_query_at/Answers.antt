use Rattle.http_edge.proofs.RequestLemmas.{query_of_place}
use Rattle.http_edge.proofs.queries.read_query_at.Goals as goal

pub returns-in_default : goal.returns-in_default
returns-in_default c = rw (query_of_place c.args.kind c.args.project.now c.args.parameters.now c.in_default.not-References) c.read_position_query.ensures
