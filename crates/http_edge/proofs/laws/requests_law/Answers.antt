use Rattle.http_edge.proofs.OneLists.{one_list, one_sure}
use Rattle.http_edge.proofs.laws.requests_law.Goals as goal

pub returns-clause-requests : goal.returns-clause-requests
returns-clause-requests c = one_list

pub returns-clause-sure : goal.returns-clause-sure
returns-clause-sure c = one_sure
