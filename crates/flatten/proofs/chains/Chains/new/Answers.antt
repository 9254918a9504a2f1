use Rattle.std.proofs.Common.{map, sym, subst}
use Rattle.flatten.specs.Steps.Chains.{AreFound, vertex_along_value}
use Rattle.flatten.proofs.ChainWalks.{found_first}
use Rattle.flatten.proofs.chains.Chains.new.Goals as goal

pub returns-clause-chains : goal.returns-clause-chains
returns-clause-chains c =
    let d = c.args.dump.now.elements in
    let borne = c.args.borne.items in
    record { sorted = c.requires; found = subst (λ l. AreFound d borne (map vertex_along_value l)) (sym c.in_ok-with_capacity.ensures.items) (found_first d borne) }
