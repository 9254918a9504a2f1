use Rattle.std.proofs.Common.{◌≡◌, ◌∙◌, ◌++◌, ◌∷◌, [], List, map, sym, ap, subst}
use Rattle.std.proofs.lemmas.List.{map-append}
use Rattle.lsif.specs.Element.{id_value}
use Rattle.flatten.specs.declared.chains.VertexAlong.{VertexAlong}
use Rattle.flatten.specs.Flat.{number_of}
use Rattle.flatten.specs.Steps.Chains.{AreFound, vertex_along_value}
use Rattle.flatten.proofs.ChainWalks.{found_more}
use Rattle.flatten.proofs.NumberPairs.{number_ones}
use Rattle.flatten.proofs.chains.Chains.keep.Goals as goal

grown : (old new : List VertexAlong) (v : VertexAlong) → new ≡ old ++ v ∷ [] → map vertex_along_value new ≡ map vertex_along_value old ++ vertex_along_value v ∷ []
grown old new v is = ap (map vertex_along_value) is ∙ map-append vertex_along_value old (v ∷ [])

pub returns-in_ok-set_place-clause-chains : goal.returns-in_ok-set_place-clause-chains
returns-in_ok-set_place-clause-chains c =
    let d = c.args.self.now.dump.now.elements in
    let borne = c.args.self.now.borne.items in
    let found = c.args.self.now.found.items in
    let v : VertexAlong = record { vertex = c.in-Some.number; along = c.args.along } in
    record {
      sorted = c.requires.chains.sorted;
      found = subst (AreFound d borne) (sym (grown found c.push.new.self.items v c.in_ok-push.ensures.items))
          (found_more d borne (map vertex_along_value found) (number_ones d (c.line_law.ensures.one d)) c.requires.chains.found (id_value c.args.vertex.now) (vertex_along_value v) c.requires.along (ap (number_of d) (sym c.lent.ensures) ∙ sym c.in-Some.ensures));
    }
