use Rattle.std.proofs.Common.{◌≡◌, ◌++◌, [], ◌∷◌, ℕ, List, rules, arith}
use Rattle.dump.specs.Places.{PlaceValue}
use Rattle.streams.proofs.Members.{nil_of}
use Rattle.machine.specs.Selections.{item_found}
use Rattle.machine.specs.Reply.{FoundPlace}
use Rattle.machine.specs.Steps.Places.{found_in}
use Rattle.desk.specs.Steps.RowPlaces.{item_place}
use Rattle.desk.specs.declared.rows.places.ItemPlace.{ItemPlace}
use Rattle.desk.proofs.Finding.{iff_refl, iff_sym, iff_trans, or_none}
use Rattle.desk.proofs.Popped.{none_left, pop_adds}
use Rattle.desk.proofs.rows.places.add_items.Goals as goal

abbrev Makes : List ℕ → PlaceValue → FoundPlace → Type 0
Makes project item place = found_in project item ≡ place

pub loop-item-preserved : goal.loop-item-preserved
loop-item-preserved c = λ place.
    let item = c.in-Some.item in
    let made : ItemPlace = record { project = c.args.project; uri = item.uri; span = item.span } in
    let popped : c.loop-item.items.items ≡ c.pop.new.self.items ++ item ∷ [] = search rules in
    let pushed : c.push.new.self.items ≡ c.loop-item.found.items ++ made ∷ [] = search rules in
    pop_adds item_found item_place (Makes c.args.project.now) c.loop-item.items.items c.pop.new.self.items item popped c.loop-item.found.items c.push.new.self.items made place _ pushed iff_refl (c.loop-item.invariant place)

pub returns : goal.returns
returns c = λ place.
    let empty = nil_of c.loop-item.items.items (omega (arith, c.loop-item.items.ok.0, c.in_default.ensures.cases.0)) in
    iff_trans (iff_sym (or_none (none_left item_found (Makes c.args.project.now) c.loop-item.items.items place empty))) (c.loop-item.invariant place)
