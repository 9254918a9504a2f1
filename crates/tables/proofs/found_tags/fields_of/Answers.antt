use Rattle.std.proofs.Common.{◌≡◌, ◌∷◌, [], ◌++◌, List, map, length, sym, ap, subst, ◌∙◌, append_assoc, append-nil, arith, rules}
use Rattle.std.specs.Vec.Iter.{into_iter_items}
use Rattle.serde_json.specs.View.{view}
use Rattle.serde_json.specs.declared.value.Value.{Value}
use Rattle.streams.proofs.Members.{nil_of}
use Rattle.tables.proofs.TagFields.{AreFields, are_fields_push, fields_are}
use Rattle.tables.proofs.found_tags.fields_of.Goals as goal

pub loop-item-preserved : goal.loop-item-preserved
loop-item-preserved c =
    let at = c.loop-item in
    let item = c.in-Some.item in
    let steps : into_iter_items at.item-iterator ≡ item ∷ into_iter_items c.next.new.self = c.in-Some.ensures.steps.0 in
    let pushed : c.push.new.self.items ≡ at.found.items ++ c.in_ok-field.field ∷ [] = search rules in
    record {
      all = append_assoc at.yielded (item ∷ []) _ ∙ rw (← steps) at.invariant.all;
      fields = subst (AreFields (at.yielded ++ item ∷ [])) (sym pushed) (are_fields_push at.yielded at.found.items item c.in_ok-field.field at.invariant.fields c.in_ok-field.ensures);
      left = let was = at.invariant.left in let gone = c.in-Some.ensures.steps.1 in let short = ap length steps in omega arith;
    }

pub returns : goal.returns
returns c fields is =
    let at = c.loop-item in
    let none = c.in-None.ensures.steps in
    let empty : into_iter_items at.item-iterator ≡ [] = nil_of _ (sym at.invariant.left ∙ none.0) in
    let all = sym (append-nil at.yielded) ∙ rw empty at at.invariant.all ∙ c.into_iter-item-iterator.ensures.into_iter_gives.0 in
    fields_are at.yielded at.found.items fields at.invariant.fields (ap (λ (l : List Value). map view l) all ∙ c.in_ok-items.ensures fields is)
