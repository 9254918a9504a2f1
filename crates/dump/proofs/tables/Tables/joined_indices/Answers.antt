use Rattle.std.proofs.Common.{◌≡◌, ◌∙◌, ap, map, Some, rules}
use Rattle.lsif.specs.Element.{id_value, element_value}
use Rattle.dump.specs.declared.single.SingleLabel.TheVariants.{Next}
use Rattle.dump.specs.Steps.Ids.{index_at}
use Rattle.dump.specs.Walks.{single_of}
use Rattle.dump.proofs.Ends.{no_code}
use Rattle.dump.proofs.Shortcuts.{has_index, next_ends}
use Rattle.dump.proofs.tables.Tables.joined_indices.Goals as goal

pub returns-in_err-get-in-Some-Next-default-default : goal.returns-in_err-get-in-Some-Next-default-default
returns-in_err-get-in-Some-Next-default-default c =
    let d = map element_value c.args.elements.now in
    let x = element_value c.args.element.now in
    let a = id_value c.in-Some-Next-default-default.from.now in
    let b = id_value c.in-Some-Next-default-default.to.now in
    let named : single_of x ≡ Some (Next, (a, b)) = search rules in
    absurd (has_index d a c.get.result (c.get.ensures ∙ ap (index_at c.args.self.now.indices) c.lent.ensures ∙ c.requires.tables.elements a) (next_ends d x a b (no_code d x c.requires.free) named).0 c.in_err-get-in-Some-Next-default-default.was)

pub returns-in_err-get-in-Some-Next-default-default-2 : goal.returns-in_err-get-in-Some-Next-default-default-2
returns-in_err-get-in-Some-Next-default-default-2 c =
    let d = map element_value c.args.elements.now in
    let x = element_value c.args.element.now in
    let a = id_value c.in-Some-Next-default-default.from.now in
    let b = id_value c.in-Some-Next-default-default.to.now in
    let named : single_of x ≡ Some (Next, (a, b)) = search rules in
    absurd (has_index d b c.get-in-Some-Next-default-default.result (c.get-in-Some-Next-default-default.ensures ∙ ap (index_at c.args.self.now.indices) c.lent-in-Some-Next-default-default.ensures ∙ c.requires.tables.elements b) (next_ends d x a b (no_code d x c.requires.free) named).1 c.in_err-get-in-Some-Next-default-default-2.was)
