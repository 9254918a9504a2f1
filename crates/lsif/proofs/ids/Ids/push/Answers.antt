use Rattle.std.proofs.Common.{◌≡◌, ◌∙◌, ◌≤◌, [], ◌∷◌, ◌++◌, string_bytes, rules, sym, ap, subst}
use Rattle.std.proofs.lemmas.Str.{IsUtf8-string_bytes}
use Rattle.lsif.specs.IdValues.{greatest_id, number}
use Rattle.lsif.specs.Steps.IdLists.{AreCut, ids_of}
use Rattle.lsif.specs.Lent.{lent_value}
use Rattle.lsif.proofs.IdLists.{number_more}
use Rattle.lsif.proofs.ids.Ids.push.Goals as goal

pub invariant_of-self : goal.invariant_of-self
invariant_of-self c =
    let entries = c.self.inside.entries.items in
    let texts = string_bytes c.self.inside.texts in
    let items : c.push.new.self.items ≡ entries ++ c.in-Number.n ∷ [] = search rules in
    let within : c.in-Number.n ≤ greatest_id = rw c.in-Number.is at c.requires in
    subst (λ l. AreCut l texts) (sym items) (number_more entries texts c.in-Number.n within (IsUtf8-string_bytes c.self.inside.texts) c.self.invariant).1

pub returns-in_ok-push-in-Number : goal.returns-in_ok-push-in-Number
returns-in_ok-push-in-Number c =
    let entries = c.self.inside.entries.items in
    let texts = string_bytes c.self.inside.texts in
    let items : c.push.new.self.items ≡ entries ++ c.in-Number.n ∷ [] = search rules in
    let within : c.in-Number.n ≤ greatest_id = rw c.in-Number.is at c.requires in
    let more = (number_more entries texts c.in-Number.n within (IsUtf8-string_bytes c.self.inside.texts) c.self.invariant).0 in
    ap (λ l. ids_of l texts) items ∙ more ∙ ap (λ l. l ++ number c.in-Number.n ∷ []) c.self.view_is ∙ ap (λ i. c.args.self.now ++ lent_value i ∷ []) (sym c.in-Number.is)
