use Rattle.std.proofs.Common.{◌≡◌, ◌∙◌, ◌++◌, ◌∷◌, [], nat_eq, true, sym, ap, subst}
use Rattle.std.specs.List.{list_any}
use Rattle.flatten.specs.Steps.Found.{Gains}
use Rattle.flatten.proofs.Gaining.{not_false, gains_new, gains_known}
use Rattle.flatten.proofs.found.Found.add.Goals as goal

pub returns-then-branch : goal.returns-then-branch
returns-then-branch c =
    let n = c.args.number in
    let pushed : c.push_reserved.new.self.items ≡ c.args.self.now ++ n ∷ [] = c.push_reserved.ensures.items ∙ ap (λ xs. xs ++ n ∷ []) (c.reserve.ensures.items ∙ c.self.view_is) in
    subst (Gains c.args.self.now (n ∷ [])) (sym pushed) (gains_new c.args.self.now n)

pub returns-else-branch : goal.returns-else-branch
returns-else-branch c =
    let n = c.args.number in
    let known : list_any (nat_eq n) c.args.self.now ≡ true = ap (list_any (nat_eq n)) (sym c.self.view_is) ∙ sym (c.self.invariant n) ∙ not_false _ (sym c.in_ok-insert.ensures.added ∙ c.if-branch.false) in
    subst (Gains c.args.self.now (n ∷ [])) (sym (c.reserve.ensures.items ∙ c.self.view_is)) (gains_known c.args.self.now n known)
