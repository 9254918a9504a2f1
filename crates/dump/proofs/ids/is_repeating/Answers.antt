use Rattle.std.proofs.Common.{◌≡◌, ◌∙◌, ◌++◌, ◌∷◌, [], true, false, ap, refl, sym, rules}
use Rattle.std.specs.Prelude.{is_some}
use Rattle.lsif.specs.Lent.{lent_value}
use Rattle.dump.specs.Graph.{has_repeated}
use Rattle.dump.specs.Steps.Ids.{value_at}
use Rattle.dump.proofs.Repeats.{again-hit, repeated_push, seen_more, one_passed, all_passed}
use Rattle.dump.proofs.ids.is_repeating.Goals as goal

pub loop-id-init : goal.loop-id-init
loop-id-init c =
    let same : c.into_iter-id-iterator.result ≡ c.args.ids = search rules in
    record { front = []; split = same; seen = λ i. ap is_some (c.new-seen.ensures i); none = refl }

pub returns-then-is_some : goal.returns-then-is_some
returns-then-is_some c =
    let was = c.loop-id.invariant in
    let x = lent_value c.in-Some.id in
    let next : c.loop-id.id-iterator ≡ x ∷ c.next.new.self = search rules in
    let has : is_some (value_at c.loop-id.seen x) ≡ true = ap is_some (sym c.in_ok-insert.ensures.old) ∙ sym c.is_some.ensures ∙ c.if-is_some.true in
    again-hit was.front c.next.new.self _ c.loop-id.id-iterator x next was.split (sym (was.seen x) ∙ has)

pub loop-id-preserved : goal.loop-id-preserved
loop-id-preserved c =
    let was = c.loop-id.invariant in
    let x = lent_value c.in-Some.id in
    let next : c.loop-id.id-iterator ≡ x ∷ c.next.new.self = search rules in
    let has : is_some (value_at c.loop-id.seen x) ≡ false = ap is_some (sym c.in_ok-insert.ensures.old) ∙ sym c.is_some.ensures ∙ c.if-is_some.false in
    record {
      front = was.front ++ x ∷ [];
      split = one_passed was.front c.next.new.self _ c.loop-id.id-iterator x next was.split;
      seen = seen_more was.front x _ (value_at c.loop-id.seen) (value_at c.insert.new.self) was.seen c.in_ok-insert.ensures.ok;
      none = repeated_push was.front x was.none (sym (was.seen x) ∙ has);
    }

pub returns : goal.returns
returns c =
    let was = c.loop-id.invariant in
    let end : c.loop-id.id-iterator ≡ [] = search rules in
    sym was.none ∙ ap has_repeated (all_passed was.front _ c.loop-id.id-iterator end was.split)
