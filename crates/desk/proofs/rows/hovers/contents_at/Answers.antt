use Rattle.std.proofs.Common.{Bor, Global, Iter, ◌≡◌, ◌∙◌, inr, List, map, refl, sym, ap, subst, string_bytes, rules}
use Rattle.std.specs.Prelude.{Option, Some, None, String, option_map}
use Rattle.std.specs.Iterator.{PicksByCmp}
use Rattle.std.specs.List.{reduce}
use Rattle.std.specs.Ordering.{min_by_ordering}
use Rattle.std.specs.Slice.Iter.{iter_rest}
use Rattle.std.proofs.lemmas.Fn.{fronts}
use Rattle.std.proofs.lemmas.Iterator.{YieldsList-from_slice}
use Rattle.std.proofs.lemmas.Iterator.Consumers.{reduce_by_from_yields_List}
use Rattle.std.proofs.lemmas.Result.{IfOk-weaker}
use Rattle.lsif.specs.declared.request_kind.RequestKind.TheVariants as requests
use Rattle.machine.specs.Selections.{FindsHover, range_found}
use Rattle.desk.specs.Steps.RowHovers.{IsLeast, joined_cmp}
use Rattle.desk.specs.Steps.Rows.{AreKeys, IsRowJoined, joined_value}
use Rattle.desk.specs.declared.rows.bearers.JoinedBearer.{JoinedBearer}
use Rattle.desk.proofs.LeastRows.{least_reduced, lesser, now_lesser, row_joined}
use Rattle.desk.proofs.rows.hovers.contents_at.Goals as goal

picked : (s : Iter JoinedBearer) (r : Option (Bor JoinedBearer)) (xs : List JoinedBearer) → iter_rest s ≡ xs → PicksByCmp fronts min_by_ordering (λ x y. joined_cmp (joined_value x.now) (joined_value y.now)) s r
    → option_map (λ (y : Bor JoinedBearer). y.now) r ≡ reduce lesser xs
picked s r xs is ran =
    reduce_by_from_yields_List (λ x y. min_by_ordering (joined_cmp (joined_value x.now) (joined_value y.now)) x y) lesser s r (λ x y. now_lesser (joined_cmp (joined_value x.now) (joined_value y.now)) x y) ran (YieldsList-from_slice xs is)

pub returns-in-Some-min-clause-found : goal.returns-in-Some-min-clause-found
returns-in-Some-min-clause-found g c = λ s m stood.
    let row = range_found c.args.range.now in
    let own = c.args.own.now in
    let none : row.result ≡ None = search rules in
    let back = c.hover-in-Some-min.ensures.reads.reliable s in
    let before = c.joined_bearers.ensures.reads.reliable back in
    let keyed = subst (λ l. AreKeys m requests.Hover own row.line (map string_bytes l)) (sym c.deref.ensures.value) (c.in_ok-keys.ensures.found before m stood) in
    let stands = (c.in_ok-keys.ensures.reads.only before).state m stood in
    let mid = (c.in_ok-found.ensures.reads.only back).state m stands in
    let items = c.in_ok-found.found.items in
    let least = c.in-Some-min.row.now in
    let at : Some least ≡ reduce lesser items = sym (ap (option_map (λ (y : Bor JoinedBearer). y.now)) c.in-Some-min.is) ∙ picked c.iter.result c.min.result items (c.iter.ensures.rest ∙ c.deref-2.ensures.value) c.min.ensures.ran in
    let each = row_joined m requests.Hover own row (map string_bytes c.deref.result.now) keyed (c.in_ok-found.ensures.found back m stands) in
    let is = subst (λ o. IsLeast (IsRowJoined m requests.Hover own row) (option_map joined_value o)) (sym at) (least_reduced (IsRowJoined m requests.Hover own row) items each) in
    IfOk-weaker c.hover-in-Some-min.result _ _
    (λ o found. inr (none, (Some (joined_value least), is, subst (λ p. FindsHover m p least.number (option_map (λ (x : String Global). string_bytes x) o)) c.as_str.ensures.value found)))
    (c.hover-in-Some-min.ensures.found s m mid)

pub returns-clause-found : goal.returns-clause-found
returns-clause-found g c = λ s m stood.
    let row = range_found c.args.range.now in
    let own = c.args.own.now in
    let none : row.result ≡ None = search rules in
    let before = c.joined_bearers.ensures.reads.reliable s in
    let keyed = subst (λ l. AreKeys m requests.Hover own row.line (map string_bytes l)) (sym c.deref.ensures.value) (c.in_ok-keys.ensures.found before m stood) in
    let stands = (c.in_ok-keys.ensures.reads.only before).state m stood in
    let items = c.in_ok-found.found.items in
    let at : None ≡ reduce lesser items = sym (ap (option_map (λ (y : Bor JoinedBearer). y.now)) c.in-None.is) ∙ picked c.iter.result c.min.result items (c.iter.ensures.rest ∙ c.deref-2.ensures.value) c.min.ensures.ran in
    let each = row_joined m requests.Hover own row (map string_bytes c.deref.result.now) keyed (c.in_ok-found.ensures.found s m stands) in
    let is = subst (λ o. IsLeast (IsRowJoined m requests.Hover own row) (option_map joined_value o)) (sym at) (least_reduced (IsRowJoined m requests.Hover own row) items each) in
    inr (none, (None, is, refl))
