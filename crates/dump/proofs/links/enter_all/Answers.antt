use Rattle.std.proofs.Common.{◌≡◌, ◌∙◌, ◌&&◌, ◌++◌, ◌∷◌, [], ap, refl, sym, subst, rules}
use Rattle.std.specs.Prelude.{is_some}
use Rattle.std.specs.List.{list_all}
use Rattle.lsif.specs.Lent.{lent_value}
use Rattle.dump.specs.Graph.{is_among}
use Rattle.dump.specs.Steps.Ids.{HasRows, entered, index_at}
use Rattle.dump.specs.Steps.Links.{same_link, link_at}
use Rattle.dump.proofs.Cells.{links_more, known_first, no_entry}
use Rattle.dump.proofs.Repeats.{one_passed, all_passed}
use Rattle.dump.proofs.links.enter_all.Goals as goal

pub loop-id-init : goal.loop-id-init
loop-id-init c =
    let same : c.into_iter-id-iterator.result ≡ c.args.ids = search rules in
    record {
      front = [];
      split = same;
      known = ap (list_all (λ i. is_some (index_at c.args.indices.now i))) same ∙ c.requires.known;
      length = refl;
      links = λ other i. sym (no_entry (same_link c.args.link other) c.args.index (link_at c.args.indices.now c.args.rows.now.items other i));
    }

pub enter_at-requires-clause-rows : goal.enter_at-requires-clause-rows
enter_at-requires-clause-rows c = subst (HasRows c.args.indices.now) (sym c.loop-id.invariant.length) c.requires.rows

pub enter_at-requires-clause-known : goal.enter_at-requires-clause-known
enter_at-requires-clause-known c =
    let next : c.loop-id.id-iterator ≡ lent_value c.in-Some.id ∷ c.next.new.self = search rules in
    (known_first c.args.indices.now c.loop-id.id-iterator c.next.new.self (lent_value c.in-Some.id) next c.loop-id.invariant.known).0

pub loop-id-preserved : goal.loop-id-preserved
loop-id-preserved c =
    let was = c.loop-id.invariant in
    let x = lent_value c.in-Some.id in
    let next : c.loop-id.id-iterator ≡ x ∷ c.next.new.self = search rules in
    record {
      front = was.front ++ x ∷ [];
      split = one_passed was.front c.next.new.self _ c.loop-id.id-iterator x next was.split;
      known = (known_first c.args.indices.now c.loop-id.id-iterator c.next.new.self x next was.known).1;
      length = c.enter_at.ensures.length ∙ was.length;
      links = λ other. links_more was.front x c.args.index (same_link c.args.link other)
          (link_at c.args.indices.now c.args.rows.now.items other) (link_at c.args.indices.now c.loop-id.rows.items other) (link_at c.args.indices.now c.enter_at.new.rows.items other)
          (was.links other) (c.enter_at.ensures.links other);
    }

pub returns-clause-links : goal.returns-clause-links
returns-clause-links c = λ other i.
    let was = c.loop-id.invariant in
    let end : c.loop-id.id-iterator ≡ [] = search rules in
    was.links other i ∙ ap (λ ids. entered (same_link c.args.link other && is_among i ids) c.args.index (link_at c.args.indices.now c.args.rows.now.items other i)) (all_passed was.front _ c.loop-id.id-iterator end was.split)
