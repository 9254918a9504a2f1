use Rattle.std.proofs.Common.{◌≡◌, ◌&&◌, ◌++◌, List, true, length}
use Rattle.std.specs.Prelude.{is_some}
use Rattle.std.specs.List.{list_all}
use Rattle.lsif.specs.Element.{IdValue}
use Rattle.dump.specs.Graph.{is_among}
use Rattle.dump.specs.Steps.Ids.{entered, index_at}
use Rattle.dump.specs.Steps.Links.{same_link, link_at}
use Rattle.dump.specs.declared.links.Link.{Link}
use Rattle.dump.proofs.links.enter_all.Given as goal

abbrev pub invariant-loop-id : goal.invariant-loop-id
invariant-loop-id l = record {
  front : List IdValue;
  split : front ++ l.id-iterator ≡ l.fn.ids;
  known : list_all (λ i. is_some (index_at l.indices i)) l.id-iterator ≡ true;
  length : length l.rows.items ≡ length l.fn.rows.items;
  links : (other : Link) (i : IdValue) → link_at l.indices l.rows.items other i ≡ entered (same_link l.link other && is_among i front) l.index (link_at l.indices l.fn.rows.items other i);
}
