use Rattle.std.proofs.Common.{◌∙◌, ◌++◌, map, ap, subst}
use Rattle.flatten.specs.Flat.{item_cmp}
use Rattle.flatten.specs.Rows.{item_value}
use Rattle.flatten.specs.Steps.Items.{IsReachedRow, found_value}
use Rattle.flatten.specs.Steps.Tables.{Adds}
use Rattle.flatten.proofs.ItemListings.{listed_of}
use Rattle.flatten.proofs.items.add_listed.Goals as goal

pub returns : goal.returns
returns c =
    let P = IsReachedRow c.args.number c.args.items.now in
    let rows = map found_value c.add_result.new.rows.items in
    let more = map found_value c.list_items.new.rows.items in
    record {
      more = more;
      listed = listed_of item_cmp P rows more (subst (λ l. Adds (map found_value l) P rows) c.new-found.ensures.items c.in_ok-add_result.ensures.rows) c.list_items.ensures;
      grown = c.in_ok-add_item_rows.ensures ∙ ap (λ l. map item_value c.args.rows.now.items ++ map found_value l) c.deref.ensures.value;
    }
