use Rattle.std.proofs.Common.{Some, map, ap, ◌∙◌}
use Rattle.serde_json.specs.Data.{Data}
use Rattle.serde_json.specs.View.{view}
use Rattle.serde_json.proofs.Views.{view-Array}
use Rattle.tables.proofs.TagFields.{items_read}
use Rattle.tables.proofs.found_tags.items_of.Goals as goal

pub returns-in-Array : goal.returns-in-Array
returns-in-Array c fields is =
    let items = map view c.in-Array.items.items in
    let seen = ap view c.in-Array.is ∙ view-Array c.in-Array.items in
    items_read fields c.args.text.now items is (c.in_ok-items.ensures ∙ ap (λ (d : Data). Some d) seen)
