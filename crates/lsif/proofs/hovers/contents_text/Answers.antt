use Rattle.std.proofs.Common.{◌∙◌, sym, ap, Some, option_map}
use Rattle.serde_json.specs.View.{view}
use Rattle.serde_json.specs.Written.{compact_text}
use Rattle.lsif.proofs.Floats.{contents_plain}
use Rattle.lsif.proofs.hovers.contents_text.Goals as goal

pub returns : goal.returns
returns c =
    let some = rw c.in-Some.is at c.in_ok-kept.ensures in
    let plain = contents_plain (view c.args.value.now) (view c.in-Some.kept) (sym some) in
    ap Some (c.in_ok-to_string.ensures.text plain) ∙ ap (option_map compact_text) some
