use Rattle.std.proofs.Common.{◌∙◌, ap, map, sym, option_map}
use Rattle.calls.specs.Call.{call_of, call_value}
use Rattle.calls.proofs.Calls.{entered, has_kind, refused, taken}
use Rattle.calls.proofs.call.read_words.Goals as goal

pub returns-in-Some-clause-call : goal.returns-in-Some-clause-call
returns-in-Some-clause-call g c =
    let words = map g.S.AsStr.text c.args.words.now in (
      taken _ words c.requires c.in-Ok.ensures.kinds,
      ap call_of (sym (entered _ words c.in-Ok.matches c.requires c.in-Ok.ensures.ok.2)) ∙ sym c.read_matches.ensures.call ∙ ap (option_map call_value) c.in-Some.is,
    )

pub returns-clause-fault : goal.returns-clause-fault
returns-clause-fault g c =
    let words = map g.S.AsStr.text c.args.words.now in
    refused words c.in-Err.error _ (has_kind _ words c.in-Err.error c.requires c.in-Err.ensures.kinds) c.from.ensures
