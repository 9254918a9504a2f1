use Rattle.std.proofs.Common.{◌≡◌, ◌∙◌, ap, ap₂}
use Rattle.std.proofs.lemmas.Result.{IfOk-at_ok, IfOk-weaker}
use Rattle.clap.specs.Words.{App, app_of, with_subcommand}
use Rattle.clap.proofs.SimpleLemmas.{plain_fields}
use Rattle.calls.proofs.command_line.add.Goals as goal

pub returns : goal.returns
returns c before added of_program of_added plain =
    let is_added = IfOk-at_ok (λ s. app_of s ≡ added) c.in_ok-added.was of_added in
    let is_before = IfOk-at_ok (λ s. app_of s ≡ before) c.in_ok-program.was of_program in
    let local = (plain_fields c.in_ok-added.added (ap (λ (a : App). a.top.is_plain) is_added ∙ plain)).globals in
    IfOk-weaker c.subcommand.result _ _
    (λ m h. h.shape local ∙ ap₂ with_subcommand is_before (ap (λ (a : App). a.top) is_added))
    c.subcommand.ensures
