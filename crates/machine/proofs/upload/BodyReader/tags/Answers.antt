use Rattle.std.specs.Prelude.{◌≡◌, []}
use Rattle.std.proofs.lemmas.Result.{IfOk-weaker}
use Rattle.machine.specs.Uploads.{HasRead, empty, tags_lines}
use Rattle.machine.proofs.Standing.{empty_reader}
use Rattle.machine.proofs.upload.BodyReader.tags.Goals as goal

pub returns-clause-stands : goal.returns-clause-stands
returns-clause-stands c =
    let reader = c.new-reader.result in
    IfOk-weaker c.new.result (λ b. b ≡ empty (tags_lines reader)) (λ b. HasRead b []) (λ b is. empty_reader reader b c.new-reader.ensures is) c.new.ensures
