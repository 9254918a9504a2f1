use Rattle.std.proofs.Common.{sym, subst, ap}
use Rattle.machine.specs.Uploads.{BodyValue, UploadValue, HasRead}
use Rattle.machine.proofs.upload.Upload.piece.Goals as goal

pub returns-clause-stands : goal.returns-clause-stands
returns-clause-stands c = λ body stands.
    let same = ap (λ (u : UploadValue). u.body) c.self.view_is in
    c.piece.ensures.stands body (subst (λ (b : BodyValue). HasRead b body) (sym same) stands)
