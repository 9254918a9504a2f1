-- A kind of request is known by its number, and each is listed.
use Rattle.std.proofs.Common.{◌≡◌, ◌∙◌, true, Contains, get_or, refl, sym, ap, arith}
use Rattle.lsif.specs.RequestKinds.{kind_number, kinds, same_kind}
use Rattle.lsif.specs.declared.request_kind.RequestKind.{RequestKind}
use Rattle.lsif.specs.declared.request_kind.RequestKind.TheVariants.{Definition}

of_number : (kind : RequestKind) → get_or kinds (kind_number kind) Definition ≡ kind
of_number Definition = refl
of_number kind = refl

-- kinds of one number are one
pub one_kind : (j k : RequestKind) → same_kind j k ≡ true → j ≡ k
one_kind j k e =
    let same : kind_number j ≡ kind_number k = grind (arith, e) in
    sym (of_number j) ∙ ap (λ n. get_or kinds n Definition) same ∙ of_number k

pub listed : (kind : RequestKind) → Contains kinds kind
listed Definition = (0, omega arith, refl)
listed kind = (kind_number kind, omega arith, refl)
