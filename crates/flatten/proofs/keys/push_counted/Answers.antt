use Rattle.std.proofs.Common.{◌≡◌, ◌++◌, ◌∷◌, length, string_bytes, OnOk, subst, arith}
use Rattle.flatten.proofs.KeyLemmas.{decimal_is}
use Rattle.flatten.proofs.keys.push_counted.Goals as goal

pub returns : goal.returns
returns c =
    let part = c.args.part.now in
    subst (λ digits. OnOk c.write.result (string_bytes c.write.new.self ≡ string_bytes c.args.text.now ++ (digits ++ 58 ∷ part))) (decimal_is (length part) (omega arith)) c.write.ensures.bytes
