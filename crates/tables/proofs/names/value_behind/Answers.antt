use Rattle.std.proofs.Common.{◌≡◌, ◌<◌, ◌++◌, [], ◌∷◌, rules}
use Rattle.tables.proofs.Prefixes.{last_byte}
use Rattle.tables.proofs.names.value_behind.Goals as goal

pub returns : goal.returns
returns c =
    let front = c.in-Some.front.now in
    let last = c.in-Some.last.now in
    let is : c.args.prefix.now ≡ front ++ last ∷ [] = search rules in
    let less : last < 255 = last_byte c.args.prefix.now front last c.utf8.prefix is in
    (front, last, is, search (rules, less))
