use Rattle.std.proofs.Common.{◌≡◌, ◌∙◌, ◌++◌, ◌∷◌, [], sym, ap}
use Rattle.tags.proofs.ReaderLemmas.{keeps_up}
use Rattle.tags.proofs.reader.TagReader.keep_line.Goals as goal

pub returns-in_ok-take-in-Ordinary : goal.returns-in_ok-take-in-Ordinary
returns-in_ok-take-in-Ordinary c =
    let judged = rw c.in-Ordinary.is at c.in_ok-content.ensures in
    let made = rw c.next_number.ensures at c.in_ok-tag-in-Ordinary.ensures in
    let took = rw c.in-Ordinary.is at c.in_ok-take-in-Ordinary.ensures.ok in
    let tags = c.self.inside.tags.items in
    let now : c.push_tag.new.tags.items ≡ tags ++ c.in_ok-tag-in-Ordinary.tag ∷ [] =
    c.push_tag.ensures ∙ ap (λ ts. ts ++ c.in_ok-tag-in-Ordinary.tag ∷ []) c.in_ok-try_reserve-in-Ordinary.ensures.items in
    keeps_up c.push_tag.new.tags.items tags c.in_ok-tag-in-Ordinary.tag c.args.self.now c.self.inside.checker c.judge.new.self c.take-in-Ordinary.new.self c.in-Ordinary.cut _
    now (sym c.self.view_is) judged.0 judged.1 judged.2 took made
