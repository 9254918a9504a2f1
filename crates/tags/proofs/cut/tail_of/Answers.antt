use Rattle.std.proofs.Common.{◌≡◌, ◌<◌, ◌≤◌, List, ℕ, length, take, get_or, drop, add-zero, Option, Some, None, IfSome, OnSome, IsUtf8, sym, subst}
use Rattle.std.proofs.lemmas.List.{take_rest, get_or-drop}
use Rattle.tags.specs.declared.cut.Tail.{Tail}
use Rattle.tags.proofs.TextLemmas.{texts_at}
use Rattle.tags.proofs.cut.tail_of.Goals as goal

-- an address that ends before a byte of ASCII is a text, and so are the fields after it
both_texts : (rest : List ℕ) (len : ℕ) (found : Option Tail) → len ≤ length rest → IsUtf8 rest → IfSome found (λ t. t.address.now ≡ take len rest) → OnSome found (get_or (drop len rest) 0 0 < 128)
    → (IsUtf8 (drop len rest) → IfSome found (λ t. IfSome t.fields (λ bs. IsUtf8 bs.now))) → IfSome found (λ t. IsUtf8 t.address.now × IfSome t.fields (λ bs. IsUtf8 bs.now))
both_texts rest len None low text address ascii fields = tt
both_texts rest len (Some t) low text address ascii fields =
    let below : get_or rest len 0 < 128 = rw (get_or-drop len rest 0 0, add-zero) at ascii in
    let texts = texts_at rest len low below text in
    (subst IsUtf8 (sym address) texts.0, fields texts.1)

pub returns-clause-texts : goal.returns-clause-texts
returns-clause-texts c = λ text.
    both_texts c.args.rest.now c.in_ok-len.len c.tail_after.result c.in_ok-len.ensures.within text c.tail_after.ensures.address
    (rw take_rest at c.tail_after.ensures.ascii) (rw take_rest at c.tail_after.ensures.texts)
