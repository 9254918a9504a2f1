-- Where an element has no code, there are fewer elements before it than may be.
use Rattle.std.proofs.Common.{◌≡◌, ◌∙◌, ◌<◌, List, length, find, ap, sym, refl, arith, Bool, true, false, None, is_some}
use Rattle.lsif.specs.Element.{ElementValue}
use Rattle.lsif.specs.declared.code.Code.TheVariants.{L20}
use Rattle.dump.specs.Conditions.{order_condition, order_codes, order_code, is_past_limit, most_elements}
use Rattle.dump.proofs.Adds.{find_any}
use Rattle.streams.proofs.Bools.{absurd_true}
use Rattle.streams.proofs.Members.{any_from}

room_by : (elements : List ElementValue) (x : ElementValue) → find (order_condition elements x) order_codes ≡ None → (b : Bool) → is_past_limit elements ≡ b → length elements < most_elements
room_by elements x none true e =
    let some : is_some (find (order_condition elements x) order_codes) ≡ true = find_any (order_condition elements x) order_codes ∙ any_from (order_condition elements x) order_codes L20 (12, omega arith, refl) e in
    absurd (absurd_true (sym some ∙ ap is_some none))
room_by elements x none false e = grind (arith, e)

pub room : (elements : List ElementValue) (x : ElementValue) → order_code elements x ≡ None → length elements < most_elements
unfolding order_code
room elements x none = room_by elements x none (is_past_limit elements) refl
