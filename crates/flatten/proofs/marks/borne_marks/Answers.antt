use Rattle.std.proofs.Common.{◌≡◌, ◌∙◌, ◌++◌, ℕ, List, map, get_or, sym, ap, subst, append-nil}
use Rattle.std.proofs.Math.ListN.{drop_of_length-le}
use Rattle.std.specs.Prelude.{Contains, None}
use Rattle.std.specs.List.{flat_map}
use Rattle.dump.specs.Places.{IsListing}
use Rattle.flatten.specs.Flat.{MarkRowValue, mark_cmp}
use Rattle.flatten.specs.Rows.{mark_value as mark_row_value}
use Rattle.flatten.specs.Steps.Borne.{mark_values}
use Rattle.flatten.specs.Steps.Marks.{IsBorneMark, mark_of}
use Rattle.streams.proofs.Members.{flat_from, flat_of}
use Rattle.dump.proofs.Listing.{same_listing}
use Rattle.flatten.proofs.marks.borne_marks.Goals as goal

pub returns : goal.returns
returns c =
    let pairs = c.args.pairs.now in
    let marks = mark_values c.args.marks.now in
    let say : ℕ × ℕ → List MarkRowValue = λ p. mark_of p.0 (get_or marks p.1 None) in
    let rows = map mark_row_value c.loop-pair.rows.items in
    let sorted = map mark_row_value c.list_rows.new.rows.items in
    let empty = drop_of_length-le pairs c.loop-pair-test.false in
    let all : rows ≡ flat_map say pairs = sym (append-nil rows) ∙ ap (λ ps. rows ++ flat_map say ps) (sym empty) ∙ c.loop-pair.invariant in
    let listed = subst (λ xs. IsListing mark_cmp (Contains xs) sorted) all c.list_rows.ensures in
    same_listing mark_cmp (Contains (flat_map say pairs)) (IsBorneMark pairs marks) sorted (λ row. (flat_of say pairs row, λ h. flat_from say pairs h.0 row h.1 h.2)) listed
