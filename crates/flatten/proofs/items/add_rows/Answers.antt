use Rattle.std.proofs.Common.{◌≡◌, ◌∙◌, ◌+◌, ◌++◌, ◌<◌, ℕ, List, [], ◌∷◌, length, map, drop, get_or, sym, ap, subst, append_assoc}
use Rattle.std.proofs.lemmas.List.{map-append}
use Rattle.std.proofs.lemmas.List.Elements.{All-get_or, All-push}
use Rattle.streams.proofs.Lists.{drop_next}
use Rattle.dump.specs.declared.role.Role.{Role}
use Rattle.flatten.specs.Steps.Items.{AreNumberedRows, found_value, row_of}
use Rattle.flatten.specs.Steps.Places.{IsNumbered}
use Rattle.flatten.specs.declared.items.FoundItem.{FoundItem}
use Rattle.flatten.specs.declared.places.Place.{Place}
use Rattle.flatten.proofs.items.add_rows.Goals as goal

-- the row of the next place was added
one_more : (number : ℕ) (role : Role) (start old new : List FoundItem) (x : FoundItem) (items : List (ℕ × Place)) (k : ℕ) (item : ℕ × Place) → k < length items → item ≡ get_or items k item → found_value x ≡ row_of number role item → new ≡ old ++ x ∷ []
    → map found_value old ++ map (row_of number role) (drop k items) ≡ map found_value start ++ map (row_of number role) items
    → map found_value new ++ map (row_of number role) (drop (k + 1) items) ≡ map found_value start ++ map (row_of number role) items
one_more number role start old new x items k item lt at same grown held =
    let rest = map (row_of number role) (drop (k + 1) items) in
    ap (λ l. map found_value l ++ rest) grown ∙ ap (λ l. l ++ rest) (map-append found_value old (x ∷ [])) ∙ append_assoc (map found_value old) (found_value x ∷ []) rest
    ∙ ap (λ l. map found_value old ++ l) (ap (λ r. r ∷ rest) same ∙ ap (map (row_of number role)) (sym (drop_next items k item lt at))) ∙ held

pub loop-item-preserved : goal.loop-item-preserved
loop-item-preserved c =
    let item = c.item-item.result in
    let k = c.loop-item.item-index in
    let here = All-get_or (λ (p : ℕ × Place). IsNumbered p.1) c.args.items.now k item c.loop-item-test.true c.requires.items in (
      one_more c.args.number c.args.role c.args.rows.now.items c.loop-item.rows.items _ _ c.args.items.now k item c.loop-item-test.true c.item-item.is (λ i. found_value (record { result = c.args.number; role = c.args.role; place = item.1 })) c.in_ok-push.ensures.items c.loop-item.invariant.0,
      subst AreNumberedRows (sym c.in_ok-push.ensures.items) (All-push (λ (f : FoundItem). IsNumbered f.place) c.loop-item.rows.items _ c.loop-item.invariant.1 (subst (λ (p : ℕ × Place). IsNumbered p.1) (sym c.item-item.is) here)),
    )
