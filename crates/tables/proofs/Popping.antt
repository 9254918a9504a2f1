-- A list that is taken from its end, in reverse.
use Rattle.std.proofs.Common.{◌≡◌, ◌∙◌, ◌++◌, List, [], ◌∷◌, map, reverse, refl, sym, ap, append_assoc}
use Rattle.std.proofs.lemmas.List.{map-append, reverse-append, reverse-reverse}

module _ {R V : Type 0} (f : R → V) where
  map_reverse : (xs : List R) → map f (reverse xs) ≡ reverse (map f xs)
  map_reverse [] = refl
  map_reverse (x ∷ xs) = ap (map f) (reverse-append (x ∷ []) xs) ∙ (map-append f (reverse xs) (x ∷ []) ∙ (ap (λ ys. ys ++ f x ∷ []) (map_reverse xs) ∙ sym (reverse-append (f x ∷ []) (map f xs))))

  pub all_left : (xs : List R) → reverse (map f (reverse xs)) ≡ map f xs
  all_left xs = ap reverse (map_reverse xs) ∙ reverse-reverse (map f xs)

  last_first : (left rest : List R) (m : R) → left ≡ rest ++ m ∷ [] → reverse (map f left) ≡ f m ∷ reverse (map f rest)
  last_first left rest m is = ap (λ xs. reverse (map f xs)) is ∙ (ap reverse (map-append f rest (m ∷ [])) ∙ reverse-append (map f rest) (f m ∷ []))

  -- what was taken is done
  pub one_less : (done more : List V) (left rest : List R) (m : R) → left ≡ rest ++ m ∷ [] → more ≡ done ++ f m ∷ [] → more ++ reverse (map f rest) ≡ done ++ reverse (map f left)
  one_less done more left rest m is grown = ap (λ xs. xs ++ reverse (map f rest)) grown ∙ (append_assoc done (f m ∷ []) (reverse (map f rest)) ∙ ap (λ ys. done ++ ys) (sym (last_first left rest m is)))
