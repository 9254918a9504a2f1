-- Steps over the pairs of a query string.
use Rattle.std.proofs.Common.{◌≡◌, ◌<◌, ◌≤◌, ◌++◌, ℕ, ◌+◌, Bool, true, false, List, [], ◌∷◌, map, length, drop, get_or, refl, ap, bytes_eq}
use Rattle.std.proofs.lemmas.List.{at_drop_more, at_drop_all}
use Rattle.std.specs.Cow.{cow_str_bytes}
use Rattle.form_urlencoded.specs.Form.{DecodesTo}
use Rattle.http_edge.specs.Values.{Values, absent, single, several}
use Rattle.http_edge.specs.Parameters.{values_named, decoded_pair}
use Rattle.http_edge.specs.Steps.Parameters.{pair_of, with_pair}
use Rattle.http_edge.specs.Steps.Values.{with_value, with_values}
use Rattle.http_edge.specs.declared.parameters.Parameter.{Parameter}

-- ---- the pairs that are read

pub pushed : (items : List Parameter) (p : Parameter) (left rest : List (List ℕ × List ℕ)) (n v : List ℕ) → left ≡ (n, v) ∷ rest
    → DecodesTo n (cow_str_bytes p.name) × DecodesTo v (cow_str_bytes p.value)
    → map pair_of (items ++ p ∷ []) ++ map decoded_pair rest ≡ map pair_of items ++ map decoded_pair left
pushed [] p left rest n v e d = rw (e, d.0.2, d.1.2) refl
pushed (x ∷ items) p left rest n v e d = ap (λ pairs. pair_of x ∷ pairs) (pushed items p left rest n v e d)

-- ---- the values of a name

here : (name : List ℕ) (t : Values) (pair : List ℕ × List ℕ) (pairs : List (List ℕ × List ℕ)) → bytes_eq pair.0 name ≡ true
    → with_values (with_value t pair.1) (values_named name pairs) ≡ with_values t (values_named name (pair ∷ pairs))
unfolding values_named
here name t pair pairs e = rw e (step t pair.1 (values_named name pairs)) where
  step : (t : Values) (v : List ℕ) (rest : List (List ℕ)) → with_values (with_value t v) rest ≡ with_values t (v ∷ rest)
  step absent v [] = refl
  step absent v (w ∷ rest) = refl
  step (single u) v rest = refl
  step several v rest = refl

skip : (name : List ℕ) (pair : List ℕ × List ℕ) (pairs : List (List ℕ × List ℕ)) → bytes_eq pair.0 name ≡ false
    → values_named name (pair ∷ pairs) ≡ values_named name pairs
unfolding values_named
skip name pair pairs e = rw e refl

pub ended : (name : List ℕ) (t : Values) → with_values t (values_named name []) ≡ t
unfolding values_named
ended name absent = refl
ended name (single v) = refl
ended name several = refl

pub more : (name : List ℕ) (t : Values) (pair : List ℕ × List ℕ) (pairs : List (List ℕ × List ℕ))
    → with_values (with_pair t pair name) (values_named name pairs) ≡ with_values t (values_named name (pair ∷ pairs))
more name t pair pairs = step (bytes_eq pair.0 name) refl where
  step : (b : Bool) → bytes_eq pair.0 name ≡ b → with_values (with_pair t pair name) (values_named name pairs) ≡ with_values t (values_named name (pair ∷ pairs))
  step true h = rw h (here name t pair pairs h)
  step false h = rw (h, skip name pair pairs h) refl

pub values_step : (list : List Parameter) (name : List ℕ) (i : ℕ) (p : Parameter) (t : Values) → i < length list → p ≡ get_or list i p
    → with_values (with_pair t (pair_of p) name) (values_named name (map pair_of (drop (i + 1) list))) ≡ with_values t (values_named name (map pair_of (drop i list)))
values_step list name i p t within is =
    rw (at_drop_more (λ ps. with_values t (values_named name (map pair_of ps))) list i p within, ← is) (more name t (pair_of p) (map pair_of (drop (i + 1) list)))

pub values_end : (list : List Parameter) (name : List ℕ) (i : ℕ) (t : Values) → length list ≤ i → with_values t (values_named name (map pair_of (drop i list))) ≡ t
values_end list name i t over = rw (at_drop_all (λ ps. values_named name (map pair_of ps)) list i over) (ended name t)
