-- Steps over fields and digits.
use Rattle.std.proofs.Common.{◌≡◌, ℕ, ◌+◌, ◌-◌, ◌*◌, ◌<◌, ◌≤◌, ◌^◌, true, false, List, [], ◌∷◌, map, drop, get_or, length, refl, arith, rules}
use Rattle.std.specs.Char.{is_ascii_digit}
use Rattle.std.proofs.Math.Nat.{pow-le-pow_right}
use Rattle.std.proofs.lemmas.List.{at_drop_more, at_drop_all}
use Rattle.httparse.specs.Spans.{header_bytes}
use Rattle.httparse.specs.declared.spans.HeaderSpan.{HeaderSpan}
use Rattle.http_edge.specs.Values.{Values, absent, single, several}
use Rattle.http_edge.specs.Steps.Values.{with_value, with_values}
use Rattle.http_edge.specs.Fields.{Pair, field_values, same_name}
use Rattle.http_edge.specs.Limits.{body_limit}

pub body_limit_is : body_limit ≡ 33554432
unfolding body_limit
body_limit_is = refl

pub named_here : (name : List ℕ) (t : Values) (f : Pair) (fields : List Pair) → same_name f.0 name ≡ true
    → with_values t (field_values name (f ∷ fields)) ≡ with_values (with_value t f.1) (field_values name fields)
unfolding field_values
named_here name t f fields e = rw e (step t f.1 (field_values name fields)) where
  step : (t : Values) (v : List ℕ) (rest : List (List ℕ)) → with_values t (v ∷ rest) ≡ with_values (with_value t v) rest
  step absent v [] = refl
  step absent v (g ∷ rest) = refl
  step (single u) v rest = refl
  step several v rest = refl

pub named_not : (name : List ℕ) (f : Pair) (fields : List Pair) → same_name f.0 name ≡ false → field_values name (f ∷ fields) ≡ field_values name fields
unfolding field_values
named_not name f fields e = rw e refl

pub named_nil : (name : List ℕ) → field_values name [] ≡ []
unfolding field_values
named_nil name = refl

pub small_fits : (n i len : ℕ) → n < 10 ^ i → i < len → len ≤ 19 → n * 10 + 9 < 2 ^ 64
small_fits n i len lt below le =
    let p : 10 ^ i ≤ 10 ^ 18 = pow-le-pow_right {n = 10} (omega arith) {i = i} {j = 18} (omega arith) in
    let q : n < 1000000000000000000 = omega (arith, lt, p) in omega (arith, q)

pub find_step : (head name : List ℕ) (headers : List HeaderSpan) (i : ℕ) (d : HeaderSpan) (t : Values) (n v : List ℕ) → i < length headers
    → n ≡ (header_bytes head (get_or headers i d)).0 → v ≡ (header_bytes head (get_or headers i d)).1 → same_name n name ≡ true
    → with_values (with_value t v) (field_values name (map (header_bytes head) (drop (i + 1) headers)))
    ≡ with_values t (field_values name (map (header_bytes head) (drop i headers)))
find_step head name headers i d t n v lt en ev here =
    rw (
      at_drop_more (λ hs. with_values t (field_values name (map (header_bytes head) hs))) headers i d lt,
      named_here name t (header_bytes head (get_or headers i d)) (map (header_bytes head) (drop (i + 1) headers)) (rw (← en) here),
      ev,
    ) refl

pub find_skip : (head name : List ℕ) (headers : List HeaderSpan) (i : ℕ) (d : HeaderSpan) (t : Values) (n : List ℕ) → i < length headers
    → n ≡ (header_bytes head (get_or headers i d)).0 → same_name n name ≡ false
    → with_values t (field_values name (map (header_bytes head) (drop (i + 1) headers)))
    ≡ with_values t (field_values name (map (header_bytes head) (drop i headers)))
find_skip head name headers i d t n lt en here =
    rw (
      at_drop_more (λ hs. with_values t (field_values name (map (header_bytes head) hs))) headers i d lt,
      named_not name (header_bytes head (get_or headers i d)) (map (header_bytes head) (drop (i + 1) headers)) (rw (← en) here),
    ) refl

pub find_end : (head name : List ℕ) (headers : List HeaderSpan) (i : ℕ) (t : Values) → length headers ≤ i
    → with_values t (field_values name (map (header_bytes head) (drop i headers))) ≡ t
find_end head name headers i t le =
    rw (at_drop_all (λ hs. field_values name (map (header_bytes head) hs)) headers i le, named_nil name) (at_nil t) where
      at_nil : (t : Values) → with_values t [] ≡ t
      at_nil absent = refl
      at_nil (single v) = refl
      at_nil several = refl

pub is_digit_small : (d : ℕ) → true ≡ is_ascii_digit d → d - 48 ≤ 9
is_digit_small d h = search (rules, arith)
