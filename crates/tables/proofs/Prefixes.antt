-- The texts that begin with another are those from it up to the text with a last byte that is one
-- greater.
use Rattle.std.proofs.Common.{◌≡◌, ◌<◌, ◌++◌, inl, inr, ◌∙◌, lt-ltb, le-ltb, ℕ, suc, Bool, true, false, Ordering, Less, Equal, Greater, nat_cmp, eqb, List, [], ◌∷◌, ◌&&◌, refl, sym, subst, arith}
use Rattle.std.proofs.lemmas.Bool.Decides.{nat_tests}
use Rattle.std.specs.Ordering.{is_ge, is_lt, ordering_then}
use Rattle.std.specs.Cmp.Lexicographic.{slice_cmp}
use Rattle.std.specs.List.{AllByRecursion, starts_with}
use lib.Utf8.{scalar, scalars, scalar_cases}
use Rattle.std.proofs.lemmas.Bool.{and_parts, cases_lt, cond-true, cond-false}
use Rattle.std.specs.Char.{encode_utf8}
use Rattle.std.specs.Prelude.{encode_utf8_all}
use Rattle.std.specs.Str.{IsUtf8}
use Rattle.sqlite_value.specs.declared.value.Value.{Value}
use Rattle.sqlite_value.specs.declared.value.Value.TheVariants.{Null, Int, Real, Text, Blob}
use Rattle.sqlite_value.specs.Order.{value_cmp}
use Rattle.sqlite.specs.Values.{bound_value}
use Rattle.sqlite_value.proofs.OrderLemmas.{value_cmp-Text}
use Rattle.machine.specs.FoundTags.{BeginsWith}
use Rattle.tables.specs.Steps.TagRows.{IsBehind}

less_is : (x y : ℕ) → Less ≡ nat_cmp x y → x < y
less_is x y h = grind (arith, nat_tests)

equal_is : (x y : ℕ) → Equal ≡ nat_cmp x y → x ≡ y
equal_is x y h = grind (arith, nat_tests)

apart : (x y : ℕ) → x < y → eqb x y ≡ false
apart x y h = grind (arith, nat_tests)

itself : (x : ℕ) → eqb x x ≡ true
itself x = grind (arith, nat_tests)

same_is : (x y : ℕ) → eqb x y ≡ true → x ≡ y
same_is x y h = grind (arith, nat_tests)

apart_back : (x y : ℕ) → x < y → eqb y x ≡ false
apart_back x y h = grind (arith, nat_tests)

one_less : (x c : ℕ) → c ≡ x → nat_cmp x (suc c) ≡ Less
one_less x c h = grind (arith, nat_tests)

same_cmp : (x y : ℕ) → y ≡ x → nat_cmp x y ≡ Equal
same_cmp x y h = grind (arith, nat_tests)

greater_is : (x y : ℕ) → Greater ≡ nat_cmp x y → y < x
greater_is x y h = grind (arith, nat_tests)

all_begin : (t : List ℕ) → starts_with eqb t [] ≡ true
all_begin [] = refl
all_begin (x ∷ t) = refl

none_below : (t : List ℕ) → is_lt (slice_cmp nat_cmp t []) ≡ false
none_below [] = refl
none_below (x ∷ t) = refl

-- a text with a prefix is not below it
pub not_below : (p t : List ℕ) → starts_with eqb t p ≡ true → is_ge (slice_cmp nat_cmp t p) ≡ true
not_below [] [] h = refl
not_below [] (x ∷ t) h = refl
not_below (y ∷ p) [] h = absurd cc
not_below (y ∷ p) (x ∷ t) h = go (eqb y x) refl (nat_cmp x y) refl h (not_below p t)
  where
    go : (b : Bool) → b ≡ eqb y x → (o : Ordering) → o ≡ nat_cmp x y → b && starts_with eqb t p ≡ true → (starts_with eqb t p ≡ true → is_ge (slice_cmp nat_cmp t p) ≡ true) → is_ge (ordering_then o (slice_cmp nat_cmp t p)) ≡ true
    go false e o f h more = absurd cc
    go true e Less f h more = absurd (let k = less_is x y f in let a = apart_back x y k in cc)
    go true e Equal f h more = more h
    go true e Greater f h more = refl

-- and comes before what has a greater last byte
pub below_end : (p : List ℕ) (c : ℕ) (t : List ℕ) → starts_with eqb t (p ++ c ∷ []) ≡ true → is_lt (slice_cmp nat_cmp t (p ++ suc c ∷ [])) ≡ true
below_end [] c [] h = absurd cc
below_end [] c (x ∷ t) h = rw (one_less x c (same_is c x (and_parts (eqb c x) _ h).0)) refl
below_end (y ∷ p) c [] h = absurd cc
below_end (y ∷ p) c (x ∷ t) h =
    let parts = and_parts (eqb y x) _ h in
    rw (same_cmp x y (same_is y x parts.0)) (below_end p c t parts.1)

-- and a text that is not below it, and comes before that, begins with it
pub within_end : (p : List ℕ) (c : ℕ) (t : List ℕ) → is_ge (slice_cmp nat_cmp t (p ++ c ∷ [])) ≡ true → is_lt (slice_cmp nat_cmp t (p ++ suc c ∷ [])) ≡ true → starts_with eqb t (p ++ c ∷ []) ≡ true
within_end [] c [] a b = absurd cc
within_end [] c (x ∷ t) a b = go (nat_cmp x c) refl (nat_cmp x (suc c)) refl a b
  where
    go : (o : Ordering) → o ≡ nat_cmp x c → (q : Ordering) → q ≡ nat_cmp x (suc c) → is_ge (ordering_then o (slice_cmp nat_cmp t [])) ≡ true → is_lt (ordering_then q (slice_cmp nat_cmp t [])) ≡ true → starts_with eqb (x ∷ t) (c ∷ []) ≡ true
    go Less e q f a b = absurd cc
    go Equal e q f a b = let k = equal_is x c e in first k
      where
        first : x ≡ c → starts_with eqb (x ∷ t) (c ∷ []) ≡ true
        first k = subst (λ (z : ℕ). starts_with eqb (x ∷ t) (z ∷ []) ≡ true) k (rw (itself x) (all_begin t))
    go Greater e Less f a b = absurd (let k = less_is x (suc c) f in let l = greater_is x c e in omega arith)
    go Greater e Equal f a b = absurd (let k = none_below t in cc)
    go Greater e Greater f a b = absurd cc
within_end (y ∷ p) c [] a b = absurd cc
within_end (y ∷ p) c (x ∷ t) a b = go (nat_cmp x y) refl a b (within_end p c t)
  where
    go : (o : Ordering) → o ≡ nat_cmp x y → is_ge (ordering_then o (slice_cmp nat_cmp t (p ++ c ∷ []))) ≡ true → is_lt (ordering_then o (slice_cmp nat_cmp t (p ++ suc c ∷ []))) ≡ true
        → (is_ge (slice_cmp nat_cmp t (p ++ c ∷ [])) ≡ true → is_lt (slice_cmp nat_cmp t (p ++ suc c ∷ [])) ≡ true → starts_with eqb t (p ++ c ∷ []) ≡ true) → starts_with eqb (x ∷ t) (y ∷ (p ++ c ∷ [])) ≡ true
    go Less e a b more = absurd cc
    go Equal e a b more = subst (λ (z : ℕ). (eqb z x && starts_with eqb t (p ++ c ∷ [])) ≡ true) (equal_is x y e) (rw (itself x, more a b) refl)
    go Greater e a b more = absurd cc

-- ---- the test is whether a text begins with another

pub begins_if : (p t : List ℕ) → starts_with eqb t p ≡ true → BeginsWith t p
begins_if [] t h = (t, refl)
begins_if (y ∷ p) [] h = absurd cc
begins_if (y ∷ p) (x ∷ t) h =
    let parts = and_parts (eqb y x) (starts_with eqb t p) h in
    let rest = begins_if p t parts.1 in
    let same = same_is y x parts.0 in
    (rest.0, (let e = rest.1 in cc))

pub if_begins : (p t : List ℕ) → BeginsWith t p → starts_with eqb t p ≡ true
if_begins [] [] h = refl
if_begins [] (x ∷ t) h = refl
if_begins (y ∷ p) [] h = absurd (let e = h.1 in cc)
if_begins (y ∷ p) (x ∷ t) h =
    let same : x ≡ y = let e = h.1 in cc in
    let rest : t ≡ p ++ h.0 = let e = h.1 in cc in
    let more = if_begins p t (h.0, rest) in
    subst (λ (z : ℕ). (eqb z x && starts_with eqb t p) ≡ true) same (rw (itself x, more) refl)

-- ---- the value after a text

all_before : (t b : List ℕ) → is_lt (value_cmp (Text t) (Blob b)) ≡ true
unfolding value_cmp
all_before t b = refl

-- which is bound as it is
pub bound_so : (p : List ℕ) (v : Value) → IsBehind p v → bound_value v ≡ v
bound_so p (Text end) is = refl
bound_so p (Blob b) is = refl
bound_so p Null none = absurd none
bound_so p (Int n) none = absurd none
bound_so p (Real x) none = absurd none

pub before : (p t : List ℕ) (v : Value) → IsBehind p v → BeginsWith t p → is_lt (value_cmp (Text t) v) ≡ true
before p t (Text end) (front, last, is, next) h =
    rw (value_cmp-Text t end, next) (below_end front last t (subst (λ q. starts_with eqb t q ≡ true) is (if_begins p t h)))
before p t (Blob b) is h = all_before t b
before p t Null none h = absurd none
before p t (Int n) none h = absurd none
before p t (Real x) none h = absurd none

pub begins_within : (p t : List ℕ) (v : Value) → IsBehind p v → is_ge (slice_cmp nat_cmp t p) ≡ true → is_lt (value_cmp (Text t) v) ≡ true → BeginsWith t p
begins_within p t (Text end) (front, last, is, next) a b =
    begins_if p t (subst (λ q. starts_with eqb t q ≡ true) (sym is) (within_end front last t (subst (λ q. is_ge (slice_cmp nat_cmp t q) ≡ true) is a) (rw (value_cmp-Text t end, next) at b)))
begins_within p t (Blob b) is c d = begins_if p t (subst (λ q. starts_with eqb t q ≡ true) (sym is) (all_begin t))
begins_within p t Null none a b = absurd none
begins_within p t (Int n) none a b = absurd none
begins_within p t (Real x) none a b = absurd none

-- ---- no byte of UTF-8 is the greatest

abbrev AreLess : List ℕ → Type 0
AreLess = AllByRecursion (λ (b : ℕ). b < 255)

char_less : (c : ℕ) → scalar c ≡ true → AreLess (encode_utf8 c)
unfolding encode_utf8
char_less c s =
    let fits : c < 1114112 = elim (scalar_cases c s) [ inl low ↦ omega arith | inr high ↦ high.1 ] in
    elim (cases_lt c 128) [
      | inl one ↦ subst AreLess (sym (cond-true _ _ _ (lt-ltb c 128 one))) (omega arith, tt)
      | inr two ↦ subst AreLess (sym (cond-false _ _ _ (le-ltb c 128 two))) (elim (cases_lt c 2048) [
        | inl less ↦ subst AreLess (sym (cond-true _ _ _ (lt-ltb c 2048 less))) (omega arith, (omega arith, tt))
        | inr three ↦ subst AreLess (sym (cond-false _ _ _ (le-ltb c 2048 three))) (elim (cases_lt c 65536) [
          | inl less ↦ subst AreLess (sym (cond-true _ _ _ (lt-ltb c 65536 less))) (omega arith, (omega arith, (omega arith, tt)))
          | inr four ↦ subst AreLess (sym (cond-false _ _ _ (le-ltb c 65536 four))) (omega arith, (omega arith, (omega arith, (omega arith, tt))))
        ])
      ])
    ]

less_append : (xs ys : List ℕ) → AreLess xs → AreLess ys → AreLess (xs ++ ys)
less_append [] ys a b = b
less_append (x ∷ xs) ys a b = (a.0, less_append xs ys a.1 b)

all_less : (cs : List ℕ) → scalars cs ≡ true → AreLess (encode_utf8_all cs)
all_less [] h = tt
all_less (c ∷ cs) h = let parts = and_parts (scalar c) (scalars cs) h in less_append (encode_utf8 c) (encode_utf8_all cs) (char_less c parts.0) (all_less cs parts.1)

last_less : (front : List ℕ) (last : ℕ) → AreLess (front ++ last ∷ []) → last < 255
last_less [] last h = h.0
last_less (x ∷ front) last h = last_less front last h.1

pub last_byte : (text front : List ℕ) (last : ℕ) → IsUtf8 text → text ≡ front ++ last ∷ [] → last < 255
last_byte text front last u is = last_less front last (subst AreLess (u.1.1 ∙ is) (all_less u.0 u.1.0))
