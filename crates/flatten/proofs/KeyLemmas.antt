-- The texts of two keys differ.
use Rattle.std.proofs.Common.{◌≡◌, ◌∙◌, ◌++◌, ℕ, zero, suc, ◌+◌, ◌-◌, ◌<◌, ◌^◌, List, [], ◌∷◌, map, length, decimal, Option, Some, None, refl, sym, ap, arith, append_assoc}
use Rattle.std.specs.List.{AllByRecursion}
use Rattle.std.specs.Int.Digits.{digits_of, number_from_digits}
use Rattle.std.proofs.lemmas.Fmt.{decimal_digit, decimal-digits_of}
use Rattle.std.proofs.lemmas.Int.Digits.{all_below_base_digits_of, number_digits_of}
use Rattle.lsif.specs.Element.{PackageValue}
use Rattle.dump.specs.Monikers.{MonikerKey}
use Rattle.flatten.specs.KeyTexts.{decimal_of, counted, package_text, key_text}

-- what the formatting of a number writes
pub decimal_is : (n : ℕ) → n < 2 ^ 64 → decimal n ≡ decimal_of n
decimal_is zero lt = decimal_digit 0 (omega arith)
decimal_is (suc n) lt = decimal-digits_of (suc n) (omega arith) lt

-- ---- the digits end at the colon

all_glyphs : (ds : List ℕ) → AllByRecursion (λ d. d < 10) ds → AllByRecursion (λ c. c < 58) (map (λ digit. 48 + digit) ds)
all_glyphs [] h = tt
all_glyphs (d ∷ ds) h = (omega (arith, h.0), all_glyphs ds h.1)

before_colon : (n : ℕ) → AllByRecursion (λ c. c < 58) (decimal_of n)
before_colon zero = (omega arith, tt)
before_colon (suc n) = all_glyphs (digits_of 10 (suc n)) (all_below_base_digits_of 10 (suc n) (omega arith))

at_colon : (xs ys us vs : List ℕ) → AllByRecursion (λ c. c < 58) xs → AllByRecursion (λ c. c < 58) ys → xs ++ 58 ∷ us ≡ ys ++ 58 ∷ vs → (xs ≡ ys) × (us ≡ vs)
at_colon [] [] us vs h k e = (refl, cc)
at_colon [] (y ∷ ys) us vs h k e = let same : 58 ≡ y = cc in absurd (omega (arith, same, k.0))
at_colon (x ∷ xs) [] us vs h k e = let same : x ≡ 58 = cc in absurd (omega (arith, same, h.0))
at_colon (x ∷ xs) (y ∷ ys) us vs h k e =
    let same : x ≡ y = cc in
    let rest : xs ++ 58 ∷ us ≡ ys ++ 58 ∷ vs = cc in
    let r = at_colon xs ys us vs h.1 k.1 rest in
    (λ i. same i ∷ r.0 i, r.1)

-- ---- the digits determine the number

back : (ds : List ℕ) → map (λ glyph. glyph - 48) (map (λ digit. 48 + digit) ds) ≡ ds
back [] = refl
back (d ∷ ds) = let same : 48 + d - 48 ≡ d = omega arith in let rest = back ds in λ i. same i ∷ rest i

value : List ℕ → ℕ
value ds = number_from_digits 10 (map (λ glyph. glyph - 48) ds)

value-decimal : (n : ℕ) → value (decimal_of n) ≡ n
unfolding value
value-decimal zero = refl
value-decimal (suc n) = ap (number_from_digits 10) (back (digits_of 10 (suc n))) ∙ number_digits_of 10 (suc n) (omega arith)

-- ---- parts of a text

same_length : (ps qs us vs : List ℕ) → length ps ≡ length qs → ps ++ us ≡ qs ++ vs → (ps ≡ qs) × (us ≡ vs)
same_length [] [] us vs long e = (refl, e)
same_length [] (q ∷ qs) us vs long e = absurd (omega (arith, long))
same_length (p ∷ ps) [] us vs long e = absurd (omega (arith, long))
same_length (p ∷ ps) (q ∷ qs) us vs long e =
    let same : p ≡ q = cc in
    let rest : ps ++ us ≡ qs ++ vs = cc in
    let r = same_length ps qs us vs (omega (arith, long)) rest in
    (λ i. same i ∷ r.0 i, r.1)

counted_split : (ps qs us vs : List ℕ) → counted ps ++ us ≡ counted qs ++ vs → (ps ≡ qs) × (us ≡ vs)
counted_split ps qs us vs e =
    let first = append_assoc (decimal_of (length ps)) (58 ∷ ps) us in
    let second = append_assoc (decimal_of (length qs)) (58 ∷ qs) vs in
    let r = at_colon (decimal_of (length ps)) (decimal_of (length qs)) (ps ++ us) (qs ++ vs) (before_colon (length ps)) (before_colon (length qs)) (sym first ∙ e ∙ second) in
    same_length ps qs us vs (sym (value-decimal (length ps)) ∙ ap value r.0 ∙ value-decimal (length qs)) r.1

counted_last : (ps qs : List ℕ) → counted ps ≡ counted qs → ps ≡ qs
counted_last ps qs e = (counted_split ps qs [] [] (ap (λ xs. xs ++ []) e)).0

package_same : (a b : Option PackageValue) → package_text a ≡ package_text b → a ≡ b
package_same None None e = refl
package_same None (Some q) e = let no : ◌≡◌ {A = ℕ} 48 49 = cc in absurd (omega (arith, no))
package_same (Some p) None e = let no : ◌≡◌ {A = ℕ} 49 48 = cc in absurd (omega (arith, no))
package_same (Some p) (Some q) e =
    let whole : counted p.manager ++ (counted p.name ++ counted p.version) ≡ counted q.manager ++ (counted q.name ++ counted q.version) = cc in
    let m = counted_split p.manager q.manager (counted p.name ++ counted p.version) (counted q.name ++ counted q.version) whole in
    let n = counted_split p.name q.name (counted p.version) (counted q.version) m.1 in
    let v = counted_last p.version q.version n.1 in
    λ i. Some (record { manager = m.0 i; name = n.0 i; version = v i })

pub key_same : (a b : MonikerKey) → key_text a ≡ key_text b → a ≡ b
key_same a b e =
    let s = counted_split a.scheme b.scheme (counted a.identifier ++ package_text a.«package») (counted b.identifier ++ package_text b.«package») e in
    let n = counted_split a.identifier b.identifier (package_text a.«package») (package_text b.«package») s.1 in
    let p = package_same a.«package» b.«package» n.1 in
    λ i. record { scheme = s.0 i; identifier = n.0 i; «package» = p i }
