-- Tests that columns equal parameters: SQL's equality of two numbers or two texts is theirs.
use Rattle.std.proofs.Common.{◌≡◌, ℕ, ℤ, Bool, true, is_eq, int_cmp, nat_cmp, List, [], ◌∷◌, refl, sym, ap, subst, ◌∙◌}
use Rattle.std.specs.List.{list_all}
use Rattle.std.specs.Cmp.Lexicographic.{slice_cmp}
use Rattle.sqlite_value.specs.declared.value.Value.{Value}
use Rattle.sqlite_value.specs.declared.value.Value.TheVariants.{Null, Int, Real, Text, Blob}
use Rattle.sqlite_value.specs.declared.keys.Collation.TheVariants.{Binary}
use Rattle.sqlite_value.specs.Order.{Row, column}
use Rattle.sqlite_value.proofs.OrderLemmas.{value_cmp-Int, value_cmp-Text}
use Rattle.sqlite_sql.specs.declared.ops.BinaryOp.TheVariants.{Compare}
use Rattle.sqlite_sql.specs.declared.ops.CompareOp.TheVariants.{Eq}
use Rattle.sqlite_sql.specs.Ops.{binary, is_true}
use Rattle.sqlite_sql.specs.Term.{holds}
use Rattle.tables.specs.Steps.Selected.{equals}
use Rattle.tables.proofs.Keeping.{same_int_is, same_int_itself, same_text_is, same_text_itself, both}
use Rattle.tables.proofs.PartRemoved.{truly}

-- two values of one kind, a number or a text
abbrev pub AreAlike : Value → Value → Type 0
AreAlike (Int a) (Int b) = Unit {0}
AreAlike (Text a) (Text b) = Unit {0}
AreAlike _ _ = ⊥

abbrev pub AllAlike : List (ℕ × ℕ) → Row → Row → Type 0
AllAlike [] params row = Unit {0}
AllAlike (p ∷ ps) params row = AreAlike (column row p.0) (column params p.1) × AllAlike ps params row

abbrev pub Agree : List (ℕ × ℕ) → Row → Row → Type 0
Agree [] params row = Unit {0}
Agree (p ∷ ps) params row = (column row p.0 ≡ column params p.1) × Agree ps params row

abbrev tests_same : Value → Value → Bool
tests_same a b = is_true (binary (Compare Eq Binary) a b)

ints_are : (m n : ℤ) → tests_same (Int m) (Int n) ≡ is_eq (int_cmp m n)
unfolding binary
ints_are m n = rw (value_cmp-Int m n, truly (is_eq (int_cmp m n)))

texts_are : (s t : List ℕ) → tests_same (Text s) (Text t) ≡ is_eq (slice_cmp nat_cmp s t)
unfolding binary
texts_are s t = rw (value_cmp-Text s t, truly (is_eq (slice_cmp nat_cmp s t)))

-- SQL's equality of two numbers or two texts is theirs
pub same_if : (a b : Value) → AreAlike a b → tests_same a b ≡ true → a ≡ b
same_if (Int m) (Int n) like h = ap Int (same_int_is m n (sym (ints_are m n) ∙ h))
same_if (Text s) (Text t) like h = ap Text (same_text_is s t (sym (texts_are s t) ∙ h))
same_if (Int m) Null like h = absurd like
same_if (Int m) (Real x) like h = absurd like
same_if (Int m) (Text t) like h = absurd like
same_if (Int m) (Blob t) like h = absurd like
same_if (Text s) Null like h = absurd like
same_if (Text s) (Real x) like h = absurd like
same_if (Text s) (Int n) like h = absurd like
same_if (Text s) (Blob t) like h = absurd like
same_if Null b like h = absurd like
same_if (Real x) b like h = absurd like
same_if (Blob t) b like h = absurd like

pub if_same : (a b : Value) → AreAlike a b → a ≡ b → tests_same a b ≡ true
if_same (Int m) (Int n) like h = let e : m ≡ n = cc in ints_are m n ∙ subst (λ k. is_eq (int_cmp m k) ≡ true) e (same_int_itself m)
if_same (Text s) (Text t) like h = let e : s ≡ t = cc in texts_are s t ∙ subst (λ k. is_eq (slice_cmp nat_cmp s k) ≡ true) e (same_text_itself s)
if_same (Int m) Null like h = absurd like
if_same (Int m) (Real x) like h = absurd like
if_same (Int m) (Text t) like h = absurd like
if_same (Int m) (Blob t) like h = absurd like
if_same (Text s) Null like h = absurd like
if_same (Text s) (Real x) like h = absurd like
if_same (Text s) (Int n) like h = absurd like
if_same (Text s) (Blob t) like h = absurd like
if_same Null b like h = absurd like
if_same (Real x) b like h = absurd like
if_same (Blob t) b like h = absurd like

pub agree_if : (pairs : List (ℕ × ℕ)) (params row : Row) → AllAlike pairs params row → list_all (holds (params ∷ row ∷ [])) (equals pairs) ≡ true → Agree pairs params row
agree_if [] params row like h = tt
agree_if (p ∷ ps) params row like h = let a = both _ _ h in (same_if (column row p.0) (column params p.1) like.0 a.0, agree_if ps params row like.1 a.1)

pub if_agree : (pairs : List (ℕ × ℕ)) (params row : Row) → AllAlike pairs params row → Agree pairs params row → list_all (holds (params ∷ row ∷ [])) (equals pairs) ≡ true
if_agree [] params row like h = refl
if_agree (p ∷ ps) params row like h = rw (if_same (column row p.0) (column params p.1) like.0 h.0) (if_agree ps params row like.1 h.1)
