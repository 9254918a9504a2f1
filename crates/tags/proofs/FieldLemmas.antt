-- One field more.
use Rattle.std.proofs.Common.{◌≡◌, ◌++◌, ◌||◌, ℕ, suc, Bool, true, false, not, nat_lt, List, [], ◌∷◌, Option, Some, None, is_some, is_none, Ok, Err, Result, refl, ap, ◌∙◌, sym, arith, append_assoc, append-nil, if◌then◌else◌}
use Rattle.std.proofs.lemmas.Bool.Decides.{nat_tests}
use Rattle.std.specs.List.{list_any, filter_map}
use Rattle.tags.specs.Fields.{is_empty, name_in, value_in, is_field_name, has_bad_escape, is_bad_field, other_in}
use Rattle.tags.specs.Escapes.{decoded}
use Rattle.tags.specs.Steps.Faults.{fault_in}
use Rattle.tags.specs.Steps.Fields.{fields_of}
use Rattle.tags.specs.Steps.Gathering.{gathered}
use Rattle.tags.specs.Values.{FieldValue, FieldsValue}
use Rattle.tags.specs.declared.code.Code.{Code}
use Rattle.tags.specs.declared.code.Code.TheVariants.{T05, T07}

pub gathered-escape : (good : Bool) (kind : Option (List ℕ)) (others : List FieldValue) (field : List ℕ) (rest : List (List ℕ)) → decoded (value_in field) ≡ None → gathered good kind others (field ∷ rest) ≡ Err T05
unfolding gathered
gathered-escape good kind others field rest e = rw e refl

pub gathered-other : (good : Bool) (kind : Option (List ℕ)) (others : List FieldValue) (field name value : List ℕ) (rest : List (List ℕ)) → name_in field ≡ Some name → is_field_name name ≡ true → decoded (value_in field) ≡ Some value → gathered good kind (others ++ record { name = name; value = value } ∷ []) rest ≡ gathered good kind others (field ∷ rest)
unfolding gathered
gathered-other good kind others field name value rest n t e = rw (n, e, t, append_assoc others (record { name = name; value = value } ∷ []) (filter_map other_in rest)) refl

or_true : (b : Bool) → (b || true) ≡ true
or_true true = refl
or_true false = refl

true_or_true : (a b : Bool) → (a || (true || b)) ≡ true
true_or_true true b = refl
true_or_true false b = refl

-- what a bad field makes of the rest
abbrev pub refused : List (List ℕ) → Result FieldsValue Code
refused rest = if list_any has_bad_escape rest then Err T05 else Err T07

gathered-refused : (kind : Option (List ℕ)) (others : List FieldValue) (rest : List (List ℕ)) → gathered false kind others rest ≡ refused rest
unfolding gathered
gathered-refused kind others rest = refl

gathered-bad : (good : Bool) (kind : Option (List ℕ)) (others : List FieldValue) (field value : List ℕ) (rest : List (List ℕ)) → is_bad_field field ≡ true → decoded (value_in field) ≡ Some value → gathered good kind others (field ∷ rest) ≡ refused rest
unfolding gathered
gathered-bad good kind others field value rest b e = rw (b, e, true_or_true (not good)) refl

pub gathered-bad_name : (good : Bool) (kind : Option (List ℕ)) (others : List FieldValue) (field name value : List ℕ) (rest : List (List ℕ)) → name_in field ≡ Some name → is_field_name name ≡ false → decoded (value_in field) ≡ Some value → gathered false kind others rest ≡ gathered good kind others (field ∷ rest)
gathered-bad_name good kind others field name value rest n t e =
    let bad : is_bad_field field ≡ true = rw (n, t) refl in
    gathered-refused kind others rest ∙ sym (gathered-bad good kind others field value rest bad e)

pub gathered-empty : (good : Bool) (kind : Option (List ℕ)) (others : List FieldValue) (field value : List ℕ) (rest : List (List ℕ)) → name_in field ≡ None → is_empty (value_in field) ≡ true → decoded (value_in field) ≡ Some value → gathered false kind others rest ≡ gathered good kind others (field ∷ rest)
gathered-empty good kind others field value rest n t e =
    let bad : is_bad_field field ≡ true = rw (n, t) refl in
    gathered-refused kind others rest ∙ sym (gathered-bad good kind others field value rest bad e)

pub gathered-kind : (good : Bool) (others : List FieldValue) (field value : List ℕ) (rest : List (List ℕ)) → name_in field ≡ None → is_empty (value_in field) ≡ false → decoded (value_in field) ≡ Some value → gathered good (Some value) others rest ≡ gathered good None others (field ∷ rest)
unfolding gathered
gathered-kind good others field value rest n t e = rw (n, t, e) refl

two_kinds : (n : ℕ) → nat_lt 1 (suc (suc n)) ≡ true
two_kinds n = grind (arith, nat_tests)

or_last : (a b : Bool) → (a || (b || true)) ≡ true
or_last true b = refl
or_last false b = or_true b

pub gathered-second : (good : Bool) (kind : List ℕ) (others : List FieldValue) (field value : List ℕ) (rest : List (List ℕ)) → name_in field ≡ None → decoded (value_in field) ≡ Some value → gathered false (Some kind) others rest ≡ gathered good (Some kind) others (field ∷ rest)
unfolding gathered
gathered-second good kind others field value rest n e = rw (n, e, two_kinds, or_last) refl

pub fields_of-gathered : (fields : List (List ℕ)) → gathered true None [] fields ≡ fields_of fields
unfolding gathered fields_of
fields_of-gathered fields = refl

-- all were read
pub gathered-end : (kind : Option (List ℕ)) (others : List FieldValue) → gathered true kind others [] ≡ Ok (record { kind = kind; others = others })
unfolding gathered
gathered-end None others = rw (append-nil others) refl
gathered-end (Some kind) others = rw (append-nil others) refl

pub gathered-bad_end : (kind : Option (List ℕ)) (others : List FieldValue) → gathered false kind others [] ≡ Err T07
gathered-bad_end kind others = gathered-refused kind others []

-- ---- the same where the fields aren't kept

pub none_of : {X : Type 0} (o : Option X) → is_some o ≡ false → o ≡ None
none_of None h = refl
none_of (Some x) h = absurd cc

pub some_of : {X : Type 0} (o : Option X) → is_some o ≡ true → (x : X) × (o ≡ Some x)
some_of None h = absurd cc
some_of (Some x) h = (x, refl)

-- a field leads to a kind and others of which this is known
abbrev pub LeadsTo : Bool → Bool → Bool → Option (List ℕ) → List FieldValue → List ℕ → Type 0
LeadsTo has_kind good' good kind others field =
    (kind' : Option (List ℕ)) × (others' : List FieldValue) × (is_some kind' ≡ has_kind)
    × ((rest : List (List ℕ)) → gathered good' kind' others' rest ≡ gathered good kind others (field ∷ rest))

pub noted-escape : (good : Bool) (kind : Option (List ℕ)) (others : List FieldValue) (field : List ℕ) (rest : List (List ℕ)) → is_some (decoded (value_in field)) ≡ false → gathered good kind others (field ∷ rest) ≡ Err T05
noted-escape good kind others field rest d = gathered-escape good kind others field rest (none_of (decoded (value_in field)) d)

pub noted-other : (has_kind good : Bool) (kind : Option (List ℕ)) (others : List FieldValue) (field name : List ℕ) → name_in field ≡ Some name → is_field_name name ≡ true → is_some (decoded (value_in field)) ≡ true → is_some kind ≡ has_kind → LeadsTo has_kind good good kind others field
noted-other has_kind good kind others field name n t d stands =
    let v = some_of (decoded (value_in field)) d in
    (kind, others ++ record { name = name; value = v.0 } ∷ [], stands, λ rest. gathered-other good kind others field name v.0 rest n t v.1)

pub noted-bad_name : (has_kind good : Bool) (kind : Option (List ℕ)) (others : List FieldValue) (field name : List ℕ) → name_in field ≡ Some name → is_field_name name ≡ false → is_some (decoded (value_in field)) ≡ true → is_some kind ≡ has_kind → LeadsTo has_kind false good kind others field
noted-bad_name has_kind good kind others field name n t d stands =
    let v = some_of (decoded (value_in field)) d in
    (kind, others, stands, λ rest. gathered-bad_name good kind others field name v.0 rest n t v.1)

pub noted-empty : (has_kind good : Bool) (kind : Option (List ℕ)) (others : List FieldValue) (field : List ℕ) → name_in field ≡ None → is_empty (value_in field) ≡ true → is_some (decoded (value_in field)) ≡ true → is_some kind ≡ has_kind → LeadsTo has_kind false good kind others field
noted-empty has_kind good kind others field n t d stands =
    let v = some_of (decoded (value_in field)) d in
    (kind, others, stands, λ rest. gathered-empty good kind others field v.0 rest n t v.1)

pub noted-first_kind : (good : Bool) (kind : Option (List ℕ)) (others : List FieldValue) (field : List ℕ) → name_in field ≡ None → is_empty (value_in field) ≡ false → is_some (decoded (value_in field)) ≡ true → is_some kind ≡ false → LeadsTo true good good kind others field
noted-first_kind good None others field n t d stands =
    let v = some_of (decoded (value_in field)) d in
    (Some v.0, others, refl, λ rest. gathered-kind good others field v.0 rest n t v.1)
noted-first_kind good (Some x) others field n t d stands = absurd cc

pub noted-second_kind : (has_kind good : Bool) (kind : Option (List ℕ)) (others : List FieldValue) (field : List ℕ) → name_in field ≡ None → is_some (decoded (value_in field)) ≡ true → has_kind ≡ true → is_some kind ≡ has_kind → LeadsTo has_kind false good kind others field
noted-second_kind has_kind good None others field n d has stands = absurd cc
noted-second_kind has_kind good (Some x) others field n d has stands =
    let v = some_of (decoded (value_in field)) d in
    (Some x, others, stands, λ rest. gathered-second good x others field v.0 rest n v.1)

-- ---- fields without fault

never_by : (t : Bool) → fault_in {A = FieldsValue} (if t then Err T05 else Err T07) ≡ None → ⊥
never_by true h = cc
never_by false h = cc

-- where a field was bad there is a fault
never_bad : (kind : Option (List ℕ)) (others : List FieldValue) (rest : List (List ℕ)) (r : Result FieldsValue Code) → gathered false kind others rest ≡ r → fault_in r ≡ None → ⊥
never_bad kind others rest r e h =
    let refusal : fault_in (refused rest) ≡ None = ap fault_in (sym (gathered-refused kind others rest) ∙ e) ∙ h in
    never_by (list_any has_bad_escape rest) refusal

escape_by : (kind : Option (List ℕ)) (others : List FieldValue) (field : List ℕ) (rest : List (List ℕ)) (o : Option (List ℕ)) → decoded (value_in field) ≡ o → fault_in (gathered true kind others (field ∷ rest)) ≡ None → is_none o ≡ false
escape_by kind others field rest None e h =
    let fault : fault_in (gathered true kind others (field ∷ rest)) ≡ Some T05 = ap fault_in (gathered-escape true kind others field rest e) in
    absurd cc
escape_by kind others field rest (Some value) e h = refl

pub good_escape : (kind : Option (List ℕ)) (others : List FieldValue) (field : List ℕ) (rest : List (List ℕ)) → fault_in (gathered true kind others (field ∷ rest)) ≡ None → has_bad_escape field ≡ false
good_escape kind others field rest h = escape_by kind others field rest (decoded (value_in field)) refl h

other_by : (kind : Option (List ℕ)) (others : List FieldValue) (field name value : List ℕ) (rest : List (List ℕ)) (t : Bool) → is_field_name name ≡ t → name_in field ≡ Some name → decoded (value_in field) ≡ Some value → fault_in (gathered true kind others (field ∷ rest)) ≡ None → gathered true kind (others ++ record { name = name; value = value } ∷ []) rest ≡ gathered true kind others (field ∷ rest)
other_by kind others field name value rest true t n e h = gathered-other true kind others field name value rest n t e
other_by kind others field name value rest false t n e h = absurd (never_bad kind others rest _ (gathered-bad_name true kind others field name value rest n t e) h)

pub good_other : (kind : Option (List ℕ)) (others : List FieldValue) (field name value : List ℕ) (rest : List (List ℕ)) → name_in field ≡ Some name → decoded (value_in field) ≡ Some value → fault_in (gathered true kind others (field ∷ rest)) ≡ None → gathered true kind (others ++ record { name = name; value = value } ∷ []) rest ≡ gathered true kind others (field ∷ rest)
good_other kind others field name value rest n e h = other_by kind others field name value rest (is_field_name name) refl n e h

kind_by : (others : List FieldValue) (field value : List ℕ) (rest : List (List ℕ)) (t : Bool) → is_empty (value_in field) ≡ t → name_in field ≡ None → decoded (value_in field) ≡ Some value → fault_in (gathered true None others (field ∷ rest)) ≡ None → gathered true (Some value) others rest ≡ gathered true None others (field ∷ rest)
kind_by others field value rest true t n e h = absurd (never_bad None others rest _ (gathered-empty true None others field value rest n t e) h)
kind_by others field value rest false t n e h = gathered-kind true others field value rest n t e

pub good_kind : (kind : Option (List ℕ)) (others : List FieldValue) (field value : List ℕ) (rest : List (List ℕ)) → name_in field ≡ None → decoded (value_in field) ≡ Some value → fault_in (gathered true kind others (field ∷ rest)) ≡ None → gathered true (Some value) others rest ≡ gathered true kind others (field ∷ rest)
good_kind None others field value rest n e h = kind_by others field value rest (is_empty (value_in field)) refl n e h
good_kind (Some kind) others field value rest n e h = absurd (never_bad (Some kind) others rest _ (gathered-second true kind others field value rest n e) h)
