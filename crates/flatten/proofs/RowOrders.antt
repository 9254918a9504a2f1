-- The orders of rows, and when rows are one.
use Rattle.std.proofs.Common.{◌≡◌, ◌∙◌, arith, Bool, true, false, List, [], ◌∷◌, nat_eq, refl}
use Rattle.std.specs.Prelude.{ℕ, ◌==◌, ◌&&◌}
use Rattle.std.specs.Rc.{rc_str_bytes}
use Rattle.std.specs.Cmp.{IsTotalOrder, back_total, both_tied, first_so, second_so, then_total, on_total, nat_cmp_total, unsigned_ties}
use Rattle.std.specs.Cmp.Lexicographic.{on_texts, texts_ties, pointwise, slice_cmp}
use Rattle.std.specs.Ordering.{eq_by_cmp, is_eq, nat_cmp, ordering_then}
use Rattle.lsif.specs.contracts.element.MonikerKindPartialEq.TheImpl as kind_eq
use Rattle.lsif.specs.declared.element.MonikerKind.{MonikerKind}
use Rattle.lsif.specs.declared.element.MonikerKind.TheVariants.{Import, Export, Local}
use Rattle.positions.specs.Position.{PositionValue}
use Rattle.positions.specs.Span.{SpanValue}
use Rattle.dump.specs.Places.{PlaceValue, place_cmp, position_cmp}
use Rattle.dump.specs.contracts.role.RolePartialEq.TheImpl as role_eq
use Rattle.dump.specs.declared.role.Role.{Role}
use Rattle.dump.specs.declared.role.Role.TheVariants.{Definitions, References}
use Rattle.dump.proofs.OnePicks.{place_total}
use Rattle.flatten.specs.declared.parents.Interval.{Interval}
use Rattle.flatten.specs.declared.rows.DocRow.{DocRow}
use Rattle.flatten.specs.declared.rows.MarkRow.{MarkRow}
use Rattle.flatten.specs.Flat.{MarkRowValue, ItemRowValue, item_cmp, kind_index, mark_cmp, role_index}
use Rattle.flatten.specs.Rows.{document_value, mark_value}
use Rattle.flatten.specs.Steps.Parents.{interval_cmp, interval_value}
use Rattle.streams.proofs.Bools.{eq_of}
use Rattle.dump.proofs.Listing.{under}

pub text_eq : (xs ys : List ℕ) → pointwise nat_eq xs ys ≡ true → xs ≡ ys
text_eq [] [] e = refl
text_eq [] (y ∷ ys) e = cc
text_eq (x ∷ xs) [] e = cc
text_eq (x ∷ xs) (y ∷ ys) e = let h = eq_of x y (first_so (x == y) (pointwise nat_eq xs ys) e) in let t = text_eq xs ys (second_so (x == y) (pointwise nat_eq xs ys) e) in λ i. h i ∷ t i

-- ---- documents

abbrev pub same_document : DocRow → DocRow → Bool
same_document a b = pointwise nat_eq a.uri.now b.uri.now

pub document_total : IsTotalOrder (under document_value (slice_cmp nat_cmp))
document_total = on_texts (λ (r : DocRow). r.uri.now)

pub document_ties : (x y : DocRow) → same_document x y ≡ eq_by_cmp (under document_value (slice_cmp nat_cmp)) x y
document_ties x y = texts_ties x.uri.now y.uri.now

pub document_same : (x y : DocRow) → same_document x y ≡ true → document_value x ≡ document_value y
document_same x y e = text_eq x.uri.now y.uri.now e

-- ---- positions and spans

abbrev same_position : PositionValue → PositionValue → Bool
same_position p q = (p.line == q.line) && (p.character == q.character)

abbrev pub same_span : SpanValue → SpanValue → Bool
same_span s t = same_position s.start t.start && same_position s.«end» t.«end»

position_ties : (p q : PositionValue) → same_position p q ≡ is_eq (position_cmp p q)
position_ties p q = both_tied (p.line == q.line) (p.character == q.character) (nat_cmp p.line q.line) (nat_cmp p.character q.character) (unsigned_ties p.line q.line) (unsigned_ties p.character q.character)

position_same : (p q : PositionValue) → same_position p q ≡ true → p ≡ q
position_same p q e =
    let a = eq_of p.line q.line (first_so (p.line == q.line) (p.character == q.character) e) in
    let b = eq_of p.character q.character (second_so (p.line == q.line) (p.character == q.character) e) in
    λ i. record { line = a i; character = b i }

span_same : (s t : SpanValue) → same_span s t ≡ true → s ≡ t
span_same s t e =
    let a = position_same s.start t.start (first_so (same_position s.start t.start) (same_position s.«end» t.«end») e) in
    let b = position_same s.«end» t.«end» (second_so (same_position s.start t.start) (same_position s.«end» t.«end») e) in
    λ i. record { start = a i; «end» = b i }

abbrev pub same_place : PlaceValue → PlaceValue → Bool
same_place a b = pointwise nat_eq a.uri b.uri && same_span a.span b.span

pub place_ties : (a b : PlaceValue) → same_place a b ≡ is_eq (place_cmp a b)
place_ties a b =
    both_tied (pointwise nat_eq a.uri b.uri) (same_span a.span b.span) (slice_cmp nat_cmp a.uri b.uri) (ordering_then (position_cmp a.span.start b.span.start) (position_cmp a.span.«end» b.span.«end»)) (texts_ties a.uri b.uri)
    (both_tied (same_position a.span.start b.span.start) (same_position a.span.«end» b.span.«end») (position_cmp a.span.start b.span.start) (position_cmp a.span.«end» b.span.«end») (position_ties a.span.start b.span.start) (position_ties a.span.«end» b.span.«end»))

pub place_same : (a b : PlaceValue) → same_place a b ≡ true → a ≡ b
place_same a b e =
    let u = text_eq a.uri b.uri (first_so (pointwise nat_eq a.uri b.uri) (same_span a.span b.span) e) in
    let s = span_same a.span b.span (second_so (pointwise nat_eq a.uri b.uri) (same_span a.span b.span) e) in
    λ i. record { uri = u i; span = s i }

-- ---- items

abbrev same_role : Role → Role → Bool
same_role r s = role_eq.ghosts.eq r s

role_ties : (r s : Role) → same_role r s ≡ is_eq (nat_cmp (role_index r) (role_index s))
role_ties Definitions Definitions = refl
role_ties Definitions References = refl
role_ties References Definitions = refl
role_ties References References = refl

role_same : (r s : Role) → same_role r s ≡ true → r ≡ s
role_same Definitions Definitions e = refl
role_same Definitions References e = cc
role_same References Definitions e = cc
role_same References References e = refl

abbrev same_item : ItemRowValue → ItemRowValue → Bool
same_item a b = (a.result == b.result) && (same_role a.role b.role && same_place a.place b.place)

pub item_total : {X : Type 0} (f : X → ItemRowValue) → IsTotalOrder (under f item_cmp)
item_total f = on_total f (then_total (on_total (λ (r : ItemRowValue). r.result) nat_cmp_total) (then_total (on_total (λ (r : ItemRowValue). role_index r.role) nat_cmp_total) (on_total (λ (r : ItemRowValue). r.place) place_total)))

item_ties : (x y : ItemRowValue) → same_item x y ≡ is_eq (item_cmp x y)
item_ties x y =
    both_tied (x.result == y.result) (same_role x.role y.role && same_place x.place y.place) (nat_cmp x.result y.result) (ordering_then (nat_cmp (role_index x.role) (role_index y.role)) (place_cmp x.place y.place)) (unsigned_ties x.result y.result)
    (both_tied (same_role x.role y.role) (same_place x.place y.place) (nat_cmp (role_index x.role) (role_index y.role)) (place_cmp x.place y.place) (role_ties x.role y.role) (place_ties x.place y.place))

-- rows that tie in the order are equal
pub item_same : (x y : ItemRowValue) → is_eq (item_cmp x y) ≡ true → x ≡ y
item_same x y tied =
    let e : same_item x y ≡ true = item_ties x y ∙ tied in
    let a = eq_of x.result y.result (first_so (x.result == y.result) (same_role x.role y.role && same_place x.place y.place) e) in
    let f = second_so (x.result == y.result) (same_role x.role y.role && same_place x.place y.place) e in
    let b = role_same x.role y.role (first_so (same_role x.role y.role) (same_place x.place y.place) f) in
    let c = place_same x.place y.place (second_so (same_role x.role y.role) (same_place x.place y.place) f) in
    λ i. record { result = a i; role = b i; place = c i }

-- ---- marks

abbrev same_kind : MonikerKind → MonikerKind → Bool
same_kind j k = kind_eq.ghosts.eq j k

kind_ties : (j k : MonikerKind) → same_kind j k ≡ is_eq (nat_cmp (kind_index j) (kind_index k))
kind_ties Import Import = refl
kind_ties Import Export = refl
kind_ties Import Local = refl
kind_ties Export Import = refl
kind_ties Export Export = refl
kind_ties Export Local = refl
kind_ties Local Import = refl
kind_ties Local Export = refl
kind_ties Local Local = refl

kind_same : (j k : MonikerKind) → same_kind j k ≡ true → j ≡ k
kind_same Import Import e = refl
kind_same Import Export e = cc
kind_same Import Local e = cc
kind_same Export Import e = cc
kind_same Export Export e = refl
kind_same Export Local e = cc
kind_same Local Import e = cc
kind_same Local Export e = cc
kind_same Local Local e = refl

abbrev pub same_mark : MarkRow → MarkRow → Bool
same_mark a b = (a.range == b.range) && (same_kind a.kind b.kind && pointwise nat_eq (rc_str_bytes a.key) (rc_str_bytes b.key))

pub mark_total : IsTotalOrder (under mark_value mark_cmp)
mark_total = then_total (on_total (λ (r : MarkRow). r.range) nat_cmp_total) (then_total (on_total (λ (r : MarkRow). kind_index r.kind) nat_cmp_total) (on_texts (λ (r : MarkRow). rc_str_bytes r.key)))

-- marks of two numbers, by their parts
pub parts_tie : (a b : ℕ) (j k : MonikerKind) (s t : List ℕ)
    → ((a == b) && (same_kind j k && pointwise nat_eq s t)) ≡ is_eq (ordering_then (nat_cmp a b) (ordering_then (nat_cmp (kind_index j) (kind_index k)) (slice_cmp nat_cmp s t)))
parts_tie a b j k s t =
    both_tied (a == b) (same_kind j k && pointwise nat_eq s t) (nat_cmp a b) (ordering_then (nat_cmp (kind_index j) (kind_index k)) (slice_cmp nat_cmp s t)) (unsigned_ties a b)
    (both_tied (same_kind j k) (pointwise nat_eq s t) (nat_cmp (kind_index j) (kind_index k)) (slice_cmp nat_cmp s t) (kind_ties j k) (texts_ties s t))

pub parts_same : (a b : ℕ) (j k : MonikerKind) (s t : List ℕ) → ((a == b) && (same_kind j k && pointwise nat_eq s t)) ≡ true
    → ◌≡◌ {A = MarkRowValue} (record { range = a; kind = j; key = s }) (record { range = b; kind = k; key = t })
parts_same a b j k s t e =
    let numbers = eq_of a b (first_so (a == b) (same_kind j k && pointwise nat_eq s t) e) in
    let f = second_so (a == b) (same_kind j k && pointwise nat_eq s t) e in
    let kinds = kind_same j k (first_so (same_kind j k) (pointwise nat_eq s t) f) in
    let texts = text_eq s t (second_so (same_kind j k) (pointwise nat_eq s t) f) in
    λ i. record { range = numbers i; kind = kinds i; key = texts i }

pub mark_ties : (x y : MarkRow) → same_mark x y ≡ eq_by_cmp (under mark_value mark_cmp) x y
mark_ties x y = parts_tie x.range y.range x.kind y.kind (rc_str_bytes x.key) (rc_str_bytes y.key)

pub mark_same : (x y : MarkRow) → same_mark x y ≡ true → mark_value x ≡ mark_value y
mark_same x y = parts_same x.range y.range x.kind y.kind (rc_str_bytes x.key) (rc_str_bytes y.key)

-- ---- intervals

abbrev pub same_interval : Interval → Interval → Bool
same_interval a b = (a.document == b.document) && ((a.range == b.range) && ((a.start == b.start) && (a.«end» == b.«end»)))

second_last : (a b c d : Bool) → (a && (b && (c && d))) ≡ (a && (c && (d && b)))
second_last false b c d = refl
second_last true true true true = refl
second_last true true true false = refl
second_last true true false d = refl
second_last true false true true = refl
second_last true false true false = refl
second_last true false false d = refl

pub interval_total : IsTotalOrder (under interval_value interval_cmp)
interval_total =
    then_total (on_total (λ (s : Interval). s.document) nat_cmp_total)
    (then_total (on_total (λ (s : Interval). s.start) nat_cmp_total) (then_total (back_total (on_total (λ (s : Interval). s.«end») nat_cmp_total)) (on_total (λ (s : Interval). s.range) nat_cmp_total)))

back_ties : (m n : ℕ) → (m == n) ≡ is_eq (nat_cmp n m)
back_ties m n = grind arith ∙ unsigned_ties n m

pub interval_ties : (x y : Interval) → same_interval x y ≡ eq_by_cmp (under interval_value interval_cmp) x y
interval_ties x y =
    second_last (x.document == y.document) (x.range == y.range) (x.start == y.start) (x.«end» == y.«end») ∙ both_tied _ _ (nat_cmp x.document y.document) _ (unsigned_ties x.document y.document)
    (both_tied _ _ (nat_cmp x.start y.start) _ (unsigned_ties x.start y.start)
    (both_tied _ _ (nat_cmp y.«end» x.«end») _ (back_ties x.«end» y.«end») (unsigned_ties x.range y.range)))

pub interval_same : (x y : Interval) → same_interval x y ≡ true → interval_value x ≡ interval_value y
interval_same x y e =
    let a = eq_of x.document y.document (first_so _ _ e) in
    let f = second_so (x.document == y.document) _ e in
    let h = eq_of x.range y.range (first_so _ _ f) in
    let g = second_so (x.range == y.range) _ f in
    let b = eq_of x.start y.start (first_so _ _ g) in
    let c = eq_of x.«end» y.«end» (second_so (x.start == y.start) _ g) in
    λ i. record { document = a i; first = b i; last = c i; range = h i }
