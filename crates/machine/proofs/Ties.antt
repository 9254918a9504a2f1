-- Values that orders tie are the same.
use Rattle.std.proofs.Common.{◌≡◌, ◌∙◌, ℕ, List, ap, sym}
use Rattle.std.specs.Cmp.{unsigned_ties}
use Rattle.std.specs.Ordering.{is_eq, nat_cmp, ordering_then}
use Rattle.std.specs.declared.cmp.Ordering.TheVariants.{Equal}
use Rattle.positions.specs.Position.{PositionValue}
use Rattle.positions.specs.Span.{SpanValue}
use Rattle.dump.specs.Places.{PlaceValue, place_cmp, position_cmp}
use Rattle.machine.specs.FoundTags.{FoundTag, line_cmp}
use Rattle.machine.specs.Projects.{text_cmp}
use Rattle.machine.specs.Answers.{found_cmp}
use Rattle.machine.specs.Reply.{FoundPlace}
use Rattle.machine.specs.Steps.Covers.{inner_order}
use Rattle.machine.proofs.EntryLists.{text_same}
use Rattle.streams.proofs.Bools.{eq_of}
use Rattle.machine.proofs.OneReplies.{then_equal}

pub text_tie : (s t : List ℕ) → text_cmp s t ≡ Equal → s ≡ t
text_tie s t e = text_same s t (ap is_eq e)

pub number_tie : (m n : ℕ) → nat_cmp m n ≡ Equal → m ≡ n
number_tie m n e = eq_of m n (unsigned_ties m n ∙ ap is_eq e)

position_tie : (p q : PositionValue) → position_cmp p q ≡ Equal → p ≡ q
position_tie p q e =
    let both = then_equal (nat_cmp p.line q.line) (nat_cmp p.character q.character) e in
    let line = number_tie p.line q.line both.0 in
    let character = number_tie p.character q.character both.1 in
    λ i. record { line = line i; character = character i }

pub inner_tie : (s t : SpanValue) → inner_order s t ≡ Equal → s ≡ t
inner_tie s t e =
    let both = then_equal (position_cmp t.start s.start) (position_cmp s.«end» t.«end») e in
    let start = sym (position_tie t.start s.start both.0) in
    let last = position_tie s.«end» t.«end» both.1 in
    λ i. record { start = start i; «end» = last i }

place_tie : (a b : PlaceValue) → place_cmp a b ≡ Equal → a ≡ b
place_tie a b e =
    let both = then_equal (text_cmp a.uri b.uri) (ordering_then (position_cmp a.span.start b.span.start) (position_cmp a.span.«end» b.span.«end»)) e in
    let span = then_equal (position_cmp a.span.start b.span.start) (position_cmp a.span.«end» b.span.«end») both.1 in
    let uri = text_tie a.uri b.uri both.0 in
    let start = position_tie a.span.start b.span.start span.0 in
    let last = position_tie a.span.«end» b.span.«end» span.1 in
    λ i. record { uri = uri i; span = record { start = start i; «end» = last i } }

pub found_tie : (a b : FoundPlace) → found_cmp a b ≡ Equal → a ≡ b
found_tie a b e =
    let both = then_equal (text_cmp a.project b.project) (place_cmp a.place b.place) e in
    let project = text_tie a.project b.project both.0 in
    let place = place_tie a.place b.place both.1 in
    λ i. record { project = project i; place = place i }

-- tags of one line of one project tie
pub line_tie : (a b : FoundTag) → line_cmp a b ≡ Equal → (a.project ≡ b.project) × (a.tag.line ≡ b.tag.line)
line_tie a b e =
    let both = then_equal (text_cmp a.project b.project) (nat_cmp a.tag.line b.tag.line) e in
    (text_tie a.project b.project both.0, number_tie a.tag.line b.tag.line both.1)
