-- Which labels of requests profile 1 has, and that a line without a label that profile 2 adds is
-- read alike in both profiles.
use Rattle.std.proofs.Common.{◌≡◌, ℕ, List, Option, Some, None, Err, Bool, true, false, codes, bytes_eq, nat_lt, length, refl, ap, inl, inr, if◌then◌else◌}
use Rattle.std.specs.Prelude.{IfSome, option_and_then}
use Rattle.std.proofs.lemmas.Slice.Eq.{bytes_eq-Decides}
use Rattle.std.proofs.lemmas.Bool.{false_from_ne_true}
use Rattle.serde_json.specs.Data.{Data}
use Rattle.lsif.specs.Element.{IdValue}
use Rattle.lsif.specs.Ids.{id_at, text_at}
use Rattle.lsif.specs.Shape.{◌>>=◌, some_or}
use Rattle.lsif.specs.Vertices.{vertex_label}
use Rattle.lsif.specs.Edges.{edge_label}
use Rattle.lsif.specs.Reading.{element_by, element_in, longest_line, json_of, reading, IsAddedLabel, HasNoAddedLabel, IsLabelInOne, IsOfProfileOne, IsOtherLabel}
use Rattle.lsif.specs.declared.profile.Profile.TheVariants.{One, Two}
use Rattle.lsif.specs.declared.request_kind.RequestKind.{RequestKind}
use Rattle.lsif.specs.declared.request_kind.RequestKind.TheVariants.{Definition, References, Hover}
use Rattle.lsif.specs.declared.code.Code.TheVariants.{L01, L02, L03, L05}

-- ---- the labels of profile 1

abbrev first_of : Bool → Bool → Bool → Option RequestKind
first_of a b c = if a then Some Definition else if b then Some References else if c then Some Hover else None

of_first : (a b c : Bool) (kind : RequestKind) → first_of a b c ≡ Some kind → IsOfProfileOne kind
of_first true b c kind e = inl (let h = e in cc)
of_first false true c kind e = inr (inl (let h = e in cc))
of_first false false true kind e = inr (inr (let h = e in cc))
of_first false false false kind e = let h : ◌≡◌ {A = Option RequestKind} None (Some kind) = e in cc

pub of_profile_one : (kind : RequestKind) (text : List ℕ) → IsLabelInOne kind text → IsOfProfileOne kind
of_profile_one kind text (inl e) = of_first (bytes_eq text (codes "definitionResult")) (bytes_eq text (codes "referenceResult")) (bytes_eq text (codes "hoverResult")) kind e
of_profile_one kind text (inr e) =
    of_first (bytes_eq text (codes "textDocument/definition")) (bytes_eq text (codes "textDocument/references")) (bytes_eq text (codes "textDocument/hover")) kind e

-- ---- those that profile 2 adds

differs : (text label : List ℕ) → ¬ (text ≡ label) → bytes_eq text label ≡ false
differs text label h = false_from_ne_true (bytes_eq text label) (λ e. h ((bytes_eq-Decides text label).0 e))

same_vertex_label : (text : List ℕ) → ¬ IsAddedLabel text → vertex_label Two text ≡ vertex_label One text
same_vertex_label text h =
    rw (differs text (codes "declarationResult") (λ e. h (inl e)), differs text (codes "implementationResult") (λ e. h (inr (inl e)))) refl

same_edge_label : (text : List ℕ) → ¬ IsAddedLabel text → edge_label Two text ≡ edge_label One text
same_edge_label text h =
    rw (
      differs text (codes "textDocument/declaration") (λ e. h (inr (inr (inl e)))),
      differs text (codes "textDocument/implementation") (λ e. h (inr (inr (inr e)))),
    ) refl

pub added_is_other : (text : List ℕ) → IsAddedLabel text → IsOtherLabel text
added_is_other text h =
    elim h [
      | inl e ↦ rw e (refl, refl)
      | inr (inl e) ↦ rw e (refl, refl)
      | inr (inr (inl e)) ↦ rw e (refl, refl)
      | inr (inr (inr e)) ↦ rw e (refl, refl)
    ]

-- ---- one step after another

with_label : (kind : List ℕ) (i : IdValue) (d : Data) (label : Option (List ℕ)) → IfSome label (λ text. ¬ IsAddedLabel text)
    → (some_or L05 label >>= λ text. element_by Two kind i text d) ≡ (some_or L05 label >>= λ text. element_by One kind i text d)
with_label kind i d None h = refl
with_label kind i d (Some text) h = rw (same_vertex_label text h, same_edge_label text h) refl

with_kind : (kind : Option (List ℕ)) (i : IdValue) (d : Data) (label : Option (List ℕ)) → IfSome label (λ text. ¬ IsAddedLabel text)
    → (some_or L05 kind >>= λ k. some_or L05 label >>= λ text. element_by Two k i text d)
    ≡ (some_or L05 kind >>= λ k. some_or L05 label >>= λ text. element_by One k i text d)
with_kind None i d label h = refl
with_kind (Some k) i d label h = with_label k i d label h

with_id : (i : Option IdValue) (kind : Option (List ℕ)) (d : Data) (label : Option (List ℕ)) → IfSome label (λ text. ¬ IsAddedLabel text)
    → (some_or L03 i >>= λ i. some_or L05 kind >>= λ k. some_or L05 label >>= λ text. element_by Two k i text d)
    ≡ (some_or L03 i >>= λ i. some_or L05 kind >>= λ k. some_or L05 label >>= λ text. element_by One k i text d)
with_id None kind d label h = refl
with_id (Some i) kind d label h = with_kind kind i d label h

same_element : (d : Data) → IfSome (text_at (codes "label") d) (λ text. ¬ IsAddedLabel text) → element_in Two d ≡ element_in One d
unfolding element_in
same_element d h = with_id (id_at (codes "id") d) (text_at (codes "type") d) d (text_at (codes "label") d) h

with_json : (found : Option Data) → IfSome (option_and_then (text_at (codes "label")) found) (λ text. ¬ IsAddedLabel text)
    → (some_or L02 found >>= λ d. element_in Two d) ≡ (some_or L02 found >>= λ d. element_in One d)
with_json None h = refl
with_json (Some d) h = same_element d h

-- ---- the law

pub same_reading : (line : List ℕ) → HasNoAddedLabel line → reading Two line ≡ reading One line
unfolding reading
same_reading line h =
    ap (λ r. if nat_lt longest_line (length line) then Err L01 else r) (with_json (json_of line) h)
