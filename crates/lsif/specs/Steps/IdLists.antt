-- The ids that a list of them holds (LSIF 0.6.0, "Id"): an entry for each, and the texts of those
-- that are texts, one after the other.
use Rattle.std.specs.Prelude.{◌≡◌, ◌-◌, ℕ, List, [], ◌∷◌, take, drop, nat_lt, Option, Some, None, if◌then◌else◌}
use Rattle.std.specs.Str.{IsCharBoundary}
use Rattle.lsif.specs.IdValues.{IdValue, number, text, greatest_id}

-- an entry is a number; or, beyond the greatest, the length of a text, in bytes
abbrev pub text_length : ℕ → Option ℕ
text_length entry = if nat_lt greatest_id entry then Some (entry - greatest_id) else None

abbrev pub ids_by : Option ℕ → ℕ → List ℕ → (List ℕ → List IdValue) → List IdValue
ids_by None entry texts later = number entry ∷ later texts
ids_by (Some n) entry texts later = text (take n texts) ∷ later (drop n texts)

-- the ids of these entries, whose texts these are
unfoldable pub ids_of : List ℕ → List ℕ → List IdValue
ids_of [] texts = []
ids_of (entry ∷ entries) texts = ids_by (text_length entry) entry texts (ids_of entries)

abbrev pub IsCutBy : Option ℕ → List ℕ → (List ℕ → Type 0) → Type 0
IsCutBy None texts later = later texts
IsCutBy (Some n) texts later = IsCharBoundary texts n × later (drop n texts)

-- the texts of these entries are whole characters, and nothing is after the last
unfoldable pub AreCut : List ℕ → List ℕ → Type 0
AreCut [] texts = texts ≡ []
AreCut (entry ∷ entries) texts = IsCutBy (text_length entry) texts (AreCut entries)
