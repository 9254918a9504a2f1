-- When a tags file is faulty, and where; and the tags of one that isn't.
use Rattle.std.specs.Prelude.{◌≡◌, ℕ, ◌+◌, ◌-◌, ◌<◌, ◌&&◌, Bool, false, nat_le, List, [], ◌∷◌, length, take, Option, Some, None, is_some, find, unwrap_or, Result, Ok, Err, slice_get}
use Rattle.std.specs.List.{filter_map}
use Rattle.std.specs.Option.{option_map_or}
use Rattle.std.specs.Cmp.Lexicographic.{slice_cmp}
use Rattle.std.specs.Ordering.{is_lt, nat_cmp}
use Rattle.tags.specs.Values.{ContentValue, sorted, other, ordinary, TagValue, numbered}
use Rattle.tags.specs.declared.code.Code.{Code}
use Rattle.tags.specs.declared.code.Code.TheVariants.{T09, T10, T11}

-- what a line says, or the least code of the line alone
abbrev pub Reading : Type 0
Reading = Result ContentValue Code

-- ---- conditions on a line against those before it

-- the last of some things
abbrev pub last_of : {X : Type 0} → List X → Option X
last_of xs = slice_get xs (length xs - 1)

abbrev pub written_in : ContentValue → Option (List ℕ)
written_in (sorted b) = None
written_in other = None
written_in (ordinary written e) = Some written

-- the name, as written, of the last ordinary tag
abbrev pub last_name : List ContentValue → Option (List ℕ)
last_name before = last_of (filter_map written_in before)

abbrev pub sorted_in : ContentValue → Option Bool
sorted_in (sorted b) = Some b
sorted_in other = None
sorted_in (ordinary written e) = None

-- the order of names is checked: the last pseudo-tag `!_TAG_FILE_SORTED` has the value 1
abbrev pub is_sorted : List ContentValue → Bool
is_sorted before = unwrap_or (last_of (filter_map sorted_in before)) false

-- the name is less, by bytes, than the last one
abbrev pub descends : Option (List ℕ) → List ℕ → Bool
descends last written = option_map_or (λ name. is_lt (slice_cmp nat_cmp written name)) last false

-- T09: a pseudo-tag after an ordinary tag; the first argument is the last name
abbrev pub is_late : Option (List ℕ) → ContentValue → Bool
is_late last (sorted b) = is_some last
is_late last other = is_some last
is_late last (ordinary written e) = false

-- T10: the names are sorted, and this one is less than the one before
abbrev pub is_descending : Option (List ℕ) → Bool → ContentValue → Bool
is_descending last checked (sorted b) = false
is_descending last checked other = false
is_descending last checked (ordinary written e) = checked && descends last written

-- how many lines a tags file may have
abbrev pub most_lines : ℕ
most_lines = 100000

-- T11: as many lines come before as a file may have; the argument is their number
abbrev pub is_past_limit : ℕ → Bool
is_past_limit count = nat_le most_lines count

-- the condition of a code on a line, by the last name, whether the order is checked, and the number
-- of lines before
abbrev pub order_condition : Option (List ℕ) → Bool → ℕ → ContentValue → Code → Bool
order_condition last checked count x T09 = is_late last x
order_condition last checked count x T10 = is_descending last checked x
order_condition last checked count x T11 = is_past_limit count
order_condition last checked count x c = false

-- the codes that ask something of the lines before, least first
abbrev pub order_codes : List Code
order_codes = T09 ∷ T10 ∷ T11 ∷ []

-- the least code whose condition holds
abbrev pub order_by : Option (List ℕ) → Bool → ℕ → ContentValue → Option Code
order_by last checked count x = find (order_condition last checked count x) order_codes

-- the same after the lines before it
unfoldable pub order_code : List ContentValue → ContentValue → Option Code
order_code before x = order_by (last_name before) (is_sorted before) (length before) x

-- ---- the first fault

abbrev pub content_in : Reading → Option ContentValue
content_in (Ok x) = Some x
content_in (Err c) = None

-- what the lines say
abbrev pub contents : List Reading → List ContentValue
contents lines = filter_map content_in lines

abbrev pub code_of : List ContentValue → Reading → Option Code
code_of before (Err c) = Some c
code_of before (Ok x) = order_code before x

-- line k, counted from 0, has this least code
abbrev pub HasCode : List Reading → ℕ → Code → Type 0
HasCode lines k c = (line : Reading) × (slice_get lines k ≡ Some line) × (code_of (contents (take k lines)) line ≡ Some c)

-- line k, counted from 0, has no fault
abbrev pub IsGood : List Reading → ℕ → Type 0
IsGood lines k = (c : Code) → HasCode lines k c → ⊥

-- k is the least faulty line, counted from 0, and c its code
pub record IsFirstFault (lines : List Reading) (k : ℕ) (c : Code) : Type 0 where
  pub code : HasCode lines k c
  pub least : (j : ℕ) → j < k → IsGood lines j

-- no line has a fault
abbrev pub IsFaultless : List Reading → Type 0
IsFaultless lines = (k : ℕ) → IsGood lines k

-- ---- the tags

-- the tags of lines of which the first has the number n
abbrev pub tags_from : ℕ → List ContentValue → List TagValue
tags_from n [] = []
tags_from n (sorted b ∷ xs) = tags_from (n + 1) xs
tags_from n (other ∷ xs) = tags_from (n + 1) xs
tags_from n (ordinary written e ∷ xs) = numbered n e ∷ tags_from (n + 1) xs

-- the tags of the ordinary lines, each with its line's number, counted from 1
unfoldable pub tags_of : List ContentValue → List TagValue
tags_of xs = tags_from 1 xs
