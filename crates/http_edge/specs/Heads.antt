-- The head of a request: where it ends, and what it says (RFC 9112, sections 2 to 6).
use Rattle.std.specs.Prelude.{◌≡◌, ℕ, ◌<◌, ◌≤◌, ◌⊎◌, Bool, true, false, ◌&&◌, List, [], ◌∷◌, length, take, drop, map, Option, Some, None, Result, Ok, Err, option_map, count_by, codes, if◌then◌else◌, ◌==◌, nat_lt, nat_eq, suc}
use Rattle.std.specs.Cmp.Lexicographic.{pointwise}
use Rattle.httparse.specs.Grammar.{RequestHead, ReadsRequest}
use Rattle.httparse.specs.Spans.{name_and_value}
use Rattle.http_edge.specs.Fields.{body_length}
use Rattle.http_edge.specs.Limits.{head_limit, line_limit, field_limit}
use Rattle.http_edge.specs.declared.refusal.Refusal.{Refusal}
use Rattle.http_edge.specs.declared.refusal.Refusal.TheVariants.{BadHead, HeadTooLarge}

-- two texts are the same
abbrev pub same : List ℕ → List ℕ → Bool
same a b = pointwise nat_eq a b

-- the bytes begin with the end of a line and an empty line: CR LF CR LF
abbrev pub is_end : List ℕ → Bool
is_end (a ∷ b ∷ c ∷ d ∷ rest) = (a == 13) && (b == 10) && (c == 13) && (d == 10)
is_end (a ∷ b ∷ c ∷ []) = false
is_end (a ∷ b ∷ []) = false
is_end (a ∷ []) = false
is_end [] = false

-- the length of the head at the front: up to and with the first CR LF CR LF
unfoldable pub find_head : List ℕ → Option ℕ
find_head [] = None
find_head (b ∷ bytes) = if is_end (b ∷ bytes) then Some 4 else option_map suc (find_head bytes)

-- what a head says: a refusal, or a method, a target and the length of the body
pub data HeadValue : Type 0 where
  rejected : Refusal → HeadValue
  request_head : List ℕ → List ℕ → ℕ → HeadValue

-- these bytes are the head, whole, with few enough fields
abbrev pub IsHead : List ℕ → RequestHead → Type 0
IsHead bytes h = ReadsRequest bytes h [] × (length h.fields ≤ field_limit)

abbrev pub with_length : List ℕ → List ℕ → Result ℕ Refusal → HeadValue
with_length method target (Ok len) = request_head method target len
with_length method target (Err refusal) = rejected refusal

-- what a head of the grammar says
abbrev pub said_by : RequestHead → HeadValue
said_by h = with_length h.method h.target (body_length (same h.method (codes "PUT")) (map name_and_value h.fields))

-- what a head of few enough lines says: it's bad where it's none of the grammar
abbrev pub IsSaidBy : List ℕ → HeadValue → Type 0
IsSaidBy head value =
    ((h : RequestHead) × IsHead head h × (value ≡ said_by h))
    ⊎ (((h : RequestHead) → IsHead head h → ⊥) × (value ≡ rejected BadHead))

abbrev pub lines_in : List ℕ → ℕ
lines_in head = count_by (λ b. b == 10) head

abbrev pub SaysAt : Bool → List ℕ → HeadValue → Type 0
SaysAt true head value = value ≡ rejected HeadTooLarge
SaysAt false head value = IsSaidBy head value

-- what a head says
abbrev pub Says : List ℕ → HeadValue → Type 0
Says head value = SaysAt (nat_lt line_limit (lines_in head)) head value

abbrev pub SettlesHeadAt : Option ℕ → List ℕ → HeadValue → List ℕ → Type 0
SettlesHeadAt (Some n) bytes value rest = Says (take n bytes) value × (rest ≡ drop n bytes)
SettlesHeadAt None bytes value rest = (head_limit ≤ length bytes) × (value ≡ rejected HeadTooLarge) × (rest ≡ bytes)

-- these bytes settle what the first head says, whatever follows them
unfoldable pub SettlesHead : List ℕ → HeadValue → List ℕ → Type 0
SettlesHead bytes value rest = SettlesHeadAt (find_head (take head_limit bytes)) bytes value rest

-- they don't: the head hasn't ended, and still may
abbrev pub IsHeadUnended : List ℕ → Type 0
IsHeadUnended bytes = (length bytes < head_limit) × (find_head bytes ≡ None)
