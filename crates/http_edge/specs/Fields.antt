-- What the fields of a head say of the body that follows it (RFC 9112, sections 5 and 6).
use Rattle.std.specs.Prelude.{ℕ, Bool, ◌&&◌, List, [], ◌∷◌, map, length, codes, if◌then◌else◌, nat_lt, nat_le, Result, Ok, Err}
use Rattle.std.specs.List.{list_all}
use Rattle.std.specs.Char.{to_ascii_lowercase, is_ascii_digit}
use Rattle.std.specs.Str.{bytes_eq}
use Rattle.std.specs.Str.Parse.{digits_value}
use Rattle.http_edge.specs.Limits.{body_limit, digits_limit}
use Rattle.http_edge.specs.Values.{Values, absent, single, several, values}
use Rattle.http_edge.specs.declared.refusal.Refusal.{Refusal}
use Rattle.http_edge.specs.declared.refusal.Refusal.TheVariants.{BadHead, LengthRequired, BodyTooLarge, TransferCoding}

-- a field's name and its value
abbrev pub Pair : Type 0
Pair = List ℕ × List ℕ

-- two names are the same, whatever their ASCII case
abbrev pub same_name : List ℕ → List ℕ → Bool
same_name a b = bytes_eq (map to_ascii_lowercase a) (map to_ascii_lowercase b)

-- the values of the fields of that name, in order
unfoldable pub field_values : List ℕ → List Pair → List (List ℕ)
field_values name [] = []
field_values name (field ∷ fields) =
    if same_name field.0 name then field.1 ∷ field_values name fields else field_values name fields

-- decimal digits, at least one and not too many
abbrev pub is_length : List ℕ → Bool
is_length text = nat_lt 0 (length text) && nat_le (length text) digits_limit && list_all is_ascii_digit text

abbrev pub limited : ℕ → Result ℕ Refusal
limited n = if nat_lt body_limit n then Err BodyTooLarge else Ok n

-- the body's length by the values of `Content-Length`: a PUT has to have one
abbrev pub content_length : Bool → Values → Result ℕ Refusal
content_length is_put absent = if is_put then Err LengthRequired else Ok 0
content_length is_put (single text) = if is_length text then limited (digits_value 10 text) else Err BadHead
content_length is_put several = Err BadHead

-- the same, where there is no `Transfer-Encoding`
abbrev pub without_coding : Values → Result ℕ Refusal → Result ℕ Refusal
without_coding absent length = length
without_coding (single text) length = Err TransferCoding
without_coding several length = Err TransferCoding

-- the length of the body that follows a head with these fields
abbrev pub body_length : Bool → List Pair → Result ℕ Refusal
body_length is_put fields =
    without_coding (values (field_values (codes "transfer-encoding") fields))
    (content_length is_put (values (field_values (codes "content-length") fields)))
