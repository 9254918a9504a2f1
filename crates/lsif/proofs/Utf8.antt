-- What `serde_json` reads of bytes that are text, and of bytes that aren't.
use Rattle.std.proofs.Common.{◌≡◌, ℕ, List, None, true, refl}
use Rattle.std.specs.Str.{IsUtf8, is_utf8}
use Rattle.std.proofs.lemmas.Str.{IsUtf8-from_is_utf8, is_utf8-from_IsUtf8}
use Rattle.std.proofs.lemmas.Bool.{false_from_ne_true}
use Rattle.serde_json.specs.Read.{read}
use Rattle.lsif.specs.Reading.{json_of}

pub json_of-text : (line : List ℕ) → IsUtf8 line → json_of line ≡ read line
json_of-text line h = let e : is_utf8 line ≡ true = is_utf8-from_IsUtf8 line h in rw e refl

pub json_of-no_text : (line : List ℕ) → ¬ IsUtf8 line → json_of line ≡ None
json_of-no_text line h = rw (false_from_ne_true (is_utf8 line) (λ e. h (IsUtf8-from_is_utf8 line e))) refl

pub ruleset texts = (json_of-text, json_of-no_text)
