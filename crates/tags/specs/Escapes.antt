-- How a name, a file, a kind and the value of a field are written: tags(5), "Proposal", on tagname
-- and tagfield, with the escapes of "Exceptions in Universal Ctags".
use Rattle.std.specs.Prelude.{ℕ, ◌+◌, ◌*◌, ◌==◌, ◌&&◌, nat_lt, List, [], ◌∷◌, Option, Some, None, option_map, option_and_then, if◌then◌else◌}
use Rattle.std.specs.Char.{digit_value}
use Rattle.tags.specs.Bytes.{backslash, letter_x}

-- the byte that a backslash and a letter represent
unfoldable pub letter_value : ℕ → Option ℕ
letter_value c =
    if c == 116 then Some 9  -- \t
    else if c == 114 then Some 13  -- \r
    else if c == 110 then Some 10  -- \n
    else if c == 92 then Some 92  -- \\
    else if c == 97 then Some 7  -- \a
    else if c == 98 then Some 8  -- \b
    else if c == 118 then Some 11  -- \v
    else if c == 102 then Some 12  -- \f
    else None

-- from 01 to 7F
abbrev pub in_ascii : ℕ → Option ℕ
in_ascii n = if nat_lt 0 n && nat_lt n 128 then Some n else None

-- the byte that \x and two hexadecimal digits of either case represent
unfoldable pub hex_value : ℕ → ℕ → Option ℕ
hex_value high low =
    if nat_lt (digit_value high) 16 && nat_lt (digit_value low) 16
    then in_ascii (digit_value high * 16 + digit_value low)
    else None

-- a byte in front of what is read of the rest
abbrev pub onto : ℕ → Option (List ℕ) → Option (List ℕ)
onto b rest = option_map (λ bs. b ∷ bs) rest

unfoldable mutual
  -- the text that is written so, unless a backslash begins no escape
  pub decoded : List ℕ → Option (List ℕ)
  decoded [] = Some []
  decoded (b ∷ bs) = if b == backslash then after_backslash bs else onto b (decoded bs)

  pub after_backslash : List ℕ → Option (List ℕ)
  after_backslash [] = None
  after_backslash (c ∷ cs) = if c == letter_x then after_x cs else option_and_then (λ v. onto v (decoded cs)) (letter_value c)

  pub after_x : List ℕ → Option (List ℕ)
  after_x [] = None
  after_x (high ∷ bs) = after_digit high bs

  pub after_digit : ℕ → List ℕ → Option (List ℕ)
  after_digit high [] = None
  after_digit high (low ∷ bs) = option_and_then (λ v. onto v (decoded bs)) (hex_value high low)
