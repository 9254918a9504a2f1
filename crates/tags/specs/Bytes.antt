-- The bytes that have a meaning in a tags file.
use Rattle.std.specs.Prelude.{ℕ}

abbrev pub tab : ℕ
tab = 9

abbrev pub line_feed : ℕ
line_feed = 10

abbrev pub double_quote : ℕ
double_quote = 34

abbrev pub slash : ℕ
slash = 47

abbrev pub digit_zero : ℕ
digit_zero = 48

abbrev pub colon : ℕ
colon = 58

abbrev pub semicolon : ℕ
semicolon = 59

abbrev pub question_mark : ℕ
question_mark = 63

abbrev pub backslash : ℕ
backslash = 92

abbrev pub letter_x : ℕ
letter_x = 120
