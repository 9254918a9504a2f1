-- A fact for each kind of id.
use Rattle.std.proofs.Common.{ℕ, List}
use Rattle.lsif.specs.Element.{IdValue, number, text}

pub each_id : (P : IdValue → Type 0) → ((n : ℕ) → P (number n)) → ((s : List ℕ) → P (text s)) → (i : IdValue) → P i
each_id P of_number of_text (number n) = of_number n
each_id P of_number of_text (text s) = of_text s
