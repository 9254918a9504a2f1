-- A text that begins with another.
use Rattle.std.proofs.Common.{◌≡◌, ◌∙◌, ◌++◌, ℕ, nat_eq, true, List, [], ◌∷◌, length, take, drop, refl, sym, ap}
use Rattle.std.specs.Cmp.Lexicographic.{pointwise}
use Rattle.std.specs.List.{starts_with}
use Rattle.std.proofs.lemmas.List.{take-append-drop}
use Rattle.std.proofs.lemmas.Slice.Eq.{bytes_eq-Decides}
use Rattle.machine.specs.FoundTags.{BeginsWith}
use Rattle.streams.proofs.Lists.{text_eq}

pub begins : (start name : List ℕ) → starts_with nat_eq name start ≡ true → BeginsWith name start
begins start name e =
    let same : start ≡ take (length start) name = text_eq start (take (length start) name) e in
    (drop (length start) name, sym (take-append-drop (length start) name) ∙ ap (λ t. t ++ drop (length start) name) (sym same))

take_front : (xs ys : List ℕ) → take (length xs) (xs ++ ys) ≡ xs
take_front [] ys = refl
take_front (x ∷ xs) ys = ap (λ l. x ∷ l) (take_front xs ys)

pub begun : (start name : List ℕ) → BeginsWith name start → starts_with nat_eq name start ≡ true
begun start name (rest, e) =
    let front : take (length start) name ≡ start = ap (take (length start)) e ∙ take_front start rest in
    ap (pointwise nat_eq start) front ∙ (bytes_eq-Decides start start).1 refl
