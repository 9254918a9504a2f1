-- What lines of the grammar say, and lines that aren't of it.
use Rattle.std.proofs.Common.{◌≡◌, ◌∙◌, ℕ, List, ◌∷◌, ◌++◌, Option, Some, None, Err, refl, ap}
use Rattle.tags.specs.Bytes.{tab}
use Rattle.tags.specs.Steps.Cutting.{Front, Tail, front_of, tail_of}
use Rattle.tags.specs.Grammar.{TagLine, line_of, IsName, IsTagLine, Spells, HasFront}
use Rattle.tags.specs.Steps.Reading.{ordinary_of}
use Rattle.tags.specs.Steps.Said.{said_by, said_without_address}
use Rattle.tags.specs.declared.code.Code.TheVariants.{T04}
use Rattle.tags.proofs.CutLemmas.{front_of-front, front_of-line, tail_of-tail, each_field-joined, tail_of-tree, HasFront-front_of}

pub ordinary_of-line : (t : TagLine) → IsTagLine t → ordinary_of (line_of t) ≡ said_by t
unfolding ordinary_of
ordinary_of-line t h = simp (front_of-line t h, tail_of-tail t.address t.fields h.address, each_field-joined t.fields h.fields) refl

front_by_cases : (line : List ℕ) (o : Option Front) → front_of line ≡ o → (HasFront line → ⊥) → o ≡ None
front_by_cases line None e no_front = refl
front_by_cases line (Some f) e no_front = absurd (no_front (HasFront-front_of line f e))

pub ordinary_of-no_front : (line : List ℕ) → (HasFront line → ⊥) → ordinary_of line ≡ Err T04
unfolding ordinary_of
ordinary_of-no_front line no_front = let none : front_of line ≡ None = front_by_cases line (front_of line) refl no_front in rw none refl

no_tail : (line : List ℕ) (f : Front) (o : Option Tail) → front_of line ≡ Some f → tail_of f.rest ≡ o → ((t : TagLine) → Spells t line → ⊥) → o ≡ None
no_tail line f None e h no_tree = refl
no_tail line f (Some t) e h no_tree = let cut = tail_of-tree line f t e h in absurd (no_tree cut.tree cut.spells)

pub ordinary_of-no_address : (line name file rest : List ℕ) → IsName name → IsName file → line ≡ name ++ tab ∷ (file ++ tab ∷ rest) → ((t : TagLine) → Spells t line → ⊥) → ordinary_of line ≡ said_without_address name file
unfolding ordinary_of
ordinary_of-no_address line name file rest n f whole no_tree =
    let front : front_of line ≡ Some (record { name = name; file = file; rest = rest }) = ap front_of whole ∙ front_of-front name file rest n f in
    let tail : tail_of rest ≡ None = no_tail line (record { name = name; file = file; rest = rest }) (tail_of rest) front refl no_tree in
    simp (front, tail) refl
