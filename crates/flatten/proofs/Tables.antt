-- What a table has at a number.
use Rattle.std.proofs.Common.{◌≡◌, ◌∙◌, ℕ, zero, suc, ◌+◌, ◌<◌, List, [], ◌∷◌, length, get_or, sym, ap, arith}
use Rattle.std.specs.Prelude.{Contains, Option, Some, None, Ok, map, option_map, slice_get}
use Rattle.std.proofs.lemmas.List.Elements.{Contains-get_or}
use Rattle.lsif.specs.Element.{IdValue, VertexValue, ElementValue, vertex, element_id}
use Rattle.dump.specs.Fault.{IsFaultless}
use Rattle.dump.specs.Graph.{vertex_at, line_of}
use Rattle.flatten.specs.Flat.{number_of}
use Rattle.flatten.specs.Steps.Tables.{table_of}
use Rattle.flatten.proofs.NumberPairs.{number_line}
use Rattle.flatten.proofs.Rising.{each_indexed}

-- an element that says something
at_index : {X : Type 0} (say : ElementValue → Option X) (d : List ElementValue) (k : ℕ) (out : X) → get_or (map say d) k None ≡ Some out → (k < length d) × ((e : ElementValue) → say (get_or d k e) ≡ Some out)
at_index say [] k out h = cc
at_index say (x ∷ d) zero out h = (omega arith, λ e. h)
at_index say (x ∷ d) (suc k) out h = let r = at_index say d k out h in (omega (arith, r.0), r.1)

index_at : {X : Type 0} (say : ElementValue → Option X) (d : List ElementValue) (k : ℕ) (x : ElementValue) → slice_get d k ≡ Some x → get_or (map say d) k None ≡ say x
index_at say [] k x h = cc
index_at say (y ∷ d) zero x h = let same : y ≡ x = cc in ap say same
index_at say (y ∷ d) (suc k) x h = index_at say d k x (below h)
  where
    below : slice_get (y ∷ d) (suc k) ≡ Some x → slice_get d k ≡ Some x
    below e = grind (arith, e)

pub table_to : {X : Type 0} (say : ElementValue → Option X) (d : List ElementValue) → IsFaultless (map Ok d) → (n : ℕ) (out : X) → get_or (table_of say d) n None ≡ Some out → (e : ElementValue) × Contains d e × (number_of d (element_id e) ≡ Some n) × (say e ≡ Some out)
table_to say d free zero out h = cc
table_to say [] free (suc k) out h = cc
table_to say (x ∷ d) free (suc k) out h =
    let r = at_index say (x ∷ d) k out h in
    let e = get_or (x ∷ d) k x in
    (e, Contains-get_or (x ∷ d) k x r.0, ap (option_map (λ j. j + 1)) (each_indexed (x ∷ d) free k x r.0) ∙ ap (λ j. Some j) (omega arith), r.1 x)

pub table_from : {X : Type 0} (say : ElementValue → Option X) (d : List ElementValue) → ((i : IdValue) (v : VertexValue) → vertex_at d i ≡ Some v → (k : ℕ) × (line_of d i ≡ Some k) × (slice_get d k ≡ Some (vertex i v)))
    → (i : IdValue) (v : VertexValue) (n : ℕ) → vertex_at d i ≡ Some v → number_of d i ≡ Some n → get_or (table_of say d) n None ≡ say (vertex i v)
table_from say d there i v n is at =
    let t = there i v is in
    let l = number_line (line_of d i) n at in
    let e : ◌≡◌ {A = Option ℕ} (Some t.0) (Some l.0) = sym t.1 ∙ l.1 in
    let same : t.0 ≡ l.0 = cc in
    let next : suc t.0 ≡ n = omega (arith, same, l.2) in
    ap (λ m. get_or (table_of say d) m None) (sym next) ∙ index_at say d t.0 (vertex i v) t.2
