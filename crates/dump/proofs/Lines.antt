-- In a sound dump the ends of each edge are vertices, and a line is that of one id.
use Rattle.std.proofs.Common.{◌≡◌, ◌∙◌, ⊎_elim, ℕ, ◌≤◌, ◌+◌, true, List, [], ◌∷◌, length, refl, sym, ap, subst, arith, Option, Some, None, is_some}
use Rattle.std.specs.Prelude.{Contains, slice_get}
use Rattle.std.proofs.lemmas.Option.{slice_get_within, get_or_from_slice_get}
use Rattle.lsif.specs.Element.{IdValue, VertexValue, ElementValue, vertex}
use Rattle.dump.specs.Conditions.{are_vertices}
use Rattle.dump.specs.Graph.{vertex_at, ends, line_of}
use Rattle.dump.specs.Progress.{IsSound}
use Rattle.dump.specs.Walks.{IsChain, next_pairs}
use Rattle.dump.proofs.Adds.{found_index}
use Rattle.streams.proofs.Bools.{and_both}
use Rattle.streams.proofs.Members.{contains_cases, not_in_nil}
use Rattle.dump.proofs.Uniques.{each_unique, vertex_member}
use Rattle.dump.proofs.Chains.{short}
use Rattle.dump.proofs.Known.{ends_known}
use Rattle.dump.proofs.Leads.{few_pairs}
use Rattle.dump.proofs.Nests.{vertex_there}
use Rattle.dump.proofs.Shortcuts.{has_index, one_index}

-- ---- ends

known_end : (d : List ElementValue) (is : List IdValue) (i : IdValue) → are_vertices d is ≡ true → Contains is i → is_some (vertex_at d i) ≡ true
known_end d [] i e at = absurd (not_in_nil i at)
known_end d (j ∷ is) i e at =
    let both = and_both (is_some (vertex_at d j)) (are_vertices d is) e in
    ⊎_elim (λ (s : j ≡ i). subst (λ k. is_some (vertex_at d k) ≡ true) s both.0) (λ (t : Contains is i). known_end d is i both.1 t) (contains_cases j is i at)

pub end_vertex : (d : List ElementValue) → IsSound d → (x : ElementValue) → Contains d x → (i : IdValue) → Contains (ends x) i → (v : VertexValue) × (vertex_at d i ≡ Some v)
end_vertex d h x at i among = vertex_there (vertex_at d i) (known_end d (ends x) i (ends_known d h x at) among)

-- ---- lines

pub member_at : (d : List ElementValue) (k : ℕ) (x : ElementValue) → slice_get d k ≡ Some x → Contains d x
member_at d k x e = (k, slice_get_within d k x e, get_or_from_slice_get d k x x e)

line_by : (d : List ElementValue) → IsSound d → (i : IdValue) (v : VertexValue) → vertex_at d i ≡ Some v → (o : Option ℕ) → line_of d i ≡ o
    → (k : ℕ) × (o ≡ Some k) × (slice_get d k ≡ Some (vertex i v))
line_by d h i v e None is = absurd (has_index d i None (sym is) (ap is_some e) refl)
line_by d h i v e (Some k) is =
    let f = found_index d i k is in
    (k, refl, f.1 ∙ ap Some (each_unique d h f.0 (vertex i v) (member_at d k f.0 f.1) (vertex_member d i v e) f.2))

pub vertex_line : (d : List ElementValue) → IsSound d → (i : IdValue) (v : VertexValue) → vertex_at d i ≡ Some v
    → (k : ℕ) × (line_of d i ≡ Some k) × (slice_get d k ≡ Some (vertex i v))
vertex_line d h i v e = line_by d h i v e (line_of d i) refl

pub one_line : (d : List ElementValue) (i j : IdValue) (k : ℕ) → line_of d i ≡ Some k → line_of d j ≡ Some k → i ≡ j
one_line d i j k e f = one_index d i j k e f

-- ---- chains

pub short_chain : (d : List ElementValue) (x : IdValue) (xs : List IdValue) → IsChain (next_pairs d) x xs → length xs ≤ length d + 1
short_chain d x xs chain = omega (arith, short xs (next_pairs d) x chain, few_pairs d)
