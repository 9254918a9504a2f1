-- A walk along single pairs follows a chain.
use Rattle.std.proofs.Common.{◌≡◌, ⊎_elim, ◌∙◌, ◌≤◌, Bool, true, false, List, [], ◌∷◌, length, length-append, ap, sym, subst, arith}
use Rattle.std.specs.Prelude.{Contains, Option, Some, None, if◌then◌else◌}
use Rattle.lsif.specs.Element.{IdValue, ElementValue}
use Rattle.dump.specs.declared.single.SingleLabel.{SingleLabel}
use Rattle.dump.specs.declared.single.SingleLabel.TheVariants.{Next}
use Rattle.dump.specs.Walks.{Pair, same_label, single_of, single_in, next_pairs, IsChain, ends, links, first_to, Path, stays, goes}
use Rattle.dump.proofs.Chains.{chain_head}
use Rattle.streams.proofs.Members.{contains_cases, contains_tail, not_in_nil}
use Rattle.dump.proofs.Ends.{Single}

pub single_count : (label : SingleLabel) (x : ElementValue) → length (single_in label x) ≤ 1
single_count label x = by (single_of x)
  where
    one : (b : Bool) (p : Pair) → length (if b then p ∷ [] else []) ≤ 1
    one true p = omega arith
    one false p = omega arith

    by : (o : Option (SingleLabel × Pair)) → length (elim o as (λ _. List Pair) [ Some e ↦ if same_label e.0 label then e.1 ∷ [] else [] | None ↦ [] ]) ≤ 1
    by None = omega arith
    by (Some e) = one (same_label e.0 label) e.1

pub few_pairs : (d : List ElementValue) → length (next_pairs d) ≤ length d
few_pairs [] = omega arith
few_pairs (x ∷ d) = omega (arith, length-append (single_in Next x) (next_pairs d), single_count Next x, few_pairs d)

-- ---- a way along single pairs is a chain

bound_in : (ps : List Pair) (x : IdValue) (xs : List IdValue) (y z : IdValue) → IsChain ps x xs → Contains xs y → first_to ps y ≡ Some z → Contains xs z
bound_in ps x xs y z (ends e) at f = ⊎_elim
    (λ (s : x ≡ y). let k : ◌≡◌ {A = Option IdValue} None (Some z) = sym e ∙ ap (first_to ps) s ∙ f in cc)
    (λ (t : Contains [] y). absurd (not_in_nil y t))
    (contains_cases x [] y at)
bound_in ps x xs y z (links {y = w} {ys = ys} e c) at f = ⊎_elim
    (λ (s : x ≡ y).
    let k : Some w ≡ Some z = sym e ∙ ap (first_to ps) s ∙ f in
    let same : w ≡ z = cc in
    contains_tail x ys z (subst (Contains ys) same (chain_head ps w ys c)))
    (λ (t : Contains ys y). contains_tail x ys z (bound_in ps w ys y z c t f))
    (contains_cases x ys y at)

pub on_chain : (ps : List Pair) → Single ps → (x : IdValue) (xs : List IdValue) (y : IdValue) → IsChain ps x xs → Path ps x y → Contains xs y
on_chain ps one x xs y c stays = chain_head ps x xs c
on_chain ps one x xs y c (goes {y = w} z path at) = bound_in ps x xs w z c (on_chain ps one x xs w c path) (one w z at)
