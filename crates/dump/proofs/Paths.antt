-- The test of a path.
use Rattle.std.proofs.Common.{◌≡◌, ⊎_elim, true, ◌&&◌, List, [], ◌∷◌, sym, ap, subst}
use Rattle.std.specs.Prelude.{IsTrue, Contains, ◌↔◌}
use Rattle.lsif.specs.Element.{IdValue, same_id}
use Rattle.streams.proofs.Bools.{or_some, and_both, and_of, or_left, or_right}
use Rattle.streams.proofs.Members.{contains_cases, contains_head, contains_tail, not_in_nil}
use Rattle.dump.proofs.SameIds.{same_id_eq, same_id_self}
use Rattle.dump.specs.Walks.{Pair, Path, stays, goes, reaches}

pub wider : (ps qs : List Pair) → ((q : Pair) → Contains ps q → Contains qs q) → (x y : IdValue) → Path ps x y → Path qs x y
wider ps qs sub x y stays = stays
wider ps qs sub x y (goes {y = w} z path at) = goes z (wider ps qs sub x w path) (sub (w, z) at)

pub joined : (ps : List Pair) (x y z : IdValue) → Path ps x y → Path ps y z → Path ps x z
joined ps x y z first stays = first
joined ps x y z first (goes {y = w} v path at) = goes v (joined ps x y w first path) at

pub path_of : (ps : List Pair) (x y : IdValue) → reaches ps x y ≡ true → Path ps x y
path_of [] x y e = subst (λ z. Path [] x z) (same_id_eq x y e) stays
path_of (p ∷ ps) x y e =
    let more = λ (v w : IdValue) (path : Path ps v w). wider ps (p ∷ ps) (λ q at. contains_tail p ps q at) v w path in
    ⊎_elim
    (λ (l : reaches ps x y ≡ true). more x y (path_of ps x y l))
    (λ (r : (reaches ps x p.0 && reaches ps p.1 y) ≡ true).
    let b = and_both (reaches ps x p.0) (reaches ps p.1 y) r in
    joined (p ∷ ps) x p.1 y (goes p.1 (more x p.0 (path_of ps x p.0 b.0)) (contains_head p ps)) (more p.1 y (path_of ps p.1 y b.1)))
    (or_some (reaches ps x y) (reaches ps x p.0 && reaches ps p.1 y) e)

tied : (x : IdValue) → (same_id x x) ≡ true
tied x = same_id_self x

pub reaches_itself : (ps : List Pair) (x : IdValue) → reaches ps x x ≡ true
reaches_itself [] x = tied x
reaches_itself (p ∷ ps) x = or_left (reaches ps x x) (reaches ps x p.0 && reaches ps p.1 x) (reaches_itself ps x)

-- one pair more
step : (ps : List Pair) (x y z : IdValue) → reaches ps x y ≡ true → Contains ps (y, z) → reaches ps x z ≡ true
step [] x y z e at = absurd (not_in_nil (y, z) at)
step (p ∷ ps) x y z e at = ⊎_elim
    (λ (s : p ≡ (y, z)).
    let source : p.0 ≡ y = ap (λ q. q.0) s in
    let target : p.1 ≡ z = ap (λ q. q.1) s in
    let to : reaches ps x p.0 ≡ true = ⊎_elim
    (λ (l : reaches ps x y ≡ true). subst (λ v. reaches ps x v ≡ true) (sym source) l)
    (λ (r : (reaches ps x p.0 && reaches ps p.1 y) ≡ true). (and_both (reaches ps x p.0) (reaches ps p.1 y) r).0)
    (or_some (reaches ps x y) (reaches ps x p.0 && reaches ps p.1 y) e) in
    or_right (reaches ps x z) (reaches ps x p.0 && reaches ps p.1 z) (and_of (reaches ps x p.0) (reaches ps p.1 z) to (subst (λ v. reaches ps p.1 v ≡ true) target (reaches_itself ps p.1))))
    (λ (t : Contains ps (y, z)). ⊎_elim
    (λ (l : reaches ps x y ≡ true). or_left (reaches ps x z) (reaches ps x p.0 && reaches ps p.1 z) (step ps x y z l t))
    (λ (r : (reaches ps x p.0 && reaches ps p.1 y) ≡ true).
    let b = and_both (reaches ps x p.0) (reaches ps p.1 y) r in
    or_right (reaches ps x z) (reaches ps x p.0 && reaches ps p.1 z) (and_of (reaches ps x p.0) (reaches ps p.1 z) b.0 (step ps p.1 y z b.1 t)))
    (or_some (reaches ps x y) (reaches ps x p.0 && reaches ps p.1 y) e))
    (contains_cases p ps (y, z) at)

pub reaches_of : (ps : List Pair) (x y : IdValue) → Path ps x y → reaches ps x y ≡ true
reaches_of ps x y stays = reaches_itself ps x
reaches_of ps x y (goes {y = w} z path at) = step ps x w z (reaches_of ps x w path) at

pub tested : (ps : List Pair) (x y : IdValue) → IsTrue (reaches ps x y) ↔ Path ps x y
tested ps x y = (λ t. path_of ps x y t, λ path. reaches_of ps x y path)
