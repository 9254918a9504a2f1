-- Ranges of a buffer.
use Rattle.std.proofs.Common.{◌≡◌, ℕ, ◌+◌, ◌-◌, ◌<◌, ◌≤◌, List, ◌++◌, length, take, drop, arith, refl, sym, append_assoc, Option, Some, None, length-drop}
use Rattle.std.specs.List.{slice_range}
use Rattle.std.proofs.lemmas.List.{drop-take, drop-drop, length-take}
use Rattle.std.proofs.lemmas.Slice.{between_is}
use Rattle.std.proofs.lemmas.Grind.{common_steps}
use Rattle.std.proofs.Math.Seq.{take-add}
use Rattle.streams.specs.Streams.{Moves, AtEnd}
use Rattle.streams.specs.Buffered.{SameUnread}

pub range_more : (xs : List ℕ) (s e n : ℕ) → s ≤ e → slice_range xs s (e + n) ≡ slice_range xs s e ++ take n (drop e xs)
range_more xs s e n h =
    let whole : e + n - s ≡ (e - s) + n = omega arith in
    let there : s + (e - s) ≡ e = omega arith in
    rw (whole, take-add (e - s) n (drop s xs), drop-drop) (grind (arith, common_steps))

pub range_drop : (xs : List ℕ) (s e n : ℕ) → s + n ≤ e → slice_range xs (s + n) e ≡ drop n (slice_range xs s e)
range_drop xs s e n h =
    let whole : n + (e - (s + n)) ≡ e - s = omega arith in
    let cut = rw whole at (drop-take n (e - (s + n)) (drop s xs)) in
    rw (← drop-drop n s xs) (sym cut)

pub same_told : (old more bytes : List ℕ) (left left' : Option (List ℕ)) → more ≡ old ++ bytes → Moves left left' bytes
    → SameUnread old left more left'
same_told old more bytes None left' e m = tt
same_told old more bytes (Some xs) left' e m = (m.0, m.1, rw (m.2, e) (sym (append_assoc old bytes m.0)))

pub range_fits : (xs : List ℕ) (s e n : ℕ) → s ≤ e → n ≤ length (slice_range xs s e) → s + n ≤ e
range_fits xs s e n h fits = let short = rw length-take at fits in omega arith

pub range_kept : (xs ys : List ℕ) (s e : ℕ) → s ≤ e → take e ys ≡ take e xs → slice_range ys s e ≡ slice_range xs s e
range_kept xs ys s e h same = rw (between_is ys s e, between_is xs s e, same) refl

-- what a pull after a range makes of it
pub filled : (pending bytes : List ℕ) (start end n : ℕ) (left left' : Option (List ℕ)) → start ≤ end → end < length bytes → end + n ≤ length bytes
    → slice_range bytes start end ≡ pending
    → Moves left left' (take n (drop end bytes)) × (n ≡ 0 → 0 < length (drop end bytes) → AtEnd left')
    → (more : List ℕ) × (length more ≡ n) × (slice_range bytes start (end + n) ≡ pending ++ more)
    × SameUnread pending left (slice_range bytes start (end + n)) left' × Moves left left' more × (n ≡ 0 → AtEnd left')
filled pending bytes start end n left left' ordered room within is pulled =
    let more = take n (drop end bytes) in
    let grows : slice_range bytes start (end + n) ≡ pending ++ more = rw (range_more bytes start end n ordered, is) refl in
    let ends : n ≡ 0 → AtEnd left' = λ none. pulled.1 none (simp length-drop (omega arith)) in
    (more, grind (arith, common_steps), grows, same_told pending _ more left left' grows pulled.0, pulled.0, ends)
