-- Laws of where a head ends.
use Rattle.std.proofs.Common.{◌≡◌, ℕ, ◌≤◌, Bool, true, false, List, [], ◌∷◌, ◌++◌, length, Option, Some, None, option_map, refl, arith, suc}
use Rattle.std.specs.Prelude.{if◌then◌else◌}
use Rattle.http_edge.specs.Heads.{is_end, find_head}

is_end_append : (xs ys : List ℕ) → is_end xs ≡ true → is_end (xs ++ ys) ≡ true
is_end_append (a ∷ b ∷ c ∷ d ∷ rest) ys h = h
is_end_append (a ∷ b ∷ c ∷ []) ys h = cc h
is_end_append (a ∷ b ∷ []) ys h = cc h
is_end_append (a ∷ []) ys h = cc h
is_end_append [] ys h = cc h

found_step : (b : Bool) (o p : Option ℕ) (n : ℕ) → ((m : ℕ) → o ≡ Some m → p ≡ Some m)
    → (if b then Some 4 else option_map suc o) ≡ Some n → (if b then Some 4 else option_map suc p) ≡ Some n
found_step true o p n more h = h
found_step false None p n more h = cc h
found_step false (Some m) p n more h = rw (more m refl) h

found_case : (b c : Bool) (o p : Option ℕ) (n : ℕ) → (b ≡ true → c ≡ true) → (b ≡ false → c ≡ true → ⊥) → ((m : ℕ) → o ≡ Some m → p ≡ Some m)
    → (if b then Some 4 else option_map suc o) ≡ Some n → (if c then Some 4 else option_map suc p) ≡ Some n
found_case true c o p n up down more h = rw (up refl) h
found_case false true o p n up down more h = absurd (down refl refl)
found_case false false o p n up down more h = found_step false o p n more h

-- four bytes show whether they are the end
is_end_same : (xs ys : List ℕ) → 4 ≤ length xs → is_end (xs ++ ys) ≡ is_end xs
is_end_same (a ∷ b ∷ c ∷ d ∷ rest) ys h = refl
is_end_same (a ∷ b ∷ c ∷ []) ys h = absurd (omega arith)
is_end_same (a ∷ b ∷ []) ys h = absurd (omega arith)
is_end_same (a ∷ []) ys h = absurd (omega arith)
is_end_same [] ys h = absurd (omega arith)

end_long : (xs : List ℕ) → is_end xs ≡ true → 4 ≤ length xs
end_long (a ∷ b ∷ c ∷ d ∷ rest) h = omega arith
end_long (a ∷ b ∷ c ∷ []) h = cc h
end_long (a ∷ b ∷ []) h = cc h
end_long (a ∷ []) h = cc h
end_long [] h = cc h

within_step : (b : Bool) (o : Option ℕ) (k n : ℕ) → (b ≡ true → 4 ≤ suc k) → ((m : ℕ) → o ≡ Some m → m ≤ k)
    → (if b then Some 4 else option_map suc o) ≡ Some n → n ≤ suc k
within_step true o k n long more h = let e : 4 ≡ n = cc h in let l = long refl in omega arith
within_step false None k n long more h = cc h
within_step false (Some m) k n long more h = let e : suc m ≡ n = cc h in let l = more m refl in omega arith

-- a head lies in the bytes
pub find_head-within : (xs : List ℕ) (n : ℕ) → find_head xs ≡ Some n → n ≤ length xs
unfolding find_head
find_head-within [] n h = cc h
find_head-within (x ∷ xs) n h = within_step (is_end (x ∷ xs)) (find_head xs) (length xs) n (end_long (x ∷ xs)) (find_head-within xs) h

-- and has four bytes
four_step : (b : Bool) (o : Option ℕ) (n : ℕ) → ((m : ℕ) → o ≡ Some m → 4 ≤ m) → (if b then Some 4 else option_map suc o) ≡ Some n → 4 ≤ n
four_step true o n more h = let e : 4 ≡ n = cc h in omega arith
four_step false None n more h = cc h
four_step false (Some m) n more h = let e : suc m ≡ n = cc h in let l = more m refl in omega arith

pub find_head-four : (xs : List ℕ) (n : ℕ) → find_head xs ≡ Some n → 4 ≤ n
unfolding find_head
find_head-four [] n h = cc h
find_head-four (x ∷ xs) n h = four_step (is_end (x ∷ xs)) (find_head xs) n (find_head-four xs) h

-- a head that is found stays where it is
pub find_head-append : (xs ys : List ℕ) (n : ℕ) → find_head xs ≡ Some n → find_head (xs ++ ys) ≡ Some n
unfolding find_head
find_head-append [] ys n h = cc h
find_head-append (x ∷ xs) ys n h =
    let long : 4 ≤ suc (length xs) = let a = find_head-within (x ∷ xs) n h in let b = find_head-four (x ∷ xs) n h in omega arith in
    let same = is_end_same (x ∷ xs) ys long in
    rw same (found_step (is_end (x ∷ xs)) (find_head xs) (find_head (xs ++ ys)) n (λ m e. find_head-append xs ys m e) h)
