-- Indices of numbers below a bound, which have a slot each, and of all other ids.
use Rattle.std.proofs.Common.{◌≡◌, ◌∙◌, ℕ, Bool, true, false, nat_eq, nat_lt, List, get_or, if◌then◌else◌, refl, sym, ap, arith, Option, Some, None}
use Rattle.std.specs.Prelude.{Result, Ok, Err, OnOk, OnErr}
use Rattle.dump.specs.Steps.Ids.{entered}

pub slot_or_none : (b : Bool) (o p : Option ℕ) → o ≡ None → p ≡ None → (if b then o else p) ≡ None
slot_or_none true o p e f = e
slot_or_none false o p e f = f

pub entered_not : {V : Type 0} (new : V) (o : Option V) → entered false new o ≡ o
entered_not new (Some old) = refl
entered_not new None = refl

apart : (n m b : ℕ) → nat_lt n b ≡ false → nat_lt m b ≡ true → nat_eq n m ≡ false
apart n m b e f = grind (arith, e, f)

-- a number that has no slot is entered
pub number_entered : (b n m index : ℕ) (slots : List (Option ℕ)) (old new : Option ℕ) → nat_lt n b ≡ false → new ≡ entered (nat_eq n m) index old
    → (if nat_lt m b then get_or slots m None else new) ≡ entered (nat_eq n m) index (if nat_lt m b then get_or slots m None else old)
number_entered b n m index slots old new past e = by (nat_lt m b) refl
  where
    by : (c : Bool) → nat_lt m b ≡ c → (if c then get_or slots m None else new) ≡ entered (nat_eq n m) index (if c then get_or slots m None else old)
    by true below = sym (ap (λ here. entered here index (get_or slots m None)) (apart n m b past below) ∙ entered_not index (get_or slots m None))
    by false past_too = e

-- a text is entered
pub text_entered : (b m index : ℕ) (slots : List (Option ℕ)) (old new : Option ℕ) → new ≡ entered false index old
    → (if nat_lt m b then get_or slots m None else new) ≡ entered false index (if nat_lt m b then get_or slots m None else old)
text_entered b m index slots old new e = by (nat_lt m b)
  where
    by : (c : Bool) → (if c then get_or slots m None else new) ≡ entered false index (if c then get_or slots m None else old)
    by true = sym (entered_not index (get_or slots m None))
    by false = e

pub on_ok : {X E P Q : Type 0} (r : Result X E) → (P → Q) → OnOk r P → OnOk r Q
on_ok (Ok x) to p = to p
on_ok (Err e) to p = p

pub on_err : {X E P Q : Type 0} (r : Result X E) → (P → Q) → OnErr r P → OnErr r Q
on_err (Ok x) to p = p
on_err (Err e) to p = to p

-- what is in no slot
pub slot_same : (b : Bool) (slot o p : Option ℕ) → o ≡ p → (if b then slot else o) ≡ (if b then slot else p)
slot_same b slot o p e = ap (λ other. if b then slot else other) e
