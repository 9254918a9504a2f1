-- Equivalences, and sets that grow.
use Rattle.std.proofs.Common.{◌⊎◌, inl, inr, ⊎_elim}
use Rattle.std.specs.Prelude.{◌↔◌}

-- ---- sets that grow

module _ {A B P Q : Type 0} where
  pub or_other : (A ↔ (B ⊎ P)) → (P ↔ Q) → A ↔ (B ⊎ Q)
  or_other is same = (
    (λ a. ⊎_elim (λ (b : B). inl b) (λ (p : P). inr (same.0 p)) (is.0 a)),
    (λ h. is.1 (⊎_elim (λ (b : B). inl b) (λ (q : Q). inr (same.1 q)) h)),
  )

module _ {A B P Q R : Type 0} where
  -- what is left to add is one step less
  pub or_step : (A ↔ (B ⊎ P)) → (R ↔ (P ⊎ Q)) → (A ⊎ Q) ↔ (B ⊎ R)
  or_step is rest = (
    (λ h. ⊎_elim (λ (a : A). ⊎_elim (λ (b : B). inl b) (λ (p : P). inr (rest.1 (inl p))) (is.0 a)) (λ (q : Q). inr (rest.1 (inr q))) h),
    (λ h. ⊎_elim (λ (b : B). inl (is.1 (inl b))) (λ (r : R). ⊎_elim (λ (p : P). inl (is.1 (inr p))) (λ (q : Q). inr q) (rest.0 r)) h),
  )

pub or_none : {A B : Type 0} → (B → ⊥) → (A ⊎ B) ↔ A
or_none none = (λ h. ⊎_elim (λ (a : _). a) (λ (b : _). absurd (none b)) h, λ a. inl a)

pub iff_refl : {A : Type 0} → A ↔ A
iff_refl = (λ a. a, λ a. a)

pub iff_sym : {A B : Type 0} → A ↔ B → B ↔ A
iff_sym f = (f.1, f.0)

pub iff_trans : {A B C : Type 0} → A ↔ B → B ↔ C → A ↔ C
iff_trans f g = (λ a. g.0 (f.0 a), λ c. f.1 (g.1 c))
