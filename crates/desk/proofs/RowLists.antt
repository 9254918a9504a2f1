-- Keys, roles and results, one after another.
use Rattle.std.proofs.Common.{◌≡◌, ◌⊎◌, inl, inr, ⊎_elim, ◌∙◌, ℕ, zero, suc, ◌+◌, ◌<◌, ◌≤◌, length, drop, drop-cons, add-one, get_or, arith, List, [], ◌∷◌, refl, sym, ap, subst}
use Rattle.std.specs.Prelude.{◌↔◌, Contains, Option, Some}
use Rattle.lsif.specs.declared.request_kind.RequestKind.{RequestKind}
use Rattle.dump.specs.declared.role.Role.{Role}
use Rattle.dump.specs.Places.{PlaceValue}
use Rattle.machine.specs.State.{State}
use Rattle.machine.specs.Selections.{BearerFound, FindsItems, HasItem, RangeFound}
use Rattle.machine.specs.Reply.{FoundPlace}
use Rattle.machine.specs.Steps.Places.{found_in}
use Rattle.desk.specs.Steps.Rows.{AreJoined, AreKeys, IsAnsweringResult, IsKeyJoined, IsOwnResult, IsPlaceOf, IsPlaceOfOne, IsRolePlace, IsRowJoined, JoinedValue, OfBearer, ProjectResultValue, result_of_joined}
use Rattle.desk.proofs.Finding.{iff_trans, or_step}
use Rattle.streams.proofs.Members.{contains_cases, contains_head, contains_tail, not_in_nil}

module _ (m : State) (request : RequestKind) (own : List ℕ) (j : JoinedValue) where
  pub keys_more : (key : List ℕ) (rest : List (List ℕ)) → AreJoined m request own (key ∷ rest) j ↔ (IsKeyJoined m request own key j ⊎ AreJoined m request own rest j)
  keys_more key rest = (to, back)
    where
      to : AreJoined m request own (key ∷ rest) j → IsKeyJoined m request own key j ⊎ AreJoined m request own rest j
      to (text, at, h) = ⊎_elim (λ (e : key ≡ text). inl (subst (λ t. IsKeyJoined m request own t j) (sym e) h)) (λ (t : Contains rest text). inr (text, t, h)) (contains_cases key rest text at)

      back : IsKeyJoined m request own key j ⊎ AreJoined m request own rest j → AreJoined m request own (key ∷ rest) j
      back h = ⊎_elim (λ (k : IsKeyJoined m request own key j). (key, contains_head key rest, k)) (λ (r : AreJoined m request own rest j). (r.0, contains_tail key rest r.0 r.1, r.2)) h

  pub keys_none : AreJoined m request own [] j → ⊥
  keys_none (text, at, h) = not_in_nil text at

module _ (m : State) (t : ProjectResultValue) (place : FoundPlace) where
  pub roles_more : (role : Role) (rest : List Role) → IsPlaceOf m (role ∷ rest) t place ↔ (IsRolePlace m role t place ⊎ IsPlaceOf m rest t place)
  roles_more role rest = (to, back)
    where
      to : IsPlaceOf m (role ∷ rest) t place → IsRolePlace m role t place ⊎ IsPlaceOf m rest t place
      to (same, (r, at, h)) = ⊎_elim (λ (e : role ≡ r). inl (same, subst (λ x. HasItem m t.project t.number x place.place) (sym e) h)) (λ (a : Contains rest r). inr (same, (r, a, h))) (contains_cases role rest r at)

      back : IsRolePlace m role t place ⊎ IsPlaceOf m rest t place → IsPlaceOf m (role ∷ rest) t place
      back h = ⊎_elim (λ (k : IsRolePlace m role t place). (k.0, (role, contains_head role rest, k.1))) (λ (r : IsPlaceOf m rest t place). (r.0, (r.1.0, contains_tail role rest r.1.0 r.1.1, r.1.2))) h

  pub roles_none : IsPlaceOf m [] t place → ⊥
  roles_none (same, (r, at, h)) = not_in_nil r at

-- the places of one role more
pub roles_step : (m : State) (t : ProjectResultValue) (place : FoundPlace) (roles : List Role) (i : ℕ) (d : Role) {A B : Type 0} → i < length roles → (A ↔ (B ⊎ IsRolePlace m (get_or roles i d) t place))
    → (A ⊎ IsPlaceOf m (drop (i + 1) roles) t place) ↔ (B ⊎ IsPlaceOf m (drop i roles) t place)
roles_step m t place roles i d lt is =
    let split : drop i roles ≡ get_or roles i d ∷ drop (i + 1) roles = rw add-one (drop-cons roles i d lt) in
    or_step is (subst (λ l. IsPlaceOf m l t place ↔ (IsRolePlace m (get_or roles i d) t place ⊎ IsPlaceOf m (drop (i + 1) roles) t place)) (sym split) (roles_more m t place (get_or roles i d) (drop (i + 1) roles)))

module _ (m : State) (in_roles : List Role) (place : FoundPlace) where
  pub results_more : (t : ProjectResultValue) (rest : List ProjectResultValue) → IsPlaceOfOne m in_roles (λ (u : ProjectResultValue). Contains (t ∷ rest) u) place ↔ (IsPlaceOf m in_roles t place ⊎ IsPlaceOfOne m in_roles (λ (u : ProjectResultValue). Contains rest u) place)
  results_more t rest = (to, back)
    where
      to : IsPlaceOfOne m in_roles (λ (u : ProjectResultValue). Contains (t ∷ rest) u) place → IsPlaceOf m in_roles t place ⊎ IsPlaceOfOne m in_roles (λ (u : ProjectResultValue). Contains rest u) place
      to (u, at, h) = ⊎_elim (λ (e : t ≡ u). inl (subst (λ x. IsPlaceOf m in_roles x place) (sym e) h)) (λ (a : Contains rest u). inr (u, a, h)) (contains_cases t rest u at)

      back : IsPlaceOf m in_roles t place ⊎ IsPlaceOfOne m in_roles (λ (u : ProjectResultValue). Contains rest u) place → IsPlaceOfOne m in_roles (λ (u : ProjectResultValue). Contains (t ∷ rest) u) place
      back h = ⊎_elim (λ (k : IsPlaceOf m in_roles t place). (t, contains_head t rest, k)) (λ (r : IsPlaceOfOne m in_roles (λ (u : ProjectResultValue). Contains rest u) place). (r.0, contains_tail t rest r.0 r.1, r.2)) h

  pub results_none : IsPlaceOfOne m in_roles (λ (u : ProjectResultValue). Contains [] u) place → ⊥
  results_none (u, at, h) = not_in_nil u at

-- the places of results of which one holds where the other does
pub places_same : (m : State) (in_roles : List Role) (P Q : ProjectResultValue → Type 0) → ((t : ProjectResultValue) → P t ↔ Q t) → (place : FoundPlace) → IsPlaceOfOne m in_roles P place ↔ IsPlaceOfOne m in_roles Q place
places_same m in_roles P Q same place = ((λ (t, p, h). (t, (same t).0 p, h)), (λ (t, q, h). (t, (same t).1 q, h)))

-- ---- what is left, and what is one

pub drop_end : {X : Type 0} (xs : List X) (k : ℕ) → length xs ≤ k → drop k xs ≡ []
drop_end [] zero le = refl
drop_end [] (suc k) le = refl
drop_end (x ∷ xs) zero le = absurd (omega (arith, le))
drop_end (x ∷ xs) (suc k) le = drop_end xs k (omega (arith, le))

pub without : {A N P : Type 0} → (N → ⊥) → (A ↔ (N ⊎ P)) → A ↔ P
without {N = N} {P = P} none is = ((λ a. ⊎_elim (λ (n : N). absurd (none n)) (λ (p : P). p) (is.0 a)), (λ p. is.1 (inr p)))

same_number : (o : Option ℕ) (a b : ℕ) → o ≡ Some a → o ≡ Some b → a ≡ b
same_number o a b e f = let k : Some a ≡ Some b = sym e ∙ f in cc

-- a bearer is one joined vertex
pub one_of : (request : RequestKind) (own : List ℕ) (b : BearerFound) (j w : JoinedValue) → OfBearer request own b j → OfBearer request own b w ↔ (j ≡ w)
one_of request own b j w h = (to, λ e. subst (OfBearer request own b) e h)
  where
    to : OfBearer request own b w → j ≡ w
    to k =
        let project = sym h.its_project ∙ k.its_project in
        let line = sym h.its_line ∙ k.its_line in
        let number = same_number (b.results request) j.number w.number h.its_result k.its_result in
        λ i. record { project = project i; line = line i; number = number i }

-- the items of a result in a role are its places
pub role_items : (m : State) (t : ProjectResultValue) (p q : List ℕ) → p ≡ t.project → q ≡ t.project → (role : Role) (items : List PlaceValue) → FindsItems m p t.number role items → (place : FoundPlace)
    → ((item : PlaceValue) × Contains items item × (found_in q item ≡ place)) ↔ IsRolePlace m role t place
role_items m t p q is same role items found place = (to, back)
  where
    to : (item : PlaceValue) × Contains items item × (found_in q item ≡ place) → IsRolePlace m role t place
    to (item, at, e) =
        let has = subst (λ (x : List ℕ). HasItem m x t.number role item) is ((found item).0 at) in
        (sym same ∙ ap (λ (f : FoundPlace). f.project) e, subst (HasItem m t.project t.number role) (ap (λ (f : FoundPlace). f.place) e) has)

    back : IsRolePlace m role t place → (item : PlaceValue) × Contains items item × (found_in q item ≡ place)
    back (there, has) =
        let project = same ∙ there in
        (place.place, (found place.place).1 (subst (λ (x : List ℕ). HasItem m x t.number role place.place) (sym is) has), λ i. record { project = project i; place = place.place })

-- the range's own result and those of joined vertices are the results that answer
pub results_are : (m : State) (request : RequestKind) (own : List ℕ) (row : RangeFound) (texts : List (List ℕ)) (joined : List JoinedValue) (t : ProjectResultValue) {A B : Type 0} → AreKeys m request own row.line texts
    → ((j : JoinedValue) → Contains joined j ↔ AreJoined m request own texts j) → (A ↔ (B ⊎ ((j : JoinedValue) × Contains joined j × (result_of_joined j ≡ t)))) → (B ↔ IsOwnResult own row t)
    → A ↔ IsAnsweringResult m request own row t
results_are m request own row texts joined t {A} {B} keyed are added mine = iff_trans added (to, back)
  where
    row_joined : (j : JoinedValue) → AreJoined m request own texts j → IsRowJoined m request own row j
    row_joined j (text, at, h) = (text, (keyed text).0 at, h)

    joined_row : (j : JoinedValue) → IsRowJoined m request own row j → AreJoined m request own texts j
    joined_row j (text, key, h) = (text, (keyed text).1 key, h)

    to : B ⊎ ((j : JoinedValue) × Contains joined j × (result_of_joined j ≡ t)) → IsAnsweringResult m request own row t
    to (inl b) = inl (mine.0 b)
    to (inr (j, at, e)) = inr (j, row_joined j ((are j).0 at), e)

    back : IsAnsweringResult m request own row t → B ⊎ ((j : JoinedValue) × Contains joined j × (result_of_joined j ≡ t))
    back (inl o) = inl (mine.1 o)
    back (inr (j, h, e)) = inr (j, (are j).1 (joined_row j h), e)
