-- The list of the projects.
use Rattle.std.proofs.Common.{Global, ◌≡◌, ◌∙◌, ◌⊎◌, inl, inr, ⊎_elim, ◌||◌, Bool, true, false, cond, List, [], ◌∷◌, refl, sym, ap, subst}
use Rattle.std.specs.Prelude.{Option, Some, None, is_some, option_and_then, String, string_bytes, Contains}
use Rattle.std.specs.BTreeMap.{BTreeMap, IsOrdered, get_by_text}
use Rattle.std.specs.List.Sorted.{IsStrictlySortedBy}
use Rattle.std.specs.Map.{keys_of}
use Rattle.std.specs.String.{string_cmp}
use Rattle.std.specs.declared.cmp.Ordering.TheVariants.{Less}
use Rattle.dump.specs.Places.{IsListing}
use Rattle.machine.specs.Projects.{text_cmp, IsProject, project_cmp, ProjectValue}
use Rattle.machine.specs.State.{State}
use Rattle.desk.specs.Steps.Listed.{projects_of}
use Rattle.desk.specs.Steps.Plain.{Stands}
use Rattle.desk.specs.declared.project.Project.{Project}
use Rattle.machine.proofs.EntryLists.{entry_found, found_entry, rises_cons, rises_nil, rises_head, rises_tail}
use Rattle.streams.proofs.Members.{contains_head, contains_tail, contains_cases, not_in_nil}

abbrev Entry : Type 0
Entry = String Global × Project

has_part : Entry → Bool
has_part e = is_some e.1.dump || is_some e.1.tags

project_of : Entry → ProjectValue
project_of e = record { name = string_bytes e.0; dump = is_some e.1.dump; tags = is_some e.1.tags }

one_more : (e : Entry) (es : List Entry) → projects_of (e ∷ es) ≡ cond (has_part e) (project_of e ∷ projects_of es) (projects_of es)
unfolding has_part project_of
one_more e es = refl

in_cond : (b : Bool) (x p : ProjectValue) (xs : List ProjectValue) → Contains (cond b (x ∷ xs) xs) p → ((b ≡ true) × (x ≡ p)) ⊎ Contains xs p
in_cond true x p xs at = ⊎_elim (λ (e : x ≡ p). inl (refl, e)) (λ (t : Contains xs p). inr t) (contains_cases x xs p at)
in_cond false x p xs at = inr at

cond_here : (b : Bool) (x : ProjectValue) (xs : List ProjectValue) → b ≡ true → Contains (cond b (x ∷ xs) xs) x
cond_here true x xs e = contains_head x xs
cond_here false x xs e = cc

cond_there : (b : Bool) (x p : ProjectValue) (xs : List ProjectValue) → Contains xs p → Contains (cond b (x ∷ xs) xs) p
cond_there true x p xs at = contains_tail x xs p at
cond_there false x p xs at = at

whence : (es : List Entry) (p : ProjectValue) → Contains (projects_of es) p → (e : Entry) × Contains es e × (has_part e ≡ true) × (project_of e ≡ p)
whence [] p at = absurd (not_in_nil p at)
whence (e ∷ es) p at = ⊎_elim
    (λ (h : (has_part e ≡ true) × (project_of e ≡ p)). (e, contains_head e es, h.0, h.1))
    (λ (t : Contains (projects_of es) p). let r = whence es p t in (r.0, contains_tail e es r.0 r.1, r.2, r.3))
    (in_cond (has_part e) (project_of e) p (projects_of es) (subst (λ l. Contains l p) (one_more e es) at))

there : (es : List Entry) (e : Entry) → Contains es e → has_part e ≡ true → Contains (projects_of es) (project_of e)
there [] e at has = absurd (not_in_nil e at)
there (f ∷ es) e at has = subst (λ l. Contains l (project_of e)) (sym (one_more f es)) (⊎_elim
    (λ (h : f ≡ e). subst (λ g. Contains (cond (has_part g) (project_of g ∷ projects_of es) (projects_of es)) (project_of e)) (sym h) (cond_here (has_part e) (project_of e) (projects_of es) has))
    (λ (t : Contains es e). cond_there (has_part f) (project_of f) (project_of e) (projects_of es) (there es e t has))
    (contains_cases f es e at))

key_in : (es : List Entry) (e : Entry) → Contains es e → Contains (keys_of es) e.0
key_in [] e at = absurd (not_in_nil e at)
key_in (f ∷ es) e at = ⊎_elim
    (λ (h : f ≡ e). subst (Contains (f.0 ∷ keys_of es)) (ap (λ (g : Entry). g.0) h) (contains_head f.0 (keys_of es)))
    (λ (t : Contains es e). contains_tail f.0 (keys_of es) e.0 (key_in es e t))
    (contains_cases f es e at)

cond_rises : (b : Bool) (x : ProjectValue) (xs : List ProjectValue) → ((y : ProjectValue) → Contains xs y → project_cmp x y ≡ Less) → IsStrictlySortedBy project_cmp xs → IsStrictlySortedBy project_cmp (cond b (x ∷ xs) xs)
cond_rises true x xs below up = rises_cons project_cmp x xs below up
cond_rises false x xs below up = up

above : (e : Entry) (es : List Entry) → IsStrictlySortedBy string_cmp (e.0 ∷ keys_of es) → (p : ProjectValue) → Contains (projects_of es) p → project_cmp (project_of e) p ≡ Less
unfolding project_of
above e es up p at =
    let r = whence es p at in
    let less : string_cmp e.0 r.0.0 ≡ Less = rises_head string_cmp e.0 (keys_of es) up r.0.0 (key_in es r.0 r.1) in
    subst (λ (q : ProjectValue). text_cmp (string_bytes e.0) q.name ≡ Less) r.3 less

rises : (es : List Entry) → IsStrictlySortedBy string_cmp (keys_of es) → IsStrictlySortedBy project_cmp (projects_of es)
rises [] up = rises_nil project_cmp
rises (e ∷ es) up = subst (IsStrictlySortedBy project_cmp) (sym (one_more e es))
    (cond_rises (has_part e) (project_of e) (projects_of es) (above e es up) (rises es (rises_tail string_cmp e.0 (keys_of es) up)))

-- ---- the projects of a state

module _ (projects : BTreeMap (String Global) Project) (m : State) (stood : Stands projects m) (ordered : IsOrdered string_cmp projects) where
  listed_is : (p : ProjectValue) → Contains (projects_of projects.entries) p → IsProject m p
  unfolding has_part project_of
  listed_is p at =
      let r = whence projects.entries p at in
      let found : get_by_text projects (string_bytes r.0.0) ≡ Some r.0.1 = entry_found projects ordered r.0 r.1 in
      let dump : m.dump (string_bytes r.0.0) ≡ r.0.1.dump = stood.dump (string_bytes r.0.0) ∙ ap (λ o. option_and_then (λ (k : Project). k.dump) o) found in
      let tags : m.tags (string_bytes r.0.0) ≡ r.0.1.tags = stood.tags (string_bytes r.0.0) ∙ ap (λ o. option_and_then (λ (k : Project). k.tags) o) found in
      subst (IsProject m) r.3 (sym (ap is_some dump), sym (ap is_some tags), r.2)

  is_listed_by : (p : ProjectValue) (o : Option Project) → get_by_text projects p.name ≡ o → IsProject m p → Contains (projects_of projects.entries) p
  unfolding has_part project_of
  is_listed_by p None e is =
      let dump : p.dump ≡ false = is.0 ∙ ap is_some (stood.dump p.name ∙ ap (λ o. option_and_then (λ (k : Project). k.dump) o) e) in
      let tags : p.tags ≡ false = is.1 ∙ ap is_some (stood.tags p.name ∙ ap (λ o. option_and_then (λ (k : Project). k.tags) o) e) in
      let no : false ≡ true = (λ i. sym dump i || sym tags i) ∙ is.2 in
      cc
  is_listed_by p (Some k) e is =
      let dump : p.dump ≡ is_some k.dump = is.0 ∙ ap is_some (stood.dump p.name ∙ ap (λ o. option_and_then (λ (k : Project). k.dump) o) e) in
      let tags : p.tags ≡ is_some k.tags = is.1 ∙ ap is_some (stood.tags p.name ∙ ap (λ o. option_and_then (λ (k : Project). k.tags) o) e) in
      let r = found_entry projects p.name k e in
      let has : has_part (r.0, k) ≡ true = (λ i. sym dump i || sym tags i) ∙ is.2 in
      let same : project_of (r.0, k) ≡ p = λ i. record { name = sym r.2 i; dump = sym dump i; tags = sym tags i } in
      subst (Contains (projects_of projects.entries)) same (there projects.entries (r.0, k) r.1 has)

  pub listing : IsListing project_cmp (IsProject m) (projects_of projects.entries)
  listing = record { rises = rises projects.entries ordered; each = λ p. (listed_is p, is_listed_by p (get_by_text projects p.name) refl) }
