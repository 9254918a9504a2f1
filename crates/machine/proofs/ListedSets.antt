-- The projects and the tags of a state whose dumps and tags were judged have listings.
use Rattle.std.proofs.Common.{◌≡◌, ◌∙◌, inl, ⊎_elim, ◌||◌, ◌<◌, nat_lt, Bool, true, false, List, [], ◌∷◌, refl, sym, ap, subst, arith}
use Rattle.std.specs.Prelude.{ℕ, nat_eq, Contains, Option, Some, None, is_some, bytes_eq}
use Rattle.std.specs.List.{list_all, starts_with}
use Rattle.std.specs.Cmp.Lexicographic.{on_texts}
use Rattle.std.specs.declared.cmp.Ordering.TheVariants.{Equal}
use Rattle.std.proofs.lemmas.Slice.Eq.{bytes_eq-Decides}
use Rattle.dump.specs.Places.{IsListing}
use Rattle.tags.specs.Judging.{lines_rise}
use Rattle.tags.specs.Values.{TagValue}
use Rattle.tags.proofs.JudgingLemmas.{rise}
use Rattle.machine.specs.FoundTags.{BeginsWith, FoundTag, IsAsked, IsTag, line_cmp, name_cmp}
use Rattle.machine.specs.Projects.{IsProject, ProjectValue, project_cmp, text_cmp}
use Rattle.machine.specs.State.{State}
use Rattle.machine.specs.Moments.{IsIndex}
use Rattle.machine.proofs.Finite.{Decision, Finite, is_true, listing, of_image, of_list, of_option, of_same, of_those, of_union, same_where}
use Rattle.streams.proofs.Bools.{and_both}
use Rattle.streams.proofs.Members.{contains_cases, not_in_nil}
use Rattle.machine.proofs.OneReplies.{line_total, name_total, then_equal}
use Rattle.machine.proofs.Prefixes.{begins, begun}
use Rattle.machine.proofs.Ties.{line_tie, text_tie}

pub same_texts : (s t : List ℕ) → Decision (s ≡ t)
same_texts s t = same_where (bytes_eq s t) (bytes_eq-Decides s t).0 (bytes_eq-Decides s t).1

-- ---- tags of one line

below_all : (n : ℕ) (ts : List TagValue) → list_all (λ (u : TagValue). nat_lt n u.line) ts ≡ true → (u : TagValue) → Contains ts u → n < u.line
below_all n [] e u at = absurd (not_in_nil u at)
below_all n (t ∷ ts) e u at =
    let b = and_both (nat_lt n t.line) (list_all (λ (u : TagValue). nat_lt n u.line) ts) e in
    ⊎_elim (λ (is : t ≡ u). subst (λ (v : TagValue). n < v.line) is (let lt = b.0 in grind (arith, lt))) (λ (h : Contains ts u). below_all n ts b.1 u h) (contains_cases t ts u at)

one_of_line : (ts : List TagValue) → lines_rise ts ≡ true → (t u : TagValue) → Contains ts t → Contains ts u → t.line ≡ u.line → t ≡ u
one_of_line [] e t u at there same = absurd (not_in_nil t at)
one_of_line (x ∷ ts) e t u at there same =
    let b = and_both (list_all (λ (v : TagValue). nat_lt x.line v.line) ts) (lines_rise ts) e in
    ⊎_elim
    (λ (is : x ≡ t). ⊎_elim
    (λ (also : x ≡ u). sym is ∙ also)
    (λ (h : Contains ts u). absurd (let lt = below_all x.line ts b.0 u h in let line : x.line ≡ t.line = ap (λ (v : TagValue). v.line) is in omega (arith, lt, line, same)))
    (contains_cases x ts u there))
    (λ (k : Contains ts t). ⊎_elim
    (λ (also : x ≡ u). absurd (let lt = below_all x.line ts b.0 t k in let line : x.line ≡ u.line = ap (λ (v : TagValue). v.line) also in omega (arith, lt, line, same)))
    (λ (h : Contains ts u). one_of_line ts b.1 t u k h same)
    (contains_cases x ts u there))
    (contains_cases x ts t at)

some_same : {X : Type 0} (x y : X) → Some x ≡ Some y → x ≡ y
some_same x y e = cc

module _ (m : State) (index : IsIndex m) where
  -- ---- projects

  project_at : List ℕ → ProjectValue
  project_at name = record { name = name; dump = is_some (m.dump name); tags = is_some (m.tags name) }

  is_at : (p : ProjectValue) → IsProject m p → project_at p.name ≡ p
  unfolding project_at
  is_at p is = λ i. record { name = p.name; dump = sym is.0 i; tags = sym is.1 i }

  at_is : (name : List ℕ) → (is_some (m.dump name) || is_some (m.tags name)) ≡ true → IsProject m (project_at name)
  unfolding project_at
  at_is name has = (refl, refl, has)

  projects : Finite (IsProject m)
  projects = of_same (λ p. (name : List ℕ) × (Contains index.projects name × ((is_some (m.dump name) || is_some (m.tags name)) ≡ true)) × (project_at name ≡ p)) (IsProject m)
      (λ p. (
        λ h. subst (IsProject m) h.2 (at_is h.0 h.1.1),
        λ is. let has = (λ i. sym is.0 i || sym is.1 i) ∙ is.2 in (p.name, (index.parts p.name has, has), is_at p is),
      ))
      (of_image (λ name. Contains index.projects name × ((is_some (m.dump name) || is_some (m.tags name)) ≡ true)) project_at
      (of_those (Contains index.projects) (λ name. (is_some (m.dump name) || is_some (m.tags name)) ≡ true) (of_list index.projects) (λ name at. is_true (is_some (m.dump name) || is_some (m.tags name)))))

  project_tie : (p q : ProjectValue) → IsProject m p → IsProject m q → project_cmp p q ≡ Equal → p ≡ q
  project_tie p q is also e =
      let name = text_tie p.name q.name e in
      sym (is_at p is) ∙ ap project_at name ∙ is_at q also

  pub project_listing : (found : List ProjectValue) × IsListing project_cmp (IsProject m) found
  project_listing = listing project_cmp (on_texts (λ (p : ProjectValue). p.name)) (IsProject m) project_tie projects

  -- ---- tags

  is_asked : (asked : Option (List ℕ)) (project : List ℕ) → Decision (IsAsked asked project)
  is_asked None project = inl tt
  is_asked (Some name) project = same_texts project name

  -- a tag of this project
  abbrev Has : List ℕ → FoundTag → Type 0
  Has name f = (tags : List TagValue) × (m.tags name ≡ Some tags) × ((t : TagValue) × Contains tags t × (record { project = name; tag = t } ≡ f))

  tags_at : (name : List ℕ) → Finite (Has name)
  tags_at name = of_union (λ tags f. (t : TagValue) × Contains tags t × (record { project = name; tag = t } ≡ f)) (λ tags. m.tags name ≡ Some tags) (of_option (m.tags name))
      (λ tags is. of_image (Contains tags) (λ t. record { project = name; tag = t }) (of_list tags))

  or_true : (b : Bool) → (b || true) ≡ true
  or_true true = refl
  or_true false = refl

  part_of : (name : List ℕ) (tags : List TagValue) → m.tags name ≡ Some tags → Contains index.projects name
  part_of name tags is = index.parts name (ap (λ o. is_some (m.dump name) || is_some o) is ∙ or_true (is_some (m.dump name)))

  tags_of_all : (asked : Option (List ℕ)) → Finite (IsTag m asked)
  tags_of_all asked = of_same (λ f. ((name : List ℕ) × Contains index.projects name × Has name f) × IsAsked asked f.project) (IsTag m asked)
      (λ f. (
        λ h.
            let has = h.0.2 in
            let project = ap (λ (g : FoundTag). g.project) has.2.2 in
            let tag = ap (λ (g : FoundTag). g.tag) has.2.2 in
            (has.0, subst (λ n. m.tags n ≡ Some has.0) project has.1, subst (Contains has.0) tag has.2.1, h.1),
        λ is. ((f.project, part_of f.project is.0 is.1, (is.0, is.1, (f.tag, is.2, refl))), is.3),
      ))
      (of_those (λ f. (name : List ℕ) × Contains index.projects name × Has name f) (λ f. IsAsked asked f.project)
      (of_union Has (Contains index.projects) (of_list index.projects) (λ name at. tags_at name)) (λ f at. is_asked asked f.project))

  tag_tie : (asked : Option (List ℕ)) (a b : FoundTag) → IsTag m asked a → IsTag m asked b → line_cmp a b ≡ Equal → a ≡ b
  tag_tie asked a b is also e =
      let tie = line_tie a b e in
      let tags : is.0 ≡ also.0 = some_same is.0 also.0 (sym is.1 ∙ ap m.tags tie.0 ∙ also.1) in
      let text = index.tags a.project is.0 is.1 in
      let tag : a.tag ≡ b.tag = one_of_line is.0 (rise text.0 is.0 text.1) a.tag b.tag is.2 (subst (λ ts. Contains ts b.tag) (sym tags) also.2) tie.1 in
      λ i. record { project = tie.0 i; tag = tag i }

  pub name_listing : (name : List ℕ) (asked : Option (List ℕ)) → (found : List FoundTag) × IsListing line_cmp (λ (f : FoundTag). IsTag m asked f × (f.tag.name ≡ name)) found
  name_listing name asked = listing line_cmp line_total (λ (f : FoundTag). IsTag m asked f × (f.tag.name ≡ name)) (λ a b is also e. tag_tie asked a b is.0 also.0 e)
      (of_those (IsTag m asked) (λ (f : FoundTag). f.tag.name ≡ name) (tags_of_all asked) (λ f at. same_texts f.tag.name name))

  pub prefix_listing : (start : List ℕ) (asked : Option (List ℕ)) → (found : List FoundTag) × IsListing name_cmp (λ (f : FoundTag). IsTag m asked f × BeginsWith f.tag.name start) found
  prefix_listing start asked = listing name_cmp name_total (λ (f : FoundTag). IsTag m asked f × BeginsWith f.tag.name start)
      (λ a b is also e. tag_tie asked a b is.0 also.0 (then_equal (text_cmp a.tag.name b.tag.name) (line_cmp a b) e).1)
      (of_those (IsTag m asked) (λ (f : FoundTag). BeginsWith f.tag.name start) (tags_of_all asked) (λ f at. same_where (starts_with nat_eq f.tag.name start) (begins start f.tag.name) (begun start f.tag.name)))
