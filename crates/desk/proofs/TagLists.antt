-- The lists of tags.
use Rattle.std.proofs.Common.{Global, ◌≡◌, ◌∙◌, ◌⊎◌, inl, inr, ⊎_elim, ◌+◌, ℕ, Bool, true, false, cond, List, [], ◌∷◌, map, nat_lt, refl, sym, ap, subst, arith, get_or}
use Rattle.std.specs.Prelude.{Option, Some, None, option_and_then, String, string_bytes, Contains, bytes_eq}
use Rattle.std.specs.BTreeMap.{BTreeMap, IsOrdered, get_by_text}
use Rattle.std.specs.Cmp.{IsTotalOrder, on_total}
use Rattle.std.specs.Cmp.Lexicographic.{on_texts}
use Rattle.std.specs.List.{AllByRecursion, list_all, IsDistinct}
use Rattle.std.specs.List.Sorted.{IsSorted, IsStrictlySortedBy, IsPermutation}
use Rattle.std.specs.Map.{keys_of}
use Rattle.std.specs.Ordering.{is_eq, is_lt, nat_cmp, ordering_then, ordering_reverse, eq_by_cmp}
use Rattle.std.specs.String.{string_cmp}
use Rattle.std.specs.declared.cmp.Ordering.{Ordering}
use Rattle.std.specs.declared.cmp.Ordering.TheVariants.{Less, Equal, Greater}
use Rattle.std.proofs.lemmas.Cmp.{eq_by_cmp_equiv}
use Rattle.std.proofs.lemmas.List.Elements.{Contains-append_left, Contains-append_right, Contains-append_cases}
use Rattle.std.proofs.lemmas.List.Sorted.{Contains-permutation, IsPermutation-sym, IsPermutation-map}
use Rattle.std.proofs.lemmas.Map.Keys.{IsDistinct-from_sorted, IsDistinct-IsPermutation, apart_from_distinct, sorted_from_all_adjacent}
use Rattle.std.proofs.lemmas.Slice.Eq.{bytes_eq-Decides}
use Rattle.tags.specs.Judging.{lines_rise}
use Rattle.tags.specs.Values.{TagValue}
use Rattle.dump.specs.Places.{IsListing}
use Rattle.machine.specs.FoundTags.{IsAsked, IsTag, line_cmp, name_cmp, FoundTag}
use Rattle.machine.specs.Found.{tag_found}
use Rattle.machine.specs.Projects.{text_cmp}
use Rattle.machine.specs.State.{State}
use Rattle.desk.specs.Steps.Listed.{is_asked, tags_so, project_tags, tags_of, by_value, TagsRise, AllRise}
use Rattle.desk.specs.Steps.Plain.{Stands}
use Rattle.machine.specs.declared.found.FoundTag as program
use Rattle.desk.specs.declared.project.Project.{Project}
use Rattle.machine.proofs.EntryLists.{entry_found, found_entry, rises_cons, rises_nil, rises_head, rises_tail, rises_append}
use Rattle.streams.proofs.Members.{contains_head, contains_tail, contains_cases, not_in_nil}
use Rattle.streams.proofs.Bools.{and_both}
use Rattle.dump.proofs.Listing.{rises_map}
use Rattle.machine.proofs.OneReplies.{line_total, name_total, then_equal}

-- ---- the tags of one project

module _ (is_so : List ℕ → Bool) (project : List ℕ) where
  abbrev of : TagValue → FoundTag
  of t = record { project = project; tag = t }

  in_so : (b : Bool) (x f : FoundTag) (xs : List FoundTag) → Contains (cond b (x ∷ xs) xs) f → ((b ≡ true) × (x ≡ f)) ⊎ Contains xs f
  in_so true x f xs at = ⊎_elim (λ (e : x ≡ f). inl (refl, e)) (λ (t : Contains xs f). inr t) (contains_cases x xs f at)
  in_so false x f xs at = inr at

  so_here : (b : Bool) (x : FoundTag) (xs : List FoundTag) → b ≡ true → Contains (cond b (x ∷ xs) xs) x
  so_here true x xs e = contains_head x xs
  so_here false x xs e = cc

  so_there : (b : Bool) (x f : FoundTag) (xs : List FoundTag) → Contains xs f → Contains (cond b (x ∷ xs) xs) f
  so_there true x f xs at = contains_tail x xs f at
  so_there false x f xs at = at

  pub so_source : (tags : List TagValue) (f : FoundTag) → Contains (tags_so is_so project tags) f → (t : TagValue) × Contains tags t × (is_so t.name ≡ true) × (of t ≡ f)
  so_source [] f at = absurd (not_in_nil f at)
  so_source (t ∷ ts) f at = ⊎_elim
      (λ (h : (is_so t.name ≡ true) × (of t ≡ f)). (t, contains_head t ts, h.0, h.1))
      (λ (k : Contains (tags_so is_so project ts) f). let r = so_source ts f k in (r.0, contains_tail t ts r.0 r.1, r.2, r.3))
      (in_so (is_so t.name) (of t) f (tags_so is_so project ts) at)

  pub so_listed : (tags : List TagValue) (t : TagValue) → Contains tags t → is_so t.name ≡ true → Contains (tags_so is_so project tags) (of t)
  so_listed [] t at e = absurd (not_in_nil t at)
  so_listed (u ∷ ts) t at e = ⊎_elim
      (λ (h : u ≡ t). subst (λ (v : TagValue). Contains (cond (is_so v.name) (of v ∷ tags_so is_so project ts) (tags_so is_so project ts)) (of t)) (sym h) (so_here (is_so t.name) (of t) (tags_so is_so project ts) e))
      (λ (k : Contains ts t). so_there (is_so u.name) (of u) (of t) (tags_so is_so project ts) (so_listed ts t k e))
      (contains_cases u ts t at)

  self_equal : (o : Ordering) → o ≡ ordering_reverse o → o ≡ Equal
  self_equal Less e = cc
  self_equal Equal e = refl
  self_equal Greater e = cc

  same_project : text_cmp project project ≡ Equal
  same_project = self_equal (text_cmp project project) ((on_texts (λ (t : List ℕ). t)).antisymm project project)

  is_less : (m n : ℕ) → nat_lt m n ≡ true → nat_cmp m n ≡ Less
  is_less m n e = rw e refl

  next_line : (t u : TagValue) → nat_lt t.line u.line ≡ true → line_cmp (of t) (of u) ≡ Less
  next_line t u e = ap (λ o. ordering_then o (nat_cmp t.line u.line)) same_project ∙ is_less t.line u.line e

  all_lines : (n : ℕ) (ts : List TagValue) → list_all (λ (u : TagValue). nat_lt n u.line) ts ≡ true → (u : TagValue) → Contains ts u → nat_lt n u.line ≡ true
  all_lines n [] e u at = absurd (not_in_nil u at)
  all_lines n (t ∷ ts) e u at =
      let both = and_both (nat_lt n t.line) (list_all (λ (u : TagValue). nat_lt n u.line) ts) e in
      ⊎_elim (λ (h : t ≡ u). subst (λ (v : TagValue). nat_lt n v.line ≡ true) h both.0) (λ (k : Contains ts u). all_lines n ts both.1 u k) (contains_cases t ts u at)

  so_cons : (b : Bool) (x : FoundTag) (xs : List FoundTag) → ((y : FoundTag) → Contains xs y → line_cmp x y ≡ Less) → IsStrictlySortedBy line_cmp xs → IsStrictlySortedBy line_cmp (cond b (x ∷ xs) xs)
  so_cons true x xs below up = rises_cons line_cmp x xs below up
  so_cons false x xs below up = up

  pub so_rises : (tags : List TagValue) → lines_rise tags ≡ true → IsStrictlySortedBy line_cmp (tags_so is_so project tags)
  so_rises [] e = rises_nil line_cmp
  so_rises (t ∷ ts) e =
      let both = and_both (list_all (λ (u : TagValue). nat_lt t.line u.line) ts) (lines_rise ts) e in
      so_cons (is_so t.name) (of t) (tags_so is_so project ts)
      (λ y at. let r = so_source ts y at in subst (λ f. line_cmp (of t) f ≡ Less) r.3 (next_line t r.0 (all_lines t.line ts both.0 r.0 r.1)))
      (so_rises ts both.1)

-- ---- of all projects

abbrev Entry : Type 0
Entry = String Global × Project

module _ (is_so : List ℕ → Bool) (asked : Option (List ℕ)) where
  -- a tag of this entry that is listed
  record IsOf (e : Entry) (f : FoundTag) : Type 0 where
    tags : List TagValue
    is : e.1.tags ≡ Some tags
    member : Contains tags f.tag
    so : is_so f.tag.name ≡ true
    project : f.project ≡ string_bytes e.0
    asks : is_asked asked (string_bytes e.0) ≡ true

  asked_source : (b : Bool) (name : List ℕ) (tags : List TagValue) (f : FoundTag) → Contains (cond b (tags_so is_so name tags) []) f → (b ≡ true) × Contains (tags_so is_so name tags) f
  asked_source true name tags f at = (refl, at)
  asked_source false name tags f at = absurd (not_in_nil f at)

  asked_listed : (b : Bool) (name : List ℕ) (tags : List TagValue) (f : FoundTag) → b ≡ true → Contains (tags_so is_so name tags) f → Contains (cond b (tags_so is_so name tags) []) f
  asked_listed true name tags f e at = at
  asked_listed false name tags f e at = cc

  project_source : (e : Entry) (o : Option (List TagValue)) (f : FoundTag) → e.1.tags ≡ o → Contains (project_tags is_so asked (string_bytes e.0) o) f → IsOf e f
  project_source e None f is at = absurd (not_in_nil f at)
  project_source e (Some tags) f is at =
      let both = asked_source (is_asked asked (string_bytes e.0)) (string_bytes e.0) tags f at in
      let r = so_source is_so (string_bytes e.0) tags f both.1 in
      record {
        tags = tags;
        is = is;
        member = subst (λ (g : FoundTag). Contains tags g.tag) r.3 r.1;
        so = subst (λ (g : FoundTag). is_so g.tag.name ≡ true) r.3 r.2;
        project = sym (ap (λ (g : FoundTag). g.project) r.3);
        asks = both.0;
      }

  project_listed : (e : Entry) (o : Option (List TagValue)) (f : FoundTag) → e.1.tags ≡ o → IsOf e f → Contains (project_tags is_so asked (string_bytes e.0) o) f
  project_listed e None f is h = let no : None ≡ Some h.tags = sym is ∙ h.is in cc
  project_listed e (Some tags) f is h =
      let same : h.tags ≡ tags = some_is (sym h.is ∙ is) in
      let found : Contains (tags_so is_so (string_bytes e.0) tags) (record { project = string_bytes e.0; tag = f.tag }) = so_listed is_so (string_bytes e.0) tags f.tag (subst (λ ts. Contains ts f.tag) same h.member) h.so in
      asked_listed (is_asked asked (string_bytes e.0)) (string_bytes e.0) tags f h.asks (subst (λ p. Contains (tags_so is_so (string_bytes e.0) tags) (record { project = p; tag = f.tag })) (sym h.project) found)
    where
      some_is : {x y : List TagValue} → Some x ≡ Some y → x ≡ y
      some_is e = cc

  source : (es : List Entry) (f : FoundTag) → Contains (tags_of is_so asked es) f → (e : Entry) × Contains es e × IsOf e f
  source [] f at = absurd (not_in_nil f at)
  source (e ∷ es) f at = ⊎_elim
      (λ (h : Contains (project_tags is_so asked (string_bytes e.0) e.1.tags) f). (e, contains_head e es, project_source e e.1.tags f refl h))
      (λ (t : Contains (tags_of is_so asked es) f). let r = source es f t in (r.0, contains_tail e es r.0 r.1, r.2))
      (Contains-append_cases (project_tags is_so asked (string_bytes e.0) e.1.tags) (tags_of is_so asked es) f at)

  listed : (es : List Entry) (e : Entry) (f : FoundTag) → Contains es e → IsOf e f → Contains (tags_of is_so asked es) f
  listed [] e f at h = absurd (not_in_nil e at)
  listed (d ∷ es) e f at h = ⊎_elim
      (λ (s : d ≡ e). Contains-append_left (project_tags is_so asked (string_bytes d.0) d.1.tags) (tags_of is_so asked es) f (project_listed d d.1.tags f refl (subst (λ g. IsOf g f) (sym s) h)))
      (λ (t : Contains es e). Contains-append_right (project_tags is_so asked (string_bytes d.0) d.1.tags) (tags_of is_so asked es) f (listed es e f t h))
      (contains_cases d es e at)

  -- ---- in order

  asked_rises : (b : Bool) (xs : List FoundTag) → IsStrictlySortedBy line_cmp xs → IsStrictlySortedBy line_cmp (cond b xs [])
  asked_rises true xs up = up
  asked_rises false xs up = rises_nil line_cmp

  project_rises : (name : List ℕ) (o : Option (List TagValue)) → TagsRise o → IsStrictlySortedBy line_cmp (project_tags is_so asked name o)
  project_rises name None h = rises_nil line_cmp
  project_rises name (Some tags) h = asked_rises (is_asked asked name) (tags_so is_so name tags) (so_rises is_so name tags h)

  key_in : (es : List Entry) (e : Entry) → Contains es e → Contains (keys_of es) e.0
  key_in [] e at = absurd (not_in_nil e at)
  key_in (f ∷ es) e at = ⊎_elim
      (λ (h : f ≡ e). subst (Contains (f.0 ∷ keys_of es)) (ap (λ (g : Entry). g.0) h) (contains_head f.0 (keys_of es)))
      (λ (t : Contains es e). contains_tail f.0 (keys_of es) e.0 (key_in es e t))
      (contains_cases f es e at)

  next_project : (f g : FoundTag) (p q : List ℕ) → f.project ≡ p → g.project ≡ q → text_cmp p q ≡ Less → line_cmp f g ≡ Less
  next_project f g p q e h less = ap (λ o. ordering_then o (nat_cmp f.tag.line g.tag.line)) ((λ i. text_cmp (e i) (h i)) ∙ less)

  rises : (es : List Entry) → IsStrictlySortedBy string_cmp (keys_of es) → AllRise es → IsStrictlySortedBy line_cmp (tags_of is_so asked es)
  rises [] up h = rises_nil line_cmp
  rises (e ∷ es) up h =
      rises_append line_cmp (project_tags is_so asked (string_bytes e.0) e.1.tags) (tags_of is_so asked es)
      (project_rises (string_bytes e.0) e.1.tags h.0)
      (rises es (rises_tail string_cmp e.0 (keys_of es) up) h.1)
      (λ f g at there.
      let a = project_source e e.1.tags f refl at in
      let r = source es g there in
      next_project f g (string_bytes e.0) (string_bytes r.0.0) a.project r.2.project (rises_head string_cmp e.0 (keys_of es) up r.0.0 (key_in es r.0 r.1)))

  -- ---- the tags of a state

  asks_it : (o : Option (List ℕ)) (p : List ℕ) → is_asked o p ≡ true → IsAsked o p
  asks_it None p e = tt
  asks_it (Some name) p e = sym ((bytes_eq-Decides name p).0 e)

  it_asks : (o : Option (List ℕ)) (p : List ℕ) → IsAsked o p → is_asked o p ≡ true
  it_asks None p h = refl
  it_asks (Some name) p h = (bytes_eq-Decides name p).1 (sym h)

  module _ (projects : BTreeMap (String Global) Project) (m : State) (stood : Stands projects m) (ordered : IsOrdered string_cmp projects) where
    is_tag : (f : FoundTag) → Contains (tags_of is_so asked projects.entries) f → IsTag m asked f × (is_so f.tag.name ≡ true)
    is_tag f at =
        let r = source projects.entries f at in
        let found : get_by_text projects (string_bytes r.0.0) ≡ Some r.0.1 = entry_found projects ordered r.0 r.1 in
        let tags : m.tags (string_bytes r.0.0) ≡ Some r.2.tags = stood.tags (string_bytes r.0.0) ∙ ap (λ o. option_and_then (λ (k : Project). k.tags) o) found ∙ r.2.is in
        ((r.2.tags, ap m.tags r.2.project ∙ tags, r.2.member, subst (IsAsked asked) (sym r.2.project) (asks_it asked (string_bytes r.0.0) r.2.asks)), r.2.so)

    tag_is_by : (f : FoundTag) (o : Option Project) → get_by_text projects f.project ≡ o → IsTag m asked f → is_so f.tag.name ≡ true → Contains (tags_of is_so asked projects.entries) f
    tag_is_by f None e h so =
        let no : None ≡ Some h.0 = sym (stood.tags f.project ∙ ap (λ o. option_and_then (λ (k : Project). k.tags) o) e) ∙ h.1 in
        cc
    tag_is_by f (Some k) e h so =
        let tags : k.tags ≡ Some h.0 = sym (stood.tags f.project ∙ ap (λ o. option_and_then (λ (k : Project). k.tags) o) e) ∙ h.1 in
        let r = found_entry projects f.project k e in
        listed projects.entries (r.0, k) f r.1 (record {
          tags = h.0;
          is = tags;
          member = h.2;
          so = so;
          project = r.2;
          asks = subst (λ p. is_asked asked p ≡ true) r.2 (it_asks asked f.project h.3);
        })

    pub each_tag : (P : List ℕ → Type 0) → ((name : List ℕ) → is_so name ≡ true → P name) → ((name : List ℕ) → P name → is_so name ≡ true)
        → (f : FoundTag) → (Contains (tags_of is_so asked projects.entries) f → IsTag m asked f × P f.tag.name) × (IsTag m asked f × P f.tag.name → Contains (tags_of is_so asked projects.entries) f)
    each_tag P to from f = (
      λ at. let r = is_tag f at in (r.0, to f.tag.name r.1),
      λ h. tag_is_by f (get_by_text projects f.project) refl h.0 (from f.tag.name h.1),
    )

    pub by_line : AllRise projects.entries → IsStrictlySortedBy line_cmp (tags_of is_so asked projects.entries)
    by_line up = rises projects.entries ordered up

-- ---- names that are so

pub is_name : (text name : List ℕ) → bytes_eq name text ≡ true → name ≡ text
is_name text name e = (bytes_eq-Decides name text).0 e

pub name_is : (text name : List ℕ) → name ≡ text → bytes_eq name text ≡ true
name_is text name e = (bytes_eq-Decides name text).1 e

-- ---- by names

module _ (xs ys : List program.FoundTag) (moved : IsPermutation xs ys) (up : IsStrictlySortedBy (by_value line_cmp) xs) (sorted : IsSorted (by_value name_cmp) ys) where
  line_order : IsTotalOrder (by_value line_cmp)
  line_order = on_total tag_found line_total

  name_order : IsTotalOrder (by_value name_cmp)
  name_order = on_total tag_found name_total

  next_is : (o : Ordering) (back : Ordering) → back ≡ ordering_reverse o → is_lt back ≡ false → (o ≡ Equal → ⊥) → o ≡ Less
  next_is Less back e lt n = refl
  next_is Equal back e lt n = absurd (n refl)
  next_is Greater back e lt n = let no : true ≡ false = ap is_lt (sym e) ∙ lt in cc

  lines_tie : (f g : FoundTag) → name_cmp f g ≡ Equal → line_cmp f g ≡ Equal
  lines_tie f g e = (then_equal (text_cmp f.tag.name g.tag.name) (line_cmp f g) e).1

  distinct : IsDistinct (eq_by_cmp (by_value line_cmp)) ys
  distinct = IsDistinct-IsPermutation (eq_by_cmp (by_value line_cmp)) (λ x y. (eq_by_cmp_equiv line_order).symm x y) xs ys moved (IsDistinct-from_sorted (by_value line_cmp) xs up)

  name_rises : (zs : List program.FoundTag) → zs ≡ ys → IsStrictlySortedBy (by_value name_cmp) zs
  name_rises [] e = rises_nil (by_value name_cmp)
  name_rises (z ∷ zs) e = subst (IsStrictlySortedBy (by_value name_cmp)) (sym e) (sorted_from_all_adjacent name_order ys z (λ k lt.
      let a = get_or ys k z in
      let b = get_or ys (k + 1) z in
      let apart : is_eq (by_value line_cmp a b) ≡ false = apart_from_distinct (eq_by_cmp (by_value line_cmp)) ys k (k + 1) z distinct (omega arith) lt in
      next_is (by_value name_cmp a b) (by_value name_cmp b a) (name_order.antisymm b a) (sorted k z (omega arith) lt)
      (λ tie. let no : true ≡ false = sym (ap is_eq (lines_tie (tag_found a) (tag_found b) tie)) ∙ apart in cc)))

  pub by_name : (P : FoundTag → Type 0) → ((f : FoundTag) → (Contains (map tag_found xs) f → P f) × (P f → Contains (map tag_found xs) f)) → IsListing name_cmp P (map tag_found ys)
  by_name P each = record {
    rises = rises_map tag_found name_cmp ys (name_rises ys refl);
    each = λ f. (
      λ at. (each f).0 (Contains-permutation (map tag_found ys) (map tag_found xs) f (IsPermutation-sym (map tag_found xs) (map tag_found ys) (IsPermutation-map tag_found xs ys moved)) at),
      λ h. Contains-permutation (map tag_found xs) (map tag_found ys) f (IsPermutation-map tag_found xs ys moved) ((each f).1 h),
    );
  }

-- what is in order as values is so as the program's values
pub unmapped : (xs : List program.FoundTag) → IsStrictlySortedBy line_cmp (map tag_found xs) → IsStrictlySortedBy (by_value line_cmp) xs
unfolding IsStrictlySortedBy
unmapped [] up = up
unmapped (x ∷ xs) up = (back xs up.0, unmapped xs up.1)
  where
    back : (ys : List program.FoundTag) → AllByRecursion (λ (f : FoundTag). line_cmp (tag_found x) f ≡ Less) (map tag_found ys) → AllByRecursion (λ (y : program.FoundTag). by_value line_cmp x y ≡ Less) ys
    back [] h = h
    back (y ∷ ys) h = (h.0, back ys h.1)
