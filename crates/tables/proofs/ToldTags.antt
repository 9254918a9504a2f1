-- The tags of rows, one row after the other.
use Rattle.std.proofs.Common.{◌≡◌, ◌⊎◌, inl, inr, ℕ, List, [], ◌∷◌, ◌++◌, map, Option, Some, None, sym, ap, subst, ◌∙◌, ◌↔◌, Contains}
use Rattle.std.specs.List.{AllByRecursion}
use Rattle.std.proofs.lemmas.List.{map-append}
use Rattle.sqlite_trees.specs.Tree.{Trees}
use Rattle.sqlite_rules.specs.Lists.{Has}
use Rattle.sqlite_rules.proofs.ListLemmas.{has_contained, contains_had}
use Rattle.machine.specs.State.{State}
use Rattle.tables.specs.declared.slots.Part.TheVariants.{Tags}
use Rattle.tables.specs.Stands.{StandsFor}
use Rattle.machine.specs.FoundTags.{FoundTag, IsTag, IsAsked}
use Rattle.machine.specs.Found.{tag_found}
use Rattle.machine.specs.declared.found.FoundTag as declared
use Rattle.tables.specs.declared.found_tags.TagRow.{TagRow}
use Rattle.tables.specs.Steps.TagRows.{TellsTag, AllTell, IsTold, TellNamed, FindsTags, IsFoundIf, Grows}
use Rattle.tables.proofs.FoundBearers.{has_last, has_before, last_or}
use Rattle.tables.proofs.FoundSlots.{one_slot}
use Rattle.tables.proofs.TagFields.{one_tag}
use Rattle.tables.proofs.Selecting.{all_of, of_all, all_last}

module _ (db : Trees) (m : State) (asked : Option (List ℕ)) where
  pub finds_none : (rows : List TagRow) → FindsTags db m asked rows rows []
  finds_none rows = record { within = λ x there. there; each = tt; all = λ v told wanted. inr told }

  module _ (rows left rest : List TagRow) (x : TagRow) (is : left ≡ rest ++ x ∷ []) where
    there : ((y : TagRow) → Has left y → Has rows y) → (y : TagRow) → Has rest y → Has rows y
    there within y h = within y (subst (λ l. Has l y) (sym is) (has_before rest x y h))

    -- the tag of a row that is left, or of this one
    still_or : (v : FoundTag) → IsTold db m left v → IsTold db m rest v ⊎ TellsTag db m x v
    still_or v told = elim (last_or rest x told.0 (subst (λ l. Has l told.0) is told.1)) [
      | inl before ↦ inl (told.0, before, told.2)
      | inr last ↦ inr (subst (λ y. TellsTag db m y v) last told.2)
    ]

    pub finds_one : AllTell db m rows → (tag : Option declared.FoundTag) (before after : List declared.FoundTag) → Grows tag before after → ((v : FoundTag) → TellsTag db m x v → IsFoundIf asked v tag)
        → FindsTags db m asked rows left (map tag_found before) → FindsTags db m asked rows rest (map tag_found after)
    finds_one all None before after same whole f = record {
      within = there f.within;
      each = subst (λ l. AllByRecursion (λ v. IsTold db m rows v × IsAsked asked v.project) (map tag_found l)) (sym same) f.each;
      all = λ v told wanted. subst (λ l. Has (map tag_found l) v ⊎ IsTold db m rest v) (sym same) (elim (f.all v told wanted) [
        | inl found ↦ inl found
        | inr waits ↦ elim (still_or v waits) [ inl still ↦ inr still | inr now ↦ absurd (whole v now wanted) ]
      ]);
    }
    finds_one all (Some tag) before after same whole f =
        let here = f.within x (subst (λ l. Has l x) (sym is) (has_last rest x)) in
        let t = of_all _ rows x all here in
        let it = whole t.0 t.1 in
        let grown : map tag_found after ≡ map tag_found before ++ tag_found tag ∷ [] = ap (map tag_found) same ∙ map-append tag_found before (tag ∷ []) in
        let mine : IsTold db m rows (tag_found tag) × IsAsked asked (tag_found tag).project = subst (λ (v : FoundTag). IsTold db m rows v × IsAsked asked v.project) (sym it.0) ((x, here, t.1), it.1) in
        record {
          within = there f.within;
          each = subst (AllByRecursion (λ v. IsTold db m rows v × IsAsked asked v.project)) (sym grown) (all_last _ (map tag_found before) (tag_found tag) f.each mine);
          all = λ v told wanted. subst (λ l. Has l v ⊎ IsTold db m rest v) (sym grown) (elim (f.all v told wanted) [
            | inl found ↦ inl (has_before (map tag_found before) (tag_found tag) v found)
            | inr waits ↦ elim (still_or v waits) [
              | inl still ↦ inr still
              | inr now ↦ inl (subst (Has (map tag_found before ++ tag_found tag ∷ [])) (whole v now).0 (has_last (map tag_found before) (tag_found tag)))
            ]
          ]);
        }

  pub finds_all : (rows left : List TagRow) (found : List FoundTag) → left ≡ [] → FindsTags db m asked rows left found → (v : FoundTag) → Contains found v ↔ (IsTold db m rows v × IsAsked asked v.project)
  finds_all rows left found empty f v = (
    (λ at. of_all _ found v f.each (has_contained found v at)),
    (λ h. elim (f.all v h.0 h.1) [ inl there ↦ contains_had found v there | inr waits ↦ absurd (subst (λ l. Has l waits.0) empty waits.1) ]),
  )

  any_asked : (v : FoundTag) → IsTag m asked v → IsTag m None v
  any_asked v is = (is.0, is.1, is.2, tt)

  -- the tags of rows with such names, of the project that is asked for
  pub named_are : (IsNamed : List ℕ → Type 0) (rows : List TagRow) (found : List FoundTag) → TellNamed db m IsNamed rows → ((x : TagRow) (v w : FoundTag) → TellsTag db m x v → TellsTag db m x w → v ≡ w)
      → ((v : FoundTag) → Contains found v ↔ (IsTold db m rows v × IsAsked asked v.project)) → (v : FoundTag) → Contains found v ↔ (IsTag m asked v × IsNamed v.tag.name)
  named_are IsNamed rows found told one each v = (
    (λ at.
        let h = (each v).0 at in
        let t = h.0.2 in
        let e = of_all _ rows h.0.0 told.each h.0.1 in
        ((t.tags, t.has, t.listed, h.1), subst (λ (w : FoundTag). IsNamed w.tag.name) (one h.0.0 e.0 v e.1 t) e.2)),
    (λ h. (each v).1 (told.all v (any_asked v h.0) h.1, h.0.3)),
  )

  pub all_tell : (IsNamed : List ℕ → Type 0) (rows : List TagRow) → TellNamed db m IsNamed rows → AllTell db m rows
  all_tell IsNamed rows told = all_of _ rows (λ x there. let e = of_all _ rows x told.each there in (e.0, e.1))

-- a row has one tag
pub one_told : (db : Trees) (m : State) (s : StandsFor db m) (x : TagRow) (v w : FoundTag) → TellsTag db m x v → TellsTag db m x w → v ≡ w
one_told db m s x v w a b =
    let project = (one_slot db s.parts _ x.slot v.project w.project Tags Tags s.keeps a.slot b.slot).0 in
    let tag = one_tag v.tag w.tag (sym a.is ∙ b.is) in
    λ i. record { project = project i; tag = tag i }
