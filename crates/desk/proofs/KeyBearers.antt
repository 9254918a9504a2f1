-- The bearers of a key in all projects, project by project.
use Rattle.std.proofs.Common.{Global, ◌≡◌, ◌∙◌, ◌⊎◌, ◌↔◌, inl, inr, ◌++◌, ℕ, List, [], ◌∷◌, refl, sym, ap, subst}
use Rattle.std.specs.Prelude.{Contains, Option, Some, None, String, string_bytes, option_and_then}
use Rattle.std.specs.BTreeMap.{BTreeMap, IsOrdered, get_by_text}
use Rattle.std.specs.String.{string_cmp}
use Rattle.std.proofs.lemmas.List.Elements.{Contains-append_left, Contains-append_right, Contains-append_cases}
use Rattle.dump.specs.Progress.{DumpValue}
use Rattle.machine.specs.State.{State}
use Rattle.machine.specs.Selections.{BearerFound, FindsBearers, Bears}
use Rattle.desk.specs.Steps.Plain.{Stands}
use Rattle.desk.specs.Steps.Selected.{IsBearerOf, IsBearerHere, IsBearerAmong, FoundSoFar}
use Rattle.desk.specs.Steps.Rows.{Adds, AreThose}
use Rattle.desk.proofs.Finding.{iff_sym, iff_trans, or_none, or_step}
use Rattle.desk.specs.declared.project.Project.{Project}
use Rattle.machine.proofs.EntryLists.{entry_found, found_entry}
use Rattle.streams.proofs.Members.{contains_head, contains_tail, contains_cases, not_in_nil}

abbrev Entry : Type 0
Entry = String Global × Project

-- ---- those of one project

no_dump : (d : DumpValue) → ◌≡◌ {A = Option DumpValue} None (Some d) → ⊥
no_dump d e = cc

pub adds_none : (key name : List ℕ) (old : List BearerFound) → Adds old old (IsBearerHere key name None)
adds_none key name old b = ((λ at. inl at), (λ h. elim h [ inl at ↦ at | inr here ↦ absurd (no_dump here.0 here.1) ]))

same_dump : (c d : DumpValue) → ◌≡◌ {A = Option DumpValue} (Some c) (Some d) → c ≡ d
same_dump c d e = cc

pub adds_some : (key name : List ℕ) (dump : DumpValue) (old more new : List BearerFound) → new ≡ old ++ more → AreThose (IsBearerOf dump.elements name key) more → Adds old new (IsBearerHere key name (Some dump))
adds_some key name dump old more new same those b = (
  (λ at. elim (Contains-append_cases old more b (subst (λ l. Contains l b) same at)) [ inl f ↦ inl f | inr g ↦ inr (dump, refl, (those b).0 g) ]),
  (λ h. subst (λ l. Contains l b) (sym same) (elim h [
    | inl f ↦ Contains-append_left old more b f
    | inr here ↦ Contains-append_right old more b ((those b).1 (subst (λ (d : DumpValue). IsBearerOf d.elements name key b) (sym (same_dump dump here.0 here.1)) here.2))
  ])),
)

-- ---- those of one project and of those that follow

among_more : (key : List ℕ) (e : Entry) (es : List Entry) (b : BearerFound) → IsBearerAmong key (e ∷ es) b ↔ (IsBearerHere key (string_bytes e.0) e.1.dump b ⊎ IsBearerAmong key es b)
among_more key e es b = (
  (λ h. elim (contains_cases e es h.0 h.1) [
    | inl same ↦ inl (subst (λ (f : Entry). IsBearerHere key (string_bytes f.0) f.1.dump b) (sym same) h.2)
    | inr more ↦ inr (h.0, more, h.2)
  ]),
  (λ h. elim h [ inl here ↦ (e, contains_head e es, here) | inr more ↦ (more.0, contains_tail e es more.0 more.1, more.2) ]),
)

-- ---- the way over the projects

pub way_begins : (key : List ℕ) (all : List Entry) → FoundSoFar key all all []
way_begins key all b = ((λ h. elim h [ inl at ↦ absurd (not_in_nil b at) | inr among ↦ among ]), (λ among. inr among))

pub way_next : (key : List ℕ) (all rest : List Entry) (e : Entry) (found new : List BearerFound) → FoundSoFar key all (e ∷ rest) found → Adds found new (IsBearerHere key (string_bytes e.0) e.1.dump) → FoundSoFar key all rest new
way_next key all rest e found new way adds b = iff_trans (or_step (adds b) (among_more key e rest b)) (way b)

pub way_end : (key : List ℕ) (all : List Entry) (found : List BearerFound) → FoundSoFar key all [] found → AreThose (IsBearerAmong key all) found
way_end key all found way b = iff_trans (iff_sym (or_none (λ h. not_in_nil h.0 h.1))) (way b)

-- ---- those of a state

module _ (projects : BTreeMap (String Global) Project) (m : State) (stood : Stands projects m) (ordered : IsOrdered string_cmp projects) (key : List ℕ) where
  bears_of : (b : BearerFound) → IsBearerAmong key projects.entries b → Bears m key b
  bears_of b h =
      let found : get_by_text projects (string_bytes h.0.0) ≡ Some h.0.1 = entry_found projects ordered h.0 h.1 in
      let dump : m.dump (string_bytes h.0.0) ≡ h.0.1.dump = stood.dump (string_bytes h.0.0) ∙ ap (λ o. option_and_then (λ (k : Project). k.dump) o) found in
      (h.2.0, ap m.dump h.2.2.0 ∙ (dump ∙ h.2.1), h.2.2.1)

  of_bears_by : (b : BearerFound) (o : Option Project) → get_by_text projects b.project ≡ o → Bears m key b → IsBearerAmong key projects.entries b
  of_bears_by b None e h =
      let none : ◌≡◌ {A = Option DumpValue} (Some h.0) None = sym h.1 ∙ (stood.dump b.project ∙ ap (λ o. option_and_then (λ (k : Project). k.dump) o) e) in
      absurd (let off = none in cc)
  of_bears_by b (Some k) e h =
      let dump : m.dump b.project ≡ k.dump = stood.dump b.project ∙ ap (λ o. option_and_then (λ (k : Project). k.dump) o) e in
      let r = found_entry projects b.project k e in
      ((r.0, k), r.1, (h.0, sym dump ∙ h.1, (r.2, h.2)))

  pub bears_all : (xs : List BearerFound) → AreThose (IsBearerAmong key projects.entries) xs → FindsBearers m key xs
  bears_all xs those b = iff_trans (those b) (bears_of b, of_bears_by b (get_by_text projects b.project) refl)
