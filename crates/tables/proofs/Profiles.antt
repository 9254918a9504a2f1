-- The profile of a dump, as it is selected.
use Rattle.std.proofs.Common.{◌≡◌, inl, inr, ℕ, ℤ, List, [], ◌∷◌, Option, Some, None, codes, refl, sym, ap, ◌∙◌, ◌↔◌}
use Rattle.sqlite.specs.Listing.{understood}
use Rattle.sqlite.specs.State.{State as Store, Shown}
use Rattle.sqlite_tied.specs.Compute.{everything}
use Rattle.sqlite_value.specs.Order.{Row}
use Rattle.sqlite_value.specs.declared.value.Value.TheVariants.{Int}
use Rattle.sqlite_sql.specs.Term.{col}
use Rattle.sqlite_trees.specs.Tree.{Trees}
use Rattle.sqlite_rules.specs.Lists.{Has}
use Rattle.lsif.specs.declared.profile.Profile.{Profile}
use Rattle.lsif.specs.declared.profile.Profile.TheVariants.{One}
use Rattle.lsif.specs.Profiles.{profile_number, profile_numbered}
use Rattle.dump.specs.Progress.{DumpValue}
use Rattle.flatten.specs.Flat.{RowsValue, IsFlat}
use Rattle.tables.specs.declared.slots.Part.TheVariants.{Dump}
use Rattle.tables.specs.Schema.{schema_two}
use Rattle.tables.specs.Columns.{dump_rows, profile_columns}
use Rattle.tables.specs.Contents.{owned, slot_row}
use Rattle.machine.specs.State.{State}
use Rattle.tables.specs.Stands.{StandsFor}
use Rattle.tables.specs.declared.parts.TheConstants.{SELECT_PROFILE}
use Rattle.tables.specs.Steps.Selected.{IsFirstRead, equals}
use Rattle.tables.specs.Steps.DumpEntries.{Entries, entry_values, ShowsOneOf}
use Rattle.tables.specs.TableTrees.{slot_tree}
use Rattle.tables.proofs.DumpEntries.{typed, shows_one_of}
use Rattle.tables.proofs.Select.{IsSelect, one_table}
use Rattle.tables.proofs.Selecting.{IsSelection, shows_one}

pub select_profile_is : IsSelect schema_two SELECT_PROFILE.now (one_table 22 (equals ((1, 0) ∷ [])) (col 1 2 ∷ [])) (codes "profile" ∷ [])
unfolding understood everything
select_profile_is = record { is = refl; plain = (refl, refl); unlisted = refl; silent = λ schema base. refl }

abbrev IsProfile : DumpValue → Profile → Type 0
IsProfile dump profile = dump.profile ≡ profile

are : (d : DumpValue) (flat : RowsValue) → IsFlat d.elements flat → (row : Row) → Has (dump_rows d.profile flat 22) row ↔ ((p : Profile) × IsProfile d p × (row ≡ profile_columns p))
are d flat is row = (
  (λ h. elim h [ inl e ↦ (d.profile, refl, e) | inr none ↦ absurd none ]),
  (λ h. inl (h.2 ∙ ap profile_columns (sym h.1))),
)

abbrev Matches : Profile → Type 0
Matches p = Unit {0}

of_number : (p : Profile) → profile_numbered (profile_number p) ≡ Some p
of_number One = refl
of_number p = refl

-- profiles of one number are one
same_profile : (p q : Profile) → profile_columns p ≡ profile_columns q → p ≡ q
same_profile p q e =
    let same : profile_number p ≡ profile_number q = cc in
    let one : ◌≡◌ {A = Option Profile} (Some p) (Some q) = sym (of_number p) ∙ ap profile_numbered same ∙ of_number q in
    cc

module _ (db : Trees) (m : State) (s : StandsFor db m) (id : ℤ) where
  abbrev IsWanted : ℤ → Entries IsProfile db m → Type 0
  IsWanted at e = (e.0.slot ≡ id) × Matches e.0.value

  selection : IsSelection (entry_values profile_columns IsProfile db m) (λ at e. profile_columns e.0.value) IsWanted SELECT_PROFILE.now (Int id ∷ []) 22
  selection = record {
    pairs = (1, 0) ∷ [];
    terms = col 1 2 ∷ [];
    names = codes "profile" ∷ [];
    is = select_profile_is;
    own = λ db. refl;
    shows = λ at e. refl;
    alike = λ at e. (tt, tt);
    wants = λ at e h. ((let a = h.0 in cc), tt);
    wanted = λ at e w. (ap Int w.0, tt);
  }

is_owned : Has owned 22
is_owned = inr (inr (inr (inr (inr (inr (inr (inl refl)))))))

pub profile_found : (m : State) (id : ℤ) (project : List ℕ) (dump : DumpValue) (old new : Store) (rows : List Row) (found : Option Profile) → StandsFor old.now.trees m → old.now.schema ≡ schema_two → Has (old.now.trees slot_tree) (slot_row id project Dump)
    → m.dump project ≡ Some dump → Shown SELECT_PROFILE.now (Int id ∷ []) old new rows → IsFirstRead profile_columns rows found → found ≡ Some dump.profile
unfolding selection
profile_found m id project dump old new rows found s schema slot has shown read =
    let db = old.now.trees in
    it found (shows_one_of db m s IsProfile profile_columns 22 is_owned are (λ tags. refl) project dump id slot has Matches profile_columns profile_columns found
    (shows_one (entry_values profile_columns IsProfile db m) (λ at e. profile_columns e.0.value) (IsWanted db m s id) profile_columns SELECT_PROFILE.now (Int id ∷ []) 22 (selection db m s id) (λ x. refl) old new rows schema
    (typed db m s IsProfile profile_columns 22 is_owned are (λ tags. refl)) shown found read))
  where
    it : (o : Option Profile) → ShowsOneOf profile_columns (IsProfile dump) Matches profile_columns o → o ≡ Some dump.profile
    it None none = absurd (none dump.profile refl tt)
    it (Some p) one = ap (λ (x : Profile). Some x) (same_profile p one.0 one.3 ∙ sym one.1)
