-- The tags that an index in memory lists are those that are asked for.
use Rattle.std.proofs.Common.{Global, ◌≡◌, ℕ, List, map, sym, subst}
use Rattle.std.specs.Prelude.{◌↔◌, bytes_eq, nat_eq, Contains, Option, String}
use Rattle.std.specs.BTreeMap.{BTreeMap, IsOrdered}
use Rattle.std.specs.List.{starts_with}
use Rattle.std.specs.List.Sorted.{IsStrictlySortedBy}
use Rattle.std.specs.String.{string_cmp}
use Rattle.machine.specs.Found.{tag_found}
use Rattle.machine.specs.FoundTags.{BeginsWith, FoundTag, IsTag, line_cmp}
use Rattle.machine.specs.State.{State}
use Rattle.machine.specs.declared.found.FoundTag as program
use Rattle.machine.proofs.Prefixes.{begins, begun}
use Rattle.desk.specs.Indexes.{FindsTags}
use Rattle.desk.specs.Steps.Listed.{is_wanted, tags_of, AllRise, AreOrdered}
use Rattle.desk.specs.Steps.Plain.{Stands}
use Rattle.desk.specs.declared.index.Wanted.{Wanted}
use Rattle.desk.specs.declared.index.Wanted.TheVariants.{Name, Prefix}
use Rattle.desk.specs.declared.project.Project.{Project}
use Rattle.desk.proofs.TagLists.{by_line, by_name, each_tag, is_name, name_is, unmapped}

module _ (m : State) (asked : Option (List ℕ)) (projects : BTreeMap (String Global) Project) (stood : Stands projects m) (ordered : IsOrdered string_cmp projects) (rising : AllRise projects.entries) where
  pub wanted_tags : (wanted : Wanted) (old new : List program.FoundTag) → map tag_found old ≡ tags_of (is_wanted wanted) asked projects.entries → AreOrdered wanted old new → FindsTags m asked wanted (map tag_found new)
  wanted_tags (Name text) old new is same =
      let so = λ (n : List ℕ). bytes_eq n text.now in
      let listed : map tag_found new ≡ tags_of so asked projects.entries = rw same is in
      subst (FindsTags m asked (Name text)) (sym listed) (record {
        rises = by_line so asked projects m stood ordered rising;
        each = each_tag so asked projects m stood ordered (λ n. n ≡ text.now) (is_name text.now) (name_is text.now);
      })
  wanted_tags (Prefix text) old new is (moved, sorted) =
      let so = λ (n : List ℕ). starts_with nat_eq n text.now in
      let P = λ (f : FoundTag). IsTag m asked f × BeginsWith f.tag.name text.now in
      let up = unmapped old (subst (IsStrictlySortedBy line_cmp) (sym is) (by_line so asked projects m stood ordered rising)) in
      let each = subst (λ (fs : List FoundTag). (f : FoundTag) → Contains fs f ↔ P f) (sym is)
      (each_tag so asked projects m stood ordered (λ n. BeginsWith n text.now) (begins text.now) (begun text.now)) in
      by_name old new moved up sorted P each
