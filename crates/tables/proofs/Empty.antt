-- New tables represent the state with no part and no key, and tables that represent a state have
-- their version.
use Rattle.std.proofs.Common.{arith, ◌≡◌, ◌≢◌, ◌↔◌, inl, inr, ℤ, pos, List, [], ◌∷◌, None, refl, sym, ap, subst, ◌∙◌}
use Rattle.std.proofs.lemmas.Cmp.{tied_itself, int_cmp_total}
use Rattle.sqlite_value.specs.Order.{Row}
use Rattle.sqlite_value.proofs.OrderLemmas.{value_cmp-Int}
use Rattle.sqlite_value.specs.declared.value.Value.TheVariants.{Int, Null}
use Rattle.sqlite_schema.specs.declared.schema.Table.{Table}
use Rattle.sqlite_trees.specs.Tree.{Trees, rowid, IsTable}
use Rattle.sqlite_rules.specs.Lists.{Has}
use Rattle.sqlite_rules.proofs.ListLemmas.{all_has}
use Rattle.sqlite.specs.State as sqlite
use Rattle.sqlite.specs.Effect.{Database}
use Rattle.tables.specs.Schema.{schema_two, format, slot, keyed}
use Rattle.tables.specs.Databases.{version_row, IsMade, WasMade, IsFormatTwo, IsOrdered}
use Rattle.tables.specs.Contents.{Keeps, IsReply, IsOwned}
use Rattle.tables.specs.Stands.{StandsFor, Rests, replies_of}
use Rattle.tables.specs.TableTrees.{format_tree}
use Rattle.machine.specs.State.{State, nothing}
use Rattle.tables.proofs.Cascade.{same_or_not}
use Rattle.tables.proofs.Keeping.{none_is_some, table_of, is_owned}

-- ---- the one row of the version

pub version_ordered : IsOrdered (version_row 2)
version_ordered = record { rises = (tt, tt); numbered = λ row h. elim h [ inl e ↦ (pos 2, ap rowid e) | inr none ↦ absurd none ] }

pub version_is : (db : Trees) → db format_tree ≡ version_row 2 → (row : Row) → Has (db format_tree) row ↔ (row ≡ Int (pos 2) ∷ Null ∷ [])
version_is db made row = (
  (λ h. elim (subst (λ l. Has l row) made h) [ inl e ↦ e | inr none ↦ absurd none ]),
  (λ e. subst (λ l. Has l row) (sym made) (inl e)),
)

-- ---- new tables

module _ (db : Trees) (made : WasMade db) where
  empty_tree : (t : Table) → Has schema_two.tables t → t.tree ≢ format_tree → db t.tree ≡ []
  empty_tree t listed other = all_has (λ (x : Table). x.tree ≢ 0 → db x.tree ≡ []) schema_two.tables t made.1 listed other

  no_row : (t : Table) → Has schema_two.tables t → t.tree ≢ format_tree → (row : Row) → Has (db t.tree) row → ⊥
  no_row t listed other row h = subst (λ l. Has l row) (empty_tree t listed other) h

  keeps_nothing : Keeps db (λ p k. None) (replies_of nothing)
  keeps_nothing = record {
    ordered = λ t listed. elim (same_or_not t.tree format_tree) [
      | inl same ↦ subst (λ x. IsOrdered (db x)) (sym same) (subst IsOrdered (sym made.0) version_ordered)
      | inr other ↦ subst IsOrdered (sym (empty_tree t listed other)) (record { rises = tt; numbered = λ row none. absurd none })
    ];
    version = version_is db made.0;
    slots = λ row h. absurd (no_row slot (inr (inl refl)) (λ e. omega (arith, e)) row h);
    there = λ p k rows has. absurd (none_is_some has);
    single = λ a b p k ha hb. absurd (no_row slot (inr (inl refl)) (λ e. omega (arith, e)) _ ha);
    keyed = λ row. ((λ h. absurd (no_row keyed (inr (inr (inl refl))) (λ e. omega (arith, e)) _ h.1)), (λ (r : IsReply (replies_of nothing) row). absurd (none_is_some r.has)));
    children = λ t owns row.
        let it = table_of t owns in (
          (λ h. absurd (no_row it.0 it.1 (λ e. (is_owned t owns).0 (sym it.2 ∙ e)) _ (subst (λ x. Has (db x) (Int h.0 ∷ row)) (sym it.2) h.1))),
          (λ (o : IsOwned db (λ p k. None) t row). absurd (none_is_some o.has)),
        );
  }

  pub stands_empty : StandsFor db nothing
  stands_empty = record { listed = made.2; parts = λ p k. None; keeps = keeps_nothing; dumps = λ p. tt; tags = λ p. tt }

-- tables that were made and committed
pub made_rests : (s : sqlite.State) → IsMade s.now → s.committed ≡ s.now → Rests s nothing
made_rests s made settled = record { schema_is = made.schema_is; settled = settled; stands = stands_empty s.now.trees (made.version, made.others, made.listed) }

-- ---- the version

pub one_row : (rows : List Row) (one : Row) (id : ℤ) → rowid one ≡ Int id → IsTable rows → ((row : Row) → Has rows row → row ≡ one) → Has rows one → rows ≡ one ∷ []
one_row [] one id is up each h = absurd h
one_row (a ∷ []) one id is up each h = ap (λ x. x ∷ []) (each a (inl refl))
one_row (a ∷ b ∷ rows) one id is up each h =
    let first = each a (inl refl) in
    let second = each b (inr (inl refl)) in
    let less = rw (first, second, is) at up.0.0 in
    absurd (let never = sym (value_cmp-Int id id ∙ tied_itself int_cmp_total id) ∙ less in cc)

pub rests_format : (s : sqlite.State) (m : State) → Rests s m → IsFormatTwo s.now
rests_format s m is = record {
  schema_is = is.schema_is;
  version = one_row (s.now.trees format_tree) (Int (pos 2) ∷ Null ∷ []) (pos 2) refl (is.stands.keeps.ordered format (inl refl)).rises (λ row h. (is.stands.keeps.version row).0 h) ((is.stands.keeps.version _).1 refl);
}

-- ---- what is unchanged

pub unchanged_rests : (s t : sqlite.State) (m : State) → sqlite.IsUnchanged s t → Rests s m → Rests t m
unchanged_rests s t m same is = record {
  schema_is = ap (λ (d : Database). d.schema) same.0.now_is ∙ is.schema_is;
  settled = same.0.committed_is ∙ (is.settled ∙ sym same.0.now_is);
  stands = subst (λ (d : Database). StandsFor d.trees m) (sym same.0.now_is) is.stands;
}
