-- What ON DELETE CASCADE leaves, where no child is a parent.
use Rattle.tables.specs.Databases.{IsOrdered, AllOrdered}
use Rattle.tables.specs.TableTrees.{format_tree}
use Rattle.std.proofs.Common.{eqb, eqb-true, eq-eqb, true≢false, nat_lt, Ordering, Less, Equal, Greater, ◌≡◌, ◌≢◌, ◌⊎◌, inl, inr, ℕ, zero, suc, ◌+◌, ℤ, List, [], ◌∷◌, ◌++◌, append-nil, Bool, true, false, not, Ok, Result, Option, refl, sym, ap, subst, ◌∙◌}
use Rattle.std.specs.List.{AllByRecursion, list_any}
use Rattle.std.proofs.lemmas.Bool.{cases_Bool}
use Rattle.sqlite_value.specs.declared.value.Value.TheVariants.{Int}
use Rattle.sqlite_value.specs.Order.{Row}
use Rattle.sqlite_trees.specs.Tree.{Trees, rowid, has_rowid, without_rowid, IsTable}
use Rattle.sqlite_schema.specs.declared.schema.Table.{Table}
use Rattle.sqlite_schema.specs.declared.schema.Schema.{Schema}
use Rattle.sqlite_schema.specs.declared.schema.Keys.TheVariants.{Enforced}
use Rattle.sqlite_rules.specs.declared.action.Deed.TheVariants.{Delete}
use Rattle.sqlite_rules.specs.Lists.{Has}
use Rattle.sqlite_rules.specs.declared.error.Refusal.{Refusal}
use Rattle.sqlite_rules.specs.declared.error.Rowids.TheVariants.{Given}
use Rattle.sqlite_rules.specs.Edit.{edit_of, without_all, taken_by}
use Rattle.sqlite_rules.specs.Action.{max_depth, Work, works, is_child_of, AreChildren, Acts, ActsOn, Leads}
use Rattle.sqlite_rules.proofs.ListLemmas.{has_left, has_right, has_either, all_has, all_from, has_filtered, has_kept}
use Rattle.sqlite_rules.proofs.PlaceLemmas.{tied_same}
use Rattle.sqlite_rules.proofs.TableLemmas.{without_all_has}
use Rattle.sqlite_value.proofs.OrderLemmas.{value_cmp_total}
use Rattle.sqlite_value.specs.Order.{value_cmp}
use Rattle.std.specs.Ordering.{is_eq}
use Rattle.std.proofs.lemmas.Cmp.{tied_itself}
use Rattle.std.proofs.lemmas.Bool.{not-true}

-- the row is one that this work deletes
abbrev pub is_hit : Work → Row → Bool
is_hit w row = list_any (is_child_of w row) w.moves

pub equal_is : (o : Ordering) → is_eq o ≡ true → o ≡ Equal
equal_is Less h = absurd (cc)
equal_is Equal h = refl
equal_is Greater h = absurd (cc)

abbrev pub Lacks : List ℤ → Row → Type 0
Lacks ids x = (id : ℤ) → Has ids id → has_rowid id x ≡ false

pub left_from : (ids : List ℤ) (rows : List Row) (x : Row) → Has (without_all rows ids) x → Has rows x × Lacks ids x
left_from [] rows x h = (h, λ id none. absurd none)
left_from (id ∷ ids) rows x h =
    let r = left_from ids (without_rowid id rows) x h in
    let was = has_filtered (λ y. not (has_rowid id y)) rows x r.0 in
    (was.0, λ other k. elim k [ inl e ↦ rw e (not-true _ was.1) | inr more ↦ r.1 other more ])

pub left_has : (ids : List ℤ) (rows : List Row) (x : Row) → Has rows x → Lacks ids x → Has (without_all rows ids) x
left_has [] rows x h lacks = h
left_has (id ∷ ids) rows x h lacks = left_has ids (without_rowid id rows) x (has_kept (λ y. not (has_rowid id y)) rows x h (ap not (lacks id (inl refl)))) (λ other k. lacks other (inr k))

without_table : (id : ℤ) (rows : List Row) → IsTable rows → IsTable (without_rowid id rows)
without_table id [] h = h
without_table id (r ∷ rows) h = elim (cases_Bool (has_rowid id r)) [
  | inl here ↦ rw here (without_table id rows h.1)
  | inr other ↦ rw other (all_from _ (without_rowid id rows) (λ x got. all_has _ rows x h.0 (has_filtered _ rows x got).0), without_table id rows h.1)
]

without_all_table : (ids : List ℤ) (rows : List Row) → IsTable rows → IsTable (without_all rows ids)
without_all_table [] rows h = h
without_all_table (id ∷ ids) rows h = without_all_table ids (without_rowid id rows) (without_table id rows h)

still_ordered : (ids : List ℤ) (rows : List Row) → IsOrdered rows → IsOrdered (without_all rows ids)
still_ordered ids rows h = record { rises = without_all_table ids rows h.rises; numbered = λ row got. h.numbered row (without_all_has ids rows row got) }

pub hit_goes : (db : Trees) (w : Work) (ids : List ℤ) (row : Row) → IsOrdered (db w.child.tree) → AreChildren db w ids → Has (without_all (db w.child.tree) ids) row → is_hit w row ≡ false
hit_goes db w ids row up all h = elim (cases_Bool (is_hit w row)) [
  | inl hit ↦
      let was = left_from ids (db w.child.tree) row h in
      let id = up.numbered row was.0 in
      let yes : has_rowid id.0 row ≡ true = rw (id.1, tied_itself value_cmp_total (Int id.0)) in
      absurd (let no = was.1 id.0 (all.complete row id.0 was.0 hit id.1) in cc)
  | inr miss ↦ miss
]

pub miss_stays : (db : Trees) (w : Work) (ids : List ℤ) (row : Row) → IsOrdered (db w.child.tree) → AreChildren db w ids → Has (db w.child.tree) row → is_hit w row ≡ false → Has (without_all (db w.child.tree) ids) row
miss_stays db w ids row up all h miss = left_has ids (db w.child.tree) row h (λ id listed. elim (cases_Bool (has_rowid id row)) [
  | inl here ↦
      let r = all.sound id listed in
      let tie : value_cmp (rowid row) (rowid r.0) ≡ Equal = rw r.3 (equal_is _ here) in
      let same = tied_same (db w.child.tree) row r.0 up.rises h r.1 tie in
      absurd (let hit : is_hit w row ≡ true = rw same r.2 in cc)
  | inr other ↦ other
])

-- this work deletes rows of a table that nobody refers to
pub record IsLeaf (schema : Schema) (w : Work) : Type 0 where
  pub deletes : w.deed ≡ Delete
  pub listed : Has schema.tables w.child
  pub unreferred : (depth : ℕ) (taken : List Row) → works schema Enforced depth w.child.tree taken [] ≡ []

pub record Took (schema : Schema) (db mid : Trees) (w : Work) (ids : List ℤ) : Type 0 where
  pub rows : mid w.child.tree ≡ without_all (db w.child.tree) ids
  pub others : AllByRecursion (λ t. t.tree ≢ w.child.tree → mid t.tree ≡ db t.tree) schema.tables

module _ (schema : Schema) (Then : Trees → List Work → Result Trees (Option Refusal) → Type 0) (db next : Trees) (w : Work) (below : List Work) (leaf : IsLeaf schema w) where
  step_in : (ids : List ℤ) → ActsOn schema Enforced Then db w below (Ok next) ids → (mid : Trees) × Took schema db mid w ids × Then mid below (Ok next)
  step_in [] h = (db, record { rows = refl; others = all_from _ schema.tables (λ t got other. refl) }, h)
  step_in (id ∷ ids) h = elim (rw leaf.deletes at h) [
    | inl refused ↦ absurd (let e = refused.2 in cc)
    | inr (inl big) ↦ absurd (let e = big.3 in cc)
    | inr (inr went) ↦ (went.0, record { rows = went.1.rows; others = went.1.tables }, rw (leaf.unreferred (w.depth + 1) (taken_by db (edit_of db w.child (id ∷ ids) Given format_tree [])), append-nil below) at went.2)
  ]

  acts_in : Acts schema Enforced Then db w below (Ok next) → (ids : List ℤ) × AreChildren db w ids × ((mid : Trees) × Took schema db mid w ids × Then mid below (Ok next))
  acts_in h = elim (cases_Bool (nat_lt w.depth max_depth)) [
    | inl shallow ↦ let it = rw shallow at h in (it.0, it.1, step_in it.0 it.2)
    | inr deep ↦ absurd (let e = rw deep at h in cc)
  ]

-- each row is there exactly where it was and no work on its tree hits it
pub record Cut (db next : Trees) (stack : List Work) (t : Table) : Type 0 where
  pub kept : (row : Row) → Has (next t.tree) row → Has (db t.tree) row
  pub missed : (row : Row) → Has (next t.tree) row → (w : Work) → Has stack w → w.child.tree ≡ t.tree → is_hit w row ≡ false
  pub rest : (row : Row) → Has (db t.tree) row → ((w : Work) → Has stack w → w.child.tree ≡ t.tree → is_hit w row ≡ false) → Has (next t.tree) row

pub same_or_not : (a b : ℕ) → (a ≡ b) ⊎ (a ≢ b)
same_or_not a b = elim (cases_Bool (eqb a b)) [ inl tied ↦ inl (eqb-true a b tied) | inr differ ↦ inr (λ e. true≢false (sym (eq-eqb a b e) ∙ differ)) ]

same_trees : {a b : Trees} → ◌≡◌ {A = Result Trees (Option Refusal)} (Ok a) (Ok b) → a ≡ b
same_trees e = cc

module _ (schema : Schema) where
  pub taken_ordered : (db mid : Trees) (at : ℕ) (ids : List ℤ) → IsOrdered (db at) → mid at ≡ without_all (db at) ids → AllByRecursion (λ t. t.tree ≢ at → mid t.tree ≡ db t.tree) schema.tables → AllOrdered schema db → AllOrdered schema mid
  taken_ordered db mid at ids first rows others up t has = elim (same_or_not t.tree at) [
    | inl same ↦ subst IsOrdered (sym (ap mid same ∙ rows)) (still_ordered ids (db at) first)
    | inr other ↦ subst IsOrdered (sym (all_has _ schema.tables t others has other)) (up t has)
  ]

  took_ordered : (db mid : Trees) (w : Work) (ids : List ℤ) → Has schema.tables w.child → Took schema db mid w ids → AllOrdered schema db → AllOrdered schema mid
  took_ordered db mid w ids listed took up t has = elim (same_or_not t.tree w.child.tree) [
    | inl same ↦ subst IsOrdered (sym (ap mid same ∙ took.rows)) (still_ordered ids (db w.child.tree) (up w.child listed))
    | inr other ↦ subst IsOrdered (sym (all_has _ schema.tables t took.others has other)) (up t has)
  ]

  cut_more : (db mid next : Trees) (w : Work) (below : List Work) (ids : List ℤ) (t : Table) → Has schema.tables w.child → Has schema.tables t → AllOrdered schema db → AreChildren db w ids → Took schema db mid w ids
      → Cut mid next below t → Cut db next (below ++ w ∷ []) t
  cut_more db mid next w below ids t listed has up children took cut = elim (same_or_not t.tree w.child.tree) [
    | inl same ↦
        let at : mid t.tree ≡ without_all (db w.child.tree) ids = ap mid same ∙ took.rows in
        let home : db t.tree ≡ db w.child.tree = ap db same in
        record {
          kept = λ row h. rw home (without_all_has ids (db w.child.tree) row (rw at at (cut.kept row h)));
          missed = λ row h x there on. elim (has_either below (w ∷ []) x there) [
            | inl before ↦ cut.missed row h x before on
            | inr last ↦ elim last [ inl is ↦ rw is (hit_goes db w ids row (up w.child listed) children (rw at at (cut.kept row h))) | inr none ↦ absurd none ]
          ];
          rest = λ row h free. cut.rest row (rw at (miss_stays db w ids row (up w.child listed) children (rw home at h) (free w (has_right below (w ∷ []) w (inl refl)) (sym same))))
              (λ x there on. free x (has_left below (w ∷ []) x there) on);
        }
    | inr other ↦
        let at : mid t.tree ≡ db t.tree = all_has _ schema.tables t took.others has other in
        record {
          kept = λ row h. rw at at (cut.kept row h);
          missed = λ row h x there on. elim (has_either below (w ∷ []) x there) [
            | inl before ↦ cut.missed row h x before on
            | inr last ↦ elim last [ inl is ↦ absurd (other (rw is at (sym on))) | inr none ↦ absurd none ]
          ];
          rest = λ row h free. cut.rest row (rw at h) (λ x there on. free x (has_left below (w ∷ []) x there) on);
        }
  ]

  -- all that the cascade does
  pub cascades : (n : ℕ) (db next : Trees) (stack : List Work) → Leads schema Enforced n db stack (Ok next) → ((w : Work) → Has stack w → IsLeaf schema w) → AllOrdered schema db
      → AllOrdered schema next × ((t : Table) → Has schema.tables t → Cut db next stack t)
  cascades zero db next stack h leaves up =
      let same : db ≡ next = sym (same_trees h.1) in
      rw (h.0, ← same) (up, λ t has. record { kept = λ row got. got; missed = λ row got w none. absurd none; rest = λ row got free. got })
  cascades (suc n) db next stack h leaves up =
      let below = h.0 in
      let w = h.1 in
      let leaf = leaves w (rw h.2 (has_right below (w ∷ []) w (inl refl))) in
      let it = acts_in schema (Leads schema Enforced n) db next w below leaf h.3 in
      let mid = it.2.0 in
      let took = it.2.1 in
      let later = cascades n mid next below it.2.2 (λ x there. leaves x (rw h.2 (has_left below (w ∷ []) x there))) (took_ordered db mid w it.0 leaf.listed took up) in
      (later.0, λ t has. rw h.2 (cut_more db mid next w below it.0 t leaf.listed has up it.1 took (later.1 t has)))
