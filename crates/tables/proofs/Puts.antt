-- Rows that are put one after another.
use Rattle.std.proofs.Common.{arith, rules, zero, suc, Bool, true, false, flat_map, map, take, get_or, ◌<◌, ◌+◌, Ok, Err, Result, ℤ, ◌≡◌, ◌≢◌, ◌⊎◌, ◌↔◌, ◌/◌, inl, inr, ℕ, List, [], ◌∷◌, ◌++◌, length, slice_get, Some, refl, sym, ap, subst, subst₂, ◌∙◌, IsTrue, OnOk}
use Rattle.std.specs.List.{AllByRecursion}
use Rattle.std.proofs.lemmas.List.{map_more, take_more, flat_map_more, map-append}
use Rattle.std.specs.Result.{is_ok}
use Rattle.std.specs.Bool.{if◌then◌else◌}
use Rattle.sqlite_value.specs.declared.value.ValueRef.{ValueRef}
use Rattle.sqlite.specs.Values.{bound}
use Rattle.sqlite_value.specs.Order.{Row}
use Rattle.sqlite_value.specs.declared.value.Value.TheVariants.{Int, Null}
use Rattle.sqlite_trees.specs.declared.store.Store.{Ghosts}
use Rattle.sqlite_trees.specs.Tree.{Trees, rowid, put_row}
use Rattle.sqlite_trees.proofs.TreeLemmas.{IsTable-put_row}
use Rattle.sqlite_sql.specs.Term.{Term}
use Rattle.sqlite_schema.specs.declared.schema.Table.{Table}
use Rattle.sqlite_schema.specs.declared.command.Source.TheVariants.{Values}
use Rattle.sqlite_schema.specs.declared.command.Command.TheVariants.{Insert}
use Rattle.sqlite_rules.specs.Edit.{next_rowid, put_all}
use Rattle.sqlite_rules.specs.Lists.{Has}
use Rattle.sqlite_rules.proofs.ListLemmas.{has_left, has_right, has_either, all_has}
use Rattle.sqlite_rules.proofs.TableLemmas.{put_all_has, put_all_keeps, put_all_adds}
use Rattle.sqlite_rules.specs.Cast.{cast_row}
use Rattle.sqlite.specs.Effect.{value_rows}
use Rattle.sqlite.specs.Listing.{understood}
use Rattle.std.specs.Borrow.{MutBor}
use Rattle.sqlite.specs.Held.{Held, state}
use Rattle.sqlite.specs.State.{State, Survives, KeepsCommit, Executes, ExecutesInside}
use Rattle.sqlite.specs.declared.error.Error.{Error}
use Rattle.sqlite.proofs.Callers.{IsPlain, command_of}
use Rattle.sqlite.proofs.StateLemmas.{survives_then}
use Rattle.tables.specs.Schema.{schema_two}
use Rattle.tables.specs.Steps.Clauses.{CommitsNothing}
use Rattle.tables.specs.Steps.Puts.{Steps, Puts, PutsAll}
use Rattle.tables.specs.Databases.{IsListed, IsOrdered}
use Rattle.tables.specs.Steps.Inserts.{Inserts, plainly}
use Rattle.tables.proofs.Insert.{Inserted, inserts, rows_of, rows_have, rows_list}
use Rattle.tables.proofs.Cascade.{same_or_not}

others_same : (tree : ℕ) (db : Trees) (tables : List Table) → AllByRecursion (λ t. t.tree ≢ tree → db t.tree ≡ db t.tree) tables
others_same tree db [] = tt
others_same tree db (t ∷ ts) = (λ _. refl, others_same tree db ts)

others_then : (tree : ℕ) (a b c : Trees) (tables : List Table) → AllByRecursion (λ t. t.tree ≢ tree → b t.tree ≡ a t.tree) tables → AllByRecursion (λ t. t.tree ≢ tree → c t.tree ≡ b t.tree) tables
    → AllByRecursion (λ t. t.tree ≢ tree → c t.tree ≡ a t.tree) tables
others_then tree a b c [] p q = tt
others_then tree a b c (t ∷ ts) p q = (λ other. q.0 other ∙ p.0 other, others_then tree a b c ts p.1 q.1)

pub puts_none : (tree : ℕ) (s : State) → s.now.schema ≡ schema_two → IsTrue s.in_transaction → Steps (PutsAll tree []) s s
puts_none tree s has inside = (
  record { schema = has; inside = inside; committed = refl },
  record {
    rows = λ row. ((λ held. inr held), (λ e. elim e [ inl none ↦ absurd none | inr held ↦ held ]));
    others = others_same tree s.now.trees schema_two.tables;
    ordered = λ up. up;
  },
)

pub puts_then : (tree : ℕ) (xs ys : List Row) (a b c : State) → Steps (PutsAll tree xs) a b → Steps (PutsAll tree ys) b c → Steps (PutsAll tree (xs ++ ys)) a c
puts_then tree xs ys a b c (on1, p) (on2, q) = (
  record { schema = on2.schema; inside = on2.inside; committed = on2.committed ∙ on1.committed },
  record {
    rows = λ row. (
      (λ held. elim ((q.rows row).0 held) [
        | inl last ↦ inl (has_right xs ys row last)
        | inr was ↦ elim ((p.rows row).0 was) [ inl first ↦ inl (has_left xs ys row first) | inr old ↦ inr old ]
      ]),
      (λ e. elim e [
        | inl listed ↦ elim (has_either xs ys row listed) [ inl first ↦ (q.rows row).1 (inr ((p.rows row).1 (inl first))) | inr last ↦ (q.rows row).1 (inl last) ]
        | inr old ↦ (q.rows row).1 (inr ((p.rows row).1 (inr old)))
      ]),
    );
    others = others_then tree a.now.trees b.now.trees c.now.trees schema_two.tables p.others q.others;
    ordered = λ up. q.ordered (p.ordered up);
  },
)

-- one more row of a list
pub rows_more : {X : Type 0} (f : X → Row) (tree : ℕ) (xs : List X) (i : ℕ) (x : X) → i < length xs → x ≡ get_or xs i x → (values : Row) → values ≡ f x → (a b c : State)
    → Steps (PutsAll tree (map f (take i xs))) a b → Steps (PutsAll tree (values ∷ [])) b c → Steps (PutsAll tree (map f (take (i + 1) xs))) a c
rows_more f tree xs i x low is values same a b c p q =
    let listed : map f (take (i + 1) xs) ≡ map f (take i xs) ++ values ∷ [] = map_more f xs i x low ∙ ap (λ v. map f (take i xs) ++ v ∷ []) (ap f (sym is) ∙ sym same) in
    subst (λ l. Steps (PutsAll tree l) a c) (sym listed) (puts_then tree (map f (take i xs)) (values ∷ []) a b c p q)

-- what one more element of a list adds
pub flat_more : {X Y : Type 0} (f : X → List Y) (xs : List X) (i : ℕ) (x : X) → i < length xs → x ≡ get_or xs i x → flat_map f (take (i + 1) xs) ≡ flat_map f (take i xs) ++ f x
flat_more f xs i x low is = ap (flat_map f) (take_more xs i x low) ∙ (sym (flat_map_more f [] (take i xs) (get_or xs i x)) ∙ ap (λ v. flat_map f (take i xs) ++ f v) (sym is))

-- the rows of one more element of a list
pub rows_of_more : {X : Type 0} (f : X → List Row) (tree : ℕ) (xs : List X) (i : ℕ) (x : X) → i < length xs → x ≡ get_or xs i x → (a b c : State)
    → Steps (PutsAll tree (flat_map f (take i xs))) a b → Steps (PutsAll tree (f x)) b c → Steps (PutsAll tree (flat_map f (take (i + 1) xs))) a c
rows_of_more f tree xs i x low is a b c p q =
    subst (λ l. Steps (PutsAll tree l) a c) (sym (flat_more f xs i x low is)) (puts_then tree (flat_map f (take i xs)) (f x) a b c p q)

pub got_has : {X : Type 0} (xs : List X) (i : ℕ) (x : X) → slice_get xs i ≡ Some x → Has xs x
got_has [] i x e = absurd cc
got_has (y ∷ xs) zero x e = inl cc
got_has (y ∷ xs) (suc i) x e = inr (got_has xs i x e)

pub at_has : {X : Type 0} (xs : List X) (i : ℕ) (x : X) → i < length xs → x ≡ get_or xs i x → Has xs x
at_has [] i x low e = absurd (omega (arith, low))
at_has (y ∷ xs) zero x low e = inl e
at_has (y ∷ xs) (suc i) x low e = inr (at_has xs i x (omega (arith, low)) e)

pub flat_has : {X Y : Type 0} (f : X → List Y) (xs : List X) (x : X) (y : Y) → Has xs x → Has (f x) y → Has (flat_map f xs) y
flat_has f (z ∷ xs) x y (inl same) h = has_left (f z) (flat_map f xs) y (subst (λ w. Has (f w) y) same h)
flat_has f (z ∷ xs) x y (inr later) h = has_right (f z) (flat_map f xs) y (flat_has f xs x y later h)
flat_has f [] x y none h = absurd none

pub from_flat : {X Y : Type 0} (f : X → List Y) (xs : List X) (y : Y) → Has (flat_map f xs) y → (x : X) × Has xs x × Has (f x) y
from_flat f [] y h = absurd h
from_flat f (x ∷ xs) y h = elim (has_either (f x) (flat_map f xs) y h) [
  | inl here ↦ (x, inl refl, here)
  | inr later ↦ let it = from_flat f xs y later in (it.0, inr it.1, it.2)
]

pub ordered_put : (one : Row) (id : ℤ) (rows : List Row) → rowid one ≡ Int id → IsOrdered rows → IsOrdered (put_row one rows)
ordered_put one id rows is up = record {
  rises = IsTable-put_row one rows up.rises;
  numbered = λ row h. elim (put_all_has (one ∷ []) rows row h) [
    | inl given ↦ elim given [ inl same ↦ (id, ap rowid same ∙ is) | inr none ↦ absurd none ]
    | inr was ↦ up.numbered row was
  ];
}

pub ordered_all : (news rows : List Row) → ((row : Row) → Has news row → (id : ℤ) × (rowid row ≡ Int id)) → IsOrdered rows → IsOrdered (put_all rows news)
ordered_all [] rows all up = up
ordered_all (n ∷ news) rows all up = let it = all n (inl refl) in ordered_all news (put_row n rows) (λ row h. all row (inr h)) (ordered_put n it.0 rows it.1 up)

-- the rows that an INSERT put are there beside those that were there
put_in : (table : Table) (values : List Row) (old new : State) → Inserted schema_two table (map (λ v. Null ∷ v) values) old new → PutsAll table.tree values old.now.trees new.now.trees
put_in table values old new it =
    let was = old.now.trees table.tree in
    let news = rows_of was values in
    record {
      rows = λ row. (
        (λ held. elim (put_all_has news was (Int held.0 ∷ row) (rw it.applies.rows at held.1)) [
          | inl given ↦ let one = rows_have was values (Int held.0 ∷ row) given in let same : one.1 ≡ row = let e = one.3 in cc in inl (subst (Has values) same one.2)
          | inr there ↦ inr (held.0, there)
        ]),
        (λ e. elim e [
          | inl listed ↦ let one = rows_list was values row listed in (one.0, rw it.applies.rows (put_all_adds news was (Int one.0 ∷ row) it.applies.fresh one.1))
          | inr held ↦ (held.0, rw it.applies.rows (put_all_keeps news was (Int held.0 ∷ row) it.applies.fresh held.1))
        ]),
      );
      others = it.applies.tables;
      ordered = λ up t has. elim (same_or_not t.tree table.tree) [
        | inl same ↦
            let first : IsOrdered was = subst (λ x. IsOrdered (old.now.trees x)) same (up t has) in
            let numbered : (row : Row) → Has news row → (id : ℤ) × (rowid row ≡ Int id) = λ row h. let one = rows_have was values row h in (one.0, ap rowid one.3) in
            subst (λ x. IsOrdered (new.now.trees x)) (sym same) (subst IsOrdered (sym it.applies.rows) (ordered_all news was numbered first))
        | inr other ↦ subst IsOrdered (sym (all_has (λ (x : Table). x.tree ≢ table.tree → new.now.trees x.tree ≡ old.now.trees x.tree) schema_two.tables t it.applies.tables has other)) (up t has)
      ];
    }

-- one row with this rowid
pub puts_at : (tree : ℕ) (id : ℤ) (values : Row) (old new : Trees) → ((row : Row) → Has (new tree) row ↔ ((row ≡ Int id ∷ values) ⊎ Has (old tree) row)) → PutsAll tree (values ∷ []) old new → Puts tree id values old new
puts_at tree id values old new rows p = record { rows = rows; others = p.others; ordered = p.ordered }

-- a statement that inserts rows puts them
module _ (text : List ℕ) (tree : ℕ) (values : Row) (rows : List Row) (it : Inserts text tree values rows) where
  taken : map (cast_row (plainly it.table)) (value_rows values it.width (length it.terms / it.width) it.terms) ≡ map (λ v. Null ∷ v) (it.first ∷ it.rest)
  taken = it.taken ∙ ap (map (λ v. Null ∷ v)) it.some

  inserted : (old new : State) (count : ℕ) → old.now.schema ≡ schema_two → Executes text values old new (Ok count) → Inserted schema_two (plainly it.table) (map (λ v. Null ∷ v) (it.first ∷ it.rest)) old new
  inserted = inserts schema_two text values it.at it.table it.terms it.width it.is it.plain it.placed (Null ∷ it.first) (map (λ v. Null ∷ v) it.rest) taken

  pub put_rows : (old new : State) (r : Result ℕ Error) → old.now.schema ≡ schema_two → IsTrue old.in_transaction → ExecutesInside 0 text values old new r → OnOk r (Steps (PutsAll tree rows) old new)
  put_rows old new (Err e) has inside h = tt
  put_rows old new (Ok count) has inside h =
      let done = inserted old new count has h.0 in
      let put = subst₂ (λ n list. PutsAll n list old.now.trees new.now.trees) it.of_tree (sym it.some) (put_in (plainly it.table) (it.first ∷ it.rest) old new done) in
      (record { schema = done.schema_is; inside = rw h.1.mode; committed = h.1.committed_is }, put)

  -- and the database lists its tables
  pub listed_ok : (old new : State) (r : Result ℕ Error) → old.now.schema ≡ schema_two → ExecutesInside 0 text values old new r → OnOk r (IsListed schema_two new.now.trees)
  unfolding IsListed
  listed_ok old new (Err e) has h = tt
  listed_ok old new (Ok count) has h = let done = inserted old new count has h.0 in subst (λ s. IsListed s new.now.trees) done.schema_is done.sound.lists

-- an INSERT of one row returns its rowid
module _ (sql : List ℕ) (params : Row) (at : ℕ) (t : Table) (terms : List Term) (width : ℕ)
    (is : command_of (understood schema_two sql) ≡ Insert at (Values terms width)) (plain : IsPlain (understood schema_two sql))
    (placed : slice_get schema_two.tables at ≡ Some (plainly t))
    (values : Row)
    (cast : map (cast_row (plainly t)) (value_rows params width (length terms / width) terms) ≡ (Null ∷ values) ∷ []) where
  pub put_at : (old new : State) (r : Result ℕ Error) → old.now.schema ≡ schema_two → IsTrue old.in_transaction → ExecutesInside 0 sql params old new r → OnOk r (Steps (Puts t.tree new.last_rowid values) old new)
  put_at old new (Err e) has inside h = tt
  put_at old new (Ok count) has inside h =
      let it = inserts schema_two sql params at t terms width is plain placed (Null ∷ values) [] cast old new count has h.0 in
      let was = old.now.trees t.tree in
      let id = it.last (next_rowid was) refl in
      let put = put_in (plainly t) (values ∷ []) old new it in
      let one = Int (next_rowid was) ∷ values in
      let rows : (row : Row) → Has (new.now.trees t.tree) row ↔ ((row ≡ one) ⊎ Has was row) = λ row. (
        (λ has_it. elim (put_all_has (one ∷ []) was row (rw it.applies.rows at has_it)) [ inl given ↦ elim given [ inl same ↦ inl same | inr none ↦ absurd none ] | inr there ↦ inr there ]),
        (λ e. rw it.applies.rows (elim e [ inl same ↦ put_all_adds (one ∷ []) was row it.applies.fresh (inl same) | inr there ↦ put_all_keeps (one ∷ []) was row it.applies.fresh there ])),
      ) in (
        record { schema = it.schema_is; inside = rw h.1.mode; committed = h.1.committed_is },
        puts_at t.tree new.last_rowid values old.now.trees new.now.trees (subst (λ (n : ℤ). (row : Row) → Has (new.now.trees t.tree) row ↔ ((row ≡ Int n ∷ values) ⊎ Has was row)) (sym id) rows) put,
      )

-- the values of a statement, written otherwise
pub as_params : (sql : List ℕ) (params wanted : Row) (old new : State) (r : Result ℕ Error) → ExecutesInside 0 sql params old new r → params ≡ wanted → ExecutesInside 0 sql wanted old new r
as_params sql params wanted old new r h same = subst (λ ps. ExecutesInside 0 sql ps old new r) same h

-- ---- commits and crashes

pub quiet_then : (a b c : State) → Survives a b (λ _. ⊥) → Survives b c (λ _. ⊥) → Survives a c (λ _. ⊥)
quiet_then a b c = survives_then a b c (λ _. ⊥) (λ _. ⊥) (λ _. ⊥) (λ _ db none. none) (λ _ db none. none)

-- inside a transaction no statement changes what was committed
pub inside_keeps : (sql : List ℕ) (params : Row) (old new : State) (r : Result ℕ Error) → ExecutesInside 0 sql params old new r → KeepsCommit old new
inside_keeps sql params old new (Ok count) h = record { was_open = λ _. h.1.was_open; committed = λ _. h.1.committed_is }
inside_keeps sql params old new (Err e) (inl (ran, inl same)) = record { was_open = λ _. same.0.was_open; committed = λ _. same.0.committed_is }
inside_keeps sql params old new (Err e) (inl (ran, inr back)) = record { was_open = back.was_open; committed = λ up. (back.undone up).1 }
inside_keeps sql params old new (Err e) (inr (ends, why, same)) = record { was_open = λ _. same.0.was_open; committed = λ _. same.0.committed_is }

pub commit_then : (a b c : State) → KeepsCommit a b → KeepsCommit b c → KeepsCommit a c
commit_then a b c p q = record { was_open = λ up. p.was_open (q.was_open up); committed = λ up. q.committed up ∙ p.committed (q.was_open up) }

pub commit_same : (a : State) → KeepsCommit a a
commit_same a = record { was_open = λ up. up; committed = λ _. refl }

-- nothing was done
pub nothing_yet : {S : Type 0} {g : Ghosts S} (a : MutBor (Held S)) → CommitsNothing g a a
nothing_yet {S} {g} a = record { same_reference = refl; kept = λ clean. commit_same (state g a.now); survives = search rules }

-- one statement after another
pub nothing_then : {S : Type 0} {g : Ghosts S} {a b c : MutBor (Held S)} → CommitsNothing g a b → CommitsNothing g b c → CommitsNothing g a c
nothing_then {S} {g} {a} {b} {c} p q = record {
  same_reference = q.same_reference ∙ p.same_reference;
  kept = λ clean. commit_then (state g a.now) (state g b.now) (state g c.now) (p.kept (omega (arith, q.survives.clean))) (q.kept clean);
  survives = quiet_then (state g a.now) (state g b.now) (state g c.now) p.survives q.survives;
}

-- a list of one where it's so
pub where_true : {X : Type 0} (b : Bool) (x y : X) → Has (if b then x ∷ [] else []) y → (b ≡ true) × (y ≡ x)
where_true true x y (inl e) = (refl, e)
where_true true x y (inr none) = absurd none
where_true false x y none = absurd none

pub true_there : {X : Type 0} (b : Bool) (x : X) → b ≡ true → Has (if b then x ∷ [] else []) x
true_there true x e = inl refl
true_there false x e = absurd cc

-- what was added to the values of a statement
pub bound_more : {T E : Type 0} (r : Result T E) (was now more : List ValueRef) (values : Row) → now ≡ (if is_ok r then was ++ more else was) → bound more ≡ values → OnOk r (bound now ≡ bound was ++ values)
bound_more (Ok x) was now more values items same = ap bound items ∙ (map-append _ was more ∙ ap (λ (v : Row). bound was ++ v) same)
bound_more (Err e) was now more values items same = tt
