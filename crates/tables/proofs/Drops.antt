-- DROP INDEX IF EXISTS over the tables of format 1: the indexes that format 2 makes are gone, in
-- whatever order they were listed.
use Rattle.std.proofs.Common.{arith, map, bytes_eq, Result, ◌≡◌, ◌≢◌, ◌≤◌, ◌<◌, ◌==◌, inl, inr, refl, sym, ap, subst, ◌∙◌, ℕ, suc, ◌+◌, Bool, not, true, false, true≢false, List, [], ◌∷◌, ◌++◌, filter, slice_get, ne_eqb, eq-eqb, Option, Some, None, Ok, codes, if◌then◌else◌}
use Rattle.std.specs.Fmt.{digits}
use Rattle.std.specs.List.{AllByRecursion, position_from}
use Rattle.std.proofs.lemmas.List.Elements.{filter-append}
use Rattle.std.proofs.lemmas.Slice.Eq.{bytes_eq-Decides}
use Rattle.sqlite_schema.specs.declared.schema.Schema.{Schema}
use Rattle.sqlite_schema.specs.declared.schema.Index.{Index}
use Rattle.sqlite_schema.specs.Names.{same_name, index_named}
use Rattle.sqlite_schema.specs.declared.command.Command.{Command}
use Rattle.sqlite_schema.specs.declared.command.Command.TheVariants.{DropIndex, Nothing}
use Rattle.sqlite_rules.specs.Lists.{Has}
use Rattle.sqlite_rules.proofs.ListLemmas.{all_has, all_from, has_either, has_filtered}
use Rattle.sqlite_catalog.specs.Change.{without_index, KeepsRows}
use Rattle.sqlite_tied.specs.Compute.{everything}
use Rattle.sqlite_trees.specs.Tree.{Trees}
use Rattle.sqlite.specs.Effect.{Database}
use Rattle.sqlite.specs.Does.{Tally, Does}
use Rattle.sqlite.specs.Listing.{understood, listing_schema}
use Rattle.sqlite.specs.State.{State, ExecutesIn}
use Rattle.sqlite.proofs.Callers.{IsPlain, command_of, statement_of, runs_as}
use Rattle.tables.specs.Schema.{schema_one, with_indexes, added_names, AreAdded}
use Rattle.tables.specs.Steps.Texts.{semicolon, batch, drop_text}
use Rattle.tables.specs.Steps.Kept.{IsKept}
use Rattle.tables.proofs.Insert.{went, same_value, plain_mode}
use Rattle.tables.proofs.Batches.{IsSilent, from_batch, still_kept, AreCut, peel}
use Rattle.sqlite_trees.specs.declared.store.Store.{Ghosts}
use Rattle.sqlite.specs.Held.{Held, state}
use Rattle.sqlite.specs.Batch.{RunInTurn}
use Rattle.sqlite_resolve.specs.declared.compiled.Compiled.{Compiled}
use Rattle.sqlite_resolve.specs.declared.error.CompileError.{CompileError}

-- ---- what the statements are

-- the command, by where an index of the name is found
abbrev drop_at : Option ℕ → Command
drop_at (Some at) = DropIndex at
drop_at None = Nothing

-- where one is found after those of the keys
abbrev among : List ℕ → List Index → Option ℕ
among name more = position_from (λ (i : Index). same_name i.name name) 9 more

-- what the statement is understood as
abbrev IsDrop : Result Compiled CompileError → Option ℕ → Type 0
IsDrop read o = (command_of read ≡ drop_at o) × IsPlain read × IsSilent read

-- the statement drops the index of this name, where there is one
pub record DropsIndex (name : List ℕ) : Type 0 where
  pub among_is : (more : List Index) → index_named (with_indexes more) name ≡ among name more
  pub read : (more : List Index) (o : Option ℕ) → among name more ≡ o → IsDrop (understood (with_indexes more) (drop_text name ++ semicolon)) o
  pub of_key : AllByRecursion (λ (i : Index). same_name i.name name ≡ false) schema_one.indexes

range_by_start_read : (more : List Index) (o : Option ℕ) → among (codes "range_by_start") more ≡ o → IsDrop (understood (with_indexes more) (drop_text (codes "range_by_start") ++ semicolon)) o
unfolding understood everything listing_schema digits
range_by_start_read more None e = rw e (refl, (refl, refl), (refl, refl))
range_by_start_read more (Some at) e = rw e (refl, (refl, refl), (refl, refl))

bearer_by_key_read : (more : List Index) (o : Option ℕ) → among (codes "bearer_by_key") more ≡ o → IsDrop (understood (with_indexes more) (drop_text (codes "bearer_by_key") ++ semicolon)) o
unfolding understood everything listing_schema digits
bearer_by_key_read more None e = rw e (refl, (refl, refl), (refl, refl))
bearer_by_key_read more (Some at) e = rw e (refl, (refl, refl), (refl, refl))

tag_by_name_read : (more : List Index) (o : Option ℕ) → among (codes "tag_by_name") more ≡ o → IsDrop (understood (with_indexes more) (drop_text (codes "tag_by_name") ++ semicolon)) o
unfolding understood everything listing_schema digits
tag_by_name_read more None e = rw e (refl, (refl, refl), (refl, refl))
tag_by_name_read more (Some at) e = rw e (refl, (refl, refl), (refl, refl))

pub each_drops : AllByRecursion DropsIndex added_names
unfolding same_name digits
each_drops = (
  record { among_is = λ more. refl; read = range_by_start_read; of_key = (refl, (refl, (refl, (refl, (refl, (refl, (refl, (refl, (refl, tt))))))))) },
  (
    record { among_is = λ more. refl; read = bearer_by_key_read; of_key = (refl, (refl, (refl, (refl, (refl, (refl, (refl, (refl, (refl, tt))))))))) },
    (
      record { among_is = λ more. refl; read = tag_by_name_read; of_key = (refl, (refl, (refl, (refl, (refl, (refl, (refl, (refl, (refl, tt))))))))) },
      tt,
    ),
  ),
)

compared : AllByRecursion (λ a. AllByRecursion (λ b. same_name a b ≡ bytes_eq a b) added_names) added_names
unfolding same_name
compared = ((refl, (refl, (refl, tt))), ((refl, (refl, (refl, tt))), ((refl, (refl, (refl, tt))), tt)))

-- no two of the names differ in the case of letters alone
same_added : (a b : List ℕ) → Has added_names a → Has added_names b → same_name a b ≡ bytes_eq a b
same_added a b of_a of_b = all_has (λ n. same_name a n ≡ bytes_eq a n) added_names b (all_has (λ n. AllByRecursion (λ o. same_name n o ≡ bytes_eq n o) added_names) added_names a compared of_a) of_b

-- ---- lists

found_at : {X : Type 0} (p : X → Bool) (n : ℕ) (xs : List X) (at : ℕ) → position_from p n xs ≡ Some at
    → (k : ℕ) × (x : X) × (at ≡ n + k) × (slice_get xs k ≡ Some x) × (p x ≡ true) × Has xs x
found_at p n [] at e = absurd cc
found_at {X} p n (y ∷ ys) at e = go (p y) refl e (found_at p (n + 1) ys at)
  where
    Found : ℕ → List X → Type 0
    Found m zs = (k : ℕ) × (x : X) × (at ≡ m + k) × (slice_get zs k ≡ Some x) × (p x ≡ true) × Has zs x

    go : (b : Bool) → p y ≡ b → (if b then Some n else position_from p (n + 1) ys) ≡ Some at → (position_from p (n + 1) ys ≡ Some at → Found (n + 1) ys) → Found n (y ∷ ys)
    go true is e later = let same : n ≡ at = cc in (0, y, omega (arith, same), refl, is, inl refl)
    go false is e later = let it = later e in (suc it.0, it.1, omega (arith, it.2), it.3, it.4, inr it.5)

none_at : {X : Type 0} (p : X → Bool) (n : ℕ) (xs : List X) → position_from p n xs ≡ None → (x : X) → Has xs x → p x ≡ false
none_at p n [] e x h = absurd h
none_at p n (y ∷ ys) e x h = go (p y) refl e h (λ rest. none_at p (n + 1) ys rest x)
  where
    go : (b : Bool) → p y ≡ b → (if b then Some n else position_from p (n + 1) ys) ≡ None → Has (y ∷ ys) x → (position_from p (n + 1) ys ≡ None → Has ys x → p x ≡ false) → p x ≡ false
    go true is e h later = absurd cc
    go false is e (inl same) later = rw same is
    go false is e (inr there) later = later e there

stay : {X : Type 0} (p : X → Bool) (xs : List X) → AllByRecursion (λ x. p x ≡ true) xs → filter p xs ≡ xs
stay p [] all = refl
stay p (x ∷ xs) all = rw all.0 (ap (λ l. x ∷ l) (stay p xs all.1))

-- the trees of the keys' indexes come first
keys_first : AllByRecursion (λ (i : Index). i.tree < 19) schema_one.indexes
keys_first = (omega arith, (omega arith, (omega arith, (omega arith, (omega arith, (omega arith, (omega arith, (omega arith, (omega arith, tt)))))))))

abbrev other_than : ℕ → Index → Bool
other_than tree i = not (i.tree == tree)

keys_stay : (tree : ℕ) → 19 ≤ tree → filter (other_than tree) schema_one.indexes ≡ schema_one.indexes
keys_stay tree behind = stay (other_than tree) schema_one.indexes (all_from (λ i. other_than tree i ≡ true) schema_one.indexes (λ i h.
    let low = all_has (λ (x : Index). x.tree < 19) schema_one.indexes i keys_first h in
    rw (ne_eqb i.tree tree (λ same. omega (arith, low, behind, same))) refl))

-- ---- what a statement does

-- what is left of the indexes once those of these names are gone
pub record Left (names : List (List ℕ)) (more rest : List Index) : Type 0 where
  pub from : (i : Index) → Has rest i → Has more i
  pub gone : (i : Index) → Has rest i → (name : List ℕ) → Has names name → i.name ≢ name

abbrev Drop : Schema → Trees → ℕ → Database → Type 0
Drop schema db tree after = (after.schema ≡ without_index schema tree) × KeepsRows schema.tables db after.trees

drop_does : (limit : Option ℕ) (db : Database) (text : List ℕ) (tally : Tally) (after : Database) (at : ℕ) (i : Index) → slice_get db.schema.indexes at ≡ Some i
    → Does limit plain_mode [] db text None (DropIndex at) (Ok (tally, after)) → Drop db.schema db.trees i.tree after
drop_does limit db text tally after at i placed h =
    let all = went (rw placed at h) in
    subst (Drop db.schema db.trees i.tree) (sym (ap (λ (p : Tally × Database). p.1) (same_value all.2))) all.1

module _ (name : List ℕ) (is_added : Has added_names name) (d : DropsIndex name) (base : Trees) (more : List Index) (old new : State) (count : ℕ) (added : AreAdded more)
    (kept : IsKept (with_indexes more) base old.now) (h : ExecutesIn true (drop_text name ++ semicolon) [] old new (Ok count)) where
  abbrev Leaves : Type 0
  Leaves = (rest : List Index) × IsKept (with_indexes rest) base new.now × Left (name ∷ []) more rest

  abbrev sql : List ℕ
  sql = drop_text name ++ semicolon

  by : (o : Option ℕ) → among name more ≡ o → Leaves
  by None e =
      let w = runs_as sql [] old new (with_indexes more) kept.schema_is Nothing (d.read more None e).0 (d.read more None e).1 count (from_batch sql [] old new (with_indexes more) count kept.schema_is (d.read more None e).2 h) in (
        more,
        subst (IsKept (with_indexes more) base) (sym w.0.0.now_is) kept,
        record {
          from = λ i there. there;
          gone = λ i there n is same.
              let differs = none_at (λ (x : Index). same_name x.name name) 9 more e i there in
              elim is [ inl it ↦ true≢false (sym ((bytes_eq-Decides name name).1 refl) ∙ (sym (same_added name name is_added is_added) ∙ subst (λ n. same_name n name ≡ false) (same ∙ it) differs)) | inr none ↦ none ];
        },
      )
  by (Some at) e =
      let w = runs_as sql [] old new (with_indexes more) kept.schema_is (DropIndex at) (d.read more (Some at) e).0 (d.read more (Some at) e).1 count (from_batch sql [] old new (with_indexes more) count kept.schema_is (d.read more (Some at) e).2 h) in
      let all = schema_one.indexes ++ more in
      let f = found_at (λ (x : Index). same_name x.name name) 0 all at (d.among_is more ∙ e) in
      let i : Index = f.1 in
      let place : at ≡ f.0 = omega (arith, f.2) in
      let placed : slice_get old.now.schema.indexes at ≡ Some i = ap (λ (s : Schema). slice_get s.indexes at) kept.schema_is ∙ ap (slice_get all) place ∙ f.3 in
      let there : Has more i = elim (has_either schema_one.indexes more i f.5) [
        | inl key ↦ absurd (true≢false (sym f.4 ∙ all_has (λ (x : Index). same_name x.name name ≡ false) schema_one.indexes i d.of_key key))
        | inr one ↦ one
      ] in
      let did = drop_does old.step_limit old.now (statement_of sql (understood (with_indexes more) sql)) w.tally new.now at i placed w.changed in
      let rest = filter (other_than i.tree) more in
      let lists : filter (other_than i.tree) all ≡ schema_one.indexes ++ rest = filter-append (other_than i.tree) schema_one.indexes more ∙ ap (λ l. l ++ rest) (keys_stay i.tree (added.behind i there)) in (
        rest,
        record {
          schema_is = did.0 ∙ ap (λ s. without_index s i.tree) kept.schema_is ∙ ap (λ l. record schema_one { indexes = l }) lists;
          rows = still_kept old.now.trees new.now.trees base schema_one.tables kept.rows (subst (λ (s : Schema). KeepsRows s.tables old.now.trees new.now.trees) kept.schema_is did.1);
        },
        record {
          from = λ x h. (has_filtered (other_than i.tree) more x h).0;
          gone = λ x h n is same.
              let passed = has_filtered (other_than i.tree) more x h in
              let name_is : i.name ≡ name = (bytes_eq-Decides i.name name).0 (sym (same_added i.name name (added.named i there) is_added) ∙ f.4) in
              let named : n ≡ name = elim is [ inl it ↦ it | inr none ↦ absurd none ] in
              let one : x ≡ i = added.once x i passed.0 there (same ∙ (named ∙ sym name_is)) in
              absurd (let no = rw (one, eq-eqb i.tree i.tree refl) at passed.1 in cc);
        },
      )

  pub drops : Leaves
  drops = by (among name more) refl

still_added : (names : List (List ℕ)) (more rest : List Index) → Left names more rest → AreAdded more → AreAdded rest
still_added names more rest left added = record {
  named = λ i h. added.named i (left.from i h);
  once = λ i j h k. added.once i j (left.from i h) (left.from j k);
  behind = λ i h. added.behind i (left.from i h);
}

none_left : (more rest : List Index) → AreAdded more → Left added_names more rest → rest ≡ []
none_left more [] added left = refl
none_left more (i ∷ is) added left = absurd (left.gone i (inl refl) i.name (added.named i (left.from i (inl refl))) refl)

-- ---- one after the other

module _ {S : Type 0} (g : Ghosts S) (inside : Option ℕ) (base : Trees) where
  abbrev Leads : List (List ℕ) → List ℕ → List Index → Held S → Type 0
  Leads names last more new = (mid : Held S) × (left : ℕ) × (rest : List Index) × IsKept (with_indexes rest) base (state g mid).now × Left names more rest × RunInTurn g inside left last mid new (Ok tt)

  dropped : (most : ℕ) (names : List (List ℕ)) (last : List ℕ) → AllByRecursion DropsIndex names → ((n : List ℕ) → Has names n → Has added_names n) → AreCut (map drop_text names) last → (more : List Index) (old new : Held S)
      → AreAdded more → IsKept (with_indexes more) base (state g old).now → RunInTurn g inside most (batch (map drop_text names) last) old new (Ok tt) → Leads names last more new
  dropped most [] last all of cut more old new added kept h = (old, most, more, kept, record { from = λ i there. there; gone = λ i there n none. absurd none }, h)
  dropped most (name ∷ names) last all of cut more old new added kept h =
      let on = peel g inside most (batch (map drop_text (name ∷ names)) last) (drop_text name ++ semicolon) (batch (map drop_text names) last) cut.0 old new h in
      let one = drops name (of name (inl refl)) all.0 base more (state g old) (state g on.0) on.1 added kept on.3.runs in
      let it = dropped on.2 names last all.1 (λ n has. of n (inr has)) cut.1 one.0 on.0 new (still_added (name ∷ []) more one.0 one.2 added) one.1 on.4 in (
        it.0,
        it.1,
        it.2,
        it.3,
        record {
          from = λ i h. one.2.from i (it.4.from i h);
          gone = λ i h n has. elim has [ inl is ↦ one.2.gone i (it.4.from i h) n (inl is) | inr later ↦ it.4.gone i h n later ];
        },
        it.5,
      )

  -- all are gone, and the tables are as format 1 made them
  pub all_dropped : (most : ℕ) (last : List ℕ) → AreCut (map drop_text added_names) last → (more : List Index) (old new : Held S) → AreAdded more → IsKept (with_indexes more) base (state g old).now
      → RunInTurn g inside most (batch (map drop_text added_names) last) old new (Ok tt) → (mid : Held S) × (left : ℕ) × IsKept schema_one base (state g mid).now × RunInTurn g inside left last mid new (Ok tt)
  all_dropped most last cut more old new added kept h =
      let it = dropped most added_names last each_drops (λ n has. has) cut more old new added kept h in
      (it.0, it.1, subst (λ l. IsKept (with_indexes l) base (state g it.0).now) (none_left more it.2 added it.4) it.3, it.5)
