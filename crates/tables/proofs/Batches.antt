-- A batch of CREATE TABLE and CREATE INDEX.
use Rattle.std.proofs.Common.{◌≡◌, map, inl, inr, sym, ap, subst, ◌∙◌, ℕ, zero, suc, true, false, List, [], ◌∷◌, ◌++◌, take, drop, slice_get, None, Some, Ok, Err, Result, Option}
use Rattle.std.specs.List.{AllByRecursion}
use Rattle.sqlite_value.specs.Order.{Row}
use Rattle.sqlite_trees.specs.Tree.{Trees}
use Rattle.sqlite_trees.specs.declared.store.Store.{Ghosts}
use Rattle.sqlite_schema.specs.declared.schema.Table.{Table}
use Rattle.sqlite_schema.specs.declared.schema.Index.{Index}
use Rattle.sqlite_schema.specs.declared.schema.Schema.{Schema}
use Rattle.sqlite_schema.specs.declared.command.Command.{Command}
use Rattle.sqlite_schema.specs.declared.command.Command.TheVariants.{CreateTable, CreateIndex}
use Rattle.sqlite_resolve.specs.declared.compiled.Compiled.{Compiled}
use Rattle.sqlite_resolve.specs.declared.error.CompileError.{CompileError}
use Rattle.sqlite_resolve.specs.Compile.{table_defined_by, index_defined_by}
use Rattle.sqlite_catalog.specs.Calls.{CreatesIndex}
use Rattle.sqlite_catalog.specs.Change.{created, indexed, next_tree, KeepsRows}
use Rattle.sqlite.specs.Effect.{Database}
use Rattle.sqlite.specs.Does.{Tally, Does, lacks_sequence}
use Rattle.sqlite.specs.Listing.{understood}
use Rattle.sqlite.specs.State.{State, ExecutesIn, shows_rows}
use Rattle.sqlite.specs.Held.{Held, state}
use Rattle.sqlite.specs.Batch.{first_len, Step, RunInTurn, StaysInside}
use Rattle.sqlite.proofs.Callers.{IsPlain, command_of, statement_of, runs_as}
use Rattle.tables.specs.Steps.Kept.{IsKept}
use Rattle.tables.specs.Steps.Texts.{semicolon, batch}
use Rattle.tables.proofs.Insert.{went, same_value, plain_mode}

-- it shows no rows, in a batch or alone
abbrev pub IsSilent : Result Compiled CompileError → Type 0
IsSilent (Ok c) = (shows_rows true c ≡ false) × (shows_rows false c ≡ false)
IsSilent (Err e) = ⊥

pub from_batch : (sql : List ℕ) (params : Row) (old new : State) (schema : Schema) (count : ℕ) → old.now.schema ≡ schema → IsSilent (understood schema sql) → ExecutesIn true sql params old new (Ok count) → ExecutesIn false sql params old new (Ok count)
unfolding ExecutesIn
from_batch sql params old new schema count has silent h =
    let quiet = subst IsSilent (sym (sym h.1.is ∙ ap (λ s. understood s sql) has)) silent in
    (h.0, h.1, rw quiet.1 (rw quiet.0 at h.2))

-- a statement that makes a table, or an index on the table at this place
pub data Making : Type 0 where
  makes_table : List ℕ → Table → Making
  makes_index : List ℕ → ℕ → Table → Index → Making

abbrev pub text_of : Making → List ℕ
text_of (makes_table text t) = text
text_of (makes_index text at t i) = text

abbrev pub command_for : Making → Command
command_for (makes_table text t) = CreateTable
command_for (makes_index text at t i) = CreateIndex at

-- what it makes of a schema
abbrev pub made : Schema → Making → Schema
made schema (makes_table text t) = created schema t
made schema (makes_index text at t i) = indexed schema t i

-- its text defines the table, which counts no rowids, or the index
abbrev pub Defines : Schema → Making → Type 0
Defines schema (makes_table text t) = (table_defined_by text ≡ Ok t) × (lacks_sequence (created schema t) ≡ false)
Defines schema (makes_index text at t i) = (index_defined_by t text ≡ Ok i) × (slice_get schema.tables at ≡ Some t)

-- the statement, in a batch, is understood so
pub record Makes (schema : Schema) (m : Making) : Type 0 where
  pub is : command_of (understood schema (text_of m ++ semicolon)) ≡ command_for m
  pub plain : IsPlain (understood schema (text_of m ++ semicolon))
  pub silent : IsSilent (understood schema (text_of m ++ semicolon))
  pub read : statement_of (text_of m ++ semicolon) (understood schema (text_of m ++ semicolon)) ≡ text_of m
  pub defined : Defines schema m

-- the tree of the table that it makes is empty in `base`
abbrev pub IsBlank : Trees → Schema → Making → Type 0
IsBlank base schema (makes_table text t) = base (next_tree schema) ≡ []
IsBlank base schema (makes_index text at t i) = Unit {0}

pub still_kept : (old new base : Trees) (tables : List Table) → AllByRecursion (λ u. old u.tree ≡ base u.tree) tables → KeepsRows tables old new → AllByRecursion (λ u. new u.tree ≡ base u.tree) tables
still_kept old new base [] kept keeps = tt
still_kept old new base (u ∷ tables) kept keeps = (keeps.0 ∙ kept.0, still_kept old new base tables kept.1 keeps.1)

one_more : (new base : Trees) (tables : List Table) (t : Table) → AllByRecursion (λ u. new u.tree ≡ base u.tree) tables → new t.tree ≡ base t.tree → AllByRecursion (λ u. new u.tree ≡ base u.tree) (tables ++ t ∷ [])
one_more new base [] t kept last = (last, tt)
one_more new base (u ∷ tables) t kept last = (kept.0, one_more new base tables t kept.1 last)

index_does : (limit : Option ℕ) (db : Database) (text : List ℕ) (tally : Tally) (after : Database) (at : ℕ) (t : Table) → slice_get db.schema.tables at ≡ Some t
    → Does limit plain_mode [] db text None (CreateIndex at) (Ok (tally, after)) → CreatesIndex db.schema t text db.trees after.schema after.trees
index_does limit db text tally after at t placed h =
    let all = went (rw placed at h) in
    subst (λ (d : Database). CreatesIndex db.schema t text db.trees d.schema d.trees) (sym (ap (λ (p : Tally × Database). p.1) (same_value all.2))) all.1

pub makes : (schema : Schema) (it : Making) (base : Trees) (old new : State) (count : ℕ) → Makes schema it → IsBlank base schema it → IsKept schema base old.now → ExecutesIn true (text_of it ++ semicolon) [] old new (Ok count)
    → IsKept (made schema it) base new.now
makes schema (makes_table text t) base old new count m blank bare h =
    let sql = text ++ semicolon in
    let w = runs_as sql [] old new schema bare.schema_is CreateTable m.is m.plain count (from_batch sql [] old new schema count bare.schema_is m.silent h) in
    let all = went w.changed in
    let first = went all.1 in
    let made = first.1 in
    let both : Ok made.table ≡ Ok t = sym made.defined ∙ (ap table_defined_by m.read ∙ m.defined.0) in
    let same : made.table ≡ t = same_value both in
    let schema_is : first.0.schema ≡ created schema t = made.is ∙ ap (λ s. created s made.table) bare.schema_is ∙ ap (created schema) same in
    let plain : lacks_sequence first.0.schema ≡ false = ap lacks_sequence schema_is ∙ m.defined.1 in
    let now : new.now ≡ first.0 = ap (λ (p : Tally × Database). p.1) (same_value all.2) ∙ same_value (rw plain at first.2) in
    subst (IsKept (created schema t) base) (sym now) (record {
      schema_is = schema_is;
      rows = one_more first.0.trees base schema.tables (record t { tree = next_tree schema })
          (still_kept old.now.trees first.0.trees base schema.tables bare.rows (subst (λ s. KeepsRows s.tables old.now.trees first.0.trees) bare.schema_is made.others))
          (subst (λ s. first.0.trees (next_tree s) ≡ []) bare.schema_is made.empty ∙ sym blank);
    })
makes schema (makes_index text at t i) base old new count m blank bare h =
    let sql = text ++ semicolon in
    let w = runs_as sql [] old new schema bare.schema_is (CreateIndex at) m.is m.plain count (from_batch sql [] old new schema count bare.schema_is m.silent h) in
    let made = index_does old.step_limit old.now (statement_of sql (understood schema sql)) w.tally new.now at t (ap (λ (s : Schema). slice_get s.tables at) bare.schema_is ∙ m.defined.1) w.changed in
    let both : Ok made.index ≡ Ok i = sym made.defined ∙ (ap (index_defined_by t) m.read ∙ m.defined.0) in
    record {
      schema_is = made.is ∙ ap (λ s. indexed s t made.index) bare.schema_is ∙ ap (indexed schema t) (same_value both);
      rows = still_kept old.now.trees new.now.trees base schema.tables bare.rows (subst (λ s. KeepsRows s.tables old.now.trees new.now.trees) bare.schema_is made.rows);
    }

-- the first statement of a text, and what is left
abbrev pub IsCut : List ℕ → List ℕ → List ℕ → Type 0
IsCut [] first rest = ⊥
IsCut (b ∷ more) first rest = (take (first_len (b ∷ more)) (b ∷ more) ≡ first) × (drop (first_len (b ∷ more)) (b ∷ more) ≡ rest)

-- ---- the statements of a batch, one after the other

abbrev pub AreCut : List (List ℕ) → List ℕ → Type 0
AreCut [] last = Unit {0}
AreCut (text ∷ texts) last = IsCut (batch (text ∷ texts) last) (text ++ semicolon) (batch texts last) × AreCut texts last

abbrev pub all_made : Schema → List Making → Schema
all_made schema [] = schema
all_made schema (m ∷ ms) = all_made (made schema m) ms

abbrev pub AllMake : Schema → List Making → Type 0
AllMake schema [] = Unit {0}
AllMake schema (m ∷ ms) = Makes schema m × AllMake (made schema m) ms

abbrev pub AreBlank : Trees → Schema → List Making → Type 0
AreBlank base schema [] = Unit {0}
AreBlank base schema (m ∷ ms) = IsBlank base schema m × AreBlank base (made schema m) ms

module _ {S : Type 0} (g : Ghosts S) (inside : Option ℕ) where
  abbrev Goes : List ℕ → List ℕ → Held S → Held S → Type 0
  Goes first rest old new = (mid : Held S) × (count : ℕ) × (left : ℕ) × Step g first old mid (Ok count) × RunInTurn g inside left rest mid new (Ok tt) × StaysInside g inside old mid

  pub peel : (most : ℕ) (text first rest : List ℕ) → IsCut text first rest → (old new : Held S) → RunInTurn g inside most text old new (Ok tt) → Goes first rest old new
  peel most [] first rest cut old new h = absurd cut
  peel zero (b ∷ more) first rest cut old new h = absurd h
  peel (suc most) (b ∷ more) first rest cut old new (inl stopped) = absurd (let e = stopped.1 in cc)
  peel (suc most) (b ∷ more) first rest cut old new (inr on) =
      (on.0, on.1, most, subst (λ x. Step g x old on.0 (Ok on.1)) cut.0 on.2, subst (λ x. RunInTurn g inside most x on.0 new (Ok tt)) cut.1 on.3, on.4)

  pub runs : (base : Trees) (most : ℕ) (ms : List Making) (last : List ℕ) (schema : Schema) → AreCut (map text_of ms) last → AllMake schema ms → AreBlank base schema ms → (old new : Held S) → IsKept schema base (state g old).now
      → RunInTurn g inside most (batch (map text_of ms) last) old new (Ok tt) → (mid : Held S) × (left : ℕ) × IsKept (all_made schema ms) base (state g mid).now × RunInTurn g inside left last mid new (Ok tt)
  runs base most [] last schema cut make blank old new kept h = (old, most, kept, h)
  runs base most (m ∷ ms) last schema cut make blank old new kept h =
      let on = peel most (batch (map text_of (m ∷ ms)) last) (text_of m ++ semicolon) (batch (map text_of ms) last) cut.0 old new h in
      runs base on.2 ms last (made schema m) cut.1 make.1 blank.1 on.0 new (makes schema m base (state g old) (state g on.0) on.1 make.0 blank.0 kept on.3.runs) on.4
