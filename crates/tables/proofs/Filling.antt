-- What the calls that put a part leave, put together.
use Rattle.std.proofs.Common.{◌≡◌, ◌⊎◌, ◌++◌, inl, inr, pos, IsTrue, ℕ, ℤ, List, [], ◌∷◌, map, Some, None, refl, sym, ap, subst, ◌∙◌}
use Rattle.std.specs.List.{flat_map}
use Rattle.std.proofs.lemmas.List.{map-append}
use Rattle.std.proofs.lemmas.Simd.{map-map}
use Rattle.sqlite_value.specs.Order.{Row}
use Rattle.sqlite_value.specs.declared.value.Value.TheVariants.{Int, Text, Null}
use Rattle.sqlite_trees.specs.Tree.{Trees}
use Rattle.sqlite_rules.specs.Lists.{Has}
use Rattle.sqlite.specs.State.{State}
use Rattle.lsif.specs.declared.profile.Profile.{Profile}
use Rattle.tags.specs.Values.{TagValue}
use Rattle.flatten.specs.Flat.{RowsValue}
use Rattle.tables.specs.Columns.{laid, nowhere, document_columns, range_columns, item_columns, hover_columns, mark_columns, bearer_columns, profile_columns, more_rows, dump_rows, tag_columns, tag_rows}
use Rattle.tables.specs.Contents.{Contents, Replies, slot_row, owned, Keeps, changed}
use Rattle.tables.specs.Steps.Puts.{Puts, PutsAll, GoesOn, Steps, Then}
use Rattle.tables.specs.Schema.{schema_two}
use Rattle.tables.specs.Databases.{Holds}
use Rattle.tables.specs.Parts.{part_number}
use Rattle.tables.specs.declared.slots.Part.{Part}
use Rattle.tables.specs.declared.slots.Part.TheVariants.{Dump, Tags}
use Rattle.tables.specs.TableTrees.{bearer_tree, document_tree, hover_tree, item_tree, mark_tree, more_tree, part_profile_tree, range_row_tree, slot_tree, tag_tree}
use Rattle.tables.proofs.Keeping.{keeps_slot, keeps_rows, is_owned, from_map, to_map}
use Rattle.tables.proofs.Puts.{puts_none, puts_then}

pub goes_then : (a b c : State) → GoesOn a b → GoesOn b c → GoesOn a c
goes_then a b c p q = record { schema = q.schema; inside = q.inside; committed = q.committed ∙ p.committed }

-- three tables that get rows in turn
pub three_puts : (first second third : ℕ) (xs ys zs : List Row) (a b c d : State) → Steps (PutsAll first xs) a b → Steps (PutsAll second ys) b c → Steps (PutsAll third zs) c d
    → Steps (Then (PutsAll first xs) (Then (PutsAll second ys) (PutsAll third zs))) a d
three_puts first second third xs ys zs a b c d p q r = (goes_then a c d (goes_then a b c p.0 q.0) r.0, (b.now.trees, p.1, (c.now.trees, q.1, r.1)))

-- the id of the slot is before the columns
slot_before : {X : Type 0} (id : ℤ) (columns : X → Row) (xs : List X) → map (λ x. Int id ∷ columns x) xs ≡ map (λ values. Int id ∷ values) (map columns xs)
slot_before id columns [] = refl
slot_before id columns (x ∷ xs) = ap (λ l. (Int id ∷ columns x) ∷ l) (slot_before id columns xs)

with_slot : {X Y : Type 0} (id : ℤ) (columns : Y → Row) (value : X → Y) (xs : List X) → map (λ x. Int id ∷ columns (value x)) xs ≡ map (λ values. Int id ∷ values) (map columns (map value xs))
with_slot id columns value xs = sym (map-map (λ y. Int id ∷ columns y) value xs) ∙ slot_before id columns (map value xs)

-- rows that were put, by their values
pub put_values : {X Y : Type 0} (tree : ℕ) (id : ℤ) (columns : Y → Row) (value : X → Y) (given xs : List X) (old new : State) → given ≡ xs → Steps (PutsAll tree (map (λ x. Int id ∷ columns (value x)) given)) old new
    → Steps (PutsAll tree (map (λ values. Int id ∷ values) (map columns (map value xs)))) old new
put_values tree id columns value given xs old new same puts = subst (λ l. Steps (PutsAll tree l) old new) (ap (map (λ x. Int id ∷ columns (value x))) same ∙ with_slot id columns value xs) puts

-- rows that were put, by others that have the same columns
pub put_same : {X Y : Type 0} (tree : ℕ) (id : ℤ) (f : X → Row) (g : Y → Row) (xs : List X) (ys : List Y) (old new : State) → map f xs ≡ map g ys → Steps (PutsAll tree (map (λ x. Int id ∷ f x) xs)) old new
    → Steps (PutsAll tree (map (λ y. Int id ∷ g y) ys)) old new
put_same tree id f g xs ys old new same puts =
    subst (λ l. Steps (PutsAll tree l) old new) (slot_before id f xs ∙ (ap (map (λ values. Int id ∷ values)) same ∙ sym (slot_before id g ys))) puts

-- rows that are there already are put by doing nothing
pub puts_held : (tree : ℕ) (list : List Row) (s : State) → s.now.schema ≡ schema_two → IsTrue s.in_transaction → ((row : Row) → Has list row → Holds s.now.trees tree row) → Steps (PutsAll tree list) s s
puts_held tree list s has inside there =
    let none = puts_none tree s has inside in (
      none.0,
      record {
        rows = λ row. ((λ held. inr held), (λ e. elim e [ inl listed ↦ there row listed | inr held ↦ held ]));
        others = none.1.others;
        ordered = none.1.ordered;
      },
    )

-- what is listed among others that are there, is there
pub held_by : (tree : ℕ) (id : ℤ) (list first second : List Row) (db : Trees) → ((row : Row) → Has list row → Has first row ⊎ Has second row)
    → ((row : Row) → Has (map (λ columns. Int id ∷ columns) first) row → Holds db tree row) → ((row : Row) → Has (map (λ columns. Int id ∷ columns) second) row → Holds db tree row)
    → (row : Row) → Has (map (λ columns. Int id ∷ columns) list) row → Holds db tree row
held_by tree id list first second db listed one two row h =
    let x = from_map (λ columns. Int id ∷ columns) list row h in
    subst (Holds db tree) (sym x.2) (elim (listed x.0 x.1) [ inl a ↦ one _ (to_map (λ columns. Int id ∷ columns) first x.0 a) | inr b ↦ two _ (to_map (λ columns. Int id ∷ columns) second x.0 b) ])

map_flat : {X : Type 0} (id : ℤ) (f : X → List Row) (xs : List X) → map (λ columns. Int id ∷ columns) (flat_map f xs) ≡ flat_map (λ x. map (λ columns. Int id ∷ columns) (f x)) xs
map_flat id f [] = refl
map_flat id f (x ∷ xs) = map-append (λ columns. Int id ∷ columns) (f x) (flat_map f xs) ∙ ap (λ l. map (λ columns. Int id ∷ columns) (f x) ++ l) (map_flat id f xs)

flat_values : {X Y : Type 0} (id : ℤ) (f : Y → List Row) (value : X → Y) (xs : List X)
    → flat_map (λ x. map (λ columns. Int id ∷ columns) (f (value x))) xs ≡ map (λ columns. Int id ∷ columns) (flat_map f (map value xs))
flat_values id f value [] = refl
flat_values id f value (x ∷ xs) = ap (λ l. map (λ columns. Int id ∷ columns) (f (value x)) ++ l) (flat_values id f value xs) ∙ sym (map-append (λ columns. Int id ∷ columns) (f (value x)) (flat_map f (map value xs)))

-- the rows of one list and of another, by their values
pub two_puts : {X Y V W : Type 0} (tree : ℕ) (id : ℤ) (f : V → List Row) (v : X → V) (g : W → List Row) (w : Y → W) (xs : List X) (ys : List Y) (a b c : State)
    → Steps (PutsAll tree (flat_map (λ x. map (λ columns. Int id ∷ columns) (f (v x))) xs)) a b → Steps (PutsAll tree (flat_map (λ y. map (λ columns. Int id ∷ columns) (g (w y))) ys)) b c
    → Steps (PutsAll tree (map (λ columns. Int id ∷ columns) (flat_map f (map v xs) ++ flat_map g (map w ys)))) a c
two_puts tree id f v g w xs ys a b c p q =
    let listed = ap (λ l. l ++ flat_map (λ y. map (λ columns. Int id ∷ columns) (g (w y))) ys) (flat_values id f v xs)
    ∙ (ap (λ l. map (λ columns. Int id ∷ columns) (flat_map f (map v xs)) ++ l) (flat_values id g w ys) ∙ sym (map-append (λ columns. Int id ∷ columns) (flat_map f (map v xs)) (flat_map g (map w ys)))) in
    subst (λ l. Steps (PutsAll tree l) a c) listed (puts_then tree _ _ a b c p q)

-- what was put is there
pub held_of : {X : Type 0} (tree : ℕ) (id : ℤ) (f : X → List Row) (xs : List X) (old new : Trees) → PutsAll tree (flat_map (λ x. map (λ columns. Int id ∷ columns) (f x)) xs) old new
    → (row : Row) → Has (map (λ columns. Int id ∷ columns) (flat_map f xs)) row → Holds new tree row
held_of tree id f xs old new puts row h = (puts.rows row).1 (inl (subst (λ l. Has l row) (map_flat id f xs) h))

module _ (parts : Contents) (replies : Replies) (project : List ℕ) (part : Part) (id : ℤ) where
  -- the part has these rows so far, under this slot
  pub record IsFilling (rows : ℕ → List Row) (db : Trees) : Type 0 where
    pub keeps : Keeps db (changed parts project part (Some rows)) replies
    pub slot : Has (db slot_tree) (slot_row id project part)

  pub begins : (old new : Trees) → Keeps old (changed parts project part None) replies → Puts slot_tree id (Null ∷ Text project ∷ Int (part_number part) ∷ []) old new → IsFilling nowhere new
  begins old new is puts = record { keeps = keeps_slot parts project part replies id old new is puts; slot = (puts.rows (slot_row id project part)).1 (inl refl) }

  pub fills : (tree : ℕ) (rows : ℕ → List Row) (list : List Row) (old new : Trees) → Has owned tree → rows tree ≡ [] → IsFilling rows old → PutsAll tree (map (λ values. Int id ∷ values) list) old new → IsFilling (laid tree list rows) new
  fills tree rows list old new owns empty is puts = record {
    keeps = keeps_rows parts project part replies tree id rows list old new owns is.keeps is.slot empty puts;
    slot = subst (λ l. Has l (slot_row id project part)) (sym (puts.others.1.0 (λ e. (is_owned tree owns).1.0 (sym e)))) is.slot;
  }

module _ (parts : Contents) (replies : Replies) (project : List ℕ) (id : ℤ) (profile : Profile) (flat : RowsValue) where
  abbrev Given : ℕ → List Row → Trees → Trees → Type 0
  Given tree list = PutsAll tree (map (λ values. Int id ∷ values) list)

  -- a slot and the rows of a dump
  pub dump_filled : (a b c d e f : State) → Keeps a.now.trees (changed parts project Dump None) replies → Steps (Puts slot_tree id (Null ∷ Text project ∷ Int (pos 1) ∷ [])) a b
      → Steps (Then (Given document_tree (map document_columns flat.documents)) (Then (Given range_row_tree (map range_columns flat.ranges)) (Given item_tree (map item_columns flat.items)))) b c
      → Steps (Then (Given hover_tree (map hover_columns flat.hovers)) (Then (Given mark_tree (map mark_columns flat.marks)) (Given bearer_tree (map bearer_columns flat.bearers)))) c d
      → Steps (PutsAll part_profile_tree ((Int id ∷ profile_columns profile) ∷ [])) d e → Steps (Given more_tree (more_rows flat)) e f
      → GoesOn a f × Keeps f.now.trees (changed parts project Dump (Some (dump_rows profile flat))) replies
  dump_filled a b c d e f is (on1, p) (on2, first) (on3, second) (on4, q) (on5, r) =
      let s0 = begins parts replies project Dump id a.now.trees b.now.trees is p in
      let s1 = fills parts replies project Dump id 5 _ (map document_columns flat.documents) b.now.trees first.0 (inl refl) refl s0 first.1 in
      let s2 = fills parts replies project Dump id 7 _ (map range_columns flat.ranges) first.0 first.2.0 (inr (inl refl)) refl s1 first.2.1 in
      let s3 = fills parts replies project Dump id 9 _ (map item_columns flat.items) first.2.0 c.now.trees (inr (inr (inl refl))) refl s2 first.2.2 in
      let s4 = fills parts replies project Dump id 11 _ (map hover_columns flat.hovers) c.now.trees second.0 (inr (inr (inr (inl refl)))) refl s3 second.1 in
      let s5 = fills parts replies project Dump id 13 _ (map mark_columns flat.marks) second.0 second.2.0 (inr (inr (inr (inr (inl refl))))) refl s4 second.2.1 in
      let s6 = fills parts replies project Dump id 15 _ (map bearer_columns flat.bearers) second.2.0 d.now.trees (inr (inr (inr (inr (inr (inl refl)))))) refl s5 second.2.2 in
      let s7 = fills parts replies project Dump id 22 _ (profile_columns profile ∷ []) d.now.trees e.now.trees (inr (inr (inr (inr (inr (inr (inr (inl refl)))))))) refl s6 q in
      let s8 = fills parts replies project Dump id 24 _ (more_rows flat) e.now.trees f.now.trees (inr (inr (inr (inr (inr (inr (inr (inr (inl refl))))))))) refl s7 r in
      (goes_then a e f (goes_then a d e (goes_then a c d (goes_then a b c on1 on2) on3) on4) on5, s8.keeps)

module _ (parts : Contents) (replies : Replies) (project : List ℕ) (id : ℤ) where
  -- a slot and the rows of tags
  pub tags_filled : (tags : List TagValue) (a b c : State) → Keeps a.now.trees (changed parts project Tags None) replies → Steps (Puts slot_tree id (Null ∷ Text project ∷ Int (pos 2) ∷ [])) a b
      → Steps (PutsAll tag_tree (map (λ values. Int id ∷ values) (map tag_columns tags))) b c
      → GoesOn a c × Keeps c.now.trees (changed parts project Tags (Some (tag_rows tags))) replies
  tags_filled tags a b c is (on1, p) (on2, q) =
      let s0 = begins parts replies project Tags id a.now.trees b.now.trees is p in
      let s1 = fills parts replies project Tags id 17 _ (map tag_columns tags) b.now.trees c.now.trees (inr (inr (inr (inr (inr (inr (inl refl))))))) refl s0 q in
      (goes_then a b c on1 on2, s1.keeps)
