-- Indices that are entered in the rows of ids.
use Rattle.std.proofs.Common.{◌++◌, ◌≡◌, ◌≢◌, ◌∙◌, ◌&&◌, ◌<◌, ℕ, ◌+◌, Bool, true, false, nat_eq, List, [], ◌∷◌, length, get_or, set, Option, Some, None, refl, sym, ap, arith, option_and_then}
use Rattle.std.specs.Prelude.{is_some}
use Rattle.std.specs.List.{list_all}
use Rattle.std.proofs.lemmas.List.{get_or-set_other}
use Rattle.std.proofs.lemmas.Grind.{get_or-set_at}
use Rattle.lsif.specs.Element.{IdValue, same_id}
use Rattle.dump.specs.declared.links.Link.{Link}
use Rattle.dump.specs.declared.index_map.IndexMap.{IndexMap}
use Rattle.dump.specs.Graph.{is_among}
use Rattle.dump.specs.Steps.Ids.{index_at, entered, HasRows}
use Rattle.lsif.specs.RequestKinds.{kind_number}
use Rattle.dump.specs.declared.links.Link.TheVariants.{Contained, Begun, Ended, Single}
use Rattle.dump.specs.declared.single.SingleLabel.{SingleLabel}
use Rattle.dump.specs.declared.single.SingleLabel.TheVariants.{Next, PackageInformation, Request}
use Rattle.dump.specs.Walks.{same_label}
use Rattle.dump.specs.Steps.Links.{label_index, link_index, same_link, cell, link_at}
use Rattle.streams.proofs.Bools.{and_both}
use Rattle.dump.proofs.SameIds.{same_id_eq, same_id_self}
use Rattle.dump.proofs.Repeats.{entered_more}
use Rattle.dump.proofs.Slots.{entered_not}

same_number : (m n : ℕ) → nat_eq m n ≡ true → m ≡ n
same_number m n e = grind (arith, e)

other_number : (m n : ℕ) → nat_eq m n ≡ false → n ≢ m
other_number m n e = λ same. let h : nat_eq m n ≡ true = grind (arith, same) in let k : true ≡ false = sym h ∙ e in cc

pub nothing : {X : Type 0} (o : Option X) → is_some o ≡ false → o ≡ None
nothing None e = refl
nothing (Some x) e = cc

entered_some : {V : Type 0} (here : Bool) (new : V) (o : Option V) → is_some o ≡ true → o ≡ entered here new o
entered_some here new None e = cc
entered_some here new (Some old) e = refl

-- ways are told apart by their numbers
index_link : (a b : Link) → nat_eq (link_index a) (link_index b) ≡ same_link a b
index_link Contained Contained = refl
index_link Contained Begun = refl
index_link Contained Ended = refl
index_link Contained (Single n) = grind arith
index_link Begun Contained = refl
index_link Begun Begun = refl
index_link Begun Ended = refl
index_link Begun (Single n) = grind arith
index_link Ended Contained = refl
index_link Ended Begun = refl
index_link Ended Ended = refl
index_link Ended (Single n) = grind arith
index_link (Single m) Contained = grind arith
index_link (Single m) Begun = grind arith
index_link (Single m) Ended = grind arith
index_link (Single m) (Single n) = three_more (label_index m) (label_index n) ∙ index_label m n
  where
    three_more : (a b : ℕ) → nat_eq (3 + a) (3 + b) ≡ nat_eq a b
    three_more a b = grind arith

    two_more : (a b : ℕ) → nat_eq (2 + a) (2 + b) ≡ nat_eq a b
    two_more a b = grind arith

    index_label : (m n : SingleLabel) → nat_eq (label_index m) (label_index n) ≡ same_label m n
    index_label Next Next = refl
    index_label Next PackageInformation = refl
    index_label Next (Request k) = grind arith
    index_label PackageInformation Next = refl
    index_label PackageInformation PackageInformation = refl
    index_label PackageInformation (Request k) = grind arith
    index_label (Request j) Next = grind arith
    index_label (Request j) PackageInformation = grind arith
    index_label (Request j) (Request k) = two_more (kind_number j) (kind_number k)

-- an index is entered in a row that has none there
module _ (rows : List (List (Option ℕ))) (r : ℕ) (l : Link) (row : List (Option ℕ)) (here_is : get_or rows r [] ≡ row) (within : r < length rows) where
  pub cell_enters : (ix index : ℕ) → ix ≡ link_index l → ix < length row → get_or row ix None ≡ None → (n : ℕ) (other : Link)
      → cell (set rows r (set row ix (Some index))) n other ≡ entered (nat_eq r n && same_link l other) index (cell rows n other)
  cell_enters ix index is lt none n other = by (nat_eq r n) refl
    where
      column : (b : Bool) → nat_eq (link_index l) (link_index other) ≡ b → get_or (set row ix (Some index)) (link_index other) None ≡ entered b index (get_or row (link_index other) None)
      column true same =
          let here : link_index other ≡ ix = sym (same_number (link_index l) (link_index other) same) ∙ sym is in
          get_or-set_at row ix (link_index other) (Some index) None here lt ∙ ap (entered true index) (sym (ap (λ j. get_or row j None) here ∙ none))
      column false apart =
          get_or-set_other row ix (link_index other) (Some index) None (λ e. other_number (link_index l) (link_index other) apart (e ∙ is))
          ∙ sym (entered_not index (get_or row (link_index other) None))

      by : (b : Bool) → nat_eq r n ≡ b → cell (set rows r (set row ix (Some index))) n other ≡ entered (b && same_link l other) index (cell rows n other)
      by true same =
          let here : n ≡ r = sym (same_number r n same) in
          ap (λ (cells : List (Option ℕ)). get_or cells (link_index other) None) (get_or-set_at rows r n (set row ix (Some index)) [] here within)
          ∙ column (same_link l other) (index_link l other)
          ∙ ap (λ (cells : List (Option ℕ)). entered (same_link l other) index (get_or cells (link_index other) None)) (sym (ap (λ j. get_or rows j []) here ∙ here_is))
      by false apart =
          ap (λ (cells : List (Option ℕ)). get_or cells (link_index other) None) (get_or-set_other rows r n (set row ix (Some index)) [] (other_number r n apart))
          ∙ sym (entered_not index (cell rows n other))

  pub cell_stays : (ix index : ℕ) → ix ≡ link_index l → is_some (get_or row ix None) ≡ true → (n : ℕ) (other : Link)
      → cell rows n other ≡ entered (nat_eq r n && same_link l other) index (cell rows n other)
  cell_stays ix index is has n other = by (nat_eq r n) (same_link l other) refl (index_link l other)
    where
      by : (b c : Bool) → nat_eq r n ≡ b → nat_eq (link_index l) (link_index other) ≡ c → cell rows n other ≡ entered (b && c) index (cell rows n other)
      by true true row_same link_same =
          let same : cell rows n other ≡ get_or row ix None =
          ap (λ j. get_or (get_or rows j []) (link_index other) None) (sym (same_number r n row_same))
          ∙ ap (λ (cells : List (Option ℕ)). get_or cells (link_index other) None) here_is
          ∙ ap (λ j. get_or row j None) (sym (same_number (link_index l) (link_index other) link_same) ∙ sym is) in
          entered_some true index (cell rows n other) (ap is_some same ∙ has)
      by true false row_same apart = sym (entered_not index (cell rows n other))
      by false c apart link = sym (entered_not index (cell rows n other))

-- ---- rows of ids

module _ (table : IndexMap) (bound : ℕ) (has : HasRows table bound) (old new : List (List (Option ℕ))) (l : Link) (index : ℕ) where
  pub link_enters : (x : IdValue) (r : ℕ) → index_at table x ≡ Some r
      → ((n : ℕ) (m : Link) → cell new n m ≡ entered (nat_eq r n && same_link l m) index (cell old n m))
      → (m : Link) (i : IdValue) → link_at table new m i ≡ entered (same_link l m && same_id x i) index (link_at table old m i)
  link_enters x r at cells m i = by (index_at table i) refl
    where
      swap : (a b : Bool) → (a && b) ≡ (b && a)
      swap true true = refl
      swap true false = refl
      swap false true = refl
      swap false false = refl

      no_row : (b : Bool) → same_id x i ≡ b → index_at table i ≡ None → ◌≡◌ {A = Option ℕ} None (entered (same_link l m && b) index None)
      no_row true same none = let k : ◌≡◌ {A = Option ℕ} (Some r) None = sym at ∙ ap (index_at table) (same_id_eq x i same) ∙ none in cc
      no_row false other none = ap (λ b. entered b index None) (swap false (same_link l m))

      same_row : (n : ℕ) → index_at table i ≡ Some n → (b : Bool) → same_id x i ≡ b → nat_eq r n ≡ b
      same_row n is true same =
          let k : Some r ≡ Some n = sym at ∙ ap (index_at table) (same_id_eq x i same) ∙ is in
          let e : r ≡ n = cc in grind (arith, e)
      same_row n is false other = by_row (nat_eq r n) refl
        where
          by_row : (c : Bool) → nat_eq r n ≡ c → c ≡ false
          by_row true e =
              let k : x ≡ i = has.apart x i n (at ∙ ap Some (same_number r n e)) is in
              let self : same_id x i ≡ true = ap (same_id x) (sym k) ∙ same_id_self x in
              sym self ∙ other
          by_row false e = refl

      by : (o : Option ℕ) → index_at table i ≡ o → option_and_then (λ n. cell new n m) o ≡ entered (same_link l m && same_id x i) index (option_and_then (λ n. cell old n m) o)
      by None none = no_row (same_id x i) refl none
      by (Some n) is = cells n m ∙ ap (λ b. entered b index (cell old n m)) (ap (λ b. b && same_link l m) (same_row n is (same_id x i) refl) ∙ swap (same_id x i) (same_link l m))

-- the same at the ids that were passed, and at one more
pub links_more : (front : List IdValue) (x : IdValue) (index : ℕ) (b : Bool) (first old new : IdValue → Option ℕ)
    → ((i : IdValue) → old i ≡ entered (b && is_among i front) index (first i))
    → ((i : IdValue) → new i ≡ entered (b && same_id x i) index (old i))
    → (i : IdValue) → new i ≡ entered (b && is_among i (front ++ x ∷ [])) index (first i)
links_more front x index true first old new before is i = entered_more front x index first old new before is i
links_more front x index false first old new before is i = is i ∙ entered_not index (old i) ∙ before i

-- each of the ids that are left has an index
pub known_first : (table : IndexMap) (whole rest : List IdValue) (x : IdValue) → whole ≡ x ∷ rest → list_all (λ i. is_some (index_at table i)) whole ≡ true
    → (is_some (index_at table x) ≡ true) × (list_all (λ i. is_some (index_at table i)) rest ≡ true)
known_first table whole rest x next h = and_both (is_some (index_at table x)) (list_all (λ i. is_some (index_at table i)) rest) (ap (list_all (λ i. is_some (index_at table i))) (sym next) ∙ h)

-- of no id nothing is entered
pub no_entry : (b : Bool) (index : ℕ) (o : Option ℕ) → entered (b && false) index o ≡ o
no_entry true index o = entered_not index o
no_entry false index o = entered_not index o
