-- The cut of a line, against the grammar.
use Rattle.std.proofs.Common.{◌≡◌, ◌≢◌, ◌∙◌, ◌==◌, ◌&&◌, ◌||◌, ℕ, ◌<◌, Bool, true, false, List, [], ◌∷◌, ◌++◌, length, take, drop, Option, Some, None, option_map, option_and_then, cond, refl, ap, sym, arith, append-nil, subst}
use Rattle.std.proofs.lemmas.Bool.Decides.{nat_tests}
use Rattle.std.proofs.lemmas.List.{take_at, drop_at}
use Rattle.std.proofs.lemmas.Option.{some_pair_parts}
use Rattle.std.specs.List.{AllByRecursion, flat_map, slice_split, onto_first}
use Rattle.tags.specs.Around.{around, longer}
use Rattle.tags.specs.Bytes.{tab, semicolon, double_quote}
use Rattle.tags.specs.Steps.Cutting.{Front, front_by, front_of, Tail, tail_at, tail_of, fields_after, address_len, each_field}
use Rattle.tags.specs.Fields.{is_empty}
use Rattle.tags.specs.Grammar.{fields_in, Address, address_text, IsAddress, TagLine, field_text, fields_text, line_of, HasNoTab, IsName, AreFields, IsTagLine, Spells, HasFront}
use Rattle.tags.proofs.AroundLemmas.{is, parts_by, split-around}
use Rattle.tags.proofs.NumberLemmas.{Follows, nothing, extension, address_len-address, ReadsAddress, address_len-reads}
use Rattle.tags.proofs.TextLemmas.{around-surrounds}

-- ---- what is around a byte

other_test : (b c : ℕ) → b ≢ c → (b == c) ≡ false
other_test b c h = grind (arith, nat_tests, h)

same_test : (c : ℕ) → (c == c) ≡ true
same_test c = grind (arith, nat_tests)

abbrev pub IsFree : ℕ → List ℕ → Type 0
IsFree c bs = AllByRecursion (λ b. b ≢ c) bs

pub around-first : (c : ℕ) (xs ys : List ℕ) → IsFree c xs → around c (xs ++ c ∷ ys) ≡ Some (xs, ys)
unfolding around
around-first c [] ys h = rw (same_test c) refl
around-first c (x ∷ xs) ys h = rw (other_test x c h.0, around-first c xs ys h.1) refl

pub around-free : (c : ℕ) (xs : List ℕ) → IsFree c xs → around c xs ≡ None
unfolding around
around-free c [] h = refl
around-free c (x ∷ xs) h = rw (other_test x c h.0, around-free c xs h.1) refl

free_later : (c b : ℕ) (o : Option (List ℕ × List ℕ)) → b ≢ c → ((p : List ℕ × List ℕ) → o ≡ Some p → IsFree c p.0) → (p : List ℕ × List ℕ) → option_map (longer b) o ≡ Some p → IsFree c p.0
free_later c b None ne ih p h = absurd cc
free_later c b (Some q) ne ih p h =
    let front : b ∷ q.0 ≡ p.0 = (some_pair_parts (b ∷ q.0) p.0 q.1 p.1 h).0 in
    let free : IsFree c (b ∷ q.0) = (ne, ih q refl) in
    subst (IsFree c) front free

free_by : (c b : ℕ) (bs : List ℕ) (t : Bool) → (b == c) ≡ t → ((p : List ℕ × List ℕ) → around c bs ≡ Some p → IsFree c p.0) → (p : List ℕ × List ℕ) → around c (b ∷ bs) ≡ Some p → IsFree c p.0
unfolding around
free_by c b bs true e ih p h =
    let found : ◌≡◌ {A = Option (List ℕ × List ℕ)} (Some ([], bs)) (Some (p.0, p.1)) = rw e at h in
    let front : [] ≡ p.0 = (some_pair_parts [] p.0 bs p.1 found).0 in
    let free : IsFree c [] = tt in
    subst (IsFree c) front free
free_by c b bs false e ih p h =
    let later : option_map (longer b) (around c bs) ≡ Some p = rw e at h in
    let ne : b ≢ c = grind (arith, nat_tests, e) in
    free_later c b (around c bs) ne ih p later

pub IsFree-around : (c : ℕ) (bs : List ℕ) (p : List ℕ × List ℕ) → around c bs ≡ Some p → IsFree c p.0
unfolding around
IsFree-around c [] p h = absurd cc
IsFree-around c (b ∷ bs) p h = free_by c b bs (b == c) refl (IsFree-around c bs) p h

-- ---- the name and the file

not_empty : (bs : List ℕ) → 0 < length bs → is_empty bs ≡ false
not_empty bs h = grind (arith, nat_tests)

long : (bs : List ℕ) → is_empty bs ≡ false → 0 < length bs
long bs h = grind (arith, nat_tests)

-- a line with a name and a file is cut there
pub front_of-front : (name file rest : List ℕ) → IsName name → IsName file → front_of (name ++ tab ∷ (file ++ tab ∷ rest)) ≡ Some (record { name = name; file = file; rest = rest })
unfolding front_of
front_of-front name file rest n f =
    rw (around-first tab name (file ++ tab ∷ rest) n.1, around-first tab file rest f.1, not_empty name n.0, not_empty file f.0) refl

-- what was cut off is a name and a file
pub record CutsFront (line : List ℕ) (f : Front) : Type 0 where
  pub name : IsName f.name
  pub file : IsName f.file
  pub text : line ≡ f.name ++ tab ∷ (f.file ++ tab ∷ f.rest)

cuts_by : (line name rest : List ℕ) (p : List ℕ × List ℕ) (f : Front) (t s : Bool) → line ≡ name ++ tab ∷ rest → rest ≡ p.0 ++ tab ∷ p.1 → IsFree tab name → IsFree tab p.0 → is_empty name ≡ t → is_empty p.0 ≡ s → cond (t || s) None (Some (record { name = name; file = p.0; rest = p.1 })) ≡ Some f → CutsFront line f
cuts_by line name rest p f true s whole back free free2 e g h = absurd cc
cuts_by line name rest p f false true whole back free free2 e g h = absurd cc
cuts_by line name rest p f false false whole back free free2 e g h =
    let same : record { name = name; file = p.0; rest = p.1 } ≡ f = cc in
    let cut : CutsFront line (record { name = name; file = p.0; rest = p.1 }) =
    record { name = (long name e, free); file = (long p.0 g, free2); text = whole ∙ ap (λ xs. name ++ tab ∷ xs) back } in
    rw same at cut

cuts_file : (line name rest : List ℕ) (f : Front) (o : Option (List ℕ × List ℕ)) → around tab rest ≡ o → line ≡ name ++ tab ∷ rest → IsFree tab name → option_and_then (front_by name) o ≡ Some f → CutsFront line f
cuts_file line name rest f None e whole free h = absurd cc
cuts_file line name rest f (Some p) e whole free h = cuts_by line name rest p f (is_empty name) (is_empty p.0) whole (around-surrounds tab rest p e) free (IsFree-around tab rest p e) refl refl h

cuts_name : (line : List ℕ) (f : Front) (o : Option (List ℕ × List ℕ)) → around tab line ≡ o → option_and_then (λ p. option_and_then (front_by p.0) (around tab p.1)) o ≡ Some f → CutsFront line f
cuts_name line f None e h = absurd cc
cuts_name line f (Some p) e h = cuts_file line p.0 p.1 f (around tab p.1) refl (around-surrounds tab line p e) (IsFree-around tab line p e) h

pub front_of-cuts : (line : List ℕ) (f : Front) → front_of line ≡ Some f → CutsFront line f
unfolding front_of
front_of-cuts line f h = cuts_name line f (around tab line) refl h

-- ---- the fields

-- joined by Tabs
abbrev pub joined : List (List ℕ) → Option (List ℕ)
joined [] = None
joined (f ∷ fs) = Some (f ++ flat_map field_text fs)

abbrev pub joined_fields : Option (List (List ℕ)) → Option (List ℕ)
joined_fields None = None
joined_fields (Some fs) = joined fs

split-joined : (f : List ℕ) (fs : List (List ℕ)) → HasNoTab f → AllByRecursion HasNoTab fs → slice_split (is tab) (f ++ flat_map field_text fs) ≡ f ∷ fs
split-joined f [] h g =
    ap (slice_split (is tab)) (append-nil f) ∙ split-around tab f ∙ ap (parts_by tab f) (around-free tab f h)
split-joined f (x ∷ fs) h g =
    split-around tab (f ++ tab ∷ (x ++ flat_map field_text fs))
    ∙ ap (parts_by tab (f ++ tab ∷ (x ++ flat_map field_text fs))) (around-first tab f (x ++ flat_map field_text fs) h)
    ∙ ap (λ ps. f ∷ ps) (split-joined x fs g.0 g.1)

pub each_field-joined : (fields : Option (List (List ℕ))) → AreFields fields → each_field (joined_fields fields) ≡ fields_in fields
each_field-joined None h = refl
each_field-joined (Some []) h = refl
each_field-joined (Some (f ∷ fs)) h = split-joined f fs h.0 h.1

pub fields_after-fields : (fields : Option (List (List ℕ))) → fields_after (fields_text fields) ≡ Some (joined_fields fields)
unfolding fields_after
fields_after-fields None = refl
fields_after-fields (Some []) = refl
fields_after-fields (Some (f ∷ fs)) = refl

Follows-fields : (fields : Option (List (List ℕ))) → Follows (fields_text fields)
Follows-fields None = nothing
Follows-fields (Some fs) = extension (flat_map field_text fs)

-- the address and the fields of the grammar are read
pub tail_of-tail : (a : Address) (fields : Option (List (List ℕ))) → IsAddress a → tail_of (address_text a ++ fields_text fields) ≡ Some (record { address = address_text a; fields = joined_fields fields })
unfolding tail_of
tail_of-tail a fields h =
    rw (address_len-address a (fields_text fields) h (Follows-fields fields), take_at (address_text a) (fields_text fields) (length (address_text a)) refl, drop_at (address_text a) (fields_text fields) (length (address_text a)) refl, fields_after-fields fields) refl

-- ---- what was read are fields of the grammar

flat_onto : (b : ℕ) (bs : List ℕ) (parts : List (List ℕ)) → flat_map field_text parts ≡ tab ∷ bs → flat_map field_text (onto_first b parts) ≡ tab ∷ b ∷ bs
flat_onto b bs [] h = absurd cc
flat_onto b bs (p ∷ parts) h = let back : p ++ flat_map field_text parts ≡ bs = cc in ap (λ xs. tab ∷ b ∷ xs) back

flat_by : (b : ℕ) (bs : List ℕ) (t : Bool) → (b == tab) ≡ t → flat_map field_text (slice_split (is tab) bs) ≡ tab ∷ bs → flat_map field_text (cond t ([] ∷ slice_split (is tab) bs) (onto_first b (slice_split (is tab) bs))) ≡ tab ∷ b ∷ bs
flat_by b bs true e ih = let same : b ≡ tab = grind (arith, nat_tests) in ap (λ xs. tab ∷ xs) ih ∙ ap (λ x. tab ∷ x ∷ bs) (sym same)
flat_by b bs false e ih = flat_onto b bs (slice_split (is tab) bs) ih

flat-split : (bs : List ℕ) → flat_map field_text (slice_split (is tab) bs) ≡ tab ∷ bs
flat-split [] = refl
flat-split (b ∷ bs) = flat_by b bs (b == tab) refl (flat-split bs)

free_onto : (b : ℕ) (parts : List (List ℕ)) → b ≢ tab → AllByRecursion HasNoTab parts → AllByRecursion HasNoTab (onto_first b parts)
free_onto b [] ne h = ((ne, tt), tt)
free_onto b (p ∷ parts) ne h = ((ne, h.0), h.1)

free_split_by : (b : ℕ) (bs : List ℕ) (t : Bool) → (b == tab) ≡ t → AllByRecursion HasNoTab (slice_split (is tab) bs) → AllByRecursion HasNoTab (cond t ([] ∷ slice_split (is tab) bs) (onto_first b (slice_split (is tab) bs)))
free_split_by b bs true e ih = (tt, ih)
free_split_by b bs false e ih = let ne : b ≢ tab = grind (arith, nat_tests, e) in free_onto b (slice_split (is tab) bs) ne ih

free-split : (bs : List ℕ) → AllByRecursion HasNoTab (slice_split (is tab) bs)
free-split [] = (tt, tt)
free-split (b ∷ bs) = free_split_by b bs (b == tab) refl (free-split bs)

pub record ReadsFields (bs : List ℕ) (joined_up : Option (List ℕ)) : Type 0 where
  pub fields : Option (List (List ℕ))
  pub valid : AreFields fields
  pub text : bs ≡ fields_text fields
  pub each : each_field joined_up ≡ fields_in fields

and_parts : (a b : Bool) → (a && b) ≡ true → (a ≡ true) × (b ≡ true)
and_parts true b e = (refl, e)
and_parts false b e = absurd cc

reads_none : (a b : ℕ) (f : Option (List ℕ)) (t : Bool) → (a == semicolon && b == double_quote) ≡ t → cond t (Some None) None ≡ Some f → ReadsFields (a ∷ b ∷ []) f
reads_none a b f true e h =
    let both = and_parts (a == semicolon) (b == double_quote) e in
    let first : a ≡ semicolon = grind (arith, nat_tests, both.0) in
    let second : b ≡ double_quote = grind (arith, nat_tests, both.1) in
    let same : None ≡ f = cc in
    record { fields = Some []; valid = tt; text = ap (λ x. x ∷ b ∷ []) first ∙ ap (λ x. semicolon ∷ x ∷ []) second; each = ap each_field (sym same) }
reads_none a b f false e h = absurd cc

reads_some : (a b c : ℕ) (bs : List ℕ) (f : Option (List ℕ)) (t : Bool) → (a == semicolon && b == double_quote && c == tab) ≡ t → cond t (Some (Some bs)) None ≡ Some f → ReadsFields (a ∷ b ∷ c ∷ bs) f
reads_some a b c bs f true e h =
    let both = and_parts (a == semicolon && b == double_quote) (c == tab) e in
    let front = and_parts (a == semicolon) (b == double_quote) both.0 in
    let first : a ≡ semicolon = grind (arith, nat_tests, front.0) in
    let second : b ≡ double_quote = grind (arith, nat_tests, front.1) in
    let third : c ≡ tab = grind (arith, nat_tests, both.1) in
    let same : Some bs ≡ f = cc in
    record {
      fields = Some (slice_split (is tab) bs);
      valid = free-split bs;
      text = ap (λ x. x ∷ b ∷ c ∷ bs) first ∙ ap (λ x. semicolon ∷ x ∷ c ∷ bs) second ∙ ap (λ x. semicolon ∷ double_quote ∷ x ∷ bs) third ∙ ap (λ xs. semicolon ∷ double_quote ∷ xs) (sym (flat-split bs));
      each = ap each_field (sym same);
    }
reads_some a b c bs f false e h = absurd cc

pub fields_after-reads : (bs : List ℕ) (f : Option (List ℕ)) → fields_after bs ≡ Some f → ReadsFields bs f
unfolding fields_after
fields_after-reads [] f h = let same : None ≡ f = cc in record { fields = None; valid = tt; text = refl; each = ap each_field (sym same) }
fields_after-reads (a ∷ []) f h = absurd cc
fields_after-reads (a ∷ b ∷ []) f h = reads_none a b f (a == semicolon && b == double_quote) refl h
fields_after-reads (a ∷ b ∷ c ∷ bs) f h = reads_some a b c bs f (a == semicolon && b == double_quote && c == tab) refl h

-- ---- the whole line

-- what was cut is a line of the grammar, and these are its parts
pub record CutTree (line : List ℕ) (f : Front) (t : Tail) : Type 0 where
  pub tree : TagLine
  pub spells : Spells tree line
  pub name : tree.name ≡ f.name
  pub file : tree.file ≡ f.file
  pub address : address_text tree.address ≡ t.address
  pub fields : each_field t.fields ≡ fields_in tree.fields

tree_of : (line : List ℕ) (f : Front) (n : ℕ) (fields : Option (List ℕ)) → CutsFront line f → (a : ReadsAddress f.rest n) → ReadsFields a.rest fields → take n f.rest ≡ address_text a.address → CutTree line f (record { address = take n f.rest; fields = fields })
tree_of line f n fields front a r same =
    record {
      tree = record { name = f.name; file = f.file; address = a.address; fields = r.fields };
      spells = (
        record { name = front.name; file = front.file; address = a.valid; fields = r.valid },
        front.text ∙ ap (λ xs. f.name ++ tab ∷ (f.file ++ tab ∷ xs)) (a.text ∙ ap (λ xs. address_text a.address ++ xs) r.text),
      );
      name = refl;
      file = refl;
      address = sym same;
      fields = r.each;
    }

tail_fields : (line : List ℕ) (f : Front) (n : ℕ) (t : Tail) (o : Option (Option (List ℕ))) → CutsFront line f → ReadsAddress f.rest n → fields_after (drop n f.rest) ≡ o → option_map (λ fields. record { address = take n f.rest; fields = fields }) o ≡ Some t → CutTree line f t
tail_fields line f n t None front a e h = absurd cc
tail_fields line f n t (Some fields) front a e h =
    let same : record { address = take n f.rest; fields = fields } ≡ t = cc in
    let back : drop n f.rest ≡ a.rest = ap (drop n) a.text ∙ drop_at (address_text a.address) a.rest n a.len in
    let there : take n f.rest ≡ address_text a.address = ap (take n) a.text ∙ take_at (address_text a.address) a.rest n a.len in
    let after : fields_after a.rest ≡ Some fields = ap fields_after (sym back) ∙ e in
    subst (CutTree line f) same (tree_of line f n fields front a (fields_after-reads a.rest fields after) there)

tail_address : (line : List ℕ) (f : Front) (t : Tail) (o : Option ℕ) → CutsFront line f → address_len f.rest ≡ o → option_and_then (tail_at f.rest) o ≡ Some t → CutTree line f t
tail_address line f t None front e h = absurd cc
tail_address line f t (Some n) front e h = tail_fields line f n t (fields_after (drop n f.rest)) front (address_len-reads f.rest n e) refl h

pub tail_of-tree : (line : List ℕ) (f : Front) (t : Tail) → front_of line ≡ Some f → tail_of f.rest ≡ Some t → CutTree line f t
unfolding tail_of
tail_of-tree line f t e h = tail_address line f t (address_len f.rest) (front_of-cuts line f e) refl h

-- a line of the grammar is cut into its parts
pub front_of-line : (t : TagLine) → IsTagLine t → front_of (line_of t) ≡ Some (record { name = t.name; file = t.file; rest = address_text t.address ++ fields_text t.fields })
front_of-line t h = front_of-front t.name t.file (address_text t.address ++ fields_text t.fields) h.name h.file

pub HasFront-front_of : (line : List ℕ) (f : Front) → front_of line ≡ Some f → HasFront line
HasFront-front_of line f e = let cut = front_of-cuts line f e in (f.name, f.file, f.rest, cut.name, cut.file, cut.text)

pub front_of-HasFront : (line : List ℕ) → front_of line ≡ None → HasFront line → ⊥
front_of-HasFront line e h =
    let some : front_of line ≡ Some (record { name = h.0; file = h.1; rest = h.2 }) = ap front_of h.5 ∙ front_of-front h.0 h.1 h.2 h.3 h.4 in
    cc
