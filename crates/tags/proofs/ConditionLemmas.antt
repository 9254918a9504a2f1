-- The steps of a reading, in the order of the codes, find the least code whose condition holds.
use Rattle.std.proofs.Common.{◌≡◌, ◌≢◌, ◌∙◌, ℕ, Bool, true, false, not, ◌&&◌, ◌⊎◌, if◌then◌else◌, nat_lt, map, List, [], ◌∷◌, ◌++◌, drop, length, Option, Some, None, Result, Ok, Err, refl, ap, sym, subst, inl, inr, codes, bytes_eq, slice_get}
use Rattle.std.proofs.lemmas.Bool.{false_from_ne_true, lt-ltb, ltb-true}
use Rattle.std.proofs.lemmas.Option.{some_pair_parts}
use Rattle.std.proofs.lemmas.Slice.Eq.{bytes_eq-Decides, starts_is}
use Rattle.std.proofs.lemmas.Bool.Decides.{Decides-eqb}
use Rattle.std.proofs.lemmas.Str.{IsUtf8-from_is_utf8}
use Rattle.std.specs.List.{filter_map, list_any}
use Rattle.std.specs.Str.{is_utf8}
use Rattle.tags.specs.Around.{around}
use Rattle.tags.specs.Bytes.{tab}
use Rattle.tags.specs.Conditions.{IsPseudoTag, IsOrdinary, HasValue, LacksParts, HasBadName, HasBadEscape, HasOtherFormat, TextCondition, text_codes, HoldsNone, IsFirst, Says, SaysTag, ReadsBy, is_control}
use Rattle.tags.specs.Steps.Cutting.{Front, Tail, front_of, tail_of, each_field}
use Rattle.tags.specs.Escapes.{decoded}
use Rattle.tags.specs.Steps.Fields.{fields_by, fields_of}
use Rattle.tags.specs.Fields.{has_bad_escape, has_bad_fields, kind_in, other_in}
use Rattle.tags.specs.Grammar.{HasFront, Spells, TagLine, address_text, fields_in, fields_text}
use Rattle.tags.specs.Steps.Reading.{entry_of, is_pseudo_tag, ordinary_of, pseudo_by, pseudo_of, reading}
use Rattle.tags.specs.Fault.{Reading}
use Rattle.tags.specs.Lines.{AreReadings, Condition, IsHanded, IsReading, Line, line_codes, line_text, longest_line}
use Rattle.tags.specs.Steps.Readings.{handed, reading_of}
use Rattle.tags.specs.Values.{ContentValue, EntryValue, FieldValue, FieldsValue, sorted, other, ordinary}
use Rattle.tags.specs.declared.code.Code.{Code}
use Rattle.tags.specs.declared.code.Code.TheVariants.{T01, T02, T03, T04, T05, T06, T07, T08}
use Rattle.tags.proofs.CutLemmas.{front_of-cuts, HasFront-front_of, IsFree-around, around-first, each_field-joined, front_of-HasFront, front_of-front, front_of-line, joined_fields, tail_of-tail, tail_of-tree}
use Rattle.tags.proofs.PartLemmas.{no_line}
use Rattle.tags.proofs.TextLemmas.{around-surrounds, is_utf8-text}

-- ---- codes in order

pub skip : (P : Code → Type 0) (d : Code) (ds : List Code) (text : List ℕ) (r : Result ContentValue Code) → (P d → ⊥) → ReadsBy P ds text r → ReadsBy P (d ∷ ds) text r
skip P d ds text (Err c) n h = inr (n, h)
skip P d ds text (Ok x) n h = ((n, h.0), h.1)

-- the codes from T04 on
abbrev later_codes : List Code
later_codes = T04 ∷ T05 ∷ T06 ∷ T07 ∷ T08 ∷ []

abbrev Later : List ℕ → Result ContentValue Code → Type 0
Later text r = ReadsBy (TextCondition text) later_codes text r

-- ---- ordinary lines

pub record SameCut (u : TagLine) (f : Front) (t : Tail) : Type 0 where
  pub name : u.name ≡ f.name
  pub file : u.file ≡ f.file
  pub address : address_text u.address ≡ t.address
  pub fields : fields_in u.fields ≡ each_field t.fields

-- each tree of the line has its cut
pub same_cut : (text : List ℕ) (f : Front) (t : Tail) (u : TagLine) → front_of text ≡ Some f → tail_of f.rest ≡ Some t → Spells u text → SameCut u f t
same_cut text f t u e h s =
    let front : front_of text ≡ Some (record { name = u.name; file = u.file; rest = address_text u.address ++ fields_text u.fields }) = ap front_of s.1 ∙ front_of-line u s.0 in
    let same : f ≡ record { name = u.name; file = u.file; rest = address_text u.address ++ fields_text u.fields } = cc in
    let tail : tail_of f.rest ≡ Some (record { address = address_text u.address; fields = joined_fields u.fields }) = ap (λ x. tail_of x.rest) same ∙ tail_of-tail u.address u.fields s.0.address in
    let rest : t ≡ record { address = address_text u.address; fields = joined_fields u.fields } = cc in
    record {
      name = sym (ap (λ (x : Front). x.name) same);
      file = sym (ap (λ (x : Front). x.file) same);
      address = sym (ap (λ (x : Tail). x.address) rest);
      fields = sym (ap (λ (x : Tail). each_field x.fields) rest ∙ each_field-joined u.fields s.0.fields);
    }

not_lacking : (text : List ℕ) → IsOrdinary text → HasFront text → LacksParts text → ⊥
not_lacking text ord front (inl h) = ord h.0
not_lacking text ord front (inr h) = h.1 front

one_name : (text : List ℕ) (f : Front) (name file n p : List ℕ) → front_of text ≡ Some f → decoded f.name ≡ Some n → decoded f.file ≡ Some p → HasBadName text → ⊥
one_name text f name file n p e a b h =
    let front : front_of text ≡ Some (record { name = h.0; file = h.1; rest = h.2.0 }) = ap front_of h.2.3 ∙ front_of-front h.0 h.1 h.2.0 h.2.1 h.2.2 in
    let same : f ≡ record { name = h.0; file = h.1; rest = h.2.0 } = cc in
    let good : decoded h.0 ≡ Some n = ap (λ (x : Front). decoded x.name) (sym same) ∙ a in
    let also : decoded h.1 ≡ Some p = ap (λ (x : Front). decoded x.file) (sym same) ∙ b in
    elim h.3 [ inl bad ↦ absurd cc | inr bad ↦ absurd cc ]

not_escaped : (text : List ℕ) (f : Front) (n p : List ℕ) → front_of text ≡ Some f → decoded f.name ≡ Some n → decoded f.file ≡ Some p
    → ((t : TagLine) → Spells t text → list_any has_bad_escape (fields_in t.fields) ≡ true → ⊥) → HasBadEscape text → ⊥
not_escaped text f n p e a b none h =
    elim h.1 [ inl bad ↦ one_name text f f.name f.file n p e a b bad | inr bad ↦ none bad.0 bad.1 bad.2 ]

no_front_read : (text : List ℕ) → front_of text ≡ None → ordinary_of text ≡ Err T04
unfolding ordinary_of
no_front_read text a = rw a refl

bad_name_read : (text : List ℕ) (f : Front) → front_of text ≡ Some f → decoded f.name ≡ None → ordinary_of text ≡ Err T05
unfolding ordinary_of
bad_name_read text f a b = rw (a, b) refl

bad_file_read : (text : List ℕ) (f : Front) (n : List ℕ) → front_of text ≡ Some f → decoded f.name ≡ Some n → decoded f.file ≡ None → ordinary_of text ≡ Err T05
unfolding ordinary_of
bad_file_read text f n a b c = rw (a, b, c) refl

no_tail_read : (text : List ℕ) (f : Front) (n p : List ℕ) → front_of text ≡ Some f → decoded f.name ≡ Some n → decoded f.file ≡ Some p → tail_of f.rest ≡ None → ordinary_of text ≡ Err T06
unfolding ordinary_of
no_tail_read text f n p a b c d = rw (a, b, c, d) refl

bad_fields_read : (text : List ℕ) (f : Front) (n p : List ℕ) (t : Tail) (c : Code) → front_of text ≡ Some f → decoded f.name ≡ Some n → decoded f.file ≡ Some p → tail_of f.rest ≡ Some t → fields_of (each_field t.fields) ≡ Err c → ordinary_of text ≡ Err c
unfolding ordinary_of
bad_fields_read text f n p t c a b d e g = rw (a, b, d, e, g) refl

tag_read : (text : List ℕ) (f : Front) (n p : List ℕ) (t : Tail) (fields : FieldsValue) → front_of text ≡ Some f → decoded f.name ≡ Some n → decoded f.file ≡ Some p → tail_of f.rest ≡ Some t → fields_of (each_field t.fields) ≡ Ok fields → ordinary_of text ≡ Ok (ordinary f.name (entry_of n p t.address fields))
unfolding ordinary_of
tag_read text f n p t fields a b c d e = rw (a, b, c, d, e) refl

escape_fields : (fields : List (List ℕ)) → list_any has_bad_escape fields ≡ true → fields_of fields ≡ Err T05
unfolding fields_of
escape_fields fields a = rw a refl

bad_fields : (fields : List (List ℕ)) → list_any has_bad_escape fields ≡ false → has_bad_fields fields ≡ true → fields_of fields ≡ Err T07
unfolding fields_of
bad_fields fields a b = rw (a, b) refl

good_fields : (fields : List (List ℕ)) → list_any has_bad_escape fields ≡ false → has_bad_fields fields ≡ false → fields_of fields ≡ Ok (fields_by (filter_map kind_in fields) (filter_map other_in fields))
unfolding fields_of
good_fields fields a b = rw (a, b) refl

answered : (text : List ℕ) (r : Result ContentValue Code) → ordinary_of text ≡ r → Later text r → Later text (ordinary_of text)
answered text r e h = subst (Later text) (sym e) h

module _ (text : List ℕ) (ord : IsOrdinary text) where
  P : Code → Type 0
  P = TextCondition text

  with_fields : (f : Front) (n p : List ℕ) (t : Tail) (bad_escape bad : Bool) → front_of text ≡ Some f → decoded f.name ≡ Some n → decoded f.file ≡ Some p → tail_of f.rest ≡ Some t
      → list_any has_bad_escape (each_field t.fields) ≡ bad_escape → has_bad_fields (each_field t.fields) ≡ bad → Later text (ordinary_of text)
  with_fields f n p t true bad a b c d e g =
      let tree = tail_of-tree text f t a d in
      let escape : list_any has_bad_escape (fields_in tree.tree.fields) ≡ true = ap (list_any has_bad_escape) (sym tree.fields) ∙ e in
      answered text (Err T05) (bad_fields_read text f n p t T05 a b c d (escape_fields (each_field t.fields) e))
      (inr (not_lacking text ord (HasFront-front_of text f a), inl (refl, (ord, inr (tree.tree, tree.spells, escape)))))
  with_fields f n p t false true a b c d e g =
      let tree = tail_of-tree text f t a d in
      let good = not_escaped text f n p a b c (λ u s bad. let none : list_any has_bad_escape (fields_in u.fields) ≡ false = ap (list_any has_bad_escape) (same_cut text f t u a d s).fields ∙ e in absurd cc) in
      let bad : has_bad_fields (fields_in tree.tree.fields) ≡ true = ap has_bad_fields (sym tree.fields) ∙ g in
      answered text (Err T07) (bad_fields_read text f n p t T07 a b c d (bad_fields (each_field t.fields) e g))
      (inr (not_lacking text ord (HasFront-front_of text f a), inr (good, inr ((λ h. h.1 tree.tree tree.spells), inl (refl, (ord, (tree.tree, tree.spells, bad)))))))
  with_fields f n p t false false a b c d e g =
      let tree = tail_of-tree text f t a d in
      let good = not_escaped text f n p a b c (λ u s bad. let none : list_any has_bad_escape (fields_in u.fields) ≡ false = ap (list_any has_bad_escape) (same_cut text f t u a d s).fields ∙ e in absurd cc) in
      let fields = fields_by (filter_map kind_in (each_field t.fields)) (filter_map other_in (each_field t.fields)) in
      answered text (Ok (ordinary f.name (entry_of n p t.address fields))) (tag_read text f n p t fields a b c d (good_fields (each_field t.fields) e g)) (
        (
          not_lacking text ord (HasFront-front_of text f a),
          (
            good,
            (
              (λ h. h.1 tree.tree tree.spells),
              (
                (λ h. let none : has_bad_fields (fields_in h.1.0.fields) ≡ false = ap has_bad_fields (same_cut text f t h.1.0 a d h.1.1).fields ∙ g in absurd cc),
                ((λ h. ord h.0), tt),
              ),
            ),
          ),
        ),
        (
          ord,
          (
            tree.tree,
            tree.spells,
            record {
              as_written = sym tree.name;
              name = ap decoded tree.name ∙ b;
              file = ap decoded tree.file ∙ c;
              address = sym tree.address;
              kind = ap (λ fs. slice_get (filter_map kind_in fs) 0) tree.fields;
              fields = ap (filter_map other_in) tree.fields;
            },
          ),
        ),
      )

  with_tail : (f : Front) (n p : List ℕ) (o : Option Tail) → front_of text ≡ Some f → decoded f.name ≡ Some n → decoded f.file ≡ Some p → tail_of f.rest ≡ o → Later text (ordinary_of text)
  with_tail f n p None a b c d =
      let none = no_line text f a d in
      answered text (Err T06) (no_tail_read text f n p a b c d)
      (inr (not_lacking text ord (HasFront-front_of text f a), inr (not_escaped text f n p a b c (λ t s bad. none t s), inl (refl, (ord, none)))))
  with_tail f n p (Some t) a b c d = with_fields f n p t (list_any has_bad_escape (each_field t.fields)) (has_bad_fields (each_field t.fields)) a b c d refl refl

  bad_names : (f : Front) → front_of text ≡ Some f → (decoded f.name ≡ None) ⊎ (decoded f.file ≡ None) → ordinary_of text ≡ Err T05 → Later text (ordinary_of text)
  bad_names f a bad e =
      let front = HasFront-front_of text f a in
      let there = front_of-cuts text f a in
      answered text (Err T05) e
      (inr (not_lacking text ord front, inl (refl, (ord, inl (f.name, f.file, (f.rest, there.name, there.file, there.text), bad)))))

  with_file : (f : Front) (n : List ℕ) (o : Option (List ℕ)) → front_of text ≡ Some f → decoded f.name ≡ Some n → decoded f.file ≡ o → Later text (ordinary_of text)
  with_file f n None a b c = bad_names f a (inr c) (bad_file_read text f n a b c)
  with_file f n (Some p) a b c = with_tail f n p (tail_of f.rest) a b c refl

  with_name : (f : Front) (o : Option (List ℕ)) → front_of text ≡ Some f → decoded f.name ≡ o → Later text (ordinary_of text)
  with_name f None a b = bad_names f a (inl b) (bad_name_read text f a b)
  with_name f (Some n) a b = with_file f n (decoded f.file) a b refl

  with_front : (o : Option Front) → front_of text ≡ o → Later text (ordinary_of text)
  with_front None a = answered text (Err T04) (no_front_read text a) (inl (refl, inr (ord, front_of-HasFront text a)))
  with_front (Some f) a = with_name f (decoded f.name) a refl

-- ---- pseudo-tags

no_first : (text name value : List ℕ) → around tab text ≡ None → HasValue text name value → ⊥
no_first text name value e h = let some : around tab text ≡ Some (name, value ++ tab ∷ h.0) = ap (around tab) h.3 ∙ around-first tab name (value ++ tab ∷ h.0) h.1 in cc

same_first : (text : List ℕ) (p : List ℕ × List ℕ) (name value : List ℕ) → around tab text ≡ Some p → (h : HasValue text name value) → (name ≡ p.0) × (value ++ tab ∷ h.0 ≡ p.1)
same_first text p name value e h =
    let found : ◌≡◌ {A = Option (List ℕ × List ℕ)} (Some (name, value ++ tab ∷ h.0)) (Some (p.0, p.1)) = sym (ap (around tab) h.3 ∙ around-first tab name (value ++ tab ∷ h.0) h.1) ∙ e in
    some_pair_parts name p.0 (value ++ tab ∷ h.0) p.1 found

no_second : (text : List ℕ) (p : List ℕ × List ℕ) (name value : List ℕ) → around tab text ≡ Some p → around tab p.1 ≡ None → HasValue text name value → ⊥
no_second text p name value e g h =
    let some : around tab p.1 ≡ Some (value, h.0) = ap (around tab) (sym (same_first text p name value e h).1) ∙ around-first tab value h.0 h.2 in
    cc

same_value : (text : List ℕ) (p q : List ℕ × List ℕ) (name value : List ℕ) → around tab text ≡ Some p → around tab p.1 ≡ Some q → HasValue text name value → (name ≡ p.0) × (value ≡ q.0)
same_value text p q name value e g h =
    let first = same_first text p name value e h in
    let found : ◌≡◌ {A = Option (List ℕ × List ℕ)} (Some (value, h.0)) (Some (q.0, q.1)) = sym (ap (around tab) (sym first.1) ∙ around-first tab value h.0 h.2) ∙ g in
    (first.0, (some_pair_parts value q.0 h.0 q.1 found).0)

has_value : (text : List ℕ) (p q : List ℕ × List ℕ) → around tab text ≡ Some p → around tab p.1 ≡ Some q → HasValue text p.0 q.0
has_value text p q e g =
    (q.1, IsFree-around tab text p e, IsFree-around tab p.1 q g, around-surrounds tab text p e ∙ ap (λ xs. p.0 ++ tab ∷ xs) (around-surrounds tab p.1 q g))

both : (a b : Bool) → (a && not b) ≡ true → (a ≡ true) × (b ≡ false)
both true false e = (refl, refl)
both true true e = absurd cc
both false b e = absurd cc

no_value_read : (text : List ℕ) → around tab text ≡ None → pseudo_of text ≡ Err T04
unfolding pseudo_of
no_value_read text a = rw a refl

no_second_read : (text : List ℕ) (p : List ℕ × List ℕ) → around tab text ≡ Some p → around tab p.1 ≡ None → pseudo_of text ≡ Err T04
unfolding pseudo_of
no_second_read text p a b = rw (a, b) refl

pseudo_read : (text : List ℕ) (p q : List ℕ × List ℕ) → around tab text ≡ Some p → around tab p.1 ≡ Some q → pseudo_of text ≡ pseudo_by p.0 q.0
unfolding pseudo_of
pseudo_read text p q a b = rw (a, b) refl

other_format : (name value : List ℕ) → (bytes_eq name (codes "!_TAG_FILE_FORMAT") && not (bytes_eq value (codes "2"))) ≡ true → pseudo_by name value ≡ Err T08
other_format name value e = rw e refl

sorted_read : (name value : List ℕ) → (bytes_eq name (codes "!_TAG_FILE_FORMAT") && not (bytes_eq value (codes "2"))) ≡ false → bytes_eq name (codes "!_TAG_FILE_SORTED") ≡ true → pseudo_by name value ≡ Ok (sorted (bytes_eq value (codes "1")))
sorted_read name value e g = rw (e, g) refl

other_read : (name value : List ℕ) → (bytes_eq name (codes "!_TAG_FILE_FORMAT") && not (bytes_eq value (codes "2"))) ≡ false → bytes_eq name (codes "!_TAG_FILE_SORTED") ≡ false → pseudo_by name value ≡ Ok other
other_read name value e g = rw (e, g) refl

not_two : (value : List ℕ) → value ≢ codes "2" → bytes_eq value (codes "2") ≡ false
not_two value ne = false_from_ne_true (bytes_eq value (codes "2")) (λ e. ne ((bytes_eq-Decides value (codes "2")).0 e))

not_format : (text : List ℕ) (p q : List ℕ × List ℕ) → around tab text ≡ Some p → around tab p.1 ≡ Some q → (bytes_eq p.0 (codes "!_TAG_FILE_FORMAT") && not (bytes_eq q.0 (codes "2"))) ≡ false → HasOtherFormat text → ⊥
not_format text p q a b e h =
    let same = same_value text p q h.1.0 h.1.1 a b h.1.2 in
    let name : bytes_eq p.0 (codes "!_TAG_FILE_FORMAT") ≡ true = (bytes_eq-Decides p.0 (codes "!_TAG_FILE_FORMAT")).1 (sym same.0 ∙ h.1.3) in
    let value : bytes_eq q.0 (codes "2") ≡ false = not_two q.0 (λ two. h.1.4 (same.1 ∙ two)) in
    let yes : (bytes_eq p.0 (codes "!_TAG_FILE_FORMAT") && not (bytes_eq q.0 (codes "2"))) ≡ true = rw (name, value) refl in
    cc

answered_pseudo : (text : List ℕ) (r : Result ContentValue Code) → pseudo_of text ≡ r → Later text r → Later text (pseudo_of text)
answered_pseudo text r e h = subst (Later text) (sym e) h

module _ (text : List ℕ) (pseudo : IsPseudoTag text) where
  not_lacking_value : (name value : List ℕ) → HasValue text name value → LacksParts text → ⊥
  not_lacking_value name value h (inl g) = g.1 name value h
  not_lacking_value name value h (inr g) = g.0 pseudo

  pseudo_good : (p q : List ℕ × List ℕ) (x : ContentValue) → around tab text ≡ Some p → around tab p.1 ≡ Some q → (bytes_eq p.0 (codes "!_TAG_FILE_FORMAT") && not (bytes_eq q.0 (codes "2"))) ≡ false → pseudo_by p.0 q.0 ≡ Ok x → Says text x → Later text (pseudo_of text)
  pseudo_good p q x a b e g says =
      answered_pseudo text (Ok x) (pseudo_read text p q a b ∙ g)
      ((not_lacking_value p.0 q.0 (has_value text p q a b), ((λ h. h.0 pseudo), ((λ h. h.0 pseudo), ((λ h. h.0 pseudo), (not_format text p q a b e, tt))))), says)

  with_value : (p q : List ℕ × List ℕ) (bad sorts : Bool) → around tab text ≡ Some p → around tab p.1 ≡ Some q → (bytes_eq p.0 (codes "!_TAG_FILE_FORMAT") && not (bytes_eq q.0 (codes "2"))) ≡ bad → bytes_eq p.0 (codes "!_TAG_FILE_SORTED") ≡ sorts → Later text (pseudo_of text)
  with_value p q true sorts a b e g =
      let bad = both (bytes_eq p.0 (codes "!_TAG_FILE_FORMAT")) (bytes_eq q.0 (codes "2")) e in
      let value : q.0 ≢ codes "2" = λ two. (let yes : bytes_eq q.0 (codes "2") ≡ true = (bytes_eq-Decides q.0 (codes "2")).1 two in absurd cc) in
      answered_pseudo text (Err T08) (pseudo_read text p q a b ∙ other_format p.0 q.0 e)
      (inr (not_lacking_value p.0 q.0 (has_value text p q a b), inr ((λ h. h.0 pseudo), inr ((λ h. h.0 pseudo), inr ((λ h. h.0 pseudo), inl (refl, (pseudo, (p.0, q.0, has_value text p q a b, (bytes_eq-Decides p.0 (codes "!_TAG_FILE_FORMAT")).0 bad.0, value))))))))
  with_value p q false true a b e g =
      pseudo_good p q (sorted (bytes_eq q.0 (codes "1"))) a b e (sorted_read p.0 q.0 e g)
      (pseudo, (p.0, q.0, has_value text p q a b, (bytes_eq-Decides p.0 (codes "!_TAG_FILE_SORTED")).0 g, refl))
  with_value p q false false a b e g =
      pseudo_good p q other a b e (other_read p.0 q.0 e g)
      (pseudo, (p.0, q.0, has_value text p q a b, λ same. (let yes : bytes_eq p.0 (codes "!_TAG_FILE_SORTED") ≡ true = (bytes_eq-Decides p.0 (codes "!_TAG_FILE_SORTED")).1 same in absurd cc)))

  with_second : (p : List ℕ × List ℕ) (o : Option (List ℕ × List ℕ)) → around tab text ≡ Some p → around tab p.1 ≡ o → Later text (pseudo_of text)
  with_second p None a b = answered_pseudo text (Err T04) (no_second_read text p a b) (inl (refl, inl (pseudo, λ name value h. no_second text p name value a b h)))
  with_second p (Some q) a b = with_value p q (bytes_eq p.0 (codes "!_TAG_FILE_FORMAT") && not (bytes_eq q.0 (codes "2"))) (bytes_eq p.0 (codes "!_TAG_FILE_SORTED")) a b refl refl

  with_first : (o : Option (List ℕ × List ℕ)) → around tab text ≡ o → Later text (pseudo_of text)
  with_first None a = answered_pseudo text (Err T04) (no_value_read text a) (inl (refl, inl (pseudo, λ name value h. no_first text name value a h)))
  with_first (Some p) a = with_second p (around tab p.1) a refl

-- ---- any line

pseudo_test : (text : List ℕ) → ((is_pseudo_tag text ≡ true → text ≡ codes "!_TAG_" ++ drop (length (codes "!_TAG_")) text) × ((rest : List ℕ) → text ≡ codes "!_TAG_" ++ rest → is_pseudo_tag text ≡ true))
pseudo_test text = starts_is Decides-eqb text (codes "!_TAG_") (is_pseudo_tag text) refl

by_kind : (text : List ℕ) (t : Bool) → is_pseudo_tag text ≡ t → Later text (if t then pseudo_of text else ordinary_of text)
by_kind text true e = with_first text (drop (length (codes "!_TAG_")) text, (pseudo_test text).0 e) (around tab text) refl
by_kind text false e = with_front text (λ h. let yes : is_pseudo_tag text ≡ true = (pseudo_test text).1 h.0 h.1 in absurd cc) (front_of text) refl

by_control : (text : List ℕ) (t : Bool) → list_any is_control text ≡ t → ReadsBy (TextCondition text) (T03 ∷ later_codes) text (if t then Err T03 else if is_pseudo_tag text then pseudo_of text else ordinary_of text)
by_control text true e = inl (refl, e)
by_control text false e = skip (TextCondition text) T03 later_codes text _ (λ h. absurd cc) (by_kind text (is_pseudo_tag text) refl)

by_text : (text : List ℕ) (t : Bool) → is_utf8 text ≡ t → ReadsBy (TextCondition text) text_codes text (if not t then Err T02 else if list_any is_control text then Err T03 else if is_pseudo_tag text then pseudo_of text else ordinary_of text)
by_text text true e = skip (TextCondition text) T02 (T03 ∷ later_codes) text _ (λ h. h (IsUtf8-from_is_utf8 text e)) (by_control text (list_any is_control text) refl)
by_text text false e = inl (refl, λ h. let yes : is_utf8 text ≡ true = is_utf8-text text h in absurd cc)

-- what is read of a text is its least code, or what it says
pub reads_text : (text : List ℕ) → ReadsBy (TextCondition text) text_codes text (reading text)
unfolding reading
reads_text text = by_text text (is_utf8 text) refl

-- ---- one reading

unique_first : (P : Code → Type 0) (ds : List Code) (c d : Code) → IsFirst P ds c → IsFirst P ds d → c ≡ d
unique_first P [] c d h g = absurd h
unique_first P (x ∷ ds) c d (inl h) (inl g) = h.0 ∙ sym g.0
unique_first P (x ∷ ds) c d (inl h) (inr g) = absurd (g.0 h.1)
unique_first P (x ∷ ds) c d (inr h) (inl g) = absurd (h.0 g.1)
unique_first P (x ∷ ds) c d (inr h) (inr g) = unique_first P ds c d h.1 g.1

none_first : (P : Code → Type 0) (ds : List Code) (c : Code) → HoldsNone P ds → IsFirst P ds c → ⊥
none_first P [] c n h = h
none_first P (x ∷ ds) c n (inl h) = n.0 h.1
none_first P (x ∷ ds) c n (inr h) = none_first P ds c n.1 h.1

one_value : (text n v n' v' : List ℕ) → HasValue text n v → HasValue text n' v' → (n' ≡ n) × (v' ≡ v)
one_value text n v n' v' h g = same_value text (n, v ++ tab ∷ h.0) (v, h.0) n' v' (ap (around tab) h.3 ∙ around-first tab n (v ++ tab ∷ h.0) h.1) (around-first tab v h.0 h.2) g

same_entry : (n n' f f' a a' : List ℕ) (k k' : Option (List ℕ)) (o o' : List FieldValue) → n ≡ n' → f ≡ f' → a ≡ a' → k ≡ k' → o ≡ o'
    → ◌≡◌ {A = EntryValue} (record { name = n; file = f; address = a; kind = k; fields = o }) (record { name = n'; file = f'; address = a'; kind = k'; fields = o' })
same_entry n n' f f' a a' k k' o o' p q r s u = rw (p, q, r, s, u) refl

some_same : (x y : List ℕ) → ◌≡◌ {A = Option (List ℕ)} (Some x) (Some y) → x ≡ y
some_same x y h = cc

one_tag : (text : List ℕ) (t u : TagLine) (w w' : List ℕ) (e e' : EntryValue) → Spells t text → Spells u text → SaysTag t w e → SaysTag u w' e' → ordinary w e ≡ ordinary w' e'
one_tag text t u w w' e e' s s' h g =
    let cut = same_cut text (record { name = t.name; file = t.file; rest = address_text t.address ++ fields_text t.fields }) (record { address = address_text t.address; fields = joined_fields t.fields }) u (ap front_of s.1 ∙ front_of-line t s.0) (tail_of-tail t.address t.fields s.0.address) s' in
    let fields : fields_in u.fields ≡ fields_in t.fields = cut.fields ∙ each_field-joined t.fields s.0.fields in
    let name : e.name ≡ e'.name = some_same e.name e'.name (sym h.name ∙ ap decoded (sym cut.name) ∙ g.name) in
    let file : e.file ≡ e'.file = some_same e.file e'.file (sym h.file ∙ ap decoded (sym cut.file) ∙ g.file) in
    let address : e.address ≡ e'.address = h.address ∙ sym cut.address ∙ sym g.address in
    let kind : e.kind ≡ e'.kind = h.kind ∙ ap (λ fs. slice_get (filter_map kind_in fs) 0) (sym fields) ∙ sym g.kind in
    let others : e.fields ≡ e'.fields = h.fields ∙ ap (filter_map other_in) (sym fields) ∙ sym g.fields in
    let entry : e ≡ e' = same_entry e.name e'.name e.file e'.file e.address e'.address e.kind e'.kind e.fields e'.fields name file address kind others in
    let written : w ≡ w' = h.as_written ∙ sym cut.name ∙ sym g.as_written in
    rw (written, entry) refl

one_saying : (text : List ℕ) (x y : ContentValue) → Says text x → Says text y → x ≡ y
one_saying text (sorted a) (sorted b) h g =
    let same = one_value text h.1.0 h.1.1 g.1.0 g.1.1 h.1.2 g.1.2 in
    ap sorted (h.1.4 ∙ ap (λ v. bytes_eq v (codes "1")) (sym same.1) ∙ sym g.1.4)
one_saying text (sorted a) other h g = absurd (g.1.3 ((one_value text h.1.0 h.1.1 g.1.0 g.1.1 h.1.2 g.1.2).0 ∙ h.1.3))
one_saying text (sorted a) (ordinary w e) h g = absurd (g.0 h.0)
one_saying text other (sorted b) h g = absurd (h.1.3 (sym (one_value text h.1.0 h.1.1 g.1.0 g.1.1 h.1.2 g.1.2).0 ∙ g.1.3))
one_saying text other other h g = refl
one_saying text other (ordinary w e) h g = absurd (g.0 h.0)
one_saying text (ordinary w e) (sorted b) h g = absurd (h.0 g.0)
one_saying text (ordinary w e) other h g = absurd (h.0 g.0)
one_saying text (ordinary w e) (ordinary w' e') h g = one_tag text h.1.0 g.1.0 w w' e e' h.1.1 g.1.1 h.1.2 g.1.2

one_reading : (P : Code → Type 0) (ds : List Code) (text : List ℕ) (r s : Result ContentValue Code) → ReadsBy P ds text r → ReadsBy P ds text s → r ≡ s
one_reading P ds text (Ok x) (Ok y) h g = ap Ok (one_saying text x y h.1 g.1)
one_reading P ds text (Ok x) (Err d) h g = absurd (none_first P ds d h.0 g)
one_reading P ds text (Err c) (Ok y) h g = absurd (none_first P ds c g.0 h)
one_reading P ds text (Err c) (Err d) h g = ap Err (unique_first P ds c d h g)

-- ---- lines

lift : (line : Line) (r : Result ContentValue Code) → ReadsBy (TextCondition (line_text line)) text_codes (line_text line) r → ReadsBy (Condition line) text_codes (line_text line) r
lift line (Err c) h = h
lift line (Ok x) h = h

by_length : (line : Line) (t : Bool) → nat_lt longest_line (length line.bytes) ≡ t → IsReading line (if t then Err T01 else reading (line_text line))
by_length line true e = inl (refl, ltb-true longest_line (length line.bytes) e)
by_length line false e =
    skip (Condition line) T01 text_codes (line_text line) _ (λ h. let yes : nat_lt longest_line (length line.bytes) ≡ true = lt-ltb longest_line (length line.bytes) h in absurd cc)
    (lift line _ (reads_text (line_text line)))

-- what the steps read of a line is its reading
pub reads_line : (line : Line) → IsReading line (reading_of line)
reads_line line = by_length line (nat_lt longest_line (length line.bytes)) refl

pub reads_only : (line : Line) (r : Reading) → IsReading line r → r ≡ reading_of line
reads_only line r h = one_reading (Condition line) line_codes (line_text line) r (reading_of line) h (reads_line line)

pub reads_all : (lines : List Line) → AreReadings lines (map reading_of lines)
reads_all [] = tt
reads_all (line ∷ lines) = (reads_line line, reads_all lines)

pub reads_handed : (line : Result (List ℕ) Code) (ended : Bool) → IsHanded line ended (handed line ended)
reads_handed (Ok bytes) ended = reads_line (record { bytes = bytes; ended = ended })
reads_handed (Err code) ended = refl

pub handed_only : (line : Result (List ℕ) Code) (ended : Bool) (r : Reading) → IsHanded line ended r → r ≡ handed line ended
handed_only (Ok bytes) ended r h = reads_only (record { bytes = bytes; ended = ended }) r h
handed_only (Err code) ended r h = h
