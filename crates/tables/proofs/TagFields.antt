-- The fields of a tag are read back as they were written.
use Rattle.std.proofs.Common.{◌≡◌, ◌≤◌, ◌++◌, ℕ, List, [], ◌∷◌, map, Option, Some, None, option_map, option_and_then, refl, sym, ap, ◌∙◌, append-nil, arith}
use Rattle.json.specs.Token.{Token}
use Rattle.json.specs.Lex.{tokens}
use Rattle.json.specs.Print.{ArePrintable}
use Rattle.json.specs.Json as json
use Rattle.json.specs.Tree as tree
use Rattle.json.proofs.Printed.Tokens.{tokens-print}
use Rattle.json.proofs.Printed.Trees.{value-json_tokens}
use Rattle.serde_json.specs.Data.{Data, array, Items, item}
use Rattle.serde_json.specs.View.{items_of, view}
use Rattle.serde_json.specs.declared.value.Value.{Value}
use Rattle.serde_json.specs.Read.{read, max_depth, of_json, of_items}
use Rattle.serde_json.specs.Written.{outline, items_outline}
use Rattle.serde_json.proofs.Texts.{print-outline}
use Rattle.tags.specs.Values.{FieldValue, TagValue}
use Rattle.tags.specs.Views.{field_value}
use Rattle.tags.specs.declared.tag.Field.{Field}
use Rattle.machine.specs.Reply.{field_data}
use Rattle.tables.specs.Columns.{fields_text, optional_text, tag_columns}

abbrev items : List FieldValue → Items
items fields = items_of (map field_data fields)

read_items : (fields : List FieldValue) → of_items (items_outline (items fields)) ≡ Some (items fields)
read_items [] = refl
read_items (f ∷ fs) = ap (λ (o : Option Items). option_map (item (field_data f)) o) (read_items fs)

shallow : (fields : List FieldValue) → tree.items_depth (items_outline (items fields)) ≤ 1
shallow [] = omega arith
shallow (f ∷ fs) = let h = shallow fs in omega (arith, h)

printable : (fields : List FieldValue) → ArePrintable (tree.items_tokens (items_outline (items fields)))
unfolding ArePrintable
printable [] = (tt, tt)
printable (f ∷ fs) = (tt, (tt, (tt, (tt, printable fs))))

all_printable : (fields : List FieldValue) → ArePrintable (tree.json_tokens (outline (array (items fields))))
unfolding ArePrintable
all_printable fields = (tt, printable fields)

-- the value that a reader makes of what it took
whole : Option (json.Json × List Token) → Option Data
whole o = option_and_then of_json (option_and_then (λ p. json.if_last p.0 p.1) o)

pub fields_read : (fields : List FieldValue) → read (fields_text fields) ≡ Some (array (items fields))
unfolding whole
fields_read fields =
    let j = outline (array (items fields)) in
    let ts = tree.json_tokens j in
    let lexed : tokens (fields_text fields) ≡ ts = ap tokens (sym (print-outline (array (items fields)))) ∙ tokens-print ts (all_printable fields) in
    ap whole (ap (json.value max_depth) (lexed ∙ sym (append-nil ts)) ∙ value-json_tokens j max_depth [] (let h = shallow fields in omega (arith, h))) ∙ ap (option_map array) (read_items fields)

-- items that are the same one after the other
same_data : (a b : List Data) → items_of a ≡ items_of b → a ≡ b
same_data [] [] e = refl
same_data [] (y ∷ ys) e = absurd cc
same_data (x ∷ xs) [] e = absurd cc
same_data (x ∷ xs) (y ∷ ys) e =
    let first : x ≡ y = cc in
    let rest = same_data xs ys (let it : items_of xs ≡ items_of ys = cc in it) in
    cc

some_array : (a b : Items) → Some (array a) ≡ Some (array b) → a ≡ b
some_array a b e = cc

-- what a text of fields is read as
pub items_read : (fields : List FieldValue) (text : List ℕ) (found : List Data) → text ≡ fields_text fields → read text ≡ Some (array (items_of found)) → found ≡ map field_data fields
items_read fields text found is e =
    same_data found (map field_data fields) (some_array _ _ (sym e ∙ (ap read is ∙ fields_read fields)))

-- ---- one tag has one row

one_field : (f g : FieldValue) → field_data f ≡ field_data g → f ≡ g
one_field f g e =
    let name : f.name ≡ g.name = cc in
    let value : f.value ≡ g.value = cc in
    λ i. record { name = name i; value = value i }

pub one_fields : (a b : List FieldValue) → map field_data a ≡ map field_data b → a ≡ b
one_fields [] [] e = refl
one_fields [] (g ∷ gs) e = absurd cc
one_fields (f ∷ fs) [] e = absurd cc
one_fields (f ∷ fs) (g ∷ gs) e =
    let first = one_field f g (let it : field_data f ≡ field_data g = cc in it) in
    let rest = one_fields fs gs (let it : map field_data fs ≡ map field_data gs = cc in it) in
    cc

same_fields : (a b : List FieldValue) → fields_text a ≡ fields_text b → a ≡ b
same_fields a b e = one_fields a b (items_read b (fields_text a) (map field_data a) e (fields_read a))

same_kind : (a b : Option (List ℕ)) → optional_text a ≡ optional_text b → a ≡ b
same_kind None None e = refl
same_kind None (Some t) e = absurd cc
same_kind (Some t) None e = absurd cc
same_kind (Some s) (Some t) e = let it : s ≡ t = cc in ap Some it

pub one_tag : (t u : TagValue) → tag_columns t ≡ tag_columns u → t ≡ u
one_tag t u e =
    let line : t.line ≡ u.line = cc in
    let name : t.name ≡ u.name = cc in
    let file : t.file ≡ u.file = cc in
    let address : t.address ≡ u.address = cc in
    let kind = same_kind t.kind u.kind (let it : optional_text t.kind ≡ optional_text u.kind = cc in it) in
    let fields = same_fields t.fields u.fields (let it : fields_text t.fields ≡ fields_text u.fields = cc in it) in
    λ i. record { line = line i; name = name i; file = file i; address = address i; kind = kind i; fields = fields i }

-- ---- one item after the other

-- each is what its item is read as
abbrev pub AreFields : List Value → List Field → Type 0
AreFields [] [] = Unit {0}
AreFields [] (f ∷ fs) = ⊥
AreFields (v ∷ vs) [] = ⊥
AreFields (v ∷ vs) (f ∷ fs) = ((field : FieldValue) → view v ≡ field_data field → field_value f ≡ field) × AreFields vs fs

pub are_fields_push : (vs : List Value) (fs : List Field) (v : Value) (f : Field) → AreFields vs fs → ((field : FieldValue) → view v ≡ field_data field → field_value f ≡ field) → AreFields (vs ++ v ∷ []) (fs ++ f ∷ [])
are_fields_push [] [] v f h one = (one, tt)
are_fields_push [] (g ∷ gs) v f h one = absurd h
are_fields_push (w ∷ vs) [] v f h one = absurd h
are_fields_push (w ∷ vs) (g ∷ gs) v f h one = (h.0, are_fields_push vs gs v f h.1 one)

pub fields_are : (vs : List Value) (fs : List Field) (fields : List FieldValue) → AreFields vs fs → map view vs ≡ map field_data fields → map field_value fs ≡ fields
fields_are [] [] [] h e = refl
fields_are [] [] (d ∷ ds) h e = absurd cc
fields_are [] (f ∷ fs) fields h e = absurd h
fields_are (v ∷ vs) [] fields h e = absurd h
fields_are (v ∷ vs) (f ∷ fs) [] h e = absurd cc
fields_are (v ∷ vs) (f ∷ fs) (d ∷ ds) h e =
    let first = h.0 d (let it : view v ≡ field_data d = cc in it) in
    let rest = fields_are vs fs ds h.1 (let it : map view vs ≡ map field_data ds = cc in it) in
    cc
