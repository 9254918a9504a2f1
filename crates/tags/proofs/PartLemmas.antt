-- The parts of a line, against the grammar.
use Rattle.std.proofs.Common.{◌≡◌, ◌∙◌, ℕ, ◌+◌, ◌-◌, List, [], ◌∷◌, ◌++◌, length, take, drop, Option, Some, None, Result, Ok, Err, IfOk, refl, ap, sym, subst, arith, append_assoc, length-append}
use Rattle.std.proofs.lemmas.List.{take_at, drop_at}
use Rattle.std.specs.List.{AllByRecursion, flat_map}
use Rattle.tags.specs.Bytes.{tab, semicolon, double_quote}
use Rattle.tags.specs.Steps.Cutting.{Front, Tail, front_of, tail_of, each_field}
use Rattle.tags.specs.Steps.Faults.{Gives, some_or, ◌>>=◌}
use Rattle.tags.specs.Faults.{result_map}
use Rattle.tags.specs.Grammar.{fields_in, address_text, TagLine, field_text, fields_text, line_of, IsTagLine, Spells}
use Rattle.tags.specs.Parts.{PartValue, part_at, fields_at, parts_with, parts_in, IsSlice, Splits}
use Rattle.tags.specs.Steps.Parts.{parts_of, split_of}
use Rattle.tags.specs.declared.code.Code.{Code}
use Rattle.tags.specs.declared.code.Code.TheVariants.{T04, T06}
use Rattle.tags.specs.declared.code.SplitFault.{SplitFault}
use Rattle.tags.specs.declared.code.SplitFault.TheVariants as faults
use Rattle.tags.proofs.CutLemmas.{CutTree, tail_of-tree, front_of-line, tail_of-tail, each_field-joined, joined_fields, HasFront-front_of, front_of-HasFront}

-- a reading as an answer
abbrev pub result_by : {A : Type 0} → Result A Code → Result A SplitFault
result_by (Ok x) = Ok x
result_by (Err code) = Err (faults.Line code)

-- ---- each part is a slice

slice_at : (line before text after : List ℕ) (from : ℕ) → line ≡ before ++ (text ++ after) → length before ≡ from → IsSlice line (part_at from text)
slice_at line before text after from whole len =
    let count : from + length text - from ≡ length text = omega arith in
    sym (ap (take (from + length text - from)) (ap (drop from) whole ∙ drop_at before (text ++ after) from len) ∙ ap (λ n. take n (text ++ after)) count ∙ take_at text after (length text) refl)

fields_slices : (line before field : List ℕ) (fields : List (List ℕ)) (from : ℕ) → line ≡ before ++ (field ++ flat_map field_text fields) → length before ≡ from → AllByRecursion (IsSlice line) (fields_at from (field ∷ fields))
fields_slices line before field [] from whole len = (slice_at line before field [] from whole len, tt)
fields_slices line before field (next ∷ fields) from whole len =
    let later : line ≡ (before ++ (field ++ tab ∷ [])) ++ (next ++ flat_map field_text fields) =
    whole ∙ ap (λ xs. before ++ xs) (sym (append_assoc field (tab ∷ []) (next ++ flat_map field_text fields))) ∙ sym (append_assoc before (field ++ tab ∷ []) (next ++ flat_map field_text fields)) in
    let place : length (before ++ (field ++ tab ∷ [])) ≡ from + length field + 1 = omega (arith, length-append before (field ++ tab ∷ []), length-append field (tab ∷ []), len) in
    (slice_at line before field (tab ∷ (next ++ flat_map field_text fields)) from whole len, fields_slices line (before ++ (field ++ tab ∷ [])) next fields (from + length field + 1) later place)

all_fields : (line name file address : List ℕ) (fields : Option (List (List ℕ))) → line ≡ name ++ tab ∷ (file ++ tab ∷ (address ++ fields_text fields)) → AllByRecursion (IsSlice line) (fields_at (length name + length file + length address + 5) (fields_in fields))
all_fields line name file address None whole = tt
all_fields line name file address (Some []) whole = tt
all_fields line name file address (Some (f ∷ fs)) whole =
    let later : line ≡ (name ++ tab ∷ (file ++ tab ∷ (address ++ semicolon ∷ double_quote ∷ tab ∷ []))) ++ (f ++ flat_map field_text fs) =
    whole
    ∙ ap (λ xs. name ++ tab ∷ (file ++ tab ∷ xs)) (sym (append_assoc address (semicolon ∷ double_quote ∷ tab ∷ []) (f ++ flat_map field_text fs)))
    ∙ ap (λ xs. name ++ tab ∷ xs) (sym (append_assoc file (tab ∷ (address ++ semicolon ∷ double_quote ∷ tab ∷ [])) (f ++ flat_map field_text fs)))
    ∙ sym (append_assoc name (tab ∷ (file ++ tab ∷ (address ++ semicolon ∷ double_quote ∷ tab ∷ []))) (f ++ flat_map field_text fs)) in
    let place : length (name ++ tab ∷ (file ++ tab ∷ (address ++ semicolon ∷ double_quote ∷ tab ∷ []))) ≡ length name + length file + length address + 5 =
    omega (arith, length-append name (tab ∷ (file ++ tab ∷ (address ++ semicolon ∷ double_quote ∷ tab ∷ []))), length-append file (tab ∷ (address ++ semicolon ∷ double_quote ∷ tab ∷ [])), length-append address (semicolon ∷ double_quote ∷ tab ∷ [])) in
    fields_slices line (name ++ tab ∷ (file ++ tab ∷ (address ++ semicolon ∷ double_quote ∷ tab ∷ []))) f fs (length name + length file + length address + 5) later place

pub parts_with-slices : (line name file address : List ℕ) (fields : Option (List (List ℕ))) → line ≡ name ++ tab ∷ (file ++ tab ∷ (address ++ fields_text fields)) → AllByRecursion (IsSlice line) (parts_with name file address (fields_in fields))
parts_with-slices line name file address fields whole =
    let to_file : line ≡ (name ++ tab ∷ []) ++ (file ++ tab ∷ (address ++ fields_text fields)) = whole ∙ sym (append_assoc name (tab ∷ []) (file ++ tab ∷ (address ++ fields_text fields))) in
    let file_at : length (name ++ tab ∷ []) ≡ length name + 1 = omega (arith, length-append name (tab ∷ [])) in
    let to_address : line ≡ (name ++ tab ∷ (file ++ tab ∷ [])) ++ (address ++ fields_text fields) =
    whole ∙ ap (λ xs. name ++ tab ∷ xs) (sym (append_assoc file (tab ∷ []) (address ++ fields_text fields))) ∙ sym (append_assoc name (tab ∷ (file ++ tab ∷ [])) (address ++ fields_text fields)) in
    let address_at : length (name ++ tab ∷ (file ++ tab ∷ [])) ≡ length name + length file + 2 = omega (arith, length-append name (tab ∷ (file ++ tab ∷ [])), length-append file (tab ∷ [])) in
    let first = slice_at line [] name (tab ∷ (file ++ tab ∷ (address ++ fields_text fields))) 0 whole refl in
    let second = slice_at line (name ++ tab ∷ []) file (tab ∷ (address ++ fields_text fields)) (length name + 1) to_file file_at in
    let third = slice_at line (name ++ tab ∷ (file ++ tab ∷ [])) address (fields_text fields) (length name + length file + 2) to_address address_at in
    (first, (second, (third, all_fields line name file address fields whole)))

-- ---- the cut is that of the grammar

same_parts : (name name' file file' address address' : List ℕ) (fields fields' : List (List ℕ)) → name ≡ name' → file ≡ file' → address ≡ address' → fields ≡ fields' → parts_with name file address fields ≡ parts_with name' file' address' fields'
same_parts name name' file file' address address' fields fields' a b c d = rw (a, b, c, d) refl

pub tree_parts : (line : List ℕ) (f : Front) (t : Tail) (c : CutTree line f t) → parts_of f t ≡ parts_in c.tree
tree_parts line f t c = same_parts f.name c.tree.name f.file c.tree.file t.address (address_text c.tree.address) (each_field t.fields) (fields_in c.tree.fields) (sym c.name) (sym c.file) (sym c.address) c.fields

-- a line of the grammar has its parts
pub split_of-line : (t : TagLine) → IsTagLine t → split_of (line_of t) ≡ Ok (parts_in t)
unfolding split_of
split_of-line t h =
    rw (front_of-line t h, tail_of-tail t.address t.fields h.address) (ap (λ fields. Ok (parts_with t.name t.file (address_text t.address) fields)) (each_field-joined t.fields h.fields))

pub one_cut : (t u : TagLine) (line : List ℕ) → Spells t line → Spells u line → parts_in t ≡ parts_in u
one_cut t u line h g =
    let first : split_of line ≡ Ok (parts_in t) = ap split_of h.1 ∙ split_of-line t h.0 in
    let second : split_of line ≡ Ok (parts_in u) = ap split_of g.1 ∙ split_of-line u g.0 in
    cc

-- ---- what splitting answers

pub no_line : (line : List ℕ) (f : Front) → front_of line ≡ Some f → tail_of f.rest ≡ None → (t : TagLine) → Spells t line → ⊥
no_line line f e h t g =
    let front : front_of line ≡ Some (record { name = t.name; file = t.file; rest = address_text t.address ++ fields_text t.fields }) = ap front_of g.1 ∙ front_of-line t g.0 in
    let same : f ≡ record { name = t.name; file = t.file; rest = address_text t.address ++ fields_text t.fields } = cc in
    let tail : tail_of f.rest ≡ Some (record { address = address_text t.address; fields = joined_fields t.fields }) = ap (λ x. tail_of x.rest) same ∙ tail_of-tail t.address t.fields g.0.address in
    cc

says_by_tail : (line : List ℕ) (f : Front) (o : Option Tail) (r : Result (List PartValue) Code) → front_of line ≡ Some f → tail_of f.rest ≡ o → (some_or T06 o >>= (λ t. Ok (parts_of f t))) ≡ r → Splits (result_by r) line
says_by_tail line f None (Ok parts) e g h = absurd cc
says_by_tail line f None (Err code) e g h =
    let same : T06 ≡ code = cc in
    let says : Splits (Err (faults.Line T06)) line = (HasFront-front_of line f e, no_line line f e g) in
    subst (λ c. Splits (Err (faults.Line c)) line) same says
says_by_tail line f (Some t) (Ok parts) e g h =
    let tree = tail_of-tree line f t e g in
    let same : parts_of f t ≡ parts = cc in
    (tree.tree, tree.spells, sym same ∙ tree_parts line f t tree)
says_by_tail line f (Some t) (Err code) e g h = absurd cc

says_by_front : (line : List ℕ) (o : Option Front) (r : Result (List PartValue) Code) → front_of line ≡ o → (some_or T04 o >>= (λ f. some_or T06 (tail_of f.rest) >>= (λ t. Ok (parts_of f t)))) ≡ r → Splits (result_by r) line
says_by_front line None (Ok parts) e h = absurd cc
says_by_front line None (Err code) e h =
    let same : T04 ≡ code = cc in
    let says : Splits (Err (faults.Line T04)) line = front_of-HasFront line e in
    subst (λ c. Splits (Err (faults.Line c)) line) same says
says_by_front line (Some f) r e h = says_by_tail line f (tail_of f.rest) r e refl h

pub split_of-says : (line : List ℕ) → Splits (result_by (split_of line)) line
unfolding split_of
split_of-says line = says_by_front line (front_of line) (split_of line) refl refl

split_err : {X : Type 0} (view : X → List PartValue) (e : SplitFault) (line : List ℕ) → Gives view (Err e) (split_of line) → Splits (Err e) line
split_err view faults.Memory line h = tt
split_err view (faults.Line code) line h = subst (λ r. Splits (result_by r) line) h (split_of-says line)

pub split_is : {X : Type 0} (view : X → List PartValue) (r : Result X SplitFault) (line : List ℕ) → Gives view r (split_of line) → Splits (result_map view r) line
split_is view (Ok x) line h = subst (λ r. Splits (result_by r) line) h (split_of-says line)
split_is view (Err e) line h = split_err view e line h

slices_by : (line : List ℕ) (parts : List PartValue) → Splits (Ok parts) line → AllByRecursion (IsSlice line) parts
slices_by line parts h = subst (λ ps. AllByRecursion (IsSlice line) ps) (sym h.2) (parts_with-slices line h.0.name h.0.file (address_text h.0.address) h.0.fields h.1.1)

pub split_slices : {X : Type 0} (view : X → List PartValue) (r : Result X SplitFault) (line : List ℕ) → Gives view r (split_of line) → IfOk r (λ x. AllByRecursion (IsSlice line) (view x))
split_slices view (Ok x) line h = slices_by line (view x) (split_is view (Ok x) line h)
split_slices view (Err e) line h = tt
