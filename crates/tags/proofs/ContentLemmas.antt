-- The cut of a line, and what the line says.
use Rattle.std.proofs.Common.{◌≡◌, ℕ, true, false, List, Option, Some, None, is_some, option_map, Result, Ok, Err, refl, sym, IsUtf8, IfSome}
use Rattle.std.specs.List.{list_any}
use Rattle.std.specs.Option.{ForSome}
use Rattle.std.specs.Str.{is_utf8}
use Rattle.tags.specs.Conditions.{is_control}
use Rattle.tags.specs.Steps.Contents.{Reads, ReadsTag}
use Rattle.tags.specs.Steps.Cutting as cutting
use Rattle.tags.specs.Steps.Cutting.{front_of, tail_of, each_field}
use Rattle.tags.specs.Escapes.{decoded}
use Rattle.tags.specs.Steps.Faults.{fault_in}
use Rattle.tags.specs.Steps.Fields.{fields_of}
use Rattle.tags.specs.Steps.Reading.{entry_of, is_pseudo_tag, ordinary_of, reading}
use Rattle.tags.specs.Values.{FieldsValue, ordinary}
use Rattle.tags.specs.Steps.Views.{front, tail}
use Rattle.tags.specs.declared.code.Code.{Code}
use Rattle.tags.specs.declared.content.Content.TheVariants.{Ordinary}
use Rattle.tags.specs.declared.cut.Cut.{Cut}
use Rattle.tags.specs.declared.cut.Front.{Front}
use Rattle.tags.specs.declared.cut.Tail.{Tail}
use Rattle.tags.proofs.FieldLemmas.{some_of}

ok_of : {A : Type 0} (r : Result A Code) → fault_in r ≡ None → (x : A) × (r ≡ Ok x)
ok_of (Ok x) h = (x, refl)
ok_of (Err code) h = absurd cc

for_some : {X : Type 0} (P : X → Type 0) (o : Option X) → IfSome o P → ForSome o P
for_some P None h = λ x e. absurd cc
for_some P (Some y) h = λ x e. let same : y ≡ x = cc in rw (sym same) h

named_by : (line name file : List ℕ) (f : cutting.Front) (t : cutting.Tail) (fields : FieldsValue) → front_of line ≡ Some f → decoded f.name ≡ Some name → decoded f.file ≡ Some file
    → tail_of f.rest ≡ Some t → fields_of (each_field t.fields) ≡ Ok fields → ordinary_of line ≡ Ok (ordinary f.name (entry_of name file t.address fields))
unfolding ordinary_of
named_by line name file f t fields a b c d e = rw (a, b, c, d, e) refl

-- the parts of a line that has a tag
pub reads_tag : (line : List ℕ) (f : Front) (t : Tail) → front_of line ≡ Some (front f) → is_some (decoded f.name.now) ≡ true → is_some (decoded f.file.now) ≡ true
    → tail_of f.rest.now ≡ Some (tail t) → fault_in (fields_of (each_field (option_map (λ bs. bs.now) t.fields))) ≡ None
    → IsUtf8 f.name.now × IsUtf8 f.file.now × IsUtf8 f.rest.now → IsUtf8 t.address.now × IfSome t.fields (λ bs. IsUtf8 bs.now)
    → ReadsTag (Ok (record { name = f.name; file = f.file; address = t.address; fields = t.fields })) (ordinary_of line)
reads_tag line f t a b c d e texts rest =
    let name = some_of (decoded f.name.now) b in
    let file = some_of (decoded f.file.now) c in
    let fields = ok_of (fields_of (each_field (option_map (λ bs. bs.now) t.fields))) e in (
      entry_of name.0 file.0 t.address.now fields.0,
      record {
        name = name.1;
        file = file.1;
        address = refl;
        fields = fields.1;
        name_text = texts.0;
        file_text = texts.1;
        address_text = rest.0;
        fields_text = for_some (λ bs. IsUtf8 bs.now) t.fields rest.1;
      },
      named_by line name.0 file.0 (front f) (tail t) fields.0 a name.1 file.1 d fields.1,
    )

-- an ordinary line is read as its tag
pub reads_ordinary : (line : List ℕ) (cut : Cut) → is_utf8 line ≡ true → list_any is_control line ≡ false → is_pseudo_tag line ≡ false → ReadsTag (Ok cut) (ordinary_of line) → Reads (Ok (Ordinary cut)) (reading line)
unfolding reading
reads_ordinary line cut text control pseudo h = (ordinary cut.name.now h.0, (h.0, h.1, refl), rw (text, control, pseudo) h.2)
