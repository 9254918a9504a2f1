-- What is kept of a hover has no float, so that it has one text.
use Rattle.std.proofs.Common.{◌≡◌, ◌||◌, ℕ, Bool, true, false, cond, List, [], ◌∷◌, codes, Option, Some, None, is_some, option_map, option_and_then, if◌then◌else◌, refl, subst}
use Rattle.serde_json.specs.Data.{Data, string, array, Items, no_items, item}
use Rattle.serde_json.specs.Find.{get, as_str, as_array}
use Rattle.serde_json.specs.View.{items_of}
use Rattle.serde_json.specs.Written.{has_float, items_have_float}
use Rattle.lsif.specs.Ids.{each_in, text_at}
use Rattle.lsif.specs.Hovers.{code, code_in, markup, is_markup_kind, markup_in, marked_by, marked_in, contents_by, contents_in}

abbrev IsPlain : Option Data → Type 0
IsPlain o = (e : Data) → o ≡ Some e → has_float e ≡ false

plain_some : (d e : Data) → has_float d ≡ false → Some d ≡ Some e → has_float e ≡ false
plain_some d e h is = let same : d ≡ e = cc in subst (λ x. has_float x ≡ false) same h

code_by : (l v : Option (List ℕ)) → IsPlain (option_and_then (λ language. option_map (code language) v) l)
code_by None v e h = cc
code_by (Some l) None e h = cc
code_by (Some l) (Some v) e h = plain_some (code l v) e refl h

code_plain : (d : Data) → IsPlain (code_in d)
unfolding code_in
code_plain d = code_by (text_at (codes "language") d) (text_at (codes "value") d)

markup_if : (k : List ℕ) (b : Bool) (v : Option (List ℕ)) → IsPlain (cond b (option_map (markup k) v) None)
markup_if k true None e h = cc
markup_if k true (Some v) e h = plain_some (markup k v) e refl h
markup_if k false v e h = cc

markup_by : (k v : Option (List ℕ)) → IsPlain (option_and_then (λ kind. if is_markup_kind kind then option_map (markup kind) v else None) k)
markup_by None v e h = cc
markup_by (Some k) v e h = markup_if k (is_markup_kind k) v e h

markup_plain : (d : Data) → IsPlain (markup_in d)
unfolding markup_in
markup_plain d = markup_by (text_at (codes "kind") d) (text_at (codes "value") d)

marked_plain_by : (o : Option (List ℕ)) (d : Data) → IsPlain (marked_by o d)
marked_plain_by (Some text) d e h = plain_some (string text) e refl h
marked_plain_by None d e h = code_plain d e h

marked_plain : (d : Data) → IsPlain (marked_in d)
unfolding marked_in
marked_plain d = marked_plain_by (as_str d) d

abbrev ArePlain : Option (List Data) → Type 0
ArePlain o = (es : List Data) → o ≡ Some es → items_have_float (items_of es) ≡ false

plain_list : (ds es : List Data) → items_have_float (items_of ds) ≡ false → Some ds ≡ Some es → items_have_float (items_of es) ≡ false
plain_list ds es h is = let same : ds ≡ es = cc in subst (λ xs. items_have_float (items_of xs) ≡ false) same h

neither : (a b : Bool) → a ≡ false → b ≡ false → (a || b) ≡ false
neither true b e f = cc
neither false b e f = f

each_by : (o : Option Data) (p : Option (List Data)) → IsPlain o → ArePlain p → ArePlain (option_and_then (λ x. option_map (λ xs. x ∷ xs) p) o)
each_by None p f g es h = cc
each_by (Some x) None f g es h = cc
each_by (Some x) (Some xs) f g es h = plain_list (x ∷ xs) es (neither (has_float x) (items_have_float (items_of xs)) (f x refl) (g xs refl)) h

each_plain : (ds : Items) → ArePlain (each_in marked_in ds)
unfolding each_in
each_plain no_items es h = plain_list [] es refl h
each_plain (item d ds) es h = each_by (marked_in d) (each_in marked_in ds) (marked_plain d) (each_plain ds) es h

array_by : (p : Option (List Data)) → ArePlain p → IsPlain (option_map array (option_map items_of p))
array_by None f e h = cc
array_by (Some xs) f e h = plain_some (array (items_of xs)) e (f xs refl) h

contents_if : (b : Bool) (d : Data) → IsPlain (cond b (markup_in d) (marked_in d))
contents_if true d e h = markup_plain d e h
contents_if false d e h = marked_plain d e h

contents_plain_by : (o : Option Items) (d : Data) → IsPlain (contents_by o d)
contents_plain_by (Some ds) d e h = array_by (each_in marked_in ds) (each_plain ds) e h
contents_plain_by None d e h = contents_if (is_some (get (codes "kind") d)) d e h

pub contents_plain : (d e : Data) → contents_in d ≡ Some e → has_float e ≡ false
unfolding contents_in
contents_plain d = contents_plain_by (as_array d) d
