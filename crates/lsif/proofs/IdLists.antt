-- Lists of ids to which an id is added.
use Rattle.std.proofs.Common.{◌≡◌, ◌∙◌, ◌<◌, ◌≤◌, ◌-◌, ◌+◌, ℕ, List, [], ◌∷◌, ◌++◌, length, take, drop, Option, Some, None, refl, sym, ap, subst, arith, append_assoc, lt-ltb, le-ltb, append-nil}
use Rattle.std.specs.Str.{IsUtf8, IsCharBoundary}
use Rattle.std.proofs.lemmas.List.{take-append-le, drop-append-le, take-append-drop, length-take-le}
use Rattle.std.proofs.Math.Seq.{take-length, drop-length}
use Rattle.std.proofs.lemmas.Str.{IsUtf8-append, IsUtf8-drop, IsUtf8-nil, IsCharBoundary-at_seam, IsCharBoundary-end}
use Rattle.std.specs.Iterator.{MakesProgress, item_count}
use Rattle.lsif.specs.IdValues.{IdValue, number, text, greatest_id}
use Rattle.lsif.specs.Steps.IdLists.{text_length, ids_by, ids_of, IsCutBy, AreCut}

-- a text may be cut at the same place when another comes after it
cut_before : (texts more : List ℕ) (n : ℕ) → IsUtf8 texts → IsUtf8 more → IsCharBoundary texts n → IsCharBoundary (texts ++ more) n
cut_before texts more n u v cut =
    let whole : texts ++ more ≡ take n texts ++ (drop n texts ++ more) = ap (λ l. l ++ more) (sym (take-append-drop n texts)) ∙ append_assoc (take n texts) (drop n texts) more in
    subst (IsCharBoundary (texts ++ more)) (length-take-le n texts cut.0)
    (IsCharBoundary-at_seam (texts ++ more) (take n texts) (drop n texts ++ more) whole (IsUtf8-append (drop n texts) more (IsUtf8-drop texts n u cut) v))

-- what is added after a list is read after it
pub ids_more : (entries texts : List ℕ) (entry : ℕ) (more : List ℕ) → IsUtf8 texts → IsUtf8 more → AreCut entries texts → AreCut (entry ∷ []) more
    → (ids_of (entries ++ entry ∷ []) (texts ++ more) ≡ ids_of entries texts ++ ids_of (entry ∷ []) more) × AreCut (entries ++ entry ∷ []) (texts ++ more)
unfolding ids_of AreCut
ids_more [] texts entry more u v nothing cut = subst (λ l. (ids_of (entry ∷ []) (l ++ more) ≡ ids_of (entry ∷ []) more) × AreCut (entry ∷ []) (l ++ more)) (sym nothing) (refl, cut)
ids_more (e ∷ es) texts entry more u v are cut = by (text_length e) are (λ t w h. ids_more es t entry more w v h cut)
  where
    Later : List ℕ → Type 0
    Later t = (ids_of (es ++ entry ∷ []) (t ++ more) ≡ ids_of es t ++ ids_of (entry ∷ []) more) × AreCut (es ++ entry ∷ []) (t ++ more)

    by : (o : Option ℕ) → IsCutBy o texts (AreCut es) → ((t : List ℕ) → IsUtf8 t → AreCut es t → Later t)
        → (ids_by o e (texts ++ more) (ids_of (es ++ entry ∷ [])) ≡ ids_by o e texts (ids_of es) ++ ids_of (entry ∷ []) more) × IsCutBy o (texts ++ more) (AreCut (es ++ entry ∷ []))
    by None h rest = let later = rest texts u h in (ap (λ l. number e ∷ l) later.0, later.1)
    by (Some n) (at, h) rest =
        let later = rest (drop n texts) (IsUtf8-drop texts n u at) h in
        let behind = drop-append-le n texts more at.0 in (
          ap (λ t. text t ∷ ids_of (es ++ entry ∷ []) (drop n (texts ++ more))) (take-append-le n texts more at.0)
              ∙ ap (λ t. text (take n texts) ∷ ids_of (es ++ entry ∷ []) t) behind ∙ ap (λ l. text (take n texts) ∷ l) later.0,
          (cut_before texts more n u v at, subst (AreCut (es ++ entry ∷ [])) (sym behind) later.1),
        )

pub number_entry : (n : ℕ) → n ≤ greatest_id → text_length n ≡ None
number_entry n le = rw (le-ltb greatest_id n le) refl

pub text_entry : (n : ℕ) → 0 < n → text_length (greatest_id + n) ≡ Some n
text_entry n some =
    let beyond : greatest_id + n - greatest_id ≡ n = omega arith in
    rw (lt-ltb greatest_id (greatest_id + n) (omega (arith, some))) (ap (λ k. Some k) beyond)

-- a number after a list
pub number_more : (entries texts : List ℕ) (n : ℕ) → n ≤ greatest_id → IsUtf8 texts → AreCut entries texts
    → (ids_of (entries ++ n ∷ []) texts ≡ ids_of entries texts ++ number n ∷ []) × AreCut (entries ++ n ∷ []) texts
unfolding ids_of AreCut
number_more entries texts n le u are =
    let entry = number_entry n le in
    let cut : AreCut (n ∷ []) [] = subst (λ o. IsCutBy o [] (AreCut [])) (sym entry) refl in
    let more = ids_more entries texts n [] u IsUtf8-nil are cut in
    let one : ids_of (n ∷ []) [] ≡ number n ∷ [] = ap (λ o. ids_by o n [] (ids_of [])) entry in
    (subst (λ t. ids_of (entries ++ n ∷ []) t ≡ ids_of entries texts ++ number n ∷ []) (append-nil texts) (more.0 ∙ ap (λ l. ids_of entries texts ++ l) one), subst (AreCut (entries ++ n ∷ [])) (append-nil texts) more.1)

-- a text after a list
pub text_more : (entries texts more : List ℕ) → 0 < length more → IsUtf8 texts → IsUtf8 more → AreCut entries texts
    → (ids_of (entries ++ (greatest_id + length more) ∷ []) (texts ++ more) ≡ ids_of entries texts ++ text more ∷ []) × AreCut (entries ++ (greatest_id + length more) ∷ []) (texts ++ more)
unfolding ids_of AreCut
text_more entries texts more some u v are =
    let entry = text_entry (length more) some in
    let all = drop-length more in
    let cut : AreCut ((greatest_id + length more) ∷ []) more = subst (λ o. IsCutBy o more (AreCut [])) (sym entry) (IsCharBoundary-end more, all) in
    let added = ids_more entries texts (greatest_id + length more) more u v are cut in
    let one : ids_of ((greatest_id + length more) ∷ []) more ≡ text more ∷ [] = ap (λ o. ids_by o (greatest_id + length more) more (ids_of [])) entry ∙ ap (λ t. text t ∷ []) (take-length more) in
    (added.0 ∙ ap (λ l. ids_of entries texts ++ l) one, added.1)

-- ---- the first id of a list

pub at_number : (entries later : List ℕ) (e : ℕ) (texts : List ℕ) → entries ≡ e ∷ later → e ≤ greatest_id → AreCut entries texts
    → (ids_of entries texts ≡ number e ∷ ids_of later texts) × AreCut later texts
unfolding ids_of AreCut
at_number entries later e texts is le are =
    let entry = number_entry e le in (
      ap (λ l. ids_of l texts) is ∙ ap (λ o. ids_by o e texts (ids_of later)) entry,
      subst (λ o. IsCutBy o texts (AreCut later)) entry (subst (λ l. AreCut l texts) is are),
    )

pub at_text : (entries later : List ℕ) (e : ℕ) (texts : List ℕ) → entries ≡ e ∷ later → greatest_id < e → AreCut entries texts
    → IsCharBoundary texts (e - greatest_id) × (ids_of entries texts ≡ text (take (e - greatest_id) texts) ∷ ids_of later (drop (e - greatest_id) texts))
    × AreCut later (drop (e - greatest_id) texts)
unfolding ids_of AreCut
at_text entries later e texts is lt are =
    let entry : text_length e ≡ Some (e - greatest_id) = rw (lt-ltb greatest_id e lt) refl in
    let cut = subst (λ o. IsCutBy o texts (AreCut later)) entry (subst (λ l. AreCut l texts) is are) in
    (cut.0, ap (λ l. ids_of l texts) is ∙ ap (λ o. ids_by o e texts (ids_of later)) entry, cut.1)

-- a call that gave the first id left fewer
pub nearer_end : {A : Type 0} (can : List IdValue → Type 0) → ((l : List IdValue) → can l) → (s t : List IdValue) (x : IdValue) (r : A) → s ≡ x ∷ t → MakesProgress can (item_count (λ ids. ids)) s (Some r) t
nearer_end can always s t x r e = record {
  on = λ _. (always t, tt, subst (λ l. length t < length l) (sym e) (omega arith));
  keeps = always t;
  rests = λ _. tt;
}
