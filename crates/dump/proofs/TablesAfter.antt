-- What tables say of elements, and what an element more makes of them.
use Rattle.std.proofs.Common.{◌≡◌, ◌∙◌, ◌&&◌, ◌||◌, ◌+◌, ◌++◌, ◌∷◌, [], ℕ, Bool, true, false, cond, List, length, refl, sym, ap, Option, Some, None, option_and_then, is_some, if◌then◌else◌}
use Rattle.std.specs.Prelude.{Contains, option_map}
use Rattle.std.specs.List.{list_any, position}
use Rattle.lsif.specs.Element.{IdValue, same_id, meta_data, project, document, range, result_set, request_result, hover_result, moniker, package_information, event, other_vertex, begin_event, end_event, other_event, contains, next, request_edge, moniker_edge, package_edge, attach, item, other_edge, ElementValue, vertex, edge}
use Rattle.dump.specs.declared.links.Link.{Link}
use Rattle.dump.specs.declared.links.Link.TheVariants.{Contained, Begun, Ended, Single}
use Rattle.dump.specs.declared.single.SingleLabel.{SingleLabel}
use Rattle.dump.specs.declared.single.SingleLabel.TheVariants.{Next, PackageInformation, Request}
use Rattle.dump.specs.Conditions.{is_document_of, has_used_uri, are_vertices}
use Rattle.dump.specs.Contained.{contains_range}
use Rattle.dump.specs.Ended.{begins, finishes}
use Rattle.dump.specs.Graph.{ends}
use Rattle.dump.specs.Steps.Ids.{IsTable, entered}
use Rattle.dump.specs.Steps.Links.{is_single, is_link, named_by, is_named}
use Rattle.dump.specs.Walks.{same_label}
use Rattle.dump.proofs.Fills.{ranges_test}
use Rattle.dump.proofs.Known.{same_contained}
use Rattle.streams.proofs.Members.{contains_head, contains_tail}
use Rattle.dump.proofs.Documents.{document_is}
use Rattle.dump.proofs.FirstIndices.{position-cons, position_hit, position_miss, position_kept, position-any}

-- an element that the table leads to, and what is read off it
pub led_some : {A B C : Type 0} (f : B → Option C) (g : A → B) (r : Option A) (o : Option B) (x : A) → r ≡ Some x → option_map g r ≡ o → f (g x) ≡ option_and_then f o
led_some f g r o x is e = ap (option_and_then f) (sym (ap (option_map g) is) ∙ e)

pub led_none : {A B C : Type 0} (f : B → Option C) (g : A → B) (r : Option A) (o : Option B) → r ≡ None → option_map g r ≡ o → None ≡ option_and_then f o
led_none f g r o is e = ap (option_and_then f) (sym (ap (option_map g) is) ∙ e)

-- ---- an element more

-- the indices of tests that say the same of each item
same_by : (o m : Option ℕ) → o ≡ m → (a b : Bool) → a ≡ b → cond a (Some 0) (option_map (λ k. 1 + k) o) ≡ cond b (Some 0) (option_map (λ k. 1 + k) m)
same_by o m e a b f = rw (e, f) refl

pub position_same : {X : Type 0} (p q : X → Bool) (xs : List X) → ((y : X) → Contains xs y → p y ≡ q y) → position p xs ≡ position q xs
position_same p q [] same = refl
position_same p q (x ∷ xs) same =
    position-cons p x xs
    ∙ same_by (position p xs) (position q xs) (position_same p q xs (λ y at. same y (contains_tail x xs y at))) (p x) (q x) (same x (contains_head x xs))
    ∙ sym (position-cons q x xs)

-- an index entered where the element passes, and the table had none
module _ {X : Type 0} (old new : IdValue → Option ℕ) (test later : IdValue → X → Bool) (d : List X) (x : X) (index : ℕ) (here : IdValue → Bool) where
  entered_by : (p : X → Bool) (o : Option ℕ) → position p d ≡ o → index ≡ length d → (b : Bool) → p x ≡ b → entered b index o ≡ position p (d ++ x ∷ [])
  entered_by p None e n true h = ap Some n ∙ sym (position_hit p d x h e)
  entered_by p None e n false h = sym (position_miss p d x h ∙ e)
  entered_by p (Some k) e n true h = sym (position_kept p d x (ap is_some e) ∙ e)
  entered_by p (Some k) e n false h = sym (position_miss p d x h ∙ e)

  pub table_enters : index ≡ length d → ((i : IdValue) → new i ≡ entered (here i) index (old i)) → ((i : IdValue) → later i x ≡ here i)
      → ((i : IdValue) → position (later i) d ≡ position (test i) d) → IsTable old test d → IsTable new later (d ++ x ∷ [])
  table_enters n is passes same h = λ i. is i ∙ entered_by (later i) (old i) (same i ∙ sym (h i)) n (here i) (passes i)

-- ---- which vertices an element names

once : (b : Bool) → b ≡ (b || false)
once true = refl
once false = refl

each_link : (P : Link → Type 0) → P Contained → P Begun → P Ended → ((label : SingleLabel) → P (Single label)) → (l : Link) → P l
each_link P c b e s Contained = c
each_link P c b e s Begun = b
each_link P c b e s Ended = e
each_link P c b e s (Single label) = s label

one_single : (m label : SingleLabel) (a i : IdValue) → (same_label m label && same_id a i) ≡ (same_label m label && (same_id a i || false))
one_single m label a i =
    ap (λ b. same_label m label && b) (once (same_id a i))

named_nothing : (d : List ElementValue) (x : ElementValue) (i : IdValue) → contains_range d i x ≡ false → begins i x ≡ false → finishes i x ≡ false → ((label : SingleLabel) → is_single label i x ≡ false)
    → (l : Link) → is_link d l i x ≡ false
named_nothing d x i c b e s = each_link (λ l. is_link d l i x ≡ false) c b e s

pub named_test : (d : List ElementValue) (x : ElementValue) (l : Link) (i : IdValue) → is_link d l i x ≡ is_named (named_by d x) l i
named_test d (edge j (contains a bs)) l i = each_link (λ l. is_link d l i (edge j (contains a bs)) ≡ is_named (named_by d (edge j (contains a bs))) l i)
    (sym (ranges_test d (edge j (contains a bs)) i)) refl refl (λ label. refl) l
named_test d (edge j (next a b)) l i = each_link (λ l. is_link d l i (edge j (next a b)) ≡ is_named (named_by d (edge j (next a b))) l i) refl refl refl (λ label. one_single Next label a i) l
named_test d (edge j (request_edge kind a b)) l i = each_link (λ l. is_link d l i (edge j (request_edge kind a b)) ≡ is_named (named_by d (edge j (request_edge kind a b))) l i) refl refl refl (λ label. one_single (Request kind) label a i) l
named_test d (edge j (package_edge a b)) l i = each_link (λ l. is_link d l i (edge j (package_edge a b)) ≡ is_named (named_by d (edge j (package_edge a b))) l i) refl refl refl (λ label. one_single PackageInformation label a i) l
named_test d (edge j (moniker_edge a b)) l i = named_nothing d (edge j (moniker_edge a b)) i refl refl refl (λ label. refl) l
named_test d (edge j (attach a b)) l i = named_nothing d (edge j (attach a b)) i refl refl refl (λ label. refl) l
named_test d (edge j (item a)) l i = named_nothing d (edge j (item a)) i refl refl refl (λ label. refl) l
named_test d (edge j (other_edge a bs)) l i = named_nothing d (edge j (other_edge a bs)) i refl refl refl (λ label. refl) l
named_test d (vertex j (event (begin_event v))) l i = each_link (λ l. is_link d l i (vertex j (event (begin_event v))) ≡ is_named (named_by d (vertex j (event (begin_event v)))) l i)
    refl (once (same_id v i)) refl (λ label. refl) l
named_test d (vertex j (event (end_event v))) l i = each_link (λ l. is_link d l i (vertex j (event (end_event v))) ≡ is_named (named_by d (vertex j (event (end_event v)))) l i)
    refl refl (once (same_id v i)) (λ label. refl) l
named_test d (vertex j (event other_event)) l i = named_nothing d (vertex j (event other_event)) i refl refl refl (λ label. refl) l
named_test d (vertex j (meta_data b)) l i = named_nothing d (vertex j (meta_data b)) i refl refl refl (λ label. refl) l
named_test d (vertex j project) l i = named_nothing d (vertex j project) i refl refl refl (λ label. refl) l
named_test d (vertex j (document s)) l i = named_nothing d (vertex j (document s)) i refl refl refl (λ label. refl) l
named_test d (vertex j (range s)) l i = named_nothing d (vertex j (range s)) i refl refl refl (λ label. refl) l
named_test d (vertex j result_set) l i = named_nothing d (vertex j result_set) i refl refl refl (λ label. refl) l
named_test d (vertex j (request_result kind)) l i = named_nothing d (vertex j (request_result kind)) i refl refl refl (λ label. refl) l
named_test d (vertex j (hover_result s)) l i = named_nothing d (vertex j (hover_result s)) i refl refl refl (λ label. refl) l
named_test d (vertex j (moniker m)) l i = named_nothing d (vertex j (moniker m)) i refl refl refl (λ label. refl) l
named_test d (vertex j (package_information p)) l i = named_nothing d (vertex j (package_information p)) i refl refl refl (λ label. refl) l
named_test d (vertex j other_vertex) l i = named_nothing d (vertex j other_vertex) i refl refl refl (λ label. refl) l

-- which vertices an element names stays
pub same_link_after : (d : List ElementValue) (x y : ElementValue) → are_vertices d (ends y) ≡ true → (l : Link) (i : IdValue) → is_link (d ++ x ∷ []) l i y ≡ is_link d l i y
same_link_after d x y known l i = each_link (λ l. is_link (d ++ x ∷ []) l i y ≡ is_link d l i y) (same_contained d x y known i) refl refl (λ label. refl) l

none_if : (o : Option ℕ) → is_some o ≡ false → o ≡ None
none_if None e = refl
none_if (Some k) e = cc

-- the index of the document of a serialized URL, after one element more whose serialized URL isn't
-- another's
pub document_more : (uri : List ℕ) (d : List ElementValue) (x : ElementValue) (n : ℕ) (had has : Option ℕ) → n ≡ length d → has_used_uri d x ≡ false → had ≡ position (is_document_of uri) d
    → has ≡ (if is_document_of uri x then Some n else had) → has ≡ position (is_document_of uri) (d ++ x ∷ [])
document_more uri d x n had has long free e f = f ∙ by (is_document_of uri x) refl
  where
    by : (b : Bool) → is_document_of uri x ≡ b → (if b then Some n else had) ≡ position (is_document_of uri) (d ++ x ∷ [])
    by true h =
        let unused : list_any (is_document_of uri) d ≡ false = ap (has_used_uri d) (sym (document_is uri x h)) ∙ free in
        ap Some long ∙ sym (position_hit (is_document_of uri) d x h (none_if (position (is_document_of uri) d) (position-any (is_document_of uri) d ∙ unused)))
    by false h = e ∙ sym (position_miss (is_document_of uri) d x h)
