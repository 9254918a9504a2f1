use Rattle.std.proofs.Common.{◌≡◌, ◌∙◌, ◌&&◌, ◌++◌, ◌∷◌, [], Bool, List, Some, None, length, refl, sym, ap, subst, map, arith}
use Rattle.std.proofs.lemmas.List.{length-map}
use Rattle.positions.specs.Span.{SpanValue}
use Rattle.lsif.specs.Element.{IdValue, element_value, element_id}
use Rattle.dump.specs.declared.links.Link.{Link}
use Rattle.dump.specs.Contained.{spans_of}
use Rattle.dump.specs.Graph.{is_among}
use Rattle.dump.specs.Steps.Ids.{value_at, index_at, entered}
use Rattle.dump.specs.Steps.Tables.{has_id, is_id, IsFilled}
use Rattle.dump.specs.Contained.{contains_source}
use Rattle.dump.specs.Steps.Links.{link_index, same_link, link_at, named_by, is_named}
use Rattle.dump.proofs.Adds.{has_rows, fresh_index, vertices_have_indices, named_known, named_some, row_more, links_after, blank, blank_row, rows_length}
use Rattle.dump.proofs.Ends.{no_code}
use Rattle.dump.proofs.Fills.{fills}
use Rattle.dump.proofs.TablesAfter.{table_enters, document_more}
use Rattle.dump.proofs.Known.{ends_known, still_vertices}
use Rattle.dump.proofs.Rooms.{room}
use Rattle.dump.proofs.Slots.{entered_not}
use Rattle.dump.proofs.tables.Tables.add.Goals as goal

pub overflow_cast-index : goal.overflow_cast-index
overflow_cast-index c = omega (arith, room (map element_value c.args.elements.now) (element_value c.args.element.now) c.requires.free, length-map c.args.elements.now element_value)

pub enter-requires : goal.enter-requires
enter-requires c =
    let d = map element_value c.args.elements.now in
    let x = element_value c.args.element.now in
    fresh_index c.args.self.now.indices d x (no_code d x c.requires.free) c.requires.tables.elements

pub enter_all-requires-clause-rows : goal.enter_all-requires-clause-rows
enter_all-requires-clause-rows c =
    let d = map element_value c.args.elements.now in
    let x = element_value c.args.element.now in
    let long = sym (length-map c.args.elements.now element_value) in
    let table = table_enters (index_at c.args.self.now.indices) (index_at c.enter.new.self.indices) has_id has_id d x _ _ long c.in_ok-enter.ensures.indices (λ i. refl) (λ i. refl) c.requires.tables.elements in
    let kept : c.enter.new.self.rows.items ≡ c.args.self.now.rows.items = ap (λ rows. rows.items) c.in_ok-enter.ensures.rows ∙ c.reserve.ensures.items in
    let pushed : c.push_reserved.new.self.items ≡ c.args.self.now.rows.items ++ blank ∷ [] = c.push_reserved.ensures.items ∙ ap (λ rows. rows ++ blank ∷ []) kept in
    has_rows c.enter.new.self.indices (d ++ x ∷ []) _ (sym (rows_length c.args.self.now.rows.items _ d x pushed c.requires.tables.rows)) table

pub enter_all-requires-clause-known : goal.enter_all-requires-clause-known
enter_all-requires-clause-known c =
    let d = map element_value c.args.elements.now in
    let x = element_value c.args.element.now in
    let long = sym (length-map c.args.elements.now element_value) in
    let table = table_enters (index_at c.args.self.now.indices) (index_at c.enter.new.self.indices) has_id has_id d x _ _ long c.in_ok-enter.ensures.indices (λ i. refl) (λ i. refl) c.requires.tables.elements in
    let named : Some (c.in-Some.link, c.in-Some.ids) ≡ named_by d x = rw c.in-Some.is at c.named_by-named.ensures in
    vertices_have_indices c.enter.new.self.indices (d ++ x ∷ []) table c.in-Some.ids
    (still_vertices d x c.in-Some.ids (named_some d (named_by d x) (c.in-Some.link, c.in-Some.ids) (named_known d x (no_code d x c.requires.free)) (sym named)))

pub returns-in-Some-clause-ok : goal.returns-in-Some-clause-ok
returns-in-Some-clause-ok c =
    let d = map element_value c.args.elements.now in
    let x = element_value c.args.element.now in
    let n = length c.args.elements.now in
    let long = sym (length-map c.args.elements.now element_value) in
    let known = ends_known d c.requires.sound in
    let free = no_code d x c.requires.free in
    let old = c.args.self.now in
    let indices = c.enter.new.self.indices in
    let kept : c.enter.new.self.rows.items ≡ c.args.self.now.rows.items = ap (λ rows. rows.items) c.in_ok-enter.ensures.rows ∙ c.reserve.ensures.items in
    let pushed : c.push_reserved.new.self.items ≡ c.args.self.now.rows.items ++ blank ∷ [] = c.push_reserved.ensures.items ∙ ap (λ rows. rows ++ blank ∷ []) kept in
    let named : Some (c.in-Some.link, c.in-Some.ids) ≡ named_by d x = rw c.in-Some.is at c.named_by-named.ensures in
    let here : Link → IdValue → Bool = λ l i. same_link c.in-Some.link l && is_among i c.in-Some.ids in
    let more = row_more old.indices indices old.rows.items blank (element_id x) n (c.requires.tables.rows ∙ sym long) (λ l. blank_row (link_index l)) (has_rows old.indices d n (sym long) c.requires.tables.elements) c.in_ok-enter.ensures.indices in
    record {
      elements = table_enters (index_at old.indices) (index_at indices) has_id has_id d x n _ long c.in_ok-enter.ensures.indices (λ i. refl) (λ i. refl) c.requires.tables.elements;
      rows = c.enter_all.ensures.length ∙ rows_length old.rows.items _ d x pushed c.requires.tables.rows;
      links = λ l. links_after d x free known l n long (link_at old.indices old.rows.items l) (link_at indices c.enter_all.new.rows.items l)
          (λ i. c.enter_all.ensures.links l i ∙ ap (λ rows. entered (here l i) n (link_at indices rows l i)) pushed ∙ ap (entered (here l i) n) (more l i) ∙ ap (λ o. entered (is_named o l i) n (link_at old.indices old.rows.items l i)) named)
          (c.requires.tables.links l);
      documents = λ uri. document_more uri d x n _ _ long free.uri (c.requires.tables.documents uri) (c.in_ok-enter.ensures.documents uri);
      spans = fills d x free known (value_at old.spans) (value_at c.enter.new.self.spans) c.requires.tables.spans
          (λ v. subst (λ (ss : List SpanValue). IsFilled (is_id v (contains_source x)) ss (value_at old.spans v) (value_at c.enter.new.self.spans v)) (c.in_ok-targets.ensures ∙ ap (spans_of d) c.ranges_of.ensures) (c.in_ok-enter.ensures.spans v));
    }

pub returns-in_default-clause-ok : goal.returns-in_default-clause-ok
returns-in_default-clause-ok c =
    let d = map element_value c.args.elements.now in
    let x = element_value c.args.element.now in
    let n = length c.args.elements.now in
    let long = sym (length-map c.args.elements.now element_value) in
    let known = ends_known d c.requires.sound in
    let free = no_code d x c.requires.free in
    let old = c.args.self.now in
    let indices = c.enter.new.self.indices in
    let kept : c.enter.new.self.rows.items ≡ c.args.self.now.rows.items = ap (λ rows. rows.items) c.in_ok-enter.ensures.rows ∙ c.reserve.ensures.items in
    let pushed : c.push_reserved.new.self.items ≡ c.args.self.now.rows.items ++ blank ∷ [] = c.push_reserved.ensures.items ∙ ap (λ rows. rows ++ blank ∷ []) kept in
    let named : None ≡ named_by d x = rw c.in_default.is at c.named_by-named.ensures in
    let more = row_more old.indices indices old.rows.items blank (element_id x) n (c.requires.tables.rows ∙ sym long) (λ l. blank_row (link_index l)) (has_rows old.indices d n (sym long) c.requires.tables.elements) c.in_ok-enter.ensures.indices in
    record {
      elements = table_enters (index_at old.indices) (index_at indices) has_id has_id d x n _ long c.in_ok-enter.ensures.indices (λ i. refl) (λ i. refl) c.requires.tables.elements;
      rows = rows_length old.rows.items _ d x pushed c.requires.tables.rows;
      links = λ l. links_after d x free known l n long (link_at old.indices old.rows.items l) (link_at indices c.push_reserved.new.self.items l)
          (λ i. ap (λ rows. link_at indices rows l i) pushed ∙ more l i ∙ sym (entered_not n (link_at old.indices old.rows.items l i)) ∙ ap (λ o. entered (is_named o l i) n (link_at old.indices old.rows.items l i)) named)
          (c.requires.tables.links l);
      documents = λ uri. document_more uri d x n _ _ long free.uri (c.requires.tables.documents uri) (c.in_ok-enter.ensures.documents uri);
      spans = fills d x free known (value_at old.spans) (value_at c.enter.new.self.spans) c.requires.tables.spans
          (λ v. subst (λ (ss : List SpanValue). IsFilled (is_id v (contains_source x)) ss (value_at old.spans v) (value_at c.enter.new.self.spans v)) (c.in_ok-targets.ensures ∙ ap (spans_of d) c.ranges_of.ensures) (c.in_ok-enter.ensures.spans v));
    }
