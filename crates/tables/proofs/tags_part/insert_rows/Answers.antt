use Rattle.std.proofs.Common.{rules, arith, ◌≡◌, ◌++◌, ◌∙◌, [], List, map, sym, ap, subst, append_assoc, append-nil, string_bytes, to_z-of_z}
use Rattle.std.proofs.lemmas.List.{map-append, nil_from_length}
use Rattle.sqlite_value.specs.Order.{Row}
use Rattle.sqlite.specs.Held.{state}
use Rattle.tags.specs.Views.{tag_value}
use Rattle.tags.specs.declared.tag.Tag.{Tag}
use Rattle.tables.specs.Columns.{columns_with, tag_columns}
use Rattle.tables.specs.TableTrees.{tag_tree}
use Rattle.tables.specs.Steps.Puts.{Steps, PutsAll}
use Rattle.tables.specs.declared.tags_part.WrittenTag.{WrittenTag}
use Rattle.tables.proofs.Filling.{put_same}
use Rattle.tables.proofs.Puts.{puts_none, puts_then, nothing_then, nothing_yet}
use Rattle.tables.proofs.tags_part.insert_rows.Goals as goal

pub loop-group-init : goal.loop-group-init
loop-group-init g c = record {
  can_next = search rules;
  is_finite = tt;
  size = search rules;
  uncommitted = nothing_yet _;
  put = ([], search rules, λ clean inside has. puts_none _ _ has inside);
}

pub loop-group-preserved : goal.loop-group-preserved
loop-group-preserved g c =
    let so_far = c.loop-group.invariant.put in
    let steps = c.in-Some.ensures.steps in
    let group = c.in-Some.group.now in
    record {
      can_next = search rules;
      is_finite = tt;
      size = steps.0 ∙ c.loop-group.invariant.size;
      uncommitted = nothing_then c.loop-group.invariant.uncommitted c.insert_all.ensures.uncommitted;
      put = (
        so_far.0 ++ group,
        append_assoc so_far.0 _ _ ∙ (ap (λ (rest : List Tag). so_far.0 ++ rest) (sym steps.1.0) ∙ so_far.1),
        λ clean inside has.
            let was = so_far.2 (omega (arith, c.insert_all.ensures.uncommitted.survives.clean)) inside has in
            let made = c.in_ok-insert_all.ensures.put clean was.0.inside was.0.schema in
            let row_columns : WrittenTag → Row = λ row. columns_with (tag_value row.tag.now) (string_bytes row.fields) in
            let put = put_same tag_tree _ row_columns (λ (tag : Tag). tag_columns (tag_value tag)) c.deref.result.now group _ _ (ap (map row_columns) c.deref.ensures.value ∙ c.in_ok-rows.ensures) made in
            subst (λ list. Steps (PutsAll tag_tree list) (state g.S.Store c.args.tx.now.conn.now) (state g.S.Store c.insert_all.new.tx.conn.now)) (sym (map-append _ so_far.0 group)) (puts_then _ _ _ _ _ _ was put),
      );
    }

pub returns-clause-put : goal.returns-clause-put
returns-clause-put g c clean inside has =
    let so_far = c.loop-group.invariant.put in
    let none = nil_from_length _ c.in-None.ensures.steps.1.0 in
    let all : so_far.0 ≡ c.args.tags.now = rw (none, append-nil) at so_far.1 in
    rw (to_z-of_z c.ranges.slot, all) at (so_far.2 clean inside has)
