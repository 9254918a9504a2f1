use Rattle.std.proofs.Common.{rules, arith, ◌≡◌, ◌++◌, ◌∙◌, [], List, sym, ap, subst, append_assoc, append-nil, to_z-of_z}
use Rattle.std.proofs.lemmas.List.{map-append, nil_from_length}
use Rattle.sqlite.specs.Held.{state}
use Rattle.tables.specs.Steps.Puts.{Steps, PutsAll}
use Rattle.tables.proofs.Puts.{puts_none, puts_then, nothing_then, nothing_yet}
use Rattle.tables.proofs.part_rows.insert_all.Goals as goal

pub loop-group-init : goal.loop-group-init
loop-group-init g c = record {
  can_next = search rules;
  is_finite = tt;
  size = search rules;
  uncommitted = nothing_yet _;
  put = ([], search rules, λ clean inside has. puts_none _ _ has inside);
}

pub loop-group-preserved : goal.loop-group-preserved
loop-group-preserved g c =
    let so_far = c.loop-group.invariant.put in
    let steps = c.in-Some.ensures.steps in
    let group = c.in-Some.group.now in
    record {
      can_next = search rules;
      is_finite = tt;
      size = steps.0 ∙ c.loop-group.invariant.size;
      uncommitted = nothing_then c.loop-group.invariant.uncommitted c.insert_few.ensures.uncommitted;
      put = (
        so_far.0 ++ group,
        append_assoc so_far.0 _ _ ∙ (ap (λ (rest : List g.row.R.Denot). so_far.0 ++ rest) (sym steps.1.0) ∙ so_far.1),
        λ clean inside has.
            let was = so_far.2 (omega (arith, c.insert_few.ensures.uncommitted.survives.clean)) inside has in
            let put = c.in_ok-insert_few.ensures.put clean was.0.inside was.0.schema in
            subst (λ list. Steps (PutsAll g.R.PartRow.tree list) (state g.S.Store c.args.tx.now.conn.now) (state g.S.Store c.insert_few.new.tx.conn.now)) (sym (map-append _ so_far.0 group)) (puts_then _ _ _ _ _ _ was put),
      );
    }

pub returns-clause-put : goal.returns-clause-put
returns-clause-put g c clean inside has =
    let so_far = c.loop-group.invariant.put in
    let none = nil_from_length _ c.in-None.ensures.steps.1.0 in
    let all : so_far.0 ≡ c.args.rows.now = rw (none, append-nil) at so_far.1 in
    rw (to_z-of_z c.ranges.slot, all) at (so_far.2 clean inside has)
