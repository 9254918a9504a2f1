use Rattle.std.proofs.Common.{◌∙◌, ◌<◌, ◌++◌, ◌∷◌, [], sym, subst, map, append-nil, arith, None}
use Rattle.std.specs.Prelude.{vec_len, vec_capacity}
use Rattle.lsif.specs.Element.{element_value}
use Rattle.dump.specs.Steps.Chains.{HasShortcuts, JoinsIndices}
use Rattle.dump.specs.Walks.{next_pairs}
use Rattle.dump.proofs.Ends.{no_code}
use Rattle.dump.proofs.Known.{ends_known}
use Rattle.dump.proofs.Shortcuts.{shortcuts_more, same_pairs, source_free}
use Rattle.dump.proofs.chain_ends.follow.Goals.{in-Some, in_default}
use Rattle.dump.proofs.chain_ends.follow.Goals as goal

pub join-requires-clause-joins : goal.join-requires-clause-joins
join-requires-clause-joins c =
    let d = map element_value c.args.elements.now in
    let x = element_value c.args.element.now in
    let j = subst (JoinsIndices d x) c.in-Some.is c.requires.joined in
    record { source = j.0; target = j.1; is_source = j.3; is_target = j.4; none = source_free d x j.0 j.1 (no_code d x c.requires.free) j.2 }

pub push_reserved-requires : goal.push_reserved-requires
push_reserved-requires c = elim c.match-joined.branch [
  | in-Some w ↦ subst (λ v. vec_len v < vec_capacity v) (sym w.shortcuts-is) (omega (arith, w.join.ensures.len, w.join.ensures.capacity, c.requires.room))
  | in_default w ↦ subst (λ v. vec_len v < vec_capacity v) (sym w.shortcuts-is) c.requires.room
]

pub returns : goal.returns
returns c =
    let d = map element_value c.args.elements.now in
    let x = element_value c.args.element.now in
    let free = no_code d x c.requires.free in
    let known = ends_known d c.requires.sound in
    subst (HasShortcuts (next_pairs (d ++ x ∷ [])) (d ++ x ∷ [])) (sym c.push_reserved.ensures.items)
    (elim c.match-joined.branch [
      | in-Some w ↦
          let j = subst (JoinsIndices d x) w.in-Some.is c.requires.joined in
          subst (λ v. HasShortcuts (next_pairs (d ++ x ∷ [])) (d ++ x ∷ []) (v.items ++ None ∷ [])) (sym w.shortcuts-is)
          (shortcuts_more (next_pairs d ++ (j.0, j.1) ∷ []) d x w.join.new.shortcuts.items free known (same_pairs d x ((j.0, j.1) ∷ []) j.2) (w.join.ensures.shortcuts j.0 j.1 j.3 j.4))
      | in_default w ↦
          let j = subst (JoinsIndices d x) w.in_default.is c.requires.joined in
          subst (λ v. HasShortcuts (next_pairs (d ++ x ∷ [])) (d ++ x ∷ []) (v.items ++ None ∷ [])) (sym w.shortcuts-is)
          (shortcuts_more (next_pairs d) d x c.args.shortcuts.now.items free known (sym (append-nil (next_pairs d)) ∙ same_pairs d x [] j) c.requires.shortcuts)
    ])
