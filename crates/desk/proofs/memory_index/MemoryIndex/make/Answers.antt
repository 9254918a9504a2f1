use Rattle.std.proofs.Common.{arith, ◌∙◌}
use Rattle.std.proofs.lemmas.Map.Text.{text_keys}
use Rattle.machine.specs.Steps.Changes.{change_value}
use Rattle.desk.proofs.Changing.{on_ok, on_err, IsNew, stands_changed, stands_same}
use Rattle.desk.proofs.memory_index.MemoryIndex.make.Goals as goal

pub returns-clause-ok : goal.returns-clause-ok
returns-clause-ok c = λ m stood is_reply.
    let is_new : IsNew c.new.result = record { dump = c.new.ensures.dump; tags = c.new.ensures.tags; kept = c.new.ensures.kept } in
    on_ok c.change.result _ _ _ _
    (λ dump tags kept. stands_changed c.args.self.now.projects _ c.args.project.now c.new.result c.or_insert-found.result.now c.change.new.self is_new (record { found = grind (arith, text_keys); before = grind (arith, text_keys) }) m stood
    c.args.key.now (change_value c.args.made) c.in_ok-reply.reply (c.in_ok-reply.ensures.ok ∙ is_reply) dump tags (λ k. rw c.in_ok-key.ensures.ok at (kept k)))
    c.change.ensures.dump c.change.ensures.tags c.change.ensures.kept

pub returns-clause-err : goal.returns-clause-err
returns-clause-err c = λ m stood.
    let is_new : IsNew c.new.result = record { dump = c.new.ensures.dump; tags = c.new.ensures.tags; kept = c.new.ensures.kept } in
    on_err c.change.result _ _ _ _
    (λ dump tags kept. stands_same c.args.self.now.projects _ c.args.project.now c.new.result c.or_insert-found.result.now c.change.new.self is_new (record { found = grind (arith, text_keys); before = grind (arith, text_keys) }) m stood dump tags kept)
    c.change.ensures.same_dump c.change.ensures.same_tags c.change.ensures.same_kept
