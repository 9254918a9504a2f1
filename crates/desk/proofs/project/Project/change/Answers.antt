use Rattle.std.specs.Prelude.{string_bytes, Some}
use Rattle.std.proofs.lemmas.Map.Text.{btree_map_updates_text}
use Rattle.desk.proofs.project.Project.change.Goals as goal

pub returns-in-SetDump-clause-kept : goal.returns-in-SetDump-clause-kept
returns-in-SetDump-clause-kept c = btree_map_updates_text (string_bytes c.args.key) c.args.self.now.kept c.insert.new.self (Some c.args.reply) c.in_ok-insert.ensures.updates

pub returns-in-SetTags-clause-kept : goal.returns-in-SetTags-clause-kept
returns-in-SetTags-clause-kept c = btree_map_updates_text (string_bytes c.args.key) c.args.self.now.kept c.insert.new.self (Some c.args.reply) c.in_ok-insert.ensures.updates

pub returns-in-Clear-clause-kept : goal.returns-in-Clear-clause-kept
returns-in-Clear-clause-kept c = btree_map_updates_text (string_bytes c.args.key) c.args.self.now.kept c.insert.new.self (Some c.args.reply) c.in_ok-insert.ensures.updates
