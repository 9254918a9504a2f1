use Rattle.std.proofs.Common.{◌+◌, ◌⊎◌, drop, map, sym, subst, string_bytes}
use Rattle.std.specs.Prelude.{◌↔◌, Contains}
use Rattle.desk.specs.Steps.Rows.{AreJoined, IsKeyJoined, joined_value}
use Rattle.desk.proofs.Finding.{iff_sym, iff_trans, or_none, or_step}
use Rattle.streams.proofs.Lists.{drop_next}
use Rattle.desk.proofs.RowLists.{drop_end, keys_more, keys_none}
use Rattle.desk.proofs.ReadingOnly.{reads_then}
use Rattle.desk.proofs.rows.bearers.joined_bearers.Goals as goal

pub loop-key-preserved : goal.loop-key-preserved
loop-key-preserved g c =
    let was = c.loop-key.invariant in
    let e = c.in_ok-add_key.ensures in
    let keys = c.args.keys.now in
    let i = c.loop-key.key-index in
    let key = c.key-item.result in
    let request = c.args.request in
    let own = c.args.own.now in
    record {
      reliable = λ s. was.reliable (e.reads.reliable s);
      reads_only = λ s. reads_then (was.reads_only (e.reads.reliable s)) (e.reads.only s);
      found = λ s m stood j.
          let split = drop_next keys i key c.loop-key-test.true c.key-item.is in
          let step = subst (λ t. Contains (map joined_value c.add_key.new.found.items) j ↔ (Contains (map joined_value c.loop-key.found.items) j ⊎ IsKeyJoined m request own t j)) c.as_str.ensures.value (e.found s m ((was.reads_only (e.reads.reliable s)).state m stood) j) in
          let more = subst (λ l. AreJoined m request own (map string_bytes l) j ↔ (IsKeyJoined m request own (string_bytes key) j ⊎ AreJoined m request own (map string_bytes (drop (i + 1) keys)) j)) (sym split) (keys_more m request own j (string_bytes key) (map string_bytes (drop (i + 1) keys))) in
          iff_trans (or_step step more) (was.found (e.reads.reliable s) m stood j);
    }

pub returns-clause-found : goal.returns-clause-found
returns-clause-found g c = λ s m stood j.
    let keys = c.args.keys.now in
    let ended = drop_end keys c.loop-key.key-index c.loop-key-test.false in
    let none = subst (λ l. AreJoined m c.args.request c.args.own.now (map string_bytes l) j → ⊥) (sym ended) (keys_none m c.args.request c.args.own.now j) in
    iff_trans (iff_sym (or_none none)) (c.loop-key.invariant.found s m stood j)
