use Rattle.std.proofs.Common.{◌≡◌, ◌++◌, length}
use Rattle.std.specs.Vec.Iter.{into_iter_items, into_iter_len}
use Rattle.tables.proofs.TagFields.{AreFields}
use Rattle.tables.proofs.found_tags.fields_of.Given as goal

abbrev pub invariant-loop-item : goal.invariant-loop-item
invariant-loop-item l = record {
  all : l.yielded ++ into_iter_items l.item-iterator ≡ into_iter_items l.initial.item-iterator;
  fields : AreFields l.yielded l.found.items;
  left : into_iter_len l.item-iterator ≡ length (into_iter_items l.item-iterator);
}
