use Rattle.std.proofs.Common.{arith, rules}
use Rattle.std.proofs.lemmas.List.Sorted.{IsPartitionPoint-from_clause}
use Rattle.positions.specs.Position.{is_before}
use Rattle.dump.proofs.Reaches.{started_parted}
use Rattle.dump.proofs.sorted_spans.count_started.Goals as goal

pub returns : goal.returns
returns c =
    let point = IsPartitionPoint-from_clause (λ s. is_before s.start c.args.position) _ _ c.partition_point.ensures.partitioned (started_parted c.args.spans.now c.requires c.args.position) (λ a r q k. search rules) in
    record {
      bound = c.partition_point.ensures.bound;
      before = λ i d lt. point.0 i d (omega arith) lt;
      after = point.1;
    }
