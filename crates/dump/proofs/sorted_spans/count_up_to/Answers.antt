use Rattle.std.proofs.Common.{arith, rules}
use Rattle.std.proofs.lemmas.List.Sorted.{IsPartitionPoint-from_clause}
use Rattle.dump.specs.Steps.Spans.{goes_by}
use Rattle.dump.proofs.Reaches.{up_to_parted}
use Rattle.dump.proofs.sorted_spans.count_up_to.Goals as goal

pub returns : goal.returns
returns c =
    let point = IsPartitionPoint-from_clause (λ s. goes_by s c.args.span) _ _ c.partition_point.ensures.partitioned (up_to_parted c.args.spans.now c.requires c.args.span) (λ a r q k. search rules) in
    record {
      bound = c.partition_point.ensures.bound;
      before = λ i d lt. point.0 i d (omega arith) lt;
      after = point.1;
    }
