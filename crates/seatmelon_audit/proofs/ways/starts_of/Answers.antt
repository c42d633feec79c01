use Rattle.std.proofs.Common.{◌∙◌, ltb, length, rules, sym, subst, ap}
use Rattle.std.proofs.lemmas.List.Sorted.{IsPartitionPoint-from_clause, IsPartitionedBy-ltb}
use Rattle.seatmelon_audit.specs.Hosts.{bucket_of}
use Rattle.seatmelon_audit.specs.Ways.{AreStarts, AreWithin, BeginAt}
use Rattle.seatmelon_audit.specs.declared.ways.Way.{Way}
use Rattle.seatmelon_audit.proofs.Knowing.{length_pushed, more_starts, more_within, none_started, none_within}
use Rattle.seatmelon_audit.proofs.ways.starts_of.Goals as goal

pub loop-bucket-init : goal.loop-bucket-init
loop-bucket-init c = record {
  size = ap length c.new-starts.ensures.items;
  order = subst (AreStarts c.args.buckets c.args.sorted.now) (sym c.new-starts.ensures.items) (none_started c.args.buckets c.args.sorted.now);
  within = subst (AreWithin c.args.sorted.now) (sym c.new-starts.ensures.items) (none_within c.args.sorted.now);
}

pub loop-bucket-preserved : goal.loop-bucket-preserved
loop-bucket-preserved c =
    let buckets = c.args.buckets in
    let ways = c.args.sorted.now in
    let starts = c.loop-bucket.starts.items in
    let bucket = c.loop-bucket.bucket-counter in
    let size = c.loop-bucket.invariant.size in
    let pushed = c.in_ok-push.ensures.items in
    let begin : BeginAt buckets bucket ways c.partition_point.result =
    IsPartitionPoint-from_clause (λ (w : Way). ltb (bucket_of w.hosts buckets) bucket) _ _ c.partition_point.ensures.partitioned
    (IsPartitionedBy-ltb (λ (w : Way). bucket_of w.hosts buckets) _ bucket c.requires.sorted) (λ a r q k. search rules) in record {
      size = ap length pushed ∙ length_pushed starts c.partition_point.result bucket size;
      order = subst (AreStarts buckets ways) (sym pushed)
          (more_starts buckets ways starts c.partition_point.result c.loop-bucket.invariant.order (subst (λ n. BeginAt buckets n ways c.partition_point.result) (sym size) begin));
      within = subst (AreWithin ways) (sym pushed) (more_within buckets ways starts c.partition_point.result c.loop-bucket.invariant.within c.partition_point.ensures.bound);
    }
