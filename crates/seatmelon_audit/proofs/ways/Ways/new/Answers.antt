use Rattle.std.proofs.Common.{rules, subst, sym}
use Rattle.std.proofs.lemmas.List.Sorted.{IsNonDecreasingBy-from_sort_by_key}
use Rattle.seatmelon_audit.specs.Hosts.{bucket_of}
use Rattle.seatmelon_audit.specs.Ways.{AreSorted, AreStarts, AreWithin}
use Rattle.seatmelon_audit.specs.declared.ways.Way.{Way}
use Rattle.seatmelon_audit.proofs.Knowing.{sorted_knows}
use Rattle.seatmelon_audit.proofs.ways.Ways.new.Goals as goal

pub starts_of-requires-clause-sorted : goal.starts_of-requires-clause-sorted
starts_of-requires-clause-sorted c =
    subst (AreSorted c.bucket_count-buckets.result) (sym c.deref.ensures.value)
    (IsNonDecreasingBy-from_sort_by_key (λ (w : Way). bucket_of w.hosts c.bucket_count-buckets.result) _ c.sort_unstable_by_key.ensures.sorted (λ a r q k. search rules))

pub invariant_of-result : goal.invariant_of-result
invariant_of-result c = record {
  some = c.bucket_count-buckets.ensures.some;
  size = c.in_ok-starts.ensures.size;
  order = subst (λ l. AreStarts c.bucket_count-buckets.result l c.in_ok-starts.starts.items) c.deref.ensures.value c.in_ok-starts.ensures.order;
  within = subst (λ l. AreWithin l c.in_ok-starts.starts.items) c.deref.ensures.value c.in_ok-starts.ensures.within;
}

pub returns : goal.returns
returns c = sorted_knows _ _ c.args.params.now c.sort_unstable_by_key.ensures.permutation c.in_ok-sorted.ensures
