use Rattle.std.proofs.Common.{rules, ◌+◌, ◌-◌, length, ap, arith, sym, subst, take, drop}
use Rattle.std.specs.List.{Contains}
use Rattle.seatmelon_audit.specs.Hosts.{bucket_of}
use Rattle.seatmelon_audit.proofs.Knowing.{begin_of, bucket_inside, empty_part, in_part, place_of}
use Rattle.seatmelon_audit.proofs.ways.Ways.between.Goals as goal

pub index-start-requires : goal.index-start-requires
index-start-requires c =
    let inside = bucket_inside c.args.hosts c.args.self.now.buckets c.args.self.now.some in
    let size = c.args.self.now.size in omega (arith, inside, c.bucket_of-bucket.ensures, size)

pub index-end-requires : goal.index-end-requires
index-end-requires c =
    let inside = bucket_inside c.args.hosts c.args.self.now.buckets c.args.self.now.some in
    let size = c.args.self.now.size in omega (arith, inside, c.bucket_of-bucket.ensures, size)

pub offset_bounds-deref-start : goal.offset_bounds-deref-start
offset_bounds-deref-start c =
    let ways = c.args.self.now in
    let inside = bucket_inside c.args.hosts ways.buckets ways.some in
    let few = place_of ways.sorted.items ways.starts.items c.bucket_of-bucket.result c.index-start.result.now ways.within
    (let size = ways.size in omega (arith, inside, c.bucket_of-bucket.ensures, size)) c.index-start.ensures in
    let same = ap length c.deref.ensures.value in
    search (rules, few, same)

pub slice_bounds-result-end : goal.slice_bounds-result-end
slice_bounds-result-end c =
    let ways = c.args.self.now in
    let inside = bucket_inside c.args.hosts ways.buckets ways.some in
    let few = place_of ways.sorted.items ways.starts.items (c.bucket_of-bucket.result + 1) c.index-end.result.now ways.within
    (let size = ways.size in omega (arith, inside, c.bucket_of-bucket.ensures, size)) c.index-end.ensures in
    let same = ap length c.deref.ensures.value in
    search (rules, few, same)

pub returns-then-start-end : goal.returns-then-start-end
returns-then-start-end c w is h =
    let ways = c.args.self.now in
    let bucket = c.bucket_of-bucket.result in
    let same = c.bucket_of-bucket.ensures in
    let inside = bucket_inside c.args.hosts ways.buckets ways.some in
    let size = ways.size in
    let lower = begin_of ways.buckets ways.sorted.items ways.starts.items bucket (bucket_of c.args.hosts ways.buckets) c.index-start.result.now ways.order same
    (omega (arith, inside, same, size)) c.index-start.ensures in
    let upper = begin_of ways.buckets ways.sorted.items ways.starts.items (bucket + 1) (bucket_of c.args.hosts ways.buckets + 1) c.index-end.result.now ways.order (ap (λ n. n + 1) same)
    (omega (arith, inside, same, size)) c.index-end.ensures in
    subst (λ l. Contains (take (c.index-end.result.now - c.index-start.result.now) (drop c.index-start.result.now l)) w) (sym c.deref.ensures.value)
    (in_part ways.buckets ways.sorted.items c.args.hosts c.index-start.result.now c.index-end.result.now lower upper w is h)

pub returns-else-start-end : goal.returns-else-start-end
returns-else-start-end c w is h =
    let ways = c.args.self.now in
    let bucket = c.bucket_of-bucket.result in
    let same = c.bucket_of-bucket.ensures in
    let inside = bucket_inside c.args.hosts ways.buckets ways.some in
    let size = ways.size in
    let lower = begin_of ways.buckets ways.sorted.items ways.starts.items bucket (bucket_of c.args.hosts ways.buckets) c.index-start.result.now ways.order same
    (omega (arith, inside, same, size)) c.index-start.ensures in
    let upper = begin_of ways.buckets ways.sorted.items ways.starts.items (bucket + 1) (bucket_of c.args.hosts ways.buckets + 1) c.index-end.result.now ways.order (ap (λ n. n + 1) same)
    (omega (arith, inside, same, size)) c.index-end.ensures in
    absurd (empty_part ways.buckets ways.sorted.items c.args.hosts c.index-start.result.now c.index-end.result.now lower upper (omega (arith, c.if-start-end.false)) w is h)
