use Rattle.std.proofs.Common.{◌<◌, ◌^◌, length, map, arith}
use Rattle.std.proofs.lemmas.List.{length-map}
use Rattle.rasta_pcap.specs.Captured.{numbered}
use Rattle.seatmelon_show.proofs.Counted.{counted_next}
use Rattle.seatmelon_show.proofs.Listed.{counted_more, where_ok}
use Rattle.seatmelon_show.proofs.listing.ListerVisitor.visit.Goals as goal

pub returns-clause-seen : goal.returns-clause-seen
returns-clause-seen g c = where_ok c.list_record.result _ _ c.list_record.ensures.counted
    (λ counted done q is next short timed h.
    let lister = c.args.self.now in
    let size = length-map done numbered in
    let few : length (map numbered done) < 2 ^ 32 = omega (arith, size, short) in (
      counted_more lister.params.now lister.choice.now done q (c.args.found.now.number, c.args.found.now.bytes.now) _ is
          (counted_next lister.params.now lister.choice.now (map numbered done) (c.args.found.now.number, c.args.found.now.bytes.now) lister.listing.counts c.list_record.new.counts counted h.0 few),
      h.1,
    ))
