use Rattle.std.proofs.Common.{◌≡◌, map, None, Some, refl}
use Rattle.rasta_pcap.specs.Captured.{numbered}
use Rattle.seatmelon_show.specs.Counted.{AreCounts}
use Rattle.seatmelon_show.proofs.Listed.{capture_listed, counted_as}
use Rattle.seatmelon_show.proofs.listing.list_capture.Goals as goal

pub returns-clause-listed : goal.returns-clause-listed
returns-clause-listed g c =
    let opened = c.in_ok-records.ensures in
    let last = c.walk_records.new.visitor in
    let same = c.in_ok-walk_records.ensures.same in
    capture_listed c.args.params.now c.args.choice.now last.listing
    (λ l done. AreCounts l.params.now l.choice.now (map numbered done) l.listing.counts × (l.listing.fault ≡ None))
    (λ l done fault. AreCounts l.params.now l.choice.now (map numbered done) l.listing.counts × (l.listing.fault ≡ Some fault))
    last c.last_record.result c.last_record.ensures.value
    (λ done h. (counted_as last.params.now c.args.params.now last.choice.now c.args.choice.now done last.listing.counts same.0 same.1 h.0, h.1))
    (λ done f h. (counted_as last.params.now c.args.params.now last.choice.now c.args.choice.now done last.listing.counts same.0 same.1 h.0, h.1))
    (record { packets = refl; listed = refl; other_codes = refl }, refl)
    (g.R.Source.remaining c.args.reader.now) (g.R.Source.remaining c.open.new.reader) c.in_ok-records.records opened.opened opened.unit opened.start.0 c.in_ok-walk_records.ensures.seen
