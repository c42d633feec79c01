use Rattle.std.proofs.Common.{◌≡◌, ◌<◌, ◌⊎◌, ◌+◌, ◌++◌, ℕ, Option, Some, Result, Ok, sym, ap, ◌∙◌, subst, inl, inr, take, length, rules, arith}
use Rattle.std.proofs.KnownBytes.{Consumes-trans}
use Rattle.rasta_pcap.specs.declared.fault.Fault.{Fault}
use Rattle.rasta_pcap.specs.declared.time.CaptureTime.{CaptureTime}
use Rattle.rasta_pcap.specs.Devices.{HasFailed}
use Rattle.rasta_pcap.specs.Capture.{captured_length, max_captured}
use Rattle.rasta_pcap.specs.Extent.{ReadsWithinRecord}
use Rattle.rasta_pcap.specs.Filling.{IsFilled}
use Rattle.rasta_pcap.specs.Fronts.{front_of}
use Rattle.rasta_pcap.specs.Stream.{ReadsJust, bytes_in, order_in, unit_in, count_in, room_in, FailsWithin, LacksMemory, RefusesRecord}
use Rattle.rasta_pcap.specs.Times.{time_of}
use Rattle.rasta_pcap.proofs.Extents.{filled-ReadsUpTo, ReadsWithinRecord-bytes, ReadsWithinRecord-header}
use Rattle.rasta_pcap.proofs.Fronts.{front_of-some, lacks_memory, reads_record, reads_up_to, refuses_body, refuses_front, taken_front}
use Rattle.rasta_pcap.proofs.Noting.{PassesOn-then}
use Rattle.rasta_pcap.proofs.stream.RecordReader.read_record.Goals as goal

pub returns-in_err-captured-clause-err : goal.returns-in_err-captured-clause-err
returns-in_err-captured-clause-err g c =
    let old = g.S.Source.remaining c.args.reader.now in
    let new = g.S.Source.remaining c.fill.new.reader in
    let refused = refuses_front (order_in c.args.self.now) (count_in c.args.self.now) (take c.in_ok-filled.filled c.fill.new.buf)
    c.in_err-captured.field-0.0 old new c.in_ok-filled.ensures.filled (sym c.in_err-captured.ensures) in
    search rules

abbrev found : Option ℕ → Result (Option ℕ) Fault
found o = Ok o

pub returns-in_err-read-clause-err : goal.returns-in_err-read-clause-err
returns-in_err-read-clause-err g c =
    let old = g.S.Source.remaining c.args.reader.now in
    let mid = g.S.Source.remaining c.fill.new.reader in
    let new = g.S.Source.remaining c.read.new.reader in
    let old_count = g.S.Source.failure_count c.args.reader.now in
    let new_count = g.S.Source.failure_count c.read.new.reader in
    let order = order_in c.args.self.now in
    let count = count_in c.args.self.now in
    let memory = room_in c.args.self.now in
    let front = take c.in_ok-filled.filled c.fill.new.buf in
    let filled : IsFilled 16 old mid front = c.in_ok-filled.ensures.filled in
    let captured = c.in-Some.captured in
    let fault = c.in_err-read.field-0.0 in
    let said : front_of order count front ≡ Ok (Some captured) = sym c.in_ok-captured.ensures ∙ ap found c.in-Some.is in
    let told : FailsWithin (16 + max_captured) fault old_count new_count old new ⊎ (LacksMemory order memory fault old new ⊎ RefusesRecord order count fault old new) =
    elim c.in_err-read.ensures.err [
      | inl m ↦ inr (inl (
        m.0,
        subst (λ (s : g.row.S.Denot). ReadsJust (λ rest after. memory < captured_length order (take 16 rest)) old (g.S.Source.remaining s)) (sym m.2)
            (lacks_memory order count captured memory front old mid filled said m.1),
      ))
      | inr r ↦ inl (
        r.0,
        subst (λ n. HasFailed n new_count) c.in_ok-filled.ensures.steady r.1,
        reads_up_to max_captured captured front old mid new filled (front_of-some order count front captured filled.within said).bounded r.2,
      )
    ] in
    search rules

pub returns-then-lend-captured-clause-err : goal.returns-then-lend-captured-clause-err
returns-then-lend-captured-clause-err g c =
    let old = g.S.Source.remaining c.args.reader.now in
    let mid = g.S.Source.remaining c.fill.new.reader in
    let new = g.S.Source.remaining c.read.new.reader in
    let order = order_in c.args.self.now in
    let count = count_in c.args.self.now in
    let front = take c.in_ok-filled.filled c.fill.new.buf in
    let said : front_of order count front ≡ Ok (Some c.in-Some.captured) = sym c.in_ok-captured.ensures ∙ ap found c.in-Some.is in
    let body = bytes_in c.read.new.self in
    let same = ap length c.lend.ensures.bytes in
    inr (inr (subst (λ (f : Fault). RefusesRecord order count f old new) (sym c.at.ensures)
    (refuses_body order count c.in-Some.captured front body old mid new c.in_ok-filled.ensures.filled said c.in_ok-read.ensures.filled (omega arith))))

pub returns-clause-found : goal.returns-clause-found
returns-clause-found g c =
    let old = g.S.Source.remaining c.args.reader.now in
    let mid = g.S.Source.remaining c.fill.new.reader in
    let new = g.S.Source.remaining c.read.new.reader in
    let order = order_in c.args.self.now in
    let count = count_in c.args.self.now in
    let front = take c.in_ok-filled.filled c.fill.new.buf in
    let said : front_of order count front ≡ Ok (Some c.in-Some.captured) = sym c.in_ok-captured.ensures ∙ ap found c.in-Some.is in
    let body = bytes_in c.read.new.self in
    let same = ap length c.lend.ensures.bytes in
    reads_record order count c.in-Some.captured front body old mid new c.in_ok-filled.ensures.filled said c.in_ok-read.ensures.filled (omega arith)

abbrev timed : CaptureTime → Option CaptureTime
timed t = Some t

pub returns-clause-timed : goal.returns-clause-timed
returns-clause-timed g c =
    let old = g.S.Source.remaining c.args.reader.now in
    let mid = g.S.Source.remaining c.fill.new.reader in
    let new = g.S.Source.remaining c.read.new.reader in
    let order = order_in c.args.self.now in
    let count = count_in c.args.self.now in
    let front = take c.in_ok-filled.filled c.fill.new.buf in
    let filled : IsFilled 16 old mid front = c.in_ok-filled.ensures.filled in
    let said : front_of order count front ≡ Ok (Some c.in-Some.captured) = sym c.in_ok-captured.ensures ∙ ap found c.in-Some.is in
    let body = bytes_in c.read.new.self in
    let size : length front ≡ 16 = (front_of-some order count front c.in-Some.captured filled.within said).size in (
      front ++ body,
      Consumes-trans old mid new front body filled.consumed c.in_ok-read.ensures.filled.consumed,
      ap timed c.time_in.ensures ∙ ap (λ header. timed (time_of order (unit_in c.args.self.now) header)) (sym (taken_front front body size)),
    )

pub returns-in_err-read-clause-within : goal.returns-in_err-read-clause-within
returns-in_err-read-clause-within g c =
    let old = g.S.Source.remaining c.args.reader.now in
    let mid = g.S.Source.remaining c.fill.new.reader in
    let new = g.S.Source.remaining c.read.new.reader in
    let order = order_in c.args.self.now in
    let count = count_in c.args.self.now in
    let front = take c.in_ok-filled.filled c.fill.new.buf in
    let filled : IsFilled 16 old mid front = c.in_ok-filled.ensures.filled in
    let said : front_of order count front ≡ Ok (Some c.in-Some.captured) = sym c.in_ok-captured.ensures ∙ ap found c.in-Some.is in
    elim c.in_err-read.ensures.err [
      | inl m ↦ subst (λ (s : g.row.S.Denot). ReadsWithinRecord order old (g.S.Source.remaining s)) (sym m.2)
          (ReadsWithinRecord-header order old mid (filled-ReadsUpTo 16 front old mid filled))
      | inr r ↦ ReadsWithinRecord-bytes order count c.in-Some.captured front old mid new filled said r.2
    ]

pub returns-then-lend-captured-clause-within : goal.returns-then-lend-captured-clause-within
returns-then-lend-captured-clause-within g c =
    let mid = g.S.Source.remaining c.fill.new.reader in
    let new = g.S.Source.remaining c.read.new.reader in
    let front = take c.in_ok-filled.filled c.fill.new.buf in
    let captured = c.in-Some.captured in
    let said : front_of (order_in c.args.self.now) (count_in c.args.self.now) front ≡ Ok (Some captured) = sym c.in_ok-captured.ensures ∙ ap found c.in-Some.is in
    ReadsWithinRecord-bytes (order_in c.args.self.now) (count_in c.args.self.now) captured front (g.S.Source.remaining c.args.reader.now) mid new
    c.in_ok-filled.ensures.filled said (filled-ReadsUpTo captured (bytes_in c.read.new.self) mid new c.in_ok-read.ensures.filled)

pub returns-clause-within : goal.returns-clause-within
returns-clause-within g c =
    let mid = g.S.Source.remaining c.fill.new.reader in
    let new = g.S.Source.remaining c.read.new.reader in
    let front = take c.in_ok-filled.filled c.fill.new.buf in
    let captured = c.in-Some.captured in
    let said : front_of (order_in c.args.self.now) (count_in c.args.self.now) front ≡ Ok (Some captured) = sym c.in_ok-captured.ensures ∙ ap found c.in-Some.is in
    ReadsWithinRecord-bytes (order_in c.args.self.now) (count_in c.args.self.now) captured front (g.S.Source.remaining c.args.reader.now) mid new
    c.in_ok-filled.ensures.filled said (filled-ReadsUpTo captured (bytes_in c.read.new.self) mid new c.in_ok-read.ensures.filled)

pub returns-in_err-read-clause-passed : goal.returns-in_err-read-clause-passed
returns-in_err-read-clause-passed g c =
    PassesOn-then g.S.Source.remaining g.S.Source.notes c.args.reader.now c.fill.new.reader c.read.new.reader c.in_ok-filled.ensures.passed c.in_err-read.ensures.passed

pub returns-then-lend-captured-clause-passed : goal.returns-then-lend-captured-clause-passed
returns-then-lend-captured-clause-passed g c =
    PassesOn-then g.S.Source.remaining g.S.Source.notes c.args.reader.now c.fill.new.reader c.read.new.reader c.in_ok-filled.ensures.passed c.in_ok-read.ensures.passed

pub returns-clause-passed : goal.returns-clause-passed
returns-clause-passed g c =
    PassesOn-then g.S.Source.remaining g.S.Source.notes c.args.reader.now c.fill.new.reader c.read.new.reader c.in_ok-filled.ensures.passed c.in_ok-read.ensures.passed
