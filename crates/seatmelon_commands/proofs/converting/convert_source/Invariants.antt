use Rattle.std.proofs.Common.{◌≡◌, [], IfSome, vec_len}
use Rattle.seatmelon_commands.specs.Converted.{IsWritten}
use Rattle.seatmelon_commands.proofs.converting.convert_source.Given as goal

-- what was given of the capture of a known file is written
abbrev pub invariant-loop : goal.invariant-loop
invariant-loop g l = record {
  room : vec_len l.buffer ≡ 65536;
  written : IfSome (g.S.Source.remaining l.fn.source) (λ file.
      IsWritten g.S.Source.remaining g.S.Source.notes l.capture (g.S.Source.notes l.fn.source []) file
      (g.W.Sink.contents l.fn.writer) (g.W.Sink.contents l.writer));
}
