use Rattle.std.proofs.Common.{rules}
use Rattle.seatmelon_text.proofs.json.write_bytes.Goals as goal

pub slice_bounds-room-end-in-loop-byte : goal.slice_bounds-room-end-in-loop-byte
slice_bounds-room-end-in-loop-byte g c = search rules
