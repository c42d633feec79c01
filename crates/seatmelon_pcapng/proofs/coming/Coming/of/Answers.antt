use Rattle.std.proofs.Common.{arith}
use Rattle.seatmelon_pcapng.proofs.Comings.{tells-block, tells-refused, tells-wrong_front}
use Rattle.seatmelon_pcapng.proofs.coming.Coming.of.Goals as goal

pub returns-in-Err : goal.returns-in-Err
returns-in-Err c = tells-wrong_front c.args.known c.args.interfaces.now c.args.bytes.now c.in-Err.reason (omega arith) c.in-Err.ensures.value

pub returns-in-Ok-turn_of : goal.returns-in-Ok-turn_of
returns-in-Ok-turn_of c =
    tells-block c.args.known c.args.interfaces.now c.args.bytes.now c.in-Ok.front (omega arith) c.in-Ok.ensures.value c.in-Ok-turn_of.turn (omega arith)
    c.in-Ok-turn_of.ensures.value c.in-Ok-turn_of.ensures.within

pub returns-in-Err-turn_of : goal.returns-in-Err-turn_of
returns-in-Err-turn_of c =
    tells-refused c.args.known c.args.interfaces.now c.args.bytes.now c.in-Ok.front (omega arith) c.in-Ok.ensures.value c.in-Err-turn_of.reason (omega arith)
    c.in-Err-turn_of.ensures.value
