use Rattle.std.proofs.Common.{arith, subst, ◌<◌, sym}
use Rattle.seatmelon_pcapng.proofs.Units.{no_nanoseconds, no_seconds, some_tens, tens_fit, twos_fit}
use Rattle.seatmelon_pcapng.proofs.time.parts_of.Goals as goal

pub pow-requires : goal.pow-requires
pow-requires c = tens_fit c.from.result (omega arith)

pub split_long-requires : goal.split_long-requires
split_long-requires c = record { some = subst (λ n. 0 < n) (sym c.pow.ensures) (some_tens c.from.result) }

pub pow-requires-in-128-to-255 : goal.pow-requires-in-128-to-255
pow-requires-in-128-to-255 c = twos_fit c.from-in-128-to-255.result (omega arith)

pub returns-in_default-clause-seconds : goal.returns-in_default-clause-seconds
returns-in_default-clause-seconds c = no_seconds c.args.resolution c.args.stamp (omega arith) (omega arith) (omega arith)

pub returns-in_default-clause-nanoseconds : goal.returns-in_default-clause-nanoseconds
returns-in_default-clause-nanoseconds c = no_nanoseconds c.args.resolution c.args.stamp (omega arith) (omega arith) (omega arith)
