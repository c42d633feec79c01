use Rattle.std.proofs.Common.{arith, ◌∙◌}
use Rattle.rasta_sha256.proofs.Digests.{digest_bytes_all}
use Rattle.rasta_sha256.proofs.digest_of.Goals as goal

pub returns : goal.returns
returns c = c.write_u32_into.ensures ∙ digest_bytes_all c.args.hash.now (omega arith)
