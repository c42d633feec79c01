use Rattle.seatmelon_pcapng.proofs.Filled.{passed_part}
use Rattle.seatmelon_pcapng.proofs.memory.Blocks.pass.Goals as goal

pub returns : goal.returns
returns c = passed_part c.args.self.now.memory.items c.args.self.now.start c.args.self.now.end c.args.len c.requires
