use Rattle.rasta_pcap.proofs.stream.make_room.Goals as goal

pub returns-then-len-clause-err : goal.returns-then-len-clause-err
returns-then-len-clause-err c = tt
