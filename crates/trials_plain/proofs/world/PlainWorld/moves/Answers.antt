use Rattle.std.proofs.Common.{◌∙◌, map, sym, subst, IfOk, IsTrue}
use Rattle.rasta_pcap.specs.declared.fault.Side.TheVariants.{Client, Server}
use Rattle.rasta_udp.specs.Frame.{packet_of}
use Rattle.rasta_check.specs.Model.World.{World, Step}
use Rattle.trials_plain.specs.Moving.{JudgedWorld}
use Rattle.trials_plain.proofs.Moving.{base_kept, steps}
use Rattle.trials_plain.proofs.world.PlainWorld.moves.Goals as goal

pub invariant_of-self : goal.invariant_of-self
invariant_of-self c =
    let s = c.self.inside in
    let base = base_kept s.client.params s.server.station (map packet_of s.crossed.items) s.client c.moves.new.self c.args.what (map packet_of c.moves.new.crossed.items) c.moves.result c.moves.ensures.answer c.moves.ensures.station in
    (c.self.invariant.0 ∙ sym c.moves.ensures.params, c.self.invariant.1 ∙ sym base)

pub invariant_of-self-in-Server : goal.invariant_of-self-in-Server
invariant_of-self-in-Server c =
    let s = c.self.inside in
    let m = c.moves-in-Server in
    let base = base_kept s.server.params s.client.station (map packet_of s.crossed.items) s.server m.new.self c.args.what (map packet_of m.new.crossed.items) m.result m.ensures.answer m.ensures.station in
    (m.ensures.params ∙ c.self.invariant.0, base ∙ c.self.invariant.1)

pub returns-in-Client-clause-step : goal.returns-in-Client-clause-step
returns-in-Client-clause-step c =
    let s = c.self.inside in
    let m = c.moves in
    let w : World = record { client = s.client.station; server = s.server.station; crossed = map packet_of s.crossed.items } in
    let next : World = record { client = m.new.self.station; server = s.server.station; crossed = map packet_of m.new.crossed.items } in
    subst (λ (v : JudgedWorld). IfOk m.result (λ moved. IsTrue moved → Step v.params v.world next)) c.self.view_is
    (steps s.client.params w Client c.args.what m.new.self.station (map packet_of m.new.crossed.items) m.result m.ensures.answer)

pub returns-in-Server-clause-step : goal.returns-in-Server-clause-step
returns-in-Server-clause-step c =
    let s = c.self.inside in
    let m = c.moves-in-Server in
    let w : World = record { client = s.client.station; server = s.server.station; crossed = map packet_of s.crossed.items } in
    let next : World = record { client = s.client.station; server = m.new.self.station; crossed = map packet_of m.new.crossed.items } in
    subst (λ (v : JudgedWorld). IfOk m.result (λ moved. IsTrue moved → Step v.params v.world next)) c.self.view_is
    (subst (λ p. IfOk m.result (λ moved. IsTrue moved → Step p w next)) c.self.invariant.0
    (steps s.server.params w Server c.args.what m.new.self.station (map packet_of m.new.crossed.items) m.result m.ensures.answer))
