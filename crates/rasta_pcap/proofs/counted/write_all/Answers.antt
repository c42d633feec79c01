use Rattle.std.proofs.lemmas.List.{take-append-drop}
use Rattle.std.proofs.Common.{◌≡◌, ◌∙◌, ◌++◌, ◌+◌, ℕ, List, [], length, length-append, refl, ap, sym, take, append_assoc, arith}
use Rattle.std.proofs.lemmas.Grind.{common_steps}
use Rattle.std.proofs.lemmas.Bool.Decides.{nat_tests}
use Rattle.std.proofs.KnownBytes.{Appends-trans}
use Rattle.rasta_pcap.proofs.counted.write_all.Goals as goal

-- no bytes have no rest
no_rest : (front rest bytes : List ℕ) → bytes ≡ [] → bytes ≡ front ++ rest → length rest ≡ 0
no_rest front rest bytes none split =
    let size : 0 ≡ length front + length rest = ap length (sym none ∙ split) ∙ length-append front rest in
    omega arith

pub loop-rest-preserved : goal.loop-rest-preserved
loop-rest-preserved g c =
    let front = c.loop-rest.invariant.1.0 in
    let part = take c.in-Ok.n c.loop-rest.rest.now in
    let whole : front ++ c.loop-rest.rest.now ≡ (front ++ part) ++ c.split_at.result.1.now =
    ap (λ l. front ++ l) (sym (take-append-drop c.in-Ok.n c.loop-rest.rest.now) ∙ ap (λ l. part ++ l) (sym c.split_at.ensures.back))
    ∙ sym (append_assoc front part c.split_at.result.1.now) in (
      grind (arith, common_steps),
      (
        front ++ part,
        Appends-trans (g.W.Sink.contents c.args.writer.now) (g.W.Sink.contents c.loop-rest.writer)
            (g.W.Sink.contents c.write.new.self) front part c.loop-rest.invariant.1.1 c.in-Ok.ensures.bytes,
        c.loop-rest.invariant.1.2 ∙ whole,
      ),
      λ none. let ended = no_rest front c.loop-rest.rest.now c.args.bytes.now none c.loop-rest.invariant.1.2 in
          absurd (grind (arith, nat_tests, ended)),
    )

pub returns-clause-none : goal.returns-clause-none
returns-clause-none g c none = (refl, c.loop-rest.invariant.2 none)

pub returns-in-Ok-eq0-clause-none : goal.returns-in-Ok-eq0-clause-none
returns-in-Ok-eq0-clause-none g c none =
    let ended = no_rest c.loop-rest.invariant.1.0 c.loop-rest.rest.now c.args.bytes.now none c.loop-rest.invariant.1.2 in
    absurd (grind (arith, nat_tests, ended))
