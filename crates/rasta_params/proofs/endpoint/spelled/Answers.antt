use Rattle.std.proofs.Common.{◌≡◌, arith}
use Rattle.rasta_params.proofs.EndpointTexts.{parsed}
use Rattle.rasta_params.proofs.endpoint.spelled.Goals as goal
use Rattle.rasta_params.proofs.endpoint.spelled.Goals.{else-n-most-via-then-n-most+else-is_text_of, else-n-most-via-else-n-most}

pub returns-else-n-most-clause-none : goal.returns-else-n-most-clause-none
returns-else-n-most-clause-none c n small e =
    let read = parsed n c.args.most c.args.text.now c.parse.result (omega arith) small e c.parse.ensures.value.0 in
    let same : n ≡ c.in-Ok.n = cc (read, c.in-Ok.is) in
    elim c.else-n-most.branch [
      | else-n-most-via-then-n-most+else-is_text_of w ↦
          let yes = w.is_text_of.ensures.1 (rw (← same) e) in absurd (cc (yes, w.if-is_text_of.false))
      | else-n-most-via-else-n-most w ↦ omega (arith, same, w.if-n-most.false)
    ]

pub returns-in-Err-clause-none : goal.returns-in-Err-clause-none
returns-in-Err-clause-none c n small e =
    let read = parsed n c.args.most c.args.text.now c.parse.result (omega arith) small e c.parse.ensures.value.0 in
    absurd (cc (read, c.in-Err.is))
