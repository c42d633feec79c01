use Rattle.std.proofs.Common.{refl}
use Rattle.rasta_commands.specs.Forms.{certificate_unread, run_failed}
use Rattle.rasta_commands.proofs.GivingUp.{if_err, if_ok, of_parameters, untouched}
use Rattle.rasta_commands.proofs.running.run_form.Goals as goal

pub returns-in-Err-clause-err : goal.returns-in-Err-clause-err
returns-in-Err-clause-err g c = of_parameters c.args.form.now _ _ c.in-Err.fault refl refl refl c.in-Err.ensures.err

pub returns-in-Err-clause-silent : goal.returns-in-Err-clause-silent
returns-in-Err-clause-silent g c = untouched c.args.form.now c.in-Err.fault _

pub returns-in-Err-read_certificate-clause-err : goal.returns-in-Err-read_certificate-clause-err
returns-in-Err-read_certificate-clause-err g c =
    certificate_unread c.in-Ok.params c.in-Ok.ensures.ok c.in-Err-read_certificate.ensures.err refl refl

pub returns-in-Err-read_certificate-clause-silent : goal.returns-in-Err-read_certificate-clause-silent
returns-in-Err-read_certificate-clause-silent g c = untouched c.args.form.now c.in-Err-read_certificate.fault _

pub returns-clause-err : goal.returns-clause-err
returns-clause-err g c =
    if_err c.run_command.result
    (λ f fault begun. run_failed c.in-Ok.params c.in-Ok.ensures.ok c.in-Ok-read_certificate.text.items c.in-Ok-read_certificate.ensures.ok fault begun)
    c.run_command.ensures.err c.run_command.ensures.begun

pub returns-clause-headline : goal.returns-clause-headline
returns-clause-headline g c =
    if_ok c.run_command.result (λ status headline. (c.in-Ok.params, c.in-Ok.ensures.ok, headline)) c.run_command.ensures.headline

pub returns-clause-decided : goal.returns-clause-decided
returns-clause-decided g c =
    if_ok c.run_command.result (λ status decided. (c.in-Ok.params, c.in-Ok.ensures.ok, decided)) c.run_command.ensures.decided
