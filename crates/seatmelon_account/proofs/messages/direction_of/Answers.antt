use Rattle.std.proofs.Common.{◌∙◌, ap, is_some, map, nat_lt, refl, sym}
use Rattle.std.proofs.lemmas.List.{length-map}
use Rattle.rasta_check.specs.Verdict.Listed.{listed_of}
use Rattle.seatmelon_account.proofs.SentMessages.{is_listed, told_as_taken}
use Rattle.seatmelon_account.proofs.messages.direction_of.Goals as goal

pub returns-clause-direction : goal.returns-clause-direction
returns-clause-direction c =
    let messages = c.in_ok-messages_of.field-0.items in
    let made = c.in_ok-messages_of.ensures in record {
      end = refl;
      count = sym (length-map c.args.listed.now listed_of);
      messages = record {
        all = made.all;
        numbered = λ i m e. (made.numbered i m e).0;
        taken = told_as_taken _ _ messages c.requires made.numbered made.all;
      };
      first = λ i m e. ap is_some (made.numbered i m e).1 ∙ is_listed (map listed_of c.args.listed.now) i
          ∙ ap (nat_lt i) (length-map c.args.listed.now listed_of);
    }
