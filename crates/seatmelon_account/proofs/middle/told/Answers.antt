use Rattle.std.proofs.Common.{◌∙◌, List, ap, flat_map, nat_lt, refl, subst}
use Rattle.rasta_pcap.specs.declared.fault.Side.TheVariants.{Client, Server}
use Rattle.rasta_pdu.specs.Params.{Parameters}
use Rattle.rasta_check.specs.declared.resent.ResentUnit.{ResentUnit}
use Rattle.rasta_check.specs.declared.sights.ShownUnit.{ShownUnit}
use Rattle.seatmelon_middle.specs.Counts.{messages_captured}
use Rattle.seatmelon_account.specs.Middle.{AreToldSo, IsShownDirection, left_out_units, opens, packets_in, resent_told}
use Rattle.seatmelon_account.proofs.middle.told.Goals as goal

pub returns : goal.returns
returns c =
    let p = c.args.reading.now.store.params in
    let packets = packets_in c.args.reading.now in record {
      lists = c.args.lists.now;
      shown = c.requires;
      packets = refl;
      opening = c.is_opening.ensures ∙ ap opens c.pdu_at.ensures;
      has_code = ap (nat_lt 0) c.code_length.ensures.value ∙ ap (λ (q : Parameters). nat_lt 0 q.code_length) c.params.ensures.value;
      counts = c.of.ensures;
      client_left_out = c.count_left_out.ensures ∙ ap (λ (units : List ShownUnit). messages_captured (left_out_units units)) c.deref-3.ensures.value;
      server_left_out = c.count_left_out-2.ensures ∙ ap (λ (units : List ShownUnit). messages_captured (left_out_units units)) c.deref-4.ensures.value;
      client = subst (λ (units : List ShownUnit). IsShownDirection Client p packets units c.in_ok-direction.field-0) c.deref.ensures.value c.in_ok-direction.ensures;
      server = subst (λ (units : List ShownUnit). IsShownDirection Server p packets units c.in_ok-direction-2.field-0) c.deref-2.ensures.value c.in_ok-direction-2.ensures;
      client_resent = subst (λ (units : List ResentUnit). AreToldSo (flat_map (resent_told p packets) units) c.in_ok-resent.field-0.items) c.deref-5.ensures.value c.in_ok-resent.ensures;
      server_resent = subst (λ (units : List ResentUnit). AreToldSo (flat_map (resent_told p packets) units) c.in_ok-resent-2.field-0.items) c.deref-6.ensures.value c.in_ok-resent-2.ensures;
    }
