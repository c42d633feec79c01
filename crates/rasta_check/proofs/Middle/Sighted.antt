-- Sights and the captured PDUs whose they are.
use Rattle.std.proofs.Common.{◌≡◌, ℕ, ◌<◌, ◌≤◌, ◌^◌, List, [], Some, slice_get, length, ap, sym, ◌∙◌}
use Rattle.byteorder.specs.Numbers.{little_number-reads_back}
use Rattle.rasta_pcap.specs.declared.fault.Side.{Side}
use Rattle.rasta_udp.specs.Frame.{Packet}
use Rattle.rasta_pdu.specs.Params.{Parameters}
use Rattle.rasta_pdu.specs.Pdu.{RedundancyPdu, messages_in, redundancy_bytes, little_at}
use Rattle.rasta_end.specs.State.{ahead_by}
use Rattle.rasta_check.specs.Capture.SentLists.{FirstCopy, IsCarried}
use Rattle.rasta_check.specs.declared.sights.Sight.{Sight}
use Rattle.rasta_check.specs.Middle.Sights.{AreSights}
use Rattle.rasta_check.specs.Internals.Conveyed.{Rise}
use Rattle.rasta_check.proofs.Middle.Rising.{rise_along}

-- ---- SNs of captured PDUs

pub sn_fits : (p : Parameters) (packets : List Packet) (side : Side) (copy : FirstCopy) → IsCarried p packets side copy → copy.pdu.safety.sn < 2 ^ 32
sn_fits p packets side copy c = c.spelled.fits.sn

sn_spelled : (p : Parameters) (side : Side) (r : RedundancyPdu) → r.safety.sn < 2 ^ 32 → little_at 4 20 (redundancy_bytes p side r) ≡ r.safety.sn
unfolding redundancy_bytes
sn_spelled p side r l = little_number-reads_back 4 r.safety.sn [] l

-- one packet spells one SN
pub sn_of_place : (p : Parameters) (packets : List Packet) (side : Side) (a b : FirstCopy) → IsCarried p packets side a → IsCarried p packets side b
    → a.place ≡ b.place → a.pdu.safety.sn ≡ b.pdu.safety.sn
sn_of_place p packets side a b c d e =
    let both : Some c.packet ≡ Some d.packet = sym c.there ∙ ap (slice_get packets) e ∙ d.there in
    let one : c.packet ≡ d.packet = cc in
    let bytes : redundancy_bytes p side a.pdu ≡ redundancy_bytes p side b.pdu = sym c.spelled.same ∙ ap (λ (x : Packet). x.payload) one ∙ d.spelled.same in
    sym (sn_spelled p side a.pdu c.spelled.fits.sn) ∙ ap (little_at 4 20) bytes ∙ sn_spelled p side b.pdu d.spelled.fits.sn

-- ---- sights

-- a sight is that of a captured PDU
pub record IsSighted (p : Parameters) (packets : List Packet) (side : Side) (base : ℕ) (s : Sight) : Type 0 where
  pub copy : FirstCopy
  pub carried : IsCarried p packets side copy
  pub place : s.place ≡ copy.place
  pub kind : s.kind ≡ copy.pdu.safety.kind
  pub key : s.key ≡ ahead_by copy.pdu.safety.sn base
  pub messages : s.messages ≡ length (messages_in copy.pdu.safety.body)

-- these sights are all that of captured PDUs
abbrev pub AreSighted : Parameters → List Packet → Side → ℕ → List Sight → Type 0
AreSighted p packets side base sights = (i : ℕ) (s : Sight) → slice_get sights i ≡ Some s → IsSighted p packets side base s

module _ (p : Parameters) (packets : List Packet) (side : Side) (base : ℕ) (sights : List Sight) (a : AreSights p packets side base sights) where
  pub are_sighted : AreSighted p packets side base sights
  are_sighted i s g = (let x = a.sighted i s g in record { copy = x.0; carried = x.1; place = x.2; kind = x.3; key = x.4; messages = x.5 })

  pub they_rise : Rise sights
  they_rise = rise_along sights a.rising

  -- the sight of a captured PDU
  pub record HasSight (copy : FirstCopy) : Type 0 where
    pub index : ℕ
    pub sight : Sight
    pub there : slice_get sights index ≡ Some sight
    pub no_later : sight.place ≤ copy.place
    pub kind : sight.kind ≡ copy.pdu.safety.kind
    pub key : sight.key ≡ ahead_by copy.pdu.safety.sn base

  pub sight_of : (copy : FirstCopy) → IsCarried p packets side copy → HasSight copy
  sight_of copy c = (let x = a.all copy c in record { index = x.0; sight = x.1; there = x.2; no_later = x.3; kind = x.4; key = x.5 })
