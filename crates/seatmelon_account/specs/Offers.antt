-- What the ends offer at the opening.
use Rattle.std.specs.Prelude.{◌≡◌, ◌≢◌, ◌⊎◌, ℕ, List, Option, None, Some, slice_get}
use Rattle.rasta_pcap.specs.declared.fault.Side.{Side}
use Rattle.rasta_pcap.specs.declared.fault.Side.TheVariants.{Client, Server}
use Rattle.rasta_pdu.specs.Pdu.{SafetyBody, Opening, Bye, Messages, Empty}
use Rattle.rasta_check.specs.Capture.SentLists.{FirstCopy}
use Rattle.rasta_check.specs.Capture.Crossing.{Crossing}
use Rattle.seatmelon_account.specs.declared.offers.Offer.{Offer}
use Rattle.seatmelon_account.specs.declared.offers.Offers.{Offers}
use Rattle.seatmelon_account.specs.declared.offers.Versions.{Versions}

-- the N_sendmax and the version of an opening
abbrev pub sendmax_in : SafetyBody → Option ℕ
sendmax_in (Opening version sendmax reserved) = Some sendmax
sendmax_in (Bye detail reason) = None
sendmax_in (Messages payload) = None
sendmax_in Empty = None

abbrev pub version_in : SafetyBody → Option (List ℕ)
version_in (Opening version sendmax reserved) = Some version
version_in (Bye detail reason) = None
version_in (Messages payload) = None
version_in Empty = None

abbrev pub sendmax_by : Option FirstCopy → Option ℕ
sendmax_by None = None
sendmax_by (Some copy) = sendmax_in copy.pdu.safety.body

abbrev pub version_by : Option FirstCopy → Option (List ℕ)
version_by None = None
version_by (Some copy) = version_in copy.pdu.safety.body

-- those that an end offers: of what it sent first, if that is a PDU of the opening
abbrev pub sendmax_of : List FirstCopy → Option ℕ
sendmax_of sent = sendmax_by (slice_get sent 0)

abbrev pub version_of : List FirstCopy → Option (List ℕ)
version_of sent = version_by (slice_get sent 0)

-- the offer of an end is told where it isn't what is recorded
abbrev pub IsOffer : ℕ → Side → List FirstCopy → Option Offer → Type 0
IsOffer recorded end sent None = (sendmax_of sent ≡ None) ⊎ (sendmax_of sent ≡ Some recorded)
IsOffer recorded end sent (Some o) = (sendmax_of sent ≡ Some o.offered) × (o.offered ≢ recorded)
    × (o.recorded ≡ recorded) × (o.end ≡ end)

-- the versions are told where they differ
abbrev pub AreVersions : List FirstCopy → List FirstCopy → Option Versions → Type 0
AreVersions client server None = (version_of client ≡ None)
    ⊎ ((version_of server ≡ None) ⊎ (version_of client ≡ version_of server))
AreVersions client server (Some v) = (version_of client ≡ Some v.client) × (version_of server ≡ Some v.server)
    × (v.client ≢ v.server)

pub record AreOffers (recorded : ℕ) (k : Crossing) (o : Offers) : Type 0 where
  pub client : IsOffer recorded Client k.client o.client
  pub server : IsOffer recorded Server k.server o.server
  pub versions : AreVersions k.client k.server o.versions
