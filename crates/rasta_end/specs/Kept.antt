-- How an end keeps its state: what its parts stand for.
use Rattle.std.specs.Prelude.{◌≡◌, ℕ, Bool, true, false, List, [], ◌∷◌, ◌++◌, map, Option, Some, None}
use Rattle.std.specs.Borrow.{Bor}
use Rattle.rasta_pdu.specs.declared.kind.Kind.TheVariants.{Heartbeat}
use Rattle.rasta_pdu.specs.Pdu.{Empty, value_of}
use Rattle.rasta_end.specs.declared.made_pdus.MadePdu.{MadePdu}
use Rattle.rasta_end.specs.declared.made_pdus.QuietPdu.{QuietPdu}
use Rattle.rasta_end.specs.declared.made_pdus.MadePdus.TheInside.{Inside}
use Rattle.rasta_end.specs.declared.owed.Owed.{Owed}
use Rattle.rasta_end.specs.declared.owed.Owed.TheVariants.{RetransmissionRequest as OweRetransmissionRequest}
use Rattle.rasta_end.specs.declared.owed.Owes.{Owes}
use Rattle.rasta_end.specs.State.{Made, kinds}
use Rattle.rasta_end.specs.MakeRule.{contents}
use Rattle.rasta_end.specs.Units.{all_units_conveyed, responses_in}
use Rattle.rasta_end.specs.TakeRule.{resends}

abbrev pub owed_reply : Option Owed → List Owed
owed_reply None = []
owed_reply (Some owed) = owed ∷ []

abbrev pub owed_request : Bool → List Owed
owed_request true = OweRetransmissionRequest ∷ []
owed_request false = []

-- the owed list: a reply, then units, then a request
abbrev pub owed_list : Owes → List Owed
owed_list o = owed_reply o.reply ++ (resends o.unit o.units ++ owed_request o.request)

abbrev pub first_owed : List Owed → Option Owed
first_owed [] = None
first_owed (o ∷ os) = Some o

-- what contracts see of the PDUs that an end made and of the asks
pub record OwnPdus : Type 0 where
  pub quiet : Option QuietPdu
  pub made : List Made
  pub asks : List ℕ

abbrev pub made_of : MadePdu → Made
made_of m = record { pdu = (value_of m.pdu).safety; unit = m.unit }

abbrev pub conveyed_of : MadePdu → ℕ
conveyed_of m = m.conveyed

abbrev pub quiet_made : Option QuietPdu → List Made
quiet_made None = []
quiet_made (Some q) =
    record {
      pdu = record { kind = Heartbeat; sn = q.sn; cs = q.cs; ts = q.ts; cts = q.cts; body = Empty };
      unit = None;
    } ∷ []

-- how many PDUs stand before those that were made since the start
abbrev pub quiet_count : Option QuietPdu → ℕ
quiet_count None = 0
quiet_count (Some q) = 1

abbrev pub quiet_units : Option QuietPdu → List ℕ
quiet_units None = []
quiet_units (Some q) = 0 ∷ []

abbrev pub made_inside : Inside → List Made
made_inside o = quiet_made o.quiet ++ map made_of o.made.items

-- the units conveyed through each position and the contents of the units are kept beside the PDUs
pub record AreOwn (o : Inside) : Type 0 where
  pub units : quiet_units o.quiet ++ map conveyed_of o.made.items
      ≡ all_units_conveyed o.asks.items (kinds (made_inside o))
  pub contents : map (λ (b : Bor (List ℕ)). b.now) o.contents.items ≡ contents (made_inside o)
  pub responses : o.responses ≡ responses_in (kinds (made_inside o))
