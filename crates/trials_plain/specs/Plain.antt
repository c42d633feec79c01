-- What the values of the plain program stand for.
use Rattle.std.specs.Prelude.{ℕ, ◌≤◌, List, [], ◌∷◌, map}
use Rattle.rasta_pdu.specs.Pdu.{SafetyPdu, value_of, body_of, messages_in}
use Rattle.trials_plain.specs.declared.taken.FirstCopy.{FirstCopy as PlainCopy}
use Rattle.trials_plain.specs.declared.taken.MadePdu.{MadePdu}
use Rattle.trials_plain.specs.declared.taken.TakenUnit.{TakenUnit as PlainUnit}
use Rattle.rasta_check.specs.Capture.SentLists.{FirstCopy}
use Rattle.rasta_check.specs.Model.Taken.{TakenUnit}

abbrev pub copy_of : PlainCopy → FirstCopy
copy_of c = record { place = c.place; pdu = value_of c.pdu }

abbrev pub copies_of : List PlainCopy → List FirstCopy
copies_of copies = map copy_of copies

abbrev pub safety_of : MadePdu → SafetyPdu
safety_of m = record { kind = m.kind; sn = m.sn; cs = m.cs; ts = m.ts; cts = m.cts; body = body_of m.body }

abbrev pub pdus : List MadePdu → List SafetyPdu
pdus made = map safety_of made

abbrev pub unit_of : PlainUnit → TakenUnit
unit_of u = record {
  messages = messages_in (value_of u.pdu).safety.body;
  data_place = u.data_place;
  proof_place = u.proof_place;
}

abbrev pub units_of : List PlainUnit → List TakenUnit
units_of units = map unit_of units

-- none of these numbers is above this one
abbrev pub AreAtMost : ℕ → List ℕ → Type 0
AreAtMost most [] = Unit {0}
AreAtMost most (n ∷ ns) = (n ≤ most) × AreAtMost most ns
