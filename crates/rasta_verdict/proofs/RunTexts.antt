-- The text of a run, as it is written in one pass.
use Rattle.std.proofs.Common.{◌≡◌, ℕ, zero, suc, ◌+◌, ◌-◌, ◌<◌, ◌≤◌, List, [], ◌∷◌, ◌++◌, Option, Some, None, slice_get, refl, ap, subst, sym, ◌∙◌, arith}
use Rattle.std.specs.List.{flat_map}
use Rattle.rasta_pcap.specs.declared.fault.Side.{Side}
use Rattle.rasta_pcap.specs.declared.fault.Side.TheVariants.{Client, Server}
use Rattle.rasta_udp.specs.Frame as udp
use Rattle.rasta_pdu.specs.Params.{Parameters}
use Rattle.rasta_pdu.specs.Pdu.{RedundancyPdu}
use Rattle.rasta_end.specs.declared.why.Why.{Why}
use Rattle.rasta_cert.specs.declared.entry.Entry.{Entry}
use Rattle.rasta_cert.specs.declared.entry.Entry.TheVariants.{Take}
use Rattle.rasta_cert.specs.Certificate.{Scripts}
use Rattle.rasta_check.specs.Capture.SentLists.{Spells}
use Rattle.rasta_check.specs.Run.Lines.{number_of}
use Rattle.rasta_check.specs.Run.Levels.{makes_at, takes_at}
use Rattle.rasta_verdict.specs.RunText.{take_text}
use Rattle.rasta_verdict.specs.Told.{IsAfter, IsAfterTakes, IsOrderedFrom, of_side, takes_text, told_crossing, told_level, told_levels, told_packet}
use Rattle.rasta_check.proofs.Capture.Crossings.{number_spelled}
use Rattle.rasta_check.proofs.Run.Entries.{below, makes_past, takes_here, takes_other}

-- ---- the takes of a level

-- what is left of a script in the midst of the takes of a level
pub record IsAmongTakes (level : ℕ) (script rest : List Entry) : Type 0 where
  pub order : IsOrderedFrom level rest
  pub takes : (later : ℕ) → level < later → takes_at later rest ≡ takes_at later script
  pub makes : (place : ℕ) → makes_at place rest ≡ makes_at place script

pub among-start : (level : ℕ) (script : List Entry) → IsOrderedFrom level script → IsAmongTakes level script script
among-start level script o = record { order = o; takes = λ later l. refl; makes = λ place. refl }

pub among-next : (level number : ℕ) (script here rest : List Entry) → IsAmongTakes level script here → here ≡ Take level number ∷ rest → IsAmongTakes level script rest
among-next level number script here rest h e = record {
  order = (subst (IsOrderedFrom level) e h.order).1;
  takes = λ later l. sym (takes_other later level number rest (below level later l)) ∙ (ap (takes_at later) (sym e) ∙ h.takes later l);
  makes = λ place. sym (makes_past place level number rest) ∙ (ap (makes_at place) (sym e) ∙ h.makes place);
}

pub among-end : (level : ℕ) (script rest : List Entry) → IsAmongTakes level script rest → takes_at level rest ≡ [] → IsAfterTakes level script rest
among-end level script rest h none = record { order = h.order; none_left = none; takes = h.takes; makes = h.makes }

pub takes_text-next : (level number : ℕ) (side : Side) (here rest : List Entry) (line : List ℕ) → here ≡ Take level number ∷ rest → line ≡ take_text level side number
    → takes_text level side here ≡ line ++ takes_text level side rest
unfolding takes_text
takes_text-next level number side here rest line e f =
    ap (λ (l : List ℕ). flat_map (take_text level side) l) (ap (takes_at level) e ∙ takes_here level number rest)
    ∙ ap (λ (l : List ℕ). l ++ takes_text level side rest) (sym f)

pub takes_text-end : (level : ℕ) (side : Side) (rest : List Entry) → takes_at level rest ≡ [] → takes_text level side rest ≡ []
unfolding takes_text
takes_text-end level side rest none = ap (λ (l : List ℕ). flat_map (take_text level side) l) none

-- ---- the packet of a level

pub no_packet : (place : ℕ) (client server : List (ℕ × Why)) (packet : Option udp.Packet) → packet ≡ None → told_packet place client server packet ≡ []
unfolding told_packet
no_packet place client server packet e = ap (told_packet place client server) e

pub the_packet : (p : Parameters) (place : ℕ) (client server makes : List (ℕ × Why)) (packet : Option udp.Packet) (side : Side) (number : ℕ) (line : List ℕ)
    → ((k : udp.Packet) × (d : RedundancyPdu) × (packet ≡ Some k) × Spells p k.side d k.payload × (◌≡◌ {A = Side × ℕ} (side, number) (k.side, d.number)))
    → makes ≡ of_side client server side → line ≡ told_crossing place side number makes
    → line ≡ told_packet place client server packet
unfolding told_packet
the_packet p place client server makes packet side number line w m e =
    let k = w.0 in
    let same_side : side ≡ k.side = ap (λ (x : Side × ℕ). x.0) w.4 in
    let same_number : number ≡ number_of k = ap (λ (x : Side × ℕ). x.1) w.4 ∙ sym (number_spelled p k.side w.1 k.payload w.3) in
    e ∙ ap (told_crossing place side number) m
    ∙ ap (λ (n : ℕ). told_crossing place side n (of_side client server side)) same_number
    ∙ ap (λ (s : Side). told_crossing place s (number_of k) (of_side client server s)) same_side
    ∙ ap (told_packet place client server) (sym w.2)

-- ---- a level

pub level-after : (level : ℕ) (script mid rest : List Entry) → IsAfterTakes level script mid → IsOrderedFrom (suc level) rest
    → ((later : ℕ) → takes_at later rest ≡ takes_at later mid) → ((later : ℕ) → level < later → makes_at later rest ≡ makes_at later mid) → IsAfter level script rest
level-after level script mid rest h o takes makes = record {
  order = o;
  takes = λ later l. takes later ∙ h.takes later l;
  makes = λ later l. makes later l ∙ h.makes later;
}

pub told_level-parts : (packets : List udp.Packet) (scripts : Scripts) (level : ℕ) → told_level packets scripts level
    ≡ takes_text level Client scripts.client ++ (takes_text level Server scripts.server
    ++ told_packet level (makes_at level scripts.client) (makes_at level scripts.server) (slice_get packets level))
unfolding told_level
told_level-parts packets scripts level = refl

-- the same by what both scripts make there
pub told_level-makes : (packets : List udp.Packet) (scripts : Scripts) (level : ℕ) (client server client_mid server_mid : List (ℕ × Why))
    → client ≡ client_mid → client_mid ≡ makes_at level scripts.client → server ≡ server_mid → server_mid ≡ makes_at level scripts.server
    → told_level packets scripts level ≡ takes_text level Client scripts.client ++ (takes_text level Server scripts.server ++ told_packet level client server (slice_get packets level))
told_level-makes packets scripts level client server client_mid server_mid a b c d =
    told_level-parts packets scripts level
    ∙ ap (λ (m : List (ℕ × Why)). takes_text level Client scripts.client ++ (takes_text level Server scripts.server ++ told_packet level m (makes_at level scripts.server) (slice_get packets level)))
    (sym (a ∙ b))
    ∙ ap (λ (m : List (ℕ × Why)). takes_text level Client scripts.client ++ (takes_text level Server scripts.server ++ told_packet level client m (slice_get packets level)))
    (sym (c ∙ d))

-- ---- the levels that are left

-- scripts that say the same of every level from this one on
pub record SayTheSame (low : ℕ) (c d : Scripts) : Type 0 where
  pub client_takes : (level : ℕ) → low ≤ level → takes_at level c.client ≡ takes_at level d.client
  pub server_takes : (level : ℕ) → low ≤ level → takes_at level c.server ≡ takes_at level d.server
  pub client_makes : (level : ℕ) → low ≤ level → makes_at level c.client ≡ makes_at level d.client
  pub server_makes : (level : ℕ) → low ≤ level → makes_at level c.server ≡ makes_at level d.server

same_takes_text : (level : ℕ) (side : Side) (es fs : List Entry) → takes_at level es ≡ takes_at level fs → takes_text level side es ≡ takes_text level side fs
unfolding takes_text
same_takes_text level side es fs e = ap (λ (l : List ℕ). flat_map (take_text level side) l) e

same_level : (packets : List udp.Packet) (c d : Scripts) (low level : ℕ) → SayTheSame low c d → low ≤ level → told_level packets c level ≡ told_level packets d level
unfolding told_level
same_level packets c d low level h l =
    ap (λ (t : List ℕ). t ++ (takes_text level Server c.server ++ told_packet level (makes_at level c.client) (makes_at level c.server) (slice_get packets level)))
    (same_takes_text level Client c.client d.client (h.client_takes level l))
    ∙ ap (λ (t : List ℕ). takes_text level Client d.client ++ (t ++ told_packet level (makes_at level c.client) (makes_at level c.server) (slice_get packets level)))
    (same_takes_text level Server c.server d.server (h.server_takes level l))
    ∙ ap (λ (m : List (ℕ × Why)). takes_text level Client d.client ++ (takes_text level Server d.server ++ told_packet level m (makes_at level c.server) (slice_get packets level)))
    (h.client_makes level l)
    ∙ ap (λ (m : List (ℕ × Why)). takes_text level Client d.client ++ (takes_text level Server d.server ++ told_packet level (makes_at level d.client) m (slice_get packets level)))
    (h.server_makes level l)

same_levels : (packets : List udp.Packet) (c d : Scripts) (low level left : ℕ) → SayTheSame low c d → low ≤ level → told_levels packets c level left ≡ told_levels packets d level left
unfolding told_levels
same_levels packets c d low level zero h l = refl
same_levels packets c d low level (suc left) h l =
    ap (λ (t : List ℕ). t ++ told_levels packets c (suc level) left) (same_level packets c d low level h l)
    ∙ ap (λ (t : List ℕ). told_level packets d level ++ t) (same_levels packets c d low (suc level) left h (omega arith))

after-same : (level : ℕ) (c d : Scripts) → IsAfter level c.client d.client → IsAfter level c.server d.server → SayTheSame (suc level) c d
after-same level c d h k = record {
  client_takes = λ later l. sym (h.takes later l);
  server_takes = λ later l. sym (k.takes later l);
  client_makes = λ later l. sym (h.makes later l);
  server_makes = λ later l. sym (k.makes later l);
}

-- a level is written, and the levels after it are told by what is left of the scripts
pub told_levels-next : (packets : List udp.Packet) (c d : Scripts) (level end : ℕ) → level < end
    → IsAfter level c.client d.client → IsAfter level c.server d.server
    → told_levels packets c level (end - level) ≡ told_level packets c level ++ told_levels packets d (level + 1) (end - (level + 1))
unfolding told_levels
told_levels-next packets c d level end l h k =
    let count : end - level ≡ suc (end - (level + 1)) = omega arith in
    let one : suc level ≡ level + 1 = omega arith in
    ap (told_levels packets c level) count
    ∙ ap (λ (t : List ℕ). told_level packets c level ++ t) (same_levels packets c d (suc level) (suc level) (end - (level + 1)) (after-same level c d h k) (omega arith)
    ∙ ap (λ n. told_levels packets d n (end - (level + 1))) one)

pub told_levels-front : (packets : List udp.Packet) (c : Scripts) (level end : ℕ) → level < end
    → told_levels packets c level (end - level) ≡ told_level packets c level ++ told_levels packets c (suc level) (end - (level + 1))
unfolding told_levels
told_levels-front packets c level end h = grind arith

-- from one level more on
pub from_next : (level : ℕ) (es : List Entry) → IsOrderedFrom (suc level) es → IsOrderedFrom (level + 1) es
from_next level es o = (let one : suc level ≡ level + 1 = omega arith in subst (λ n. IsOrderedFrom n es) one o)

pub told_levels-end : (packets : List udp.Packet) (c : Scripts) (level end : ℕ) → end ≤ level → told_levels packets c level (end - level) ≡ []
unfolding told_levels
told_levels-end packets c level end h = grind arith
