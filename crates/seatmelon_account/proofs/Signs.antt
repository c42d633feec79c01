-- Signs of life, one by one.
use Rattle.std.proofs.Common.{◌≡◌, ◌∙◌, ℕ, ◌+◌, ◌≤◌, ◌&&◌, Bool, true, false, cond, List, [], ◌∷◌, ◌++◌, length, map, take, Option, None, Some, slice_get, append-nil, ap, sym, subst}
use Rattle.std.specs.Prelude.{filter_map, fold}
use Rattle.std.specs.List.{cons_option}
use Rattle.std.proofs.lemmas.List.{take_all}
use Rattle.std.proofs.lemmas.List.Elements.{filter_map-append}
use Rattle.std.proofs.lemmas.List.Sums.{fold-append}
use Rattle.rasta_pcap.specs.declared.fault.Side.{Side}
use Rattle.rasta_pcap.specs.declared.fault.Side.TheVariants.{Client, Server}
use Rattle.rasta_udp.specs.Frame.{Packet}
use Rattle.rasta_pdu.specs.Params.{Parameters}
use Rattle.rasta_check.proofs.Lists.{map_push, take_one_more}
use Rattle.rasta_check.specs.Capture.SentLists.{FirstCopy}
use Rattle.seatmelon_middle.specs.Course.{is_sign_of_life, with_packet}
use Rattle.seatmelon_middle.specs.declared.course.Course.{Course}
use Rattle.seatmelon_reading.specs.Silences.{IsSearch}
use Rattle.seatmelon_reading.specs.Tapes.{taped_as}
use Rattle.seatmelon_reading.specs.declared.notes.Sighting.{Sighting}
use Rattle.seatmelon_reading.specs.declared.silence.SilenceSearch.{SilenceSearch}
use Rattle.seatmelon_reading.specs.declared.tape.Taped.{Taped}
use Rattle.seatmelon_account.specs.Lives.{IsWatch, Lives, is_side, lives_next, lives_with_sign, sighting_of, sightings_of}
use Rattle.seatmelon_account.specs.Middle.{packet_of_numbered}
use Rattle.seatmelon_account.specs.declared.lives.Watch.{Watch}

-- ---- what crossed

-- no packet was seen at a place
pub not_seen : (signs : List Sighting) (o : Option Sighting) (search : SilenceSearch) → o ≡ None → IsSearch signs search → IsSearch (signs ++ cons_option o []) search
not_seen signs o search none h =
    subst (λ (p : Option Sighting). IsSearch (signs ++ cons_option p []) search) (sym none) (subst (λ (l : List Sighting). IsSearch l search) (sym (append-nil signs)) h)

-- one first copy more
pub sighted_more : (packets : List Sighting) (copies : List FirstCopy) (i : ℕ) (c : FirstCopy) (search : SilenceSearch) → slice_get copies i ≡ Some c
    → IsSearch (sightings_of packets (take i copies) ++ cons_option (sighting_of packets c) []) search → IsSearch (sightings_of packets (take (i + 1) copies)) search
sighted_more packets copies i c search at h =
    subst (λ (l : List Sighting). IsSearch l search)
    (sym (ap (filter_map (sighting_of packets)) (sym (take_one_more i copies c at)) ∙ filter_map-append (sighting_of packets) (take i copies) (c ∷ []))) h

pub sighted_all : (packets : List Sighting) (copies : List FirstCopy) (i : ℕ) (search : SilenceSearch) → length copies ≤ i
    → IsSearch (sightings_of packets (take i copies)) search → IsSearch (sightings_of packets copies) search
sighted_all packets copies i search past h = subst (λ (l : List FirstCopy). IsSearch (sightings_of packets l) search) (take_all i copies past) h

-- ---- the next packet behind it

abbrev lives : Course → List Sighting → List Sighting → Lives
lives course client server = record { course = course; client = client; server = server }

abbrev pub watch : Course → SilenceSearch → SilenceSearch → Watch
watch course client server = record { course = course; client = client; server = server }

-- an end gave a sign of life
pub client_signed : (packets : List Sighting) (l : Lives) (w : Watch) (search : SilenceSearch) (place : ℕ) → IsWatch l w
    → IsSearch (l.client ++ cons_option (slice_get packets place) []) search → IsWatch (lives_with_sign packets l Client place) (watch w.course search w.server)
client_signed packets l w search place h more = record {
  course = h.course;
  client = more;
  server = subst (λ (signs : List Sighting). IsSearch signs w.server) (sym (append-nil l.server)) h.server;
}

pub server_signed : (packets : List Sighting) (l : Lives) (w : Watch) (search : SilenceSearch) (place : ℕ) → IsWatch l w
    → IsSearch (l.server ++ cons_option (slice_get packets place) []) search → IsWatch (lives_with_sign packets l Server place) (watch w.course w.client search)
server_signed packets l w search place h more = record {
  course = h.course;
  client = subst (λ (signs : List Sighting). IsSearch signs w.client) (sym (append-nil l.client)) h.client;
  server = more;
}

module _ (p : Parameters) (packets : List Sighting) (l : Lives) (packet : Packet) (course : Course) (same : course ≡ l.course) (w : Watch) where
  abbrev sign_by : Bool → Course → Side → List Sighting
  sign_by b c side = cond (b && is_side side packet.side) (cons_option (slice_get packets c.packets) []) []

  -- the packet was one
  pub sign_added : is_sign_of_life p course packet ≡ true
      → IsWatch (lives_with_sign packets (lives (with_packet p course packet) l.client l.server) packet.side course.packets) w → IsWatch (lives_next p packets l packet) w
  sign_added is h = record {
    course = h.course ∙ ap (λ (c : Course). with_packet p c packet) same;
    client = subst (λ (signs : List Sighting). IsSearch (l.client ++ signs) w.client) (ap (λ (b : Bool). sign_by b course Client) (sym is) ∙ ap (λ (c : Course). sign_by (is_sign_of_life p c packet) c Client) same) h.client;
    server = subst (λ (signs : List Sighting). IsSearch (l.server ++ signs) w.server) (ap (λ (b : Bool). sign_by b course Server) (sym is) ∙ ap (λ (c : Course). sign_by (is_sign_of_life p c packet) c Server) same) h.server;
  }

  nothing_by : (side : Side) → is_sign_of_life p course packet ≡ false → [] ≡ sign_by (is_sign_of_life p l.course packet) l.course side
  nothing_by side is = ap (λ (b : Bool). sign_by b course side) (sym is) ∙ ap (λ (c : Course). sign_by (is_sign_of_life p c packet) c side) same

  -- it was none
  pub none_added : is_sign_of_life p course packet ≡ false → w.course ≡ with_packet p course packet → IsSearch l.client w.client → IsSearch l.server w.server
      → IsWatch (lives_next p packets l packet) w
  none_added is next client server = record {
    course = next ∙ ap (λ (c : Course). with_packet p c packet) same;
    client = subst (λ (signs : List Sighting). IsSearch (l.client ++ signs) w.client) (nothing_by Client is) (subst (λ (signs : List Sighting). IsSearch signs w.client) (sym (append-nil l.client)) client);
    server = subst (λ (signs : List Sighting). IsSearch (l.server ++ signs) w.server) (nothing_by Server is) (subst (λ (signs : List Sighting). IsSearch signs w.server) (sym (append-nil l.server)) server);
  }

-- ---- all of them

abbrev pub lives_behind : Parameters → List Sighting → Lives → List Taped → Lives
lives_behind p packets l items = fold (lives_next p packets) l (map packet_of_numbered (map taped_as items))

pub watched_more : (p : Parameters) (packets : List Sighting) (l : Lives) (items : List Taped) (i : ℕ) (t : Taped) (w : Watch) → slice_get items i ≡ Some t
    → IsWatch (lives_next p packets (lives_behind p packets l (take i items)) (packet_of_numbered (taped_as t))) w → IsWatch (lives_behind p packets l (take (i + 1) items)) w
watched_more p packets l items i t w at h =
    let more : map taped_as (take (i + 1) items) ≡ map taped_as (take i items) ++ taped_as t ∷ [] = map_push taped_as (take i items) (take (i + 1) items) t (sym (take_one_more i items t at)) in
    let all = map_push packet_of_numbered (map taped_as (take i items)) (map taped_as (take (i + 1) items)) (taped_as t) more in
    subst (λ (x : Lives). IsWatch x w)
    (sym (ap (fold (lives_next p packets) l) all ∙ fold-append (lives_next p packets) l (map packet_of_numbered (map taped_as (take i items))) (packet_of_numbered (taped_as t) ∷ []))) h
