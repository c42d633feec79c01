-- Each statement of the theorem, tried on the example of the quiet start: data with two messages, and the heartbeat that shows them.
use Rattle.std.proofs.Common.{Bool, true, ◌≡◌, ℕ, zero, suc, ◌+◌, ◌<◌, ◌≤◌, ◌^◌, List, [], ◌∷◌, ◌++◌, length, Some, None, slice_get, refl, sym, ap, subst, ◌∙◌, inl, arith}
use Rattle.std.specs.Prelude.{◌&&◌, nat_lt, slice_index}
use Rattle.std.specs.List.{list_all}
use Rattle.std.proofs.lemmas.Bool.Decides.{nat_tests}
use Rattle.rasta_pcap.specs.declared.fault.Side.{Side}
use Rattle.rasta_pcap.specs.declared.fault.Side.TheVariants.{Client, Server}
use Rattle.rasta_pcap.specs.Fault.{fault_of_end, clock_differs, make_missing, not_first_copy}
use Rattle.rasta_udp.specs.declared.channel.Endpoint.{Endpoint}
use Rattle.rasta_udp.specs.Frame.{Packet}
use Rattle.rasta_pdu.specs.Params.{Parameters, AreParameters}
use Rattle.rasta_pdu.specs.Messages.{are_messages, messages_of}
use Rattle.rasta_pdu.specs.Pdu.{RedundancyPdu, redundancy_bytes, Messages, Empty}
use Rattle.rasta_pdu.specs.declared.kind.Kind.TheVariants.{Heartbeat, Data}
use Rattle.rasta_cert.specs.declared.entry.Entry.{Entry}
use Rattle.rasta_cert.specs.declared.entry.Entry.TheVariants.{Take, Make}
use Rattle.rasta_cert.specs.Certificate.{IsCertificate}
use Rattle.rasta_end.specs.declared.why.Why.TheVariants.{Fresh, Beat}
use Rattle.rasta_end.specs.State.{EndState, wrapped}
use Rattle.rasta_end.specs.MakeRule.{make_fault, after_make}
use Rattle.rasta_end.specs.TakeRule.{after_take}
use Rattle.rasta_end.specs.Starts.{start_of}
use Rattle.rasta_end.proofs.MakeTests.{no_fault, no_test}
use Rattle.rasta_check.specs.Capture.SentLists.{FirstCopy, IsCarried, Spells, Sent, CrossRecorded}
use Rattle.rasta_check.specs.Capture.PacketFaults.{packet_fault}
use Rattle.rasta_check.specs.Model.World.{World, Reaches, KeepsRange}
use Rattle.rasta_check.specs.Model.Middle.{CrossAt, Settles, plain, none_behind, fresh, Shows, FromTheMiddle}
use Rattle.rasta_check.specs.Model.Taken.{TakenUnit, pdus_made, all_made, surely_taken}
use Rattle.rasta_check.specs.Script.Fitting.{Fits, FirstFault, at_entry, after_last}
use Rattle.rasta_check.specs.Script.Following.{ScriptCursor, Advances, takes_next, makes_next, Leads, at_start}
use Rattle.rasta_check.specs.Model.Theorem.{OfConnection, SentLists, Definite, Necessity, Appends, HasHandedUp, units_handed, units_listed}
use Rattle.rasta_check.specs.Run.Moves.{Happened, Runs}
use Rattle.rasta_check.specs.Run.Lines.{took, made, brought, waited, told}
use Rattle.rasta_check.specs.Run.Levels.{takes_at, makes_at}
use Rattle.rasta_check.specs.Run.Laws.{Simulation}
use Rattle.rasta_check.specs.Script.Laws.{Sharpness, Complete, Stuck}
use Rattle.rasta_check.proofs.Capture.ListForms.{of_record}

-- ---- the example

abbrev endpoint : ℕ → ℕ → ℕ → Endpoint
endpoint net host port = record { address = 10 ∷ 0 ∷ net ∷ host ∷ []; port = port }

abbrev connection : Parameters
connection = record {
  client_id = 96;
  server_id = 97;
  code_length = 0;
  md4_start = 1732584193 ∷ 4023233417 ∷ 2562383102 ∷ 271733878 ∷ [];
  check_length = 0;
  n_sendmax = 20;
  t_max = 1800;
  slack = 0;
  first_record = 1;
  last_record = 4000000000;
  channels = record { client = endpoint 0 1 5000; server = endpoint 0 2 5000 } ∷ record { client = endpoint 1 1 5001; server = endpoint 1 2 5001 } ∷ [];
  quiet = Some (record {
    client = record { next_sn = 102; clock = 1010; deadline = None; handed_ts = None };
    server = record { next_sn = 501; clock = 9000; deadline = Some 10800; handed_ts = None };
  });
}

abbrev offer : RedundancyPdu
offer = record { reserve = 0; number = 9; safety = record { kind = Data; sn = 102; cs = 500; ts = 1020; cts = 9000; body = Messages (2 ∷ 0 ∷ 171 ∷ 1 ∷ 0 ∷ 0 ∷ []) }; check_bytes = [] }

abbrev beat : RedundancyPdu
beat = record { reserve = 0; number = 41; safety = record { kind = Heartbeat; sn = 501; cs = 102; ts = 9050; cts = 1020; body = Empty }; check_bytes = [] }

abbrev offer_bytes : List ℕ
offer_bytes =
    42 ∷ 0 ∷ 0 ∷ 0 ∷ 9 ∷ 0 ∷ 0 ∷ 0 ∷ 34 ∷ 0 ∷ 96 ∷ 24 ∷ 97 ∷ 0 ∷ 0 ∷ 0 ∷ 96 ∷ 0 ∷ 0 ∷ 0 ∷ 102 ∷ 0 ∷ 0 ∷ 0
    ∷ 244 ∷ 1 ∷ 0 ∷ 0 ∷ 252 ∷ 3 ∷ 0 ∷ 0 ∷ 40 ∷ 35 ∷ 0 ∷ 0 ∷ 2 ∷ 0 ∷ 171 ∷ 1 ∷ 0 ∷ 0 ∷ []

abbrev beat_bytes : List ℕ
beat_bytes =
    36 ∷ 0 ∷ 0 ∷ 0 ∷ 41 ∷ 0 ∷ 0 ∷ 0 ∷ 28 ∷ 0 ∷ 76 ∷ 24 ∷ 96 ∷ 0 ∷ 0 ∷ 0 ∷ 97 ∷ 0 ∷ 0 ∷ 0 ∷ 245 ∷ 1 ∷ 0 ∷ 0
    ∷ 102 ∷ 0 ∷ 0 ∷ 0 ∷ 90 ∷ 35 ∷ 0 ∷ 0 ∷ 252 ∷ 3 ∷ 0 ∷ 0 ∷ []

abbrev first : Packet
first = record { channel = 1; side = Client; payload = offer_bytes }

abbrev second : Packet
second = record { channel = 1; side = Server; payload = beat_bytes }

abbrev packets : List Packet
packets = first ∷ second ∷ []

abbrev offered : FirstCopy
offered = record { place = 0; pdu = offer }

abbrev beaten : FirstCopy
beaten = record { place = 1; pdu = beat }

abbrev from_client : List FirstCopy
from_client = offered ∷ []

abbrev from_server : List FirstCopy
from_server = beaten ∷ []

-- ---- its premises

pub of_connection : OfConnection connection
of_connection = record {
  valid = record {
    distinct_ids = λ e. absurd (omega (arith, e));
    lengths = record { code = inl refl; check = inl refl };
    limits = record { sends_some = omega arith; waits_some = omega arith; waits_most = omega arith; slack_most = omega arith };
    window = record { from_one = omega arith; in_order = omega arith; last_most = omega arith };
    channels = record { some = omega arith; few = omega arith; ports = refl; distinct_routes = refl };
    quiet = record {
      client = record { clock_most = omega arith; deadline_most = tt; in_time = tt };
      server = record { clock_most = omega arith; deadline_most = omega arith; in_time = omega arith };
    };
  };
  client_id = omega arith;
  server_id = omega arith;
}

pub offer_spelled : Spells connection Client offer offer_bytes
unfolding redundancy_bytes are_messages messages_of
offer_spelled = record {
  fits = record { reserve = omega arith; number = omega arith; sn = omega arith; cs = omega arith; ts = omega arith; cts = omega arith; body = refl; size = omega arith; check_bytes = refl };
  same = refl;
}

pub beat_spelled : Spells connection Server beat beat_bytes
unfolding redundancy_bytes
beat_spelled = record {
  fits = record { reserve = omega arith; number = omega arith; sn = omega arith; cs = omega arith; ts = omega arith; cts = omega arith; body = tt; size = omega arith; check_bytes = refl };
  same = refl;
}

pub recorded : CrossRecorded connection packets
recorded zero packet g = let P : Packet → Type 0 = λ (k : Packet). (1 ≤ k.channel) × (k.channel ≤ 2) in subst P (let e : first ≡ packet = cc in e) (omega arith, omega arith)
recorded (suc zero) packet g = let P : Packet → Type 0 = λ (k : Packet). (1 ≤ k.channel) × (k.channel ≤ 2) in subst P (let e : second ≡ packet = cc in e) (omega arith, omega arith)
recorded (suc (suc place)) packet g = absurd (cc)

module _ (p : Parameters) (valid : AreParameters p) (crossed : List Packet) (side : Side) (c : FirstCopy) (k : Packet) (there : slice_get crossed c.place ≡ Some k) (of_side : k.side ≡ side)
    (spelled : Spells p side c.pdu k.payload) (small : c.pdu.number < 2 ^ 32) (only : (i : ℕ) (a : Packet) → slice_get crossed i ≡ Some a → a.side ≡ side → i ≡ c.place) where
  firsts : (i : ℕ) (d : FirstCopy) → slice_get (c ∷ []) i ≡ Some d → (a : Packet) × (slice_get crossed d.place ≡ Some a) × (a.side ≡ side) × Spells p side d.pdu a.payload
  firsts i d h = grind arith

  numbers : (i : ℕ) (d e : FirstCopy) → slice_get (c ∷ []) 0 ≡ Some d → slice_get (c ∷ []) i ≡ Some e → e.pdu.number ≡ wrapped (d.pdu.number + i)
  numbers i d e h g = grind arith

  spelled_at : (i : ℕ) (a : Packet) → slice_get crossed i ≡ Some a → a.side ≡ side → Spells p side c.pdu a.payload
  spelled_at i a h g = grind arith

  -- a side that sent one packet
  one_sent : Sent p crossed side (c ∷ [])
  one_sent = of_record p crossed side (c ∷ []) (record {
    valid = valid;
    firsts = firsts;
    rising = λ i d e g h. absurd (cc);
    numbers = numbers;
    copies = λ i a g s. (0, c, refl, (let e = only i a g s in omega arith), spelled_at i a g s);
  }) (omega arith)

only_client : (i : ℕ) (a : Packet) → slice_get packets i ≡ Some a → a.side ≡ Client → i ≡ 0
only_client i a h g = grind arith

only_server : (i : ℕ) (a : Packet) → slice_get packets i ≡ Some a → a.side ≡ Server → i ≡ 1
only_server i a h g = grind arith

pub client_sent : Sent connection packets Client from_client
client_sent = one_sent connection of_connection.valid packets Client offered first refl refl offer_spelled (omega arith) only_client

pub server_sent : Sent connection packets Server from_server
server_sent = one_sent connection of_connection.valid packets Server beaten second refl refl beat_spelled (omega arith) only_server

no_server : (i : ℕ) (a : Packet) → slice_get (first ∷ []) i ≡ Some a → a.side ≡ Server → ⊥
no_server i a h g = grind arith

-- before the heartbeat the server had sent nothing
pub nothing_sent : Sent connection (first ∷ []) Server []
nothing_sent = of_record connection (first ∷ []) Server [] (record {
  valid = of_connection.valid;
  firsts = λ i c g. absurd (cc);
  rising = λ i c d g h. absurd (cc);
  numbers = λ i c d g h. absurd (cc);
  copies = λ i a g s. absurd (no_server i a g s);
}) (omega arith)

-- ---- both scripts

abbrev client_script : List Entry
client_script = Make 0 1020 Fresh ∷ []

abbrev server_script : List Entry
server_script = Take 1 9 ∷ Make 1 9050 Beat ∷ []

abbrev client_end : EndState
client_end = after_make (start_of connection Client) offer.safety 1020 Fresh

abbrev server_taken : EndState
server_taken = after_take connection (start_of connection Server) offer.safety

abbrev server_end : EndState
server_end = after_make server_taken beat.safety 9050 Beat

pub client_fits : Fits connection Client 2 from_client from_server client_script client_end
client_fits = record {
  makes = refl;
  slots = (omega arith, tt);
  positions = [];
  takes = tt;
  ends = (client_end, (no_test connection (start_of connection Client) offered.pdu.safety 1020 Fresh refl, refl), refl);
}

pub server_fits : Fits connection Server 2 from_server from_client server_script server_end
server_fits = record {
  makes = refl;
  slots = (omega arith, omega arith, (omega arith, tt));
  positions = 0 ∷ [];
  takes = (omega arith, refl, (offered, refl, omega arith), tt);
  ends = (offered, server_taken, refl, (refl, refl), (server_end, (no_test connection server_taken beaten.pdu.safety 9050 Beat refl, refl), refl));
}

-- ---- the first fault of others

nothing_fits : Fits connection Client 2 [] from_server [] (start_of connection Client)
nothing_fits = record { makes = refl; slots = tt; positions = []; takes = tt; ends = refl }

-- at another clock the data has not its time stamp
pub late_clock : FirstFault connection Client 2 from_client from_server (Make 0 1021 Fresh ∷ []) (fault_of_end clock_differs 1 Client)
late_clock = at_entry [] [] (Make 0 1021 Fresh) [] from_client (start_of connection Client) nothing_fits clock_differs refl refl refl

-- a script without entries leaves the data unmade
pub nothing_made : FirstFault connection Client 2 from_client from_server [] (fault_of_end make_missing 1 Client)
nothing_made = after_last [] [] offered (start_of connection Client) nothing_fits refl

-- the heartbeat is no packet of the client
pub not_own : FirstFault connection Client 2 from_client from_server (Make 1 1020 Fresh ∷ []) (fault_of_end not_first_copy 1 Client)
not_own = at_entry [] [] (Make 1 1020 Fresh) [] from_client (start_of connection Client) nothing_fits not_first_copy refl refl refl

-- ---- what is listed

abbrev content : List (List ℕ)
content = (171 ∷ 1 ∷ []) ∷ [] ∷ []

pub listed : surely_taken connection Client from_client from_server ≡ record { messages = content; data_place = 0; proof_place = 1 } ∷ []
unfolding messages_of
listed = refl

pub none_listed : surely_taken connection Server from_server from_client ≡ []
none_listed = refl

-- ---- each statement, tried: of every run that sends the packets, and of the scripts

client_crossed : (w : World) → w.crossed ≡ packets → Sent connection w.crossed Client from_client
client_crossed w e = subst (λ (ks : List Packet). Sent connection ks Client from_client) (sym e) client_sent

server_crossed : (w : World) → w.crossed ≡ packets → Sent connection w.crossed Server from_server
server_crossed w e = subst (λ (ks : List Packet). Sent connection ks Server from_server) (sym e) server_sent

-- each end made its quiet PDU and its packet's
pub tried_sent_lists : SentLists connection → (ws : List World) (w : World) → Reaches connection ws w → w.crossed ≡ packets
    → (pdus_made w.client.state.made ≡ all_made connection Client from_client) × (pdus_made w.server.state.made ≡ all_made connection Server from_server)
tried_sent_lists law ws w r e =
    let within = law.within ws w from_client from_server r (client_crossed w e) (server_crossed w e) (omega arith) (omega arith) in
    let near : KeepsRange connection w = λ side. omega (arith, within side) in
    let c = law.made ws w Client r near in
    let s = law.made ws w Server r near in
    let same_c = law.one_list w.crossed Client from_client c.0 (client_crossed w e) c.1.list (omega arith) in
    let same_s = law.one_list w.crossed Server from_server s.0 (server_crossed w e) s.1.list (omega arith) in
    (c.1.made ∙ sym (ap (all_made connection Client) same_c), s.1.made ∙ sym (ap (all_made connection Server) same_s))

both_true : (a b : Bool) → a && b ≡ true → (a ≡ true) × (b ≡ true)
both_true a b h = grind arith

all_bytes : (xs : List ℕ) → list_all (λ n. nat_lt n 256) xs ≡ true → (i : ℕ) → slice_index xs i < 256
all_bytes [] h i = omega arith
all_bytes (x ∷ xs) h zero = (let t = (both_true (nat_lt x 256) (list_all (λ n. nat_lt n 256) xs) h).0 in grind (arith, nat_tests))
all_bytes (x ∷ xs) h (suc i) = all_bytes xs (both_true (nat_lt x 256) (list_all (λ n. nat_lt n 256) xs) h).1 i

-- the heartbeat has no fault
pub tried_definite : Definite connection → (ws : List World) (w : World) → Reaches connection ws w → w.crossed ≡ packets → packet_fault connection [] second ≡ None
tried_definite law ws w r e = law.in_runs ws w (first ∷ []) [] second [] r e nothing_sent (omega arith)

-- so after the data the server's sent list goes on
pub tried_goes_on : Definite connection → packet_fault connection [] second ≡ None → (more : List FirstCopy) × Sent connection packets Server more
tried_goes_on law none = law.goes_on (first ∷ []) second [] (record { fits = all_bytes beat_bytes refl }) nothing_sent (omega arith) none

-- the scripts tell a run that sends the packets, in six lines: the data is made, arrives and is taken, and then the heartbeat is made
pub tried_simulation : Simulation connection → (happened : List Happened) × (w : World) × Runs connection happened w × (w.crossed ≡ packets) × (w.client.state ≡ client_end) × (w.server.state ≡ server_end)
    × (told happened ≡ record { level = 0; side = Client; what = waited 1020 } ∷ record { level = 0; side = Client; what = made 9 1020 Fresh }
    ∷ record { level = 1; side = Server; what = brought 9 } ∷ record { level = 1; side = Server; what = took 9 }
    ∷ record { level = 1; side = Server; what = waited 9050 } ∷ record { level = 1; side = Server; what = made 41 9050 Beat } ∷ [])
unfolding takes_at makes_at
tried_simulation law = law packets from_client from_server client_script server_script client_end server_end recorded client_sent server_sent client_fits server_fits

-- the server handed up both messages, before the heartbeat crossed
pub tried_necessity : Necessity connection → (ws : List World) (w : World) → Reaches connection ws w → w.crossed ≡ packets
    → ((rest : List (List (List ℕ))) × (units_handed w.server.state ≡ content ∷ rest)) × ((v next : World) → Appends ws w 1 v next → HasHandedUp v.server.state 0 content)
tried_necessity law ws w r e =
    let n = law ws w Client from_client from_server r (client_crossed w e) (server_crossed w e) (omega arith) (omega arith) in
    let unit : TakenUnit = record { messages = content; data_place = 0; proof_place = 1 } in (
      (n.first.0, n.first.1 ∙ ap (λ (us : List TakenUnit). units_listed us ++ n.first.0) listed),
      λ v next at. n.in_time 0 unit v next (ap (λ (us : List TakenUnit). slice_get us 0) listed) at,
    )

-- the heartbeat shows the data, wherever in a connection both cross
pub tried_shows : Shows connection packets Client offered beaten
tried_shows =
    let own : IsCarried connection packets Client offered = record { packet = first; there = refl; of_side = refl; spelled = offer_spelled } in
    let settled : Settles connection packets Client 102 0 = plain offered own refl refl in
    record {
      carried = own;
      own_lag = 0;
      own = fresh refl;
      shown_by = record { packet = second; there = refl; of_side = refl; spelled = beat_spelled };
      confirms = refl;
      lag = 0;
      settled = settled;
      later = 0;
      behind = none_behind (omega arith);
      enough = omega arith;
    }

-- so the server had handed up both messages before the heartbeat crossed, in every run in which both cross, with or without others
pub tried_from_the_middle : FromTheMiddle connection → (ws : List World) (w : World) → Reaches connection ws w → KeepsRange connection w → (i j : ℕ)
    → CrossAt (i ∷ j ∷ []) packets w.crossed → (unit : ℕ) × ((v next : World) → Appends ws w j v next → HasHandedUp v.server.state unit content)
unfolding messages_of
tried_from_the_middle law ws w r within i j cross =
    let s = (law ws w Client packets (i ∷ j ∷ []) r within cross).in_time offered beaten tried_shows in
    (s.0, λ v next at. s.2 j v next refl at)

-- in some run that sends the packets, nothing else was handed up
pub tried_sharpness : Sharpness connection → (ws : List World) × (w : World) × Reaches connection ws w × (w.crossed ≡ packets) × (units_handed w.server.state ≡ content ∷ []) × (units_handed w.client.state ≡ [])
tried_sharpness law =
    let s = law packets from_client from_server client_script server_script client_end server_end recorded client_sent server_sent (omega arith) (omega arith) client_fits server_fits in
    (s.0, s.1, s.2, s.3, s.4 ∙ ap units_listed listed, s.5 ∙ ap units_listed none_listed)

-- the run is told by scripts
pub tried_complete : Complete connection → (ws : List World) (w : World) → Reaches connection ws w → w.crossed ≡ packets → w.client.state ≡ client_end → w.server.state ≡ server_end
    → (cs ss : List Entry) × Fits connection Client (length w.crossed) from_client from_server cs w.client.state × Fits connection Server (length w.crossed) from_server from_client ss w.server.state
    × IsCertificate (record { client = cs; server = ss })
tried_complete law ws w r e a b =
    let few = ap (λ (ks : List Packet). length ks) e in
    let c = ap (λ (f : EndState). f.clock) a in
    let s = ap (λ (f : EndState). f.clock) b in
    law ws w from_client from_server r (client_crossed w e) (server_crossed w e) (omega (arith, few)) (omega arith) (omega arith) (omega (arith, c)) (omega (arith, s))

-- the client's script leads to one end
client_leads : (v : ScriptCursor) × Leads connection 2 from_client from_server (at_start (start_of connection Client)) client_script v × (v.state ≡ client_end)
client_leads = (let v : ScriptCursor = record { level = 1; made_count = 1; passed = 0; state = client_end } in (v, (v, makes_next offered 1020 Fresh client_end (omega arith) refl (no_test connection (start_of connection Client) offered.pdu.safety 1020 Fresh refl, refl), refl), refl))

pub tried_once : Stuck connection → (v : ScriptCursor) → Leads connection 2 from_client from_server (at_start (start_of connection Client)) client_script v → v.state ≡ client_end
tried_once law v leads = ap (λ (u : ScriptCursor). u.state) ((law packets Client from_client from_server server_sent (omega arith)).one (at_start (start_of connection Client)) v client_leads.0 client_script leads client_leads.1) ∙ client_leads.2

some_none : (n : ℕ) → Some n ≡ None → ⊥
some_none n e = (cc)

not_late : (u w : ScriptCursor) (x : Entry) → Advances connection 2 from_client from_server u x w → u.made_count ≡ 0 → u.state ≡ start_of connection Client → x ≡ Make 0 1021 Fresh → ⊥
not_late u w x (takes_next slot position c after level within get above new tk) none start is = (cc)
not_late u w x (makes_next c clock why after level get mk) none start is =
    let at : clock ≡ 1021 = cc in
    let fresh : why ≡ Fresh = cc in
    let here : offered ≡ c = (let g = ap (slice_get from_client) (sym none) ∙ get in cc) in
    some_none 36 ((λ i. make_fault connection (sym start i) (here i).pdu.safety (sym at i) (sym fresh i)) ∙ no_fault connection u.state c.pdu.safety clock why mk.0)

-- at another clock than the data's nothing can be made, and no script begins so
pub tried_stuck : Stuck connection → (rest : List Entry) (e : EndState) → Fits connection Client 2 from_client from_server (Make 0 1021 Fresh ∷ rest) e → ⊥
tried_stuck law rest e =
    (law packets Client from_client from_server server_sent (omega arith)).none [] rest (Make 0 1021 Fresh) (at_start (start_of connection Client)) e refl
    (λ w step. not_late (at_start (start_of connection Client)) w (Make 0 1021 Fresh) step refl refl refl)
