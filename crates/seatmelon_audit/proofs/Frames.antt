-- A frame between other hosts is none of a connection's.
use Rattle.std.proofs.Common.{◌≡◌, ◌∙◌, ◌⊎◌, inl, inr, ℕ, ◌+◌, ◌-◌, ◌*◌, ◌^◌, ◌≤◌, List, [], ◌∷◌, length, cond, drop, take, Bool, true, false, not, ◌||◌, ◌==◌, nat_lt, Option, None, Some, is_none, Result, Ok, Err, ap, refl, subst, sym, arith}
use Rattle.std.proofs.lemmas.Bool.Decides.{nat_tests}
use Rattle.std.proofs.lemmas.List.{drop-drop, drop_at, length-append, length-drop, length-take-le}
use Rattle.std.proofs.lemmas.List.Elements.{Contains-append_right}
use Rattle.std.specs.List.{Contains, list_any}
use Rattle.byteorder.specs.Endian.{big_number}
use Rattle.std.specs.Option.{option_map}
use Rattle.rasta_pcap.specs.Fault.{bad_udp, cut_packet, fault_at, fragment}
use Rattle.rasta_pcap.specs.declared.fault.Fault.{Fault}
use Rattle.rasta_udp.specs.declared.channel.Channel.{Channel}
use Rattle.rasta_udp.specs.declared.channel.Endpoint.{Endpoint}
use Rattle.rasta_udp.specs.Frame.{Direction, Fields, Found, address_of, datagram_of, direction_of, directions_from, fields_of, found_by, found_in, has_addresses, has_known_addresses, is_tagged, map_found, moved_on, big_at, packet_at, packet_in, untagged_of, without_tag}
use Rattle.seatmelon_audit.specs.Hosts.{hosts_between, hosts_in, hosts_of, read_from}

-- ---- a tagged frame is read 4 bytes on

tag_whole : (f : List ℕ) → is_tagged f ≡ true → 16 ≤ length f
tag_whole f e = grind (arith, nat_tests, e)

module _ (f : List ℕ) (whole : 16 ≤ length f) where
  front : length (take 12 f) ≡ 12
  front = length-take-le 12 f (omega arith)

  drop-without_tag : (k : ℕ) → drop (12 + k) (without_tag f) ≡ drop (12 + k) (drop 4 f)
  drop-without_tag k =
      let shift : 16 + k ≡ 4 + (12 + k) = omega arith in
      sym (drop-drop k 12 (without_tag f)) ∙ ap (drop k) (drop_at (take 12 f) (drop 16 f) 12 front)
      ∙ drop-drop k 16 f ∙ ap (λ n. drop n f) shift ∙ sym (drop-drop (12 + k) 4 f)

  number_after : (m k : ℕ) → big_at m (12 + k) (without_tag f) ≡ big_at m (12 + k) (drop 4 f)
  unfolding big_at
  number_after m k = ap (big_number m) (drop-without_tag k)

  length-without_tag : length (without_tag f) ≡ length (drop 4 f)
  length-without_tag = omega (arith, length-append (take 12 f) (drop 16 f), front, length-drop 16 f, length-drop 4 f)

  hosts_after : hosts_in (fields_of (without_tag f)) ≡ hosts_in (fields_of (drop 4 f))
  hosts_after =
      let size : length (without_tag f) ≡ length (drop 4 f) = length-without_tag in
      let source : big_at 4 26 (without_tag f) ≡ big_at 4 26 (drop 4 f) = number_after 4 14 in
      let destination : big_at 4 30 (without_tag f) ≡ big_at 4 30 (drop 4 f) = number_after 4 18 in
      cc

pub hosts_tagged : (f : List ℕ) → is_tagged f ≡ true → hosts_in (fields_of (drop 4 f)) ≡ hosts_of f
hosts_tagged f e = sym (hosts_after f (tag_whole f e)) ∙ ap (λ b. hosts_in (fields_of (cond b (without_tag f) f))) (sym e)

-- ---- other hosts

abbrev nothing : Result (Option Found) Fault
nothing = Ok None

tested : (a b c d e : Bool) (rest : Result (Option Found) Fault) → (a ≡ true) ⊎ (e ≡ true)
    → cond a nothing (cond b nothing (cond c nothing (cond d nothing (cond e nothing rest)))) ≡ nothing
tested true b c d e rest h = refl
tested false true c d e rest h = refl
tested false false true d e rest h = refl
tested false false false true e rest h = refl
tested false false false false true rest h = refl
tested false false false false false rest (inl h) = absurd cc
tested false false false false false rest (inr h) = absurd cc

-- too short, or between hosts that aren't those of the channels
abbrev pub IsElsewhere : List Channel → Fields → Type 0
IsElsewhere channels x = (nat_lt x.captured 34 ≡ true) ⊎ (not (has_known_addresses channels x) ≡ true)

-- what is judged of a frame between hosts of the channels
abbrev later : List Channel → Fields → Result (Option Found) Fault
later channels x =
    cond (x.more_fragments == 1 || nat_lt 0 x.fragment_offset) (Err (fault_at fragment 0))
    (cond (nat_lt x.total_length (x.header_length + 8)) (Err (fault_at bad_udp 0))
    (cond (nat_lt x.captured (14 + x.header_length + 8)) (Err (fault_at cut_packet 0))
    (cond (is_none (direction_of channels x)) (Ok None)
    (cond (nat_lt x.udp_length 8 || nat_lt (x.total_length - x.header_length) x.udp_length) (Err (fault_at bad_udp 0))
    (cond (nat_lt x.captured (14 + x.header_length + x.udp_length)) (Err (fault_at cut_packet 0))
    (Ok (option_map (found_in x) (direction_of channels x))))))))

found_none : (channels : List Channel) (x : Fields) → IsElsewhere channels x → found_by channels x ≡ nothing
unfolding found_by
found_none channels x h =
    tested (nat_lt x.captured 34) (not (x.ether_type == 0x0800)) (not (x.version == 4) || nat_lt x.header_length 20) (not (x.protocol == 17)) (not (has_known_addresses channels x))
    (later channels x) h

none_by : (channels : List Channel) (f : List ℕ) (b : Bool) → is_tagged f ≡ b → untagged_of channels (cond b (without_tag f) f) ≡ nothing
    → cond b (map_found (moved_on 4) (untagged_of channels (without_tag f))) (untagged_of channels f) ≡ nothing
none_by channels f true e h = ap (map_found (moved_on 4)) h
none_by channels f false e h = h

pub elsewhere_none : (channels : List Channel) (f : List ℕ) → IsElsewhere channels (fields_of (read_from f)) → packet_in channels f ≡ Ok None
unfolding packet_in datagram_of
elsewhere_none channels f h = ap (map_found (packet_at f)) (none_by channels f (is_tagged f) refl (found_none channels (fields_of (read_from f)) h))

-- ---- known hosts

passes_by : {X : Type 0} (test : X → Bool) (x : X) (xs : List X) (b : Bool) → test x ≡ b → (b || list_any test xs) ≡ true
    → (list_any test xs ≡ true → (y : X) × Contains xs y × (test y ≡ true)) → (y : X) × Contains (x ∷ xs) y × (test y ≡ true)
passes_by test x xs true is h more = (x, (0, omega arith, refl), is)
passes_by test x xs false is h more = let found = more h in (found.0, Contains-append_right (x ∷ []) xs found.0 found.1, found.2)

pub some_passes : {X : Type 0} (test : X → Bool) (xs : List X) → list_any test xs ≡ true → (x : X) × Contains xs x × (test x ≡ true)
some_passes test [] e = absurd cc
some_passes test (x ∷ xs) e = passes_by test x xs (test x) refl e (some_passes test xs)

-- the frame goes one way over the channel or the other
abbrev goes_over : Fields → Channel → Bool
goes_over x c = has_addresses x c.client c.server || has_addresses x c.server c.client

same_hosts : (x : Fields) (source destination : Endpoint) → has_addresses x source destination ≡ true → x.source_address * 2 ^ 32 + x.destination_address ≡ hosts_between source destination
unfolding has_addresses
same_hosts x source destination e =
    let first : x.source_address ≡ address_of source = grind (arith, nat_tests, e) in
    let second : x.destination_address ≡ address_of destination = grind (arith, nat_tests, e) in
    ap (λ n. n * 2 ^ 32 + x.destination_address) first ∙ ap (λ n. address_of source * 2 ^ 32 + n) second

-- these are the hosts of a channel, in one direction or the other
abbrev pub AreHostsOf : ℕ → Channel → Type 0
AreHostsOf hosts c = (hosts ≡ hosts_between c.client c.server) ⊎ (hosts ≡ hosts_between c.server c.client)

either : (x : Fields) (c : Channel) (a b : Bool) → has_addresses x c.client c.server ≡ a → has_addresses x c.server c.client ≡ b → (a || b) ≡ true
    → AreHostsOf (x.source_address * 2 ^ 32 + x.destination_address) c
either x c true b e f h = inl (same_hosts x c.client c.server e)
either x c false true e f h = inr (same_hosts x c.server c.client f)
either x c false false e f h = absurd cc

same_some : (a b : ℕ) → ◌≡◌ {A = Option ℕ} (Some a) (Some b) → a ≡ b
same_some a b e = cc

short_by : (x : Fields) (b : Bool) → nat_lt x.captured 34 ≡ b → hosts_in x ≡ None → b ≡ true
short_by x true e h = refl
short_by x false e h = (let wrong : ◌≡◌ {A = Option ℕ} (Some (x.source_address * 2 ^ 32 + x.destination_address)) None = ap (λ b. cond b None (Some (x.source_address * 2 ^ 32 + x.destination_address))) (sym e) ∙ h in absurd cc)

-- a frame without hosts is too short
pub without_hosts : (channels : List Channel) (f : List ℕ) → hosts_of f ≡ None → packet_in channels f ≡ Ok None
without_hosts channels f e = elsewhere_none channels f (inl (let x = fields_of (read_from f) in short_by x (nat_lt x.captured 34) refl e))

hosts_by : (x : Fields) (hosts : ℕ) (b : Bool) → nat_lt x.captured 34 ≡ b → hosts_in x ≡ Some hosts → hosts ≡ x.source_address * 2 ^ 32 + x.destination_address
hosts_by x hosts true e h = (let wrong : ◌≡◌ {A = Option ℕ} None (Some hosts) = ap (λ b. cond b None (Some (x.source_address * 2 ^ 32 + x.destination_address))) (sym e) ∙ h in absurd cc)
hosts_by x hosts false e h = sym (same_some _ _ (ap (λ b. cond b None (Some (x.source_address * 2 ^ 32 + x.destination_address))) (sym e) ∙ h))

abbrev pub HasChannel : List Channel → ℕ → Type 0
HasChannel channels hosts = (c : Channel) × Contains channels c × AreHostsOf hosts c

or_assoc : (a b c : Bool) → ((a || b) || c) ≡ (a || (b || c))
or_assoc true b c = refl
or_assoc false b c = refl

-- some direction passes exactly where some channel does in one of its two directions
any_direction : (p : Endpoint → Endpoint → Bool) (number : ℕ) (channels : List Channel)
    → list_any (λ (c : Channel). p c.client c.server || p c.server c.client) channels ≡ list_any (λ (d : Direction). p d.source d.destination) (directions_from number channels)
any_direction p number [] = refl
any_direction p number (c ∷ channels) =
    ap (λ b. (p c.client c.server || p c.server c.client) || b) (any_direction p (number + 1) channels) ∙ or_assoc (p c.client c.server) (p c.server c.client) _

known_so : (channels : List Channel) (x : Fields) → list_any (goes_over x) channels ≡ has_known_addresses channels x
unfolding has_known_addresses
known_so channels x = any_direction (has_addresses x) 1 channels

by_known : (channels : List Channel) (f : List ℕ) (hosts : ℕ) (b : Bool) → list_any (goes_over (fields_of (read_from f))) channels ≡ b → hosts_of f ≡ Some hosts
    → HasChannel channels hosts ⊎ (packet_in channels f ≡ Ok None)
by_known channels f hosts true h e =
    let x = fields_of (read_from f) in
    let some = some_passes (goes_over x) channels h in
    inl (some.0, some.1, subst (λ n. AreHostsOf n some.0) (sym (hosts_by x hosts (nat_lt x.captured 34) refl e)) (either x some.0 _ _ refl refl some.2))
by_known channels f hosts false h e = inr (elsewhere_none channels f (inr (ap not (sym (known_so channels (fields_of (read_from f))) ∙ h))))

-- of a frame between these hosts: some channel has them, or it is none of these channels'
pub of_hosts : (channels : List Channel) (f : List ℕ) (hosts : ℕ) → hosts_of f ≡ Some hosts → HasChannel channels hosts ⊎ (packet_in channels f ≡ Ok None)
of_hosts channels f hosts e = by_known channels f hosts (list_any (goes_over (fields_of (read_from f))) channels) refl e
