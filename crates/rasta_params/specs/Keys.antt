-- The parameters of a document, key by key.
use Rattle.std.specs.Prelude.{◌≡◌, ◌⊎◌, ◌≤◌, IfSome, ℕ, ◌+◌, pos, ℤ, List, [], ◌∷◌, Bool, true, ◌&&◌, ◌||◌, ◌==◌}
use Rattle.std.specs.Prelude.{nat_le, if◌then◌else◌, Option, Some, None, is_some, Result, Ok, Err, codes}
use Rattle.std.specs.List.{list_any}
use Rattle.std.specs.Str.{bytes_eq, is_utf8}
use Rattle.toml.specs.Data.{Data, Items, item, no_items, Members, member, no_members, get_member, as_array, as_integer}
use Rattle.toml.specs.Data.{as_str, as_table}
use Rattle.toml.specs.Parse.{parse_document}
use Rattle.rasta_pcap.specs.declared.fault.Fault.{Fault}
use Rattle.rasta_pcap.specs.Fault.{fault_at, no_memory, not_toml, missing_key, bad_value}
use Rattle.rasta_udp.specs.declared.channel.Channel.{Channel}
use Rattle.rasta_udp.specs.declared.channel.Endpoint.{Endpoint}
use Rattle.rasta_md4.specs.Md4.{start_words}
use Rattle.rasta_pdu.specs.Params.{Parameters, are_distinct, most_clock, routes}
use Rattle.rasta_pdu.specs.declared.quiet_point.Quiet.{Quiet}
use Rattle.rasta_pdu.specs.declared.quiet_point.QuietEnd.{QuietEnd}
use Rattle.rasta_params.specs.Endpoints.{endpoint_of}
use Rattle.rasta_params.specs.StartWords.{words_of}
use Rattle.rasta_params.specs.declared.document.Ids.{Ids}
use Rattle.rasta_params.specs.declared.document.CodeSettings.{CodeSettings}
use Rattle.rasta_params.specs.declared.document.Limits.{Limits}
use Rattle.rasta_params.specs.declared.document.Window.{Window}

infixl 10 ◌>>=◌
abbrev pub ◌>>=◌ : {A B : Type 0} → Result A Fault → (A → Result B Fault) → Result B Fault
(Ok x) >>= f = f x
(Err e) >>= f = Err e

abbrev pub missing_at : {A : Type 0} → ℕ → Result A Fault
missing_at place = Err (fault_at missing_key place)

abbrev pub bad_at : {A : Type 0} → ℕ → Result A Fault
bad_at place = Err (fault_at bad_value place)

-- the value, or a bad one at this place
abbrev pub or_bad : {A : Type 0} → ℕ → Option A → Result A Fault
or_bad place None = bad_at place
or_bad place (Some x) = Ok x

-- a key that has to be there, with a value that is read so
abbrev pub required : {A : Type 0} → ℕ → (Data → Option A) → Option Data → Result A Fault
required place read None = missing_at place
required place read (Some d) = or_bad place (read d)

-- a key that may be missing
abbrev pub optional : {A : Type 0} → ℕ → A → (Data → Option A) → Option Data → Result A Fault
optional place missing read None = Ok missing
optional place missing read (Some d) = or_bad place (read d)

-- a key whose value is left out where it is missing
abbrev pub found_or_bad : {A : Type 0} → ℕ → Option A → Result (Option A) Fault
found_or_bad place None = bad_at place
found_or_bad place (Some x) = Ok (Some x)

abbrev pub if_any : {A : Type 0} → ℕ → (Data → Option A) → Option Data → Result (Option A) Fault
if_any place read None = Ok None
if_any place read (Some d) = found_or_bad place (read d)

-- a whole number from low to high
abbrev pub in_range : ℕ → ℕ → Option ℤ → Option ℕ
in_range low high (Some (pos n)) = if nat_le low n && nat_le n high then Some n else None
in_range low high _ = None

abbrev pub whole : ℕ → ℕ → Data → Option ℕ
whole low high d = in_range low high (as_integer d)

unfoldable pub number_of_key : ℕ → List ℕ → ℕ → ℕ → Members → Result ℕ Fault
number_of_key place key low high ms = required place (whole low high) (get_member key ms)

unfoldable pub optional_at : ℕ → List ℕ → ℕ → ℕ → ℕ → Members → Result ℕ Fault
optional_at place key low high missing ms = optional place missing (whole low high) (get_member key ms)

unfoldable pub if_any_at : ℕ → List ℕ → ℕ → ℕ → Members → Result (Option ℕ) Fault
if_any_at place key low high ms = if_any place (whole low high) (get_member key ms)

abbrev pub endpoint_text_of : Option (List ℕ) → Option Endpoint
endpoint_text_of None = None
endpoint_text_of (Some text) = endpoint_of text

unfoldable pub endpoint_at : List ℕ → Members → Result Endpoint Fault
endpoint_at key ms = required 11 (λ d. endpoint_text_of (as_str d)) (get_member key ms)

-- each key is one of these
abbrev pub are_among : List (List ℕ) → Members → Bool
are_among names no_members = true
are_among names (member key d ms) = list_any (bytes_eq key) names && are_among names ms

abbrev pub channel_keys : List (List ℕ)
channel_keys = codes "client" ∷ codes "server" ∷ []

-- a channel: presence and value of `client`, then of `server`, then keys of other names
unfoldable pub channel_in : Members → Result Channel Fault
channel_in ms = do
  client ← endpoint_at (codes "client") ms
  server ← endpoint_at (codes "server") ms
  if are_among channel_keys ms then Ok (record { client = client; server = server }) else bad_at 11

abbrev pub channel_of_table : Option Members → Result Channel Fault
channel_of_table None = bad_at 11
channel_of_table (Some ms) = channel_in ms

abbrev pub channel_of : Data → Result Channel Fault
channel_of d = channel_of_table (as_table d)

abbrev pub with_channel : Result Channel Fault → Result (List Channel) Fault → Result (List Channel) Fault
with_channel (Err e) more = Err e
with_channel (Ok c) (Err e) = Err e
with_channel (Ok c) (Ok cs) = Ok (c ∷ cs)

-- the channels of an array's tables, one after the other
unfoldable pub channels_in : Items → Result (List Channel) Fault
channels_in no_items = Ok []
channels_in (item d ds) = with_channel (channel_of d) (channels_in ds)

abbrev pub count_of : Items → ℕ
count_of no_items = 0
count_of (item d ds) = count_of ds + 1

abbrev pub are_tables : Items → Bool
are_tables no_items = true
are_tables (item d ds) = is_some (as_table d) && are_tables ds

abbrev pub are_few_tables : Items → Bool
are_few_tables ds = nat_le 1 (count_of ds) && nat_le (count_of ds) 4 && are_tables ds

-- an array of one to four tables
abbrev pub few_tables : Option Items → Option Items
few_tables None = None
few_tables (Some ds) = if are_few_tables ds then Some ds else None

-- that it is an array of one to four tables; then the tables; then that no route stands there twice
unfoldable pub channels_at : Members → Result (List Channel) Fault
channels_at ms = do
  tables ← required 11 (λ d. few_tables (as_array d)) (get_member (codes "channel") ms)
  channels ← channels_in tables
  if are_distinct (routes channels) then Ok channels else bad_at 11

-- the words of a text
abbrev pub words_text_of : Option (List ℕ) → Option (List ℕ)
words_text_of None = None
words_text_of (Some text) = words_of text

-- one end: presence and value of each key
unfoldable pub quiet_end_in : Members → Result QuietEnd Fault
quiet_end_in ms = do
  next_sn ← number_of_key 13 (codes "next_sn") 0 4294967295 ms
  clock ← number_of_key 13 (codes "clock") 0 most_clock ms
  deadline ← if_any_at 13 (codes "deadline") 0 most_clock ms
  handed_ts ← if_any_at 13 (codes "handed_ts") 0 4294967295 ms
  Ok (record { next_sn = next_sn; clock = clock; deadline = deadline; handed_ts = handed_ts })

-- the clock and the deadline are ones that a document can have
abbrev pub HasClocks : QuietEnd → Type 0
HasClocks e = (e.clock ≤ most_clock) × IfSome e.deadline (λ d. d ≤ most_clock)

abbrev pub quiet_end_of_table : Option Members → Result QuietEnd Fault
quiet_end_of_table None = bad_at 13
quiet_end_of_table (Some ms) = quiet_end_in ms

abbrev pub quiet_end_of : Data → Result QuietEnd Fault
quiet_end_of d = quiet_end_of_table (as_table d)

abbrev pub quiet_keys : List (List ℕ)
quiet_keys = codes "next_sn" ∷ codes "clock" ∷ codes "deadline" ∷ codes "handed_ts" ∷ []

-- each key of the table is one of these
abbrev pub has_keys_among : List (List ℕ) → Option Members → Bool
has_keys_among names None = true
has_keys_among names (Some ms) = are_among names ms

-- the clock hasn't passed the deadline by more than the slack
abbrev pub is_in_time : ℕ → ℕ → Option ℕ → Bool
is_in_time slack clock None = true
is_in_time slack clock (Some deadline) = nat_le clock (deadline + slack)

abbrev pub present : {A : Type 0} → ℕ → Option A → Result A Fault
present place None = missing_at place
present place (Some x) = Ok x

-- the client's keys, and then the server's
unfoldable pub ends_of : Data → Data → Result Quiet Fault
ends_of of_client of_server = do
  client ← quiet_end_of of_client
  server ← quiet_end_of of_server
  Ok (record { client = client; server = server })

-- the quiet point has the keys of both ends alone, and each end its own
abbrev pub have_quiet_keys : Members → Data → Data → Bool
have_quiet_keys ms of_client of_server =
    are_among channel_keys ms && has_keys_among quiet_keys (as_table of_client)
    && has_keys_among quiet_keys (as_table of_server)

abbrev pub are_in_time : ℕ → Quiet → Bool
are_in_time slack q =
    is_in_time slack q.client.clock q.client.deadline && is_in_time slack q.server.clock q.server.deadline

-- presence of both ends; their keys; keys of other names; and last the clocks
unfoldable pub quiet_in : ℕ → Members → Result Quiet Fault
quiet_in slack ms = do
  of_client ← present 13 (get_member (codes "client") ms)
  of_server ← present 13 (get_member (codes "server") ms)
  quiet ← ends_of of_client of_server
  if have_quiet_keys ms of_client of_server && are_in_time slack quiet then Ok quiet else bad_at 13

abbrev pub quiet_of_table : ℕ → Option Members → Result Quiet Fault
quiet_of_table slack None = bad_at 13
quiet_of_table slack (Some ms) = quiet_in slack ms

abbrev pub as_found : {A : Type 0} → Result A Fault → Result (Option A) Fault
as_found (Ok x) = Ok (Some x)
as_found (Err e) = Err e

abbrev pub quiet_of : ℕ → Option Data → Result (Option Quiet) Fault
quiet_of slack None = Ok None
quiet_of slack (Some d) = as_found (quiet_of_table slack (as_table d))

-- the quiet point, where one is recorded
unfoldable pub quiet_at : ℕ → Members → Result (Option Quiet) Fault
quiet_at slack ms = quiet_of slack (get_member (codes "quiet") ms)

abbrev pub known_keys : List (List ℕ)
known_keys = codes "client_id" ∷ codes "server_id" ∷ codes "code_length" ∷ codes "md4_start" ∷ codes "check_length"
    ∷ codes "n_sendmax" ∷ codes "t_max" ∷ codes "slack" ∷ codes "first_record" ∷ codes "last_record" ∷ codes "channel"
    ∷ codes "quiet" ∷ []

-- the ids, which are not the same
unfoldable pub ids_of : Members → Result Ids Fault
ids_of ms = do
  client_id ← number_of_key 1 (codes "client_id") 0 4294967295 ms
  server_id ← number_of_key 2 (codes "server_id") 0 4294967295 ms
  if client_id == server_id then bad_at 2 else Ok (record { client_id = client_id; server_id = server_id })

-- the length of a safety code, in bytes
abbrev pub code_length : Option ℤ → Option ℕ
code_length (Some (pos n)) = if n == 0 || n == 8 || n == 16 then Some n else None
code_length _ = None

unfoldable pub code_length_at : Members → Result ℕ Fault
code_length_at ms = required 3 (λ d. code_length (as_integer d)) (get_member (codes "code_length") ms)

-- the length of the check code of the redundancy layer, in bytes
abbrev pub check_length : Option ℤ → Option ℕ
check_length (Some (pos n)) = if n == 0 || n == 2 || n == 4 then Some n else None
check_length _ = None

unfoldable pub check_length_at : Members → Result ℕ Fault
check_length_at ms = required 5 (λ d. check_length (as_integer d)) (get_member (codes "check_length") ms)

-- the start words, those of the RFC where none are recorded
unfoldable pub md4_start_at : Members → Result (List ℕ) Fault
md4_start_at ms = optional 4 start_words (λ d. words_text_of (as_str d)) (get_member (codes "md4_start") ms)

-- the length of the safety code, the start words, the length of the check code
unfoldable pub code_settings_of : Members → Result CodeSettings Fault
code_settings_of ms = do
  code_length ← code_length_at ms
  md4_start ← md4_start_at ms
  check_length ← check_length_at ms
  Ok (record { code_length = code_length; md4_start = md4_start; check_length = check_length })

unfoldable pub limits_of : Members → Result Limits Fault
limits_of ms = do
  n_sendmax ← number_of_key 6 (codes "n_sendmax") 1 65535 ms
  t_max ← number_of_key 7 (codes "t_max") 1 60000 ms
  slack ← number_of_key 8 (codes "slack") 0 1000 ms
  Ok (record { n_sendmax = n_sendmax; t_max = t_max; slack = slack })

-- the window of records: the whole file, where nothing else is said
unfoldable pub window_of : Members → Result Window Fault
window_of ms = do
  first_record ← optional_at 9 (codes "first_record") 1 4000000000 1 ms
  last_record ← optional_at 10 (codes "last_record") first_record 4000000000 4000000000 ms
  Ok (record { first_record = first_record; last_record = last_record })

abbrev pub parameters_with : Ids → CodeSettings → Limits → Window → List Channel → Option Quiet → Parameters
parameters_with ids settings limits window channels quiet = record {
  client_id = ids.client_id;
  server_id = ids.server_id;
  code_length = settings.code_length;
  md4_start = settings.md4_start;
  check_length = settings.check_length;
  n_sendmax = limits.n_sendmax;
  t_max = limits.t_max;
  slack = limits.slack;
  first_record = window.first_record;
  last_record = window.last_record;
  channels = channels;
  quiet = quiet;
}

-- the parameters that the known keys give, or the first fault in the order of the keys
unfoldable pub known_of : Members → Result Parameters Fault
known_of ms = do
  ids ← ids_of ms
  settings ← code_settings_of ms
  limits ← limits_of ms
  window ← window_of ms
  channels ← channels_at ms
  quiet ← quiet_at limits.slack ms
  Ok (parameters_with ids settings limits window channels quiet)

-- the parameters of a document; keys of other names are judged last
unfoldable pub parameters_of : Members → Result Parameters Fault
parameters_of ms = do
  parameters ← known_of ms
  if are_among known_keys ms then Ok parameters else bad_at 12

-- the document of a text, where it is one
abbrev pub document_of : List ℕ → Option Members
document_of text = if is_utf8 text then parse_document text else None

abbrev pub parameters_in : Option Members → Result Parameters Fault
parameters_in None = Err (fault_at not_toml 0)
parameters_in (Some ms) = parameters_of ms

-- the parameters of a text, or their first fault, or out of memory
abbrev pub ReadsParameters : List ℕ → Result Parameters Fault → Type 0
ReadsParameters text r = (r ≡ Err no_memory) ⊎ (r ≡ parameters_in (document_of text))
