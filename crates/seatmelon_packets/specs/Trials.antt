-- The parameters by which the lengths of the codes are tried.
use Rattle.std.specs.Prelude.{ℕ, List, [], ◌∷◌, None, Some}
use Rattle.rasta_md4.specs.Md4.{start_words}
use Rattle.rasta_pdu.specs.Params.{Parameters}
use Rattle.rasta_udp.specs.declared.channel.Channel.{Channel}
use Rattle.rasta_udp.specs.declared.channel.Endpoint.{Endpoint}
use Rattle.seatmelon_packets.specs.declared.lengths.CodeTrials.{CodeTrials}
use Rattle.seatmelon_packets.specs.declared.lengths.Trials.{Trials}

abbrev pub any_end : ℕ → Endpoint
any_end port = record { address = 0 ∷ 0 ∷ 0 ∷ 0 ∷ []; port = port }

-- reading a datagram asks for no channel
abbrev pub any_channel : Channel
any_channel = record { client = any_end 1; server = any_end 2 }

-- codes of these lengths, with the start words of MD4 itself
abbrev pub trial_of : ℕ → ℕ → Parameters
trial_of code_length check_length = record {
  client_id = 1;
  server_id = 2;
  code_length = code_length;
  md4_start = start_words;
  check_length = check_length;
  n_sendmax = 1;
  t_max = 1;
  slack = 0;
  first_record = 1;
  last_record = 1;
  channels = any_channel ∷ [];
  quiet = None;
}

-- each length of the safety code, with a check code of this length
abbrev pub codes_tried : ℕ → CodeTrials
codes_tried check_length = record {
  no_code = Some (trial_of 0 check_length);
  short_code = Some (trial_of 8 check_length);
  long_code = Some (trial_of 16 check_length);
}

-- each length that the codes can have
abbrev pub all_trials : Trials
all_trials = record { no_check = codes_tried 0; short_check = codes_tried 2; long_check = codes_tried 4 }
