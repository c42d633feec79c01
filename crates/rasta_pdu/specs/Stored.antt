-- How parameters are stored: the channels stand before a list of four places.
use Rattle.std.specs.Prelude.{◌≡◌, ℕ, ◌-◌, List, [], ◌∷◌, ◌++◌, length, take, replicate}
use Rattle.std.proofs.Common.{◌∙◌, ap}
use Rattle.rasta_udp.specs.declared.channel.Channel.{Channel}
use Rattle.rasta_udp.specs.declared.channel.Endpoint.{Endpoint}
use Rattle.rasta_pdu.specs.Params.{Parameters, AreParameters}
use Rattle.rasta_pdu.specs.declared.params.Params.TheInside.{Inside}

-- what stands in a place that no channel takes
abbrev pub nowhere : Endpoint
nowhere = record { address = 0 ∷ 0 ∷ 0 ∷ 0 ∷ []; port = 0 }

abbrev pub unused : Channel
unused = record { client = nowhere; server = nowhere }

abbrev pub parameters_of : Inside → Parameters
parameters_of i = record {
  client_id = i.client_id;
  server_id = i.server_id;
  code_length = i.code_length;
  md4_start = i.md4_start;
  check_length = i.check_length;
  n_sendmax = i.n_sendmax;
  t_max = i.t_max;
  slack = i.slack;
  first_record = i.first_record;
  last_record = i.last_record;
  channels = take i.channel_count i.channels;
  quiet = i.quiet;
}

-- four places, of which the channels take the first
abbrev pub in_places : List Channel → List Channel
in_places channels = channels ++ replicate (4 - length channels) unused

pub record AreStored (i : Inside) : Type 0 where
  pub valid : AreParameters (parameters_of i)
  pub count : length (take i.channel_count i.channels) ≡ i.channel_count
  pub places : in_places (take i.channel_count i.channels) ≡ i.channels

abbrev pub stored : Parameters → Inside
stored p = record {
  client_id = p.client_id;
  server_id = p.server_id;
  code_length = p.code_length;
  md4_start = p.md4_start;
  check_length = p.check_length;
  n_sendmax = p.n_sendmax;
  t_max = p.t_max;
  slack = p.slack;
  first_record = p.first_record;
  last_record = p.last_record;
  channels = in_places p.channels;
  channel_count = length p.channels;
  quiet = p.quiet;
}

-- nothing of what is stored is lost in the parameters
pub stored-parameters_of : (i : Inside) → AreStored i → stored (parameters_of i) ≡ i
stored-parameters_of i are =
    ap
    (λ (cs : List Channel).
    let j : Inside = record i { channels = cs; channel_count = length (take i.channel_count i.channels) } in j)
    are.places
    ∙ ap (λ (n : ℕ). let j : Inside = record i { channel_count = n } in j) are.count
