-- What is found out of a datagram: how it fits each length of the codes, and its hash.
use Rattle.std.specs.Prelude.{ℕ, ◌+◌, ◌-◌, ◌==◌, ◌||◌, Bool, true, false, List, length, Option, Some, None, Result, Ok}
use Rattle.std.specs.Prelude.{Err, nat_lt, if◌then◌else◌}
use Rattle.std.specs.Hash.DefaultHasher as sip
use Rattle.rasta_pcap.specs.declared.fault.Fault.{Fault}
use Rattle.rasta_pcap.specs.declared.fault.Side.TheVariants.{Client}
use Rattle.rasta_pdu.specs.Params.{Parameters}
use Rattle.rasta_pdu.specs.Pdu.{RedundancyPdu, decode_of, little_at}
use Rattle.seatmelon_packets.specs.declared.lengths.Fit.{Fit}
use Rattle.seatmelon_packets.specs.declared.lengths.Fit.TheVariants as fit
use Rattle.seatmelon_packets.specs.declared.lengths.Fits.{Fits}
use Rattle.seatmelon_packets.specs.declared.lengths.CodeTrials.{CodeTrials}
use Rattle.seatmelon_packets.specs.declared.lengths.Trials.{Trials}
use Rattle.seatmelon_packets.specs.declared.recognizer.Features.{Features}

-- a PDU whose code is wrong has the form alone; its ids are judged after all that is asked for
abbrev pub fit_of_fault : ℕ → Fit
fit_of_fault number = if number == 25 then fit.Form else if number == 26 then fit.StartWords else fit.None

abbrev pub fit_of_reading : Result RedundancyPdu Fault → Fit
fit_of_reading (Ok pdu) = fit.StartWords
fit_of_reading (Err f) = fit_of_fault f.number

-- how a datagram fits a length of the safety code, which is tried by these parameters
abbrev pub fit_by : Option Parameters → List ℕ → Fit
fit_by None bytes = fit.None
fit_by (Some p) bytes = fit_of_reading (decode_of p Client bytes)

abbrev pub fits_by_codes : CodeTrials → ℕ → List ℕ → Fits
fits_by_codes t check_length bytes = record {
  no_code = fit_by t.no_code bytes;
  short_code = fit_by t.short_code bytes;
  long_code = fit_by t.long_code bytes;
  check_length = check_length;
}

-- the trials with a check code of this length
abbrev pub trials_with : Trials → ℕ → CodeTrials
trials_with t check_length = if check_length == 0 then t.no_check else if check_length == 2 then t.short_check
    else t.long_check

-- how a datagram with a check code of this length fits each length of the safety code
unfoldable pub fits_by : Trials → ℕ → List ℕ → Fits
fits_by t check_length bytes = fits_by_codes (trials_with t check_length) check_length bytes

abbrev pub is_fit : Fit → Bool
is_fit fit.None = false
is_fit fit.Form = true
is_fit fit.StartWords = true

abbrev pub fits_any : Fits → Bool
fits_any f = is_fit f.no_code || is_fit f.short_code || is_fit f.long_code

-- the length of a check code behind a safety PDU of this length, in what follows the front of a datagram
abbrev pub check_length_in : ℕ → ℕ → Option ℕ
check_length_in safety rest =
    if rest == safety then Some 0
    else if rest == safety + 2 then Some 2
    else if rest == safety + 4 then Some 4
    else None

-- the length of a datagram's check code: of what follows its safety PDU, whose length stands at 8
abbrev pub check_length_of : List ℕ → Option ℕ
check_length_of bytes = check_length_in (little_at 2 8 bytes) (length bytes - 8)

-- SipHash-1-3 with both keys 0
abbrev pub hash_of : List ℕ → ℕ
hash_of bytes = sip.finish (sip.write sip.initial bytes)

-- the features of a datagram whose lengths fit so: none where none fits
abbrev pub features_with : Fits → List ℕ → Option Features
features_with f bytes = if fits_any f then Some (record { fits = f; hash = hash_of bytes }) else None

abbrev pub features_by_check : Trials → Option ℕ → List ℕ → Option Features
features_by_check t None bytes = None
features_by_check t (Some check_length) bytes = features_with (fits_by t check_length bytes) bytes

-- the features of a datagram, if its form fits any lengths of the codes
unfoldable pub features_by : Trials → List ℕ → Option Features
features_by t bytes = if nat_lt (length bytes) 36 then None else features_by_check t (check_length_of bytes) bytes
