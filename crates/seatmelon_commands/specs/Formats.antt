-- The format in which a file was read.
use Rattle.std.specs.Prelude.{◌≡◌, ℕ, List, Some}
use Rattle.seatmelon_pcapng.specs.Formats.{cooked_told, format_of, is_of_pcapng, other_told, refusal_told}
use Rattle.seatmelon_pcapng.specs.Peeked.{begins_pcapng}
use Rattle.seatmelon_pcapng.specs.declared.format.Format.{Format}
use Rattle.seatmelon_pcapng.specs.declared.refusal.Refusal.{Refusal}

-- a format is that of a file, and a refusal and link types that it tells are the file's; what a file is refused for,
-- and its first packets that aren't frames of Ethernet, may stand behind what was read of it
abbrev pub FormatFits : List ℕ → Format → Type 0
FormatFits file format = (is_of_pcapng format ≡ begins_pcapng file)
    × ((refusal : Refusal) → refusal_told format ≡ Some refusal → refusal_told (format_of file) ≡ Some refusal)
    × ((link_type : ℕ) → other_told format ≡ Some link_type → other_told (format_of file) ≡ Some link_type)
    × ((link_type : ℕ) → cooked_told format ≡ Some link_type → cooked_told (format_of file) ≡ Some link_type)
