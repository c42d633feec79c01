-- The format that a capture tells is that of its file.
use Rattle.std.proofs.Common.{◌≡◌, ◌∙◌, ℕ, List, ◌++◌, Option, ap, sym}
use Rattle.seatmelon_pcapng.specs.Formats.{format_in, is_of_pcapng, noted_by}
use Rattle.seatmelon_pcapng.specs.Giving.{told_as}
use Rattle.seatmelon_pcapng.specs.Peeked.{begins_pcapng}
use Rattle.seatmelon_pcapng.specs.declared.capture.Capture.{Capture}
use Rattle.seatmelon_pcapng.specs.declared.capture.Capture.TheVariants.{Plain, Converted}
use Rattle.seatmelon_pcapng.proofs.Formats.{capture-cooked, capture-other, capture-refused}
use Rattle.seatmelon_pcapng.proofs.Gives.{told_apart}
use Rattle.seatmelon_commands.specs.Formats.{FormatFits}

module _ {S : Type 0} (remaining : S → Option (List ℕ)) (notes : S → List ℕ → Type 0) where
  format_is : (c : Capture S) (file given : List ℕ) → noted_by remaining notes c (told_as file ++ given) → is_of_pcapng (format_in c) ≡ begins_pcapng file
  format_is (Plain p) file given h = sym (ap begins_pcapng (told_apart file h.0 given h.1 h.2).0 ∙ h.3.2)
  format_is (Converted c) file given h = sym (ap begins_pcapng (told_apart file h.0 given h.1 h.2).0 ∙ h.3.1)

  -- these bytes were given of a file
  pub format_fits : (c : Capture S) (file given : List ℕ) → noted_by remaining notes c (told_as file ++ given) → FormatFits file (format_in c)
  format_fits c file given h = (
    format_is c file given h,
    λ refusal. capture-refused remaining notes c file given refusal h,
    λ link_type. capture-other remaining notes c file given link_type h,
    λ link_type. capture-cooked remaining notes c file given link_type h,
  )
