use Rattle.std.proofs.Common.{◌≡◌, ◌∙◌, ℕ, ◌+◌, ◌-◌, ◌<◌, List, [], ◌∷◌, ◌++◌, ap, refl, arith}
use Rattle.std.specs.List.{flat_map}
use Rattle.seatmelon_cooked.specs.Frames.{excess, header_length}
use Rattle.seatmelon_pcapng.specs.Memory.{bytes_held}
use Rattle.seatmelon_pcapng.specs.Readings.{cooked_in, packet_bytes}
use Rattle.seatmelon_pcapng.proofs.CookedRecords.{spelled-cut}
use Rattle.seatmelon_pcapng.proofs.Ways.{OnOk-then}
use Rattle.seatmelon_pcapng.proofs.classic.spell_cooked.Goals as goal

pub returns-clause-held : goal.returns-clause-held
returns-clause-held c =
    let block = c.args.block.now in
    let found = c.args.found.now in
    let kind = c.args.kind in
    let old = bytes_held c.args.held.now in
    let original : ℕ = c.saturating_sub.result in
    let is_original : original ≡ found.original - excess kind = c.saturating_sub.ensures ∙ ap (λ (n : ℕ). found.original - n) c.excess.ensures in
    let cut : found.end < found.start + header_length kind = omega arith in
    let spells : c.front_of.result ++ [] ≡ flat_map packet_bytes (cooked_in block found kind ∷ []) =
    ap (λ (l : List ℕ). l ++ []) c.front_of.ensures ∙ spelled-cut block found kind c.requires original found.end is_original cut refl in
    OnOk-then c.put.result (bytes_held c.put.new.self ≡ old ++ (c.front_of.result ++ [])) (bytes_held c.put.new.self ≡ old ++ flat_map packet_bytes (cooked_in block found kind ∷ []))
    c.put.ensures.held (λ e. e ∙ ap (λ (l : List ℕ). old ++ l) spells)
