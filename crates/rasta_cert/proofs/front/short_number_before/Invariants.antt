use Rattle.std.proofs.Common.{◌≡◌, take}
use Rattle.std.specs.Str.Parse.{AllDigits, digits_value}
use Rattle.rasta_cert.proofs.front.short_number_before.Given as goal

-- the number of the digits so far
abbrev pub invariant-loop-count : goal.invariant-loop-count
invariant-loop-count l = record {
  value : l.value ≡ digits_value 10 (take l.count l.text);
  digits : AllDigits 10 (take l.count l.text);
}
