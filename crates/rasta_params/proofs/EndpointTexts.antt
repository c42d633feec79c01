-- Numbers that are read and searched for, and their texts.
use Rattle.std.proofs.Common.{◌≡◌, ◌≢◌, ℕ, ◌^◌, ◌<◌, ◌≤◌, List, Option, Some, None, Result, Ok, IfNone, IfSome, sym, arith}
use Rattle.std.specs.Fmt.{decimal}
use Rattle.std.specs.Str.Parse.{ParsesUnsigned}
use Rattle.std.proofs.lemmas.Fmt.{parse-decimal}
use Rattle.rasta_line.specs.Words.{decimal_of}
use Rattle.rasta_line.proofs.Numbers.{decimal_of-decimal, decimal_of-None}

-- the text of a number is read as that number
pub parsed : {E : Type 0} (n most : ℕ) (text : List ℕ) (r : Result ℕ E) → most < 2 ^ 32 → n ≤ most → text ≡ decimal n → ParsesUnsigned 32 10 text r
    → r ≡ Ok n
parsed n most text r small h e p = parse-decimal 32 n text r (omega arith) (omega arith) e p

-- a search for the number that a text spells has found it
pub decimal_of-found : (most : ℕ) (text : List ℕ) (r : Option ℕ) → most < 2 ^ 64 → IfSome r (λ n. (text ≡ decimal n) × (n ≤ most))
    → IfNone r ((n : ℕ) → n ≤ most → text ≢ decimal n) → r ≡ decimal_of most text
decimal_of-found most text None small found none = decimal_of-None most text none
decimal_of-found most text (Some n) small found none = sym (decimal_of-decimal most n text small found.1 found.0)
