-- The parameter files that are named.
use Rattle.std.specs.Prelude.{ℕ, length}
use Rattle.seatmelon_many.specs.declared.files.ParameterFiles.{ParameterFiles}

abbrev pub count_in : ParameterFiles → ℕ
count_in f = length f.names.items
