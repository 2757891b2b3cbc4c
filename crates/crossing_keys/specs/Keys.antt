-- The crossings of a list of records, and a key as a number.
-- Assumes nothing.
use Rattle.std.specs.Prelude.{ℕ, List, map}
use Rattle.shift_file.specs.File.{ShiftRecord}
use Rattle.crossing_keys.specs.declared.key.Key.{Key}

-- RULES 13.1
abbrev pub crossing_of : ShiftRecord → ℕ
crossing_of r = r.crossing

-- RULES 13.1
abbrev pub crossings_of : List ShiftRecord → List ℕ
crossings_of rs = map crossing_of rs

-- a key's number
abbrev pub number_of : Key → ℕ
number_of k = k.0
