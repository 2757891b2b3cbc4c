-- What a call without the later numbers means: docs/RULES.md, 10.1 and 10.2.
-- Assumes nothing.
use Rattle.std.specs.Prelude.{ℕ, ◌≡◌, List, [], ◌∷◌, ◌++◌, Float, length}
use Rattle.call_numbers.specs.Codes.{at, description_of, is_unknown}

-- RULES 10.1, 10.2: these numbers describe what those do, and have codes without a meaning where those have
pub record SameMeaning (custom : List Float) (numbers numbers' : List ℕ) : Type 0 where
  pub description : description_of numbers custom ≡ description_of numbers' custom
  pub codes : is_unknown numbers ≡ is_unknown numbers'

-- RULES 10.1: ten numbers are truncated, and with eleven the window is the whole source
pub record OldCalls (numbers : List ℕ) (custom : List Float) : Type 0 where
  pub truncated : length numbers ≡ 10 → SameMeaning custom numbers (numbers ++ (0 ∷ []))
  pub whole : length numbers ≡ 11 → SameMeaning custom numbers (numbers ++ (0 ∷ 0 ∷ at numbers 0 ∷ at numbers 1 ∷ []))
