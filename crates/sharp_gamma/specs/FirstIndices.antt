-- Serves the contract of the private function `first_index_table` only.
-- Assumes nothing.
use Rattle.std.specs.Prelude.{List, ℕ, ◌≤◌, ◌<◌, get_or}

-- number k of the list is the first index below 65,536 whose entry is at least k
pub record FirstIndices (entry : ℕ → ℕ) (l : List ℕ) : Type 0 where
  pub from : (k i : ℕ) → k < 256 → i < 65536 → get_or l k 0 ≤ i → k ≤ entry i
  pub before : (k i : ℕ) → k < 256 → i < 65536 → i < get_or l k 0 → entry i < k
