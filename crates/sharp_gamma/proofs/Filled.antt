-- A table of 65,536 entries while it is filled, run by run: below index i it has its entries, and no entry from i on is below k. `FilledBy` says so of
-- whatever entries have these first indices, since a loop's invariant sees the list and not the transfer. The run of 255 is the last.
-- Assumes nothing.
use Rattle.std.proofs.Common.{◌≡◌, ℕ, ◌-◌, ◌≤◌, ◌<◌, List, ◌++◌, length, get_or, take, replicate, arith}
use Rattle.std.proofs.lemmas.Grind.{common_steps}
use Rattle.sharp_gamma.specs.FirstIndices.{FirstIndices}

pub record Filled (entry : ℕ → ℕ) (table : List ℕ) (i k : ℕ) : Type 0 where
  pub done : (j : ℕ) → j < i → get_or table j 0 ≡ entry j
  pub least : (j : ℕ) → i ≤ j → j < 65536 → k ≤ entry j

abbrev pub FilledBy : List ℕ → List ℕ → ℕ → ℕ → Type 0
FilledBy firsts table i k = (entry : ℕ → ℕ) → FirstIndices entry firsts → Filled entry table i k

pub finish : {entry : ℕ → ℕ} {table run : List ℕ} {i : ℕ} → Filled entry table i 255 → ((j : ℕ) → entry j ≤ 255) → length table ≡ 65536 → i ≤ 65536
    → run ≡ replicate (65536 - i) 255 → (rest : List ℕ) (j : ℕ) → j < 65536 → get_or (take i table ++ (run ++ rest)) j 0 ≡ entry j
finish f most size h r rest j l = grind (arith, common_steps, f.done j, f.least j, most j)
