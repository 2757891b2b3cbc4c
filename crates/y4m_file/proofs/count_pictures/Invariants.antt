-- `count_pictures` meets its contract: so many pictures of all are the others of what is left, and no fewer are all.
-- Assumes nothing.
use Rattle.std.proofs.Common.{ℕ, ◌≡◌, ◌+◌, ◌≤◌, ◌<◌, false, length}
use Rattle.y4m_file.specs.Check.{pictures}
use Rattle.y4m_file.proofs.count_pictures.Given as goal

abbrev pub invariant-loop-rest : goal.invariant-loop-rest
invariant-loop-rest l =
    ((j : ℕ) → pictures l.planes (l.count + j) l.bytes ≡ pictures l.planes j l.rest)
    × ((j : ℕ) → j < l.count → pictures l.planes j l.bytes ≡ false) × (l.count + length l.rest ≤ length l.bytes)

abbrev pub decreases-loop-rest : goal.decreases-loop-rest
decreases-loop-rest l = length l.rest
