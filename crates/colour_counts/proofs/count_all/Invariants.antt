-- After so many pairs `counts` holds how many of their colours have each luma.
-- Assumes nothing.
use Rattle.std.proofs.Common.{◌≡◌, ◌*◌, ◌≤◌, length}
use Rattle.definitions.specs.Painted.{Painted}
use Rattle.colour_counts.specs.Counts.{count_below}
use Rattle.colour_counts.specs.Known.{luma_by}
use Rattle.colour_counts.proofs.count_all.Given as goal

abbrev pub invariant-loop-pair : goal.invariant-loop-pair
invariant-loop-pair l = (l.pair ≤ 65536) × (length l.counts ≡ 256) × Painted 256 (count_below (luma_by l.w) (l.pair * 256)) l.fn.counts l.counts
