-- After so many blues `counts` holds how many of the colours up to there have each luma, and the sum is that of the next blue.
-- Assumes nothing.
use Rattle.std.proofs.Common.{◌≡◌, ◌+◌, ◌*◌, ◌≤◌, length}
use Rattle.definitions.specs.Painted.{Painted}
use Rattle.colour_counts.specs.Counts.{count_below}
use Rattle.colour_counts.specs.Known.{luma_by}
use Rattle.colour_counts.proofs.count_blues.Given as goal

abbrev pub invariant-loop-blue : goal.invariant-loop-blue
invariant-loop-blue l =
    (l._blue ≤ 256) × (length l.counts ≡ 256) × (l.sum ≡ l.initial.sum + l._blue * l.w.b * 4294967296)
    × Painted 256 (count_below (luma_by l.w) (l.pair * 256 + l._blue)) l.initial.counts l.counts
