-- Both loops: the planes are equal up to the place of the word, or of the byte. Assumes nothing.
use Rattle.std.proofs.Common.{◌+◌, ◌*◌, ◌≤◌}
use Rattle.plane_difference.specs.Difference.{equal_front}
use Rattle.plane_difference.proofs.is_row_equal.Given as goal

abbrev pub invariant-loop-k : goal.invariant-loop-k
invariant-loop-k l = l.from + 8 * l.k ≤ equal_front l.ours l.theirs

abbrev pub invariant-loop-at : goal.invariant-loop-at
invariant-loop-at l = l.at ≤ equal_front l.ours l.theirs
