-- Both loops, which begin in the first row that is not equal: the planes are equal up to the place, and none is found. Assumes nothing.
use Rattle.std.proofs.Common.{◌≡◌, ◌+◌, ◌*◌, ◌≤◌, None}
use Rattle.plane_difference.specs.Difference.{equal_front}
use Rattle.plane_difference.proofs.compare_planes.Given as goal

abbrev pub invariant-loop-column : goal.invariant-loop-column
invariant-loop-column l = (l.found ≡ None) × (l.width * l.row + l.column ≤ equal_front l.ours l.theirs)

abbrev pub invariant-rows : goal.invariant-rows
invariant-rows l = (l.found ≡ None) × (l.width * l.row ≤ equal_front l.ours l.theirs)
