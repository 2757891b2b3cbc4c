-- The invariant: the planes are equal up to the row. Assumes nothing.
use Rattle.std.proofs.Common.{◌*◌, ◌≤◌}
use Rattle.plane_difference.specs.Difference.{equal_front}
use Rattle.plane_difference.proofs.equal_rows.Given as goal

abbrev pub invariant-loop-row : goal.invariant-loop-row
invariant-loop-row l = l.width * l.row ≤ equal_front l.ours l.theirs
