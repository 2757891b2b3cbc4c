-- `any_overlap` meets its contract. The invariant: the test of all frames is that of the frames that are left.
-- Assumes nothing.
use Rattle.std.proofs.Common.{◌≡◌, length}
use Rattle.convoy_parts.specs.Parts.{any_overlap}
use Rattle.convoy_parts.proofs.any_overlap.Given as goal

abbrev pub invariant-loop-frame : goal.invariant-loop-frame
invariant-loop-frame l = any_overlap l.frames ≡ any_overlap l.rest

abbrev pub decreases-loop-frame : goal.decreases-loop-frame
decreases-loop-frame l = length l.rest
