-- `luma_ahead` meets its contract. The invariant: no byte past the row has changed.
-- Assumes nothing.
use lib.ListN.{get_or}
use Rattle.definitions.specs.Painted.{Painted}
use Rattle.sharpen_row.proofs.luma_ahead.Given as goal

abbrev pub invariant-loop-x : goal.invariant-loop-x
invariant-loop-x g l = Painted l.fn.tables.rows.frame.width (λ k. get_or l.y k 0) l.fn.y l.y
