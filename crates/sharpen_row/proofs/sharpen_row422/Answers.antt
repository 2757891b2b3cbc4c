-- `sharpen_row422` meets its contract: pixels in fours, and the rest; they paint over the lumas that were written ahead.
-- Assumes nothing.
use Rattle.definitions.proofs.Painted.{Painted-over}
use Rattle.pixel_pairs.proofs.Pairs.{written422}
use Rattle.sharpen_row.proofs.sharpen_row422.Goals as goal

pub returns-clause-luma_written : goal.returns-clause-luma_written
returns-clause-luma_written g c =
    let all = written422 _ _ (c.rest422.ensures.further _ _ _ c.fours422.ensures) in
    Painted-over c.luma_ahead.ensures all.0
