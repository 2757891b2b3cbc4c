-- `luma_step` meets its contract: the part of the source is the image's row, and the part of the plane comes back painted.
-- Assumes nothing.
use Rattle.band_steps.specs.Steps.{band_by}
use Rattle.band_steps.proofs.Steps.{row_seen, luma_is}
use Rattle.band_steps.proofs.luma_step.Goals as goal

pub returns : goal.returns
returns g c =
    λ image sees. luma_is (band_by c.args.tables.now.rows.frame c.args.rows) c.args.step image c.requires.in_y (row_seen (band_by c.args.tables.now.rows.frame c.args.rows) c.args.source.now image c.requires.source_at sees) c.luma_row.ensures
