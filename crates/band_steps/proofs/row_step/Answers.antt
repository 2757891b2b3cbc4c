-- `row_step` meets its contract: the part of the source is the image's row, and each plane's part comes back painted.
-- Assumes nothing.
use Rattle.band_steps.specs.Steps.{band_of}
use Rattle.band_steps.proofs.Steps.{row_seen, luma_is, chroma_422, row_stepped}
use Rattle.band_steps.proofs.row_step.Goals as goal

pub returns : goal.returns
returns g c =
    λ image sees.
    let this = row_seen (band_of c.args.work.now) c.args.work.now.source.now image c.requires.for_step.in_source sees in
    row_stepped c.requires.for_step.sampling (luma_is (band_of c.args.work.now) c.args.step image c.requires.in_y this c.sharpen_row422.ensures.luma_written)
    (chroma_422 (band_of c.args.work.now) c.args.step image c.requires.for_step.sampling c.requires.for_step.in_chroma this c.sharpen_row422.ensures.chroma_written)
