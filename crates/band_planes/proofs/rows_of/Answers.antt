-- `rows_of` meets its contract, a sampling at a time: the band's image has the band's own rows.
-- Assumes nothing.
use Rattle.definitions.specs.Bands.{band_image}
use Rattle.band_steps.specs.Steps.{band_of}
use Rattle.band_steps.proofs.Steps.{Sees-own}
use Rattle.band_planes.proofs.rows_of.Goals as goal

pub returns-in-Yuv422 : goal.returns-in-Yuv422
returns-in-Yuv422 g c =
    c.rows422.ensures (band_image (band_of c.args.work.now) c.args.work.now.source.now c.args.carried.now) (Sees-own (band_of c.args.work.now) c.args.work.now.source.now c.args.carried.now)
