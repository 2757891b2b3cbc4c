-- `band_in_parts` meets its contract: what came back stands in the place of what was lent.
-- Assumes nothing.
use Rattle.desk_bands.specs.Buffers.{buffers_of}
use Rattle.desk_bands.proofs.Parts.{serve_inside}
use Rattle.desk_bands.proofs.band_in_parts.Goals as goal

pub returns : goal.returns
returns c =
    serve_inside c.args.frame c.args.band (buffers_of c.args.source.now c.args.y.now c.args.u.now c.args.v.now c.args.carried.now) c.band.result _ _ _ _
    c.requires
    c.band.auto.y c.band.auto.u c.band.auto.v c.band.auto.carried c.band.ensures
