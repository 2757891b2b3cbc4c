-- `pairs_start` meets its contract: an odd first row is written, and nothing before an even one.
-- Assumes nothing.
use Rattle.definitions.proofs.Bands.{Sharpened-none}
use Rattle.band_planes.proofs.pairs_start.Goals as goal

pub returns-then-done-eq0-clause-sharpened : goal.returns-then-done-eq0-clause-sharpened
returns-then-done-eq0-clause-sharpened g c =
    Sharpened-none _ _ _ _ _ _
