-- Assumes nothing.
use native.Mathlib.Omega.{arith}
use Rattle.y4m_writer.proofs.Whole.{planes_known, planes_least}
use Rattle.y4m_writer.proofs.planes.WholePictures.plane_bytes.Goals as goal

pub plane_bytes-requires : goal.plane_bytes-requires
plane_bytes-requires c = let k = planes_known c.args.self.now in (k.wide.1, k.high.1)

pub returns-clause-bounds : goal.returns-clause-bounds
returns-clause-bounds c = omega (arith, c.plane_bytes.ensures, planes_least c.args.self.now)
