-- `plane_bytes` meets its contract: luma, and chroma twice.
-- Assumes nothing.
use native.Mathlib.Omega.{arith}
use Rattle.y4m_file.specs.Check.{plane_bytes}
use Rattle.y4m_file.proofs.plane_bytes.Goals as goal

pub returns : goal.returns
unfolding plane_bytes
returns c = (simp (c.luma_size.ensures.0, c.chroma_size.ensures.0), omega (arith, c.luma_size.ensures.1, c.chroma_size.ensures.1))
