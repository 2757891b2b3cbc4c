-- `plane_sizes` meets its contract: the sides and the sampling that the header says are the file's. Assumes nothing.
use native.Mathlib.Omega.{arith}
use Rattle.y4m_file.specs.Read.{file_in}
use Rattle.y4m_reader.proofs.plane_sizes.Goals as goal

pub returns : goal.returns
unfolding file_in
returns c = record {
  luma_is = c.luma_size.ensures.0;
  chroma_is = c.chroma_size.ensures.0;
  luma_most_lem = omega (arith, c.luma_size.ensures.1);
  chroma_most = omega (arith, c.chroma_size.ensures.1);
}
