-- Assumes nothing.
use native.Mathlib.Omega.{arith}
use lib.ListN.{length}
use Rattle.y4m_writer.proofs.Sizes.{count_most}
use Rattle.y4m_writer.proofs.Puts.{line_most}
use Rattle.y4m_writer.proofs.Whole.{planes_least}
use Rattle.y4m_writer.proofs.planes.WholePictures.file_size.Goals as goal

pub overflow_add-line : goal.overflow_add-line
overflow_add-line c = let l = c.args.self.now.header in omega (arith, c.requires, line_most l.sampling l.width l.height)

pub overflow_mul-count : goal.overflow_mul-count
overflow_mul-count c = omega (arith, c.count.ensures, count_most _ (length c.args.self.now.bytes.now) (planes_least c.args.self.now))
