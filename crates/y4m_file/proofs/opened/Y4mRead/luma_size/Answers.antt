-- Assumes nothing.
use Rattle.std.proofs.Common.{arith}
use Rattle.y4m_file.proofs.Whole.{read_sizes}
use Rattle.y4m_file.proofs.opened.Y4mRead.luma_size.Goals as goal

pub luma_size-requires : goal.luma_size-requires
luma_size-requires c = let s = read_sizes c.args.self.now in (omega (arith, s.0), omega (arith, s.1))
