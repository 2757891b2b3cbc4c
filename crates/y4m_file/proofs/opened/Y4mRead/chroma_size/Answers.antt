-- Assumes nothing.
use Rattle.std.proofs.Common.{arith}
use Rattle.y4m_file.proofs.Whole.{read_sizes}
use Rattle.y4m_file.proofs.opened.Y4mRead.chroma_size.Goals as goal

pub chroma_size-requires : goal.chroma_size-requires
chroma_size-requires c = let s = read_sizes c.args.self.now in (omega (arith, s.0), omega (arith, s.1))
