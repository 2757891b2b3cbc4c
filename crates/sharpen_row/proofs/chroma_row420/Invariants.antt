-- `chroma_row420` meets its contract. The invariant: the first j bytes of both chroma rows are painted.
-- Assumes nothing.
use Rattle.definitions.specs.Row.{pixels_of, input420}
use Rattle.pixel_pairs.specs.Rows.{ChromaPainted}
use Rattle.sharpen_row.proofs.chroma_row420.Given as goal

abbrev pub invariant-loop-j : goal.invariant-loop-j
invariant-loop-j g l = ChromaPainted l.fn.tables.luma.rows.frame (input420 l.fn.tables.luma.rows.frame (pixels_of g.row.C l.fn.this) (pixels_of g.row.N l.fn.below)) l.j l.fn.u l.fn.v l.u l.v
