-- `fours420` meets its contract. The invariant: luma and chroma are begun as far as chroma byte 2k.
-- Assumes nothing.
use Prim.Native.Nat.{◌*◌}
use Rattle.pixel_pairs.specs.Rows.{Begun420}
use Rattle.sharpen_row.proofs.fours420.Given as goal

abbrev pub invariant-loop-k : goal.invariant-loop-k
invariant-loop-k g l = Begun420 l.fn.tables.luma.rows.frame g.row.N l.fn.this l.fn.below (2 * l.k) l.fn.y l.fn.u l.fn.v l.y l.u l.v
