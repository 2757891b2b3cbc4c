-- `luma_row` meets its contract. The invariant: the bytes before x are painted. A turn paints a pixel and its neighbour to the right.
-- Assumes nothing.
use Prim.Native.Nat.{min}
use Rattle.pixel_pairs.specs.Rows.{Lumas422}
use Rattle.sharpen_row.proofs.luma_row.Given as goal

abbrev pub invariant-loop-x : goal.invariant-loop-x
invariant-loop-x g l = Lumas422 l.fn.tables.rows.frame g.row.N l.fn.row (min l.x l.width) l.fn.y l.y
