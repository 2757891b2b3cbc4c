-- `rest422` meets its contract. The invariant: what was begun as far as the last whole four is begun as far as j.
-- Assumes nothing.
use Prim.Native.Nat.{◌*◌, ◌/◌}
use Rattle.pixel_pairs.specs.Rows.{Begun422, Stepped}
use Rattle.sharpen_row.proofs.rest422.Given as goal

abbrev pub invariant-loop-j : goal.invariant-loop-j
invariant-loop-j g l = Stepped (Begun422 l.fn.tables.luma.rows.frame g.row.N l.fn.this) (2 * (l.width / 4)) l.j l.fn.y l.fn.u l.fn.v l.y l.u l.v
