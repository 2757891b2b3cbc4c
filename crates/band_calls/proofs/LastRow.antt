-- The last row of a band, in the band's source. Assumes nothing.
use Prim.Native.Nat.{ℕ, ◌+◌, ◌-◌, ◌≤◌}
use mathlib.Core.List.{List}
use native.Mathlib.Nat.{mul_comm}
use native.Mathlib.Omega.{arith}
use lib.ListN.{length}
use Rattle.definitions.specs.declared.Band.{Band}
use Rattle.definitions.specs.Image.{pixel_size, row_size, row_start}
use Rattle.definitions.proofs.Numbers.{row_end, columns_inside}
use Rattle.yuv_error.specs.Known.{Sized, Given}

pub last_row : (b : Band) (source : List ℕ) → Sized b.frame → Given b (length source)
    → row_start b.frame b.stride (b.rows - 1) + row_size b.frame ≤ length source
last_row b source sized given = omega (
  arith,
  given.source_size,
  given.source_row,
  mul_comm b.stride b.rows,
  row_end (b.rows - 1) b.rows b.stride (omega (arith, given.rows_least)),
  columns_inside b.frame.window.left b.frame.width b.frame.window.source_width (pixel_size b.frame) sized.right,
)
