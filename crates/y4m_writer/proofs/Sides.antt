-- A text and the decimal of a side behind it. Assumes nothing.
use Prim.Native.Nat.{ℕ, ◌+◌, ◌≤◌}
use mathlib.Core.Path.{◌≡◌, ap, sym}
use mathlib.Core.List.{List, ◌++◌}
use native.Mathlib.Omega.{arith}
use lib.ListN.{length, length-append}
use lib.Seq.{sets}
use Rattle.std.specs.Prelude.{decimal as printed}
use Rattle.y4m_writer.specs.Text.{decimal}
use Rattle.y4m_writer.proofs.Decimal.{decimal_printed, decimal-length}
use Rattle.y4m_writer.proofs.Puts.{two_runs}

module _ (v : ℕ) (h : v ≤ 16384) where
  pub printed_most : length (printed v) ≤ 5
  printed_most = omega (arith, ap length (decimal_printed v (omega arith)), decimal-length 5 v)

  pub side_put : (d s : List ℕ) → sets (sets d 0 s) (length s) (printed v) ≡ sets d 0 (s ++ decimal 5 v)
  side_put d s = rw (decimal_printed v (omega arith)) (two_runs d s (decimal 5 v))

  pub side_end : (s : List ℕ) → length s + length (printed v) ≡ length (s ++ decimal 5 v)
  side_end s = rw (decimal_printed v (omega arith)) (sym (length-append s (decimal 5 v)))
