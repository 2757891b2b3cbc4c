-- The sizes of an accepted matrix's luma weights give each colour its luma: none is negative, and no hold moves a sum.
-- Assumes nothing.
use Rattle.std.proofs.Common.{ℤ}
use Prim.Native.Nat.{ℕ, ◌+◌, ◌*◌, ◌/◌, ◌%◌, ◌≤◌, ◌<◌}
use mathlib.Core.Path.{◌≡◌, sym, ap, ◌∙◌}
use native.Mathlib.Nat.{div-div-eq-div-mul}
use native.Mathlib.Omega.{arith}
use lib.Dec.{T}
use lib.IntN.{nat_abs}
use Rattle.yuv_support.specs.declared.YuvRange.{YuvRange}
use Rattle.yuv_support.specs.declared.YuvRange.TheVariants.{Limited, Full}
use Rattle.yuv_support.specs.declared.YuvStandardMatrix.{YuvStandardMatrix}
use Rattle.yuv_support.specs.Matrix.{accepted}
use Rattle.forward_transform.specs.declared.CbCrForwardTransform.{CbCrForwardTransform}
use Rattle.forward_transform.specs.Shape.{Shape, luma_most}
use Rattle.forward_transform.proofs.Sums.{luma_bias}
use Rattle.built_coefficients.specs.Built.{forward_transform}
use Rattle.built_coefficients.proofs.Shapes.{forward_Shape}
use Rattle.definitions.proofs.Pixel.{luma_is}
use Rattle.colour_counts.specs.declared.luma.LumaWeights.{LumaWeights}
use Rattle.colour_counts.specs.Counts.{settings_of}
use Rattle.colour_counts.specs.Known.{Weighs}

-- the bytes of a colour's number
pub bytes : (c : ℕ) → c < 16777216 → (c / 65536 < 256) × (c / 256 % 256 < 256) × (c % 256 < 256)
bytes c h = omega arith

-- which make it up
pub read_back : (c : ℕ) → c ≡ c / 65536 * 65536 + c / 256 % 256 * 256 + c % 256
read_back c = omega (arith, div-div-eq-div-mul c 256 256)

-- no sum reaches 256 × 8,192
light : (range : YuvRange) (n : ℕ) → n ≤ luma_most range → 255 * n + luma_bias range < 256 * 8192
light Limited n h = omega arith
light Full n h = omega arith

module _ (range : YuvRange) (matrix : YuvStandardMatrix) (a : T (accepted matrix)) where
  abbrev t : CbCrForwardTransform ℤ
  t = forward_transform range matrix

  shape : Shape range t
  shape = forward_Shape range matrix a

  -- every luma is a byte
  pub byte_luma : (r g b start : ℕ) → r ≡ nat_abs t.yr → g ≡ nat_abs t.yg → b ≡ nat_abs t.yb → start ≡ luma_bias range → 255 * (r + g + b) + start < 256 * 8192
  byte_luma r g b start x y z s =
      let R = x ∙ ap nat_abs shape.yr in
      let G = y ∙ ap nat_abs shape.yg in
      let B = z ∙ ap nat_abs shape.yb in
      omega (arith, light range _ shape.luma_most_lem)

  pub weighs : (w : LumaWeights) → w.r ≡ nat_abs t.yr → w.g ≡ nat_abs t.yg → w.b ≡ nat_abs t.yb → w.start ≡ luma_bias range → Weighs range matrix w
  weighs w r g b start =
      let R = r ∙ ap nat_abs shape.yr in
      let G = g ∙ ap nat_abs shape.yg in
      let B = b ∙ ap nat_abs shape.yb in
      record {
        light = w.byte_luma;
        luma = λ c l. let n = bytes c l in rw (R, G, B, start) (sym (luma_is (settings_of range matrix) shape _ _ _ n.0 n.1 n.2));
      }
