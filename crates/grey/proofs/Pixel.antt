-- One grey pixel, in every accepted matrix: chroma 128, its own grey as luma in full range, 16 and 235 for black and white in limited range.
-- The idea: a triple's weights add to 0, or to 8,192 × ry / 255, within 1.5, so a sum is off by less than the 4,095 that stands on either side of it.
-- Assumes nothing.
use Rattle.std.proofs.Common.{ℤ}
use Prim.Native.Nat.{ℕ, ◌+◌, ◌*◌, ◌-◌, ◌/◌, ◌≤◌, ◌<◌}
use mathlib.Core.Path.{◌≡◌, sym, subst, ◌∙◌}
use native.Mathlib.Nat.{mul-le-mul_left}
use native.Mathlib.Omega.{arith}
use lib.Dec.{T}
use Rattle.yuv_support.specs.declared.YuvRange.{YuvRange}
use Rattle.yuv_support.specs.declared.YuvRange.TheVariants.{Limited, Full}
use Rattle.yuv_support.specs.Matrix.{accepted}
use Rattle.forward_transform.specs.declared.CbCrForwardTransform.{CbCrForwardTransform}
use Rattle.forward_transform.specs.Shape.{Shape, chroma_top}
use Rattle.forward_transform.proofs.Sums.{chroma_bias, luma_bias}
use Rattle.built_coefficients.proofs.Shapes.{forward_Shape}
use Rattle.definitions.specs.declared.YuvSettings.{YuvSettings}
use Rattle.definitions.specs.Pixel.{weights_of, luma_of, cb_of, cr_of}
use Rattle.definitions.proofs.Pixel.{luma_is, cb_is, cr_is}
use Rattle.grey.specs.Grey.{LumaOfGrey}

-- v of one weight less v of two others that add to it within 1
chroma_byte : (v top m n : ℕ) → v < 256 → top ≤ m + n + 1 → m + n ≤ top + 1 → (v * top + chroma_bias - (v * m + v * n)) / 8192 ≡ 128
chroma_byte v top m n h l k = omega (arith, mul-le-mul_left {m = top} {n = m + n + 1} v l, mul-le-mul_left {m = m + n} {n = top + 1} v k)

luma_byte : (v a b c : ℕ) → v < 256 → 8191 ≤ a + b + c → a + b + c ≤ 8193 → (v * a + v * b + v * c + 4095) / 8192 ≡ v
luma_byte v a b c h l k = omega (arith, mul-le-mul_left {m = 8191} {n = a + b + c} v l, mul-le-mul_left {m = a + b + c} {n = 8193} v k)

luma_of_lem : (range : YuvRange) {t : CbCrForwardTransform ℤ} (v : ℕ) → v < 256 → (h : Shape range t)
    → LumaOfGrey range v ((v * h.luma_r + v * h.luma_g + v * h.luma_b + luma_bias range) / 8192)
luma_of_lem Full v byte h = luma_byte v h.luma_r h.luma_g h.luma_b byte h.luma_least_lem h.luma_most_lem
luma_of_lem Limited v byte h = (λ black. rw black (omega arith), λ white. rw white (omega (arith, h.luma_least_lem, h.luma_most_lem)))

module _ (s : YuvSettings) (matrix : T (accepted s.matrix)) (v : ℕ) (byte : v < 256) where
  shape : Shape s.range (weights_of s)
  shape = forward_Shape s.range s.matrix matrix

  pub cb_grey : cb_of s v v v ≡ 128
  cb_grey = cb_is s shape v v v byte byte byte ∙ chroma_byte v (chroma_top s.range) shape.cb_r_size shape.cb_g_size byte shape.cb_least shape.cb_most

  pub cr_grey : cr_of s v v v ≡ 128
  cr_grey = cr_is s shape v v v byte byte byte ∙ chroma_byte v (chroma_top s.range) shape.cr_g_size shape.cr_b_size byte shape.cr_least shape.cr_most

  pub luma_grey : LumaOfGrey s.range v (luma_of s v v v)
  luma_grey = subst (LumaOfGrey s.range v) (sym (luma_is s shape v v v byte byte byte)) (luma_of_lem s.range v byte shape)
