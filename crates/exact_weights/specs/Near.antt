-- How near the nine weights of every accepted pair are to the exact ones, and the sum of each triple to its exact sum: docs/RULES.md, 4.6.
-- In all bounds but that of cb_b and cr_r half a unit is what rounding to a whole number does; the rest covers f32.
-- Assumes nothing.
use Rattle.std.specs.Prelude.{ℕ, ◌+◌, ◌*◌, ◌-◌, ◌≤◌, T, Float, ℤ}
use Rattle.yuv_support.specs.declared.YuvRange.{YuvRange}
use Rattle.yuv_support.specs.declared.YuvRange.TheVariants.{Limited, Full}
use Rattle.yuv_support.specs.declared.YuvStandardMatrix.{YuvStandardMatrix}
use Rattle.yuv_support.specs.declared.YuvStandardMatrix.TheVariants.{Custom}
use Rattle.yuv_support.specs.Range.{yuv_range}
use Rattle.yuv_support.specs.Matrix.{accepted}
use Rattle.forward_transform.specs.declared.CbCrForwardTransform.{CbCrForwardTransform}
use Rattle.forward_transform.specs.Shape.{Shape, chroma_top}
use Rattle.built_coefficients.specs.Built.{forward_transform, pair_of}
use Rattle.exact_weights.specs.Exact.{one, red, blue, green}

-- RULES 4.6
abbrev pub distance : ℕ → ℕ → ℕ
distance a b = a - b + (b - a)

-- RULES 4.6: w is within bound / 100,000 of p / q, with nothing divided
abbrev pub Near : (bound w p q : ℕ) → Type 0
Near bound w p q = 100000 * distance (w * q) p ≤ bound * q

-- ---- the bounds
-- RULES 4.6: yr and yb
abbrev pub luma_bound : YuvRange → ℕ
luma_bound Limited = 50013
luma_bound Full = 50013

-- RULES 4.6: yg
abbrev pub luma_green_bound : YuvRange → ℕ
luma_green_bound Limited = 50067
luma_green_bound Full = 50049

-- RULES 4.6: cb_r and cr_b
abbrev pub chroma_bound : YuvRange → ℕ
chroma_bound Limited = 50056
chroma_bound Full = 50049

-- RULES 4.6: cb_g and cr_g
abbrev pub chroma_green_bound : YuvRange → ℕ
chroma_green_bound Limited = 50088
chroma_green_bound Full = 50086

-- RULES 4.6: cb_b and cr_r, which are 3,598 for 3,598.05, and 4,096
abbrev pub chroma_top_bound : YuvRange → ℕ
chroma_top_bound Limited = 5491
chroma_top_bound Full = 0

-- RULES 4.6: 255 times how far the three luma weights add from 8,192 × ry / 255
abbrev pub luma_sum_bound : YuvRange → ℕ
luma_sum_bound Limited = 378
luma_sum_bound Full = 255

-- RULES 4.6: how far above 0 the three weights of a chroma triple may add
abbrev pub chroma_sum_bound : YuvRange → ℕ
chroma_sum_bound Limited = 0
chroma_sum_bound Full = 1

-- RULES 4.6: y is k × ry / 255; cb is -1/2 × k / (1 - kb) × ruv / 255, or 1/2 × ruv / 255; cr has kr for kb; and 8,192 times that.
-- The signs are those of `Shape`: each size is near the exact one.
pub record NearWeights (range : YuvRange) (kr kb : Float) (t : CbCrForwardTransform ℤ) : Type 0 where
  pub shape : Shape range t
  pub yr : Near (luma_bound range) shape.luma_r (8192 * ((yuv_range range).range_y * red kr kb)) (255 * one kr kb)
  pub yg : Near (luma_green_bound range) shape.luma_g (8192 * ((yuv_range range).range_y * green kr kb)) (255 * one kr kb)
  pub yb : Near (luma_bound range) shape.luma_b (8192 * ((yuv_range range).range_y * blue kr kb)) (255 * one kr kb)
  pub cb_r : Near (chroma_bound range) shape.cb_r_size (8192 * ((yuv_range range).range_uv * red kr kb)) (255 * (2 * (one kr kb - blue kr kb)))
  pub cb_g : Near (chroma_green_bound range) shape.cb_g_size (8192 * ((yuv_range range).range_uv * green kr kb)) (255 * (2 * (one kr kb - blue kr kb)))
  pub cb_b : Near (chroma_top_bound range) (chroma_top range) (8192 * (yuv_range range).range_uv) (255 * 2)
  pub cr_r : Near (chroma_top_bound range) (chroma_top range) (8192 * (yuv_range range).range_uv) (255 * 2)
  pub cr_g : Near (chroma_green_bound range) shape.cr_g_size (8192 * ((yuv_range range).range_uv * green kr kb)) (255 * (2 * (one kr kb - red kr kb)))
  pub cr_b : Near (chroma_bound range) shape.cr_b_size (8192 * ((yuv_range range).range_uv * blue kr kb)) (255 * (2 * (one kr kb - red kr kb)))
  pub luma_sum : distance (255 * (shape.luma_r + shape.luma_g + shape.luma_b)) (8192 * (yuv_range range).range_y) ≤ luma_sum_bound range
  pub cb_sum_most : chroma_top range ≤ shape.cb_r_size + shape.cb_g_size + chroma_sum_bound range
  pub cb_sum_least : shape.cb_r_size + shape.cb_g_size ≤ chroma_top range + 1
  pub cr_sum_most : chroma_top range ≤ shape.cr_g_size + shape.cr_b_size + chroma_sum_bound range
  pub cr_sum_least : shape.cr_g_size + shape.cr_b_size ≤ chroma_top range + 1

-- RULES 4.6: every Custom pair that is not refused
abbrev pub CustomNear : Type 0
CustomNear = (range : YuvRange) (kr kb : Float) → T (accepted (Custom kr kb)) → NearWeights range kr kb (forward_transform range (Custom kr kb))

-- RULES 4.6: and every accepted matrix, over the pair whose weights it has
abbrev pub MatrixNear : Type 0
MatrixNear = (range : YuvRange) (matrix : YuvStandardMatrix) → T (accepted matrix)
    → NearWeights range (pair_of matrix).kr (pair_of matrix).kb (forward_transform range matrix)
