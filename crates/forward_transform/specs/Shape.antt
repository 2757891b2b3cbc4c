-- What the nine weights of every accepted matrix look like: their signs, and the sum of each triple, off by at most what rounding three or two
-- weights adds. No meaning of a weight stands here: this record is what functions over weights ask of them, and what is proved of every accepted
-- matrix (built_coefficients' proofs/Shapes.antt).
-- Assumes nothing.
use Rattle.std.specs.Prelude.{◌≡◌, ℕ, ◌+◌, ◌≤◌, ℤ, pos, neg_ℤ}
use Rattle.yuv_support.specs.declared.YuvRange.{YuvRange}
use Rattle.yuv_support.specs.declared.YuvRange.TheVariants.{Limited, Full}
use Rattle.forward_transform.specs.declared.CbCrForwardTransform.{CbCrForwardTransform}

-- the sum of three luma weights is within 1.5 of 8,192 × 219 / 255, which is 7,035.5, or of 8,192; Smpte240's stored ones add to 8,193
abbrev pub luma_least : YuvRange → ℕ
luma_least Limited = 7034
luma_least Full = 8191

abbrev pub luma_most : YuvRange → ℕ
luma_most Limited = 7036
luma_most Full = 8193

-- the one positive weight of a chroma triple, a half of that; the two others add to it within 1
abbrev pub chroma_top : YuvRange → ℕ
chroma_top Limited = 3598
chroma_top Full = 4096

pub record Shape (range : YuvRange) (t : CbCrForwardTransform ℤ) : Type 0 where
  pub luma_r : ℕ
  pub luma_g : ℕ
  pub luma_b : ℕ
  pub cb_r_size : ℕ
  pub cb_g_size : ℕ
  pub cr_g_size : ℕ
  pub cr_b_size : ℕ
  pub yr : t.yr ≡ pos luma_r
  pub yg : t.yg ≡ pos luma_g
  pub yb : t.yb ≡ pos luma_b
  pub cb_r : t.cb_r ≡ neg_ℤ (pos cb_r_size)
  pub cb_g : t.cb_g ≡ neg_ℤ (pos cb_g_size)
  pub cb_b : t.cb_b ≡ pos (chroma_top range)
  pub cr_r : t.cr_r ≡ pos (chroma_top range)
  pub cr_g : t.cr_g ≡ neg_ℤ (pos cr_g_size)
  pub cr_b : t.cr_b ≡ neg_ℤ (pos cr_b_size)
  pub luma_least_lem : luma_least range ≤ luma_r + luma_g + luma_b
  pub luma_most_lem : luma_r + luma_g + luma_b ≤ luma_most range
  pub cb_least : chroma_top range ≤ cb_r_size + cb_g_size + 1
  pub cb_most : cb_r_size + cb_g_size ≤ chroma_top range + 1
  pub cr_least : chroma_top range ≤ cr_g_size + cr_b_size + 1
  pub cr_most : cr_g_size + cr_b_size ≤ chroma_top range + 1
