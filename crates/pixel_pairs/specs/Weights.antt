-- The weights of a pixel's bytes. This serves contracts: no meaning stands here.
-- Assumes nothing.
use Rattle.std.specs.Prelude.{◌≡◌, ℕ, ◌+◌, ◌≤◌, ◌<◌, ℤ, pos, neg_ℤ, nat_abs}
use Rattle.yuv_support.specs.declared.YuvSourceChannels.{YuvSourceChannels}
use Rattle.yuv_support.specs.declared.YuvSourceChannels.TheVariants.{Rgb, Rgba, Bgra, Bgr}
use Rattle.yuv_support.specs.declared.YuvRange.{YuvRange}
use Rattle.forward_transform.specs.declared.CbCrForwardTransform.{CbCrForwardTransform}
use Rattle.forward_transform.specs.Shape.{Shape, luma_least, luma_most, chroma_top}
use Rattle.definitions.specs.declared.YuvSettings.{YuvSettings}
use Rattle.definitions.specs.declared.FrameDescription.{FrameDescription}
use Rattle.definitions.specs.Pixel.{weigh, weights_of}
use Rattle.pixel_pairs.specs.declared.tables.Weights.{Weights}
use Rattle.pixel_pairs.specs.declared.tables.Conversion.{Conversion}

-- the weights of red, green and blue, in the order of a pixel's bytes
abbrev pub by_place : YuvSourceChannels → (r g b : ℤ) → Weights
by_place Rgb r g b = record { first = r; second = g; third = b }
by_place Rgba r g b = record { first = r; second = g; third = b }
by_place Bgra r g b = record { first = b; second = g; third = r }
by_place Bgr r g b = record { first = b; second = g; third = r }

abbrev pub luma_weights : YuvSettings → Weights
luma_weights s = by_place s.channels (weights_of s).yr (weights_of s).yg (weights_of s).yb

abbrev pub cb_weights : YuvSettings → Weights
cb_weights s = by_place s.channels (weights_of s).cb_r (weights_of s).cb_g (weights_of s).cb_b

abbrev pub cr_weights : YuvSettings → Weights
cr_weights s = by_place s.channels (weights_of s).cr_r (weights_of s).cr_g (weights_of s).cr_b

abbrev pub conversion_of : FrameDescription → Conversion
conversion_of d = record { frame = d; cb = cb_weights d.settings; cr = cr_weights d.settings }

-- t has the weights of the settings, and their shape
pub record Weighed (s : YuvSettings) (t : CbCrForwardTransform ℤ) : Type 0 where
  pub weights : t ≡ weights_of s
  pub shape : Shape s.range t

-- the shape by the sizes of the weights: it says what Shape says and holds no number, so that a type can have it as an invariant
pub record Shaped (range : YuvRange) (t : CbCrForwardTransform ℤ) : Type 0 where
  pub yr : t.yr ≡ pos (nat_abs t.yr)
  pub yg : t.yg ≡ pos (nat_abs t.yg)
  pub yb : t.yb ≡ pos (nat_abs t.yb)
  pub cb_r : t.cb_r ≡ neg_ℤ (pos (nat_abs t.cb_r))
  pub cb_g : t.cb_g ≡ neg_ℤ (pos (nat_abs t.cb_g))
  pub cb_b : t.cb_b ≡ pos (chroma_top range)
  pub cr_r : t.cr_r ≡ pos (chroma_top range)
  pub cr_g : t.cr_g ≡ neg_ℤ (pos (nat_abs t.cr_g))
  pub cr_b : t.cr_b ≡ neg_ℤ (pos (nat_abs t.cr_b))
  pub luma_least_lem : luma_least range ≤ nat_abs t.yr + nat_abs t.yg + nat_abs t.yb
  pub luma_most_lem : nat_abs t.yr + nat_abs t.yg + nat_abs t.yb ≤ luma_most range
  pub cb_least : chroma_top range ≤ nat_abs t.cb_r + nat_abs t.cb_g + 1
  pub cb_most : nat_abs t.cb_r + nat_abs t.cb_g ≤ chroma_top range + 1
  pub cr_least : chroma_top range ≤ nat_abs t.cr_g + nat_abs t.cr_b + 1
  pub cr_most : nat_abs t.cr_g + nat_abs t.cr_b ≤ chroma_top range + 1

-- the rows have the weights of their settings, and these have their shape
pub record Converts (rows : Conversion) : Type 0 where
  pub cb : rows.cb ≡ cb_weights rows.frame.settings
  pub cr : rows.cr ≡ cr_weights rows.frame.settings
  pub shape : Shaped rows.frame.settings.range (weights_of rows.frame.settings)

-- a number that is a byte
pub record InByte (z : ℤ) : Type 0 where
  pub byte : ℕ
  pub is : z ≡ pos byte
  pub below : byte < 256

-- weights whose chroma is a byte before it is held, whatever the colour
pub record ByteWeights (w : Weights) : Type 0 where
  pub first : nat_abs w.first ≤ 8193
  pub second : nat_abs w.second ≤ 8193
  pub third : nat_abs w.third ≤ 8193
  pub chroma : (x y z : ℕ) → x < 256 → y < 256 → z < 256 → InByte (weigh w.first w.second w.third 128 x y z)
