-- The channel orders: docs/RULES.md, 1.3.
-- Assumes nothing.
use Rattle.std.specs.Prelude.{ℕ}
use Rattle.yuv_support.specs.declared.YuvSourceChannels.{YuvSourceChannels}
use Rattle.yuv_support.specs.declared.YuvSourceChannels.TheVariants.{Rgb, Rgba, Bgra, Bgr}

-- RULES 1.3: c
abbrev pub channels_count : YuvSourceChannels → ℕ
channels_count Rgb = 3
channels_count Rgba = 4
channels_count Bgra = 4
channels_count Bgr = 3

-- RULES 1.3: which byte of a pixel is R
abbrev pub r_offset : YuvSourceChannels → ℕ
r_offset Rgb = 0
r_offset Rgba = 0
r_offset Bgra = 2
r_offset Bgr = 2

-- RULES 1.3: which is G
abbrev pub g_offset : YuvSourceChannels → ℕ
g_offset c = 1

-- RULES 1.3: which is B
abbrev pub b_offset : YuvSourceChannels → ℕ
b_offset Rgb = 2
b_offset Rgba = 2
b_offset Bgra = 0
b_offset Bgr = 0
