-- The weights of luma as whole numbers. This serves the contracts of the smaller functions: no meaning stands here.
-- Assumes nothing.
use Rattle.std.specs.Prelude.{ℕ, ◌+◌, ◌*◌, ◌/◌, ◌%◌, ◌<◌, ◌≡◌}
use Rattle.yuv_support.specs.declared.YuvRange.{YuvRange}
use Rattle.yuv_support.specs.declared.YuvStandardMatrix.{YuvStandardMatrix}
use Rattle.colour_counts.specs.declared.luma.LumaWeights.{LumaWeights}
use Rattle.colour_counts.specs.Counts.{colours, luma_of_colour}

-- the luma of a colour by such weights
abbrev pub luma_by : LumaWeights → (c : ℕ) → ℕ
luma_by w c = (c / 65536 * w.r + c / 256 % 256 * w.g + c % 256 * w.b + w.start) / 8192

-- every luma is a byte
abbrev pub ByteLuma : LumaWeights → Type 0
ByteLuma w = 255 * (w.r + w.g + w.b) + w.start < 256 * 8192

-- weights that give each colour its luma
pub record Weighs (range : YuvRange) (matrix : YuvStandardMatrix) (w : LumaWeights) : Type 0 where
  pub light : ByteLuma w
  pub luma : (c : ℕ) → c < colours → luma_by w c ≡ luma_of_colour range matrix c
