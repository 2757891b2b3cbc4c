-- The size of a chroma plane: docs/RULES.md, 1.5.
-- Assumes nothing.
use Rattle.std.specs.Prelude.{ℕ, ◌+◌, ◌/◌}
use Rattle.yuv_support.specs.declared.YuvChromaSubsampling.{YuvChromaSubsampling}
use Rattle.yuv_support.specs.declared.YuvChromaSubsampling.TheVariants.{Yuv420, Yuv422}

-- RULES 1.5: cw
abbrev pub chroma_width : ℕ → ℕ
chroma_width w = (w + 1) / 2

-- RULES 1.5: ch
abbrev pub chroma_height : YuvChromaSubsampling → ℕ → ℕ
chroma_height Yuv420 h = (h + 1) / 2
chroma_height Yuv422 h = h
