-- The ranges: docs/RULES.md, 1.4.
-- Assumes nothing.
use Rattle.yuv_support.specs.declared.YuvRange.{YuvRange}
use Rattle.yuv_support.specs.declared.YuvRange.TheVariants.{Limited, Full}
use Rattle.yuv_support.specs.declared.YuvChromaRange.{YuvChromaRange}

-- RULES 1.4: by, the chroma offset, ry, ruv
abbrev pub yuv_range : YuvRange → YuvChromaRange
yuv_range Limited = record { bias_y = 16; bias_uv = 128; range_y = 219; range_uv = 224 }
yuv_range Full = record { bias_y = 0; bias_uv = 128; range_y = 255; range_uv = 255 }
