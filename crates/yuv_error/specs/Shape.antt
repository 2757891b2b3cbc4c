-- The planes of a shape, and the rules that are asked of them alone: docs/RULES.md, 1.5, 2.1, 7.6, 7.7 and 11.6.
-- Assumes nothing.
use Rattle.std.specs.Prelude.{ℕ, List}
use Rattle.yuv_support.specs.Sampling.{chroma_width, chroma_height}
use Rattle.yuv_error.specs.declared.LentBuffer.{LentBuffer}
use Rattle.yuv_error.specs.declared.PlaneShape.{PlaneShape}
use Rattle.yuv_error.specs.Rules.{Rule, planes_rules}

-- RULES 2.1, 7.6: h rows of w bytes
abbrev pub luma_lent : PlaneShape → (len : ℕ) → LentBuffer
luma_lent s len = record { row = s.width; rows = s.height; stride = s.y_stride; len = len }

-- RULES 1.5, 2.1, 7.6: ch rows of cw bytes
abbrev pub chroma_lent : PlaneShape → (stride len : ℕ) → LentBuffer
chroma_lent s stride len = record { row = chroma_width s.width; rows = chroma_height s.sampling s.height; stride = stride; len = len }

-- RULES 7.6, 7.7, 11.6: 8 to 12, of planes of these lengths
abbrev pub shape_rules : PlaneShape → (y u v : ℕ) → List Rule
shape_rules s y u v = planes_rules (luma_lent s y) (chroma_lent s s.u_stride u) (chroma_lent s s.v_stride v)
