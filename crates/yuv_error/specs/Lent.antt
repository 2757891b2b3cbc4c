-- What a frame or band call is lent, by its frame's description, and the rules that both kinds of call ask: docs/RULES.md, 2.1, 7.3 to 7.7 and 7.9.
-- Assumes nothing.
use Rattle.std.specs.Prelude.{ℕ, ◌+◌, ◌||◌, List, [], ◌∷◌, ◌++◌, ltb, length, Result, Ok, Err}
use Rattle.definitions.specs.declared.FrameDescription.{FrameDescription}
use Rattle.definitions.specs.Image.{source_row_size}
use Rattle.yuv_error.specs.declared.YuvError.{YuvError}
use Rattle.yuv_error.specs.declared.LentBuffer.{LentBuffer}
use Rattle.yuv_error.specs.declared.Lengths.{Lengths}
use Rattle.yuv_error.specs.declared.PlaneShape.{PlaneShape}
use Rattle.yuv_error.specs.Rules.{Rule, rule, size_rules, large_rules, matrix_rules, buffer_rules}
use Rattle.yuv_error.specs.Shape.{luma_lent, chroma_lent}

-- the lengths of a source and of the planes
abbrev pub lengths_of : (source y u v : List ℕ) → Lengths
lengths_of source y u v = record { source = length source; y = length y; u = length u; v = length v }

-- RULES 2.1, 7.5: `rows` source rows of W × c bytes
abbrev pub source_of : FrameDescription → (rows stride len : ℕ) → LentBuffer
source_of d rows stride len = record { row = source_row_size d; rows = rows; stride = stride; len = len }

-- RULES 2.1: the shape of its planes
abbrev pub shape_of : FrameDescription → PlaneShape
shape_of d = record {
  width = d.width;
  height = d.height;
  sampling = d.settings.sampling;
  y_stride = d.y_stride;
  u_stride = d.u_stride;
  v_stride = d.v_stride;
}

-- RULES 2.1, 7.6: h rows of w bytes
abbrev pub y_of : FrameDescription → (len : ℕ) → LentBuffer
y_of d len = luma_lent (shape_of d) len

-- RULES 2.1, 7.6: ch rows of cw bytes
abbrev pub u_of : FrameDescription → (len : ℕ) → LentBuffer
u_of d len = chroma_lent (shape_of d) d.u_stride len

-- RULES 2.1, 7.6
abbrev pub v_of : FrameDescription → (len : ℕ) → LentBuffer
v_of d len = chroma_lent (shape_of d) d.v_stride len

-- RULES 7.9: 14, the frame reaches past its source
abbrev pub window_rules : FrameDescription → List Rule
window_rules d =
    let o = d.window in
    rule 14 (ltb o.source_width (o.left + d.width) || ltb o.source_height (o.top + d.height)) 0 0 ∷ []

-- RULES 7.3, 7.4, 7.9: 2, 3, 4, 14
abbrev pub opening_rules : FrameDescription → List Rule
opening_rules d =
    size_rules d.width d.height ++ large_rules d.window.source_width d.window.source_height
    ++ matrix_rules d.settings.matrix ++ window_rules d

-- RULES 7.5, 7.6, 7.7: 6 to 12, of so many source rows
abbrev pub lent_rules : FrameDescription → (rows stride : ℕ) → Lengths → List Rule
lent_rules d rows stride n = buffer_rules (source_of d rows stride n.source) (y_of d n.y) (u_of d n.u) (v_of d n.v)

-- RULES 7.2: how many of n rows a call takes: all where it finished its work, none where it was refused
abbrev pub taken : Result Unit YuvError → ℕ → ℕ
taken (Ok done) n = n
taken (Err e) n = 0
