-- What frame calls have in common that are given the same colours: docs/RULES.md, 2.3.
-- Assumes nothing.
use Rattle.std.specs.Prelude.{ℕ, ◌*◌, ◌<◌, ◌≡◌, List, ◌++◌, length, take, drop, Ok}
use Rattle.yuv_error.specs.declared.Lengths.{Lengths}
use Rattle.yuv_error.specs.Rules.{first_numbers, size_rules, matrix_rules, buffer_rules}
use Rattle.yuv_error.specs.Lent.{y_of, u_of, v_of}
use Rattle.definitions.specs.declared.Window.{Window}
use Rattle.definitions.specs.declared.FrameDescription.{FrameDescription}
use Rattle.definitions.specs.Row.{pixels_of}
use Rattle.definitions.specs.Image.{whole_source, pixel_size, row_size, frame_image, chroma_size, chroma_rows}
use Rattle.definitions.specs.Plane.{RowsEqual}
use Rattle.sharp_rgba_to_yuv.specs.FrameCall.{FrameCall, frame_call, frame_rules, image_of, FramePost}

-- RULES 2.3: the sources of two calls agree on the colour bytes, the first three of each pixel, of the first call's w × h pixels
abbrev pub SameColourBytes : (k j : FrameCall) → Type 0
SameColourBytes k j = (r x i : ℕ) → r < k.frame.height → x < k.frame.width → i < 3 → image_of k r x i ≡ image_of j r x i

-- RULES 2.3: two calls are given the same but for their sources, which are equally long
pub record SameButSource (k j : FrameCall) : Type 0 where
  pub size : length j.source ≡ length k.source
  pub others : j ≡ frame_call k.frame k.stride j.source k.y k.u k.v j.answer j.y' j.u' j.v'

-- RULES 2.3: two calls that differ in alpha, padding and pixels outside the frame alone give the same answer and leave the same planes, byte for byte
abbrev pub AlphaAndPadding : Type 0
AlphaAndPadding =
    (k j : FrameCall) → FramePost k → FramePost j → SameButSource k j → SameColourBytes k j
    → (k.answer ≡ j.answer) × (k.y' ≡ j.y') × (k.u' ≡ j.u') × (k.v' ≡ j.v')

-- RULES 2.3: the same frame in another window, with other strides
abbrev pub elsewhere : FrameDescription → Window → (y u v : ℕ) → FrameDescription
elsewhere d window y u v =
    record { width = d.width; height = d.height; window = window; settings = d.settings; y_stride = y; u_stride = u; v_stride = v }

-- RULES 2.3: two frames of equal size and settings, so the other is this one with a window and strides of its own
abbrev pub SameElsewhere : (d e : FrameDescription) → Type 0
SameElsewhere d e = e ≡ elsewhere d e.window e.y_stride e.u_stride e.v_stride

-- RULES 2.3, 2.6: two accepted calls of equal size, settings and colour bytes leave equal rows, whatever their windows, strides and buffers; so a
-- window's planes are those of the rectangle copied out
abbrev pub WindowsAndBuffers : Type 0
WindowsAndBuffers =
    (k j : FrameCall) → FramePost k → FramePost j → k.answer ≡ Ok tt → j.answer ≡ Ok tt
    → SameElsewhere k.frame j.frame → SameColourBytes k j
    → let d : FrameDescription = k.frame in let e : FrameDescription = j.frame in
    RowsEqual d.height d.width d.y_stride e.y_stride k.y' j.y'
    × RowsEqual (chroma_rows d) (chroma_size d) d.u_stride e.u_stride k.u' j.u'
    × RowsEqual (chroma_rows d) (chroma_size d) d.v_stride e.v_stride k.v' j.v'

-- RULES 2.6: the conditions that a call without a window asks, and the image that it sees
pub record WithoutWindow (d : FrameDescription) (stride : ℕ) (source : List ℕ) (n : Lengths) : Type 0 where
  pub rules : first_numbers (frame_rules d stride n) ≡ first_numbers (size_rules d.width d.height ++ matrix_rules d.settings.matrix
      ++ buffer_rules (record { row = row_size d; rows = d.height; stride = stride; len = n.source }) (y_of d n.y) (u_of d n.u) (v_of d n.v))
  pub image : (r : ℕ) → frame_image d stride source r ≡ pixels_of (pixel_size d) (take (row_size d) (drop (r * stride) source))

-- RULES 2.6: with the whole source as window a call is the call without one
abbrev pub WholeIsOld : Type 0
WholeIsOld =
    (d : FrameDescription) (stride : ℕ) (source : List ℕ) (n : Lengths) → d.window ≡ whole_source d.width d.height → WithoutWindow d stride source n
