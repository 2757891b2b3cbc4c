-- What the checks of an accepted call leave known of what was lent: sizes, by their lengths. This serves `requires` clauses: no meaning stands here.
-- Assumes nothing.
use Rattle.std.specs.Prelude.{ℕ, ◌+◌, ◌*◌, ◌≤◌, ◌≡◌, T}
use Rattle.yuv_support.specs.Matrix.{accepted}
use Rattle.definitions.specs.declared.FrameDescription.{FrameDescription}
use Rattle.definitions.specs.declared.Band.{Band}
use Rattle.yuv_error.specs.declared.LentBuffer.{LentBuffer}
use Rattle.yuv_error.specs.declared.PlaneShape.{PlaneShape}
use Rattle.yuv_error.specs.Shape.{luma_lent, chroma_lent}
use Rattle.definitions.specs.Image.{source_row_size, chroma_size, chroma_rows}

-- a frame's size, matrix and place in its source
-- a frame is a public struct that callers fill in, so its type cannot carry this; a checked type would be opened again at once, as `Band` of
-- `definitions` and the calls' own states hold the plain frame
pub record Sized (d : FrameDescription) : Type 0 where
  pub width_least : 1 ≤ d.width
  pub width_most : d.width ≤ 16384
  pub height_least : 1 ≤ d.height
  pub height_most : d.height ≤ 16384
  pub source_width_most : d.window.source_width ≤ 16384
  pub source_height_most : d.window.source_height ≤ 16384
  pub matrix : T (accepted d.settings.matrix)
  pub right : d.window.left + d.width ≤ d.window.source_width
  pub bottom : d.window.top + d.height ≤ d.window.source_height

-- a buffer's stride holds its row, and all its rows are whole
pub record WholeRows (b : LentBuffer) : Type 0 where
  pub wide : b.row ≤ b.stride
  pub exact : b.len ≡ b.stride * b.rows

-- planes of whole rows, by their lengths
pub record PlanesWhole (s : PlaneShape) (y u v : ℕ) : Type 0 where
  pub y_rows : WholeRows (luma_lent s y)
  pub u_rows : WholeRows (chroma_lent s s.u_stride u)
  pub v_rows : WholeRows (chroma_lent s s.v_stride v)

-- a band's rows, and its source
pub record Given (b : Band) (source : ℕ) : Type 0 where
  pub rows_least : 1 ≤ b.rows
  pub rows_most : b.done + b.rows ≤ b.frame.height
  pub source_row : source_row_size b.frame ≤ b.stride
  pub source_size : b.stride * b.rows ≤ source

-- plane strides, and planes of whole rows: a field for each fact that a frame's `PlanesWhole` holds, as the calls above read them
pub record PlanesLent (d : FrameDescription) (y u v : ℕ) : Type 0 where
  pub y_row : d.width ≤ d.y_stride
  pub y_size : y ≡ d.y_stride * d.height
  pub u_row : chroma_size d ≤ d.u_stride
  pub u_size : u ≡ d.u_stride * chroma_rows d
  pub v_row : chroma_size d ≤ d.v_stride
  pub v_size : v ≡ d.v_stride * chroma_rows d

-- all that is lent for a band's rows
pub record Lent (b : Band) (source y u v : ℕ) : Type 0 where
  pub sized : Sized b.frame
  pub given : Given b source
  pub planes : PlanesLent b.frame y u v
