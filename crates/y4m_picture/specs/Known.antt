-- What the check leaves known of a picture's planes. This serves the contracts between functions: no meaning stands here.
-- Assumes nothing.
use Rattle.std.specs.Prelude.{ℕ, ◌+◌, ◌*◌, ◌≤◌, ◌≡◌}
use Rattle.yuv_support.specs.Sampling.{chroma_width}
use Rattle.y4m_file.specs.Check.{plane_bytes}
use Rattle.y4m_writer.specs.Pictures.{sampling_of}
use Rattle.y4m_picture.specs.declared.PictureFrame.{PictureFrame}
use Rattle.y4m_picture.specs.Picture.{chroma_rows}

-- the line FRAME and the planes
abbrev pub picture_size : PictureFrame → ℕ
picture_size f = 6 + plane_bytes (sampling_of f.sampling) f.width f.height

-- sides of 1 to 16,384
-- one contract asks it, of a frame that callers fill in: no type carries it; shift_record has another fact of this name
pub record IsFrame (f : PictureFrame) : Type 0 where
  pub width_least : 1 ≤ f.width
  pub width_most : f.width ≤ 16384
  pub height_least : 1 ≤ f.height
  pub height_most : f.height ≤ 16384

-- planes of whole rows, by their lengths
pub record PlanesFit (f : PictureFrame) (y u v : ℕ) : Type 0 where
  pub frame : IsFrame f
  pub y_row : f.width ≤ f.y_stride
  pub y_size : y ≡ f.y_stride * f.height
  pub u_row : chroma_width f.width ≤ f.u_stride
  pub u_size : u ≡ f.u_stride * chroma_rows f
  pub v_row : chroma_width f.width ≤ f.v_stride
  pub v_size : v ≡ f.v_stride * chroma_rows f
