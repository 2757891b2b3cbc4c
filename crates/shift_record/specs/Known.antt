-- What the checks leave known of a frame and its planes. This serves the contracts between functions: no meaning stands here.
-- Assumes nothing.
use Rattle.std.specs.Prelude.{ℕ, ◌*◌, ◌≤◌, ◌≡◌, true}
use Rattle.yuv_support.specs.Sampling.{chroma_width}
use Rattle.shift_file.specs.File.{codes_allowed}
use Rattle.shift_record.specs.declared.RecordFrame.{RecordFrame}
use Rattle.shift_record.specs.Record.{record_form, settings_of, chroma_rows}

-- sides of 1 to 16,384, and codes that are allowed
-- a part of `PlanesFit`, which a type carries; alone no contract asks it; y4m_picture has another fact of this name
pub record IsFrame (f : RecordFrame) : Type 0 where
  pub width_least : 1 ≤ f.width
  pub width_most : f.width ≤ 16384
  pub height_least : 1 ≤ f.height
  pub height_most : f.height ≤ 16384
  pub codes : codes_allowed (record_form f) (settings_of f) ≡ true

-- planes of whole rows, by their lengths
pub record PlanesFit (f : RecordFrame) (y u v : ℕ) : Type 0 where
  pub frame : IsFrame f
  pub y_row : f.width ≤ f.y_stride
  pub y_size : y ≡ f.y_stride * f.height
  pub u_row : chroma_width f.width ≤ f.u_stride
  pub u_size : u ≡ f.u_stride * chroma_rows f
  pub v_row : chroma_width f.width ≤ f.v_stride
  pub v_size : v ≡ f.v_stride * chroma_rows f
