-- A picture made of planes: what its check leaves known, its size, and its bytes as they are put. Assumes nothing.
use Prim.Native.Nat.{ℕ, ◌+◌}
use mathlib.Core.Path.{◌≡◌, sym}
use mathlib.Core.Bool.{true}
use mathlib.Core.List.{List, []}
use native.Mathlib.Omega.{arith}
use lib.ListN.{length}
use lib.Seq.{sets}
use Rattle.std.proofs.lemmas.Bool.{and_parts}
use Rattle.yuv_error.specs.Known.{PlanesWhole}
use Rattle.little_endian.proofs.Stores.{sets-append}
use Rattle.shift_record.specs.Record.{unpadded_planes}
use Rattle.shift_record.proofs.Unpadded.{length-planes}
use Rattle.y4m_line.specs.Line.{line_of, text_of, tag_bytes, frame}
use Rattle.y4m_file.specs.File.{picture_bytes}
use Rattle.y4m_file.specs.Check.{plane_bytes}
use Rattle.y4m_writer.specs.Pictures.{sampling_of, is_shape}
use Rattle.y4m_writer.proofs.Back.{shape}
use Rattle.y4m_picture.specs.declared.PictureFrame.{PictureFrame}
use Rattle.y4m_picture.specs.declared.planes.PicturePlanes.{PicturePlanes}
use Rattle.y4m_picture.specs.Picture.{picture_shape, picture_made, picture_allowed}
use Rattle.y4m_picture.specs.Means.{planes_made}
use Rattle.y4m_picture.specs.Known.{picture_size, IsFrame, PlanesFit}
use Rattle.y4m_picture.proofs.Checked.{allowed_whole}

-- ---- what the check leaves known

pub is_frame : (f : PictureFrame) → is_shape f.sampling f.width f.height ≡ true → IsFrame f
is_frame f e =
    let s = shape _ _ _ e in
    record { width_least = s.wide.0; width_most = s.wide.1; height_least = s.high.0; height_most = s.high.1 }

pub planes_Fit : (f : PictureFrame) (y u v : ℕ) → picture_allowed f y u v ≡ true → PlanesFit f y u v
unfolding picture_allowed
planes_Fit f y u v e =
    let s = and_parts (is_shape f.sampling f.width f.height) _ e in
    let p = allowed_whole f y u v s.1 in
    record {
      frame = is_frame f s.0;
      y_row = p.y_rows.wide;
      y_size = p.y_rows.exact;
      u_row = p.u_rows.wide;
      u_size = p.u_rows.exact;
      v_row = p.v_rows.wide;
      v_size = p.v_rows.exact;
    }

-- ---- the picture

module _ (f : PictureFrame) (y u v : List ℕ) where
  whole : PlanesFit f (length y) (length u) (length v) → PlanesWhole (picture_shape f) (length y) (length u) (length v)
  whole p = record {
    y_rows = record { wide = p.y_row; exact = p.y_size };
    u_rows = record { wide = p.u_row; exact = p.u_size };
    v_rows = record { wide = p.v_row; exact = p.v_size };
  }

  pub length_planes : PlanesFit f (length y) (length u) (length v) → length (planes_made f y u v) ≡ plane_bytes (sampling_of f.sampling) f.width f.height
  unfolding plane_bytes unpadded_planes
  length_planes p = length-planes (picture_shape f) y u v (whole p)

  pub length_made : PlanesFit f (length y) (length u) (length v) → length (picture_bytes (picture_made f y u v)) ≡ picture_size f
  unfolding picture_bytes line_of text_of tag_bytes
  length_made p = omega (arith, length_planes p)

  pub length_parts : length (picture_bytes (picture_made f y u v)) ≡ 6 + length (unpadded_planes (picture_shape f) y u v)
  unfolding picture_bytes line_of text_of tag_bytes unpadded_planes
  length_parts = omega arith

  -- line and planes put one after the other
  pub picture_put : (d : List ℕ) → sets (sets d 0 (line_of frame [])) 6 (unpadded_planes (picture_shape f) y u v) ≡ sets d 0 (picture_bytes (picture_made f y u v))
  unfolding picture_bytes line_of text_of tag_bytes unpadded_planes
  picture_put d = sym (sets-append (line_of frame []) (planes_made f y u v) d 0)

-- ---- planes that were checked, as a value

module _ (p : PicturePlanes) where
  pub planes_fit : PlanesFit p.frame (length p.y.now) (length p.u.now) (length p.v.now)
  planes_fit = planes_Fit p.frame (length p.y.now) (length p.u.now) (length p.v.now) p.allowed

  pub planes_frame : IsFrame p.frame
  planes_frame = planes_fit.frame

  pub planes_length : length (picture_bytes (picture_made p.frame p.y.now p.u.now p.v.now)) ≡ picture_size p.frame
  planes_length = length_made p.frame p.y.now p.u.now p.v.now planes_fit

  pub planes_whole : PlanesWhole (picture_shape p.frame) (length p.y.now) (length p.u.now) (length p.v.now)
  planes_whole = whole p.frame p.y.now p.u.now p.v.now planes_fit
