-- A picture from planes with strides: docs/RULES.md, 14.7.
-- Assumes nothing.
use Rattle.std.specs.Prelude.{ℕ, ◌*◌, ◌≡◌, Bool, not, ◌&&◌, List, [], ◌∷◌, leb, eqb, length, Result}
use Rattle.yuv_support.specs.Sampling.{chroma_width, chroma_height}
use Rattle.yuv_error.specs.declared.PlaneShape.{PlaneShape}
use Rattle.yuv_error.specs.Numbers.{numbers_of}
use Rattle.yuv_error.specs.Rules.{Rule, rule, first_numbers}
use Rattle.shift_writer.specs.Output.{outcome_of, size_of, overwritten, size_told, output_rules}
use Rattle.shift_record.specs.Record.{unpadded}
use Rattle.y4m_file.specs.File.{Y4mPicture, picture_bytes}
use Rattle.shift_writer.specs.declared.NotWritten.{NotWritten}
use Rattle.y4m_writer.specs.Pictures.{sampling_of, is_shape}
use Rattle.y4m_picture.specs.declared.PictureFrame.{PictureFrame}

-- RULES 14.7: the shape of its planes
abbrev pub picture_shape : PictureFrame → PlaneShape
picture_shape f = record {
  width = f.width;
  height = f.height;
  sampling = sampling_of f.sampling;
  y_stride = f.y_stride;
  u_stride = f.u_stride;
  v_stride = f.v_stride;
}

-- RULES 14.7: ch
abbrev pub chroma_rows : PictureFrame → ℕ
chroma_rows f = chroma_height (sampling_of f.sampling) f.height

-- RULES 14.7: the picture of these planes, without their padding and without tags
abbrev pub picture_made : PictureFrame → (y u v : List ℕ) → Y4mPicture
picture_made f y u v = record {
  tags = [];
  y = unpadded f.width f.y_stride f.height y;
  u = unpadded (chroma_width f.width) f.u_stride (chroma_rows f) u;
  v = unpadded (chroma_width f.width) f.v_stride (chroma_rows f) v;
}

-- ---- the conditions

-- RULES 14.7: a stride not shorter than the row, and stride × rows bytes
abbrev pub is_plane : (row rows stride len : ℕ) → Bool
is_plane row rows stride len = leb row stride && eqb len (stride * rows)

-- RULES 14.7: of each plane, by their lengths
unfoldable pub planes_allowed : PictureFrame → (y u v : ℕ) → Bool
planes_allowed f y u v =
    is_plane f.width f.height f.y_stride y
    && (is_plane (chroma_width f.width) (chroma_rows f) f.u_stride u
    && is_plane (chroma_width f.width) (chroma_rows f) f.v_stride v)

-- RULES 14.7: the code and the sides are allowed, and so are the planes
unfoldable pub picture_allowed : PictureFrame → (y u v : ℕ) → Bool
picture_allowed f y u v = is_shape f.sampling f.width f.height && planes_allowed f y u v

-- RULES 14.7: 19, then 16
abbrev pub picture_rules : PictureFrame → (y u v : List ℕ) → (room : ℕ) → List Rule
picture_rules f y u v room =
    rule 19 (not (picture_allowed f (length y) (length u) (length v))) 0 0 ∷ output_rules (length (picture_bytes (picture_made f y u v))) room

-- RULES 14.7: everything of a call: its answer, the picture's size, and each byte lent to it
pub record PicturePost (f : PictureFrame) (y u v before : List ℕ) (r : Result ℕ NotWritten) (after : List ℕ) : Type 0 where
  pub answered : numbers_of (outcome_of r) ≡ first_numbers (picture_rules f y u v (length before))
  pub size : size_of r ≡ size_told (outcome_of r) (length (picture_bytes (picture_made f y u v)))
  pub written : after ≡ overwritten (outcome_of r) (picture_bytes (picture_made f y u v)) before
