-- What is to be written, planes back to back, and the file that is made of it: docs/RULES.md, 14.6.
-- Assumes nothing.
use Rattle.std.specs.Prelude.{ℕ, zero, suc, ◌+◌, ◌*◌, ◌/◌, ◌%◌, Bool, ◌&&◌, List, [], ◌∷◌, ◌++◌, ltb, eqb, length, get_or, take, drop}
use Rattle.yuv_support.specs.declared.YuvChromaSubsampling.{YuvChromaSubsampling}
use Rattle.yuv_support.specs.declared.YuvChromaSubsampling.TheVariants.{Yuv420}
use Rattle.setting_codes.specs.Codes.{sampling_codes}
use Rattle.shift_file.specs.File.{is_side}
use Rattle.y4m_file.specs.File.{Y4mPicture, Y4mFile, file_bytes, luma_bytes, chroma_bytes}
use Rattle.y4m_file.specs.Check.{plane_bytes}
use Rattle.y4m_writer.specs.Text.{written_tags}

-- RULES 1.2: the sampling of a code
abbrev pub sampling_of : (code : ℕ) → YuvChromaSubsampling
sampling_of code = get_or sampling_codes code Yuv420

-- RULES 14.6: the code and the sides are allowed
unfoldable pub is_shape : (code w h : ℕ) → Bool
is_shape code w h = ltb code 2 && (is_side w && is_side h)

-- RULES 14.6: and so many bytes are whole pictures
unfoldable pub can_write : (code w h size : ℕ) → Bool
can_write code w h size = is_shape code w h && eqb (size % plane_bytes (sampling_of code) w h) 0

-- RULES 14.6: the picture at the front, without tags
unfoldable pub picture_from : (luma chroma : ℕ) → (bytes : List ℕ) → Y4mPicture
picture_from luma chroma bytes = record {
  tags = [];
  y = take luma bytes;
  u = take chroma (drop luma bytes);
  v = take chroma (drop (luma + chroma) bytes);
}

-- RULES 14.6: so many pictures
unfoldable pub pictures_of : (luma chroma count : ℕ) → (bytes : List ℕ) → List Y4mPicture
pictures_of luma chroma zero bytes = []
pictures_of luma chroma (suc count) bytes = picture_from luma chroma bytes ∷ pictures_of luma chroma count (drop (luma + 2 * chroma) bytes)

-- RULES 14.6: the file of these planes
unfoldable pub file_from : (code w h : ℕ) → (planes : List ℕ) → Y4mFile
file_from code w h planes = record {
  width = w;
  height = h;
  sampling = sampling_of code;
  tags = written_tags (sampling_of code) w h;
  pictures = pictures_of (luma_bytes w h) (chroma_bytes (sampling_of code) w h) (length planes / plane_bytes (sampling_of code) w h) planes;
}

-- RULES 14.6: its bytes
unfoldable pub file_made : (code w h : ℕ) → (planes : List ℕ) → List ℕ
file_made code w h planes = file_bytes (file_from code w h planes)

-- RULES 14.6: the planes of pictures, back to back
unfoldable pub planes_of : List Y4mPicture → List ℕ
planes_of [] = []
planes_of (p ∷ ps) = (p.y ++ (p.u ++ p.v)) ++ planes_of ps
