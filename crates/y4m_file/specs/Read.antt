-- The file that bytes have, read: docs/RULES.md, 14.4. `Means` says that of a file's bytes it is that file.
-- Assumes nothing.
use Rattle.std.specs.Prelude.{ℕ, zero, suc, ◌+◌, ◌*◌, List, [], ◌∷◌, take, drop}
use Rattle.y4m_line.specs.Header.{tags_in}
use Rattle.y4m_file.specs.File.{Y4mPicture, Y4mFile, luma_bytes, chroma_bytes}
use Rattle.y4m_file.specs.Check.{picture_size, header_of, rest_of, width_in, height_in, sampling_in, pictures_in}

-- RULES 14.4: the picture at the front
unfoldable pub picture_at : (luma chroma : ℕ) → (bytes : List ℕ) → Y4mPicture
picture_at luma chroma bytes = record {
  tags = tags_in (header_of bytes);
  y = take luma (rest_of bytes);
  u = take chroma (drop luma (rest_of bytes));
  v = take chroma (drop (luma + chroma) (rest_of bytes));
}

-- RULES 14.4: so many pictures back to back
unfoldable pub pictures_from : (luma chroma count : ℕ) → (bytes : List ℕ) → List Y4mPicture
pictures_from luma chroma zero bytes = []
pictures_from luma chroma (suc count) bytes =
    picture_at luma chroma bytes ∷ pictures_from luma chroma count (drop (picture_size (luma + 2 * chroma) bytes) bytes)

-- RULES 14.4: the bytes of Y, and of U or V, that the header's line says
abbrev pub luma_in : (file : List ℕ) → ℕ
luma_in file = luma_bytes (width_in file) (height_in file)

abbrev pub chroma_in : (file : List ℕ) → ℕ
chroma_in file = chroma_bytes (sampling_in file) (width_in file) (height_in file)

-- RULES 14.4: the file of these bytes
unfoldable pub file_in : (file : List ℕ) → Y4mFile
file_in file = record {
  width = width_in file;
  height = height_in file;
  sampling = sampling_in file;
  tags = tags_in (header_of file);
  pictures = pictures_from (luma_in file) (chroma_in file) (pictures_in file) (rest_of file);
}
