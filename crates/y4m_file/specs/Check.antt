-- Which bytes are a Y4M file, as it is computed: lines are looked at and planes are not. docs/RULES.md, 14.4. `Means` says that it is true exactly
-- where some file has these bytes.
-- Assumes nothing.
use Rattle.std.specs.Prelude.{ℕ, zero, suc, ◌+◌, ◌*◌, Bool, cond, ◌&&◌, List, leb, ltb, eqb, length, take, drop}
use Rattle.yuv_support.specs.declared.YuvChromaSubsampling.{YuvChromaSubsampling}
use Rattle.y4m_line.specs.Line.{frame}
use Rattle.y4m_line.specs.Header.{width_of, height_of, sampling_of, sampling_said, is_line, is_header, line_end}
use Rattle.y4m_file.specs.File.{luma_bytes, chroma_bytes}

-- ---- pictures, by the bytes of their planes

-- RULES 14.4: a line FRAME stands at the front, and so many bytes after it
unfoldable pub picture_stands : (planes : ℕ) → (bytes : List ℕ) → Bool
picture_stands planes bytes =
    ltb (line_end bytes) 256 && (is_line frame (take (line_end bytes) bytes) && leb (line_end bytes + 1 + planes) (length bytes))

-- RULES 14.4: the bytes of the picture at the front; 0 where none stands there whole
unfoldable pub picture_size : (planes : ℕ) → (bytes : List ℕ) → ℕ
picture_size planes bytes = cond (picture_stands planes bytes) (line_end bytes + 1 + planes) 0

-- RULES 14.4: these bytes are so many pictures
unfoldable pub pictures : (planes count : ℕ) → (bytes : List ℕ) → Bool
pictures planes zero bytes = eqb (length bytes) 0
pictures planes (suc count) bytes = ltb 0 (picture_size planes bytes) && pictures planes count (drop (picture_size planes bytes) bytes)

-- RULES 14.4: how many pictures stand at the front, one after the other; at most so many
unfoldable pub count_in : (planes most : ℕ) → (bytes : List ℕ) → ℕ
count_in planes zero bytes = 0
count_in planes (suc most) bytes =
    cond (ltb 0 (picture_size planes bytes)) (suc (count_in planes most (drop (picture_size planes bytes) bytes))) 0

-- RULES 14.4: how many pictures bytes have: no more than bytes
abbrev pub count_of : (planes : ℕ) → (bytes : List ℕ) → ℕ
count_of planes bytes = count_in planes (length bytes) bytes

-- ---- a file

-- RULES 14.4: the header's line, without its newline, and what follows it
abbrev pub header_of : (file : List ℕ) → List ℕ
header_of file = take (line_end file) file

abbrev pub rest_of : (file : List ℕ) → List ℕ
rest_of file = drop (line_end file + 1) file

-- RULES 14.4: what the header's line says
abbrev pub width_in : (file : List ℕ) → ℕ
width_in file = width_of (header_of file)

abbrev pub height_in : (file : List ℕ) → ℕ
height_in file = height_of (header_of file)

abbrev pub sampling_in : (file : List ℕ) → YuvChromaSubsampling
sampling_in file = sampling_said (sampling_of (header_of file))

-- RULES 14.3: the bytes of a picture's planes
unfoldable pub plane_bytes : YuvChromaSubsampling → (w h : ℕ) → ℕ
plane_bytes sampling w h = luma_bytes w h + 2 * chroma_bytes sampling w h

-- RULES 14.4: the same of the shape that the header's line says
abbrev pub planes_in : (file : List ℕ) → ℕ
planes_in file = plane_bytes (sampling_in file) (width_in file) (height_in file)

-- RULES 14.4: how many pictures follow the header's line
unfoldable pub pictures_in : (file : List ℕ) → ℕ
pictures_in file = count_of (planes_in file) (rest_of file)

-- RULES 14.4: these bytes are a file
unfoldable pub is_y4m : (file : List ℕ) → Bool
is_y4m file = ltb (line_end file) 256 && (is_header (header_of file) && pictures (planes_in file) (pictures_in file) (rest_of file))
