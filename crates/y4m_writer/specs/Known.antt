-- How the code puts line and pictures, and what is known of planes that are to be written. This serves the contracts between functions: no meaning
-- stands here.
-- Assumes nothing.
use Rattle.std.specs.Prelude.{ℕ, zero, suc, ◌≤◌, ◌/◌, ◌≡◌, List, [], ◌∷◌, ◌++◌, length, take, drop}
use Rattle.yuv_support.specs.declared.YuvChromaSubsampling.{YuvChromaSubsampling}
use Rattle.yuv_support.specs.Codes.{sampling_code}
use Rattle.y4m_line.specs.declared.HeaderLine.{HeaderLine}
use Rattle.y4m_line.specs.Line.{line_of, magic, frame}
use Rattle.y4m_file.specs.Check.{plane_bytes}
use Rattle.y4m_writer.specs.Text.{code_text, written_tags}
use Rattle.y4m_writer.specs.Pictures.{file_made}

-- what follows the sides in the header's line, with the newline
abbrev pub code_line : YuvChromaSubsampling → List ℕ
code_line sampling = 32 ∷ 70 ∷ 50 ∷ 53 ∷ 58 ∷ 49 ∷ 32 ∷ 73 ∷ 112 ∷ 32 ∷ 67 ∷ (code_text sampling ++ (10 ∷ []))

-- so many lines FRAME, each before the bytes of a picture's planes
unfoldable pub frames_of : (planes count : ℕ) → (bytes : List ℕ) → List ℕ
frames_of planes zero bytes = []
frames_of planes (suc count) bytes = line_of frame [] ++ (take planes bytes ++ frames_of planes count (drop planes bytes))

-- the pictures of a header, from planes back to back
abbrev pub frames_in : HeaderLine → (bytes : List ℕ) → List ℕ
frames_in l bytes = let n = plane_bytes l.sampling l.width l.height in frames_of n (length bytes / n) bytes

-- the line of a header
abbrev pub header_line : HeaderLine → List ℕ
header_line l = line_of magic (written_tags l.sampling l.width l.height)

-- the file of a header and planes back to back
abbrev pub file_in : HeaderLine → (bytes : List ℕ) → List ℕ
file_in l bytes = file_made (sampling_code l.sampling) l.width l.height bytes

-- so many pictures' planes, and no more
abbrev pub Exact : (planes count : ℕ) → (bytes : List ℕ) → Type 0
Exact planes zero bytes = length bytes ≡ 0
Exact planes (suc count) bytes = (planes ≤ length bytes) × Exact planes count (drop planes bytes)
