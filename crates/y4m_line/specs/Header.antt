-- A line of a Y4M file, as its check computes it: docs/RULES.md, 14.1 and 14.2. A line stands here without its newline.
-- Assumes nothing.
use Rattle.std.specs.Prelude.{ℕ, Bool, cond, ◌&&◌, not, List, [], ◌∷◌, leb, ltb, eqb, length, get_or, take, drop}
use Rattle.yuv_support.specs.declared.YuvChromaSubsampling.{YuvChromaSubsampling}
use Rattle.yuv_support.specs.declared.YuvChromaSubsampling.TheVariants.{Yuv420, Yuv422}
use Rattle.y4m_line.specs.Words.{upto, words, filled, same}
use Rattle.y4m_line.specs.Line.{magic, tagged, digits, value, text420, text420jpeg, text420mpeg2, text422}

-- RULES 14.2: a decimal without leading zero, of at most 16,384
unfoldable pub is_size : (text : List ℕ) → Bool
is_size text = not (eqb (get_or text 0 48) 48) && (digits text && leb (value 0 text) 16384)

-- RULES 14.2: the side that a text says, or 0
unfoldable pub size : (text : List ℕ) → ℕ
size text = cond (is_size text) (value 0 text) 0

-- RULES 14.2: the side that the tags of a letter say; 0 where there is none, or more than one
abbrev pub one_size : (texts : List (List ℕ)) → ℕ
one_size [] = 0
one_size (text ∷ []) = size text
one_size (text ∷ other ∷ texts) = 0

-- RULES 14.2: 1 for 4:2:0, 2 for 4:2:2, 0 for another text
unfoldable pub code : (text : List ℕ) → ℕ
code text = cond (same text text420) 1 (cond (same text text420jpeg) 1 (cond (same text text420mpeg2) 1 (cond (same text text422) 2 0)))

-- RULES 14.2: the same of the tags of C: none means 4:2:0, and of more than one none is read
abbrev pub one_code : (texts : List (List ℕ)) → ℕ
one_code [] = 1
one_code (text ∷ []) = code text
one_code (text ∷ other ∷ texts) = 0

-- RULES 14.2: the sampling of a code
abbrev pub sampling_said : (code : ℕ) → YuvChromaSubsampling
sampling_said code = cond (eqb code 2) Yuv422 Yuv420

-- RULES 14.2: what W says
unfoldable pub width_of : (line : List ℕ) → ℕ
width_of line = one_size (tagged 87 (words line))

-- RULES 14.2: what H says
unfoldable pub height_of : (line : List ℕ) → ℕ
height_of line = one_size (tagged 72 (words line))

-- RULES 14.2: what C says
unfoldable pub sampling_of : (line : List ℕ) → ℕ
sampling_of line = one_code (tagged 67 (words line))

-- RULES 14.1: the tags of a line
abbrev pub tags_in : (line : List ℕ) → List (List ℕ)
tags_in line = drop 1 (words line)

-- RULES 14.1: the first word is this one, and no tag is empty
unfoldable pub is_line : (word line : List ℕ) → Bool
is_line word line = same (take (upto 32 line) line) word && filled (words line)

-- RULES 14.2: a line YUV4MPEG2 whose W, H and C say sides and a sampling
unfoldable pub is_header : (line : List ℕ) → Bool
is_header line = is_line magic line && (leb 1 (width_of line) && (leb 1 (height_of line) && leb 1 (sampling_of line)))

-- ---- the line at the front of bytes

-- how many bytes stand before the first newline of the first 256; all of them where there is none
abbrev pub line_bytes : (bytes : List ℕ) → ℕ
line_bytes bytes = upto 10 (take 256 bytes)

-- RULES 14.1: the place of its newline; 256 where the first 256 bytes have none
unfoldable pub line_end : (bytes : List ℕ) → ℕ
line_end bytes = cond (ltb (line_bytes bytes) (length (take 256 bytes))) (line_bytes bytes) 256
