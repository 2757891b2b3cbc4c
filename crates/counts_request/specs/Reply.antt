-- What the program `luma_counts` writes for an input: docs/RULES.md, 9.4.
-- Where an input has fewer bytes than are asked of it here, 0 stands for the others: it is refused, so no line turns on them.
-- Assumes nothing.
use Rattle.std.specs.Prelude.{ℕ, zero, suc, ◌+◌, ◌/◌, ◌%◌, Bool, cond, not, ◌||◌, List, [], ◌∷◌, ◌++◌, ltb, leb, eqb, length, get_or}
use Rattle.yuv_support.specs.declared.YuvRange.{YuvRange}
use Rattle.yuv_support.specs.declared.YuvRange.TheVariants.{Limited}
use Rattle.yuv_support.specs.declared.YuvStandardMatrix.{YuvStandardMatrix}
use Rattle.yuv_support.specs.declared.YuvStandardMatrix.TheVariants.{Bt601}
use Rattle.setting_codes.specs.Codes.{range_codes, matrix_codes}
use Rattle.colour_counts.specs.Counts.{count_of}
use Rattle.frame_request.specs.Reply.{refusal_line}

-- RULES 9.4: byte 0, by the codes of 1.2
abbrev pub range_of : List ℕ → YuvRange
range_of input = get_or range_codes (get_or input 0 0) Limited

-- RULES 9.4: byte 1, by the codes of 1.2 without Custom
abbrev pub matrix_of : List ℕ → YuvStandardMatrix
matrix_of input = get_or matrix_codes (get_or input 1 0) Bt601

-- RULES 9.4: not two bytes, or a code without a value
unfoldable pub malformed : List ℕ → Bool
malformed input =
    not (eqb (length input) 2)
    || (leb (length range_codes) (get_or input 0 0)
    || leb (length matrix_codes) (get_or input 1 0))

-- RULES 9.4: n in decimal digits, in ASCII, with no 0 in front of others; of more than `most` digits the last ones
unfoldable pub digits : (most n : ℕ) → List ℕ
digits zero n = []
digits (suc most) n = cond (ltb n 10) ((48 + n) ∷ []) (digits most (n / 10) ++ ((48 + n % 10) ∷ []))

-- RULES 9.4: a number in decimal: ten digits hold every u32, and eight every count
unfoldable pub decimal : ℕ → List ℕ
decimal n = digits 10 n

-- RULES 9.4: luma, one space, count, newline
unfoldable pub line : (y n : ℕ) → List ℕ
line y n = decimal y ++ (32 ∷ []) ++ decimal n ++ (10 ∷ [])

-- RULES 9.4: the lines of luma 0, 1, .., n - 1, with the counts f 0, f 1, .., f (n - 1)
unfoldable pub lines : (f : ℕ → ℕ) (n : ℕ) → List ℕ
lines f zero = []
lines f (suc n) = lines f n ++ line n (f n)

-- RULES 9.4: the bytes of standard output
unfoldable pub reply : List ℕ → List ℕ
reply input = cond (malformed input) (refusal_line 1) (lines (count_of (range_of input) (matrix_of input)) 256)
