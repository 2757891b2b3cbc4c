-- The header's line that is written: docs/RULES.md, 14.6.
-- Assumes nothing.
use Rattle.std.specs.Prelude.{ℕ, zero, suc, ◌+◌, ◌/◌, ◌%◌, cond, List, [], ◌∷◌, ◌++◌, ltb}
use Rattle.yuv_support.specs.declared.YuvChromaSubsampling.{YuvChromaSubsampling}
use Rattle.yuv_support.specs.declared.YuvChromaSubsampling.TheVariants.{Yuv420, Yuv422}
use Rattle.y4m_line.specs.Line.{text420jpeg, text422}

-- RULES 14.6: the decimal of a value, at most so many digits
unfoldable pub decimal : (digits value : ℕ) → List ℕ
decimal zero value = []
decimal (suc digits) value = cond (ltb value 10) ((48 + value) ∷ []) (decimal digits (value / 10) ++ ((48 + value % 10) ∷ []))

-- RULES 14.6: 420jpeg or 422
abbrev pub code_text : YuvChromaSubsampling → List ℕ
code_text Yuv420 = text420jpeg
code_text Yuv422 = text422

-- RULES 14.6: W and H with the sides, F25:1, Ip, C with the sampling
abbrev pub written_tags : YuvChromaSubsampling → (w h : ℕ) → List (List ℕ)
written_tags sampling w h =
    (87 ∷ decimal 5 w) ∷ (72 ∷ decimal 5 h) ∷ (70 ∷ 50 ∷ 53 ∷ 58 ∷ 49 ∷ []) ∷ (73 ∷ 112 ∷ []) ∷ (67 ∷ code_text sampling) ∷ []
