-- What each code means: docs/RULES.md, 1.2.
-- Assumes nothing.
use Rattle.std.specs.Prelude.{◌≡◌, ℕ, ◌<◌, ◌≤◌, List, [], ◌∷◌, ◌++◌, length, get_or, codes, decimal, Result, MatchResult}
use Rattle.yuv_support.specs.declared.YuvSourceChannels.{YuvSourceChannels}
use Rattle.yuv_support.specs.declared.YuvSourceChannels.TheVariants.{Rgb, Rgba, Bgra, Bgr}
use Rattle.yuv_support.specs.declared.YuvChromaSubsampling.{YuvChromaSubsampling}
use Rattle.yuv_support.specs.declared.YuvChromaSubsampling.TheVariants.{Yuv420, Yuv422}
use Rattle.yuv_support.specs.declared.YuvRange.{YuvRange}
use Rattle.yuv_support.specs.declared.YuvRange.TheVariants.{Limited, Full}
use Rattle.yuv_support.specs.declared.YuvStandardMatrix.{YuvStandardMatrix}
use Rattle.yuv_support.specs.declared.YuvStandardMatrix.TheVariants.{Bt601, Bt709, Bt2020, Smpte240, Bt470_6, Fcc, Custom}
use Rattle.yuv_support.specs.declared.UnknownCode.{UnknownCode}

-- RULES 1.2: what reading a number gives: the value at its place among the codes, or the number itself where it is past them. `first` is never given
-- for such a number: it only completes `get_or`.
abbrev pub Decoded : {A : Type 0} → (codes : List A) → (first : A) → (code : ℕ) → Result A UnknownCode → Type 0
Decoded codes first code read =
    MatchResult read (λ x. (code < length codes) × (x ≡ get_or codes code first)) (λ e. (e.0 ≡ code) × (length codes ≤ code))

-- RULES 1.2: the value of each code, at its place
abbrev pub channels_codes : List YuvSourceChannels
channels_codes = Rgb ∷ Rgba ∷ Bgra ∷ Bgr ∷ []

-- RULES 1.2
abbrev pub sampling_codes : List YuvChromaSubsampling
sampling_codes = Yuv420 ∷ Yuv422 ∷ []

-- RULES 1.2
abbrev pub range_codes : List YuvRange
range_codes = Limited ∷ Full ∷ []

-- RULES 1.2: those with a code in the program too
abbrev pub matrix_codes : List YuvStandardMatrix
matrix_codes = Bt601 ∷ Bt709 ∷ Bt2020 ∷ Smpte240 ∷ Bt470_6 ∷ Fcc ∷ []

-- RULES 1.2: a Custom matrix has the code after those of the named ones, whatever its kr and kb
abbrev pub custom_code : ℕ
custom_code = length matrix_codes

-- ---- the other way round

-- RULES 1.2
abbrev pub channels_code : YuvSourceChannels → ℕ
channels_code Rgb = 0
channels_code Rgba = 1
channels_code Bgra = 2
channels_code Bgr = 3

-- RULES 1.2
abbrev pub sampling_code : YuvChromaSubsampling → ℕ
sampling_code Yuv420 = 0
sampling_code Yuv422 = 1

-- RULES 1.2
abbrev pub range_code : YuvRange → ℕ
range_code Limited = 0
range_code Full = 1

-- RULES 1.2
abbrev pub matrix_code : YuvStandardMatrix → ℕ
matrix_code Bt601 = 0
matrix_code Bt709 = 1
matrix_code Bt2020 = 2
matrix_code Smpte240 = 3
matrix_code Bt470_6 = 4
matrix_code Fcc = 5
matrix_code (Custom kr kb) = custom_code

-- what is shown of a number that is no code
abbrev pub unknown_text : ℕ → List ℕ
unknown_text code = codes "no setting has code " ++ decimal code
